-- `frame_symbols` meets its contract: the words one after another.
use mathlib.Core.Path.{refl}
use Rattle.register.specs.Receiving.{frame-symbols-are}
use Rattle.register.proofs.frame_symbols.Goals as goal

pub returns : goal.returns
returns c = frame-symbols-are c.args.register c.args.n c.requires _ _ _ _ _ refl c.put_symbols.ensures c.put_symbols-2.ensures c.put_symbols-3.ensures c.put_symbols-4.ensures
