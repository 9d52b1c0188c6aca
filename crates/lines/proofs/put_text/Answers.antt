-- `put_text` meets its contract: the text stands in the part from the place on.
use Rattle.lines.specs.Filling.{text-put}
use Rattle.lines.proofs.put_text.Goals as goal
use mathlib.Core.Path.{refl}

pub returns : goal.returns
returns c = let t = text-put c.args.line.now c.copy_from_slice.new.self c.args.text.now c.args.at c.requires c.copy_from_slice.ensures.after in (refl, t.0, t.1)
