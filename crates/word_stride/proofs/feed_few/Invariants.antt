use mathlib.Core.Path.{◌≡◌}
use Prim.Native.Nat.{◌-◌}
use lib.ListN.{get_or}
use Rattle.word_feed.specs.InPlace.{format_in, register_in}
use Rattle.word_stride.specs.FewSymbols.{Received}
use Rattle.word_stride.proofs.feed_few.Given as goal

abbrev pub invariant-loop-i : goal.invariant-loop-i
invariant-loop-i l = (l.reader ≡ l.initial.reader) × Received (format_in (get_or l.initial.reader 0 0) (get_or l.initial.reader 1 0)) l.n (register_in l.initial.reader) l.symbols l.from l.end l.i l.newest l.count l.begun
