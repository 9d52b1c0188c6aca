use Rattle.std.proofs.Common.{◌≤◌}
use Rattle.scan.specs.Spoiled.{NoneSpoiled}
use Rattle.scan.proofs.none_spoiled.Given as goal

abbrev pub invariant-loop-element : goal.invariant-loop-element
invariant-loop-element l = NoneSpoiled l.part → l.most ≤ 2
