-- `put_next` meets its contract.
use native.Mathlib.Omega.{arith}
use mathlib.Core.Path.{sym}
use mathlib.Core.List.{append-nil}
use Rattle.generator.proofs.Lines.{taken_is, line-put, line-none, part_length}
use Rattle.generator.proofs.put_next.Goals as goal

pub returns-in-Ok : goal.returns-in-Ok
returns-in-Ok c =
    let line = c.in-Ok.ensures.2 in
    (omega (arith, c.put_text.ensures.0, line.0, c.requires, part_length _ c.frame_line.new.line line.0 c.in-Ok.ensures.1), rw (← line-put _ _ _ (taken_is _ _ _ _ c.in-Ok.ensures.0), ← line.1) c.put_text.ensures.2)

pub returns-in-Err : goal.returns-in-Err
returns-in-Err c = (omega (arith, c.requires), rw (← line-none _ _ _ _ (taken_is _ _ _ _ c.in-Err.ensures.0)) (sym (append-nil _)))
