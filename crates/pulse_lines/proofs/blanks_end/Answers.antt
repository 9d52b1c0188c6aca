use Rattle.std.proofs.Common.{sym}
use Rattle.pulse_lines.specs.PulseLines.{is_blank}
use Rattle.pulse_lines.proofs.Runs.{run_ends}
use Rattle.pulse_lines.proofs.blanks_end.Goals as goal

pub returns : goal.returns
returns c = let within = c.run_end.ensures.within in (run_ends is_blank _ _ _ within.0 within.1 (λ k a b. sym (c.run_end.ensures.passed k a b)) (λ a. sym (c.run_end.ensures.stopped a)), within.0, within.1)
