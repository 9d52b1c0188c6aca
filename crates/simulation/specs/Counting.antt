-- What is counted in a list of answers: the first report, the reports, the false ones; and that a list which reports a part of what another reports counts no more.
use Rattle.std.specs.Prelude.{◌≡◌, List, ℕ, get_or}
use Rattle.timecode.specs.declared.Answer.{Answer}
use Rattle.timecode.specs.declared.Answer.TheVariants.{Quiet, Report}
use Rattle.timecode.specs.declared.Time.{Time}

-- ---- a frame that ends there

abbrev pub PartOf : List Answer → List Answer → Type 0
PartOf xs ys = (i : ℕ) (t : Time) (w : ℕ) → get_or xs i Quiet ≡ Report t w → get_or ys i Quiet ≡ Report t w
