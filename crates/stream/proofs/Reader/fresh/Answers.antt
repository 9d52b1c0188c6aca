-- `fresh` meets its contract.
use mathlib.Core.Path.{◌≡◌, sym, ◌∙◌}
use Rattle.timecode.specs.Frames.{no_time}
use Rattle.stream.specs.Feeding.{made_of}
use Rattle.stream.proofs.Reader.fresh.Goals as goal

pub returns-then-not-is_known : goal.returns-then-not-is_known
unfolding made_of
returns-then-not-is_known c = rw (sym c.is_known.ensures ∙ c.if-not-is_known.true)

pub returns-then-not-is_setting : goal.returns-then-not-is_setting
unfolding made_of
returns-then-not-is_setting c = rw (sym c.is_known.ensures ∙ c.if-not-is_known.false, sym c.is_setting.ensures ∙ c.if-not-is_setting.true)

pub returns : goal.returns
unfolding made_of
returns c =
    let none : c.default.result ≡ no_time = λ i. record { year = c.default.ensures.0 i; day = c.default.ensures.1.0 i; hundredths = c.default.ensures.1.1 i } in
    rw (sym c.is_known.ensures ∙ c.if-not-is_known.false, sym c.is_setting.ensures ∙ c.if-not-is_setting.false, none)
