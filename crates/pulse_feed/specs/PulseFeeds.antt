-- Document 01's third call of the classifier, with document 02's settings: one pulse classified and fed, numbers 10, 16, then those of Feed; the deviation goes up beside the answer.
use Rattle.timecode.specs.declared.Pulse.{Pulse}
use Rattle.std.specs.Prelude.{ℕ, ℤ, pos, Result, Ok, Err}
use Rattle.timecode.specs.Answers.{check}
use Rattle.timecode.specs.Calls.{is_interval, are_width_settings, pulse_of}
use Rattle.timecode.specs.declared.Answer.{Answer}
use Rattle.timecode.specs.declared.Answer.TheVariants.{Quiet, Report}
use Rattle.timecode.specs.declared.Refusal.TheVariants.{InvalidInterval, InvalidWidthSetting}
use Rattle.timecode.specs.declared.Refusal.{Refusal}
use Rattle.timecode.specs.declared.WidthSettings.{WidthSettings}
use Rattle.stream.specs.Feeding.{feed_of}
use Rattle.stream.specs.declared.Fed.{Fed}
use Rattle.stream.specs.declared.Reader.{Reader}
use Rattle.pulse_feed.specs.declared.PulseFed.{PulseFed}

-- a refusal that hands back the same reader, feeds nothing and has no deviation
abbrev pub refused_pulse : Reader → Refusal → PulseFed
refused_pulse r x = record { reader = r; answer = Answer.Refused x; deviation = pos 0 }

-- the deviation beside an answer: that of the pulse, or beside a refusal 0
abbrev pub deviation_beside : Answer → ℤ → ℤ
deviation_beside Quiet d = d
deviation_beside (Report t w) d = d
deviation_beside (Answer.Refused x) d = pos 0

abbrev pub handed_up : Fed → ℤ → PulseFed
handed_up fed d = record { reader = fed.reader; answer = fed.answer; deviation = deviation_beside fed.answer d }

unfoldable pub feed_pulse_of : Reader → WidthSettings → ℕ → ℕ → ℕ → PulseFed
feed_pulse_of r s T width period =
    check (refused_pulse r) InvalidInterval (is_interval T)  -- 10
    (check (refused_pulse r) InvalidWidthSetting (are_width_settings s)  -- 16
    (handed_up (feed_of r (pulse_of s T width period).symbol) (pulse_of s T width period).deviation))

-- the answer by the classifier's
abbrev pub fed_by : Reader → Result Pulse Refusal → PulseFed
fed_by r (Ok pulse) = handed_up (feed_of r pulse.symbol) pulse.deviation
fed_by r (Err x) = refused_pulse r x
