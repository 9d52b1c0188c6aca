-- Document 01's third call of the classifier, with document 02's settings: one pulse classified and fed, numbers 10, 16, then those of Feed; the deviation goes up beside the answer.
use Rattle.std.specs.Prelude.{◌≡◌, true, ℕ, ℤ, pos}
use Rattle.std.proofs.Common.{ap}
use Rattle.timecode.specs.Calls.{is_interval, are_width_settings, pulse_of, classify_of}
use Rattle.timecode.proofs.Laws.Tests.{by-test}
use Rattle.timecode.specs.declared.Answer.{Answer}
use Rattle.timecode.specs.declared.Refusal.{Refusal}
use Rattle.timecode.specs.declared.WidthSettings.{WidthSettings}
use Rattle.stream.proofs.FeedLists.{refused-feed-same-reader}
use Rattle.stream.specs.Feeding.{feed_of}
use Rattle.stream.specs.declared.Fed.{Fed}
use Rattle.stream.specs.declared.Reader.{Reader}
use Rattle.pulse_feed.specs.declared.PulseFed.{PulseFed}
use Rattle.pulse_feed.specs.PulseFeeds.{deviation_beside, handed_up, feed_pulse_of, fed_by}

pub fed_by_lem : (r : Reader) (s : WidthSettings) (T width period : ℕ) → fed_by r (classify_of s T width period) ≡ feed_pulse_of r s T width period
unfolding feed_pulse_of classify_of
fed_by_lem r s T width period = by-test (is_interval T) (λ y. rw y (by-test (are_width_settings s) (λ z. rw z) (λ n. rw n))) (λ n. rw n)

pub up : (fed : Fed) (d z : ℤ) → z ≡ deviation_beside fed.answer d → ◌≡◌ {A = PulseFed} (record { reader = fed.reader; answer = fed.answer; deviation = z }) (handed_up fed d)
up fed d z e = ap (λ (x : ℤ). record { reader = fed.reader; answer = fed.answer; deviation = x }) e

-- A pulse whose interval and settings are in range is the Feed of its symbol, with its deviation. Number 4 cannot occur: Laws.Widths.pulse-symbol-small.
pub pulse-is-fed : (r : Reader) (s : WidthSettings) (T width period : ℕ) → is_interval T ≡ true → are_width_settings s ≡ true → feed_pulse_of r s T width period ≡ handed_up (feed_of r (pulse_of s T width period).symbol) (pulse_of s T width period).deviation
unfolding feed_pulse_of
pulse-is-fed r s T width period h g = rw (h, g)

-- Demand 1: a refused pulse hands back the same reader, whatever it refuses with.
pub refused-pulse-same-reader : (r : Reader) (s : WidthSettings) (T width period : ℕ) (x : Refusal) → (feed_pulse_of r s T width period).answer ≡ Answer.Refused x → (feed_pulse_of r s T width period).reader ≡ r
unfolding feed_pulse_of
refused-pulse-same-reader r s T width period x h =
    by-test (is_interval T)
    (λ y.
    by-test (are_width_settings s)
    (λ z. rw (y, z) (refused-feed-same-reader r (pulse_of s T width period).symbol x (rw (y, z) at h)))
    (λ n. rw (y, n)))
    (λ n. rw n)

-- Beside a refusal there is no deviation.
beside-refused : (a : Answer) (d : ℤ) (x : Refusal) → a ≡ Answer.Refused x → deviation_beside a d ≡ pos 0
beside-refused a d x h = ap (λ (b : Answer). deviation_beside b d) h

pub refused-pulse-no-deviation : (r : Reader) (s : WidthSettings) (T width period : ℕ) (x : Refusal) → (feed_pulse_of r s T width period).answer ≡ Answer.Refused x → (feed_pulse_of r s T width period).deviation ≡ pos 0
unfolding feed_pulse_of
refused-pulse-no-deviation r s T width period x h =
    by-test (is_interval T)
    (λ y.
    by-test (are_width_settings s)
    (λ z. rw (y, z) (beside-refused (feed_of r (pulse_of s T width period).symbol).answer (pulse_of s T width period).deviation x (rw (y, z) at h)))
    (λ n. rw (y, n)))
    (λ n. rw n)
