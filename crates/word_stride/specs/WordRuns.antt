-- A run in a reader's words: the words after it are those of the reader after its symbols, and each of them brings nothing.
use Rattle.std.specs.Prelude.{◌≡◌, refl, ℕ, ◌+◌, ◌-◌, ◌%◌, ◌<◌, ◌≤◌, get_or, length}
use Rattle.std.proofs.Math.Path.{sym, ap, subst}
use Rattle.std.proofs.Common.{◌∙◌, arith}
use mathlib.Core.List.{List}
use Rattle.timecode.specs.Formats.{size}
use Rattle.timecode.proofs.Laws.Table.{size-range}
use Rattle.timecode.specs.declared.Answer.{Answer}
use Rattle.timecode.specs.declared.Answer.TheVariants.{Quiet}
use Rattle.register.specs.declared.Register.{Register}
use Rattle.receive_many.specs.ManySymbols.{slice, receive_all, AllSymbols, NotWholeBefore, SymbolsBelow, length-slice, slice_at, slice-none}
use Rattle.stream.specs.Feeding.{with_register}
use Rattle.stream.specs.Refinement.{answers, reader_after}
use Rattle.stream.specs.declared.Reader.{Reader}
use Rattle.stride.specs.ReadyReaders.{ready_with}
use Rattle.stride.specs.Strides.{Runs, run-reader, run-quiet}
use Rattle.reader_words.specs.WordLaws.{Fits}
use Rattle.reader_words.proofs.WordLaws.{words_back, words-fit}
use Rattle.reader_words.specs.Words.{words_for, reader_in, register_into}
use Rattle.word_feed.specs.InPlace.{format_in, register_in, Ready, same-words, ready-valid, ready-setting, ready-format, words-ready}

pub record RunsIn (words : List ℕ) (n : ℕ) (ss : List ℕ) (from to : ℕ) (left : List ℕ) (stop : ℕ) : Type 0 where
  pub start : from ≤ stop
  pub within : stop ≤ to
  pub reader_is : reader_in left ≡ reader_after (reader_in words) (slice ss from stop)
  pub quiet : (none : Answer) (k : ℕ) → k < stop - from → get_or (answers (reader_in words) (slice ss from stop)) k none ≡ Quiet
  pub ready : Ready left n
  pub long : length left ≡ 14

pub ready-two : (words : List ℕ) (n : ℕ) → Ready words n → 2 ≤ n
ready-two words n at = omega (arith, at.size_is, size-range (format_in (get_or words 0 0) (get_or words 1 0)))

-- nothing is left to run
pub runs_none : (words : List ℕ) (n : ℕ) (ss : List ℕ) (from : ℕ) → Ready words n → length words ≡ 14 → RunsIn words n ss from from words from
unfolding reader_after
runs_none words n ss from at long =
    record {
      start = omega arith;
      within = omega arith;
      reader_is = rw (slice-none ss from) refl;
      quiet = λ none k b. let z : ⊥ = omega arith in absurd z;
      ready = at;
      long = long;
    }

-- up to a further end
pub runs-until : {words : List ℕ} {n : ℕ} {ss : List ℕ} {from to further : ℕ} {left : List ℕ} {stop : ℕ} → to ≤ further → RunsIn words n ss from to left stop → RunsIn words n ss from further left stop
runs-until b run =
    record {
      start = run.start;
      within = omega (arith, b, run.within);
      reader_is = run.reader_is;
      quiet = run.quiet;
      ready = run.ready;
      long = run.long;
    }

packed : (r : Reader) (place : ℕ) (h : Register) → register_into (words_for r) place h ≡ words_for (with_register r place h)
unfolding words_for
packed r place h = refl

with-fits : (r : Reader) (place : ℕ) (h : Register) → Fits r → Fits (with_register r place h)
with-fits r place h fits = record { letter = fits.letter; expression = fits.expression; setting = fits.setting; year = fits.year; day = fits.day; hundredths = fits.hundredths }

module _ (words : List ℕ) (n : ℕ) (ss : List ℕ) (from end to : ℕ) (at : Ready words n) (long : length words ≡ 14) (l : to ≤ length ss) (below : SymbolsBelow ss to)
    (received : Register) (stop place : ℕ) (short : 1 ≤ get_or words 4 0 → get_or words 4 0 + (end - from) < n)
    (run : Runs (format_in (get_or words 0 0) (get_or words 1 0)) n (register_in words) ss from end to received stop) (ep : place ≡ (get_or words 3 0 + (stop - from)) % n) where
  abbrev r : Reader
  r = reader_in words

  abbrev others : List ℕ
  others = slice ss from stop

  others-long : length others ≡ stop - from
  others-long = length-slice ss from stop run.start (omega (arith, run.within))

  others-symbols : AllSymbols others
  others-symbols j h = rw (slice_at ss from stop j (omega (arith, others-long))) (below (from + j) (omega (arith, others-long, run.within)))

  size-there : size r.format ≡ n
  size-there = ready-format words n at

  not_whole : NotWholeBefore r.format (size r.format) r.received others
  unfolding reader_in
  not_whole = rw (← at.size_is) run.not_whole

  received-there : receive_all r.format (size r.format) r.received others ≡ received
  unfolding reader_in
  received-there = rw (← at.size_is) run.received_is

  last-there : (receive_all r.format (size r.format) r.received others).count ≡ size r.format → ⊥
  last-there e = run.last_not short (sym (ap (λ (h : Register). h.count) received-there) ∙ e ∙ size-there)

  place-there : (r.place + length others) % size r.format ≡ place
  unfolding reader_in
  place-there = rw (others-long, ← at.size_is) (sym ep)

  reader-there : reader_after r others ≡ with_register r place received
  reader-there = rw (place-there, received-there) at (run-reader r others (ready-valid words n at, ready-setting words n at) others-symbols not_whole last-there)

  fits-there : Fits (with_register r place received)
  fits-there = with-fits r place received (words-fit words)

  pub runs-in : (left : List ℕ) → left ≡ register_into words place received → RunsIn words n ss from to left stop
  unfolding words_for
  runs-in left e =
      let is : left ≡ words_for (with_register r place received) = e ∙ ap (λ (ws : List ℕ). register_into ws place received) (same-words words n at long) ∙ packed r place received in
      let valid = rw (place-there) at (ready_with r (length others) received (ready-valid words n at, ready-setting words n at)) in
      rw is
      (record {
        start = run.start;
        within = run.within;
        reader_is = words_back (with_register r place received) fits-there ∙ sym reader-there;
        quiet = λ none k b. run-quiet r others (ready-valid words n at, ready-setting words n at) others-symbols not_whole last-there none k (omega (arith, others-long));
        ready = subst (Ready (words_for (with_register r place received))) size-there (words-ready (with_register r place received) fits-there valid.0 valid.1);
        long = refl;
      })
