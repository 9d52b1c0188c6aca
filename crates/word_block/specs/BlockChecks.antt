-- The checks of a block in the caller's words: 13, 26, 3, and the words of the time that do not fit their widths.
use Rattle.block.specs.declared.Taken.{Taken}
use Rattle.std.specs.Prelude.{◌≡◌, refl, true, false, ◌&&◌, List, ℕ, ◌%◌, ltb, get_or, length, set, Result, Err}
use Rattle.std.proofs.Common.{sym, ap, subst, ◌∙◌, arith, lt-ltb, le-ltb}
use Rattle.timecode.specs.Formats.{known, size}
use Rattle.timecode.proofs.Laws.Runs.{tabulate-self}
use Rattle.timecode.proofs.Laws.Tests.{by-test}
use Rattle.timecode.specs.Layout.{tabulate}
use Rattle.timecode.specs.Stream.{is_setting}
use Rattle.timecode.specs.declared.Refusal.{Refusal}
use Rattle.stream.specs.Feeding.{is_valid}
use Rattle.stream.specs.declared.Reader.{Reader}
use Rattle.ffi.proofs.Fields.{refusal-numbered}
use Rattle.reader_words.specs.Words.{byte_in, reader_in, words_into}
use Rattle.word_feed.specs.InPlace.{format_in, time_fits, known_size, is_ready, Ready, ready}
use Rattle.block.specs.Blocks.{Lists, are_records, block_answer, feed_block_of}
use Rattle.block_words.specs.BlockWords.{fed_block_with, block_words_left}
use Rattle.word_block.specs.WordBlocks.{Gives, block_refused}

-- the words of the time, to their widths
abbrev pub time_fitted : List ℕ → List ℕ
time_fitted words = set (set (set words 10 (get_or words 10 0 % 256)) 11 (get_or words 11 0 % 65536)) 12 (get_or words 12 0 % 4294967296)

-- fourteen words, one by one
abbrev listed : (ℕ → ℕ) → List ℕ
listed word = tabulate 14 0 word

as-listed : (words : List ℕ) → length words ≡ 14 → words ≡ listed (λ (i : ℕ). get_or words i 0)
as-listed words long = sym (tabulate-self words) ∙ ap (λ (k : ℕ). tabulate k 0 (λ (i : ℕ). get_or words i 0)) long

year-twice : (x : ℕ) → x % 256 % 256 ≡ x % 256
year-twice x = omega arith

day-twice : (x : ℕ) → x % 65536 % 65536 ≡ x % 65536
day-twice x = omega arith

hundredths-twice : (x : ℕ) → x % 4294967296 % 4294967296 ≡ x % 4294967296
hundredths-twice x = omega arith

-- the reader in them is the same
listed-reader : (word : ℕ → ℕ) → reader_in (time_fitted (listed word)) ≡ reader_in (listed word)
unfolding reader_in
listed-reader word = rw (year-twice (word 10), day-twice (word 11), hundredths-twice (word 12))

fitted-reader : (words : List ℕ) → length words ≡ 14 → reader_in (time_fitted words) ≡ reader_in words
fitted-reader words long = subst (λ (ws : List ℕ). reader_in (time_fitted ws) ≡ reader_in ws) (sym (as-listed words long)) (listed-reader (λ (i : ℕ). get_or words i 0))

listed-into : (word : ℕ → ℕ) (r : Reader) → words_into (time_fitted (listed word)) r ≡ words_into (listed word) r
unfolding words_into
listed-into word r = refl

fitted-into : (words : List ℕ) (r : Reader) → length words ≡ 14 → words_into (time_fitted words) r ≡ words_into words r
fitted-into words r long = subst (λ (ws : List ℕ). words_into (time_fitted ws) r ≡ words_into ws r) (sym (as-listed words long)) (listed-into (λ (i : ℕ). get_or words i 0) r)

listed-ready : (word : ℕ → ℕ) (n : ℕ) → n ≡ known_size (word 0) (word 1) → ltb (word 3) n ≡ true → is_setting (byte_in (word 2)) ≡ true → Ready (time_fitted (listed word)) n × (length (time_fitted (listed word)) ≡ 14)
unfolding is_ready time_fits
listed-ready word n e placed is_set =
    let passes : is_ready (time_fitted (listed word)) n ≡ true = rw (placed, is_set, lt-ltb (word 10 % 256) 256 (omega arith), lt-ltb (word 11 % 65536) 65536 (omega arith), lt-ltb (word 12 % 4294967296) 4294967296 (omega arith)) in
    (ready (time_fitted (listed word)) n e passes, refl)

-- numbers 13 and 26 pass: the words are ready
pub fitted-ready : (words : List ℕ) (n : ℕ) → length words ≡ 14 → n ≡ known_size (get_or words 0 0) (get_or words 1 0) → ltb (get_or words 3 0) n ≡ true → is_setting (byte_in (get_or words 2 0)) ≡ true
    → Ready (time_fitted words) n × (length (time_fitted words) ≡ 14)
fitted-ready words n long e placed is_set =
    subst (λ (ws : List ℕ). Ready (time_fitted ws) n × (length (time_fitted ws) ≡ 14)) (sym (as-listed words long)) (listed-ready (λ (i : ℕ). get_or words i 0) n e placed is_set)

-- number 13, by the words
valid-words : (words : List ℕ) (n : ℕ) → n ≡ known_size (get_or words 0 0) (get_or words 1 0) → is_valid (reader_in words) ≡ ltb (get_or words 3 0) n
unfolding is_valid reader_in known_size
valid-words words n e =
    let f = format_in (get_or words 0 0) (get_or words 1 0) in
    by-test (known f)
    (λ y. let sized : n ≡ size f = rw y at e in rw (y, sized))
    (λ m. let none : n ≡ 0 = rw m at e in rw (m, none) (sym (le-ltb (get_or words 3 0) 0 (omega arith))))

module _ (words : List ℕ) (n : ℕ) (ss : List ℕ) (l : Lists) (e : n ≡ known_size (get_or words 0 0) (get_or words 1 0)) where
  abbrev r : Reader
  r = reader_in words

  refused-gives : (x : Refusal) → (is_valid r && (is_setting r.setting && are_records l)) ≡ false → Err x ≡ block_answer r ss l → Gives words ss l (Err x) words l
  refused-gives x m q =
      let given = block_refused r ss l x m q in
      let same : words ≡ block_words_left (fed_block_with r (Err x)) words = rw (refusal-numbered x) refl in
      (rw (← given.0) refl, (rw (← given.0) same, given.1))

  pub not-placed : ltb (get_or words 3 0) n ≡ false → Gives words ss l (Err Refusal.InvalidReader) words l
  unfolding block_answer
  not-placed m = let invalid = valid-words words n e ∙ m in refused-gives Refusal.InvalidReader (rw invalid) (rw invalid)

  module _ (placed : ltb (get_or words 3 0) n ≡ true) where
    valid : is_valid r ≡ true
    valid = valid-words words n e ∙ placed

    pub not_set : is_setting (byte_in (get_or words 2 0)) ≡ false → Gives words ss l (Err Refusal.InvalidSetting) words l
    unfolding block_answer reader_in
    not_set m = let v = valid in refused-gives Refusal.InvalidSetting (rw (v, m)) (rw (v, m))

    module _ (is_set : is_setting (byte_in (get_or words 2 0)) ≡ true) where
      pub not-records : are_records l ≡ false → Gives words ss l (Err Refusal.WrongLength) words l
      unfolding block_answer reader_in
      not-records m = let v = valid in refused-gives Refusal.WrongLength (rw (v, is_set, m)) (rw (v, is_set, m))

      left-taken : are_records l ≡ true → length words ≡ 14 → block_words_left (feed_block_of r ss l) (time_fitted words) ≡ block_words_left (feed_block_of r ss l) words
      unfolding feed_block_of block_answer reader_in
      left-taken records long = let v = valid in rw (v, is_set, records) (fitted-into words (feed_block_of r ss l).reader long)

      -- what is given for the fitted words is given for these
      pub fitted-gives : are_records l ≡ true → length words ≡ 14 → {answer : Result Taken Refusal} {left : List ℕ} {l₁ : Lists} → Gives (time_fitted words) ss l answer left l₁ → Gives words ss l answer left l₁
      fitted-gives records long given =
          let there = rw (fitted-reader words long) at given in
          (there.0, (there.1.0 ∙ left-taken records long, there.1.1))
