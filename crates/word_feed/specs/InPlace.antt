-- One Feed stored in the caller's words by cases: where no frame becomes whole, the symbol brings nothing, and only the place and the register change.
use Rattle.std.specs.Prelude.{◌≡◌, Bool, cond, ◌&&◌, List, ℕ, zero, suc, ◌+◌, ◌*◌, ◌-◌, ◌/◌, ◌%◌, ◌<◌, ◌≤◌, ltb, eqb, length, set}
use Rattle.std.proofs.Math.Path.{refl, sym, ap}
use Rattle.std.proofs.Common.{subst, ◌∙◌, arith, get_or-set_other}
use Rattle.std.proofs.Math.Bool.{true, false}
use Rattle.std.proofs.Math.Nat.{mod-eq_of_lt}
use borrow.Author.Tests.{lt-ltb, le-leb, lt-leb, ltb-true, ltb-false, leb-true, eqb-true, eqb-false, eq-eqb, ne_eqb}
use Rattle.std.proofs.Math.Dec.{leb}
use Rattle.std.proofs.Math.ListN.{get_or}
use Rattle.std.proofs.Math.Seq.{set-get_or}
use Rattle.timecode.specs.Formats.{A, B, D, E, G, H, X, is_symbol, table, look_up, row_of, known, size}
use Rattle.timecode.proofs.Laws.Runs.{tabulate-self}
use Rattle.timecode.proofs.Laws.Table.{size-range}
use Rattle.timecode.proofs.Laws.Tests.{by-test, clash, and_left, and_right}
use Rattle.timecode.specs.Layout.{tabulate}
use Rattle.timecode.specs.Stream.{is_setting}
use Rattle.timecode.specs.declared.Answer.TheVariants.{Quiet}
use Rattle.timecode.specs.declared.Format.{Format}
use Rattle.layout.specs.Letters.{in_row, Other, other_row}
use Rattle.following.specs.Rows.{opens_frame}
use Rattle.register.specs.Receiving.{push_of, begun_of, continued_of, with_word_of, receive_of}
use Rattle.register.specs.Contents.{pushed-low, receive-newest, receive-most}
use Rattle.register.specs.declared.Register.{Register}
use Rattle.stream.specs.Feeding.{is_valid, with_register, when_whole, with_symbol_of, next_of, answer_after, answer_of, feed_of}
use Rattle.stream.specs.declared.Reader.{Reader}
use Rattle.reader_words.specs.WordLaws.{Fits}
use Rattle.reader_words.proofs.WordLaws.{words_back, no-letter, no-expression, into-words}
use Rattle.reader_words.specs.Words.{words_for, byte_in, reader_in, register_into, words_into, feed_words, words_left}

abbrev pub format_in : ℕ → ℕ → Format
format_in letter expression = record { letter = byte_in letter; expression = byte_in expression }

abbrev pub register_in : List ℕ → Register
register_in words = record { count = get_or words 4 0; newest = get_or words 5 0; word0 = get_or words 6 0; word1 = get_or words 7 0; word2 = get_or words 8 0; row = get_or words 9 0 }

-- the words of the time fit their widths
unfoldable pub time_fits : ℕ → ℕ → ℕ → Bool
time_fits year day hundredths = ltb year 256 && (ltb day 65536 && ltb hundredths 4294967296)

-- n of a known format, else 0
unfoldable pub known_size : ℕ → ℕ → ℕ
known_size letter expression = cond (known (format_in letter expression)) (size (format_in letter expression)) 0

-- n of the letters that take expressions 1 and 2, 0 of any other but A, B and X
unfoldable pub other_size : ℕ → ℕ
other_size letter = cond (eqb letter D) 60 (cond (eqb letter E) 100 (cond (eqb letter G) 100 (cond (eqb letter H) 60 0)))

-- numbers 13 and 26 pass, with n of a known format, and the words of the time fit their widths
unfoldable pub is_ready : List ℕ → ℕ → Bool
is_ready words n = ltb (get_or words 3 0) n && (is_setting (byte_in (get_or words 2 0)) && time_fits (get_or words 10 0) (get_or words 11 0) (get_or words 12 0))

-- such words
pub record Ready (words : List ℕ) (n : ℕ) : Type 0 where
  pub is_known : known (format_in (get_or words 0 0) (get_or words 1 0)) ≡ true
  pub size_is : n ≡ size (format_in (get_or words 0 0) (get_or words 1 0))
  pub inside : get_or words 3 0 < n
  pub is_set : is_setting (byte_in (get_or words 2 0)) ≡ true
  pub year_fits : get_or words 10 0 < 256
  pub day_fits : get_or words 11 0 < 65536
  pub hundredths_fit : get_or words 12 0 < 4294967296

pub ready : (words : List ℕ) (n : ℕ) → n ≡ known_size (get_or words 0 0) (get_or words 1 0) → is_ready words n ≡ true → Ready words n
unfolding is_ready known_size time_fits
ready words n e y =
    let f = format_in (get_or words 0 0) (get_or words 1 0) in
    let below = ltb (get_or words 3 0) n in
    let set = is_setting (byte_in (get_or words 2 0)) in
    let year = ltb (get_or words 10 0) 256 in
    let day = ltb (get_or words 11 0) 65536 in
    let hundredths = ltb (get_or words 12 0) 4294967296 in
    let inside = ltb-true (get_or words 3 0) n (and_left below (set && (year && (day && hundredths))) y) in
    let others = and_right below (set && (year && (day && hundredths))) y in
    let fits = and_right set (year && (day && hundredths)) others in
    let last = and_right year (day && hundredths) fits in
    by-test (known f)
    (λ a.
    record {
      is_known = a;
      size_is = rw a at e;
      inside = inside;
      is_set = and_left set (year && (day && hundredths)) others;
      year_fits = ltb-true (get_or words 10 0) 256 (and_left year (day && hundredths) fits);
      day_fits = ltb-true (get_or words 11 0) 65536 (and_left day hundredths last);
      hundredths_fit = ltb-true (get_or words 12 0) 4294967296 (and_right day hundredths last);
    })
    (λ a. let none : n ≡ 0 = rw a at e in let no : ⊥ = omega (arith, inside) in absurd no)

-- ---- n by the words as they are

-- a range that ends below 255 takes the byte in a word where it takes the word
within-byte : (first last e : ℕ) → first ≤ last → last < 255 → (leb first (byte_in e) && leb (byte_in e) last) ≡ (leb first e && leb e last)
unfolding byte_in
within-byte first last e a b =
    by-test (ltb e 256)
    (λ y. rw y)
    (λ n.
    let l = ltb-false e 256 n in
    rw (n, le-leb first 255 (omega arith), lt-leb 255 last b, le-leb first e (omega arith), lt-leb e last (omega arith)))

-- a letter that takes k expressions from the first on
pub letter-size : (l e k first last n : ℕ) → byte_in l ≡ l → (look_up l table).expressions ≡ tabulate k first (λ (j : ℕ). j) → (look_up l table).elements ≡ n → first + k ≡ suc last → first ≤ last → last < 255
    → known_size l e ≡ cond (leb first e && leb e last) n 0
unfolding known_size known size row_of
letter-size l e k first last n b x m q a c = rw (b, x, m, in_row k first last q (byte_in e), within-byte first last e a c)

other-known : (l e : ℕ) → ltb l 256 ≡ true → Other l → known (format_in l e) ≡ false
unfolding byte_in known row_of
other-known l e y o = rw (y, other_row l o)

no_byte : (l e : ℕ) → ltb l 256 ≡ false → known (format_in l e) ≡ false
unfolding byte_in
no_byte l e n = rw n (no-letter (byte_in e))

none-size : (l e : ℕ) → Other l → known_size l e ≡ 0
unfolding known_size
none-size l e o = by-test (ltb l 256) (λ y. rw (other-known l e y o)) (λ n. rw (no_byte l e n))

module _ (l e : ℕ) (not_a : l ≡ A → ⊥) (not_b : l ≡ B → ⊥) (not_x : l ≡ X → ⊥) where
  abbrev Sized : ℕ → Type 0
  Sized l = known_size l e ≡ cond (leb 1 e && leb e 2) (other_size l) 0

  or_else : (k : ℕ) → Sized k → ((l ≡ k → ⊥) → Sized l) → Sized l
  or_else k h o = by-test (eqb l k) (λ y. subst Sized (sym (eqb-true l k y)) h) (λ n. o (eqb-false l k n))

  pub other-sizes : Sized l
  unfolding other_size look_up table byte_in
  other-sizes =
      or_else D (letter-size D e 2 1 2 60 refl refl refl refl (omega arith) (omega arith))
      (λ not_d.
      or_else E (letter-size E e 2 1 2 100 refl refl refl refl (omega arith) (omega arith))
      (λ not_e.
      or_else G (letter-size G e 2 1 2 100 refl refl refl refl (omega arith) (omega arith))
      (λ not_g.
      or_else H (letter-size H e 2 1 2 60 refl refl refl refl (omega arith) (omega arith))
      (λ not_h.
      none-size l e (record { not_a = not_a; not_b = not_b; not_d = not_d; not_e = not_e; not_g = not_g; not_h = not_h; not_x = not_x })
      ∙ rw (ne_eqb l D not_d, ne_eqb l E not_e, ne_eqb l G not_g, ne_eqb l H not_h) (by-test (leb 1 e && leb e 2) (λ y. rw y) (λ n. rw n))))))

pub setting-within : (k : ℕ) → is_setting (byte_in k) ≡ (leb 2 k && leb k 5)
unfolding is_setting
setting-within k = within-byte 2 5 k (omega arith) (omega arith)

-- ---- words of a reader that is taken are bytes

letter-same : (l e : ℕ) → known (format_in l e) ≡ true → byte_in l ≡ l
unfolding byte_in
letter-same l e k = by-test (ltb l 256) (λ y. rw y) (λ n. clash k (rw n (no-letter (byte_in e))))

expression-same : (l e : ℕ) → known (format_in l e) ≡ true → byte_in e ≡ e
unfolding byte_in
expression-same l e k = by-test (ltb e 256) (λ y. rw y) (λ n. clash k (rw n (no-expression (byte_in l))))

pub setting_same : (k : ℕ) → is_setting (byte_in k) ≡ true → byte_in k ≡ k
unfolding byte_in is_setting
setting_same k h = by-test (ltb k 256) (λ y. rw y) (λ n. clash h (rw n))

-- ---- a symbol with which no frame becomes whole

-- number 4 passes, and the symbol ends no frame
unfoldable pub is_inside : List ℕ → ℕ → ℕ → Bool
is_inside words s n = cond (is_symbol s) (cond (eqb (receive_of (format_in (get_or words 0 0) (get_or words 1 0)) n (register_in words) s).count n) false true) false

module _ (r : Reader) (s n : ℕ) (h : Register) (k : known r.format ≡ true) (z : n ≡ size r.format) (inside : r.place < n) (is_set : is_setting r.setting ≡ true) (small : s ≤ 3)
    (got : receive_of r.format n r.received s ≡ h) (not_whole : h.count ≡ n → ⊥) where
  pub next_is : next_of r s ≡ with_register r ((r.place + 1) % n) h
  unfolding next_of with_symbol_of when_whole is_valid
  next_is = rw (k, ← z, lt-ltb r.place n inside, is_set, le-leb s 3 small, got, ne_eqb h.count n not_whole)

  answer-is : answer_of r s ≡ Quiet
  unfolding answer_of answer_after is_valid
  answer-is = rw (next_is, k, ← z, lt-ltb r.place n inside, is_set, le-leb s 3 small, ne_eqb h.count n not_whole)

-- ---- words that are ready

module _ (words : List ℕ) (n : ℕ) (at : Ready words n) where
  -- they are those of the reader in them
  pub same-words : length words ≡ 14 → words ≡ words_for (reader_in words)
  unfolding words_for reader_in
  same-words long =
      sym (tabulate-self words)
      ∙ ap (λ (k : ℕ). tabulate k 0 (λ (i : ℕ). get_or words i 0)) long
      ∙ rw (
        letter-same (get_or words 0 0) (get_or words 1 0) at.is_known,
        expression-same (get_or words 0 0) (get_or words 1 0) at.is_known,
        setting_same (get_or words 2 0) at.is_set,
        mod-eq_of_lt at.year_fits,
        mod-eq_of_lt at.day_fits,
        mod-eq_of_lt at.hundredths_fit,
      )

  -- numbers 13 and 26 pass
  pub ready-valid : is_valid (reader_in words) ≡ true
  unfolding is_valid reader_in
  ready-valid = rw (at.is_known, ← at.size_is) (lt-ltb (get_or words 3 0) n at.inside)

  pub ready-setting : is_setting (reader_in words).setting ≡ true
  unfolding reader_in
  ready-setting = at.is_set

  pub ready-format : size (reader_in words).format ≡ n
  unfolding reader_in
  ready-format = sym at.size_is

-- the words of a reader that passes
pub words-ready : (r : Reader) → Fits r → is_valid r ≡ true → is_setting r.setting ≡ true → Ready (words_for r) (size r.format)
unfolding words_for reader_in is_valid
words-ready r fits v set =
    let back = words_back r fits in
    record {
      is_known = ap (λ (q : Reader). known q.format) back ∙ and_left (known r.format) (ltb r.place (size r.format)) v;
      size_is = sym (ap (λ (q : Reader). size q.format) back);
      inside = ltb-true r.place (size r.format) (and_right (known r.format) (ltb r.place (size r.format)) v);
      is_set = ap (λ (q : Reader). is_setting q.setting) back ∙ set;
      year_fits = fits.year;
      day_fits = fits.day;
      hundredths_fit = fits.hundredths;
    }

module _ (words : List ℕ) (s n : ℕ) (at : Ready words n) where
  into-ready : (place : ℕ) (h : Register) → words_into words (with_register (reader_in words) place h) ≡ register_into words place h
  unfolding words_into reader_in
  into-ready place h =
      rw (
        letter-same (get_or words 0 0) (get_or words 1 0) at.is_known,
        expression-same (get_or words 0 0) (get_or words 1 0) at.is_known,
        setting_same (get_or words 2 0) at.is_set,
        mod-eq_of_lt at.year_fits,
        mod-eq_of_lt at.day_fits,
        mod-eq_of_lt at.hundredths_fit,
        set-get_or words 0 0,
        set-get_or words 1 0,
        set-get_or words 2 0,
        set-get_or words 10 0,
        set-get_or words 11 0,
        set-get_or words 12 0,
        set-get_or words 13 0,
      )

  abbrev f : Format
  f = format_in (get_or words 0 0) (get_or words 1 0)

  -- it brings nothing
  pub inside-quiet : is_inside words s n ≡ true → (feed_words words s).answer ≡ Quiet
  unfolding feed_of reader_in is_inside
  inside-quiet i =
      let h = receive_of f n (register_in words) s in
      by-test (is_symbol s)
      (λ y. answer-is (reader_in words) s n h at.is_known at.size_is at.inside at.is_set (leb-true s 3 y) refl (λ e. clash i (rw (y, eq-eqb h.count n e))))
      (λ k. clash i (rw k))

  -- a symbol that is none is not fed
  pub above-left : 3 < s → (false ≡ is_inside words s n) × (words ≡ cond (is_inside words s n) (words_left (feed_words words s) words) words)
  unfolding is_inside
  above-left above = rw (lt-leb s 3 above) (refl, refl)

  module _ (small : s ≤ 3) where
    -- the words of such a Feed
    abbrev pub Left : List ℕ → Type 0
    Left left = (true ≡ is_inside words s n) × (left ≡ cond (is_inside words s n) (words_left (feed_words words s) words) words)

    not-whole-left : (h : Register) → receive_of f n (register_in words) s ≡ h → (h.count ≡ n → ⊥) → Left (register_into words ((get_or words 3 0 + 1) % n) h)
    unfolding feed_of reader_in is_inside
    not-whole-left h got not_whole =
        let i : is_inside words s n ≡ true = rw (le-leb s 3 small, got, ne_eqb h.count n not_whole) in
        let a = answer-is (reader_in words) s n h at.is_known at.size_is at.inside at.is_set small got not_whole in
        let x = next_is (reader_in words) s n h at.is_known at.size_is at.inside at.is_set small got not_whole in
        (sym i, rw (i, a, x) (sym (into-ready ((get_or words 3 0 + 1) % n) h)))

    -- a word beside the one that is set is put back as it was
    as_it_was : (i j x : ℕ) → (j ≡ i → ⊥) → set (set words i x) j (get_or words j 0) ≡ set words i x
    as_it_was i j x other = ap (set (set words i x) j) (sym (get_or-set_other words i j x 0 other)) ∙ set-get_or (set words i x) j 0

    continued-into : (place newest count : ℕ) → register_into words place (continued_of (register_in words) newest count) ≡ set (set (set words 5 newest) 4 count) 3 place
    continued-into place newest count = rw (set-get_or words 9 0, set-get_or words 8 0, set-get_or words 7 0, set-get_or words 6 0)

    -- a word that has just become full stands in its place
    full-into : (place newest count k : ℕ) → 1 ≤ k → k ≤ 3 → count ≡ 32 * k → register_into words place (with_word_of (register_in words) newest count) ≡ set (set (set (set words (5 + k) newest) 5 newest) 4 count) 3 place
    full-into place newest count zero a b e = let no : ⊥ = omega arith in absurd no
    full-into place newest count (suc zero) a b e = rw (e, set-get_or words 9 0, set-get_or words 8 0, set-get_or words 7 0)
    full-into place newest count (suc (suc zero)) a b e = rw (e, set-get_or words 9 0, set-get_or words 8 0) (ap (λ (ws : List ℕ). set (set (set ws 5 newest) 4 64) 3 place) (as_it_was 7 6 newest (λ q. omega arith)))
    full-into place newest count (suc (suc (suc zero))) a b e =
        rw (e, set-get_or words 9 0) (ap (λ (ws : List ℕ). set (set (set ws 5 newest) 4 96) 3 place) (ap (λ (ws : List ℕ). set ws 6 (get_or words 6 0)) (as_it_was 8 7 newest (λ q. omega arith)) ∙ as_it_was 8 6 newest (λ q. omega arith)))
    full-into place newest count (suc (suc (suc (suc k)))) a b e = let no : ⊥ = omega arith in absurd no

    -- ---- the five ways, and the frame's last symbol

    pub opened : opens_frame f (get_or words 5 0 % 4) s ≡ true → Left (register_into words ((get_or words 3 0 + 1) % n) (begun_of (push_of (get_or words 5 0) s) 1 (cond (eqb (get_or words 4 0) n) (get_or words 9 0) 0)))
    unfolding receive_of
    opened o = let b = size-range f in let z = at.size_is in not-whole-left (begun_of (push_of (get_or words 5 0) s) 1 (cond (eqb (get_or words 4 0) n) (get_or words 9 0) 0)) (rw o) (λ e. omega arith)

    module _ (shut : opens_frame f (get_or words 5 0 % 4) s ≡ false) where
      pub none-under-way : get_or words 4 0 ≡ 0 → Left (set (set (set words 5 (push_of (get_or words 5 0) s)) 4 0) 3 ((get_or words 3 0 + 1) % n))
      unfolding receive_of
      none-under-way e =
          let b = size-range f in
          let z = at.size_is in
          let l = not-whole-left (continued_of (register_in words) (push_of (get_or words 5 0) s) 0) (rw (shut, eq-eqb (get_or words 4 0) 0 e)) (λ e. omega arith) in
          rw (← continued-into ((get_or words 3 0 + 1) % n) (push_of (get_or words 5 0) s) 0) l

      module _ (some : get_or words 4 0 ≡ 0 → ⊥) (inside : get_or words 4 0 < n - 1) where
        pub joined : (get_or words 4 0 % 32 ≡ 31 → ⊥) → Left (set (set (set words 5 (push_of (get_or words 5 0) s)) 4 (get_or words 4 0 + 1)) 3 ((get_or words 3 0 + 1) % n))
        unfolding receive_of
        joined not_full =
            let j = not-whole-left (continued_of (register_in words) (push_of (get_or words 5 0) s) (get_or words 4 0 + 1)) (rw (shut, ne_eqb (get_or words 4 0) 0 some, lt-leb n (get_or words 4 0) (omega arith), ne_eqb ((get_or words 4 0 + 1) % 32) 0 (λ e. not_full (omega arith)))) (λ e. omega arith) in
            rw (← continued-into ((get_or words 3 0 + 1) % n) (push_of (get_or words 5 0) s) (get_or words 4 0 + 1)) j

        pub filled : get_or words 4 0 % 32 ≡ 31 → Left (set (set (set (set words (5 + (get_or words 4 0 + 1) / 32) (push_of (get_or words 5 0) s)) 5 (push_of (get_or words 5 0) s)) 4 (get_or words 4 0 + 1)) 3 ((get_or words 3 0 + 1) % n))
        unfolding receive_of
        filled full =
            let b = size-range f in
            let z = at.size_is in
            let w = not-whole-left (with_word_of (register_in words) (push_of (get_or words 5 0) s) (get_or words 4 0 + 1)) (rw (shut, ne_eqb (get_or words 4 0) 0 some, lt-leb n (get_or words 4 0) (omega arith), eq-eqb ((get_or words 4 0 + 1) % 32) 0 (omega arith))) (λ e. omega arith) in
            rw (← full-into ((get_or words 3 0 + 1) % n) (push_of (get_or words 5 0) s) (get_or words 4 0 + 1) ((get_or words 4 0 + 1) / 32) (omega arith) (omega arith) (omega arith)) w

      pub after-whole : n ≤ get_or words 4 0 → Left (register_into words ((get_or words 3 0 + 1) % n) (begun_of (push_of (get_or words 5 0) s) 0 0))
      unfolding receive_of
      after-whole l =
          let b = size-range f in
          let z = at.size_is in
          not-whole-left (begun_of (push_of (get_or words 5 0) s) 0 0) (rw (shut, ne_eqb (get_or words 4 0) 0 (λ e. omega arith), le-leb n (get_or words 4 0) l)) (λ e. omega arith)

      pub becomes-whole : (get_or words 4 0 ≡ 0 → ⊥) → n - 1 ≤ get_or words 4 0 → get_or words 4 0 < n → (false ≡ is_inside words s n) × (words ≡ cond (is_inside words s n) (words_left (feed_words words s) words) words)
      unfolding is_inside receive_of
      becomes-whole some last below =
          let w : is_inside words s n ≡ false =
          rw (le-leb s 3 small, shut, ne_eqb (get_or words 4 0) 0 some, lt-leb n (get_or words 4 0) below)
          (by-test (eqb ((get_or words 4 0 + 1) % 32) 0) (λ y. rw (y, eq-eqb (get_or words 4 0 + 1) n (omega arith))) (λ k. rw (k, eq-eqb (get_or words 4 0 + 1) n (omega arith)))) in
          (sym w, rw w)

-- the words after a symbol with which no frame is whole: the frame under way is short of one symbol at least, and that symbol is the newest
pub inside-left : (words : List ℕ) (s n : ℕ) → Ready words n → length words ≡ 14 → is_inside words s n ≡ true → (left : List ℕ) → left ≡ cond (is_inside words s n) (words_left (feed_words words s) words) words
    → (s ≤ 3) × ((get_or left 4 0 < n) × (get_or left 5 0 % 4 ≡ s))
unfolding feed_of reader_in is_inside words_for
inside-left words s n at long i left e =
    let f = format_in (get_or words 0 0) (get_or words 1 0) in
    let h = receive_of f n (register_in words) s in
    by-test (is_symbol s)
    (λ y.
    let small = leb-true s 3 y in
    let not_whole : h.count ≡ n → ⊥ = λ z. clash i (rw (y, eq-eqb h.count n z)) in
    let quiet = inside-quiet words s n at i in
    let is = next_is (reader_in words) s n h at.is_known at.size_is at.inside at.is_set small refl not_whole in
    let next = with_register (reader_in words) ((get_or words 3 0 + 1) % n) h in
    let into : left ≡ words_into words next = e ∙ rw (i, quiet, is) in
    let packed : left ≡ words_for next = into ∙ ap (λ (ws : List ℕ). words_into ws next) (same-words words n at long) ∙ into-words (reader_in words) next in
    let most : h.count ≤ n = receive-most f n (register_in words) s (omega (arith, at.size_is, size-range f)) in
    (small, (rw packed (omega (arith, most, not_whole)), rw packed (ap (λ (w : ℕ). w % 4) (receive-newest f n (register_in words) s) ∙ pushed-low (get_or words 5 0) s small))))
    (λ k. clash i (rw k))

pub ready-place : (words : List ℕ) (n : ℕ) → Ready words n → (get_or words 3 0 < n) × (n ≤ 100)
ready-place words n at = let b = size-range (format_in (get_or words 0 0) (get_or words 1 0)) in let z = at.size_is in (at.inside, omega arith)
