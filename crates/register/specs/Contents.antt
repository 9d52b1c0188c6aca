-- The register shows the symbols of the frame under way.
use Rattle.std.specs.Prelude.{◌≡◌, refl, true, false, cond, List, [], ◌∷◌, ◌++◌, ℕ, zero, suc, ◌+◌, ◌*◌, ◌-◌, ◌/◌, ◌%◌, ◌^◌, ◌<◌, ◌≤◌, leb, eqb, get_or, length}
use Rattle.std.proofs.Common.{sym, ap, ◌∙◌, zero-add, div-one, arith, leb-true, leb-false, eqb-true, eq-eqb, length-append, pow-add, ext_get_or, get_or-append-add}
use Rattle.std.proofs.Math.Nat.{div-div-eq-div-mul}
use Rattle.std.proofs.Math.Decide.{dec_le}
use Rattle.std.proofs.lemmas.Bool.{eqb-false}
use Rattle.std.proofs.Math.Arith.{digits_div}
use Rattle.std.proofs.Math.ListN.{get_or-append}
use Rattle.std.proofs.Math.Pow.{field, mod-mod-pow}
use Rattle.timecode.proofs.Laws.Runs.{length-tabulate, get_d_tabulate}
use Rattle.timecode.proofs.Laws.Tests.{by-test}
use Rattle.timecode.specs.Layout.{tabulate}
use Rattle.timecode.specs.declared.Format.{Format}
use Rattle.following.specs.Rows.{opens_frame}
use Rattle.register.specs.Receiving.{push_of, begun_of, continued_of, with_word_of, receive_of, symbol_in, word_at, element_of, frame_of}
use Rattle.register.specs.declared.Register.{Register}

-- the symbol j back in a word
abbrev pub back_in : ℕ → ℕ → ℕ
back_in w j = w / 2 ^ (j * 2) % 4

-- the register has these symbols of a frame: the newest 32 in the newest word, and each whole 32 from the first on
pub record Shows (h : Register) (frame : List ℕ) : Type 0 where
  pub count_is : h.count ≡ length frame
  pub newest_is : (j : ℕ) → j < 32 → j < length frame → back_in h.newest j ≡ get_or frame (length frame - 1 - j) 0
  pub words_are : (k i : ℕ) → k < 3 → i < 32 → 32 * k + 32 ≤ length frame → symbol_in (word_at h k) i ≡ get_or frame (32 * k + i) 0

-- ---- one symbol pushed

-- a symbol that stays in its word
stays : (w c m : ℕ) → c < 4 → m < 31 → (w % 4611686018427387904 * 4 + c) / 2 ^ ((m + 1) * 2) % 4 ≡ w / 2 ^ (m * 2) % 4
stays w c m h b =
    let twice : (m + 1) * 2 ≡ 2 + m * 2 = omega arith in
    let above : 62 - m * 2 - 2 + 2 + m * 2 ≡ 62 = omega arith in
    let low : w % 2 ^ (62 - m * 2 - 2 + 2 + m * 2) / 2 ^ (m * 2) ≡ w / 2 ^ (m * 2) % 2 ^ (62 - m * 2 - 2 + 2) = field w (62 - m * 2 - 2 + 2) (m * 2) in
    let four : w / 2 ^ (m * 2) % 2 ^ (62 - m * 2 - 2 + 2) % 2 ^ 2 ≡ w / 2 ^ (m * 2) % 2 ^ 2 = mod-mod-pow (w / 2 ^ (m * 2)) (62 - m * 2 - 2) 2 in
    ap (λ (n : ℕ). (w % 4611686018427387904 * 4 + c) / n % 4) (ap (λ (n : ℕ). 2 ^ n) twice ∙ pow-add 2 2 (m * 2))
    ∙ ap (λ (n : ℕ). n % 4) (sym (div-div-eq-div-mul (w % 4611686018427387904 * 4 + c) 4 (2 ^ (m * 2))))
    ∙ ap (λ (n : ℕ). n / 2 ^ (m * 2) % 4) (digits_div (w % 4611686018427387904) h)
    ∙ ap (λ (n : ℕ). w % 2 ^ n / 2 ^ (m * 2) % 4) (sym above)
    ∙ ap (λ (n : ℕ). n % 4) low
    ∙ four

pub pushed-low : (w s : ℕ) → s ≤ 3 → push_of w s % 4 ≡ s
unfolding push_of
pushed-low w s b = omega arith

pushed-newest : (w s : ℕ) → s ≤ 3 → back_in (push_of w s) 0 ≡ s
pushed-newest w s b = ap (λ (n : ℕ). n % 4) (div-one (push_of w s)) ∙ pushed-low w s b

pushed-earlier : (w s j : ℕ) → suc j < 32 → back_in (push_of w s) (suc j) ≡ back_in w j
unfolding push_of
pushed-earlier w s j b =
    let on : suc j ≡ j + 1 = omega arith in
    rw on (stays w (s % 4) j (omega arith) (omega arith))

module _ (h : Register) (frame : List ℕ) (s : ℕ) (b : s ≤ 3) (sh : Shows h frame) where
  abbrev longer : List ℕ
  longer = frame ++ (s ∷ [])

  one_more : length longer ≡ length frame + 1
  one_more = length-append frame (s ∷ [])

  newest-there : get_or longer (length frame) 0 ≡ s
  newest-there =
      let here : length frame + 0 ≡ length frame = omega arith in
      ap (λ (i : ℕ). get_or longer i 0) (sym here) ∙ get_or-append-add frame (s ∷ []) 0 0

  newest-on : (j : ℕ) → j < 32 → j < length longer → back_in (push_of h.newest s) j ≡ get_or longer (length longer - 1 - j) 0
  newest-on zero l m =
      let at : length longer - 1 - 0 ≡ length frame = omega (arith, one_more) in
      rw at (pushed-newest h.newest s b ∙ sym newest-there)
  newest-on (suc j) l m =
      let at : length longer - 1 - suc j ≡ length frame - 1 - j = omega (arith, one_more) in
      rw at (pushed-earlier h.newest s j l ∙ sh.newest_is j (omega arith) (omega (arith, one_more)) ∙ sym (get_or-append frame (s ∷ []) 0 (length frame - 1 - j) (omega (arith, one_more))))

  old-word : (k i : ℕ) → k < 3 → i < 32 → 32 * k + 32 ≤ length frame → symbol_in (word_at h k) i ≡ get_or longer (32 * k + i) 0
  old-word k i u l m = sh.words_are k i u l m ∙ sym (get_or-append frame (s ∷ []) 0 (32 * k + i) (omega arith))

  -- a word that has just become full
  new_word : (k i : ℕ) → i < 32 → length longer ≡ 32 * k + 32 → symbol_in (push_of h.newest s) i ≡ get_or longer (32 * k + i) 0
  new_word k i l e =
      let turned : 62 - i * 2 ≡ (31 - i) * 2 = omega arith in
      let at : length longer - 1 - (31 - i) ≡ 32 * k + i = omega arith in
      rw (turned, ← at) (newest-on (31 - i) (omega arith) (omega arith))

  count-on : h.count + 1 ≡ length longer
  count-on = omega (arith, sh.count_is, one_more)

  shows-on : ((h.count + 1) % 32 ≡ 0 → ⊥) → Shows (continued_of h (push_of h.newest s) (h.count + 1)) longer
  shows-on n =
      record {
        count_is = count-on;
        newest_is = newest-on;
        words_are = λ k i u l m. old-word k i u l (not_yet k m (dec_le (32 * k + 32) (length frame)));
      }
    where
      not_yet : (k : ℕ) → 32 * k + 32 ≤ length longer → Dec (32 * k + 32 ≤ length frame) → 32 * k + 32 ≤ length frame
      not_yet k m (yes y) = y
      not_yet k m (no z) = absurd (n (omega (arith, one_more, sh.count_is)))

  word-full : (k : ℕ) → k < 3 → word_at (with_word_of h (push_of h.newest s) (h.count + 1)) k ≡ cond (eqb (h.count + 1) (32 * k + 32)) (push_of h.newest s) (word_at h k)
  word-full zero u = refl
  word-full (suc zero) u = refl
  word-full (suc (suc zero)) u = refl
  word-full (suc (suc (suc k))) u = let z : ⊥ = omega arith in absurd z

  shows-full : Shows (with_word_of h (push_of h.newest s) (h.count + 1)) longer
  shows-full =
      record {
        count_is = count-on;
        newest_is = newest-on;
        words_are = λ k i u l m.
            rw (word-full k u)
            (by-test (eqb (h.count + 1) (32 * k + 32))
            (λ y. rw y (new_word k i l (sym count-on ∙ eqb-true (h.count + 1) (32 * k + 32) y)))
            (λ n. rw n (old-word k i u l (let other = eqb-false (h.count + 1) (32 * k + 32) n in omega (arith, one_more, sh.count_is, other)))));
      }

shows-begun : (h : Register) (s row : ℕ) → s ≤ 3 → Shows (begun_of (push_of h.newest s) 1 row) (s ∷ [])
shows-begun h s row b =
    record {
      count_is = refl;
      newest_is = λ j l m. first j m;
      words_are = λ k i u l m. let z : ⊥ = omega arith in absurd z;
    }
  where
    first : (j : ℕ) → j < 1 → back_in (push_of h.newest s) j ≡ get_or (s ∷ []) (1 - 1 - j) 0
    first zero m = pushed-newest h.newest s b
    first (suc j) m = let z : ⊥ = omega arith in absurd z

shows-none : (h : Register) → h.count ≡ 0 → Shows h []
shows-none h e =
    record {
      count_is = e;
      newest_is = λ j l m. let z : ⊥ = omega arith in absurd z;
      words_are = λ k i u l m. let z : ⊥ = omega arith in absurd z;
    }

-- the frame that the words hold, once it is whole
pub whole-frame : (h : Register) (frame : List ℕ) (n : ℕ) → n ≤ 100 → length frame ≡ n → Shows h frame → frame_of h n ≡ frame
unfolding frame_of element_of
whole-frame h frame n most e sh =
    ext_get_or 0 (tabulate n 0 (element_of h n)) frame (length-tabulate n 0 (element_of h n) ∙ sym e)
    (λ i m.
    let l : i < n = omega (arith, length-tabulate n 0 (element_of h n)) in
    get_d_tabulate n 0 (element_of h n) 0 i l
    ∙ ap (element_of h n) (zero-add i)
    ∙ by-test (leb n (i + 32))
    (λ y.
    let u = leb-true n (i + 32) y in
    let turned : 62 - (i + 32 - n) * 2 ≡ (n - 1 - i) * 2 = omega arith in
    let at : length frame - 1 - (n - 1 - i) ≡ i = omega arith in
    rw (y, turned) (sh.newest_is (n - 1 - i) (omega arith) (omega arith) ∙ ap (λ (k : ℕ). get_or frame k 0) at))
    (λ z.
    let u = leb-false n (i + 32) z in
    let at : 32 * (i / 32) + i % 32 ≡ i = omega arith in
    rw z (sh.words_are (i / 32) (i % 32) (omega arith) (omega arith) (omega arith) ∙ ap (λ (k : ℕ). get_or frame k 0) at)))

-- ---- one symbol more

pub shows-opened : (f : Format) (n : ℕ) (h : Register) (s : ℕ) → s ≤ 3 → opens_frame f (h.newest % 4) s ≡ true → Shows (receive_of f n h s) (s ∷ [])
unfolding receive_of
shows-opened f n h s b y = rw y (shows-begun h s (cond (eqb h.count n) h.row 0) b)

pub shows-idle : (f : Format) (n : ℕ) (h : Register) (s : ℕ) → opens_frame f (h.newest % 4) s ≡ false → h.count ≡ 0 → Shows (receive_of f n h s) []
unfolding receive_of
shows-idle f n h s y e = rw (y, eq-eqb h.count 0 e) (shows-none (continued_of h (push_of h.newest s) 0) refl)

pub shows-lost : (f : Format) (n : ℕ) (h : Register) (s : ℕ) → opens_frame f (h.newest % 4) s ≡ false → eqb h.count 0 ≡ false → leb n h.count ≡ true → Shows (receive_of f n h s) []
unfolding receive_of
shows-lost f n h s y e l = rw (y, e, l) (shows-none (begun_of (push_of h.newest s) 0 0) refl)

pub shows-grown : (f : Format) (n : ℕ) (h : Register) (frame : List ℕ) (s : ℕ) → s ≤ 3 → opens_frame f (h.newest % 4) s ≡ false → eqb h.count 0 ≡ false → leb n h.count ≡ false → Shows h frame → Shows (receive_of f n h s) (frame ++ (s ∷ []))
unfolding receive_of
shows-grown f n h frame s b y e l sh =
    by-test (eqb ((h.count + 1) % 32) 0)
    (λ z. rw (y, e, l, z) (shows-full h frame s b sh))
    (λ z. rw (y, e, l, z) (shows-on h frame s b sh (eqb-false ((h.count + 1) % 32) 0 z)))

-- the newest word, and the row before the frame
pub receive-newest : (f : Format) (n : ℕ) (h : Register) (s : ℕ) → (receive_of f n h s).newest ≡ push_of h.newest s
unfolding receive_of
receive-newest f n h s =
    by-test (opens_frame f (h.newest % 4) s)
    (λ y. rw y)
    (λ y.
    by-test (eqb h.count 0)
    (λ e. rw (y, e))
    (λ e.
    by-test (leb n h.count)
    (λ l. rw (y, e, l))
    (λ l. by-test (eqb ((h.count + 1) % 32) 0) (λ z. rw (y, e, l, z)) (λ z. rw (y, e, l, z)))))

pub receive-row : (f : Format) (n : ℕ) (h : Register) (s : ℕ) → opens_frame f (h.newest % 4) s ≡ false → eqb h.count 0 ≡ false → leb n h.count ≡ false → (receive_of f n h s).row ≡ h.row
unfolding receive_of
receive-row f n h s y e l = by-test (eqb ((h.count + 1) % 32) 0) (λ z. rw (y, e, l, z)) (λ z. rw (y, e, l, z))

-- the register has at most n symbols of a frame
pub receive-most : (f : Format) (n : ℕ) (h : Register) (s : ℕ) → 1 ≤ n → (receive_of f n h s).count ≤ n
unfolding receive_of
receive-most f n h s p =
    by-test (opens_frame f (h.newest % 4) s)
    (λ y. rw y p)
    (λ y.
    by-test (eqb h.count 0)
    (λ e. rw (y, e) (omega arith))
    (λ e.
    by-test (leb n h.count)
    (λ l. rw (y, e, l) (omega arith))
    (λ l. let under = leb-false n h.count l in by-test (eqb ((h.count + 1) % 32) 0) (λ z. rw (y, e, l, z) (omega arith)) (λ z. rw (y, e, l, z) (omega arith)))))
