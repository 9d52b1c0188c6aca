-- Fields written and read, by induction over a list of any fields: what is written is read as it was, and what is read was written so.
use Rattle.std.specs.Prelude.{◌≡◌, refl, Bool, true, false, not, ◌&&◌, List, [], ◌∷◌, ◌++◌, ℕ, zero, suc, ◌+◌, ◌*◌, ◌/◌, ◌%◌, ◌^◌, ◌<◌, ◌≤◌, eqb, length, take, drop}
use Rattle.std.proofs.Common.{sym, ◌∙◌, true≢false, append_assoc, zero-add, arith, eqb-true, eq-eqb, ne_eqb, length-append, length-drop, take_at, drop_at, get_or-drop, take-add, length-take-le}
use Rattle.std.proofs.Math.Nat.{two-pow-succ}
use Rattle.std.proofs.lemmas.Bool.{eqb-false}
use Rattle.timecode.proofs.Laws.Tests.{by-test, and_left, and_right}
use Rattle.report_log.specs.Log.{bytes_of, number_in, Field, differs, map_of, changed_of, stands, size_of, read_fields, all_differ}
use Rattle.report_log.specs.Numbers.{Bytes}
use Rattle.report_log.proofs.Numbers.{length-bytes, number-bytes, bytes-number}
use Rattle.report_log.specs.Fields.{Fit, resets, Read}

standing : (m : ℕ) → stands (1 + 2 * m) ≡ true
standing m = eq-eqb ((1 + 2 * m) % 2) 1 (omega arith)

not-standing : (m : ℕ) → stands (0 + 2 * m) ≡ false
not-standing m = ne_eqb ((0 + 2 * m) % 2) 1 (λ e. omega arith)

above-1 : (m : ℕ) → (1 + 2 * m) / 2 ≡ m
above-1 m = omega arith

above-0 : (m : ℕ) → (0 + 2 * m) / 2 ≡ m
above-0 m = omega arith

-- ---- a record says the fields that it was made of

pub map_below : (fs : List Field) → map_of fs < 2 ^ length fs
unfolding map_of
map_below [] = omega arith
map_below (f ∷ fs) =
    let h = map_below fs in
    let p : 2 ^ suc (length fs) ≡ 2 ^ length fs + 2 ^ length fs = two-pow-succ (length fs) in
    by-test (differs f) (λ y. rw y (omega arith)) (λ n. rw n (omega arith))

pub size-said : (fs : List Field) → size_of (resets fs) (map_of fs) ≡ length (changed_of fs)
unfolding size_of map_of changed_of
size-said [] = refl
size-said (f ∷ fs) =
    by-test (differs f)
    (λ y. rw (y, standing (map_of fs), above-1 (map_of fs), size-said fs, length-append (bytes_of f.width f.now) (changed_of fs), length-bytes f.width f.now))
    (λ n. rw (n, not-standing (map_of fs), above-0 (map_of fs), size-said fs, zero-add (length (changed_of fs))))

not_eqb : (a b : ℕ) → not (eqb a b) ≡ false → a ≡ b
not_eqb a b h = eqb-true a b (turned (eqb a b) h)
  where
    turned : (t : Bool) → not t ≡ false → t ≡ true
    turned true h = refl
    turned false h = sym h

field-path : (w b n k : ℕ) → n ≡ k → ◌≡◌ {A = Field} (record { width = w; before = b; now = n }) (record { width = w; before = b; now = k })
field-path w b n k e = rw e

pub fields-said : (fs : List Field) → Fit fs → (rest : List ℕ) → read_fields (resets fs) (map_of fs) (changed_of fs ++ rest) ≡ fs
unfolding read_fields map_of changed_of
fields-said [] h rest = refl
fields-said (f ∷ fs) h rest =
    by-test (differs f)
    (λ y.
    let own = bytes_of f.width f.now in
    let long : length own ≡ f.width = length-bytes f.width f.now in
    rw (y, standing (map_of fs), above-1 (map_of fs), append_assoc own (changed_of fs) rest, take_at own (changed_of fs ++ rest) f.width long, drop_at own (changed_of fs ++ rest) f.width long, number-bytes f.width f.now h.0, fields-said fs h.1 rest))
    (λ n. rw (n, not-standing (map_of fs), above-0 (map_of fs), fields-said fs h.1 rest, not_eqb f.now f.before n))

pub differ-said : (fs : List Field) → all_differ fs (map_of fs) ≡ true
unfolding all_differ map_of
differ-said [] = refl
differ-said (f ∷ fs) =
    by-test (differs f)
    (λ y. rw (y, standing (map_of fs), above-1 (map_of fs), differ-said fs))
    (λ n. rw (n, not-standing (map_of fs), above-0 (map_of fs), differ-said fs))

-- ---- fields that are read are those of the record that was read

odd-map : (m k : ℕ) → stands m ≡ true → k ≡ m / 2 → 1 + 2 * k ≡ m
odd-map m k h e = omega (arith, eqb-true (m % 2) 1 h)

even-map : (m k : ℕ) → stands m ≡ false → k ≡ m / 2 → 0 + 2 * k ≡ m
even-map m k h e = omega (arith, even)
  where
    even : m % 2 ≡ 0
    even = by-test (eqb (m % 2) 1) (λ y. absurd (true≢false (sym y ∙ h))) (λ n. omega (arith, eqb-false (m % 2) 1 n))

unequal-self : (a : ℕ) → not (eqb a a) ≡ false
unequal-self a = rw (eq-eqb a a refl)

half-below : (m n : ℕ) → m < 2 ^ suc n → m / 2 < 2 ^ n
half-below m n h = let p : 2 ^ suc n ≡ 2 ^ n + 2 ^ n = two-pow-succ n in omega arith

bytes-dropped : (k : ℕ) (bs : List ℕ) → Bytes bs → Bytes (drop k bs)
bytes-dropped k bs h i = rw (get_or-drop k bs i 0) (h (k + i))

bytes-taken : (k : ℕ) (bs : List ℕ) → Bytes bs → Bytes (take k bs)
bytes-taken zero bs h i = omega arith
bytes-taken (suc k) [] h i = omega arith
bytes-taken (suc k) (b ∷ bs) h zero = h 0
bytes-taken (suc k) (b ∷ bs) h (suc i) = bytes-taken k bs (λ j. h (suc j)) i

pub fields_read : (fs : List Field) (m : ℕ) (bytes : List ℕ) → m < 2 ^ length fs → size_of fs m ≤ length bytes → Bytes bytes → all_differ (read_fields fs m bytes) m ≡ true → Read fs m bytes
unfolding size_of read_fields all_differ map_of changed_of
fields_read [] m bytes b room own d = record { map_is = let z : 0 ≡ m = omega arith in z; changed_is = refl }
fields_read (f ∷ fs) m bytes b room own d =
    by-test (stands m)
    (λ y.
    let w = f.width in
    let n = number_in (take w bytes) in
    let rest = read_fields fs (m / 2) (drop w bytes) in
    let d₁ : (not (eqb n f.before) && all_differ rest (m / 2)) ≡ true = rw y at d in
    let room₁ : w + size_of fs (m / 2) ≤ length bytes = rw y at room in
    let unlike = and_left (not (eqb n f.before)) (all_differ rest (m / 2)) d₁ in
    let more = fields_read fs (m / 2) (drop w bytes) (half-below m (length fs) b) (rw (length-drop w bytes) (omega arith)) (bytes-dropped w bytes own) (and_right (not (eqb n f.before)) (all_differ rest (m / 2)) d₁) in
    let long : length (take w bytes) ≡ w = length-take-le w bytes (omega arith) in
    let back : bytes_of w n ≡ take w bytes = rw long at (bytes-number (take w bytes) (bytes-taken w bytes own)) in
    record {
      map_is = rw (y, unlike) (odd-map m (map_of rest) y more.map_is);
      changed_is = rw (y, unlike, back, more.changed_is) (sym (take-add w (size_of fs (m / 2)) bytes));
    })
    (λ n.
    let rest = read_fields fs (m / 2) (drop 0 bytes) in
    let d₁ : all_differ rest (m / 2) ≡ true = rw n at d in
    let room₁ : 0 + size_of fs (m / 2) ≤ length bytes = rw n at room in
    let more = fields_read fs (m / 2) bytes (half-below m (length fs) b) (omega arith) own d₁ in
    record {
      map_is = rw (n, unequal-self f.before) (even-map m (map_of rest) n more.map_is);
      changed_is = rw (n, unequal-self f.before, zero-add (size_of fs (m / 2))) more.changed_is;
    })
