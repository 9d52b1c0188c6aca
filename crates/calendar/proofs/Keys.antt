-- A moment as one number, its key: the moment comes back from it, and keys are ordered as moments.
use Rattle.std.specs.Prelude.{◌≡◌, true, false, ℕ, ◌+◌, ◌*◌, ◌%◌, ◌<◌, ◌≤◌, ltb}
use Rattle.std.proofs.Common.{sym, ap, ◌∙◌, arith, lt-ltb, le-ltb}
use Rattle.std.proofs.Math.Arith.{digits_div, digits_mod}
use Rattle.timecode.proofs.Laws.Tests.{by-test}
use Rattle.timecode.specs.declared.Time.{Time}
use Rattle.calendar.specs.Moments.{earlier}
use Rattle.calendar.specs.Order.{Earlier, by-year, by-day, by-hundredth}
use Rattle.calendar.proofs.Order.{is-earlier, one-or-other}
use Rattle.calendar.specs.Windows.{key_of, time_of}
use Rattle.calendar.specs.Keys.{Small}

key-less : (t u : Time) → Small t → Small u → Earlier t u → key_of t < key_of u
unfolding key_of
key-less t u s r (by-year h) = omega (arith, s.day, s.hundredths)
key-less t u s r (by-day y h) = omega (arith, s.hundredths)
key-less t u s r (by-hundredth y d h) = omega arith

same_or : (t u : Time) → earlier t u ≡ false → (earlier u t ≡ true → key_of u < key_of t) → key_of u ≤ key_of t
same_or t u n less = by-test (earlier u t) (λ y. let l = less y in omega arith) (λ m. let e : key_of t ≡ key_of u = ap key_of (one-or-other t u n m) in omega arith)

pub key-order : (t u : Time) → Small t → Small u → earlier t u ≡ ltb (key_of t) (key_of u)
key-order t u s r =
    by-test (earlier t u)
    (λ y. y ∙ sym (lt-ltb (key_of t) (key_of u) (key-less t u s r (is-earlier t u y))))
    (λ n. n ∙ sym (le-ltb (key_of t) (key_of u) (same_or t u n (λ y. key-less u t r s (is-earlier u t y)))))

pub key_back : (t : Time) → Small t → time_of (key_of t) ≡ t
unfolding time_of key_of
key_back t s =
    let high = digits_div (t.year * 65536 + t.day) s.hundredths in
    let low = digits_mod (t.year * 65536 + t.day) s.hundredths in
    let year = digits_div t.year s.day in
    let day = digits_mod t.year s.day in
    let byte : t.year % 256 ≡ t.year = omega (arith, s.year) in
    rw (high, low, year, day, byte)

-- ---- any number as a key: what stands above its 56 bits is left out

pub time-small : (k : ℕ) → Small (time_of k)
unfolding time_of
time-small k = record { year = omega arith; day = omega arith; hundredths = omega arith }

pub back-key : (k : ℕ) → key_of (time_of k) ≡ k % 72057594037927936
unfolding time_of key_of
back-key k = omega arith
