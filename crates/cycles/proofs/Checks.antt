-- The checks of encoding and decoding taken apart: what a call that was done has passed, and what a refused one is refused with.
use Rattle.std.specs.Prelude.{◌≡◌, true, List, ℕ, ◌*◌, leb, eqb, length, Result, Err}
use Rattle.std.proofs.Common.{sym, eqb-true, eq-eqb}
use Rattle.timecode.specs.Answers.{check, done}
use Rattle.timecode.specs.Formats.{size}
use Rattle.timecode.proofs.Laws.Checks.{passed, all-passed, refused-alike, done-taken}
use Rattle.timecode.proofs.Laws.Tests.{and_left, and_right}
use Rattle.timecode.specs.declared.Format.{Format}
use Rattle.timecode.specs.declared.Refusal.{Refusal}
use Rattle.timecode.specs.declared.Refusal.TheVariants.{UnknownSymbol, UnknownCycle}
use Rattle.cycles.specs.Cycles.{cycle_checks, check_frame, unspoiled, encode_of, first_improper, decode_of}
use Rattle.cycles.specs.Checks.{Checked}

pub checked : (f : Format) (M symbols cycles : ℕ) (answer : Result Unit Refusal) → check_frame f M symbols cycles answer ≡ done → Checked f M symbols cycles × (answer ≡ done)
unfolding check_frame
checked f M symbols cycles answer h =
    let all = all-passed Err (cycle_checks f M symbols cycles) answer done done-taken h in
    let lengths = all.0 2 in (
      record {
        format = all.0 0;
        count = all.0 1;
        elements = eqb-true symbols (size f) (and_left (eqb symbols (size f)) (eqb cycles (size f * M)) lengths);
        all = eqb-true cycles (size f * M) (and_right (eqb symbols (size f)) (eqb cycles (size f * M)) lengths);
      },
      all.1,
    )

pub checks-pass : (f : Format) (M symbols cycles : ℕ) (answer : Result Unit Refusal) → Checked f M symbols cycles → check_frame f M symbols cycles answer ≡ answer
unfolding check_frame
checks-pass f M symbols cycles answer c = rw (c.format, c.count, eq-eqb symbols (size f) c.elements, eq-eqb cycles (size f * M) c.all)

pub checks-refuse : (f : Format) (M symbols cycles : ℕ) (answer : Result Unit Refusal) (r : Refusal) → check_frame f M symbols cycles done ≡ Err r → check_frame f M symbols cycles answer ≡ Err r
unfolding check_frame
checks-refuse f M symbols cycles answer r h = refused-alike Err (cycle_checks f M symbols cycles) done answer (Err r) (λ e. done-taken r (sym e)) h

pub encoded : (f : Format) (M : ℕ) (frame lent : List ℕ) → encode_of f M frame lent ≡ done → Checked f M (length frame) (length lent) × (unspoiled frame ≡ true)
unfolding encode_of
encoded f M frame lent h =
    let c = checked f M (length frame) (length lent) (check Err UnknownSymbol (unspoiled frame) done) h in
    (c.0, (passed Err UnknownSymbol (unspoiled frame) done done done-taken c.1).0)

pub decoded : (f : Format) (M : ℕ) (cycles lent : List ℕ) → decode_of f M cycles lent ≡ done → Checked f M (length lent) (length cycles) × (leb (length cycles) (first_improper cycles) ≡ true)
unfolding decode_of
decoded f M cycles lent h =
    let k = UnknownCycle (first_improper cycles) in
    let c = checked f M (length lent) (length cycles) (check Err k (leb (length cycles) (first_improper cycles)) done) h in
    (c.0, (passed Err k (leb (length cycles) (first_improper cycles)) done done done-taken c.1).0)
