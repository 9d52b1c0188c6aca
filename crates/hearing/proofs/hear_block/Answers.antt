-- `hear_block` meets its contract: the block takes its symbols up to where it stops, and one more is fed by itself.
-- the lent list before the block, with room for 16 reports
use native.Mathlib.Omega.{arith}
use mathlib.Core.Path.{◌≡◌, refl, ap, ◌∙◌}
use mathlib.Core.Bool.{true}
use Prim.Native.Nat.{◌≤◌, ◌<◌}
use lib.ListN.{length, replicate, take}
use Rattle.block.specs.Blocks.{Lists, lists, are_records}
use Rattle.progress.specs.declared.Progress.{Progress}
use Rattle.hearing.specs.Hearing.{fed-within, fed-few, fed-fits, fed-taken, fed-next}
use Rattle.hearing.proofs.hear_block.Goals as goal

abbrev blank : Lists
blank = lists (replicate 16 0) (replicate 16 0) (replicate 16 0) (replicate 16 0) (replicate 16 0)

are-records : are_records blank ≡ true
are-records = refl

pub put_lines-filled-requires : goal.put_lines-filled-requires
put_lines-filled-requires c =
    let a = c.args in
    let pre = c.requires in
    let fed = c.feed_block-fed.ensures.value in
    let reports = c.reports_of in
    let fits : reports.result ≤ 16 = rw reports.ensures (fed-fits a.progress a.symbols.now blank are-records _ fed) in
    let most : reports.result ≤ length a.symbols.now =
    omega (arith, reports.ensures, fed-few a.progress a.symbols.now blank are-records _ fed, fed-within a.progress a.symbols.now blank are-records _ fed) in
    (omega arith, omega arith, omega arith, omega arith, omega arith, omega (arith, pre.2), pre.3)

pub returns-then-taken-symbols : goal.returns-then-taken-symbols
returns-then-taken-symbols c =
    let a = c.args in
    let pre = c.requires in
    let fed = c.feed_block-fed.ensures in
    let put = c.put_lines-filled.ensures in
    let taken = c.taken_of-taken in
    let part = fed-taken a.progress a.symbols.now blank are-records _ fed.value pre.0 _ fed.controls_after _ c.reports_of.ensures (take a.at a.out.now) _ put.2 taken.result taken.ensures in
    let most : c.reports_of.result ≤ taken.result = omega (arith, c.reports_of.ensures, taken.ensures, fed-few a.progress a.symbols.now blank are-records _ fed.value) in
    let all = c.if-taken-symbols.true in
    let is = c.heard_at.ensures in
    (omega (arith, all, is.1, pre.1), omega (arith, all, is.1), omega (arith, is.1, is.2, put.0), put.1, is.0 ∙ c.progress_after-current.ensures ∙ rw is.1 part.0, rw (is.1, is.2) part.1)

pub bounds-symbols-taken : goal.bounds-symbols-taken
bounds-symbols-taken c =
    let a = c.args in
    let within : c.taken_of-taken.result ≤ length a.symbols.now = rw c.taken_of-taken.ensures (fed-within a.progress a.symbols.now blank are-records _ c.feed_block-fed.ensures.value) in
    omega (arith, c.if-taken-symbols.false)

pub feed_one-told-requires : goal.feed_one-told-requires
feed_one-told-requires c =
    let a = c.args in
    let pre = c.requires in
    let fed = c.feed_block-fed.ensures.value in
    let put = c.put_lines-filled.ensures in
    let taken = c.taken_of-taken in
    let within : taken.result ≤ length a.symbols.now = rw taken.ensures (fed-within a.progress a.symbols.now blank are-records _ fed) in
    let most : c.reports_of.result ≤ taken.result = omega (arith, c.reports_of.ensures, taken.ensures, fed-few a.progress a.symbols.now blank are-records _ fed) in
    (ap (λ (p : Progress). p.ended) c.progress_after-current.ensures, omega (arith, pre.2, put.0, c.if-taken-symbols.false), put.1)

pub overflow_add-taken : goal.overflow_add-taken
overflow_add-taken c =
    let a = c.args in
    let within : c.taken_of-taken.result ≤ length a.symbols.now = rw c.taken_of-taken.ensures (fed-within a.progress a.symbols.now blank are-records _ c.feed_block-fed.ensures.value) in
    omega (arith, c.if-taken-symbols.false, c.requires.2)

pub returns-else-taken-symbols : goal.returns-else-taken-symbols
returns-else-taken-symbols c =
    let a = c.args in
    let pre = c.requires in
    let fed = c.feed_block-fed.ensures in
    let put = c.put_lines-filled.ensures in
    let one = c.feed_one-told.ensures in
    let taken = c.taken_of-taken in
    let current = c.progress_after-current.ensures in
    let within : taken.result ≤ length a.symbols.now = rw taken.ensures (fed-within a.progress a.symbols.now blank are-records _ fed.value) in
    let under : taken.result < length a.symbols.now = omega (arith, c.if-taken-symbols.false) in
    let most : c.reports_of.result ≤ taken.result = omega (arith, c.reports_of.ensures, taken.ensures, fed-few a.progress a.symbols.now blank are-records _ fed.value) in
    let part = fed-next a.progress a.symbols.now blank are-records _ fed.value pre.0 _ fed.controls_after _ c.reports_of.ensures (take a.at a.out.now) _ put.2 taken.result taken.ensures under in
    let is = c.heard_at-else-taken-symbols.ensures in
    (omega (arith, is.1), omega (arith, is.1), omega (arith, is.1, is.2, one.0, put.0), one.1, is.0 ∙ one.2 ∙ rw (current, is.1) part.0, rw (is.1, is.2) (one.3 ∙ rw current part.1))
