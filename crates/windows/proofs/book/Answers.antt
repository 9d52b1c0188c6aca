-- `book` meets its contract: 17, 2, 22, then 21 or the keys.
use Rattle.std.proofs.lemmas.Result.{err_from_is_err_and}
use mathlib.Core.Path.{sym, ◌∙◌, refl}
use Rattle.windows.specs.Ways.{book-keys, book-refused, window-path}
use Rattle.windows.proofs.book.Goals as goal

pub returns : goal.returns
returns c = book-keys _ _ _ _ _ (sym c.check_dates.ensures ∙ c.in_ok-check_dates.was) (window-path _ _ _ _ c.moment_of.ensures c.moment_of-2.ensures) c.keys_of.ensures

pub returns-in_err-check_dates : goal.returns-in_err-check_dates
returns-in_err-check_dates c =
    let p = err_from_is_err_and c.from_residual.result c.from_residual.ensures.1 in
    rw (p.1, p.2) (book-refused _ _ _ _ _ (sym c.check_dates.ensures ∙ c.in_err-check_dates.was) refl)
