-- `print_result` meets its contract: the bytes that it prints are the first ones, as many as the read brought.
use Rattle.std.proofs.Common.{rules, sym}
use Rattle.printing.specs.Printing.{after-read-bytes}
use Rattle.printing.proofs.print_result.Goals as goal

pub returns-in-Some : goal.returns-in-Some
returns-in-Some c =
    rw c.in-Some.is (after-read-bytes c.args.progress c.args.input.now c.print_part.result c.in-Some.n (search rules) (rw (sym c.min.ensures) c.print_part.ensures))
