-- `digits_in` meets its contract: one run after the other.
use Rattle.elements.specs.RunLoops.{digits_at}
use Rattle.elements.proofs.digits_in.Goals as goal

pub returns : goal.returns
unfolding digits_at
returns c =
    rw (
      c.run_digit.ensures,
      c.run_digit-2.ensures,
      c.run_digit-3.ensures,
      c.run_digit-4.ensures,
      c.run_digit-5.ensures,
      c.run_digit-6.ensures,
      c.run_digit-7.ensures,
      c.run_digit-8.ensures,
      c.run_digit-9.ensures,
      c.run_digit-10.ensures,
      c.run_digit-11.ensures,
      c.run_digit-12.ensures,
      c.run_digit-13.ensures,
      c.run_digit-14.ensures,
      c.run_digit-15.ensures,
      c.run_digit-16.ensures,
      c.run_digit-17.ensures,
      c.run_digit-18.ensures,
      c.run_digit-19.ensures,
      c.run_digit-20.ensures,
    )
