-- The classes of the table, symbol by symbol.
use Rattle.std.proofs.Common.{arith}
use Rattle.pulse.specs.Pulses.{class-0, class-1, class-2}
use Rattle.pulse.proofs.class_of.Goals as goal

pub returns-in-0 : goal.returns-in-0
returns-in-0 c h = class-0 c.args.settings _ c.in-0.is

pub returns-in-1 : goal.returns-in-1
returns-in-1 c h = class-1 c.args.settings _ c.in-1.is

pub returns-in_default : goal.returns-in_default
returns-in_default c h = class-2 c.args.settings _ h (omega arith) (omega arith)
