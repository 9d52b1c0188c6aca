-- `symbol_of_byte` meets its contract.
use borrow.Author.Tests.{eq-eqb, ne_eqb}
use Rattle.characters.proofs.Decoding.{digit-symbol, other-symbol}
use Rattle.characters.proofs.symbol_of_byte.Goals as goal

pub returns-then-byte : goal.returns-then-byte
returns-then-byte c = digit-symbol _ c.if-byte.true

pub returns-then-byte-eq80 : goal.returns-then-byte-eq80
returns-then-byte-eq80 c = rw (other-symbol _ c.if-byte.false, eq-eqb _ _ c.if-byte-eq80.true)

pub returns-then-byte-eq45 : goal.returns-then-byte-eq45
returns-then-byte-eq45 c = rw (other-symbol _ c.if-byte.false, ne_eqb _ _ c.if-byte-eq80.false, eq-eqb _ _ c.if-byte-eq45.true)

pub returns-else-byte-eq45 : goal.returns-else-byte-eq45
returns-else-byte-eq45 c = rw (other-symbol _ c.if-byte.false, ne_eqb _ _ c.if-byte-eq80.false, ne_eqb _ _ c.if-byte-eq45.false)
