-- `with_symbol` meets its contract.
use Rattle.stream.specs.Feeding.{with_symbol_of}
use Rattle.stream.proofs.Feeding.{valid-place}
use Rattle.stream.proofs.with_symbol.Goals as goal

pub place_after-place-requires : goal.place_after-place-requires
place_after-place-requires c = (rw c.frame_size-n.ensures.0 (valid-place c.args.reader c.requires), c.frame_size-n.ensures.2)

pub returns : goal.returns
unfolding with_symbol_of
returns c = rw (← c.frame_size-n.ensures.0, ← c.receive-received.ensures, ← c.place_after-place.ensures, ← c.with_register-next.ensures) c.when_whole.ensures
