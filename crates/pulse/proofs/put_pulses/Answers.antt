-- The symbols and the deviations below i are set.
use Rattle.std.proofs.Common.{◌≡◌, ap, ◌∙◌, ℕ, ℤ, length, take, set, ◌+◌, arith}
use Rattle.timecode.proofs.Laws.Runs.{fill_step, fill_end}
use Rattle.pulse.specs.Pulses.{pulse-classed, pulse-deviation, deviation-back, pulse, pulses-tabulated}
use Rattle.pulse.proofs.put_pulses.Goals as goal

pub deviation_of-requires : goal.deviation_of-requires
deviation_of-requires c = pulse-classed c.args.settings c.args.interval _ _ _ c.requires.1 c.symbol_of-symbol.ensures c.requires.0

pub loop-i-preserved : goal.loop-i-preserved
loop-i-preserved c =
    let given = c.args in
    let l = c.loop-i in
    let deviation = c.deviation_of.ensures ∙ pulse-deviation given.settings given.interval _ _ _ c.requires.1 c.symbol_of-symbol.ensures in (
      ap (λ (s : ℕ). take (l.i + 1) (set l.symbols l.i s)) c.symbol_of-symbol.ensures
          ∙ fill_step l.symbols (λ j. (pulse given.settings given.interval given.widths.now given.periods.now j).symbol) l.i (omega arith) l.invariant.0,
      ap (λ (z : ℤ). take (l.i + 1) (set l.deviations l.i z)) (deviation-back given.settings given.interval _ _ c.requires.0 c.requires.1 _ deviation ∙ deviation)
          ∙ fill_step l.deviations (λ j. (pulse given.settings given.interval given.widths.now given.periods.now j).deviation) l.i (omega arith) l.invariant.1,
    )

pub returns : goal.returns
returns c =
    let given = c.args in
    let l = c.loop-i in
    let n = length given.symbols.now in
    let all : l.i ≡ n = omega arith in (
      fill_end l.symbols (λ j. (pulse given.settings given.interval given.widths.now given.periods.now j).symbol) n (omega arith) (rw all at l.invariant.0)
          ∙ pulses-tabulated (λ p. p.symbol) given.settings given.interval given.widths.now given.periods.now n c.requires.2 c.requires.3,
      fill_end l.deviations (λ j. (pulse given.settings given.interval given.widths.now given.periods.now j).deviation) n (omega arith) (rw all at l.invariant.1)
          ∙ pulses-tabulated (λ p. p.deviation) given.settings given.interval given.widths.now given.periods.now n c.requires.2 c.requires.3,
    )
