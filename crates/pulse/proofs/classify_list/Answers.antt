-- `classify_list` meets its contract: done with every symbol and deviation set, or refused with both lists as they were.
use borrow.Author.Tests.{eq-eqb, ne_eqb}
use Rattle.timecode.specs.Calls.{classify_list_of}
use Rattle.pulse.specs.Pulses.{list-refused, list_done}
use Rattle.pulse.proofs.classify_list.Goals as goal

pub returns-then-deviations-symbols : goal.returns-then-deviations-symbols
unfolding classify_list_of
returns-then-deviations-symbols c =
    let start = c.args in
    list_done start.settings start.interval start.widths.now start.periods.now start.symbols.now start.deviations.now _ _ (rw (← c.is_interval.ensures, c.if-is_interval.true, ← c.are_settings.ensures, c.if-are_settings.true, eq-eqb _ _ c.if-widths-symbols.true, eq-eqb _ _ c.if-periods-symbols.true, eq-eqb _ _ c.if-deviations-symbols.true)) c.put_pulses.ensures.0 c.put_pulses.ensures.1

pub returns-else-deviations-symbols : goal.returns-else-deviations-symbols
unfolding classify_list_of
returns-else-deviations-symbols c =
    let start = c.args in
    list-refused start.settings start.interval start.widths.now start.periods.now start.symbols.now start.deviations.now _ (rw (← c.is_interval.ensures, c.if-is_interval.true, ← c.are_settings.ensures, c.if-are_settings.true, eq-eqb _ _ c.if-widths-symbols.true, eq-eqb _ _ c.if-periods-symbols.true, ne_eqb _ _ c.if-deviations-symbols.false))

pub returns-else-periods-symbols : goal.returns-else-periods-symbols
unfolding classify_list_of
returns-else-periods-symbols c =
    let start = c.args in
    list-refused start.settings start.interval start.widths.now start.periods.now start.symbols.now start.deviations.now _ (rw (← c.is_interval.ensures, c.if-is_interval.true, ← c.are_settings.ensures, c.if-are_settings.true, eq-eqb _ _ c.if-widths-symbols.true, ne_eqb _ _ c.if-periods-symbols.false))

pub returns-else-widths-symbols : goal.returns-else-widths-symbols
unfolding classify_list_of
returns-else-widths-symbols c =
    let start = c.args in
    list-refused start.settings start.interval start.widths.now start.periods.now start.symbols.now start.deviations.now _ (rw (← c.is_interval.ensures, c.if-is_interval.true, ← c.are_settings.ensures, c.if-are_settings.true, ne_eqb _ _ c.if-widths-symbols.false))

pub returns-then-is_interval : goal.returns-then-is_interval
unfolding classify_list_of
returns-then-is_interval c =
    let start = c.args in
    list-refused start.settings start.interval start.widths.now start.periods.now start.symbols.now start.deviations.now _ (rw (← c.is_interval.ensures, c.if-is_interval.true, ← c.are_settings.ensures, c.if-are_settings.false))

pub returns : goal.returns
unfolding classify_list_of
returns c =
    let start = c.args in
    list-refused start.settings start.interval start.widths.now start.periods.now start.symbols.now start.deviations.now _ (rw (← c.is_interval.ensures, c.if-is_interval.false))
