-- What the machine shows if it has reached the cycle.
use Rattle.std.proofs.Common.{◌<◌, arith, ℕ, subst}
use Rattle.tomex_cycle.specs.Seen.{seen}
use Rattle.tomex_command.specs.RunViews.{IsTextAfter}
use Rattle.tomex_command.proofs.Reached.{has_advanced, is_text}
use Rattle.tomex_command.proofs.commands.tables.text_after.Goals as goal

pub returns-clause-text : goal.returns-clause-text
returns-clause-text g c =
    let config = c.args.chosen.now.config.now in
    let program = c.args.chosen.now.program.now in
    let has = has_advanced config program _ _ _ c.keeps_limits.ensures
    (rw c.image.ensures.value at c.in_ok-machine.ensures.start) c.advance.ensures.advances.after_ticks in
    let short : c.advance.new.self.cycle < c.from-cycle.result → ⊥ =
    λ less. omega (arith, less, c.cycle.ensures.value, c.if-cycle.false) in
    subst (λ (k : ℕ). IsTextAfter config program k c.in_ok-tables_text.field-0.items) c.from-cycle.ensures
    (is_text config program c.from-cycle.result (seen c.advance.new.self) c.tables.result _ c.keeps_limits.ensures has
    short c.tables.ensures.ends c.in_ok-tables_text.ensures)
