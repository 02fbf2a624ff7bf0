use Rattle.std.proofs.Common.{sym, subst, arith}
use Rattle.std.specs.Prelude.{IsTrue}
use Rattle.asm_formats.specs.Status.{Status, is_status}
use Rattle.status_table.proofs.Kept.{mode_keeps}
use Rattle.status_table.proofs.entries.with_mode.Goals as goal

pub returns-clause-kept : goal.returns-clause-kept
returns-clause-kept c = λ ok. subst (λ (r : Status). IsTrue (is_status r)) (sym c.with_change.ensures) (mode_keeps c.args.status.now c.args.disk c.args.mode c.args.since (omega (arith, c.ranges.since.fits)) ok)
