use Rattle.std.proofs.Common.{sym, subst, arith}
use Rattle.std.specs.Prelude.{IsTrue}
use Rattle.asm_formats.specs.Status.{Status, is_status}
use Rattle.status_table.proofs.Kept.{repair_keeps}
use Rattle.status_table.proofs.entries.with_repair.Goals as goal

pub returns-clause-kept : goal.returns-clause-kept
returns-clause-kept c = λ ok. subst (λ (r : Status). IsTrue (is_status r)) (sym c.with_change.ensures) (repair_keeps c.args.status.now c.args.disk c.args.repair (omega (arith, c.ranges.repair.fits)) ok)
