use Rattle.std.proofs.Common.{sym, subst, arith}
use Rattle.std.specs.Prelude.{IsTrue}
use Rattle.asm_formats.specs.Status.{Status, is_status}
use Rattle.status_table.proofs.Kept.{births_keep}
use Rattle.status_table.proofs.changes.with_births.Goals as goal

pub returns-clause-kept : goal.returns-clause-kept
returns-clause-kept c = λ ok. subst (λ (r : Status). IsTrue (is_status r)) (sym c.with_births_only.ensures) (births_keep c.args.status.now c.args.births (omega (arith, c.ranges.births.fits)) ok)
