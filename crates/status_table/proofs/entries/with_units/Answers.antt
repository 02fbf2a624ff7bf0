use Rattle.std.proofs.Common.{sym, subst}
use Rattle.std.specs.Prelude.{IsTrue}
use Rattle.asm_formats.specs.Status.{Status, is_status}
use Rattle.status_table.proofs.Kept.{units_keep}
use Rattle.status_table.proofs.entries.with_units.Goals as goal

pub returns-clause-kept : goal.returns-clause-kept
returns-clause-kept c = λ few ok. subst (λ (r : Status). IsTrue (is_status r)) (sym c.with_change.ensures) (units_keep c.args.status.now c.args.disk c.args.units few ok)
