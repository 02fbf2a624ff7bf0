use Rattle.std.proofs.Common.{sym, subst}
use Rattle.std.specs.Prelude.{IsTrue}
use Rattle.asm_formats.specs.Status.{Status, is_status}
use Rattle.status_table.proofs.Kept.{gone_keeps}
use Rattle.status_table.proofs.changes.with_gone.Goals as goal

pub returns-clause-kept : goal.returns-clause-kept
returns-clause-kept c = λ ok. subst (λ (r : Status). IsTrue (is_status r)) (sym c.with_gone_only.ensures) (gone_keeps c.args.status.now ok)
