use Rattle.std.proofs.Common.{sym, subst}
use Rattle.std.specs.Prelude.{IsTrue}
use Rattle.asm_formats.specs.Status.{Status, is_status}
use Rattle.status_table.proofs.Kept.{next_keeps}
use Rattle.status_table.proofs.changes.with_next_holders.Goals as goal

pub returns-clause-kept : goal.returns-clause-kept
returns-clause-kept c = λ ok have. subst (λ (r : Status). IsTrue (is_status r)) (sym c.with_next_holders_only.ensures) (next_keeps c.args.status.now c.args.next c.bits-bits.ensures.small ok have)
