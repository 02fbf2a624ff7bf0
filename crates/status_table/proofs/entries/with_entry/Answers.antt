use Rattle.std.proofs.Common.{sym, subst}
use Rattle.std.specs.Prelude.{IsTrue}
use Rattle.asm_formats.specs.Status.{Status, is_status}
use Rattle.status_table.proofs.Inserted.{entry_keeps}
use Rattle.status_table.proofs.entries.with_entry.Goals as goal

pub returns-clause-kept : goal.returns-clause-kept
returns-clause-kept c = λ fit none ok. subst (λ (r : Status). IsTrue (is_status r)) (sym c.with_entry_only.ensures) (entry_keeps c.args.status.now c.args.entry fit none ok)
