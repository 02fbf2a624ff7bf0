use Rattle.std.proofs.Common.{sym, subst}
use Rattle.std.specs.Prelude.{IsTrue}
use Rattle.asm_formats.specs.Status.{Status, is_status}
use Rattle.status_table.proofs.Inserted.{without_keeps}
use Rattle.status_table.proofs.entries.without_entry.Goals as goal

pub returns-clause-kept : goal.returns-clause-kept
returns-clause-kept c = λ out ok. subst (λ (r : Status). IsTrue (is_status r)) (sym c.without_entry_only.ensures) (without_keeps c.args.status.now c.args.disk out ok)
