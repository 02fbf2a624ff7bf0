use Rattle.std.proofs.Common.{sym, subst}
use Rattle.std.specs.Prelude.{IsTrue}
use Rattle.asm_formats.specs.Status.{Status, is_status}
use Rattle.status_table.proofs.Kept.{partners_keep}
use Rattle.status_table.proofs.entries.with_partners.Goals as goal

pub returns-clause-kept : goal.returns-clause-kept
returns-clause-kept c = λ ok. subst (λ (r : Status). IsTrue (is_status r)) (sym c.with_partners_only.ensures.value) (partners_keep c.args.status.now c.args.partners.now c.requires c.with_partners_only.ensures.kept ok)
