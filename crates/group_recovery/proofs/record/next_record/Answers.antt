use Rattle.std.proofs.Common.{sym, subst}
use Rattle.std.specs.Prelude.{IsTrue}
use Rattle.asm_formats.specs.Status.{Status, is_status}
use Rattle.group_recovery.proofs.NextRecords.{record_has}
use Rattle.group_recovery.proofs.record.next_record.Goals as goal

pub returns-clause-allowed : goal.returns-clause-allowed
returns-clause-allowed c =
    c.with_partners.ensures.kept
    (c.with_dirs-named.ensures.kept
    (c.with_modes-moded.ensures.kept (subst (λ (r : Status). IsTrue (is_status r)) (sym c.value-status.ensures) c.requires.status))
    (record_has c.args.quorate.now c.marked_disks-marked.result c.args.now c.disks_of-dirs.result c.value-status.result.now c.with_modes-moded.result
    c.copies.result.now c.requires c.value-status.ensures c.with_modes-moded.ensures.value c.copies.ensures c.disks_of-dirs.ensures))
