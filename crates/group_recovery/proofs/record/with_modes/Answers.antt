use Rattle.group_recovery.proofs.Entries.{moded_kept}
use Rattle.group_recovery.proofs.record.with_modes.Goals as goal

pub returns-clause-kept : goal.returns-clause-kept
returns-clause-kept c = λ ok. moded_kept c.args.quorate.now c.args.marked c.args.now c.args.status.now c.entries-entries.result.now c.all_moded-items.result c.with_entries.result
    c.entries-entries.ensures.entries c.all_moded-items.ensures.value c.all_moded-items.ensures.kept c.with_entries.ensures ok
