use Rattle.std.proofs.Common.{rules}
use Rattle.directory_store.specs.change_directory.declared.copy.DirCopy.{DirCopy}
use Rattle.group_recovery.proofs.NextRecords.{first_copy, no_disks, rest_copy}
use Rattle.group_recovery.proofs.record.+disks_of.Goals as goal

pub returns-in_default : goal.returns-in_default
returns-in_default t c = λ d lt. no_disks c.empty.result c.args.copies.now c.empty.ensures c.in_default.len_below d

pub disks_of-requires : goal.disks_of-requires
disks_of-requires t c = (search rules, λ k among. c.requires k (rest_copy c.args.copies.now k among))

pub with-requires : goal.with-requires
with-requires t c =
    let none : DirCopy = record { number = 0; slot = 0; dir_blocks = 0; sector = 0 } in
    c.requires _ (first_copy c.args.copies.now none c.in-len1-up.len_at_least)
