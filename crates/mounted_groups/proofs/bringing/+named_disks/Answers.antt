use Rattle.std.proofs.Common.{rules}
use Rattle.status_register.specs.declared.member.Member.{Member}
use Rattle.mounted_groups.proofs.Brought.{first_disk, none_named, rest_disk}
use Rattle.mounted_groups.proofs.bringing.+named_disks.Goals as goal

pub returns-in_default : goal.returns-in_default
returns-in_default t c = λ d lt. none_named c.empty.result c.args.status.now c.args.disks.now c.empty.ensures c.in_default.len_below d

pub named_disks-others-requires : goal.named_disks-others-requires
named_disks-others-requires t c = (search rules, λ m among. c.requires m (rest_disk c.args.disks.now m among))

pub with-requires : goal.with-requires
with-requires t c =
    let none : Member = record { slot = 0; number = 0; birth = 0; sector = 0 } in
    c.requires _ (first_disk c.args.disks.now none c.in-len1-up.len_at_least)
