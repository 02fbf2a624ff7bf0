use Rattle.std.proofs.Common.{get_or}
use Rattle.std.specs.List.{list_any}
use Rattle.status_register.specs.declared.member.Member.{Member}
use Rattle.status_register.proofs.Losing.{empty_failed, failed_at}
use Rattle.status_register.proofs.Tallying.{among_get}
use Rattle.status_register.proofs.losses.failed_set.Goals as goal

pub loop-member-init : goal.loop-member-init
loop-member-init c k small = empty_failed c.empty-failed.result (list_any (failed_at c.args.took.now k) c.args.members.now) k c.empty-failed.ensures

pub with-failed-requires : goal.with-failed-requires
with-failed-requires c =
    let none : Member = record { slot = 0; number = 0; birth = 0; sector = 0 } in
    c.requires (get_or c.args.members.now c.loop-member.member-index none) (among_get c.args.members.now c.loop-member.member-index none c.loop-member-test.true)
