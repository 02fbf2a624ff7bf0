use Rattle.std.proofs.Common.{get_or}
use Rattle.status_register.specs.declared.member.Member.{Member}
use Rattle.status_register.proofs.Tallying.{among_get}
use Rattle.status_register.proofs.register.by_number.Goals as goal

pub bounds-places-member : goal.bounds-places-member
bounds-places-member c =
    let none : Member = record { slot = 0; number = 0; birth = 0; sector = 0 } in
    c.requires (get_or c.args.members.now c.loop-member.member-index none) (among_get c.args.members.now c.loop-member.member-index none c.loop-member-test.true)
