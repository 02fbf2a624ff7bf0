use Rattle.std.proofs.Common.{◌≡◌, ◌≢◌, arith}
use Rattle.status_register.proofs.Losing.{first_enough, second_enough, one_enough, lost_first, lost_next}
use Rattle.status_register.proofs.losses.lost.Goals as goal

pub lost_of-requires-clause-majority : goal.lost_of-requires-clause-majority
lost_of-requires-clause-majority c = first_enough c.args.members.now c.args.entries.now c.args.holders c.args.next_holders c.requires.majority

pub lost_of-requires-else-bits-eq0-clause-majority : goal.lost_of-requires-else-bits-eq0-clause-majority
lost_of-requires-else-bits-eq0-clause-majority c =
    let some : c.args.next_holders ≢ 0 = omega (arith, c.bits.ensures.bits) in
    second_enough c.args.members.now c.args.entries.now c.args.holders c.args.next_holders c.requires.majority some

pub returns-in-Some : goal.returns-in-Some
returns-in-Some c = lost_first c.args.entries.now c.args.members.now c.args.took.now c.args.holders c.args.next_holders c.in-Some.member c.in-Some.ensures

pub returns-then-bits-eq0 : goal.returns-then-bits-eq0
returns-then-bits-eq0 c =
    let none : c.args.next_holders ≡ 0 = omega (arith, c.bits.ensures.bits) in
    one_enough c.args.took.now c.args.entries.now c.args.holders c.args.next_holders c.in-None.ensures none

pub returns-else-bits-eq0 : goal.returns-else-bits-eq0
returns-else-bits-eq0 c =
    let some : c.args.next_holders ≢ 0 = omega (arith, c.bits.ensures.bits) in
    lost_next c.args.entries.now c.args.members.now c.args.took.now c.args.holders c.args.next_holders c.lost_of-else-bits-eq0.result some c.in-None.ensures c.lost_of-else-bits-eq0.ensures
