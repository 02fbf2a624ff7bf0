use Rattle.std.proofs.Common.{◌≡◌, ◌≤◌, length, take}
use Rattle.status_register.proofs.members.MemberList.of.Given as goal

abbrev pub invariant-loop-member : goal.invariant-loop-member
invariant-loop-member l = record {
  is : l.list ≡ take l.member-index l.members;
  few : length l.list ≤ l.member-index;
}
