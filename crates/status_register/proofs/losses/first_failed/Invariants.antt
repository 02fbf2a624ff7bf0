use Rattle.std.proofs.Common.{◌≡◌, drop, find}
use Rattle.std.specs.Prelude.{not}
use Rattle.status_register.specs.Writes.{is_one_of}
use Rattle.status_register.specs.declared.member.Member.{Member}
use Rattle.status_register.proofs.losses.first_failed.Given as goal

abbrev pub invariant-loop-member : goal.invariant-loop-member
invariant-loop-member l = find (λ (m : Member). not (is_one_of l.took m)) (drop l.member-index l.members) ≡ find (λ (m : Member). not (is_one_of l.took m)) l.members
