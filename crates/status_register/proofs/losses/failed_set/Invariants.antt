use Rattle.std.proofs.Common.{◌≡◌, ◌<◌, ℕ, drop}
use Rattle.std.specs.Prelude.{◌||◌, ◌&&◌, ◌==◌, not}
use Rattle.std.specs.List.{list_any}
use Rattle.asm_formats.specs.Sets.{has_bit}
use Rattle.status_register.specs.Writes.{is_one_of}
use Rattle.status_register.specs.declared.member.Member.{Member}
use Rattle.status_register.proofs.losses.failed_set.Given as goal

abbrev pub invariant-loop-member : goal.invariant-loop-member
invariant-loop-member l = (k : ℕ) → k < 64 → (has_bit l.failed k || list_any (λ (m : Member). (m.number == k) && not (is_one_of l.took m)) (drop l.member-index l.members))
    ≡ list_any (λ (m : Member). (m.number == k) && not (is_one_of l.took m)) l.members
