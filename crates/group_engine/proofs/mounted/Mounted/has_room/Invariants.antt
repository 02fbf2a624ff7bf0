use Rattle.std.proofs.Common.{◌≡◌, ◌<◌, ℕ, get_or, Some, None}
use Rattle.status_register.specs.declared.member.Member.{Member}
use Rattle.group_engine.proofs.mounted.Mounted.has_room.Given as goal

abbrev pub invariant-loop-disk : goal.invariant-loop-disk
invariant-loop-disk l = (k : ℕ) → k < l.disk → (x : Member) → get_or l.fn.self.register.members k None ≡ Some x → l.fn.member.slot ≡ x.slot → ⊥
