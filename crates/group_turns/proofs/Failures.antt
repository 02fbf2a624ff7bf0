-- What a refusal of an expiry or a slice says.
use Rattle.std.proofs.Common.{◌≡◌, refl}
use Rattle.refusal_lines.specs.declared.refusal.DiskRef.{DiskRef}
use Rattle.refusal_lines.specs.declared.refusal.Refusal.{Refusal}
use Rattle.refusal_lines.specs.declared.refusal.Refusal.TheVariants as cause
use Rattle.group_turns.specs.Slices.{failure_of}
use Rattle.group_turns.specs.declared.failure.Failure.TheVariants as failure

pub failure_other : (refusal : Refusal) → ((disk : DiskRef) → refusal ≡ cause.ReadFault disk → ⊥) → ((disk : DiskRef) → refusal ≡ cause.WriteFault disk → ⊥) → ((disk : DiskRef) → refusal ≡ cause.Dismounted disk → ⊥)
    → failure_of refusal ≡ failure.NoMemory
failure_other (cause.ReadFault disk) read write ends = absurd (read disk refl)
failure_other (cause.WriteFault disk) read write ends = absurd (write disk refl)
failure_other (cause.Dismounted disk) read write ends = absurd (ends disk refl)
failure_other another read write ends = refl
