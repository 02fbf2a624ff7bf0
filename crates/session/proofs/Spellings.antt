-- Refusals that name no disk.
use Rattle.std.proofs.Common.{◌≡◌, ℕ, [], refl}
use Rattle.refusal_lines.specs.Refusals.{meaning_of}
use Rattle.asm_group.specs.declared.Mode.{Mode}
use Rattle.refusal_lines.specs.declared.refusal.DiskRef.{DiskRef}
use Rattle.refusal_lines.specs.declared.refusal.Refusal.{Refusal}
use Rattle.refusal_lines.specs.declared.refusal.Refusal.TheVariants as cause
use Rattle.asm_group.specs.Names.{Bytes}

pub says_as_is : (names : ℕ → Bytes) (refusal : Refusal) → ((x : DiskRef) → refusal ≡ cause.NoDisk x → ⊥) → ((x : DiskRef) (n : ℕ) → refusal ≡ cause.TooSmall x n → ⊥)
    → ((x : DiskRef) → refusal ≡ cause.MissingDisks x → ⊥) → ((x : DiskRef) → refusal ≡ cause.ReadFault x → ⊥) → ((x : DiskRef) → refusal ≡ cause.WriteFault x → ⊥)
    → ((x : DiskRef) → refusal ≡ cause.Dismounted x → ⊥) → ((x : DiskRef) (mode : Mode) → refusal ≡ cause.DiskState x mode → ⊥) → ((x : DiskRef) → refusal ≡ cause.HoldsStatus x → ⊥)
    → ((x : DiskRef) → refusal ≡ cause.HoldsDirectories x → ⊥) → meaning_of (λ _. []) refusal ≡ meaning_of names refusal
unfolding meaning_of
says_as_is names (cause.NoDisk x) a b c d e f g h i = absurd (a x refl)
says_as_is names (cause.TooSmall x n) a b c d e f g h i = absurd (b x n refl)
says_as_is names (cause.MissingDisks x) a b c d e f g h i = absurd (c x refl)
says_as_is names (cause.ReadFault x) a b c d e f g h i = absurd (d x refl)
says_as_is names (cause.WriteFault x) a b c d e f g h i = absurd (e x refl)
says_as_is names (cause.Dismounted x) a b c d e f g h i = absurd (f x refl)
says_as_is names (cause.DiskState x mode) a b c d e f g h i = absurd (g x mode refl)
says_as_is names (cause.HoldsStatus x) a b c d e f g h i = absurd (h x refl)
says_as_is names (cause.HoldsDirectories x) a b c d e f g h i = absurd (i x refl)
says_as_is names other a b c d e f g h i = refl
