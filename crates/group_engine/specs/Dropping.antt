-- A record with fewer directory copies.
use Rattle.std.specs.Prelude.{◌≡◌, ℕ, ◌<◌, ◌^◌, ◌&&◌, not, Result}
use Rattle.bay.specs.State.{BayState}
use Rattle.asm_formats.specs.Sets.{has_bit}
use Rattle.status_register.specs.RegisterCalls.{HasWritten}
use Rattle.status_register.specs.Registered.{Registered}
use Rattle.status_register.specs.declared.error.Dead.{Dead}

-- a set without the disks of another
abbrev pub IsWithout : ℕ → ℕ → ℕ → Type 0
IsWithout left all gone = (k : ℕ) → k < 64 → has_bit left k ≡ (has_bit all k && not (has_bit gone k))

-- The register's record was written without the directory copies of some disks.
pub record WritesFewer (old : Registered) (gone : ℕ) (answer : Result ℕ Dead) (new : Registered) (s t : BayState) : Type 0 where
  pub fewer : ℕ
  pub small : fewer < 2 ^ 64
  pub without : IsWithout fewer old.value.directories gone
  pub written : HasWritten old (record old.value { directories = fewer }) answer new s t
