-- What is told where an image can't be opened or made.
use Rattle.std.specs.Prelude.{◌≡◌, ◌⊎◌, ℕ, pos, Some, Result, Err}
use Rattle.std.specs.IoError.{error_kind, raw_os_error}
use Rattle.std.specs.declared.io.Error.{Error}
use Rattle.std.specs.declared.io.ErrorKind.TheVariants.{NotFound, NotADirectory, OutOfMemory}
use Rattle.bay.specs.Counts.{count_after}
use Rattle.bay.specs.declared.fault.BayError.{BayError}
use Rattle.bay.specs.declared.fault.BayError.TheVariants.{NoMemory, Fault}

-- one program, or all together, may have no more files open
abbrev pub LacksDescriptors : Error → Type 0
LacksDescriptors error = (raw_os_error error ≡ Some (pos 23)) ⊎ (raw_os_error error ≡ Some (pos 24))

-- the system has no memory or no descriptor left, or std no memory for the words of the call
abbrev pub LacksResources : Error → Type 0
LacksResources error = (error_kind error ≡ OutOfMemory) ⊎ LacksDescriptors error

-- nothing is there
abbrev pub IsAbsent : Error → Type 0
IsAbsent error = (error_kind error ≡ NotFound) ⊎ (error_kind error ≡ NotADirectory)

-- an error of the system is want of memory or descriptors, which isn't counted, or else a fault, which is
pub record IsTold {T : Type 0} (error : Error) (result : Result T BayError) (old new : ℕ) : Type 0 where
  pub short : LacksResources error → (result ≡ Err NoMemory) × (new ≡ old)
  pub fault : ¬ LacksResources error → (result ≡ Err Fault) × (new ≡ count_after old 1)
