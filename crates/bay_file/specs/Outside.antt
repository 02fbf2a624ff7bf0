-- What is told where a call on a file outside fails.
use Rattle.std.specs.Prelude.{◌≡◌, ◌⊎◌, ℕ, List, Result, Err}
use Rattle.std.specs.declared.io.Error.{Error}
use Rattle.bay.specs.Counts.{Rose}
use Rattle.bay.specs.declared.fault.HostError.{HostError}
use Rattle.bay.specs.declared.fault.HostError.TheVariants.{NoMemory, Fault}
use Rattle.bay_file.specs.Opening.{LacksResources}

-- An error of the system is want of memory or descriptors, which isn't counted, or else a fault, which is. Where no memory is found for the count that is
-- told in its place.
pub record IsFaultTold {T : Type 0} (error : Error) (path : List ℕ) (result : Result T HostError) (old new : List ℕ → ℕ) : Type 0 where
  pub short : LacksResources error → (result ≡ Err NoMemory) × ((p : List ℕ) → new p ≡ old p)
  pub fault : ¬ LacksResources error → ((result ≡ Err Fault) × Rose (old path) (new path)) ⊎ (result ≡ Err NoMemory)
