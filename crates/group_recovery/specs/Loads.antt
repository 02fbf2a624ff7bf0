-- The directory copies that a mount loads, and why it doesn't.
use Rattle.std.specs.Prelude.{◌≡◌, ◌⊎◌, ℕ, List}
use Rattle.bay.specs.State.{BayState}
use Rattle.directory_store.specs.change_directory.declared.copy.DirCopy.{DirCopy}
use Rattle.directory_store.specs.Loading.{LoadCause}
use Rattle.directory_store.specs.declared.error.LoadError.{LoadError}
use Rattle.directory_store.specs.declared.error.LoadError.TheVariants as load
use Rattle.status_register.specs.Answers.{Surveyed}
use Rattle.group_recovery.specs.NamedCopies.{named_copies}
use Rattle.group_recovery.specs.declared.error.MountError.{MountError}
use Rattle.group_recovery.specs.declared.error.MountError.TheVariants as error
use Rattle.group_recovery.specs.declared.finding.Headed.{Headed}

-- the copies that were read: those that the surveyed record names
abbrev pub copies_read : ℕ → List Headed → Surveyed → List DirCopy
copies_read id hs survey = named_copies id survey.read survey.value hs

-- a refusal of a load as one of a mount
abbrev pub refusal_of_load : LoadError → MountError
refusal_of_load load.DirectoriesLost = error.DirectoriesLost
refusal_of_load (load.Damaged slot block) = error.Damaged slot block
refusal_of_load load.NoMemory = error.NoMemory

-- the refusal is that of a load with its cause, or memory is wanting
abbrev pub LoadRefusal : List DirCopy → BayState → BayState → MountError → Type 0
LoadRefusal copies s t e = ((l : LoadError) × (e ≡ refusal_of_load l) × LoadCause copies s t l) ⊎ (e ≡ error.NoMemory)
