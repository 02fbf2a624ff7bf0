-- Where cd goes.
use Rattle.std.specs.Prelude.{◌≡◌, ◌⊎◌, ℕ, List, [], ◌∷◌, Option, Some, None, Ok}
use Rattle.refusal_lines.specs.declared.refusal.Refusal.{Refusal}
use Rattle.refusal_lines.specs.declared.refusal.Refusal.TheVariants as cause
use Rattle.asm_group.specs.Names.{Bytes, Path}
use Rattle.asm_world.specs.Paths.{resolved}
use Rattle.session.specs.group_engine.Mounts.{MountedGroup}
use Rattle.group_reports.specs.Places.{directory_at}
use Rattle.report_laws.specs.Places.{spelt_by}
use Rattle.session.specs.Listing.{IsPathCause}
use Rattle.session.specs.Naming.{IsGroupOf}
use Rattle.session.specs.Sessions.{SessionView}

-- the place of a node: the group's own name, and the names that lead to the node as the nodes spell them
abbrev pub place_of_directory : MountedGroup → ℕ → List Bytes
place_of_directory m node = m.name ∷ spelt_by m.catalog.tables node

-- The place is that of the directory to which the path leads.
pub record IsDirectoryOf (m : MountedGroup) (path : Path) (place : List Bytes) : Type 0 where
  pub node : ℕ
  pub leads : directory_at m.catalog.tables path ≡ Ok node
  pub is : place ≡ place_of_directory m node

-- of a path that leads to `+`, or to a directory of a mounted group
abbrev pub IsLedBy : SessionView → Option (List Bytes) → List Bytes → Type 0
IsLedBy session None place = ⊥
IsLedBy session (Some []) place = place ≡ []
IsLedBy session (Some (name ∷ path)) place = (m : MountedGroup) × IsGroupOf session name m × IsDirectoryOf m path place

-- where the path leads from the session's place
abbrev pub IsLed : SessionView → Bytes → List Bytes → Type 0
IsLed session path place = IsLedBy session (resolved session.place path) place

abbrev pub IsGoingCauseBy : SessionView → Option (List Bytes) → Refusal → Type 0
IsGoingCauseBy session None refusal = refusal ≡ cause.NoName
IsGoingCauseBy session (Some []) refusal = ⊥
IsGoingCauseBy session (Some (name ∷ path)) refusal = IsPathCause session name path refusal

-- By the group, which isn't mounted, or by its tree. Want of memory is free.
abbrev pub IsGoingCause : SessionView → Bytes → Refusal → Type 0
IsGoingCause session path refusal = (refusal ≡ cause.NoMemory) ⊎ IsGoingCauseBy session (resolved session.place path) refusal
