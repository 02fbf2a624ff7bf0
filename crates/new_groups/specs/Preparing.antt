-- A group that is ready to be written, and why none is.
use Rattle.std.specs.Prelude.{◌≡◌, ⊤, ℕ, ◌<◌, true, List, [], length, Option, None, Some, Ok, Err}
use Rattle.bay.specs.Counts.{Rose}
use Rattle.bay.specs.State.{BayState}
use Rattle.asm_group.specs.Names.{Bytes}
use Rattle.asm_group.specs.Refusal as r
use Rattle.asm_world.specs.NewDisks.{planned}
use Rattle.asm_world.specs.Settings.{Creation, creation}
use Rattle.directory_store.specs.Contents.{ArePutItems}
use Rattle.disk_images.specs.Looks.{AreLooked}
use Rattle.disk_images.specs.declared.looking.Looked.{Looked}
use Rattle.new_groups.specs.Causes.{look_refusal, terms_of}
use Rattle.new_groups.specs.Drafts.{AreLists}
use Rattle.new_groups.specs.Refusing.{IsTooMany}
use Rattle.new_groups.specs.Tests.{may_form}
use Rattle.new_groups.specs.declared.asked.GroupAsked.{GroupAsked}
use Rattle.new_groups.specs.declared.asked.Known.{Known}
use Rattle.new_groups.specs.declared.preparing.Ready.{Ready}

-- The draft passes the tests by what was looked at, and is that of a group of this name and id, with its lists.
pub record IsPrepared (looked : List Looked) (held : List ℕ) (name : Bytes) (id : ℕ) (r : Ready) : Type 0 where
  pub passes : may_form r.draft looked held ≡ true
  pub id_is : r.draft.status.id ≡ id
  pub name_is : r.draft.name ≡ name
  pub items : ArePutItems r.draft.first.put
  pub lists : AreLists r.draft r.lists

-- What stands against it by what was looked at.
pub record IsLookRefusal (paths : List Bytes) (asked : GroupAsked) (known : Known) (refusal : r.Refusal) (s t : BayState) : Type 0 where
  pub made : Creation
  pub made_is : creation (Some asked.kind) asked.attributes ≡ Ok made
  pub looked : List Looked
  pub are_looked : AreLooked looked s t
  pub count : length looked ≡ length paths
  pub first : look_refusal known made.shape paths looked (planned asked.name [] asked.groups) (terms_of asked.groups) ≡ Some refusal

-- Why a creation is refused before its first write.
pub data IsPrepareRefusal (paths : List Bytes) (asked : GroupAsked) (known : Known) (refusal : r.Refusal) (s t : BayState) : Type 0 where
  by_attribute : creation (Some asked.kind) asked.attributes ≡ Err refusal → IsPrepareRefusal paths asked known refusal s t
  by_count : IsTooMany asked.groups refusal → IsPrepareRefusal paths asked known refusal s t
  by_look : IsLookRefusal paths asked known refusal s t → IsPrepareRefusal paths asked known refusal s t
  by_memory : refusal ≡ r.NoMemory → IsPrepareRefusal paths asked known refusal s t

-- one of the disks of n slots failed, or there was no memory
abbrev pub IsFormFailure : ℕ → r.Refusal → BayState → BayState → Type 0
IsFormFailure n (r.WriteFault name) s t = (slot : ℕ) × (slot < n) × Rose (s.faults slot) (t.faults slot)
IsFormFailure n r.NoMemory s t = ⊤
IsFormFailure n other s t = ⊥

-- Why a group isn't created: nothing was written, or it couldn't be formed.
pub data IsCreationRefusal (paths : List Bytes) (asked : GroupAsked) (known : Known) (id : Option ℕ) (refusal : r.Refusal) (s t : BayState) : Type 0 where
  not_begun : id ≡ None → IsPrepareRefusal paths asked known refusal s t → IsCreationRefusal paths asked known id refusal s t
  not_formed : IsFormFailure (length paths) refusal s t → IsCreationRefusal paths asked known id refusal s t
