-- An edit of a mounted group is one commit. Which group it leads to in the world, what the images stand for while it is on its way, and
-- what refuses it.
use Rattle.std.specs.Prelude.{◌≡◌, ◌≢◌, ℕ, true, List, [], ◌∷◌, OnErr, OnOk, Option, Result, Ok}
use Rattle.bay.specs.State.{BayState}
use Rattle.bay.specs.Image.{Image}
use Rattle.bay.specs.Moments.{LeavesOnly, Runs}
use Rattle.asm_group.specs.Group.{Cell, Group}
use Rattle.asm_group.specs.Names.{Bytes}
use Rattle.asm_group.specs.Refusal as r
use Rattle.asm_formats.specs.Items.{Key}
use Rattle.asm_base.specs.Records.{DirectoryRecord}
use Rattle.refusal_lines.specs.declared.refusal.Refusal.{Refusal}
use Rattle.asm_formats.specs.Status.{Status}
use Rattle.asm_images.specs.Bridge.{disks_in}
use Rattle.asm_images.specs.Kept.{Kept}
use Rattle.asm_images.specs.Sound.{SoundBy}
use Rattle.asm_images.specs.Stands.{Standing}
use Rattle.asm_world.specs.Edits as world
use Rattle.asm_world.specs.Settings as settings
use Rattle.group_files.specs.alias_edits.Edits as names
use Rattle.group_files.specs.template_directory.Meant as templates
use Rattle.group_files.specs.catalog_tables.Changing.{IsAfter}
use Rattle.group_files.specs.catalog_tables.Tables.{Catalogued, Tables}
use Rattle.group_files.specs.group_engine.Commits.{LeadsTo, StandsIn}
use Rattle.group_files.specs.group_engine.Frames.{SparesGroup, SparesOtherIds}
use Rattle.group_files.specs.group_engine.Mounts.{IsMounted, IsOwn, MayRecord, MountedGroup, Mounts}
use Rattle.group_files.specs.group_engine.Own.{KeepsGroup}
use Rattle.group_files.specs.Edits.{IsCommitted}
use Rattle.group_files.specs.GroupEdits.{IsEditPlan, IsEditRefusedAs}
use Rattle.group_files.specs.declared.edit.GroupEdit.{GroupEdit}
use Rattle.group_files.specs.declared.edit.GroupEdit.TheVariants.{Tree, Templates, SetAttribute}
use Rattle.group_files.specs.group_of.Edits.{IsRefusedBeside, IsWorldsRefusal, attribute_meant}
use Rattle.group_files.specs.group_of.Groups.{HasCells, group_of}

-- The world's group after the edit, or why it is refused.
abbrev pub edited_by : Group → GroupEdit → Result Group r.Refusal
edited_by g (Tree edit) = world.edited_group g (names.edit_meant edit)
edited_by g (Templates edit) = settings.group_after_template_edit g (templates.template_edit_meant edit)
edited_by g (SetAttribute name value) = settings.attribute_set g (attribute_meant name value)

-- A change that is the edit leads to the world's group after it.
abbrev pub EditLeadsTo : BayState → Type 0
EditLeadsTo s =
    (n : ℕ) (m : MountedGroup) (g : Group) (kept : Kept) (edit : GroupEdit) (put : List DirectoryRecord) (gone : List Key) → MayRecord n m s g kept → IsEditPlan m.catalog edit put gone
    → (h : Group) × (edited_by g edit ≡ Ok h) × LeadsTo n m put gone s g h kept

-- Why an edit is refused, beside the world's answer: no other edit than one of names wants blocks.
abbrev pub IsEditRefusedIn : Group → GroupEdit → Refusal → Type 0
IsEditRefusedIn g (Tree edit) refusal = IsRefusedBeside (edited_by g (Tree edit)) refusal
IsEditRefusedIn g (Templates edit) refusal = IsWorldsRefusal (edited_by g (Templates edit)) refusal
IsEditRefusedIn g (SetAttribute name value) refusal = IsWorldsRefusal (edited_by g (SetAttribute name value)) refusal

-- What refuses an edit of a mounted group is so in the world.
abbrev pub EditIsRefused : BayState → Type 0
EditIsRefused s =
    (n : ℕ) (m : MountedGroup) (g : Group) (kept : Kept) (edit : GroupEdit) (refusal : Refusal) → Mounts n m s g kept → IsEditRefusedAs m.catalog edit refusal → IsEditRefusedIn g edit refusal

-- ---- the same of the tables alone, on every bay

-- The tables after a change that is the edit are those of the world's group after it, with the same cells.
abbrev pub EditIsOfTables : Type 0
EditIsOfTables =
    (name : Bytes) (c : Catalogued) (cells : ℕ → List Cell) (edit : GroupEdit) (put : List DirectoryRecord) (gone : List Key) (u : Tables) → HasCells c.tables cells → IsEditPlan c edit put gone → IsAfter c.tables put gone u
    → (edited_by (group_of name c.shape c.tables cells) edit ≡ Ok (group_of name c.shape u cells)) × HasCells u cells

-- What refuses the edit of the tables is so in the world.
abbrev pub RefusalIsOfTables : Type 0
RefusalIsOfTables =
    (name : Bytes) (c : Catalogued) (cells : ℕ → List Cell) (edit : GroupEdit) (refusal : Refusal) → IsEditRefusedAs c edit refusal → IsEditRefusedIn (group_of name c.shape c.tables cells) edit refusal

-- ---- while it is committed

-- A call on a mounted group of n slots, which the disks held as g: its answer, and what it left mounted.
pub record EditCall : Type 0 where
  pub n : ℕ
  pub old : MountedGroup
  pub new : MountedGroup
  pub answer : Result (Unit {0}) Refusal
  pub g : Group
  pub kept : Kept

-- Each image of each moment is held for the group before or for h. Once the call is done h is mounted, and where it is refused and the
-- group takes calls still, the one before.
pub record IsHeldOver (c : EditCall) (h : Group) (s t : BayState) : Type 0 where
  pub moments : LeavesOnly s t (StandsIn c.n c.old.register.id (c.g ∷ h ∷ []) c.kept)
  pub done : OnOk c.answer ((later : Kept) × (later.slots ≡ c.kept.slots) × Mounts c.n c.new t h later)
  pub refused : IsMounted c.new → OnErr c.answer (Mounts c.n c.new t c.g c.kept)

-- An edit that was committed, or whose commit was refused, was the world's.
abbrev pub EditIsHeld : BayState → BayState → Type 0
EditIsHeld s t =
    (c : EditCall) (edit : GroupEdit) → IsMounted c.old → MayRecord c.n c.old s c.g c.kept → IsCommitted (IsEditPlan c.old.catalog edit) c.old c.answer c.new s t
    → (h : Group) × (edited_by c.g edit ≡ Ok h) × IsHeldOver c h s t

-- ---- beside other groups

-- The disks of every other id's members stay.
abbrev pub OthersAreSpared : BayState → BayState → Type 0
OthersAreSpared s t =
    (c : EditCall) (h : Group) → Mounts c.n c.old s c.g c.kept → KeepsGroup c.old c.new s t → IsHeldOver c h s t → Runs (IsOwn c.old) (SparesOtherIds c.old.register.id) s t

-- An image that is sound under an id by a history is so still where they are.
abbrev pub SparedIsSound : Type 0
SparedIsSound =
    (slots id : ℕ) (groups : List Group) (completed : Option Status) (begun : List Status) (old new : Image) → SparesGroup id old new → SoundBy id (disks_in slots old) groups completed begun
    → SoundBy id (disks_in slots new) groups completed begun

-- Another mounted group stays so while it is committed.
abbrev pub OthersStayMounted : BayState → BayState → Type 0
OthersStayMounted s t =
    (c : EditCall) (h : Group) (m : MountedGroup) (g : Group) (kept : Kept) → Mounts c.n c.old s c.g c.kept → KeepsGroup c.old c.new s t → IsHeldOver c h s t → Mounts c.n m s g kept
    → m.register.id ≢ c.old.register.id → Mounts c.n m t g kept

-- ---- with all disks

-- Status and directories are there at each moment with all disks, also where others than the attached ones are members.
abbrev pub StandsWithAll : BayState → BayState → Type 0
StandsWithAll s t = (c : EditCall) (h : Group) → IsHeldOver c h s t → LeavesOnly s t (λ image. Standing c.old.register.id (disks_in c.n image) (λ any. true))
