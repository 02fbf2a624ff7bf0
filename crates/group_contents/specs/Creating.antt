-- Why a new file of a mounted group is refused.
use Rattle.std.specs.Prelude.{◌≡◌, ◌⊎◌, ◌↔◌, ⊤, ℕ, ◌+◌, ◌<◌, List, [], ◌∷◌, Option, Some, None, IsTrue, true}
use Rattle.bay.specs.State.{BayState}
use Rattle.refusal_lines.specs.declared.refusal.Refusal.{Refusal}
use Rattle.refusal_lines.specs.declared.refusal.Refusal.TheVariants as cause
use Rattle.asm_group.specs.Group.{Template}
use Rattle.asm_group.specs.Names.{Bytes, Path}
use Rattle.asm_group.specs.declared.Stripe.{Stripe}
use Rattle.asm_base.specs.Records.{DirectoryRecord}
use Rattle.asm_formats.specs.Items.{Key}
use Rattle.asm_placement.specs.Layout.{has_extent_by_size}
use Rattle.asm_world.specs.Files.{copies_for}
use Rattle.file_extents.specs.catalog_tables.Changing.{IsAfter}
use Rattle.file_extents.specs.catalog.NameChecks.{IsCheckRefusal}
use Rattle.file_extents.specs.catalog.NamePlans.{IsNamePlan, made_file}
use Rattle.file_extents.specs.catalog.Numbers.{IsNextFile}
use Rattle.file_extents.specs.catalog_tables.Rules.{blocks_used, has_copies}
use Rattle.file_extents.specs.extent_map.Extents.{extent_at}
use Rattle.file_extents.specs.file_directory.Files.{head_at}
use Rattle.asm_group.specs.declared.PendingKind.TheVariants.{Create}
use Rattle.file_extents.specs.catalog_tables.Tables.{Catalogued, Tables}
use Rattle.file_extents.specs.catalog.declared.new_file.FileBy.{FileBy}
use Rattle.file_extents.specs.catalog.declared.new_file.FileBy.TheVariants as by
use Rattle.file_extents.specs.catalog.declared.new_file.NewFile.{NewFile}
use Rattle.file_extents.specs.extent_copies.NewFiles.{serving_groups, template_by}
use Rattle.file_extents.specs.group_engine.Commits.{StatusCause}
use Rattle.file_extents.specs.group_engine.Mounts.{IsWhole, MountedGroup}
use Rattle.file_extents.specs.group_engine.Own.{IsSameGroup}
use Rattle.file_extents.specs.Beginning.{Begins, IsGivenBack}
use Rattle.file_extents.specs.Rows.{SpaceCause}
use Rattle.file_extents.specs.declared.rows.NewExtents.{NewExtents}
use Rattle.group_contents.specs.Files.{WriteCause}

-- the template that is said
abbrev pub template_said : FileBy → Option Bytes
template_said by.System = None
template_said (by.Template name) = Some name
template_said (by.Given copies stripe) = None

-- the template of this name, or else that of the file's type, for a path of three parts
abbrev pub template_in : Tables → Option Bytes → Path → Option Template
template_in t said (db ∷ type_name ∷ tag ∷ []) = template_by t.templates.templates type_name said
template_in t said _ = None

-- the template of a file at a path
abbrev pub template_of_new_file : Tables → FileBy → Path → Option Template
template_of_new_file t file_by path = template_in t (template_said file_by) path

-- there is no template for the file
abbrev pub IsTemplateCause : Tables → NewFile → Refusal → Type 0
IsTemplateCause t new cause.NoTemplate = template_of_new_file t new.by new.path.parts ≡ None
IsTemplateCause t new _ = ⊥

-- more blocks are needed than are free
abbrev pub RoomCause : Catalogued → Refusal → Type 0
RoomCause c (cause.DirectoryFull need free) = (free + blocks_used c.tables + 2 ≡ c.shape.dir_blocks) × (free < need)
RoomCause c cause.NoMemory = ⊤
RoomCause c _ = ⊥

-- copies and a stripe by a template and the failure groups that serve
abbrev pub IsBy : MountedGroup → Option Template → ℕ → Stripe → Type 0
IsBy m found copies stripe = (t : Template) × (found ≡ Some t)
    × (copies ≡ copies_for m.catalog.shape.kind t.copies (serving_groups m.register.value.entries)) × (stripe ≡ t.stripe)

-- The file gets so many copies and this stripe: those that are given, or by its template and the failure groups that serve.
abbrev pub IsChosen : MountedGroup → NewFile → FileBy → ℕ → Stripe → Type 0
IsChosen m new (by.Given said given) copies stripe = (copies ≡ said) × (stripe ≡ given)
IsChosen m new file_by copies stripe = IsBy m (template_of_new_file m.catalog.tables new.by new.path.parts) copies stripe

-- The extents of the next file, with this size.
pub record AreNext (c : Catalogued) (copies : ℕ) (stripe : Stripe) (size : ℕ) (extents : NewExtents) : Type 0 where
  pub file : IsNextFile c.tables extents.file
  pub copies_are : extents.copies ≡ copies
  pub first : extents.first ≡ 0
  pub count : (i : ℕ) → (i < extents.count) ↔ IsTrue (has_extent_by_size stripe c.shape.au c.shape.step size i)

-- The extents that a new file gets: by what is asked of it, and with its size.
pub record AreOfNew (m : MountedGroup) (new : NewFile) (extents : NewExtents) : Type 0 where
  pub copies : ℕ
  pub stripe : Stripe
  pub chosen : IsChosen m new new.by copies stripe
  pub next : AreNext m.catalog copies stripe new.size extents

-- Why a file can't be made, before anything is changed: by its template, its name and its size, or for want of blocks.
abbrev pub NewCause : MountedGroup → NewFile → Refusal → Type 0
NewCause m new refusal = IsTemplateCause m.catalog.tables new refusal
    ⊎ (IsCheckRefusal m.catalog new.path.parts new.size refusal
    ⊎ RoomCause m.catalog refusal)

-- The creation had begun, and then there was no choice of homes for one of its extents; it was given back.
pub record LacksHomes (old : MountedGroup) (extents : NewExtents) (new : MountedGroup) (refusal : Refusal) : Type 0 where
  pub between : MountedGroup
  pub begins : Begins old Create extents between
  pub same : IsSameGroup old between
  pub whole : IsWhole between
  pub space : SpaceCause between extents refusal
  pub given_back : IsGivenBack new

-- Why a creation that makes these extents doesn't begin: for want of space, or the group was dismounted by a commit.
abbrev pub BegunCause : MountedGroup → NewExtents → MountedGroup → BayState → BayState → Refusal → Type 0
BegunCause old extents new s t refusal = LacksHomes old extents new refusal ⊎ StatusCause old new s t refusal

-- There is no choice of homes for an extent of the file.
abbrev pub LacksSpace : MountedGroup → NewFile → MountedGroup → Refusal → Type 0
LacksSpace old new group refusal = (extents : NewExtents) × AreOfNew old new extents × LacksHomes old extents group refusal

-- Why a file doesn't begin: before anything is changed, or for want of space; or the group takes no calls, or was dismounted by a
-- commit.
abbrev pub BeginCause : MountedGroup → NewFile → MountedGroup → BayState → BayState → Refusal → Type 0
BeginCause old new group s t refusal = NewCause old new refusal ⊎ (LacksSpace old new group refusal ⊎ StatusCause old group s t refusal)

-- the same, or by a disk that failed
abbrev pub CreateCause : MountedGroup → NewFile → MountedGroup → BayState → BayState → Refusal → Type 0
CreateCause old new group s t refusal = NewCause old new refusal ⊎ (LacksSpace old new group refusal ⊎ WriteCause old group s t refusal)

-- the creation of the file is pending, and it has no head yet
pub record IsCreationPending (t : Tables) (file : ℕ) : Type 0 where
  pub kept : ℕ
  pub pending : t.operations.pending ≡ Some (record { kind = Create; file = file; kept = kept })
  pub new : head_at t.files file ≡ None

-- each extent that the size asks for is there with all its copies
abbrev pub HasAskedExtents : Catalogued → Stripe → ℕ → ℕ → ℕ → Type 0
HasAskedExtents c stripe size file copies = (i : ℕ) → has_extent_by_size stripe c.shape.au c.shape.step size i ≡ true → has_copies copies (extent_at c.tables.extents file i) ≡ true

-- The head and the names of a new file of this number were committed, with its size.
pub record NamesFile (before : MountedGroup) (new : NewFile) (file : ℕ) (after : MountedGroup) : Type 0 where
  pub number : made_file before.catalog.tables ≡ file
  pub copies : ℕ
  pub stripe : Stripe
  pub put : List DirectoryRecord
  pub gone : List Key
  pub plan : IsNamePlan before.catalog new.path.parts new.size copies stripe put gone
  pub applied : IsAfter before.catalog.tables put gone after.catalog.tables
