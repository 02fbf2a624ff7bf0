-- Changes of copies that lead from a mounted group to the group itself, since each image has the bytes by the tables after them.
use Rattle.std.specs.Prelude.{◌≡◌, ℕ, ◌+◌, ◌<◌, ◌^◌, List, Some, None, IsTrue}
use Rattle.bay.specs.State.{BayState}
use Rattle.bay.specs.Moments.{NowOnly}
use Rattle.asm_group.specs.Group.{Group}
use Rattle.asm_formats.specs.Items.{Home, Key}
use Rattle.asm_formats.specs.Status as status
use Rattle.asm_formats.specs.Status.{Status}
use Rattle.asm_base.specs.Records.{DirectoryRecord}
use Rattle.asm_images.specs.Kept.{Kept}
use Rattle.catalog.specs.ExtentPlans.{home_at, with_marks_changed, with_move}
use Rattle.catalog.specs.Plans.{IsPlan}
use Rattle.catalog_tables.specs.Rules.{AreOnRegular, first_unknown, is_on_regular}
use Rattle.catalog_tables.specs.Tables.{Catalogued, Tables}
use Rattle.group_of.specs.Describing.{KeepsNames}
use Rattle.group_engine.specs.Becoming.{HoldsIn}
use Rattle.group_engine.specs.Commits.{LeadsTo}
use Rattle.group_engine.specs.Mounts.{MountedGroup, Mounts}
use Rattle.flight_laws.specs.Agreeing.{AgreesWhole, ClearedAgree}

-- The change leads by a plan to tables with names, files and settings as before, each entry has its disk record still, and homes lie on
-- no disk of a quorum failure group. Homes and marks are any.
pub record ChangesCopies (entries : List status.Entry) (c : Catalogued) (put : List DirectoryRecord) (gone : List Key) (u : Tables) : Type 0 where
  pub plan : IsPlan c put gone u
  pub names : KeepsNames c.tables u
  pub infos : first_unknown c.tables entries ≡ None → first_unknown u entries ≡ None
  pub regular : AreOnRegular entries c.tables → AreOnRegular entries u

-- Where each image holds a mounted group by the tables after such a change, it leads from the group to the group itself.
abbrev pub HeldLeadsOn : BayState → Type 0
HeldLeadsOn s =
    (n : ℕ) (m : MountedGroup) (put : List DirectoryRecord) (gone : List Key) (g : Group) (kept : Kept) (u : Tables) → Mounts n m s g kept
    → ChangesCopies m.register.value.entries m.catalog put gone u → NowOnly s (HoldsIn m.register.id m.register.value u g) → m.register.turn + 1 < 2 ^ 64
    → LeadsTo n m put gone s g g kept

-- So does the move of a copy to a home on a regular disk, where each image agrees for the whole extent.
abbrev pub MoveLeadsOn : BayState → Type 0
MoveLeadsOn s =
    (n : ℕ) (m : MountedGroup) (put : List DirectoryRecord) (gone : List Key) (g : Group) (kept : Kept) (f i copy : ℕ) (h : Home) → Mounts n m s g kept
    → IsPlan m.catalog put gone (with_move m.catalog.tables f i copy h) → IsTrue (is_on_regular m.register.value.entries (Some h))
    → NowOnly s (AgreesWhole m.register.id m.register.value g f i h) → m.register.turn + 1 < 2 ^ 64 → LeadsTo n m put gone s g g kept

-- So do marks of an extent that are set and cleared, where each copy whose mark is cleared agrees.
abbrev pub ClearingLeadsOn : BayState → Type 0
ClearingLeadsOn s =
    (n : ℕ) (m : MountedGroup) (put : List DirectoryRecord) (gone : List Key) (g : Group) (kept : Kept) (f i set clear : ℕ) → Mounts n m s g kept
    → IsPlan m.catalog put gone (with_marks_changed m.catalog.tables f i set clear) → clear < 8
    → NowOnly s (ClearedAgree m.register.id m.register.value m.catalog.tables g f i clear) → m.register.turn + 1 < 2 ^ 64 → LeadsTo n m put gone s g g kept

-- So does the mark of one copy that is cleared, which agrees at its home.
abbrev pub RecopyLeadsOn : BayState → Type 0
RecopyLeadsOn s =
    (n : ℕ) (m : MountedGroup) (put : List DirectoryRecord) (gone : List Key) (g : Group) (kept : Kept) (f i copy : ℕ) (h : Home) → Mounts n m s g kept
    → IsPlan m.catalog put gone (with_marks_changed m.catalog.tables f i 0 (2 ^ copy)) → home_at m.catalog.tables f i copy ≡ Some h
    → NowOnly s (AgreesWhole m.register.id m.register.value g f i h) → m.register.turn + 1 < 2 ^ 64 → LeadsTo n m put gone s g g kept

-- Marks that are set alone need nothing.
abbrev pub MarksLeadOn : BayState → Type 0
MarksLeadOn s =
    (n : ℕ) (m : MountedGroup) (put : List DirectoryRecord) (gone : List Key) (g : Group) (kept : Kept) (f i set : ℕ) → Mounts n m s g kept
    → IsPlan m.catalog put gone (with_marks_changed m.catalog.tables f i set 0) → m.register.turn + 1 < 2 ^ 64 → LeadsTo n m put gone s g g kept
