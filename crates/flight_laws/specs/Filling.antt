-- Extents that a file gets: what the disks hold of the group once the copies have their bytes.
use Rattle.std.specs.Prelude.{◌≡◌, ◌⊎◌, ℕ, ◌+◌, ◌<◌, ◌≤◌, false, true, List, [], length, get_or, Some, None, IsTrue}
use Rattle.std.specs.FinMap as maps
use Rattle.std.specs.List.{list_all}
use Rattle.bay.specs.Image.{Image}
use Rattle.asm_group.specs.declared.Stripe.{Stripe}
use Rattle.asm_group.specs.Group.{Known, Free, File, Group}
use Rattle.asm_formats.specs.Items.{FileHead, Home, Homes, Key}
use Rattle.asm_formats.specs.Sets.{has_bit}
use Rattle.asm_formats.specs.Status as status
use Rattle.asm_formats.specs.Status.{Status}
use Rattle.asm_base.specs.Records.{DirectoryRecord}
use Rattle.asm_images.specs.Describing.{LiesIn}
use Rattle.catalog.specs.ExtentPlans.{MayAppend, first_new, with_appended}
use Rattle.catalog.specs.Plans.{IsPlan}
use Rattle.catalog_tables.specs.Rules.{are_on_regular, head_has_extent}
use Rattle.catalog_tables.specs.Tables.{AreTables, Catalogued}
use Rattle.file_directory.specs.Files.{head_at}
use Rattle.group_engine.specs.Becoming.{HoldsIn}
use Rattle.group_engine.specs.Surplus.{IsSurplus}
use Rattle.flight_laws.specs.Agreeing.{AgreesWhole}

-- the group has a file of this number and stripe, whose byte o is known to be b
abbrev pub KnowsByte : Group → (k o b : ℕ) → Stripe → Type 0
KnowsByte g k o b stripe = (old : File) × (maps.get g.files k ≡ Some old) × (old.stripe ≡ stripe) × (get_or old.cells o Free ≡ Known b)

-- Group h has the shape of g, and each known cell of it is one of g or lies in one of so many extents of file f, from `first` on.
pub record KnowsMore (g h : Group) (f first count : ℕ) : Type 0 where
  pub shape : h.shape ≡ g.shape
  pub cells : (k o b : ℕ) (file : File) → maps.get h.files k ≡ Some file → get_or file.cells o Free ≡ Known b
      → KnowsByte g k o b file.stripe ⊎ ((k ≡ f) × ((i inner : ℕ) → LiesIn h.shape file.stripe o i inner → (first ≤ i) × (i < first + count)))

-- each new extent's copies without a mark have its bytes, where the first of the extents has number `first`
abbrev pub HaveNewBytes : (id : ℕ) → Status → Group → (f first : ℕ) → List Homes → List ℕ → Image → Type 0
HaveNewBytes id r h f first homes marks image =
    (p copy : ℕ) (home : Home) → p < length homes → get_or (get_or homes p []) copy None ≡ Some home → has_bit (get_or marks p 0) copy ≡ false
    → AgreesWhole id r h f (first + p) home image

-- ---- laws

-- What the disks hold of g by the tables, they hold of h, which knows more cells of new extents, by the tables with these, where the copies
-- without a mark have the bytes. No records have to describe either group yet.
abbrev pub FilledIsHeld : Type 0
FilledIsHeld =
    (id : ℕ) (r : Status) (c : Catalogued) (f n : ℕ) (homes : List Homes) (marks : List ℕ) (g h : Group) (image : Image) → AreTables c.tables
    → AreTables (with_appended c.tables f n homes marks) → MayAppend c f n homes marks → KnowsMore g h f (first_new c.tables f n) (length homes)
    → HoldsIn id r c.tables g image → HaveNewBytes id r h f (first_new c.tables f n) homes marks image
    → HoldsIn id r (with_appended c.tables f n homes marks) h image

-- The file, where it has a head, has by its size none of the new extents.
abbrev pub AreBehindSize : Catalogued → (f n : ℕ) → Type 0
AreBehindSize c f n = (i : ℕ) (head : FileHead) → head_at c.tables.files f ≡ Some head → head_has_extent c.shape head i ≡ true → i < first_new c.tables f n

-- A plan of new extents that the file hasn't by its size, on regular disks, changes nothing that the group is.
abbrev pub AppendIsSurplus : Type 0
AppendIsSurplus =
    (entries : List status.Entry) (c : Catalogued) (put : List DirectoryRecord) (gone : List Key) (f n : ℕ) (homes : List Homes) (marks : List ℕ) → AreTables c.tables
    → MayAppend c f n homes marks → AreBehindSize c f n → IsTrue (list_all (are_on_regular entries) homes) → IsPlan c put gone (with_appended c.tables f n homes marks)
    → IsSurplus entries c put gone (with_appended c.tables f n homes marks)
