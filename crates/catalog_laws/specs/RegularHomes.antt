-- That no home lies on a disk of a quorum failure group, and what keeps it so.
use Rattle.std.specs.Prelude.{◌≡◌, ℕ, List, Some, IsTrue}
use Rattle.std.specs.List.{list_all}
use Rattle.asm_formats.specs.Items.{Home, Homes, Item}
use Rattle.asm_formats.specs.Status.{Entry, entry_of}
use Rattle.catalog.specs.asm_placement.Copies.{all_copies, entry_at_home, home}
use Rattle.catalog.specs.asm_placement.Tables.{home_of}
use Rattle.catalog.specs.asm_placement.Work.{is_regular}
use Rattle.catalog.specs.ExtentPlans.{with_appended, with_cut, with_move}
use Rattle.catalog.specs.catalog_tables.Items.{AreItemsOf}
use Rattle.catalog.specs.catalog_tables.Rules.{AreOnRegular, are_on_regular, is_on_regular}
use Rattle.catalog.specs.catalog_tables.Tables.{AreTables, Tables}

-- ---- what is so by the items

-- Each home that the items name lies on no quorum disk.
abbrev pub HomesAreRegular : Type 0
HomesAreRegular =
    (entries : List Entry) (t : Tables) (items : List Item) → AreTables t → AreItemsOf t items → AreOnRegular entries t
    → (f i copy : ℕ) (h : Home) → home_of items f i copy ≡ Some h → IsTrue (is_regular (entry_of entries h.disk))

-- No copy of a file does.
abbrev pub CopiesAreRegular : Type 0
CopiesAreRegular =
    (entries : List Entry) (t : Tables) (items : List Item) → AreTables t → AreItemsOf t items → AreOnRegular entries t
    → IsTrue (list_all (λ x. is_regular (entry_at_home entries (home x))) (all_copies items))

-- ---- plans of extents

-- Extents that a chunk gets, where their homes lie on no quorum disk.
abbrev pub AppendingKeepsRegular : Type 0
AppendingKeepsRegular =
    (entries : List Entry) (t : Tables) (f n : ℕ) (homes : List Homes) (marks : List ℕ) → AreOnRegular entries t → IsTrue (list_all (are_on_regular entries) homes)
    → AreOnRegular entries (with_appended t f n homes marks)

-- A copy that moves to a disk that is none.
abbrev pub MovingKeepsRegular : Type 0
MovingKeepsRegular =
    (entries : List Entry) (t : Tables) (f i copy : ℕ) (h : Home) → AreOnRegular entries t → IsTrue (is_on_regular entries (Some h)) → AreOnRegular entries (with_move t f i copy h)

-- Extents that go.
abbrev pub CuttingKeepsRegular : Type 0
CuttingKeepsRegular = (entries : List Entry) (t : Tables) (f n kept : ℕ) → AreOnRegular entries t → AreOnRegular entries (with_cut t f n kept)

-- ---- other entries

-- Entries by which each disk that was regular still is.
abbrev pub RegularStays : Type 0
RegularStays =
    (old new : List Entry) (t : Tables) → ((d : ℕ) → IsTrue (is_regular (entry_of old d)) → IsTrue (is_regular (entry_of new d))) → AreOnRegular old t → AreOnRegular new t
