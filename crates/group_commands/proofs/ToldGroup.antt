-- The group that a mounted group's tables tell.
use Rattle.std.proofs.Common.{◌≡◌, ℕ, ◌==◌, Bool, true, false, List, [], ◌∷◌, length, Option, Some, None, refl, sym, ◌∙◌, ap, if◌then◌else◌}
use Rattle.std.specs.Prelude.{replicate}
use Rattle.std.proofs.lemmas.Bool.{eq-eqb, eqb-true}
use Rattle.std.proofs.lemmas.List.{length-replicate}
use Rattle.asm_group.specs.Group.{Cell, Free, Group}
use Rattle.asm_group.specs.Names.{Bytes}
use Rattle.asm_formats.specs.Items.{FileHead}
use Rattle.session.proofs.catalog_laws.HavingItems.{have_items}
use Rattle.group_recovery.specs.catalog_tables.Tables.{Tables}
use Rattle.file_directory.specs.Files.{head_at}
use Rattle.session.specs.group_engine.Mounts.{IsWhole, MountedGroup, Represents}
use Rattle.session.specs.group_of.Describing.{IsDescribed}
use Rattle.session.specs.group_of.Groups.{HasCells, cells_of, group_of}
use Rattle.session.proofs.group_of.Describes.{described_has_cells}
use Rattle.session.proofs.group_of.Leading.{described_is_of_catalog}
use Rattle.session.specs.Sessions.{IsToldBy}

-- the cells where there are so many, else free ones
abbrev fitted : ℕ → List Cell → List Cell
fitted size cells = if length cells == size then cells else replicate size Free

fitted_length : (size : ℕ) (cells : List Cell) → length (fitted size cells) ≡ size
fitted_length size cells = by (length cells == size) refl
  where
    by : (b : Bool) → (length cells == size) ≡ b → length (if b then cells else replicate size Free) ≡ size
    by true is = eqb-true (length cells) size is
    by false is = length-replicate size Free

abbrev in_head : Option FileHead → List Cell → List Cell
in_head None cells = cells
in_head (Some head) cells = fitted head.size cells

-- cells for the files of the tables
abbrev fitting : Tables → (ℕ → List Cell) → ℕ → List Cell
fitting t cells f = in_head (head_at t.files f) (cells f)

fits : (t : Tables) (cells : ℕ → List Cell) → HasCells t (fitting t cells)
fits t cells f head at = ap (λ (o : Option FileHead). length (in_head o (cells f))) at ∙ fitted_length head.size (cells f)

-- cells that fit stay
fits_same : (t : Tables) (cells : ℕ → List Cell) → HasCells t cells → (f : ℕ) → fitting t cells f ≡ cells f
fits_same t cells has f = by (head_at t.files f) refl
  where
    by : (o : Option FileHead) → head_at t.files f ≡ o → in_head o (cells f) ≡ cells f
    by None is = refl
    by (Some head) is = ap (λ (b : Bool). if b then cells f else replicate head.size Free) (eq-eqb (length (cells f)) head.size (has f head is))

abbrev first_cells : List Group → ℕ → List Cell
first_cells [] f = []
first_cells (g ∷ others) f = cells_of g f

-- the group of the tables, with the cells of the first of these groups where they fit
abbrev pub told_group : MountedGroup → List Group → Group
told_group m groups = group_of m.name m.catalog.shape m.catalog.tables (fitting m.catalog.tables (first_cells groups))

pub is_told : (m : MountedGroup) (groups : List Group) → IsToldBy m (told_group m groups)
is_told m groups = record { cells = fitting m.catalog.tables (first_cells groups); has = fits m.catalog.tables (first_cells groups); is = refl }

pub name_told : (m : MountedGroup) (groups : List Group) → (told_group m groups).name ≡ m.name
unfolding group_of
name_told m groups = refl

-- a group that the tables represent is told as it is
pub told_as_it_is : (m : MountedGroup) (g : Group) → IsWhole m → Represents m g → told_group m (g ∷ []) ≡ g
told_as_it_is m g whole represents =
    let items = have_items m.catalog.tables whole.are_tables in
    let d : IsDescribed m.register.value m.catalog g = record { tables = whole.are_tables; units = whole.units; shape = represents.shape; describes = represents.describes } in
    let has : HasCells m.catalog.tables (cells_of g) = described_has_cells m.register.value items.0 m.catalog.tables g whole.are_tables items.1 (represents.describes items.0 items.1) in
    let same : fitting m.catalog.tables (cells_of g) ≡ cells_of g = λ i f. fits_same m.catalog.tables (cells_of g) has f i in
    ap (λ (cells : ℕ → List Cell). group_of m.name m.catalog.shape m.catalog.tables cells) same
    ∙ sym (described_is_of_catalog m.register.value m.catalog g d ∙ ap (λ (n : Bytes). group_of n m.catalog.shape m.catalog.tables (cells_of g)) represents.name)
