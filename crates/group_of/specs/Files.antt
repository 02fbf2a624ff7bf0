-- Files that come, change their size and go: what the tables after a catalog's plan are in the world, the number of a new file, and what
-- refuses it.
use Rattle.std.specs.Prelude.{◌≡◌, ⊤, ℕ, List, length, Option, Some, None, is_some, IsTrue, Result, Ok}
use Rattle.std.specs.FinMap as maps
use Rattle.asm_group.specs.declared.Stripe.{Stripe}
use Rattle.asm_group.specs.Causes.{first_cause, unless_refused}
use Rattle.asm_group.specs.Names.{Bytes, Path}
use Rattle.asm_group.specs.Refusal as r
use Rattle.asm_group.specs.Shape.{Shape, is_shape}
use Rattle.asm_group.specs.Group.{Cell, File, Group, Template}
use Rattle.asm_formats.specs.Items.{FileHead, Key, Pending}
use Rattle.asm_formats.specs.Status.{Status}
use Rattle.asm_base.specs.Records.{DirectoryRecord}
use Rattle.refusal_lines.specs.declared.refusal.Refusal.{Refusal}
use Rattle.asm_world.specs.Edits as world
use Rattle.asm_world.specs.Files as bytes
use Rattle.catalog_laws.specs.file_directory.Files.{head_at, with_head}
use Rattle.catalog_laws.specs.catalog.FilePlans.{IsRemovalPlan, IsSizePlan, with_removal_pending, tables_with_size}
use Rattle.catalog_laws.specs.catalog.NameChecks.{IsCheckRefusal}
use Rattle.catalog_laws.specs.catalog.NamePlans.{IsNamePlan, IsNameRefusal, made_file, name_at, tables_with_name, new_head}
use Rattle.catalog_laws.specs.catalog.Numbers.{IsNextFile}
use Rattle.catalog_laws.specs.catalog.Plans.{AreOwned}
use Rattle.catalog_laws.specs.catalog_tables.Rules.{KeepsRules}
use Rattle.catalog_laws.specs.catalog_tables.Tables.{Catalogued, Tables}
use Rattle.group_of.specs.Groups.{AreCellsButFor, HasCells, file_of_head, group_of}
use Rattle.group_of.specs.Describing.{HaveGroup, IsDescribed}
use Rattle.group_of.specs.Edits.{IsRefusedBeside, IsWorldsRefusal}

-- ---- sizes

-- The tables with another size of a file are those of the world's group in which it has other cells.
abbrev pub SizeIsWorlds : Type 0
SizeIsWorlds =
    (name : Bytes) (s : Shape) (t : Tables) (f size : ℕ) (head : FileHead) (pending : Option Pending) (cells new : ℕ → List Cell) → head_at t.files f ≡ Some head → AreCellsButFor f cells new
    → group_of name s (tables_with_size t f head size pending) new ≡ bytes.with_file_cells (group_of name s t cells) f (file_of_head head (cells f)) (new f)

-- The world's file of a path, cut or grown by zeros, has these other cells.
abbrev pub ResizedHasCells : Type 0
ResizedHasCells =
    (g : Group) (path : Path) (f size : ℕ) (file : File) → world.group_file_at g path ≡ Some f → maps.get g.files f ≡ Some file → IsTrue (bytes.is_sectors g size)
    → bytes.resized g path size ≡ Ok (bytes.with_file_cells g f file (bytes.resized_cells size file.cells))

-- They are as many as the size says.
abbrev pub ResizedCellsAreLong : Type 0
ResizedCellsAreLong = (size : ℕ) (cells : List Cell) → length (bytes.resized_cells size cells) ≡ size

-- ---- a file comes

-- the head that the plan of a file's name gives it
abbrev pub head_planned : {c : Catalogued} {path : Path} {size copies : ℕ} {stripe : Stripe} {put : List DirectoryRecord} {gone : List Key} → IsNamePlan c path size copies stripe put gone → FileHead
head_planned {c} {path} {size} {copies} {stripe} {put} {gone} p = new_head c.tables p.name size copies stripe p.filing.number

-- The tables after the plan of a new file's name are those of the world's group with the file.
abbrev pub NewNameIsWorlds : Type 0
NewNameIsWorlds =
    (name : Bytes) (c : Catalogued) (path : Path) (size copies : ℕ) (stripe : Stripe) (put : List DirectoryRecord) (gone : List Key) (cells new : ℕ → List Cell)
    (p : IsNamePlan c path size copies stripe put gone) → AreCellsButFor (made_file c.tables) cells new
    → group_of name c.shape (tables_with_name c.tables (made_file c.tables) (head_planned p) p.made) new
    ≡ bytes.group_with_file (group_of name c.shape c.tables cells) p.name (made_file c.tables) (file_of_head (head_planned p) (new (made_file c.tables)))

-- It is the file that the world makes by a template, where it has the template's stripe and as many copies as the world gives it.
abbrev pub NewFileIsWorlds : Type 0
NewFileIsWorlds =
    (name : Bytes) (s : Shape) (t : Tables) (cells : ℕ → List Cell) (file : bytes.NewName) (by : Template) (failgroups size system : ℕ) (new : List Cell)
    → file_of_head (new_head t file size (bytes.copies_for s.kind by.copies failgroups) by.stripe system) new ≡ bytes.new_file (group_of name s t cells) file by failgroups new

-- ---- its number

-- The tables keep the rules of a shape of the formats, and no operation is pending.
pub record IsAtRest (s : Shape) (t : Tables) : Type 0 where
  pub shape : IsTrue (is_shape s)
  pub rules : KeepsRules s t
  pub pending : t.operations.pending ≡ None

-- Then the number of the catalog's next file is that of the world's.
abbrev pub NextNumberIsWorlds : Type 0
NextNumberIsWorlds = (name : Bytes) (s : Shape) (t : Tables) (f : ℕ) (cells : ℕ → List Cell) → IsAtRest s t → IsNextFile t f → bytes.next_number (group_of name s t cells) ≡ f

-- So is that of the file that is then made, in tables with the same files.
abbrev pub MadeNumberIsWorlds : Type 0
MadeNumberIsWorlds =
    (name : Bytes) (s : Shape) (t u : Tables) (cells : ℕ → List Cell) → IsAtRest s t → IsNextFile t (made_file u) → u.files ≡ t.files → bytes.next_number (group_of name s u cells) ≡ made_file u

-- ---- and what refuses it

-- nothing, or why the world refuses a file of this name, size and template
abbrev pub new_file_answer : Group → Option bytes.NewName → ℕ → Option Bytes → Result (Unit {0}) r.Refusal
new_file_answer g file size template = unless_refused (first_cause (bytes.new_file_causes g file size template)) tt

-- the world has a template for the name, if it is one
abbrev pub HasTemplate : Group → Option bytes.NewName → Option Bytes → Type 0
HasTemplate g None template = ⊤
HasTemplate g (Some file) template = IsTrue (is_some (bytes.template_for g file template))

-- What is found of the name and the size before anything is made.
abbrev pub CheckIsWorlds : Type 0
CheckIsWorlds =
    (name : Bytes) (c : Catalogued) (path : Path) (size : ℕ) (template : Option Bytes) (refusal : Refusal) (cells : ℕ → List Cell) → IsAtRest c.shape c.tables
    → HasTemplate (group_of name c.shape c.tables cells) (name_at path) template → IsCheckRefusal c path size refusal
    → IsWorldsRefusal (new_file_answer (group_of name c.shape c.tables cells) (name_at path) size template) refusal

-- What refuses the plan of the name, once the file is being made by the world's number.
abbrev pub NameRefusalIsWorlds : Type 0
NameRefusalIsWorlds =
    (name : Bytes) (c : Catalogued) (path : Path) (size : ℕ) (template : Option Bytes) (refusal : Refusal) (cells : ℕ → List Cell)
    → bytes.next_number (group_of name c.shape c.tables cells) ≡ made_file c.tables → HasTemplate (group_of name c.shape c.tables cells) (name_at path) template
    → IsTrue (bytes.is_sectors (group_of name c.shape c.tables cells) size) → IsNameRefusal c path refusal
    → IsRefusedBeside (new_file_answer (group_of name c.shape c.tables cells) (name_at path) size template) refusal

-- ---- a file goes

-- The tables without a file and its names are those of the world's group without it.
abbrev pub RemovalIsWorlds : Type 0
RemovalIsWorlds =
    (name : Bytes) (s : Shape) (t : Tables) (f : ℕ) (head : FileHead) (cells : ℕ → List Cell) → KeepsRules s t → head_at t.files f ≡ Some head → KeepsRules s (with_removal_pending t f head)
    → group_of name s (with_removal_pending t f head) cells ≡ world.group_without_file (group_of name s t cells) f

-- ---- the cells then

-- where the file that is put has as many cells as its head says
abbrev pub PutHasCells : Type 0
PutHasCells =
    (t u : Tables) (f : ℕ) (head : FileHead) (cells new : ℕ → List Cell) → u.files ≡ with_head t.files f head → AreCellsButFor f cells new → length (new f) ≡ head.size → HasCells t cells → HasCells u new

abbrev pub RemovalKeepsCells : Type 0
RemovalKeepsCells = (s : Shape) (t : Tables) (f : ℕ) (head : FileHead) (cells : ℕ → List Cell) → KeepsRules s t → HasCells t cells → HasCells (with_removal_pending t f head) cells

-- ---- of a group that the catalog's tables describe

-- The tables without the file describe the group without it.
abbrev pub RemovalLeadsOn : Type 0
RemovalLeadsOn =
    (r : Status) (c : Catalogued) (g : Group) (f : ℕ) (put : List DirectoryRecord) (gone : List Key) → IsDescribed r c g → KeepsRules c.shape c.tables → (p : IsRemovalPlan c f put gone)
    → AreOwned (with_removal_pending c.tables f p.head) → HaveGroup r (with_removal_pending c.tables f p.head) (world.group_without_file g f)

-- Those with another size of a file describe the group in which it has other cells, as many as the size says.
abbrev pub SizeLeadsOn : Type 0
SizeLeadsOn =
    (r : Status) (c : Catalogued) (g : Group) (f size : ℕ) (put : List DirectoryRecord) (gone : List Key) (file : File) (cells : List Cell) → IsDescribed r c g → (p : IsSizePlan c f size put gone)
    → AreOwned (tables_with_size c.tables f p.head size p.pending) → maps.get g.files f ≡ Some file → length cells ≡ size
    → HaveGroup r (tables_with_size c.tables f p.head size p.pending) (bytes.with_file_cells g f file cells)

-- Those with a new file describe the group with the file, of as many cells.
abbrev pub NewNameLeadsOn : Type 0
NewNameLeadsOn =
    (r : Status) (c : Catalogued) (g : Group) (path : Path) (size copies : ℕ) (stripe : Stripe) (put : List DirectoryRecord) (gone : List Key) (cells : List Cell) → IsDescribed r c g
    → (p : IsNamePlan c path size copies stripe put gone) → length cells ≡ size
    → HaveGroup r (tables_with_name c.tables (made_file c.tables) (head_planned p) p.made) (bytes.group_with_file g p.name (made_file c.tables) (file_of_head (head_planned p) cells))
