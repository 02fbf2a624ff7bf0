-- Files and their bytes: what is written, made and cut, and the refusals that the map decides, in their order.
use Rattle.std.specs.Prelude.{◌≡◌, ℕ, ◌+◌, ◌-◌, ◌^◌, ◌%◌, min, max, Bool, true, ◌&&◌, ◌||◌, ◌==◌, not, nat_le, nat_lt, List, [], ◌∷◌, ◌++◌, length, map, take, drop, replicate, Option, Some, None, is_none, Result, codes, if◌then◌else◌}
use Rattle.std.specs.FinMap as maps
use Rattle.std.specs.Fmt.{decimal}
use Rattle.asm_group.specs.declared.GroupKind.{GroupKind}
use Rattle.asm_group.specs.declared.GroupKind.TheVariants.{External, Normal, High}
use Rattle.asm_group.specs.Names.{Bytes, Path, is_same_name}
use Rattle.asm_group.specs.Group.{Cell, Known, Free, File, Template, Dir, System, Group}
use Rattle.asm_group.specs.Refusal as r
use Rattle.asm_world.specs.Edits.{Causes, first_cause, unless_refused, group_file_at, group_has_file, group_has_path, group_has_dir, group_with_node}
use Rattle.asm_world.specs.Settings.{group_template_at}

abbrev pub known : Bytes → List Cell
known bytes = map (λ b. Known b) bytes

-- the cells with others in place of those from an offset on
abbrev pub with_cells : List Cell → ℕ → List Cell → List Cell
with_cells cells at others = take at cells ++ (others ++ drop (at + length others) cells)

-- bytes that may be read where these cells stand
abbrev pub Agrees : List Cell → Bytes → Type 0
Agrees [] [] = Unit {0}
Agrees [] (b ∷ bytes) = ⊥
Agrees (cell ∷ cells) [] = ⊥
Agrees (Known k ∷ cells) (b ∷ bytes) = (k ≡ b) × Agrees cells bytes
Agrees (Free ∷ cells) (b ∷ bytes) = Agrees cells bytes

-- ---- a file by a path

abbrev pub file_of : Group → Option ℕ → Option File
file_of g None = None
file_of g (Some n) = maps.get g.files n

-- the file that a path names
abbrev pub named_file : Group → Path → Option File
named_file g path = file_of g (group_file_at g path)

abbrev pub size_of_file : Option File → ℕ
size_of_file None = 0
size_of_file (Some f) = length f.cells

abbrev pub is_sectors : Group → ℕ → Bool
is_sectors g n = n % g.shape.sector == 0

-- of a read or write of so many bytes at an offset
abbrev pub span_causes : Group → Path → ℕ → ℕ → Causes
span_causes g path at size =
    (not (group_has_file g path), r.NoName)
    ∷ (not (is_sectors g at) || not (is_sectors g size), r.NotSectors)
    ∷ (not (nat_le (at + size) (size_of_file (named_file g path))), r.OutOfFile) ∷ []

-- of another size
abbrev pub resize_causes : Group → Path → ℕ → Causes
resize_causes g path size = (not (group_has_file g path), r.NoName) ∷ (not (is_sectors g size), r.NotSectors) ∷ []

abbrev pub with_file_cells : Group → ℕ → File → List Cell → Group
with_file_cells g n f cells = record g { files = maps.insert g.files n (record f { cells = cells }) }

abbrev pub with_cells_of : Group → Option ℕ → Option File → (List Cell → List Cell) → Group
with_cells_of g None f change = g
with_cells_of g (Some n) None change = g
with_cells_of g (Some n) (Some f) change = with_file_cells g n f (change f.cells)

-- the cells of the named file changed
abbrev pub with_cells_at : Group → Path → (List Cell → List Cell) → Group
with_cells_at g path change = with_cells_of g (group_file_at g path) (named_file g path) change

-- The group after a write of these cells, or why it is refused.
abbrev pub group_after_write : Group → Path → ℕ → List Cell → Result Group r.Refusal
group_after_write g path at cells =
    unless_refused (first_cause (span_causes g path at (length cells))) (with_cells_at g path (λ old. with_cells old at cells))

-- cut, or grown by zeros
abbrev pub resized_cells : ℕ → List Cell → List Cell
resized_cells size cells = take size (cells ++ replicate size (Known 0))

-- The group after the file got this size, or why it is refused.
abbrev pub resized : Group → Path → ℕ → Result Group r.Refusal
resized g path size = unless_refused (first_cause (resize_causes g path size)) (with_cells_at g path (resized_cells size))

-- ---- a new file

-- the least number from n on that isn't among rising numbers
abbrev pub least_from : ℕ → List ℕ → ℕ
least_from n [] = n
least_from n (k ∷ numbers) = if k == n then least_from (n + 1) numbers else (if nat_lt k n then least_from n numbers else n)

-- the number of the next file: the least from 256 on that no file has
abbrev pub next_number : Group → ℕ
next_number g = least_from 256 (maps.keys g.files)

-- how many copies a new file has, by its template's and the regular failure groups that serve
abbrev pub copies_for : GroupKind → ℕ → ℕ → ℕ
copies_for External copies failgroups = 1
copies_for Normal copies failgroups = max 1 (min copies failgroups)
copies_for High copies failgroups = 3

-- db, type and tag
pub record NewName : Type 0 where
  pub db : Bytes
  pub type_name : Bytes
  pub tag : Bytes

-- A path of three parts, with a type of at most 30 bytes and a tag of at most 48. The type ASMVOL is kept for volumes.
abbrev pub new_name : Path → Option NewName
new_name (db ∷ type_name ∷ tag ∷ []) =
    if nat_le (length type_name) 30 && nat_le (length tag) 48 && not (is_same_name type_name (codes "ASMVOL"))
    then Some (record { db = db; type_name = type_name; tag = tag }) else None
new_name other = None

abbrev pub if_system : Option Template → Option Template
if_system None = None
if_system (Some t) = if t.system then Some t else None

-- the template named, or else the system template of the type
abbrev pub template_for : Group → NewName → Option Bytes → Option Template
template_for g name None = if_system (group_template_at g name.type_name)
template_for g name (Some template) = group_template_at g template

abbrev pub file_name : Bytes → ℕ → ℕ → Bytes
file_name tag number incarnation = tag ++ 46 ∷ decimal number ++ 46 ∷ decimal incarnation

abbrev pub new_path : NewName → ℕ → ℕ → Path
new_path name number incarnation = name.db ∷ name.type_name ∷ file_name name.tag number incarnation ∷ []

-- a directory of the path is there as a file
abbrev pub is_below_file : Group → NewName → Bool
is_below_file g name =
    let db : Path = name.db ∷ [] in
    let kind : Path = name.db ∷ name.type_name ∷ [] in
    (group_has_path g db && not (group_has_dir g db)) || (group_has_path g kind && not (group_has_dir g kind))

-- of a new file of this name, size and template
abbrev pub new_file_causes : Group → Option NewName → ℕ → Option Bytes → Causes
new_file_causes g None size template = (true, r.NoTemplate) ∷ []
new_file_causes g (Some name) size template =
    (is_none (template_for g name template), r.NoTemplate)
    ∷ (not (is_sectors g size), r.NotSectors)
    ∷ (is_below_file g name, r.NotDirectory)
    ∷ (group_has_path g (new_path name (next_number g) g.next), r.NameTaken) ∷ []

abbrev pub group_with_dir : Group → Path → Group
group_with_dir g path = if group_has_path g path then g else group_with_node g path Dir

-- the incarnation after one, which stays once it is the greatest
abbrev pub next_incarnation : ℕ → ℕ
next_incarnation n = min (n + 1) (2 ^ 64 - 1)

-- the file with its system name and the directories that were missing
abbrev pub group_with_file : Group → NewName → ℕ → File → Group
group_with_file g name n f =
    let dirs = group_with_dir (group_with_dir g (name.db ∷ [])) (name.db ∷ name.type_name ∷ []) in
    record (group_with_node dirs (new_path name n f.incarnation) (System n)) {
      files = maps.insert g.files n f;
      next = next_incarnation g.next;
    }

abbrev pub new_file : Group → NewName → Template → ℕ → List Cell → File
new_file g name by failgroups cells = record {
  copies = copies_for g.shape.kind by.copies failgroups;
  stripe = by.stripe;
  type_name = name.type_name;
  incarnation = g.next;
  cells = cells;
}
