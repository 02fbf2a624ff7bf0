-- How many new records a change puts, and that there are blocks for them.
use Rattle.std.proofs.Common.{◌≡◌, ◌<◌, ◌≤◌, ◌+◌, ◌-◌, ℕ, Bool, true, false, eqb, List, [], ◌∷◌, ◌++◌, length, Option, Some, None, refl, sym, ap, ◌∙◌, arith}
use Rattle.std.specs.Prelude.{◌&&◌, not}
use Rattle.std.proofs.lemmas.Bool.{ne_eqb, true≢false}
use Rattle.asm_formats.specs.Items.{DiskInfo, FileHead, Homes, Node}
use Rattle.asm_base.specs.Records.{DirectoryRecord}
use Rattle.page_map.specs.Changes.{is_put}
use Rattle.page_map.specs.Tables.{one_if}
use Rattle.file_directory.specs.Files.{head_at}
use Rattle.extent_map.specs.Extents.{chunk_at, chunk_key}
use Rattle.asm_base.specs.Chunks.{Chunk}
use Rattle.alias_tree.specs.Nodes.{node_at}
use Rattle.staleness_directory.specs.Marks.{marks_at}
use Rattle.disk_directory.specs.Disks.{info_at}
use Rattle.catalog_tables.specs.Faults.{IsCatalog, disk_key, file_key, key_of_marks, node_key, settings_key, templates_key}
use Rattle.catalog_tables.specs.Rules.{blocks_used, lacks_record, new_records}
use Rattle.catalog_tables.specs.Tables.{Catalogued, Tables, item_at}

-- ---- keys that have a record

pub settings_there : (t : Tables) → lacks_record t settings_key ≡ false
unfolding item_at
settings_there t = refl

pub templates_there : (t : Tables) → lacks_record t templates_key ≡ false
unfolding item_at
templates_there t = refl

pub head_there : (t : Tables) (f : ℕ) (head : FileHead) → head_at t.files f ≡ Some head → lacks_record t (file_key f) ≡ false
unfolding item_at
head_there t f head e = rw e refl

pub node_there : (t : Tables) (n : ℕ) (x : Node) → node_at t.nodes n ≡ Some x → lacks_record t (node_key n) ≡ false
unfolding item_at
node_there t n x e = rw e refl

pub disk_there : (t : Tables) (d : ℕ) (info : DiskInfo) → info_at t.disks d ≡ Some info → lacks_record t (disk_key d) ≡ false
unfolding item_at
disk_there t d info e = rw e refl

pub marks_there : (t : Tables) (k : Chunk) (marks : List ℕ) → marks_at t.stale k ≡ Some marks → lacks_record t (key_of_marks k) ≡ false
unfolding item_at
marks_there t k marks e = rw e refl

pub chunk_there : (t : Tables) (f c : ℕ) (homes : List Homes) → chunk_at t.extents (f, c) ≡ Some homes → lacks_record t (chunk_key f c) ≡ false
unfolding item_at
chunk_there t f c homes e =
    let some : eqb (c + 1) 0 ≡ false = ne_eqb (c + 1) 0 (λ q. omega (arith, q)) in
    let less : c + 1 - 1 ≡ c = omega arith in
    rw (some, less, e) refl

-- the same the other way round

pub no_node : (t : Tables) (n : ℕ) → lacks_record t (node_key n) ≡ true → node_at t.nodes n ≡ None
no_node t n lacks = by (node_at t.nodes n) refl where
  by : (o : Option Node) → node_at t.nodes n ≡ o → node_at t.nodes n ≡ None
  by None e = e
  by (Some x) e = absurd (true≢false (sym lacks ∙ node_there t n x e))

pub no_disk : (t : Tables) (d : ℕ) → lacks_record t (disk_key d) ≡ true → info_at t.disks d ≡ None
no_disk t d lacks = by (info_at t.disks d) refl where
  by : (o : Option DiskInfo) → info_at t.disks d ≡ o → info_at t.disks d ≡ None
  by None e = e
  by (Some info) e = absurd (true≢false (sym lacks ∙ disk_there t d info e))

-- ---- how many are new

old_first : (t : Tables) (e : DirectoryRecord) (es : List DirectoryRecord) → lacks_record t e.0 ≡ false → new_records t (e ∷ es) ≡ new_records t es
old_first t e es old =
    let none : one_if (lacks_record t e.0 && not (is_put es e.0)) ≡ 0 = ap (λ (b : Bool). one_if (b && not (is_put es e.0))) old in
    omega (arith, none)

at_most_one : (b : Bool) → one_if b ≤ 1
at_most_one true = omega arith
at_most_one false = omega arith

any_first : (t : Tables) (e : DirectoryRecord) (es : List DirectoryRecord) → new_records t (e ∷ es) ≤ 1 + new_records t es
any_first t e es = let one = at_most_one (lacks_record t e.0 && not (is_put es e.0)) in omega (arith, one)

pub at_most : (t : Tables) (es : List DirectoryRecord) → new_records t es ≤ length es
at_most t [] = omega arith
at_most t (e ∷ es) =
    let rest = at_most t es in
    let one = any_first t e es in
    omega (arith, rest, one)

-- the last of them isn't new
old_last : (t : Tables) (es : List DirectoryRecord) (e : DirectoryRecord) → lacks_record t e.0 ≡ false → new_records t (es ++ e ∷ []) ≤ length es
old_last t [] e old = let none = old_first t e [] old in omega (arith, none)
old_last t (x ∷ es) e old =
    let rest = old_last t es e old in
    let one = any_first t x (es ++ e ∷ []) in
    omega (arith, rest, one)

-- ---- blocks for them

abbrev pub HasRoom : Catalogued → List DirectoryRecord → Type 0
HasRoom c put = new_records c.tables put + blocks_used c.tables + 2 ≤ c.shape.dir_blocks

pub nothing_room : (c : Catalogued) → IsCatalog c → HasRoom c []
nothing_room c is = let room = is.rules.room in omega (arith, room)

pub old_room : (c : Catalogued) (e : DirectoryRecord) → IsCatalog c → lacks_record c.tables e.0 ≡ false → HasRoom c (e ∷ [])
old_room c e is old =
    let none = old_first c.tables e [] old in
    let room = is.rules.room in
    omega (arith, none, room)

pub two_old_room : (c : Catalogued) (e g : DirectoryRecord) → IsCatalog c → lacks_record c.tables e.0 ≡ false → lacks_record c.tables g.0 ≡ false → HasRoom c (e ∷ g ∷ [])
two_old_room c e g is old older =
    let first = old_first c.tables e (g ∷ []) old in
    let none = old_first c.tables g [] older in
    let room = is.rules.room in
    omega (arith, first, none, room)

-- a record that may be new
pub one_room : (c : Catalogued) (e : DirectoryRecord) → IsCatalog c → (lacks_record c.tables e.0 ≡ true → blocks_used c.tables + 2 < c.shape.dir_blocks) → HasRoom c (e ∷ [])
one_room c e is room = by (lacks_record c.tables e.0) refl where
  by : (b : Bool) → lacks_record c.tables e.0 ≡ b → HasRoom c (e ∷ [])
  by true new =
      let few = at_most c.tables (e ∷ []) in
      let free = room new in
      omega (arith, few, free)
  by false old = old_room c e is old

-- a new record, and one that isn't
pub first_room : (c : Catalogued) (e g : DirectoryRecord) → blocks_used c.tables + 2 < c.shape.dir_blocks → lacks_record c.tables g.0 ≡ false → HasRoom c (e ∷ g ∷ [])
first_room c e g room old =
    let one = any_first c.tables e (g ∷ []) in
    let none = old_first c.tables g [] old in
    omega (arith, one, none, room)

-- two records
pub two_room : (c : Catalogued) (e g : DirectoryRecord) → blocks_used c.tables + 4 ≤ c.shape.dir_blocks → HasRoom c (e ∷ g ∷ [])
two_room c e g room = let few = at_most c.tables (e ∷ g ∷ []) in omega (arith, few, room)

-- records of which the last isn't new
pub all_but_last : (c : Catalogued) (e : DirectoryRecord) (es : List DirectoryRecord) (g : DirectoryRecord) → length es + 1 + (blocks_used c.tables + 2) ≤ c.shape.dir_blocks → lacks_record c.tables g.0 ≡ false → HasRoom c (e ∷ (es ++ g ∷ []))
all_but_last c e es g room old =
    let few = old_last c.tables es g old in
    let one = any_first c.tables e (es ++ g ∷ []) in
    omega (arith, few, one, room)
