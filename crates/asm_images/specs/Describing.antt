-- What a status record and the records of a directory content say of a group.
use Rattle.std.specs.Prelude.{◌≡◌, ℕ, suc, ◌+◌, ◌<◌, ◌≤◌, Bool, true, false, ◌||◌, not, List, length, filter, ◌==◌, Option, Some, None, IsTrue}
use Rattle.std.specs.List.{list_all}
use Rattle.std.specs.Option.{is_some, option_map}
use Rattle.std.specs.FinMap as maps
use Rattle.asm_group.specs.Names.{Path}
use Rattle.asm_group.specs.declared.Stripe.{Stripe}
use Rattle.asm_group.specs.Shape.{Shape}
use Rattle.asm_group.specs.Group.{File, Group}
use Rattle.asm_group.specs.NewGroup.{templates_by_name}
use Rattle.asm_placement.specs.Layout.{extent_len, LiesAt, has_extent_by_size}
use Rattle.asm_placement.specs.Tables.{head_of, homes_in, marks_in, home_of, is_stale, is_extent}
use Rattle.asm_placement.specs.Naming.{is_birth, is_pending}
use Rattle.asm_placement.specs.Placed.{places_fit}
use Rattle.asm_placement.specs.Work.{is_regular}
use Rattle.asm_placement.specs.Partners.{HasPartners}
use Rattle.asm_formats.specs.Status.{Status, Entry, entry_of}
use Rattle.asm_formats.specs.Items.{Item, rebalance_item, pending_item, FileHead, Home, Settings}
use Rattle.asm_images.specs.Tables.{info_of, pending_of, templates_of, settings_of}
use Rattle.asm_formats.specs.Nodes.{entry_of_node}
use Rattle.asm_images.specs.Tree.{node_at_path, KeepsTreeRules}

-- ---- the layout in a group of a shape

-- bytes of extent i
abbrev pub extent_size : Shape → ℕ → ℕ
extent_size s i = extent_len s.au s.step i

-- byte o of a file lies at this inner byte of extent i
abbrev pub LiesIn : Shape → Stripe → ℕ → ℕ → ℕ → Type 0
LiesIn s stripe o i inner = LiesAt stripe s.au s.step o i inner

-- ---- parts

-- the file's head says what the file is
abbrev pub IsHeadOf : FileHead → File → Type 0
IsHeadOf head file =
    (head.copies ≡ file.copies) × (head.stripe ≡ file.stripe) × (head.type_name ≡ file.type_name)
    × (head.incarnation ≡ file.incarnation) × (head.size ≡ length file.cells)

-- a head with a system node is that of a file of the group, and each file has one
abbrev pub SameFile : Option FileHead → Option File → Type 0
SameFile None None = Unit {0}
SameFile None (Some file) = ⊥
SameFile (Some head) None = head.system ≡ 0
SameFile (Some head) (Some file) = (0 < head.system) × IsHeadOf head file

-- the entry has a disk record of its number and birth
abbrev pub has_info_in_items : List Item → Entry → Bool
has_info_in_items items e = is_birth e.birth (info_of items e.number)

-- a record of kind 4, for which two blocks are kept
abbrev pub is_operation_item : Item → Bool
is_operation_item (rebalance_item power) = true
is_operation_item (pending_item op) = true
is_operation_item _ = false

-- the records of extents
pub record KeepsExtentRules (items : List Item) : Type 0 where
  -- extents are numbered from 0 without a gap
  pub no_gap : (f i : ℕ) → IsTrue (is_extent items f (suc i)) → IsTrue (is_extent items f i)
  -- no home at a copy number that the file doesn't have
  pub redundancy : (f i copy : ℕ) (head : FileHead) → head_of items f ≡ Some head → head.copies ≤ copy → home_of items f i copy ≡ None
  -- a chunk and its stale marks go together
  pub marks : (f c : ℕ) → is_some (homes_in items f c) ≡ is_some (marks_in items f c)
  -- a copy that is marked stale is there
  pub stale : (f i copy : ℕ) → is_stale items f i copy ≡ true → IsTrue (is_some (home_of items f i copy))

-- no home lies on a disk of a quorum failure group
abbrev pub AreRegular : List Entry → List Item → Type 0
AreRegular entries items = (f i copy : ℕ) (h : Home) → home_of items f i copy ≡ Some h → IsTrue (is_regular (entry_of entries h.disk))

-- ---- all of it

-- The record and the items describe the group.
pub record DescribesGroup (r : Status) (items : List Item) (g : Group) : Type 0 where
  -- names
  pub tree : (path : Path) → maps.get g.tree path ≡ option_map entry_of_node (node_at_path items path)
  pub tree_rules : KeepsTreeRules items
  -- files
  pub files : (f : ℕ) → SameFile (head_of items f) (maps.get g.files f)
  -- each extent that a file has by its size has all its copies
  pub extents : (f i copy : ℕ) (file : File) → maps.get g.files f ≡ Some file → IsTrue (has_extent_by_size file.stripe g.shape.au g.shape.step (length file.cells) i) → copy < file.copies
      → IsTrue (is_some (home_of items f i copy))
  pub extent_rules : KeepsExtentRules items
  -- each chunk is of a file of the group or of the pending operation
  pub owned : (f c : ℕ) → IsTrue (is_some (homes_in items f c)) → IsTrue (is_some (maps.get g.files f) || is_pending f (pending_of items))
  -- homes lie apart, in the user units of the entries, on regular disks
  pub places : IsTrue (places_fit g.shape r.entries items)
  pub regular : AreRegular r.entries items
  -- templates, the attributes that may be set, and the next incarnation
  pub templates : option_map templates_by_name (templates_of items) ≡ Some g.templates
  pub attributes : option_map (λ (s : Settings). s.attributes) (settings_of items) ≡ Some g.attributes
  pub next : option_map (λ (s : Settings). s.incarnation) (settings_of items) ≡ Some g.next
  -- disks
  pub disks : IsTrue (list_all (has_info_in_items items) r.entries)
  pub partners : HasPartners r.entries
  -- room for the rebalance and the pending operation
  pub room : length (filter (λ i. not (is_operation_item i)) items) + 2 ≤ g.shape.dir_blocks
