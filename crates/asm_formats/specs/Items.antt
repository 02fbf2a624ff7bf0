-- What a directory record says.
use Rattle.std.specs.Prelude.{ℕ, ◌+◌, ◌*◌, ◌^◌, Bool, true, false, ◌&&◌, ◌||◌, List, [], ◌∷◌, length, nat_lt, nat_le, ◌==◌, Option, Some, None}
use Rattle.std.specs.Int.{is_in_range}
use Rattle.std.specs.List.{list_all}
use Rattle.asm_group.specs.declared.Stripe.{Stripe}
use Rattle.asm_group.specs.declared.NodeKind.{NodeKind}
use Rattle.asm_group.specs.declared.NodeKind.TheVariants.{Directory}
use Rattle.asm_group.specs.declared.PendingKind.{PendingKind}
use Rattle.asm_group.specs.Names.{Bytes, is_name, is_part, folded}
use Rattle.asm_group.specs.Group.{Template, Attributes}
use Rattle.asm_formats.specs.Sets.{most_disks}

-- the head of a file
pub record FileHead : Type 0 where
  -- copies of each extent
  pub copies : ℕ
  pub stripe : Stripe
  pub type_name : Bytes
  pub size : ℕ
  pub incarnation : ℕ
  -- the nodes of its names; no alias is 0
  pub system : ℕ
  pub alias : ℕ

-- where a copy of an extent begins
pub record Home : Type 0 where
  pub disk : ℕ
  pub unit : ℕ

-- the homes of an extent's three copies
abbrev pub Homes : Type 0
Homes = List (Option Home)

pub record DiskInfo : Type 0 where
  pub birth : ℕ
  pub name : Bytes
  pub failgroup : Bytes

pub record Pending : Type 0 where
  pub kind : PendingKind
  pub file : ℕ
  -- extents that stay
  pub kept : ℕ

-- a name in the tree; parent 0 is the root
pub record Node : Type 0 where
  pub parent : ℕ
  pub kind : NodeKind
  pub file : ℕ
  pub name : Bytes

pub record Settings : Type 0 where
  -- the next incarnation
  pub incarnation : ℕ
  pub attributes : Attributes

-- a record: its key and its value
pub data Item : Type 0 where
  file_item : ℕ → FileHead → Item
  -- extents 256 * c and on of a file, for chunk c
  chunk_item : ℕ → ℕ → List Homes → Item
  disk_item : ℕ → DiskInfo → Item
  rebalance_item : ℕ → Item
  pending_item : Pending → Item
  templates_item : List Template → Item
  node_item : ℕ → Node → Item
  settings_item : Settings → Item
  -- of each extent of a chunk, the copies that are stale: bit k for copy k
  marks_item : ℕ → ℕ → List ℕ → Item

-- a node of this kind is a directory of the tree
abbrev pub is_directory_kind : NodeKind → Bool
is_directory_kind Directory = true
is_directory_kind _ = false

-- ---- the kinds of records

-- heads of files, and the chunks of their extents
abbrev pub files_kind : ℕ
files_kind = 1

abbrev pub disks_kind : ℕ
disks_kind = 2

-- the active rebalance and the pending operation
abbrev pub operations_kind : ℕ
operations_kind = 4

abbrev pub templates_kind : ℕ
templates_kind = 5

-- nodes of the tree of names
abbrev pub nodes_kind : ℕ
nodes_kind = 6

abbrev pub settings_kind : ℕ
settings_kind = 9

-- marks of stale copies
abbrev pub marks_kind : ℕ
marks_kind = 12

-- ---- keys

pub record Key : Type 0 where
  pub kind : ℕ
  pub a : ℕ
  pub b : ℕ

abbrev pub item_key : Item → Key
item_key (file_item f head) = record { kind = files_kind; a = f; b = 0 }
item_key (chunk_item f c homes) = record { kind = files_kind; a = f; b = c + 1 }
item_key (disk_item d info) = record { kind = disks_kind; a = d; b = 0 }
item_key (rebalance_item power) = record { kind = operations_kind; a = 0; b = 0 }
item_key (pending_item op) = record { kind = operations_kind; a = 1; b = 0 }
item_key (templates_item ts) = record { kind = templates_kind; a = 0; b = 0 }
item_key (node_item n node) = record { kind = nodes_kind; a = n; b = 0 }
item_key (settings_item s) = record { kind = settings_kind; a = 0; b = 0 }
item_key (marks_item f c marks) = record { kind = marks_kind; a = f; b = c }

-- the order of keys, as one number
abbrev pub key_rank : Key → ℕ
key_rank k = (k.kind * 2 ^ 32 + k.a) * 2 ^ 32 + k.b

abbrev pub is_same_key : Key → Key → Bool
is_same_key j k = (j.kind == k.kind) && ((j.a == k.a) && (j.b == k.b))

-- ---- what values may be

-- copies of an extent
abbrev pub is_redundancy : ℕ → Bool
is_redundancy n = is_in_range 1 3 n

-- disk 255 stands for an absent home
abbrev pub is_home : Option Home → Bool
is_home None = true
is_home (Some h) = nat_lt h.disk 255 && nat_lt h.unit (2 ^ 32)

-- extents in a chunk
abbrev pub chunk_len : ℕ
chunk_len = 256

abbrev pub is_homes : Homes → Bool
is_homes hs = (length hs == 3) && list_all is_home hs

-- a text of at most 30 bytes
abbrev pub is_text : Bytes → Bool
is_text t = nat_le (length t) 30 && list_all (λ c. nat_lt c 256) t

-- templates in a group
abbrev pub most_templates : ℕ
most_templates = 64

abbrev pub is_template : Template → Bool
is_template t = is_name t.name && is_redundancy t.copies

-- a is before b in the order of bytes
abbrev pub precedes : Bytes → Bytes → Bool
precedes xs [] = false
precedes [] (y ∷ ys) = true
precedes (x ∷ xs) (y ∷ ys) = nat_lt x y || ((x == y) && precedes xs ys)

-- by folded name, no two alike
abbrev pub names_ascend : List Template → Bool
names_ascend [] = true
names_ascend (s ∷ []) = true
names_ascend (s ∷ t ∷ ts) = precedes (folded s.name) (folded t.name) && names_ascend (t ∷ ts)

-- The rules that one record can break. A node is numbered from 1, since 0 is the root.
unfoldable pub is_item : Item → Bool
is_item (file_item f h) =
    nat_lt f (2 ^ 32) && (is_redundancy h.copies && (is_part 30 h.type_name && (nat_lt h.size (2 ^ 64)
    && (nat_lt h.incarnation (2 ^ 64) && (nat_lt 0 h.system && (nat_lt h.system (2 ^ 32) && nat_lt h.alias (2 ^ 32)))))))
is_item (chunk_item f c homes) = nat_lt f (2 ^ 32) && (nat_lt (c + 1) (2 ^ 32) && ((length homes == chunk_len) && list_all is_homes homes))
is_item (disk_item d info) = nat_lt d most_disks && (nat_lt info.birth (2 ^ 64) && (is_name info.name && is_name info.failgroup))
is_item (rebalance_item power) = nat_lt power (2 ^ 16)
is_item (pending_item op) = nat_lt op.file (2 ^ 32) && nat_lt op.kept (2 ^ 64)
is_item (templates_item ts) = nat_le (length ts) most_templates && (list_all is_template ts && names_ascend ts)
is_item (node_item n node) =
    nat_lt 0 n && (nat_lt n (2 ^ 32) && (nat_lt node.parent (2 ^ 32) && (nat_lt node.file (2 ^ 32) && is_part 80 node.name)))
is_item (settings_item s) =
    nat_lt s.incarnation (2 ^ 64) && (nat_lt s.attributes.repair (2 ^ 64)
    && (is_text s.attributes.asm && (is_text s.attributes.rdbms && is_text s.attributes.advm)))
is_item (marks_item f c marks) = nat_lt f (2 ^ 32) && (nat_lt (c + 1) (2 ^ 32) && ((length marks == chunk_len) && list_all (λ m. nat_lt m 8) marks))
