-- A worked NORMAL group of two disks, with one file of two bytes, of which the first is known: one extent, mirrored.
use Rattle.std.specs.Prelude.{◌≡◌, ℕ, ◌+◌, ◌*◌, ◌<◌, Bool, true, false, List, [], ◌∷◌, ◌++◌, replicate, Option, Some, None, codes}
use Rattle.std.specs.FinMap as maps
use Rattle.asm_group.specs.declared.GroupKind.TheVariants.{Normal}
use Rattle.asm_group.specs.declared.Mode.TheVariants.{Online}
use Rattle.asm_group.specs.declared.NodeKind.TheVariants.{System}
use Rattle.asm_group.specs.declared.Stripe.TheVariants.{Coarse}
use Rattle.asm_group.specs.Names.{folded}
use Rattle.asm_group.specs.Shape.{Shape}
use Rattle.asm_group.specs.Group as group
use Rattle.asm_group.specs.Group.{Known, Free, File, Group}
use Rattle.asm_group.specs.NewGroup.{system_templates, templates_by_name, usual_attributes}
use Rattle.asm_formats.specs.Content.{Content}
use Rattle.asm_formats.specs.Header.{Header}
use Rattle.asm_formats.specs.Items.{Item, file_item, chunk_item, disk_item, templates_item, node_item, settings_item, marks_item, FileHead, Home, Node}
use Rattle.asm_formats.specs.Status.{Status, Entry}
use Rattle.asm_formats.specs.Among.{IsAmong}
use Rattle.asm_images.specs.Describing.{DescribesGroup, KeepsExtentRules, AreRegular}
use Rattle.asm_images.specs.Directories.{directories}
use Rattle.asm_images.specs.Members.{ImageBytes, Member, within}
use Rattle.asm_images.specs.Stands.{HoldsBytes, Describes}

-- ---- the group

abbrev pub mirrored_shape : Shape
mirrored_shape = record { kind = Normal; au = 4096; sector = 512; step = 20000; dir_blocks = 128 }

-- its first byte is 7, and its second may be any
abbrev pub mirrored_file : File
mirrored_file = record { copies = 2; stripe = Coarse; type_name = codes "DATAFILE"; incarnation = 1; cells = Known 7 ∷ Free ∷ [] }

-- with this next incarnation
abbrev pub mirrored_group : ℕ → Group
mirrored_group next = record {
  name = codes "DATA";
  shape = mirrored_shape;
  tree = maps.insert maps.empty (folded (codes "USERS.256.1") ∷ []) (record { name = codes "USERS.256.1"; node = group.System 256 });
  files = maps.insert maps.empty 256 mirrored_file;
  templates = templates_by_name (system_templates Normal);
  attributes = usual_attributes;
  next = next;
}

-- ---- what the disks say of it

abbrev pub mirrored_head : FileHead
mirrored_head = record { copies = 2; stripe = Coarse; type_name = codes "DATAFILE"; size = 2; incarnation = 1; system = 1; alias = 0 }

-- unit 300 of each disk
abbrev pub mirrored_homes : List (Option Home)
mirrored_homes = Some (record { disk = 0; unit = 300 }) ∷ Some (record { disk = 1; unit = 300 }) ∷ None ∷ []

-- its system name, below the root
abbrev pub mirrored_node : Node
mirrored_node = record { parent = 0; kind = System; file = 256; name = codes "USERS.256.1" }

-- With these stale marks of the extent, where bit k is that of copy k, and this next incarnation. The chunk's other extents, which are absent,
-- aren't listed.
abbrev pub mirrored_items : ℕ → ℕ → List Item
mirrored_items marks next =
    file_item 256 mirrored_head
    ∷ chunk_item 256 0 (mirrored_homes ∷ [])
    ∷ disk_item 0 (record { birth = 1; name = codes "DATA_0000"; failgroup = codes "DATA_0000" })
    ∷ disk_item 1 (record { birth = 2; name = codes "DATA_0001"; failgroup = codes "DATA_0001" })
    ∷ templates_item (system_templates Normal)
    ∷ node_item 1 mirrored_node
    ∷ settings_item (record { incarnation = next; attributes = usual_attributes })
    ∷ marks_item 256 0 (marks ∷ [])
    ∷ []

-- disk d has birth d + 1 and a failure group of its own; the other is its partner
abbrev pub mirrored_entry : ℕ → Bool → ℕ → Entry
mirrored_entry d quorum partners = record { number = d; birth = d + 1; mode = Online; failgroup = d; quorum = quorum; units = 1024; since = 0; repair = 0; partners = partners }

abbrev pub mirrored_entries : List Entry
mirrored_entries = mirrored_entry 0 false 2 ∷ mirrored_entry 1 false 1 ∷ []

abbrev pub mirrored_record : Status
mirrored_record = record { id = 65536; epoch = 1; turn = 1; gone = false; births = 2; holders = 3; next_holders = 0; directories = 3; entries = mirrored_entries }

abbrev pub mirrored_header : ℕ → Header
mirrored_header d = record { group = codes "DATA"; id = 65536; number = d; birth = d + 1; disk = codes "DATA_0000"; failgroup = codes "DATA_0000"; quorum = false; shape = mirrored_shape }

-- a directory copy of this commit number, after which the next incarnation is this
abbrev pub mirrored_content : ℕ → ℕ → Content
mirrored_content marks commit = record { commit = commit; items = Some (mirrored_items marks commit) }

-- the disk in slot d
abbrev pub mirrored_disk : ℕ → Content → Member
mirrored_disk d content = record {
  slot = d;
  header = mirrored_header d;
  disk = record { size = 4194304; header = Some (mirrored_header d); claims = []; statuses = Some mirrored_record ∷ []; content = Some content; decodes = true };
}

abbrev pub mirrored_disks : Content → Content → List Member
mirrored_disks a b = mirrored_disk 0 a ∷ mirrored_disk 1 b ∷ []

-- so many bytes in front of the extent, then the two bytes of its copies: the first are a and b
abbrev pub mirrored_image : ℕ → ℕ → ℕ → ImageBytes
mirrored_image front a b = (replicate front 0 ++ (a ∷ 0 ∷ [])) ∷ (replicate front 0 ++ (b ∷ 0 ∷ [])) ∷ []

-- a commit stands on the second copy alone
abbrev pub torn_disks : List Member
torn_disks = mirrored_disks (mirrored_content 0 1) (mirrored_content 0 2)

-- the bytes stand as the group says, where the first bytes of the copies are a and b, and with these marks
abbrev pub HoldsMirroredBytes : (front a b marks : ℕ) → Type 0
HoldsMirroredBytes front a b marks =
    HoldsBytes (mirrored_image front a b) (mirrored_disks (mirrored_content marks 1) (mirrored_content marks 1)) mirrored_record (mirrored_items marks 1) (mirrored_group 1)

-- ---- the rows

-- one byte of a copy is another; that copy is marked, or the other one
pub record MirroredBytes (front : ℕ) : Type 0 where
  pub both : HoldsMirroredBytes front 7 7 0
  pub one_changed : HoldsMirroredBytes front 7 9 0 → ⊥
  pub it_is_marked : HoldsMirroredBytes front 7 9 2
  pub other_is_marked : HoldsMirroredBytes front 7 9 1 → ⊥
  -- the copy on a disk that can't be read counts too
  pub unread : Describes (mirrored_image front 7 9) (mirrored_disks (mirrored_content 0 1) (mirrored_content 0 1)) (mirrored_disk 0 (mirrored_content 0 1) ∷ [])
      mirrored_record (mirrored_content 0 1) (mirrored_group 1) → ⊥

-- So it is where 300 units stand in front.
abbrev pub MirroredBytesAre : Type 0
MirroredBytesAre = (front : ℕ) → front ≡ 300 * 4096 → MirroredBytes front

-- marks for a copy and for an extent that aren't there, and a home on a quorum disk
pub record MirroredRules : Type 0 where
  pub third_copy_marked : KeepsExtentRules (mirrored_items 4 1) → ⊥
  pub next_extent_marked : KeepsExtentRules (marks_item 256 0 (0 ∷ 1 ∷ []) ∷ mirrored_items 0 1) → ⊥
  pub quorum_home : AreRegular (mirrored_entry 0 false 2 ∷ mirrored_entry 1 true 1 ∷ []) (mirrored_items 0 1) → ⊥

-- which copy counts, where two have one commit number, and where one lags behind
pub record MirroredCopies : Type 0 where
  pub equal : directories mirrored_record (mirrored_disks (mirrored_content 0 1) (mirrored_content 2 1)) ≡ Some (mirrored_content 0 1)
  pub second_lags : directories mirrored_record (mirrored_disks (mirrored_content 0 2) (mirrored_content 0 1)) ≡ Some (mirrored_content 0 2)
  pub first_lags : directories mirrored_record (mirrored_disks (mirrored_content 0 1) (mirrored_content 0 2)) ≡ Some (mirrored_content 0 2)

-- The records describe the group, whatever of its two copies is marked.
abbrev pub MirroredIsDescribed : Type 0
MirroredIsDescribed = (marks next : ℕ) → marks < 4 → DescribesGroup mirrored_record (mirrored_items marks next) (mirrored_group next)

-- Where a commit stands on one copy alone, the disks hold the group before it or the one after it, whichever of them are left with directories.
abbrev pub MirroredIsOneOfTwo : Type 0
MirroredIsOneOfTwo =
    (front : ℕ) (P : ℕ → Bool) (c : Content) → front ≡ 300 * 4096 → directories mirrored_record (within P torn_disks) ≡ Some c
    → (g : Group) × IsAmong (mirrored_group 1 ∷ mirrored_group 2 ∷ []) g × Describes (mirrored_image front 7 7) torn_disks torn_disks mirrored_record c g
