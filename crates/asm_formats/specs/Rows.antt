-- Worked examples that the definitions have to meet.
use Rattle.std.specs.Prelude.{◌≡◌, ℕ, ◌+◌, ◌*◌, true, false, [], ◌∷◌, ◌++◌, take, replicate, codes, Some, None}
use Rattle.asm_group.specs.declared.GroupKind.TheVariants.{Normal}
use Rattle.asm_group.specs.declared.Stripe.TheVariants.{Coarse, Fine}
use Rattle.asm_group.specs.declared.Mode.TheVariants.{Online}
use Rattle.asm_group.specs.declared.NodeKind.TheVariants.{Directory}
use Rattle.asm_group.specs.declared.PendingKind.TheVariants.{Grow}
use Rattle.asm_group.specs.Names.{Bytes}
use Rattle.asm_group.specs.Shape.{Shape}
use Rattle.asm_group.specs.Group.{Template}
use Rattle.asm_formats.specs.Regions.{reserved_units, log_gates, region_end, page_home}
use Rattle.asm_formats.specs.Header.{Header, is_header, header_spelling}
use Rattle.asm_formats.specs.Claim.{claim_spelling}
use Rattle.asm_formats.specs.Status.{Status, Entry, is_status, is_status_1}
use Rattle.asm_formats.specs.Following.{sets, Follows}
use Rattle.asm_formats.specs.Items.{file_item, chunk_item, disk_item, rebalance_item, pending_item, templates_item, node_item, settings_item, marks_item, FileHead, is_item}

-- ---- places

-- a NORMAL group with units of so many bytes
abbrev pub shape_of : ℕ → ℕ → Shape
shape_of au dir_blocks = record { kind = Normal; au = au; sector = 512; step = 20000; dir_blocks = dir_blocks }

abbrev pub megabyte : ℕ
megabyte = 1048576

-- 1,024 pages: 9 units of 1 MB or 3 of 4 MB; 128 pages: 270 units of 4 KB
abbrev pub ReservedRow : Type 0
ReservedRow =
    (reserved_units (shape_of megabyte 1024) ≡ 9) × (reserved_units (shape_of (4 * megabyte) 1024) ≡ 3) × (reserved_units (shape_of 4096 128) ≡ 270)

-- 128 pages: blocks 10 to 137, log slots at 138 and 204, and the region ends where the second one does; 1,024 pages: log slots at 1,034 and 1,100
abbrev pub PlacesRow : Type 0
PlacesRow =
    (page_home 0 ≡ 10) × (page_home 127 ≡ 137) × (log_gates 128 ≡ 138 ∷ 204 ∷ []) × (region_end 128 ≡ 204 + 66)
    × (log_gates 1024 ≡ 1034 ∷ 1100 ∷ []) × (region_end 1024 ≡ 2062)

-- ---- headers and claims

abbrev pub some_header : ℕ → Header
some_header number = record {
  group = codes "DATA";
  id = 1;
  number = number;
  birth = 4;
  disk = codes "DATA_0003";
  failgroup = codes "DATA_0003";
  quorum = false;
  shape = shape_of megabyte 1024;
}

-- disk 63 is the last, and the form is 2
abbrev pub HeaderRow : Type 0
HeaderRow = (is_header (some_header 63) ≡ true) × (is_header (some_header 64) ≡ false) × (take 10 (header_spelling (some_header 3)) ≡ codes "ASMH" ++ 2 ∷ 4 ∷ codes "DATA")

abbrev pub ClaimRow : Type 0
ClaimRow = take 21 (claim_spelling (record { id = 258; epoch = 3 })) ≡ codes "ASMC" ++ 0 ∷ 0 ∷ 0 ∷ 0 ∷ 0 ∷ 0 ∷ 1 ∷ 2 ∷ 0 ∷ 0 ∷ 0 ∷ 0 ∷ 0 ∷ 0 ∷ 0 ∷ 3 ∷ 0 ∷ []

-- ---- status records of three disks, with some holders and next holders

abbrev pub some_entry : ℕ → Entry
some_entry d = record { number = d; birth = d + 1; mode = Online; failgroup = d; quorum = false; units = 64; since = 0; repair = 0; partners = 0 }

abbrev pub some_status : ℕ → ℕ → Status
some_status holders next = record {
  id = 1;
  epoch = 1;
  turn = 1;
  gone = false;
  births = 3;
  holders = holders;
  next_holders = next;
  directories = 1;
  entries = some_entry 0 ∷ some_entry 1 ∷ some_entry 2 ∷ [];
}

-- each disk of either set has an entry, and version 1 has no next holders
abbrev pub StatusRow : Type 0
StatusRow =
    (is_status (some_status 7 6) ≡ true) × (is_status (some_status 8 0) ≡ false) × (is_status (some_status 7 8) ≡ false)
    × (is_status_1 (some_status 7 0) ≡ true) × (is_status_1 (some_status 7 6) ≡ false)

-- disks 0 and 1, and then 2, by number and birth
abbrev pub SetsRow : Type 0
SetsRow = (sets (some_status 3 0) ≡ ((0, 1) ∷ (1, 2) ∷ []) ∷ []) × (sets (some_status 3 4) ≡ ((0, 1) ∷ (1, 2) ∷ []) ∷ ((2, 3) ∷ []) ∷ [])

-- after one set it stays, and next holders may come
abbrev pub OneSetRow : Type 0
OneSetRow = Follows (some_status 3 0) (some_status 3 0) × Follows (some_status 3 0) (some_status 3 4)

-- after two sets both stay, or the next holders alone
abbrev pub TwoSetsRow : Type 0
TwoSetsRow = Follows (some_status 3 4) (some_status 3 4) × Follows (some_status 3 4) (some_status 4 0)

-- the old holders alone don't follow, nor others
abbrev pub RefusedSetsRow : Type 0
RefusedSetsRow = (Follows (some_status 3 4) (some_status 3 0) → ⊥) × (Follows (some_status 3 4) (some_status 3 1) → ⊥) × (Follows (some_status 3 0) (some_status 1 0) → ⊥)

-- ---- directory records

abbrev pub some_head : ℕ → FileHead
some_head system = record { copies = 2; stripe = Fine; type_name = codes "DATAFILE"; size = 1; incarnation = 1; system = system; alias = 0 }

abbrev pub some_template : Bytes → Template
some_template name = record { name = name; copies = 2; stripe = Coarse; system = false }

-- a record of each kind
abbrev pub ItemsRow : Type 0
ItemsRow =
    (is_item (file_item 256 (some_head 3)) ≡ true)
    × (is_item (chunk_item 256 0 (replicate 256 (Some (record { disk = 3; unit = 9 }) ∷ None ∷ None ∷ []))) ≡ true)
    × (is_item (disk_item 3 (record { birth = 4; name = codes "DATA_0003"; failgroup = codes "FG1" })) ≡ true)
    × (is_item (rebalance_item 1024) ≡ true)
    × (is_item (pending_item (record { kind = Grow; file = 256; kept = 8 })) ≡ true)
    × (is_item (templates_item (some_template (codes "archive") ∷ some_template (codes "DATAFILE") ∷ [])) ≡ true)
    × (is_item (node_item 1 (record { parent = 0; kind = Directory; file = 0; name = codes "db" })) ≡ true)
    × (is_item (settings_item (record { incarnation = 1; attributes = record { repair = 12960; asm = []; rdbms = codes "11.2"; advm = [] } })) ≡ true)
    × (is_item (marks_item 256 0 (replicate 256 7)) ≡ true)

-- A file has a system node, nodes are numbered from 1, templates ascend by folded name, and a copy has a number below 3.
abbrev pub RefusedItemsRow : Type 0
RefusedItemsRow =
    (is_item (file_item 256 (some_head 0)) ≡ false)
    × (is_item (node_item 0 (record { parent = 0; kind = Directory; file = 0; name = codes "db" })) ≡ false)
    × (is_item (templates_item (some_template (codes "datafile") ∷ some_template (codes "DATAFILE") ∷ [])) ≡ false)
    × (is_item (templates_item (some_template (codes "DATAFILE") ∷ some_template (codes "archive") ∷ [])) ≡ false)
    × (is_item (marks_item 256 0 (replicate 256 8)) ≡ false)
