-- A group that was just created, on one disk, and the bytes of its image.
use Rattle.std.specs.Prelude.{◌≡◌, ℕ, ◌+◌, ◌*◌, Bool, true, false, List, [], ◌∷◌, ◌++◌, replicate, Some, codes, IsTrue}
use Rattle.asm_group.specs.declared.GroupKind.TheVariants.{External}
use Rattle.asm_group.specs.declared.Mode.TheVariants.{Online}
use Rattle.asm_group.specs.Shape.{Shape}
use Rattle.asm_group.specs.Group.{Group}
use Rattle.asm_group.specs.NewGroup.{system_templates, usual_attributes, new_group}
use Rattle.asm_formats.specs.Bytes.{block_size, open_byte, whole_block}
use Rattle.asm_formats.specs.Header.{Header, header_spelling}
use Rattle.asm_formats.specs.Claim.{Claim, claim_spelling}
use Rattle.asm_formats.specs.Status.{Status, Entry, status_spelling}
use Rattle.asm_formats.specs.Items.{Item, disk_item, templates_item, settings_item}
use Rattle.asm_formats.specs.Records.{record_spelling}
use Rattle.asm_formats.specs.Content.{Content}
use Rattle.asm_formats.specs.Logs.{log_head_spelling}
use Rattle.asm_formats.specs.Metadata.{Metadata, metadata}
use Rattle.asm_images.specs.Stands.{Standing}
use Rattle.asm_images.specs.Sound.{SoundBy}

abbrev pub small_shape : Shape
small_shape = record { kind = External; au = 4096; sector = 512; step = 20000; dir_blocks = 128 }

-- the empty group
abbrev pub created_group : Group
created_group = new_group (codes "DATA") small_shape usual_attributes

-- ---- what the disk says once the first record stands

abbrev pub only_header : Header
only_header = record { group = codes "DATA"; id = 65536; number = 0; birth = 1; disk = codes "DATA_0000"; failgroup = codes "DATA_0000"; quorum = false; shape = small_shape }

abbrev pub only_claim : Claim
only_claim = record { id = 65536; epoch = 1 }

abbrev pub only_entry : Entry
only_entry = record { number = 0; birth = 1; mode = Online; failgroup = 0; quorum = false; units = 1024; since = 0; repair = 0; partners = 0 }

abbrev pub first_record : Status
first_record = record { id = 65536; epoch = 1; turn = 1; gone = false; births = 1; holders = 1; next_holders = 0; directories = 1; entries = only_entry ∷ [] }

abbrev pub only_disk : Item
only_disk = disk_item 0 (record { birth = 1; name = codes "DATA_0000"; failgroup = codes "DATA_0000" })

abbrev pub first_templates : Item
first_templates = templates_item (system_templates External)

abbrev pub first_settings : Item
first_settings = settings_item (record { incarnation = 1; attributes = usual_attributes })

abbrev pub first_items : List Item
first_items = only_disk ∷ first_templates ∷ first_settings ∷ []

abbrev pub first_content : Content
first_content = record { commit = 1; items = Some first_items }

abbrev pub first_metadata : Metadata
first_metadata = record {
  size = 4194304;
  header = Some only_header;
  claims = Some only_claim ∷ [];
  statuses = Some first_record ∷ [];
  content = Some first_content;
  decodes = true;
}

-- An image that says so is sound: it is that of the empty group.
abbrev pub CreatedIsSound : Type 0
CreatedIsSound = (bytes : List ℕ) → metadata bytes ≡ first_metadata → SoundBy 65536 (bytes ∷ []) (created_group ∷ []) (Some first_record) []

-- With the disk, Status and Directories are there.
abbrev pub CreatedIsStanding : Type 0
CreatedIsStanding = (bytes : List ℕ) (slots : ℕ → Bool) → metadata bytes ≡ first_metadata → IsTrue (slots 0) → Standing 65536 (bytes ∷ []) slots

-- ---- the bytes of such an image

abbrev pub open_gate : List ℕ
open_gate = whole_block (open_byte ∷ [])

abbrev pub zero_block : List ℕ
zero_block = replicate block_size 0

-- header, claim slots, status slots, and the first three pages
abbrev pub first_blocks : List (List ℕ)
first_blocks =
    open_gate ∷ header_spelling only_header
    ∷ open_gate ∷ claim_spelling only_claim ∷ zero_block ∷ zero_block
    ∷ open_gate ∷ status_spelling first_record ∷ zero_block ∷ zero_block
    ∷ record_spelling only_disk ∷ record_spelling first_templates ∷ record_spelling first_settings ∷ []

-- the first log slot, with commit 1 of no image
abbrev pub first_log_blocks : List (List ℕ)
first_log_blocks = open_gate ∷ log_head_spelling (record { commit = 1; pages = [] }) ∷ []

abbrev pub flat : List (List ℕ) → List ℕ
flat [] = []
flat (b ∷ bs) = b ++ flat bs

-- so many zeros for the other pages, and so many behind the log's head
unfoldable pub created_bytes : ℕ → ℕ → List ℕ
created_bytes pages rest = flat first_blocks ++ (replicate pages 0 ++ (flat first_log_blocks ++ replicate rest 0))

-- A disk of 1,024 blocks, one a unit, has the metadata of the created group.
abbrev pub CreatedBytesAre : Type 0
CreatedBytesAre =
    (pages rest : ℕ) → pages ≡ 125 * block_size → rest + 140 * block_size ≡ 1024 * block_size → metadata (created_bytes pages rest) ≡ first_metadata
