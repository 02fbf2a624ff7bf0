-- Laws on what the metadata of a disk rests on.
use Rattle.std.specs.Prelude.{◌≡◌, ℕ, ◌*◌, ◌<◌, ◌≤◌, ◌++◌, false, length, Some, None, IsTrue}
use Rattle.asm_group.specs.Names.{Bytes}
use Rattle.asm_formats.specs.Bytes.{block_size, is_open}
use Rattle.asm_formats.specs.Regions.{least_size, region_start, region_end, first_log, second_log}
use Rattle.asm_formats.specs.Header.{Header}
use Rattle.asm_formats.specs.Claim.{decoded_claim}
use Rattle.asm_formats.specs.Status.{decoded_status}
use Rattle.asm_formats.specs.Metadata.{metadata, header_of, in_slot}
use Rattle.asm_formats.specs.Places.{SameElsewhere, SameButBlocks, is_spare, IsWithin}

-- A write to bytes on which the metadata doesn't rest leaves it, however it is torn.
abbrev pub SpareWriteKeepsMetadata : Type 0
SpareWriteKeepsMetadata = (old new : Bytes) (at n : ℕ) → SameElsewhere old new at n → IsTrue (is_spare old at n) → metadata new ≡ metadata old

-- The metadata rests on no byte behind the directory region.
abbrev pub UserBytesAreSpare : Type 0
UserBytesAreSpare =
    (bytes : Bytes) (h : Header) (at n : ℕ) → header_of bytes ≡ Some h → region_end h.shape.dir_blocks * block_size ≤ at → IsTrue (is_spare bytes at n)

-- A write to user bytes leaves all metadata, however it is torn.
abbrev pub UserWriteKeepsMetadata : Type 0
UserWriteKeepsMetadata =
    (old new : Bytes) (h : Header) (at n : ℕ) → SameElsewhere old new at n → header_of old ≡ Some h → region_end h.shape.dir_blocks * block_size ≤ at
    → metadata new ≡ metadata old

-- A write to the header slot leaves claims and status records.
abbrev pub HeaderWriteKeepsOthers : Type 0
HeaderWriteKeepsOthers =
    (old new : Bytes) (at n : ℕ) → SameElsewhere old new at n → IsWithin 0 2 at n
    → metadata new ≡ record (metadata old) { header = (metadata new).header; content = (metadata new).content; decodes = (metadata new).decodes }

-- A write to the claim slots changes claims alone, one to the status slots records alone, and one behind these the directory copy alone.
abbrev pub ClaimWriteKeepsOthers : Type 0
ClaimWriteKeepsOthers =
    (old new : Bytes) (at n : ℕ) → SameElsewhere old new at n → IsWithin 2 6 at n → metadata new ≡ record (metadata old) { claims = (metadata new).claims }

abbrev pub StatusWriteKeepsOthers : Type 0
StatusWriteKeepsOthers =
    (old new : Bytes) (at n : ℕ) → SameElsewhere old new at n → IsWithin 6 10 at n → metadata new ≡ record (metadata old) { statuses = (metadata new).statuses }

abbrev pub DirectoryWriteKeepsOthers : Type 0
DirectoryWriteKeepsOthers =
    (old new : Bytes) (at n : ℕ) → SameElsewhere old new at n → region_start * block_size ≤ at
    → metadata new ≡ record (metadata old) { content = (metadata new).content; decodes = (metadata new).decodes }

-- Claims and records are those of the two slots in turn.
abbrev pub ClaimsBySlot : Type 0
ClaimsBySlot = (bytes : Bytes) → (metadata bytes).claims ≡ in_slot decoded_claim bytes 2 ++ in_slot decoded_claim bytes 4

abbrev pub StatusesBySlot : Type 0
StatusesBySlot = (bytes : Bytes) → (metadata bytes).statuses ≡ in_slot decoded_status bytes 6 ++ in_slot decoded_status bytes 8

-- While both log slots are closed, a write to the pages leaves the metadata.
abbrev pub ClosedCopyWriteKeepsMetadata : Type 0
ClosedCopyWriteKeepsMetadata =
    (old new : Bytes) (h : Header) → header_of old ≡ Some h
    → is_open old (first_log h.shape.dir_blocks) ≡ false → is_open old (second_log h.shape.dir_blocks) ≡ false
    → SameButBlocks old new region_start h.shape.dir_blocks → metadata new ≡ metadata old

-- An image under 40,960 bytes is no disk of a group.
abbrev pub ShortImageHasNoHeader : Type 0
ShortImageHasNoHeader = (bytes : Bytes) → length bytes < least_size → (metadata bytes).header ≡ None
