-- The places on a disk that its metadata rests on.
use Rattle.std.specs.Prelude.{◌≡◌, ℕ, ◌+◌, ◌*◌, ◌-◌, ◌<◌, ◌≤◌, Bool, ◌||◌, List, [], ◌∷◌, ◌++◌, length, map, filter, slice_index, nat_le, if◌then◌else◌, Option, Some, None}
use Rattle.std.specs.List.{list_all, list_any}
use Rattle.asm_group.specs.Names.{Bytes}
use Rattle.asm_formats.specs.Bytes.{block_size, is_open}
use Rattle.asm_formats.specs.Regions.{header_gate, claim_gates, status_gates, log_gates, log_blocks, region_start}
use Rattle.asm_formats.specs.Header.{Header}
use Rattle.asm_formats.specs.Metadata.{header_of}

-- a write to n bytes from a place on, whole or torn: any bytes there, and the same elsewhere
pub record SameElsewhere (old new : Bytes) (at n : ℕ) : Type 0 where
  pub size : length new ≡ length old
  pub before : (k : ℕ) → k < at → slice_index new k ≡ slice_index old k
  pub behind : (k : ℕ) → at + n ≤ k → slice_index new k ≡ slice_index old k

-- a write to so many blocks from block k on
abbrev pub SameButBlocks : Bytes → Bytes → ℕ → ℕ → Type 0
SameButBlocks old new k count = SameElsewhere old new (k * block_size) (count * block_size)

-- a place: its first byte, and its length
abbrev pub ByteRange : Type 0
ByteRange = ℕ × ℕ

-- the first byte of the gate in block k; so many blocks from block k on
abbrev pub gate_place : ℕ → ByteRange
gate_place k = (k * block_size, 1)

abbrev pub blocks_place : ℕ → ℕ → ByteRange
blocks_place k count = (k * block_size, count * block_size)

-- the gates, and the bodies of so many blocks behind the open ones
abbrev pub slot_places : Bytes → ℕ → List ℕ → List ByteRange
slot_places bytes len gates = map gate_place gates ++ map (λ k. blocks_place (k + 1) len) (filter (is_open bytes) gates)

-- the pages, where a log slot is open
abbrev pub page_places : Bytes → ℕ → List ByteRange
page_places bytes dir_blocks = if list_any (is_open bytes) (log_gates dir_blocks) then blocks_place region_start dir_blocks ∷ [] else []

abbrev pub directory_places : Bytes → Option Header → List ByteRange
directory_places bytes None = []
directory_places bytes (Some h) = slot_places bytes (log_blocks - 1) (log_gates h.shape.dir_blocks) ++ page_places bytes h.shape.dir_blocks

unfoldable pub places : Bytes → List ByteRange
places bytes =
    slot_places bytes 1 (header_gate ∷ []) ++ (slot_places bytes 1 claim_gates ++ (slot_places bytes 1 status_gates ++ directory_places bytes (header_of bytes)))

abbrev pub is_apart_from : ℕ → ℕ → ByteRange → Bool
is_apart_from at n p = nat_le (at + n) p.0 || nat_le (p.0 + p.1) at

-- the metadata rests on none of the n bytes from a place on
abbrev pub is_spare : Bytes → ℕ → ℕ → Bool
is_spare bytes at n = list_all (is_apart_from at n) (places bytes)

-- a range of bytes inside some blocks
abbrev pub IsWithin : ℕ → ℕ → ℕ → ℕ → Type 0
IsWithin first end_ at n = (first * block_size ≤ at) × (at + n ≤ end_ * block_size)
