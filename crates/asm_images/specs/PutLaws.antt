-- From torn bytes up: at each moment while a slot of a disk is put, the image is sound.
use Rattle.std.specs.Prelude.{◌≡◌, ℕ, ◌+◌, ◌*◌, ◌<◌, ◌≤◌, false, List, [], length, get_or, ◌∷◌, Option, Some, None, IsTrue}
use Rattle.std.specs.Option.{is_some}
use Rattle.asm_group.specs.Group.{Group}
use Rattle.asm_formats.specs.Bytes.{block_size, is_open}
use Rattle.asm_formats.specs.Regions.{least_size, header_gate, region_end, region_start, first_log, second_log}
use Rattle.asm_formats.specs.Header.{Header, is_header, header_spelling}
use Rattle.asm_formats.specs.Claim.{Claim, is_claim, claim_spelling, decoded_claim}
use Rattle.asm_formats.specs.Status.{Status, is_status, status_spelling, decoded_status}
use Rattle.asm_formats.specs.Following.{rank}
use Rattle.asm_formats.specs.Logs.{Log}
use Rattle.asm_formats.specs.Pages.{committed}
use Rattle.asm_formats.specs.Metadata.{header_of, in_slot}
use Rattle.asm_formats.specs.Places.{SameElsewhere, SameButBlocks}
use Rattle.asm_formats.specs.Slots.{IsPut, ArePair}
use Rattle.asm_formats.specs.LogSlots.{IsLogPut, MayCloseLog, IsLogClose, IsCheckpoint}
use Rattle.asm_formats.specs.Among.{IsAmong}
use Rattle.asm_images.specs.Members.{ImageBytes, Member, written, metadata_of, all_members, of_group, claims_of_group, IsOutside}
use Rattle.asm_images.specs.Sound.{SoundBy}
use Rattle.asm_images.specs.Steps.{IsLast, CoversBirths, IsKnown, MayJoin, KeepsCopies}

-- the bytes of the disk in a slot
abbrev pub bytes_of : ImageBytes → ℕ → List ℕ
bytes_of image slot = get_or image slot []

-- ---- what a write leaves

-- A write before the end of the directory region changes no byte of a current copy, however it is torn.
abbrev pub MetadataWriteKeepsCopies : Type 0
MetadataWriteKeepsCopies =
    (id : ℕ) (old : ImageBytes) (groups : List Group) (completed : Option Status) (begun : List Status) → SoundBy id old groups completed begun
    → (slot : ℕ) (bytes : List ℕ) (at n : ℕ) → slot < length old → SameElsewhere (bytes_of old slot) bytes at n
    → ((m : Member) → IsAmong (all_members id old) m → m.slot ≡ slot → at + n ≤ region_end m.header.shape.dir_blocks * block_size)
    → KeepsCopies id old (written old slot bytes) completed begun

-- A write behind it leaves all metadata, however it is torn.
abbrev pub UserWriteKeepsImageMetadata : Type 0
UserWriteKeepsImageMetadata =
    (old : ImageBytes) (slot : ℕ) (bytes : List ℕ) (h : Header) (at n : ℕ) → slot < length old → SameElsewhere (bytes_of old slot) bytes at n
    → header_of (bytes_of old slot) ≡ Some h → region_end h.shape.dir_blocks * block_size ≤ at → metadata_of (written old slot bytes) ≡ metadata_of old

-- ---- claims and records

-- what the slot holds isn't greater than what the other slot of the pair holds
abbrev pub OtherClaims : ℕ → List ℕ → ℕ → ℕ → Type 0
OtherClaims id bytes k other =
    (c : Claim) → IsAmong (claims_of_group id (in_slot decoded_claim bytes k)) c
    → (d : Claim) × IsAmong (claims_of_group id (in_slot decoded_claim bytes other)) d × (c.epoch ≤ d.epoch)

abbrev pub OtherHolds : ℕ → List ℕ → ℕ → ℕ → Type 0
OtherHolds id bytes k other =
    (s : Status) → IsAmong (of_group id (in_slot decoded_status bytes k)) s
    → (t : Status) × IsAmong (of_group id (in_slot decoded_status bytes other)) t × (rank s ≤ rank t)

-- At each moment while a claim is put into the slot that doesn't hold, the image is sound.
abbrev pub ClaimPutKeeps : Type 0
ClaimPutKeeps =
    (id : ℕ) (old : ImageBytes) (groups : List Group) (completed : Option Status) (begun : List Status) → SoundBy id old groups completed begun
    → (c : Claim) (slot : ℕ) (bytes : List ℕ) (k other : ℕ) → IsTrue (is_claim c) → slot < length old → ArePair 2 4 k other → OtherClaims id (bytes_of old slot) k other
    → IsPut (bytes_of old slot) bytes k (claim_spelling c) → SoundBy id (written old slot bytes) groups completed begun

-- So it is while the last record is put.
abbrev pub RecordPutKeeps : Type 0
RecordPutKeeps =
    (id : ℕ) (old : ImageBytes) (groups : List Group) (completed : Option Status) (begun : List Status) → SoundBy id old groups completed begun
    → (r : Status) (slot : ℕ) (bytes : List ℕ) (k other : ℕ) → IsLast completed begun r → IsTrue (is_status r) → CoversBirths completed begun r
    → slot < length old → ArePair 6 8 k other → OtherHolds id (bytes_of old slot) k other
    → IsPut (bytes_of old slot) bytes k (status_spelling r) → SoundBy id (written old slot bytes) groups completed begun

-- ---- the directory copy

-- At each moment while a log is put whose content is known, the image is sound.
abbrev pub LogPutKeeps : Type 0
LogPutKeeps =
    (id : ℕ) (old : ImageBytes) (groups : List Group) (completed : Option Status) (begun : List Status) → SoundBy id old groups completed begun
    → (h : Header) (log : Log) (slot : ℕ) (bytes : List ℕ) (k other : ℕ) → slot < length old → header_of (bytes_of old slot) ≡ Some h
    → IsLogPut h.shape.dir_blocks (bytes_of old slot) bytes k other log
    → IsTrue (is_some (committed h.shape.dir_blocks (bytes_of old slot) log).items)
    → IsKnown id old (written old slot bytes) groups completed begun slot (committed h.shape.dir_blocks (bytes_of old slot) log)
    → SoundBy id (written old slot bytes) groups completed begun

-- At each moment of a checkpoint, however the pages are torn.
abbrev pub CheckpointKeeps : Type 0
CheckpointKeeps =
    (id : ℕ) (old : ImageBytes) (groups : List Group) (completed : Option Status) (begun : List Status) → SoundBy id old groups completed begun
    → (h : Header) (slot : ℕ) (bytes : List ℕ) → slot < length old → header_of (bytes_of old slot) ≡ Some h
    → IsCheckpoint h.shape.dir_blocks (bytes_of old slot) bytes → SoundBy id (written old slot bytes) groups completed begun

-- While a log slot is closed that doesn't hold the content.
abbrev pub LogCloseKeeps : Type 0
LogCloseKeeps =
    (id : ℕ) (old : ImageBytes) (groups : List Group) (completed : Option Status) (begun : List Status) → SoundBy id old groups completed begun
    → (h : Header) (slot : ℕ) (bytes : List ℕ) (k other : ℕ) → slot < length old → header_of (bytes_of old slot) ≡ Some h
    → MayCloseLog h.shape.dir_blocks (bytes_of old slot) k other → IsLogClose (bytes_of old slot) bytes k → SoundBy id (written old slot bytes) groups completed begun

-- While the last open log slot is closed, with which the content goes.
abbrev pub LastLogCloseKeeps : Type 0
LastLogCloseKeeps =
    (id : ℕ) (old : ImageBytes) (groups : List Group) (completed : Option Status) (begun : List Status) → SoundBy id old groups completed begun
    → (h : Header) (slot : ℕ) (bytes : List ℕ) (k other : ℕ) → slot < length old → header_of (bytes_of old slot) ≡ Some h
    → ArePair (first_log h.shape.dir_blocks) (second_log h.shape.dir_blocks) k other → is_open (bytes_of old slot) other ≡ false
    → IsLogClose (bytes_of old slot) bytes k → SoundBy id (written old slot bytes) groups completed begun

-- While both log slots are closed pages are written: those of a copy that is formatted.
abbrev pub ClosedCopyWriteKeeps : Type 0
ClosedCopyWriteKeeps =
    (id : ℕ) (old : ImageBytes) (groups : List Group) (completed : Option Status) (begun : List Status) → SoundBy id old groups completed begun
    → (h : Header) (slot : ℕ) (bytes : List ℕ) → slot < length old → header_of (bytes_of old slot) ≡ Some h
    → is_open (bytes_of old slot) (first_log h.shape.dir_blocks) ≡ false → is_open (bytes_of old slot) (second_log h.shape.dir_blocks) ≡ false
    → SameButBlocks (bytes_of old slot) bytes region_start h.shape.dir_blocks → SoundBy id (written old slot bytes) groups completed begun

-- ---- the header

-- A disk whose header gate is closed, or whose header is spoiled, leaves.
abbrev pub HeaderCloseKeeps : Type 0
HeaderCloseKeeps =
    (id : ℕ) (old : ImageBytes) (groups : List Group) (completed : Option Status) (begun : List Status) → SoundBy id old groups completed begun
    → (slot : ℕ) (bytes : List ℕ) → slot < length old → SameButBlocks (bytes_of old slot) bytes header_gate 2 → header_of bytes ≡ None
    → SoundBy id (written old slot bytes) groups completed begun

-- the gates of claims, status records and logs are closed
abbrev pub OthersClosed : Header → List ℕ → Type 0
OthersClosed h bytes = (k : ℕ) → IsAmong (2 ∷ 4 ∷ 6 ∷ 8 ∷ first_log h.shape.dir_blocks ∷ second_log h.shape.dir_blocks ∷ []) k → is_open bytes k ≡ false

-- At each moment while the header of a joining disk is put, whose other gates are closed.
abbrev pub HeaderPutKeeps : Type 0
HeaderPutKeeps =
    (id : ℕ) (old : ImageBytes) (groups : List Group) (completed : Option Status) (begun : List Status) → SoundBy id old groups completed begun
    → (h : Header) (slot : ℕ) (bytes : List ℕ) → slot < length old → least_size ≤ length (bytes_of old slot) → IsTrue (is_header h) → OthersClosed h (bytes_of old slot)
    → IsOutside (all_members id old) slot → MayJoin id (all_members id old) groups completed begun h
    → IsPut (bytes_of old slot) bytes header_gate (header_spelling h) → SoundBy id (written old slot bytes) groups completed begun
