-- The laws of spellings: what is decoded was spelled, and what is spelled is decoded.
use Rattle.std.specs.Prelude.{◌≡◌, ◌⊎◌, ℕ, ◌^◌, ◌≤◌, Bool, length, Option, Some, IsTrue}
use Rattle.asm_group.specs.Names.{Bytes}
use Rattle.asm_formats.specs.Bytes.{block_size}
use Rattle.asm_formats.specs.Sets.{most_disks}
use Rattle.asm_formats.specs.Header.{Header, is_header, header_spelling, decoded_header}
use Rattle.asm_formats.specs.Claim.{Claim, is_claim, claim_spelling, decoded_claim}
use Rattle.asm_formats.specs.Status.{Status, Entry, entry_fields, is_status, status_spelling, status_spelling_1, decoded_status}
use Rattle.asm_formats.specs.Items.{Item, Key, item_key, is_item}
use Rattle.asm_formats.specs.Values.{value, decoded_item}
use Rattle.asm_formats.specs.Records.{Frame, most_value, is_frame, frame_spelling, decoded_frame, record_spelling, decoded_record}
use Rattle.asm_formats.specs.Logs.{LogHead, is_log_head, log_head_spelling, decoded_log_head}

-- What is decoded is allowed, and the bytes are its spelling; an allowed value is decoded from its spelling.
abbrev pub IsCodec : {A : Type 0} → (A → Bool) → (A → Bytes) → (Bytes → Option A) → Type 0
IsCodec {A} is_allowed spelling decoded =
    ((bytes : Bytes) (x : A) → decoded bytes ≡ Some x → IsTrue (is_allowed x) × (bytes ≡ spelling x))
    × ((x : A) → IsTrue (is_allowed x) → decoded (spelling x) ≡ Some x)

abbrev pub HeaderCodec : Type 0
HeaderCodec = IsCodec is_header header_spelling decoded_header

abbrev pub ClaimCodec : Type 0
ClaimCodec = IsCodec is_claim claim_spelling decoded_claim

-- a status record has one spelling of version 2 and, without next holders, one of version 1
pub record IsStatusCodec : Type 0 where
  pub decoded : (bytes : Bytes) (r : Status) → decoded_status bytes ≡ Some r
      → IsTrue (is_status r) × ((bytes ≡ status_spelling r) ⊎ ((r.next_holders ≡ 0) × (bytes ≡ status_spelling_1 r)))
  pub again : (r : Status) → IsTrue (is_status r) → decoded_status (status_spelling r) ≡ Some r
  pub again_1 : (r : Status) → IsTrue (is_status r) → r.next_holders ≡ 0 → decoded_status (status_spelling_1 r) ≡ Some r

abbrev pub FrameCodec : Type 0
FrameCodec = IsCodec is_frame frame_spelling decoded_frame

-- a value is decoded by its key
pub record IsItemCodec : Type 0 where
  pub decoded : (k : Key) (bytes : Bytes) (i : Item) → decoded_item k bytes ≡ Some i → IsTrue (is_item i) × (item_key i ≡ k) × (bytes ≡ value i)
  pub again : (i : Item) → IsTrue (is_item i) → decoded_item (item_key i) (value i) ≡ Some i

abbrev pub RecordCodec : Type 0
RecordCodec = IsCodec is_item record_spelling decoded_record

-- page numbers have 32 bits
abbrev pub LogHeadCodec : Type 0
LogHeadCodec = (dir_blocks : ℕ) → dir_blocks ≤ 2 ^ 32 → IsCodec (is_log_head dir_blocks) log_head_spelling (decoded_log_head dir_blocks)

-- ---- sizes

-- each spelling is a block
pub record AreBlocks : Type 0 where
  pub header : (h : Header) → IsTrue (is_header h) → length (header_spelling h) ≡ block_size
  pub claim : (c : Claim) → length (claim_spelling c) ≡ block_size
  pub status : (r : Status) → IsTrue (is_status r) → length (status_spelling r) ≡ block_size
  pub status_1 : (r : Status) → IsTrue (is_status r) → length (status_spelling_1 r) ≡ block_size
  pub frame : (f : Frame) → IsTrue (is_frame f) → length (frame_spelling f) ≡ block_size
  pub record_ : (i : Item) → IsTrue (is_item i) → length (record_spelling i) ≡ block_size
  pub log_head : (dir_blocks : ℕ) (h : LogHead) → IsTrue (is_log_head dir_blocks h) → length (log_head_spelling h) ≡ block_size

-- a status record has at most 64 entries of 40 bytes, and the value of a directory record at most 4,064 bytes
pub record AreSmall : Type 0 where
  pub entries : (r : Status) → IsTrue (is_status r) → length r.entries ≤ most_disks
  pub entry : (e : Entry) → length (entry_fields e) ≡ 40
  pub value_ : (i : Item) → IsTrue (is_item i) → length (value i) ≤ most_value
