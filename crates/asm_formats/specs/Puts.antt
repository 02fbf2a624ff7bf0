-- What a disk says at each moment while a claim, a status record or a header is put.
use Rattle.std.specs.Prelude.{◌≡◌, ℕ, ◌≤◌, true, length, Some, None, IsTrue}
use Rattle.asm_group.specs.Names.{Bytes}
use Rattle.asm_formats.specs.Regions.{least_size, header_gate}
use Rattle.asm_formats.specs.Header.{Header, is_header, header_spelling}
use Rattle.asm_formats.specs.Claim.{Claim, is_claim, claim_spelling, decoded_claim}
use Rattle.asm_formats.specs.Status.{Status, is_status, status_spelling, decoded_status}
use Rattle.asm_formats.specs.Pages.{copy_content, decodes_in}
use Rattle.asm_formats.specs.Metadata.{metadata, in_slot}
use Rattle.asm_formats.specs.Slots.{IsPut, ArePair, MaySayAfter}

-- one claim slot says what it said, nothing, or the claim, and all else stays
pub record PutsClaim (old new : Bytes) (k other : ℕ) (c : Claim) : Type 0 where
  pub rest : metadata new ≡ record (metadata old) { claims = (metadata new).claims }
  pub slot : MaySayAfter (in_slot decoded_claim old k) (in_slot decoded_claim new k) c
  pub other_slot : in_slot decoded_claim new other ≡ in_slot decoded_claim old other

abbrev pub ClaimPut : Type 0
ClaimPut = (old new : Bytes) (k other : ℕ) (c : Claim) → ArePair 2 4 k other → IsTrue (is_claim c) → IsPut old new k (claim_spelling c) → PutsClaim old new k other c

-- so it is with a status record
pub record PutsStatus (old new : Bytes) (k other : ℕ) (r : Status) : Type 0 where
  pub rest : metadata new ≡ record (metadata old) { statuses = (metadata new).statuses }
  pub slot : MaySayAfter (in_slot decoded_status old k) (in_slot decoded_status new k) r
  pub other_slot : in_slot decoded_status new other ≡ in_slot decoded_status old other

abbrev pub StatusPut : Type 0
StatusPut = (old new : Bytes) (k other : ℕ) (r : Status) → ArePair 6 8 k other → IsTrue (is_status r) → IsPut old new k (status_spelling r) → PutsStatus old new k other r

-- The disk says what it said, or it has no header, or it has the new one and its directory copy is read by that.
pub data PutsHeader (old new : Bytes) (h : Header) : Type 0 where
  header_as_before : metadata new ≡ metadata old → PutsHeader old new h
  no_header : metadata new ≡ record (metadata old) { header = None; content = None; decodes = true } → PutsHeader old new h
  new_header : metadata new ≡ record (metadata old) { header = Some h; content = copy_content h.shape.dir_blocks old; decodes = decodes_in (copy_content h.shape.dir_blocks old) }
      → PutsHeader old new h

abbrev pub HeaderPut : Type 0
HeaderPut =
    (old new : Bytes) (h : Header) → least_size ≤ length old → IsTrue (is_header h) → IsPut old new header_gate (header_spelling h) → PutsHeader old new h
