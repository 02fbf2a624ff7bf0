-- What a disk's gates and bodies say, without its user bytes.
use Rattle.std.specs.Prelude.{ℕ, ◌+◌, Bool, ◌&&◌, List, [], ◌∷◌, ◌++◌, length, nat_le, if◌then◌else◌, Option, Some, None}
use Rattle.asm_group.specs.Names.{Bytes}
use Rattle.asm_formats.specs.Bytes.{block, is_open}
use Rattle.asm_formats.specs.Regions.{least_size, header_gate}
use Rattle.asm_formats.specs.Header.{Header, decoded_header}
use Rattle.asm_formats.specs.Claim.{Claim, decoded_claim}
use Rattle.asm_formats.specs.Status.{Status, decoded_status}
use Rattle.asm_formats.specs.Content.{Content}
use Rattle.asm_formats.specs.Pages.{copy_content, decodes_in}

pub record Metadata : Type 0 where
  -- bytes of the image
  pub size : ℕ
  -- the open header, where its body is one
  pub header : Option Header
  -- of each open claim slot and each open status slot what it says: none where its body is no claim or record
  pub claims : List (Option Claim)
  pub statuses : List (Option Status)
  -- the content of the directory copy, by the header's number of pages, and whether its open log slots and its pages decode
  pub content : Option Content
  pub decodes : Bool

-- what the body behind one gate says, where the gate is open
abbrev pub in_slot : {A : Type 0} → (Bytes → Option A) → Bytes → ℕ → List (Option A)
in_slot decoded bytes k = if is_open bytes k then decoded (block bytes (k + 1)) ∷ [] else []

-- a shorter image is no disk of a group
abbrev pub header_of : Bytes → Option Header
header_of bytes = if nat_le least_size (length bytes) && is_open bytes header_gate then decoded_header (block bytes 1) else None

abbrev pub content_of : Option Header → Bytes → Option Content
content_of None bytes = None
content_of (Some h) bytes = copy_content h.shape.dir_blocks bytes

unfoldable pub metadata : Bytes → Metadata
metadata bytes = record {
  size = length bytes;
  header = header_of bytes;
  claims = in_slot decoded_claim bytes 2 ++ in_slot decoded_claim bytes 4;
  statuses = in_slot decoded_status bytes 6 ++ in_slot decoded_status bytes 8;
  content = content_of (header_of bytes) bytes;
  decodes = decodes_in (content_of (header_of bytes) bytes);
}
