-- What the bodies that decode are.
use Rattle.std.proofs.Common.{◌≡◌, ℕ, List, Some}
use Rattle.asm_formats.specs.Header.{Header, header_spelling, header_at, is_header, decoded_header}
use Rattle.asm_formats.proofs.Codec.{IsSpelledBy, spelled}

pub header_spelled : (bytes : List ℕ) (h : Header) → decoded_header bytes ≡ Some h → IsSpelledBy is_header header_spelling bytes h
unfolding decoded_header
header_spelled bytes h e = spelled is_header header_spelling bytes (header_at bytes) h e
