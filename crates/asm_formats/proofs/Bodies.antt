-- Each body is read as it is written, and in no other way.
use Rattle.asm_formats.specs.Codecs.{HeaderCodec, ClaimCodec, IsStatusCodec, FrameCodec, IsItemCodec, RecordCodec, LogHeadCodec}
use Rattle.asm_formats.specs.Header.{is_header, header_spelling, header_at, decoded_header}
use Rattle.asm_formats.specs.Claim.{is_claim, claim_spelling, claim_at, decoded_claim}
use Rattle.asm_formats.proofs.Codec.{spelled}
use Rattle.asm_formats.proofs.HeaderReading.{header_again, claim_again}
use Rattle.asm_formats.proofs.StatusReading.{status_again, status_again_1, status_spelled}
use Rattle.asm_formats.proofs.ItemReading.{decoded_again, item_spelled}
use Rattle.asm_formats.proofs.RecordReading.{frame_again, frame_spelled, record_again, record_spelled}
use Rattle.asm_formats.proofs.LogReading.{log_head_again, log_head_spelled}

pub header_codec : HeaderCodec
unfolding decoded_header
header_codec = (λ bytes h e. let s = spelled is_header header_spelling bytes (header_at bytes) h e in (s.allowed, s.same), header_again)

pub claim_codec : ClaimCodec
unfolding decoded_claim
claim_codec = (λ bytes c e. let s = spelled is_claim claim_spelling bytes (claim_at bytes) c e in (s.allowed, s.same), claim_again)

pub status_codec : IsStatusCodec
status_codec = record { decoded = status_spelled; again = status_again; again_1 = status_again_1 }

pub frame_codec : FrameCodec
frame_codec = (λ bytes f e. let s = frame_spelled bytes f e in (s.allowed, s.same), frame_again)

pub item_codec : IsItemCodec
item_codec = record { decoded = λ k bytes i e. let s = item_spelled k bytes i e in (s.allowed, s.key_is, s.same); again = decoded_again }

pub record_codec : RecordCodec
record_codec = (λ bytes i e. let s = record_spelled bytes i e in (s.allowed, s.same), record_again)

pub log_head_codec : LogHeadCodec
log_head_codec = λ d small. (λ bytes h e. let s = log_head_spelled d bytes h e in (s.allowed, s.same), λ h ok. log_head_again d h small ok)
