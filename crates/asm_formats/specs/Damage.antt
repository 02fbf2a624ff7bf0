-- The block that is named where a disk's bodies don't decode.
use Rattle.std.specs.Prelude.{◌≡◌, ℕ, ◌+◌, Bool, true, ◌&&◌, ◌||◌, not, length, find, if◌then◌else◌, Option, Some, None, IsTrue}
use Rattle.std.specs.List.{range_with_len, list_all}
use Rattle.std.specs.Option.{is_some, option_map, option_or}
use Rattle.asm_group.specs.Names.{Bytes}
use Rattle.asm_formats.specs.Bytes.{block, is_open}
use Rattle.asm_formats.specs.Regions.{claim_gates, status_gates, page_home, first_log, second_log, has_region}
use Rattle.asm_formats.specs.Header.{Header}
use Rattle.asm_formats.specs.Claim.{decoded_claim}
use Rattle.asm_formats.specs.Status.{decoded_status}
use Rattle.asm_formats.specs.Content.{is_page}
use Rattle.asm_formats.specs.Logs.{LogHead, decoded_log_head, open_logs, image_in}
use Rattle.asm_formats.specs.Pages.{home_page, pages_of}
use Rattle.asm_formats.specs.PageLaws.{HaveOwnKeys}
use Rattle.asm_formats.specs.Metadata.{metadata, header_of}

-- ---- claims and status records

-- the gate is open, and the body behind it doesn't decode
abbrev pub is_spoiled : {A : Type 0} → (Bytes → Option A) → Bytes → ℕ → Bool
is_spoiled decoded bytes k = is_open bytes k && not (is_some (decoded (block bytes (k + 1))))

-- the block of the first such body of a claim or status slot
unfoldable pub body_damage : Bytes → Option ℕ
body_damage bytes = option_map (λ k. k + 1) (option_or (find (is_spoiled decoded_claim bytes) claim_gates) (find (is_spoiled decoded_status bytes) status_gates))

-- ---- the directory copy

-- a page without an image in an open log slot must decode at home, and doesn't
abbrev pub is_bad_page : ℕ → Bytes → ℕ → Bool
is_bad_page dir_blocks bytes page = not (is_some (image_in (open_logs dir_blocks bytes) page)) && not (is_page (home_page bytes page))

-- of a log slot the head, where it doesn't decode, else the first of its images that doesn't
abbrev pub head_damage : Bytes → ℕ → Option LogHead → Option ℕ
head_damage bytes k None = Some (k + 1)
head_damage bytes k (Some head) = find (λ b. not (is_page (block bytes b))) (range_with_len (k + 2) (length head.pages))

abbrev pub log_damage : ℕ → Bytes → ℕ → Option ℕ
log_damage dir_blocks bytes k = if is_open bytes k then head_damage bytes k (decoded_log_head dir_blocks (block bytes (k + 1))) else None

-- The first block that stands where a page, a log head or a page image must decode, and doesn't. Without an open log slot nothing must.
unfoldable pub directory_damage : ℕ → Bytes → Option ℕ
directory_damage dir_blocks bytes =
    if has_region dir_blocks (length bytes) && (is_open bytes (first_log dir_blocks) || is_open bytes (second_log dir_blocks))
    then option_or (option_map page_home (find (is_bad_page dir_blocks bytes) (range_with_len 0 dir_blocks)))
    (option_or (log_damage dir_blocks bytes (first_log dir_blocks)) (log_damage dir_blocks bytes (second_log dir_blocks)))
    else None

-- ---- laws

-- A damaged copy doesn't decode.
abbrev pub DamageIsSeen : Type 0
DamageIsSeen = (h : Header) (bytes : Bytes) → header_of bytes ≡ Some h → (metadata bytes).decodes ≡ true → directory_damage h.shape.dir_blocks bytes ≡ None

-- A copy without damage decodes, where no two of its pages hold one key.
abbrev pub WholeCopyDecodes : Type 0
WholeCopyDecodes =
    (h : Header) (bytes : Bytes) → header_of bytes ≡ Some h → directory_damage h.shape.dir_blocks bytes ≡ None → HaveOwnKeys (pages_of h.shape.dir_blocks bytes)
    → (metadata bytes).decodes ≡ true

-- Claims and status records decode exactly where no such body is spoiled.
pub record IsBodyDamage : Type 0 where
  pub none : (bytes : Bytes) → body_damage bytes ≡ None → IsTrue (list_all is_some (metadata bytes).claims) × IsTrue (list_all is_some (metadata bytes).statuses)
  pub some : (bytes : Bytes) → IsTrue (list_all is_some (metadata bytes).claims) → IsTrue (list_all is_some (metadata bytes).statuses) → body_damage bytes ≡ None
