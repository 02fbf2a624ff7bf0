-- The log of a directory copy: page images that count in place of the pages.
use Rattle.std.specs.Prelude.{ℕ, zero, suc, ◌+◌, ◌^◌, Bool, true, ◌&&◌, List, [], ◌∷◌, ◌++◌, length, map, zip, drop, find, flat_map, if◌then◌else◌, nat_lt, nat_le, ◌==◌, codes, Option, Some, None, None}
use Rattle.std.specs.Int.{w32, w64}
use Rattle.std.specs.List.{list_all}
use Rattle.std.specs.Option.{is_some, option_map, option_or}
use Rattle.asm_group.specs.Names.{Bytes}
use Rattle.asm_formats.specs.Bytes.{block, is_open, number_bytes, number_at, whole_block, values_at, spelled_by}
use Rattle.asm_formats.specs.Regions.{log_pages, first_log, second_log}
use Rattle.asm_formats.specs.Status.{ascends_from}
use Rattle.asm_formats.specs.Content.{is_page}

-- ---- the head

pub record LogHead : Type 0 where
  pub commit : ℕ
  -- of each image its page
  pub pages : List ℕ

-- the head's one spelling
unfoldable pub log_head_spelling : LogHead → Bytes
log_head_spelling h = whole_block (codes "ASML" ++ (number_bytes w64 h.commit ++ (number_bytes w32 (length h.pages) ++ flat_map (number_bytes w32) h.pages)))

-- ascending pages of a copy with so many
unfoldable pub is_log_head : ℕ → LogHead → Bool
is_log_head dir_blocks h =
    nat_lt h.commit (2 ^ 64) && (nat_le (length h.pages) log_pages && (ascends_from 0 h.pages && list_all (λ p. nat_lt p dir_blocks) h.pages))

unfoldable pub log_head_at : Bytes → LogHead
log_head_at bytes =
    let commit = number_at w64 (drop 4 bytes) in
    let count = number_at w32 commit.1 in
    record { commit = commit.0; pages = (values_at (number_at w32) count.0 count.1).0 }

-- the head that a block is the spelling of
unfoldable pub decoded_log_head : ℕ → Bytes → Option LogHead
decoded_log_head dir_blocks bytes = spelled_by (is_log_head dir_blocks) log_head_spelling bytes (log_head_at bytes)

-- ---- the images

-- a page and its image
abbrev pub PageImage : Type 0
PageImage = ℕ × Bytes

pub record Log : Type 0 where
  pub commit : ℕ
  pub images : List PageImage

abbrev pub head_of_log : Log → LogHead
head_of_log log = record { commit = log.commit; pages = map (λ (i : PageImage). i.0) log.images }

-- so many blocks from block k on
abbrev pub blocks_from : Bytes → ℕ → ℕ → List Bytes
blocks_from bytes k zero = []
blocks_from bytes k (suc n) = block bytes k ∷ blocks_from bytes (k + 1) n

-- of each page of the head its image; the blocks past the head's count are not read, and a head that doesn't decode has no images
abbrev pub images_at : Bytes → ℕ → Option LogHead → List PageImage
images_at bytes k None = []
images_at bytes k (Some head) = zip head.pages (blocks_from bytes k (length head.pages))

-- the log of the slot behind gate k
unfoldable pub log_at : ℕ → Bytes → ℕ → Log
log_at dir_blocks bytes k =
    let head = block bytes (k + 1) in
    record { commit = (log_head_at head).commit; images = images_at bytes (k + 2) (decoded_log_head dir_blocks head) }

-- its head decodes, and so does each image
unfoldable pub log_decodes : ℕ → Bytes → ℕ → Bool
log_decodes dir_blocks bytes k =
    is_some (decoded_log_head dir_blocks (block bytes (k + 1))) && list_all (λ (i : PageImage). is_page i.1) (log_at dir_blocks bytes k).images

-- ---- the open log slots

-- what one slot holds, where its gate is open
abbrev pub in_log : ℕ → Bytes → ℕ → List Log
in_log dir_blocks bytes k = if is_open bytes k then log_at dir_blocks bytes k ∷ [] else []

-- the greater number first, the first slot where they are equal
abbrev pub newest_first : List Log → List Log
newest_first (first ∷ second ∷ []) = if nat_lt first.commit second.commit then second ∷ first ∷ [] else first ∷ second ∷ []
newest_first logs = logs

unfoldable pub open_logs : ℕ → Bytes → List Log
open_logs dir_blocks bytes = newest_first (in_log dir_blocks bytes (first_log dir_blocks) ++ in_log dir_blocks bytes (second_log dir_blocks))

-- the slot is closed, or decodes
abbrev pub slot_decodes : ℕ → Bytes → ℕ → Bool
slot_decodes dir_blocks bytes k = if is_open bytes k then log_decodes dir_blocks bytes k else true

unfoldable pub logs_decode : ℕ → Bytes → Bool
logs_decode dir_blocks bytes = slot_decodes dir_blocks bytes (first_log dir_blocks) && slot_decodes dir_blocks bytes (second_log dir_blocks)

-- the image of a page among these
abbrev pub logged_image : List PageImage → ℕ → Option Bytes
logged_image images page = option_map (λ (i : PageImage). i.1) (find (λ (i : PageImage). i.0 == page) images)

-- the image that counts of a page: that of the first log that has one
abbrev pub image_in : List Log → ℕ → Option Bytes
image_in [] page = None
image_in (log ∷ older) page = option_or (logged_image log.images page) (image_in older page)
