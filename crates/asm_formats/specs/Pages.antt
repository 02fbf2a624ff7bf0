-- The content of a directory copy: its pages, with the images of the open log slots in their place.
use Rattle.std.specs.Prelude.{◌≡◌, ℕ, ◌<◌, Bool, true, List, [], ◌∷◌, length, map, if◌then◌else◌, Option, Some, None}
use Rattle.std.specs.List.{range_with_len}
use Rattle.std.specs.Option.{unwrap_or, is_some}
use Rattle.asm_group.specs.Names.{Bytes}
use Rattle.asm_formats.specs.Bytes.{block}
use Rattle.asm_formats.specs.Regions.{page_home, has_region}
use Rattle.asm_formats.specs.Content.{Content, records_in}
use Rattle.asm_formats.specs.Logs.{Log, PageImage, open_logs, logs_decode, logged_image, image_in}

-- the page as it stands at home
abbrev pub home_page : Bytes → ℕ → Bytes
home_page bytes page = block bytes (page_home page)

-- the page that counts: its image in the open log slot of the greatest number that has one, else its home
unfoldable pub page_at : ℕ → Bytes → ℕ → Bytes
page_at dir_blocks bytes page = unwrap_or (image_in (open_logs dir_blocks bytes) page) (home_page bytes page)

-- all pages that count
abbrev pub pages_of : ℕ → Bytes → List Bytes
pages_of dir_blocks bytes = map (page_at dir_blocks bytes) (range_with_len 0 dir_blocks)

-- the same with some images in their place
abbrev pub with_images : List PageImage → (ℕ → Bytes) → ℕ → Bytes
with_images images pages page = unwrap_or (logged_image images page) (pages page)

-- The content with these open logs. The commit number is that of the first. Where an open log slot doesn't decode there are no items.
abbrev pub content_by : ℕ → Bytes → List Log → Option Content
content_by dir_blocks bytes [] = None
content_by dir_blocks bytes (log ∷ older) =
    Some (record { commit = log.commit; items = if logs_decode dir_blocks bytes then records_in (pages_of dir_blocks bytes) else None })

-- The content of a copy with so many pages. A copy without an open log slot, or that is cut short, has none.
unfoldable pub copy_content : ℕ → Bytes → Option Content
copy_content dir_blocks bytes = if has_region dir_blocks (length bytes) then content_by dir_blocks bytes (open_logs dir_blocks bytes) else None

-- there is no content, or it decodes
abbrev pub decodes_in : Option Content → Bool
decodes_in None = true
decodes_in (Some c) = is_some c.items

-- each page counts as it stands at home: the checkpoint of the open log slots is done
abbrev pub IsCheckpointed : ℕ → Bytes → Type 0
IsCheckpointed dir_blocks bytes = (page : ℕ) → page < dir_blocks → page_at dir_blocks bytes page ≡ home_page bytes page

-- the content that the commit of a log leaves
abbrev pub committed : ℕ → Bytes → Log → Content
committed dir_blocks bytes log =
    record { commit = log.commit; items = records_in (map (with_images log.images (page_at dir_blocks bytes)) (range_with_len 0 dir_blocks)) }
