-- A log slot is read as it stands.
use Rattle.std.proofs.Common.{◌≡◌, ℕ, ◌+◌, ◌*◌, ◌≤◌, Bool, true, false, cond, List, [], ◌∷◌, length, map, find, Option, Some, None, refl, sym, ap, ◌∙◌, arith}
use Rattle.std.specs.Prelude.{zip, not, ◌==◌}
use Rattle.std.specs.List.{position_from, range_with_len}
use Rattle.std.specs.Option.{option_or}
use Rattle.bay.specs.Image.{Image, window}
use Rattle.asm_group.specs.Names.{Bytes}
use Rattle.asm_formats.specs.Bytes.{block, is_open}
use Rattle.asm_formats.specs.Content.{is_page}
use Rattle.asm_formats.specs.Logs.{LogHead, PageImage, blocks_from, decoded_log_head, image_in, logged_image, images_at, log_at, log_head_at}
use Rattle.asm_formats.specs.Damage.{head_damage}
use Rattle.asm_images.proofs.Bridges.{bytes_are_listed}
use Rattle.change_directory.specs.declared.copy.DirCopy.{DirCopy}
use Rattle.change_directory.specs.declared.copy.LogSlot.{LogSlot}
use Rattle.change_directory.specs.declared.open_log.OpenLog.{OpenLog}
use Rattle.change_directory.specs.Places.{gate_of}
use Rattle.change_directory.specs.Logs.{is_open_at}
use Rattle.asm_base.specs.Blocks.{image_of_page}
use Rattle.change_directory.specs.Changes.{copy_disk_bytes}
use Rattle.change_directory.specs.Loads.{OpenSlot, counted_block, image_block}
use Rattle.change_directory.specs.Slots.{IsLogRead, IsRestRead, bad_image, head_in, images_in, logs_of, place_in, slot_of, slots_of_log}
use Rattle.change_directory.proofs.HeadLaws.{pages_of}
use Rattle.change_directory.proofs.BlockRows.{blocks_listed}
use Rattle.change_directory.proofs.Spares.{gate_listed, slot_inside}
use Rattle.change_directory.proofs.Telling.{IsSized}

-- the first image that is no page, by its block
bad_images : (bytes : Bytes) (k : ℕ) (ps : List ℕ) → bad_image k (zip ps (blocks_from bytes k (length ps))) ≡ find (λ b. not (is_page (block bytes b))) (range_with_len k (length ps))
unfolding bad_image
bad_images bytes k [] = refl
bad_images bytes k (p ∷ ps) = go (is_page (block bytes k)) (bad_images bytes (k + 1) ps) where
  go : (b : Bool) → bad_image (k + 1) (zip ps (blocks_from bytes (k + 1) (length ps))) ≡ find (λ b. not (is_page (block bytes b))) (range_with_len (k + 1) (length ps))
      → cond b (bad_image (k + 1) (zip ps (blocks_from bytes (k + 1) (length ps)))) (Some k) ≡ cond (not b) (Some k) (find (λ b. not (is_page (block bytes b))) (range_with_len (k + 1) (length ps)))
  go true e = e
  go false e = refl

module _ (copy : DirCopy) (least : 128 ≤ copy.dir_blocks) (log : LogSlot) (image : Image) (sized : IsSized copy image) where
  abbrev k : ℕ
  k = gate_of copy log

  abbrev bytes : Bytes
  bytes = copy_disk_bytes copy image

  images_listed : (pages : List ℕ) → length pages ≤ 64 → images_in copy log pages image ≡ zip pages (blocks_from bytes (k + 2) (length pages))
  images_listed pages few =
      let inside = slot_inside copy log least in
      ap (λ (l : List Bytes). zip pages l) (blocks_listed image copy.slot (k + 2) (length pages) (omega (arith, inside, sized, few)))

  -- a head that decodes
  pub rest_read : (head : Bytes) (pages : List ℕ) (open_ : OpenLog) → length pages ≤ 64 → Some pages ≡ pages_of (decoded_log_head copy.dir_blocks head)
      → open_.gate ≡ k → open_.number ≡ (log_head_at head).commit → map image_of_page open_.images.items ≡ images_in copy log pages image
      → open_.damage ≡ bad_image (k + 2) (map image_of_page open_.images.items) → IsRestRead copy log head open_ image
  rest_read head pages open_ few decoded gate number images damage =
      let parts = go (decoded_log_head copy.dir_blocks head) decoded in
      record { gate = gate; number = number; images = parts.0; damage = parts.1 } where
        listed : map image_of_page open_.images.items ≡ zip pages (blocks_from bytes (k + 2) (length pages))
        listed = images ∙ images_listed pages few

        go : (o : Option LogHead) → Some pages ≡ pages_of o → (map image_of_page open_.images.items ≡ images_at bytes (k + 2) o) × (open_.damage ≡ head_damage bytes k o)
        go None e = absurd cc
        go (Some h) e =
            let same : pages ≡ h.pages = cc in
            let bad : open_.damage ≡ find (λ b. not (is_page (block bytes b))) (range_with_len (k + 2) (length pages)) = damage ∙ ap (bad_image (k + 2)) listed ∙ bad_images bytes (k + 2) pages in (
              listed ∙ ap (λ (ps : List ℕ). zip ps (blocks_from bytes (k + 2) (length ps))) same,
              bad ∙ ap (λ (ps : List ℕ). find (λ b. not (is_page (block bytes b))) (range_with_len (k + 2) (length ps))) same,
            )

  -- a head that doesn't
  pub rest_spoiled : (head : Bytes) (open_ : OpenLog) → None ≡ pages_of (decoded_log_head copy.dir_blocks head)
      → open_.gate ≡ k → open_.number ≡ (log_head_at head).commit → open_.images.items ≡ [] → open_.damage ≡ Some (k + 1) → IsRestRead copy log head open_ image
  rest_spoiled head open_ decoded gate number images damage =
      let parts = go (decoded_log_head copy.dir_blocks head) decoded in
      record { gate = gate; number = number; images = parts.0; damage = parts.1 } where
        go : (o : Option LogHead) → None ≡ pages_of o → (map image_of_page open_.images.items ≡ images_at bytes (k + 2) o) × (open_.damage ≡ head_damage bytes k o)
        go None e = (ap (map image_of_page) images, damage)
        go (Some h) e = absurd cc

  gate_is : is_open bytes k ≡ is_open_at copy log image
  gate_is = gate_listed copy least image sized log

  head_block : block bytes (k + 1) ≡ window (image.byte copy.slot) ((k + 1) * 4096) 4096
  head_block =
      let inside = slot_inside copy log least in
      (bytes_are_listed image copy.slot).2 ((k + 1) * 4096) 4096 (omega (arith, inside, sized))

  -- an open slot
  pub log_is_read : (head : Bytes) (open_ : OpenLog) → Some head ≡ head_in copy log image → IsRestRead copy log head open_ image → IsLogRead copy log (Some open_) image
  unfolding log_at
  log_is_read head open_ shown rest = go (is_open_at copy log image) refl shown where
    go : (b : Bool) → is_open_at copy log image ≡ b → Some head ≡ cond b (Some (window (image.byte copy.slot) ((k + 1) * 4096) 4096)) None → IsLogRead copy log (Some open_) image
    go false e shown = absurd cc
    go true e shown =
        let opened : is_open bytes k ≡ true = gate_is ∙ e in
        let same : head ≡ window (image.byte copy.slot) ((k + 1) * 4096) 4096 = cc in
        let at : head ≡ block bytes (k + 1) = same ∙ sym head_block in
        let number : open_.number ≡ (log_head_at (block bytes (k + 1))).commit = rest.number ∙ ap (λ (h : Bytes). (log_head_at h).commit) at in
        let images : map image_of_page open_.images.items ≡ images_at bytes (k + 2) (decoded_log_head copy.dir_blocks (block bytes (k + 1))) =
        rest.images ∙ ap (λ (h : Bytes). images_at bytes (k + 2) (decoded_log_head copy.dir_blocks h)) at in
        let damage : open_.damage ≡ head_damage bytes k (decoded_log_head copy.dir_blocks (block bytes (k + 1))) =
        rest.damage ∙ ap (λ (h : Bytes). head_damage bytes k (decoded_log_head copy.dir_blocks h)) at in
        let slot : slot_of open_ ≡ record { gate = k; log = log_at copy.dir_blocks bytes k } = λ i. record { gate = rest.gate i; log = record { commit = number i; images = images i } } in
        record {
          slots = rw opened (ap (λ (x : OpenSlot). x ∷ []) slot);
          damage = rw opened damage;
        }

  -- a closed one
  pub log_is_shut : None ≡ head_in copy log image → IsLogRead copy log None image
  log_is_shut shown = go (is_open_at copy log image) refl shown where
    go : (b : Bool) → is_open_at copy log image ≡ b → None ≡ cond b (Some (window (image.byte copy.slot) ((k + 1) * 4096) 4096)) None → IsLogRead copy log None image
    go true e shown = absurd cc
    go false e shown =
        let shut : is_open bytes k ≡ false = gate_is ∙ e in
        record { slots = rw shut refl; damage = rw shut refl }

-- ---- the image of a page

place_is : (n page : ℕ) (images : List PageImage) → position_from (λ (i : PageImage). i.0 == page) n images ≡ place_in n images page
place_is n page [] = refl
place_is n page (x ∷ images) = ap (λ (o : Option ℕ). cond (x.0 == page) (Some n) o) (place_is (n + 1) page images)

or_none : {A : Type 0} (o : Option A) → option_or o None ≡ o
or_none None = refl
or_none (Some x) = refl

-- in one slot
pub block_is_place : (log : OpenLog) (page : ℕ) → counted_block (slots_of_log (Some log)) page ≡ place_in (log.gate + 2) (map image_of_page log.images.items) page
block_is_place log page = or_none (image_block (slot_of log) page) ∙ place_is (log.gate + 2) page (map image_of_page log.images.items)

pub image_is_only : (log : OpenLog) (page : ℕ) → image_in (logs_of (slots_of_log (Some log))) page ≡ logged_image (map image_of_page log.images.items) page
image_is_only log page = or_none (logged_image (map image_of_page log.images.items) page)
