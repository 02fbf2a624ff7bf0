-- A checkpoint keeps the content.
use Rattle.std.proofs.Common.{◌≡◌, inl, inr, ℕ, ◌+◌, ◌*◌, ◌<◌, ◌≤◌, true, false, List, map, refl, sym, ap, ◌∙◌, None, arith}
use Rattle.std.specs.Prelude.{nat_lt}
use Rattle.std.specs.List.{list_all}
use Rattle.std.proofs.lemmas.Bool.{and_parts, ltb-true}
use Rattle.std.proofs.lemmas.Option.{none-some}
use Rattle.bay.specs.Image.{Image, ChangesOnly, window}
use Rattle.bay.proofs.Images.{window-same, changes-within, changes-window}
use Rattle.asm_base.specs.declared.block.Block.{Block}
use Rattle.asm_formats.specs.Bytes.{block_size, is_open}
use Rattle.asm_formats.specs.Among.{IsAmong}
use Rattle.asm_formats.specs.Status.{ascends_from}
use Rattle.asm_formats.specs.Regions.{region_start, region_end, first_log, second_log, log_blocks}
use Rattle.asm_formats.specs.Logs.{open_logs, image_in}
use Rattle.asm_formats.specs.Pages.{home_page}
use Rattle.asm_formats.specs.Places.{SameElsewhere}
use Rattle.asm_formats.proofs.Among.{all_among}
use Rattle.asm_formats.proofs.Blocks.{slot_behind}
use Rattle.asm_formats.proofs.SameLogs.{SameLogs, open_logs_same, logs_decode_same, page_same, content_same, closed_content}
use Rattle.asm_images.proofs.Bridges.{bytes_are_listed, range_change}
use Rattle.change_directory.specs.declared.copy.DirCopy.{DirCopy}
use Rattle.change_directory.specs.declared.copy.LogSlot.{LogSlot}
use Rattle.change_directory.specs.declared.copy.LogSlot.TheVariants.{First, Second}
use Rattle.change_directory.specs.Places.{gate_of, HomesAt}
use Rattle.change_directory.specs.Logs.{are_pages}
use Rattle.change_directory.specs.Changes.{copy_disk_bytes}
use Rattle.change_directory.specs.Homes.{HomesOf, HasHomed, AreDue, KeepsContent}
use Rattle.change_directory.proofs.Spares.{gate_listed}

-- what was written home, as the disk holds it
pub homed_as_held : (copy : DirCopy) (pages : List (ℕ × Block)) (x y h held : Image) → ChangesOnly (HomesOf copy pages) x y → HasHomed copy pages h held
    → ((k : ℕ) → y.byte copy.slot k ≡ held.byte copy.slot k) → HasHomed copy pages x y
homed_as_held copy pages x y h held change did same = record {
  homes = λ p among. window-same (held.byte copy.slot) (y.byte copy.slot) ((region_start + p.0) * block_size) block_size (λ k low high. same k) ∙ did.homes p among;
  elsewhere = change;
}

module _ (copy : DirCopy) (pages : List (ℕ × Block)) (ok : are_pages copy.dir_blocks pages ≡ true) where
  below : (p : ℕ × Block) → IsAmong pages p → p.0 < copy.dir_blocks
  below p among =
      let parts = and_parts (ascends_from 0 (map (λ (p : ℕ × Block). p.0) pages)) (list_all (λ (p : ℕ × Block). nat_lt p.0 copy.dir_blocks) pages) ok in
      ltb-true p.0 copy.dir_blocks (all_among (λ (p : ℕ × Block). nat_lt p.0 copy.dir_blocks) pages p parts.1 among)

  -- the homes lie among those of all pages
  pub in_homes : (x y : Image) → ChangesOnly (HomesOf copy pages) x y → ChangesOnly (HomesAt copy) x y
  in_homes x y step = changes-within (HomesAt copy) (HomesOf copy pages) x y within step
    where
      within : (s k : ℕ) → HomesOf copy pages s k → HomesAt copy s k
      within s k inside =
          let under = below inside.0 inside.1 in
          (inside.2.0, omega (arith, inside.2.1), omega (arith, inside.2.2, under))

  module _ (least : 128 ≤ copy.dir_blocks) (x y : Image) (sized : region_end copy.dir_blocks * block_size ≤ x.size copy.slot) (step : ChangesOnly (HomesOf copy pages) x y) where
    elsewhere : SameElsewhere (copy_disk_bytes copy x) (copy_disk_bytes copy y) (region_start * block_size) (copy.dir_blocks * block_size)
    elsewhere = (range_change 0 copy.slot (region_start * block_size) (copy.dir_blocks * block_size) x y (in_homes x y step)).1

    pub logs_same : SameLogs copy.dir_blocks (copy_disk_bytes copy x) (copy_disk_bytes copy y)
    logs_same = record {
      first = slot_behind (copy_disk_bytes copy x) (copy_disk_bytes copy y) (region_start * block_size) (copy.dir_blocks * block_size) elsewhere (first_log copy.dir_blocks) log_blocks (omega arith);
      second = slot_behind (copy_disk_bytes copy x) (copy_disk_bytes copy y) (region_start * block_size) (copy.dir_blocks * block_size) elsewhere (second_log copy.dir_blocks) log_blocks (omega arith);
    }

    pub listed : (image : Image) → image.size copy.slot ≡ x.size copy.slot → (page : ℕ) → page < copy.dir_blocks
        → home_page (copy_disk_bytes copy image) page ≡ window (image.byte copy.slot) ((region_start + page) * block_size) block_size
    listed image size page lt = (bytes_are_listed image copy.slot).2 ((region_start + page) * block_size) block_size (omega (arith, sized, size, lt))

    -- a page that isn't among these stays
    pub other_page : (page : ℕ) → page < copy.dir_blocks → ((p : ℕ × Block) → IsAmong pages p → p.0 ≡ page → ⊥) → home_page (copy_disk_bytes copy y) page ≡ home_page (copy_disk_bytes copy x) page
    other_page page lt none =
        listed y (step.size copy.slot) page lt
        ∙ changes-window (HomesOf copy pages) x y copy.slot ((region_start + page) * block_size) block_size (λ k low high inside. none inside.0 inside.1 (omega (arith, low, high, inside.2.1, inside.2.2))) step
        ∙ sym (listed x refl page lt)

    pub keeps_content : AreDue copy pages x → KeepsContent copy x y
    keeps_content (inl shut) =
        let gate : (log : LogSlot) → is_open (copy_disk_bytes copy x) (gate_of copy log) ≡ false = λ log. gate_listed copy least x sized log ∙ shut log in
        closed_content copy.dir_blocks (copy_disk_bytes copy y) (logs_same.first.gate ∙ gate First) (logs_same.second.gate ∙ gate Second)
        ∙ sym (closed_content copy.dir_blocks (copy_disk_bytes copy x) (gate First) (gate Second))
    keeps_content (inr due) =
        let logs = open_logs_same copy.dir_blocks (copy_disk_bytes copy x) (copy_disk_bytes copy y) logs_same in
        content_same copy.dir_blocks (copy_disk_bytes copy x) (copy_disk_bytes copy y) elsewhere.size logs (logs_decode_same copy.dir_blocks (copy_disk_bytes copy x) (copy_disk_bytes copy y) logs_same)
        (λ page lt. page_same copy.dir_blocks (copy_disk_bytes copy x) (copy_disk_bytes copy y) logs page (λ none. other_page page lt (λ p among same. counted page none p among same)))
      where
        counted : (page : ℕ) → image_in (open_logs copy.dir_blocks (copy_disk_bytes copy x)) page ≡ None → (p : ℕ × Block) → IsAmong pages p → p.0 ≡ page → ⊥
        counted page none p among same =
            none-some _ (sym none ∙ ap (image_in (open_logs copy.dir_blocks (copy_disk_bytes copy x))) (sym same) ∙ due p among)
