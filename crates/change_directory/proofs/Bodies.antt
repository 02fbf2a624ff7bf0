-- The body of a log slot, block by block.
use Rattle.std.proofs.Common.{◌≡◌, ⊎_elim, ℕ, ◌+◌, ◌*◌, ◌≤◌, true, List, [], ◌∷◌, length, map, refl, sym, ap, ◌∙◌, Option, Some, None, arith}
use Rattle.std.specs.List.{flat_map, list_all}
use Rattle.std.specs.Option.{is_some}
use Rattle.std.proofs.lemmas.Bool.{and_parts, false≢true}
use Rattle.std.proofs.lemmas.List.{length-replicate}
use Rattle.bay.specs.Image.{Image, window}
use Rattle.asm_group.specs.Names.{Bytes}
use Rattle.asm_formats.specs.Bytes.{block_size, block, is_open}
use Rattle.asm_formats.specs.Items.{Item}
use Rattle.asm_formats.specs.Content.{page_items, is_page}
use Rattle.asm_formats.specs.Logs.{Log, PageImage, head_of_log, log_head_spelling, blocks_from}
use Rattle.asm_formats.specs.LogSlots.{IsLog}
use Rattle.asm_formats.specs.Commits.{HoldsLog}
use Rattle.asm_formats.proofs.Sizes.{are_blocks}
use Rattle.asm_formats.proofs.PageReading.{page_read}
use Rattle.asm_images.specs.Bridge.{disk_bytes}
use Rattle.asm_images.proofs.Bridges.{bytes_are_listed}
use Rattle.change_directory.specs.Logs.{log_body}
use Rattle.change_directory.proofs.Windows.{window-parts}

-- a page is a block
pub page_len : (page : Bytes) → is_page page ≡ true → length page ≡ block_size
page_len page ok = go (page_items page) refl ok
  where
    go : (o : Option (List Item)) → page_items page ≡ o → is_some o ≡ true → length page ≡ block_size
    go None is some = absurd (false≢true some)
    go (Some items) is some = ⊎_elim (λ zeros. ap length zeros.0 ∙ length-replicate {A = ℕ} block_size 0) (λ found. ap length found.2 ∙ are_blocks.record_ found.0 found.1) (page_read page items is)

abbrev bytes_of : PageImage → Bytes
bytes_of i = i.1

-- blocks that stand one behind the other
pub blocks_stored : (image : Image) (slot k : ℕ) (images : List PageImage) → list_all (λ (i : PageImage). is_page i.1) images ≡ true
    → window (image.byte slot) (k * block_size) (length (flat_map (λ (i : PageImage). i.1) images)) ≡ flat_map (λ (i : PageImage). i.1) images
    → (k + length images) * block_size ≤ image.size slot → blocks_from (disk_bytes image slot) k (length images) ≡ map (λ (i : PageImage). i.1) images
blocks_stored image slot k [] pages here inside = refl
blocks_stored image slot k (i ∷ images) pages here inside =
    let ok = and_parts (is_page i.1) (list_all (λ (i : PageImage). is_page i.1) images) pages in
    let long : length i.1 ≡ 4096 = page_len i.1 ok.0 in
    let parts = window-parts (image.byte slot) (k * block_size) i.1 (flat_map (λ (i : PageImage). i.1) images) here in
    let next : k * 4096 + length i.1 ≡ (k + 1) * 4096 = omega arith in
    let first : block (disk_bytes image slot) k ≡ i.1 = (bytes_are_listed image slot).2 (k * block_size) block_size (omega arith)
    ∙ ap (λ (n : ℕ). window (image.byte slot) (k * block_size) n) (sym long) ∙ parts.0 in
    let others = blocks_stored image slot (k + 1) images ok.1
    (ap (λ (a : ℕ). window (image.byte slot) a (length (flat_map (λ (i : PageImage). i.1) images))) (sym next) ∙ parts.1) (omega arith) in
    λ j. first j ∷ others j

-- an open slot whose body is that of the log
pub holds_body : (d : ℕ) (image : Image) (slot k : ℕ) (log : Log) → IsLog d log → (k + 2 + length log.images) * block_size ≤ image.size slot
    → is_open (disk_bytes image slot) k ≡ true → window (image.byte slot) ((k + 1) * block_size) (length (log_body log)) ≡ log_body log → HoldsLog (disk_bytes image slot) k log
holds_body d image slot k log ok inside opened here =
    let long : length (log_head_spelling (head_of_log log)) ≡ 4096 = are_blocks.log_head d (head_of_log log) ok.0 in
    let parts = window-parts (image.byte slot) ((k + 1) * block_size) (log_head_spelling (head_of_log log)) (flat_map (λ (i : PageImage). i.1) log.images) here in
    let next : (k + 1) * 4096 + length (log_head_spelling (head_of_log log)) ≡ (k + 2) * 4096 = omega arith in
    record {
      gate = opened;
      head = (bytes_are_listed image slot).2 ((k + 1) * block_size) block_size (omega arith)
          ∙ ap (λ (n : ℕ). window (image.byte slot) ((k + 1) * block_size) n) (sym long) ∙ parts.0;
      images = blocks_stored image slot (k + 2) log.images ok.1
          (ap (λ (a : ℕ). window (image.byte slot) a (length (flat_map (λ (i : PageImage). i.1) log.images))) (sym next) ∙ parts.1) inside;
    }
