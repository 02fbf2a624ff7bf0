-- Pages, one behind the other.
use Rattle.std.proofs.Common.{◌≡◌, ℕ, ◌+◌, ◌<◌, List, [], ◌∷◌, ◌++◌, length, map, take, get_or, refl, sym, ap, ◌∙◌, w32, w64, codes}
use Rattle.std.specs.List.{flat_map}
use Rattle.std.proofs.lemmas.List.{length-map, take_more, flat_map_more}
use Rattle.asm_base.specs.declared.block.Block.{Block}
use Rattle.asm_group.specs.Names.{Bytes}
use Rattle.asm_formats.specs.Bytes.{number_bytes, whole_block}
use Rattle.asm_formats.specs.Logs.{PageImage, head_of_log, log_head_spelling}
use Rattle.change_directory.specs.Logs.{bytes_of_page, number_field, log_of, log_body}
use Rattle.asm_base.specs.Blocks.{image_of_page}

-- the fields of the head's page numbers
pub numbers_are_fields : (n : ℕ) (pages : List (ℕ × Block)) → flat_map (number_bytes w32) (head_of_log (log_of n pages)).pages ≡ flat_map number_field pages
numbers_are_fields n [] = refl
numbers_are_fields n (p ∷ pages) = ap (λ (l : Bytes). number_bytes w32 p.0 ++ l) (numbers_are_fields n pages)

pub pages_are_counted : (n : ℕ) (pages : List (ℕ × Block)) → length (head_of_log (log_of n pages)).pages ≡ length pages
pages_are_counted n pages = length-map (map image_of_page pages) (λ (i : PageImage). i.0) ∙ length-map pages image_of_page

pub images_are_bytes : (n : ℕ) (pages : List (ℕ × Block)) → flat_map (λ (i : PageImage). i.1) (log_of n pages).images ≡ flat_map bytes_of_page pages
images_are_bytes n [] = refl
images_are_bytes n (p ∷ pages) = ap (λ (l : Bytes). p.1.bytes ++ l) (images_are_bytes n pages)

pub body_is_bytes : (n : ℕ) (pages : List (ℕ × Block)) → log_body (log_of n pages) ≡ log_head_spelling (head_of_log (log_of n pages)) ++ flat_map bytes_of_page pages
body_is_bytes n pages = ap (λ (l : Bytes). log_head_spelling (head_of_log (log_of n pages)) ++ l) (images_are_bytes n pages)

-- the head, field by field
pub head_is_fields : (n : ℕ) (pages : List (ℕ × Block))
    → whole_block (codes "ASML" ++ (number_bytes w64 n ++ (number_bytes w32 (length pages) ++ flat_map number_field pages))) ≡ log_head_spelling (head_of_log (log_of n pages))
unfolding log_head_spelling
head_is_fields n pages =
    let count = pages_are_counted n pages in
    let fields = numbers_are_fields n pages in
    λ i. whole_block (codes "ASML" ++ (number_bytes w64 n ++ (number_bytes w32 (sym count i) ++ sym fields i)))

-- one page more
pub gathered_more : (pages : List (ℕ × Block)) (i : ℕ) (d : ℕ × Block) → i < length pages → (front : Bytes) → front ≡ flat_map bytes_of_page (take i pages)
    → front ++ bytes_of_page (get_or pages i d) ≡ flat_map bytes_of_page (take (i + 1) pages)
gathered_more pages i d lt front is =
    ap (λ (l : Bytes). l ++ bytes_of_page (get_or pages i d)) is ∙ flat_map_more bytes_of_page [] (take i pages) (get_or pages i d) ∙ ap (flat_map bytes_of_page) (sym (take_more pages i d lt))
