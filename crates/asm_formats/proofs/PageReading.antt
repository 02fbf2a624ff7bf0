-- A page is zeros or the block of one record.
use Rattle.std.proofs.Common.{◌≡◌, ◌⊎◌, inl, inr, ⊎_elim, ℕ, zero, suc, true, false, List, [], ◌∷◌, replicate, slice_index, refl, sym, ap, ◌∙◌, Option, Some, None, arith}
use Rattle.std.specs.Option.{option_map}
use Rattle.std.proofs.lemmas.Bool.{cases_Bool, cond-true, cond-false}
use Rattle.std.proofs.lemmas.Option.{same_Some, none-some}
use Rattle.asm_group.specs.Names.{Bytes}
use Rattle.asm_formats.specs.Bytes.{block_size, whole_block}
use Rattle.asm_formats.specs.Items.{Item, is_item}
use Rattle.asm_formats.specs.Records.{frame_spelling, record_spelling, decoded_record}
use Rattle.asm_formats.specs.Content.{is_empty_page, page_items}
use Rattle.asm_formats.specs.PageLaws.{IsPageCodec}
use Rattle.asm_formats.proofs.Codec.{bytes_same, same_bytes}
use Rattle.asm_formats.proofs.RecordReading.{record_again, record_spelled}

pub zeros_read : page_items (replicate block_size 0) ≡ Some []
unfolding page_items
zeros_read = cond-true (is_empty_page (replicate block_size 0)) (Some []) (option_map (λ i. i ∷ []) (decoded_record (replicate block_size 0))) (same_bytes (replicate block_size 0) (replicate block_size 0) refl)

first_byte : (i : Item) → slice_index (record_spelling i) 0 ≡ 65
unfolding frame_spelling whole_block
first_byte i = refl

first_zero : (n : ℕ) → n ≡ block_size → slice_index (replicate n 0) 0 ≡ 0
first_zero n e = go n
  where
    go : (m : ℕ) → slice_index (replicate m 0) 0 ≡ 0
    go zero = refl
    go (suc m) = refl

not_empty : (i : Item) → is_empty_page (record_spelling i) ≡ false
not_empty i = ⊎_elim
    (λ same. absurd (omega (arith, first_byte i, ap (λ (b : Bytes). slice_index b 0) (bytes_same (record_spelling i) (replicate block_size 0) same), first_zero block_size refl)))
    (λ e. e)
    (cases_Bool (is_empty_page (record_spelling i)))

pub record_read : (i : Item) → is_item i ≡ true → page_items (record_spelling i) ≡ Some (i ∷ [])
unfolding page_items
record_read i ok =
    cond-false (is_empty_page (record_spelling i)) (Some []) (option_map (λ i. i ∷ []) (decoded_record (record_spelling i))) (not_empty i)
    ∙ ap (option_map (λ i. i ∷ [])) (record_again i ok)

abbrev IsOfPage : Bytes → List Item → Type 0
IsOfPage page items =
    ((page ≡ replicate block_size 0) × (items ≡ [])) ⊎ ((i : Item) × (is_item i ≡ true) × (page ≡ record_spelling i) × (items ≡ i ∷ []))

pub page_read : (page : Bytes) (items : List Item) → page_items page ≡ Some items → IsOfPage page items
unfolding page_items
page_read page items e = ⊎_elim
    (λ same. inl (bytes_same page (replicate block_size 0) same, sym (same_Some [] items (sym (cond-true (is_empty_page page) (Some []) (option_map (λ i. i ∷ []) (decoded_record page)) same) ∙ e))))
    (λ differ. inr (go (decoded_record page) refl (sym (cond-false (is_empty_page page) (Some []) (option_map (λ i. i ∷ []) (decoded_record page)) differ) ∙ e)))
    (cases_Bool (is_empty_page page))
  where
    go : (o : Option Item) → decoded_record page ≡ o → option_map (λ i. i ∷ []) o ≡ Some items → (i : Item) × (is_item i ≡ true) × (page ≡ record_spelling i) × (items ≡ i ∷ [])
    go None is found = absurd (none-some items found)
    go (Some i) is found = let s = record_spelled page i is in (i, s.allowed, s.same, sym (same_Some (i ∷ []) items found))

pub page_codec : IsPageCodec
page_codec = record { empty = zeros_read; again = record_read; decoded = page_read }
