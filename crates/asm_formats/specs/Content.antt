-- What a directory copy holds: a commit number, and records in the order of their keys.
use Rattle.std.specs.Prelude.{ℕ, Bool, List, [], ◌∷◌, replicate, if◌then◌else◌, nat_lt, ◌==◌, Option, Some, None}
use Rattle.std.specs.Option.{option_and_then, option_map, is_some}
use Rattle.std.specs.Str.{bytes_eq}
use Rattle.asm_group.specs.Names.{Bytes}
use Rattle.asm_formats.specs.Bytes.{block_size}
use Rattle.asm_formats.specs.Items.{Item, item_key, key_rank}
use Rattle.asm_formats.specs.Records.{decoded_record}

pub record Content : Type 0 where
  pub commit : ℕ
  -- none where a block of the copy isn't what its place demands
  pub items : Option (List Item)

-- a page without a record
abbrev pub is_empty_page : Bytes → Bool
is_empty_page page = bytes_eq page (replicate block_size 0)

-- a page is a record or zeros
unfoldable pub page_items : Bytes → Option (List Item)
page_items page = if is_empty_page page then Some [] else option_map (λ i. i ∷ []) (decoded_record page)

abbrev pub is_page : Bytes → Bool
is_page page = is_some (page_items page)

-- an item put at its place in the order of keys; none where its key is there
unfoldable pub with_item : Item → List Item → Option (List Item)
with_item i [] = Some (i ∷ [])
with_item i (j ∷ js) =
    if nat_lt (key_rank (item_key i)) (key_rank (item_key j)) then Some (i ∷ j ∷ js)
    else if key_rank (item_key i) == key_rank (item_key j) then None
    else option_map (λ ks. j ∷ ks) (with_item i js)

-- the items of a page among the others
abbrev pub with_items : List Item → List Item → Option (List Item)
with_items [] others = Some others
with_items (i ∷ is) others = option_and_then (with_item i) (with_items is others)

-- The records of the pages in key order: none where a page is no page, or where two pages have one key.
unfoldable pub records_in : List Bytes → Option (List Item)
records_in [] = Some []
records_in (page ∷ pages) = option_and_then (λ is. option_and_then (with_items is) (records_in pages)) (page_items page)
