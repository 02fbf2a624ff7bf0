-- Laws of pages: each is zeros or the block of one record.
use Rattle.std.specs.Prelude.{◌≡◌, ◌⊎◌, ℕ, ◌<◌, Bool, List, [], ◌∷◌, length, map, get_or, replicate, Some, IsTrue}
use Rattle.std.specs.Option.{is_some}
use Rattle.asm_group.specs.Names.{Bytes}
use Rattle.asm_formats.specs.Bytes.{block_size}
use Rattle.asm_formats.specs.Among.{IsAmong}
use Rattle.asm_formats.specs.Status.{ascends_from}
use Rattle.asm_formats.specs.Items.{Item, item_key, key_rank, is_item}
use Rattle.asm_formats.specs.Records.{record_spelling}
use Rattle.asm_formats.specs.Content.{is_page, page_items, records_in}

pub record IsPageCodec : Type 0 where
  pub empty : page_items (replicate block_size 0) ≡ Some []
  pub again : (i : Item) → IsTrue (is_item i) → page_items (record_spelling i) ≡ Some (i ∷ [])
  pub decoded : (page : Bytes) (items : List Item) → page_items page ≡ Some items
      → ((page ≡ replicate block_size 0) × (items ≡ [])) ⊎ ((i : Item) × IsTrue (is_item i) × (page ≡ record_spelling i) × (items ≡ i ∷ []))

-- ---- the records of many pages

-- in the order of keys, no two alike
abbrev pub are_in_order : List Item → Bool
are_in_order items = ascends_from 0 (map (λ i. key_rank (item_key i)) items)

-- the items are in order, each page decodes, and each item is that of a page
pub record AreRecordsOf (pages : List Bytes) (items : List Item) : Type 0 where
  pub in_order : IsTrue (are_in_order items)
  pub decode : (page : Bytes) → IsAmong pages page → IsTrue (is_page page)
  pub from_page : (page : Bytes) (i : Item) → IsAmong pages page → page_items page ≡ Some (i ∷ []) → IsAmong items i
  pub to_page : (i : Item) → IsAmong items i → (page : Bytes) × IsAmong pages page × (page_items page ≡ Some (i ∷ []))

abbrev pub RecordsAreOfPages : Type 0
RecordsAreOfPages = (pages : List Bytes) (items : List Item) → records_in pages ≡ Some items → AreRecordsOf pages items

-- no two pages hold one key
abbrev pub HaveOwnKeys : List Bytes → Type 0
HaveOwnKeys pages =
    (p q : ℕ) (i j : Item) → p < q → q < length pages → page_items (get_or pages p []) ≡ Some (i ∷ []) → page_items (get_or pages q []) ≡ Some (j ∷ [])
    → key_rank (item_key i) ≡ key_rank (item_key j) → ⊥

-- Pages that decode and hold different keys have records.
abbrev pub PagesHaveRecords : Type 0
PagesHaveRecords = (pages : List Bytes) → ((page : Bytes) → IsAmong pages page → IsTrue (is_page page)) → HaveOwnKeys pages → IsTrue (is_some (records_in pages))

-- Two lists in order with the same items are one.
abbrev pub OrderedListsAreOne : Type 0
OrderedListsAreOne =
    (xs ys : List Item) → IsTrue (are_in_order xs) → IsTrue (are_in_order ys) → ((i : Item) → IsAmong xs i → IsAmong ys i) → ((i : Item) → IsAmong ys i → IsAmong xs i)
    → xs ≡ ys

-- Pages that have records hold different keys.
abbrev pub RecordsAreApart : Type 0
RecordsAreApart = (pages : List Bytes) (items : List Item) → records_in pages ≡ Some items → HaveOwnKeys pages
