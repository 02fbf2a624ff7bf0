-- Pages that show a table have its records.
use Rattle.std.proofs.Common.{◌≡◌, ◌+◌, ◌*◌, ◌^◌, ◌<◌, ℕ, zero, suc, true, List, [], ◌∷◌, length, map, get_or, refl, sym, ap, ◌∙◌, subst, arith, inl, inr, ◌⊎◌, Option, Some, None}
use Rattle.std.specs.Prelude.{is_some, nat_le, nat_lt}
use Rattle.std.specs.List.{range_with_len}
use Rattle.std.proofs.lemmas.Bool.{true≢false, and_parts, ltb-true}
use Rattle.std.proofs.lemmas.List.FromFn.{get_or-map-range_with_len, length-map-range_with_len}
use Rattle.asm_formats.specs.asm_group.Names.{Bytes}
use Rattle.asm_formats.specs.Among.{IsAmong}
use Rattle.asm_formats.specs.Content.{is_page, page_items, records_in}
use Rattle.asm_formats.specs.Items.{Item, Key, item_key, key_rank, is_item}
use Rattle.asm_formats.specs.PageLaws.{HaveOwnKeys}
use Rattle.asm_formats.specs.Records.{most_value, is_frame, frame_spelling, record_spelling}
use Rattle.asm_formats.specs.Values.{value}
use Rattle.asm_formats.proofs.Among.{among_index}
use Rattle.asm_formats.proofs.PageReading.{zeros_read, record_read}
use Rattle.asm_formats.proofs.RecordLists.{records_of, pages_have_records}
use Rattle.asm_formats.proofs.RecordReading.{item_frame}
use Rattle.allocator.specs.asm_base.Records.{record_at}
use Rattle.page_map.specs.Free.{is_page_free}
use Rattle.page_map.specs.Tables.{PageTable, IsPageTable, Shows, place_at, block_of}
use Rattle.page_map.specs.Contents.{IsItemOf, AreItems, AreRecords, ShownIsContent}
use Rattle.page_map.proofs.Keys.{one_or_other}

-- ---- keys by rank

record IsSmall (k : Key) : Type 0 where
  a : k.a < 2 ^ 32
  b : k.b < 2 ^ 32

small_key : (i : Item) → is_item i ≡ true → IsSmall (item_key i)
unfolding is_frame
small_key i is =
    let p = and_parts (nat_lt (item_key i).kind (2 ^ 16)) _ (item_frame i is) in
    let q = and_parts (nat_lt (item_key i).a (2 ^ 32)) _ p.1 in
    let r = and_parts (nat_lt (item_key i).b (2 ^ 32)) (nat_le (length (value i)) most_value) q.1 in
    record { a = ltb-true (item_key i).a (2 ^ 32) q.0; b = ltb-true (item_key i).b (2 ^ 32) r.0 }

digits : (x y b c : ℕ) → b < 2 ^ 32 → c < 2 ^ 32 → x * 2 ^ 32 + b ≡ y * 2 ^ 32 + c → (x ≡ y) × (b ≡ c)
digits x y b c small small' e = (omega arith, omega arith)

same_rank : (j k : Key) → IsSmall j → IsSmall k → key_rank j ≡ key_rank k → j ≡ k
same_rank j k small small' e =
    let p = digits (j.kind * 2 ^ 32 + j.a) (k.kind * 2 ^ 32 + k.a) j.b k.b small.b small'.b e in
    let q = digits j.kind k.kind j.a k.a small.a small'.a p.0 in
    ap (λ (n : ℕ). let x : Key = record { kind = n; a = j.a; b = j.b } in x) q.0
    ∙ ap (λ (n : ℕ). let x : Key = record { kind = k.kind; a = n; b = j.b } in x) q.1
    ∙ ap (λ (n : ℕ). let x : Key = record { kind = k.kind; a = k.a; b = n } in x) p.1

-- ---- lists

pub at_among : {A : Type 0} (xs : List A) (n : ℕ) (d : A) → n < length xs → IsAmong xs (get_or xs n d)
at_among [] n d lt = absurd (omega arith)
at_among (x ∷ xs) zero d lt = inl refl
at_among (x ∷ xs) (suc n) d lt = inr (at_among xs n d (omega arith))

some_list : (x y : Item) (o : Option (List Item)) → o ≡ Some (x ∷ []) → o ≡ Some (y ∷ []) → x ≡ y
some_list x y o a b = let e : Some (x ∷ []) ≡ Some (y ∷ []) = sym a ∙ b in cc

none_list : (x : Item) (o : Option (List Item)) → o ≡ Some [] → o ≡ Some (x ∷ []) → ⊥
none_list x o a b = let e : Some [] ≡ Some (x ∷ []) = sym a ∙ b in absurd cc

some_same : (x y : ℕ) → Some x ≡ Some y → x ≡ y
some_same x y e = cc

value_is : (x : Option (List ℕ)) → is_some x ≡ true → (v : List ℕ) × (x ≡ Some v)
value_is None e = absurd (true≢false (sym e))
value_is (Some v) e = (v, refl)

page_is : (x : Option ℕ) → is_some x ≡ true → (p : ℕ) × (x ≡ Some p)
page_is None e = absurd (true≢false (sym e))
page_is (Some p) e = (p, refl)

-- ---- the pages

-- the record that stands on a page
pub record Holds (t : PageTable) (page : ℕ → Bytes) (p : ℕ) (i : Item) : Type 0 where
  pub is : is_item i ≡ true
  pub place : place_at t.places (item_key i) ≡ Some p
  pub record_is : record_at t.records (item_key i) ≡ Some (value i)
  pub block : page p ≡ record_spelling i

module _ (t : PageTable) (page : ℕ → Bytes) (sound : IsPageTable t) (shows : Shows t page) (items_are : AreItems t) where
  pages : List Bytes
  pages = map page (range_with_len 0 t.free.units)

  -- the page of a key with a value holds its item
  held : (k : Key) (v : List ℕ) (p : ℕ) → record_at t.records k ≡ Some v → place_at t.places k ≡ Some p → (i : Item) × Holds t page p i × IsItemOf k v i
  held k v p found at =
      let h = items_are k v found in
      let block : page p ≡ record_spelling h.0 =
      shows.taken k p at ∙ ap (block_of k) found ∙ ap (λ (j : Key). frame_spelling (record { key = j; value = v })) (sym h.1.key) ∙ ap (λ (w : List ℕ). frame_spelling (record { key = item_key h.0; value = w })) (sym h.1.value) in (
        h.0,
        record {
          is = h.1.is;
          place = ap (place_at t.places) h.1.key ∙ at;
          record_is = ap (record_at t.records) h.1.key ∙ found ∙ ap (λ (w : List ℕ). Some w) (sym h.1.value);
          block = block;
        },
        h.1,
      )

  -- each page is zeros or holds an item
  shown : (p : ℕ) → p < t.free.units → (page_items (page p) ≡ Some []) ⊎ ((i : Item) × Holds t page p i)
  shown p inside = elim (one_or_other (is_page_free t.free p)) [
    | inl free ↦ inl (ap page_items (shows.free p free) ∙ zeros_read)
    | inr taken ↦
        let o = sound.owned p inside taken in
        let v = value_is (record_at t.records o.0) (sound.same o.0 ∙ ap is_some o.1) in
        let h = held o.0 v.0 p v.1 o.1 in
        inr (h.0, h.1)
  ]

  reads : (p : ℕ) (i : Item) → Holds t page p i → page_items (page p) ≡ Some (i ∷ [])
  reads p i h = ap page_items h.block ∙ record_read i h.is

  count : length pages ≡ t.free.units
  unfolding pages
  count = length-map-range_with_len page 0 t.free.units

  nth : (p : ℕ) → p < t.free.units → get_or pages p [] ≡ page p
  unfolding pages
  nth p inside = get_or-map-range_with_len page 0 t.free.units p p [] inside (omega arith)

  decode_at : (p : ℕ) → p < t.free.units → is_page (page p) ≡ true
  decode_at p inside = elim (shown p inside) [
    | inl none ↦ ap is_some none
    | inr h ↦ ap is_some (reads p h.0 h.1)
  ]

  decode : (b : Bytes) → IsAmong pages b → is_page b ≡ true
  decode b among =
      let n = among_index pages b [] among in
      let inside : n.0 < t.free.units = omega (arith, n.1, count) in
      subst (λ (x : Bytes). is_page x ≡ true) (sym (nth n.0 inside) ∙ n.2) (decode_at n.0 inside)

  -- an item that is read from a page is the one that it holds
  pub holds_read : (p : ℕ) (i : Item) → p < t.free.units → page_items (page p) ≡ Some (i ∷ []) → Holds t page p i
  holds_read p i inside read = elim (shown p inside) [
    | inl none ↦ absurd (none_list i (page_items (page p)) none read)
    | inr h ↦ subst (λ (j : Item). Holds t page p j) (some_list h.0 i (page_items (page p)) (reads p h.0 h.1) read) h.1
  ]

  apart : HaveOwnKeys pages
  apart p q i j below inside read_p read_q rank =
      let in_q : q < t.free.units = omega (arith, inside, count) in
      let in_p : p < t.free.units = omega arith in
      let h = holds_read p i in_p (ap page_items (sym (nth p in_p)) ∙ read_p) in
      let g = holds_read q j in_q (ap page_items (sym (nth q in_q)) ∙ read_q) in
      let same = same_rank (item_key i) (item_key j) (small_key i h.is) (small_key j g.is) rank in
      let e : p ≡ q = some_same p q (sym h.place ∙ ap (place_at t.places) same ∙ g.place) in
      absurd (omega arith)

  some_items : (x : Option (List Item)) → is_some x ≡ true → (items : List Item) × (x ≡ Some items)
  some_items None e = absurd (true≢false (sym e))
  some_items (Some items) e = (items, refl)

  -- a page that is there is among them
  among : (p : ℕ) → p < t.free.units → IsAmong pages (page p)
  among p inside = subst (λ (b : Bytes). IsAmong pages b) (nth p inside) (at_among pages p [] (omega (arith, inside, count)))

  are_records : (items : List Item) → records_in pages ≡ Some items → AreRecords t items
  are_records items e =
      let of = records_of pages items e in
      record {
        in_order = of.in_order;
        from_record = λ k v found.
            let p = page_is (place_at t.places k) (sym (sound.same k) ∙ ap is_some found) in
            let h = held k v p.0 found p.1 in
            (h.0, of.from_page (page p.0) h.0 (among p.0 (sound.inside k p.0 p.1)) (reads p.0 h.0 h.1), h.2);
        to_record = λ i is.
            let f = of.to_page i is in
            let n = among_index pages f.0 [] f.1 in
            let inside : n.0 < t.free.units = omega (arith, n.1, count) in
            let read : page_items (page n.0) ≡ Some (i ∷ []) = ap page_items (sym (nth n.0 inside) ∙ n.2) ∙ f.2 in
            (holds_read n.0 i inside read).record_is;
      }

  content : (items : List Item) × (records_in (map page (range_with_len 0 t.free.units)) ≡ Some items) × AreRecords t items
  unfolding pages
  content =
      let s = some_items (records_in pages) (pages_have_records pages decode apart) in
      (s.0, s.1, are_records s.0 s.1)

pub shown_is_content : ShownIsContent
shown_is_content = λ t page sound shows items. content t page sound shows items
