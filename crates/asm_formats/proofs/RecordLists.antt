-- The records of many pages, in the order of their keys.
use Rattle.std.proofs.Common.{◌≡◌, ◌⊎◌, inl, inr, ⊎_elim, ℕ, zero, suc, ◌+◌, ◌<◌, ◌≤◌, true, cond, ◌==◌, List, [], ◌∷◌, length, get_or, map, refl, sym, ap, subst, ◌∙◌, Option, Some, None, arith}
use Rattle.std.specs.Prelude.{nat_lt, nat_le}
use Rattle.std.specs.Option.{option_and_then, option_map, is_some}
use Rattle.std.proofs.lemmas.Bool.{cond_both, and_parts, and_from, ltb-true, ltb-false, eqb-true, eqb-false, leb-true, le-leb, false≢true}
use Rattle.std.proofs.lemmas.Option.{same_Some, none-some}
use Rattle.asm_group.specs.Names.{Bytes}
use Rattle.asm_formats.specs.Among.{IsAmong}
use Rattle.asm_formats.specs.Status.{ascends_from}
use Rattle.asm_formats.specs.Items.{Item, item_key, key_rank}
use Rattle.asm_formats.specs.Content.{is_page, page_items, with_item, with_items, records_in}
use Rattle.asm_formats.specs.PageLaws.{AreRecordsOf, HaveOwnKeys}
use Rattle.asm_formats.proofs.Among.{among_index}
use Rattle.asm_formats.proofs.PageReading.{page_read}

abbrev rank : Item → ℕ
rank i = key_rank (item_key i)

abbrev ranks : List Item → List ℕ
ranks items = map rank items

-- ---- an item among others

-- the items are those and the new one, in order
record Has (i : Item) (js ks : List Item) : Type 0 where
  into : (k : Item) → IsAmong ks k → (k ≡ i) ⊎ IsAmong js k
  new : IsAmong ks i
  old : (k : Item) → IsAmong js k → IsAmong ks k
  ordered : (least : ℕ) → least ≤ rank i → ascends_from least (ranks js) ≡ true → ascends_from least (ranks ks) ≡ true

in_front : (i j : Item) (js : List Item) → rank i < rank j → Has i (j ∷ js) (i ∷ j ∷ js)
in_front i j js lt = record {
  into = λ k h. h;
  new = inl refl;
  old = λ k h. inr h;
  ordered = λ least le ok.
      let p = and_parts (nat_le least (rank j)) (ascends_from (rank j + 1) (ranks js)) ok in
      and_from (nat_le least (rank i)) _ (le-leb least (rank i) le)
      (and_from (nat_le (rank i + 1) (rank j)) (ascends_from (rank j + 1) (ranks js)) (le-leb (rank i + 1) (rank j) (omega (arith, lt))) p.1);
}

further : (i j : Item) (js ks : List Item) → rank j < rank i → Has i js ks → Has i (j ∷ js) (j ∷ ks)
further i j js ks lt has = record {
  into = λ k h. ⊎_elim (λ e. inr (inl e)) (λ l. ⊎_elim (λ e. inl e) (λ m. inr (inr m)) (has.into k l)) h;
  new = inr has.new;
  old = λ k h. ⊎_elim (λ e. inl e) (λ l. inr (has.old k l)) h;
  ordered = λ least le ok.
      let p = and_parts (nat_le least (rank j)) (ascends_from (rank j + 1) (ranks js)) ok in
      and_from (nat_le least (rank j)) (ascends_from (rank j + 1) (ranks ks)) p.0 (has.ordered (rank j + 1) (omega (arith, lt)) p.1);
}

-- what an item finds among others: the list with it, or one of its key
abbrev Placed : Item → List Item → Option (List Item) → Type 0
Placed i js None = (j : Item) × IsAmong js j × (rank i ≡ rank j)
Placed i js (Some ks) = Has i js ks

placed : (i : Item) (js : List Item) → Placed i js (with_item i js)
unfolding with_item
placed i [] = record {
  into = λ k h. h;
  new = inl refl;
  old = λ k h. absurd h;
  ordered = λ least le ok. and_from (nat_le least (rank i)) true (le-leb least (rank i) le) refl;
}
placed i (j ∷ js) = cond_both (nat_lt (rank i) (rank j)) (Some (i ∷ j ∷ js)) (cond (rank i == rank j) None (option_map (λ ks. j ∷ ks) (with_item i js))) (Placed i (j ∷ js))
    (λ below. in_front i j js (ltb-true (rank i) (rank j) below))
    (λ above. cond_both (rank i == rank j) None (option_map (λ ks. j ∷ ks) (with_item i js)) (Placed i (j ∷ js))
    (λ same. (j, inl refl, eqb-true (rank i) (rank j) same))
    (λ differ. go (with_item i js) (omega (arith, ltb-false (rank i) (rank j) above, eqb-false (rank i) (rank j) differ)) (placed i js)))
  where
    go : (o : Option (List Item)) → rank j < rank i → Placed i js o → Placed i (j ∷ js) (option_map (λ ks. j ∷ ks) o)
    go None lt p = (p.0, inr p.1, p.2)
    go (Some ks) lt p = further i j js ks lt p

-- ---- the records of pages

-- one more page
more_empty : (page : Bytes) (pages : List Bytes) (items : List Item) → page_items page ≡ Some [] → AreRecordsOf pages items → AreRecordsOf (page ∷ pages) items
more_empty page pages items empty r = record {
  in_order = r.in_order;
  decode = λ q h. ⊎_elim (λ e. ap is_page e ∙ ap is_some empty) (λ l. r.decode q l) h;
  from_page = λ q i h e. ⊎_elim (λ here. absurd (other (sym empty ∙ ap page_items (sym here) ∙ e))) (λ l. r.from_page q i l e) h;
  to_page = λ i h. let p = r.to_page i h in (p.0, inr p.1, p.2);
}
  where
    other : {i : Item} → Some [] ≡ Some (i ∷ []) → ⊥
    other {i} e = absurd (omega (arith, ap (λ (l : List Item). length l) (same_Some [] (i ∷ []) e)))

more_full : (page : Bytes) (pages : List Bytes) (j : Item) (others items : List Item) → page_items page ≡ Some (j ∷ []) → AreRecordsOf pages others → Has j others items → AreRecordsOf (page ∷ pages) items
more_full page pages j others items full r has = record {
  in_order = has.ordered 0 (omega arith) r.in_order;
  decode = λ q h. ⊎_elim (λ e. ap is_page e ∙ ap is_some full) (λ l. r.decode q l) h;
  from_page = λ q i h e. ⊎_elim (λ here. subst (IsAmong items) (head_same (same_Some (j ∷ []) (i ∷ []) (sym full ∙ ap page_items (sym here) ∙ e))) has.new) (λ l. has.old i (r.from_page q i l e)) h;
  to_page = λ i h. ⊎_elim (λ e. (page, inl refl, full ∙ ap (λ (x : Item). Some (x ∷ [])) (sym e))) (λ l. let p = r.to_page i l in (p.0, inr p.1, p.2)) (has.into i h);
}
  where
    first : List Item → Item
    first [] = j
    first (x ∷ xs) = x

    head_same : {i : Item} → (j ∷ []) ≡ (i ∷ []) → j ≡ i
    head_same e = ap first e

no_pages : AreRecordsOf [] []
no_pages = record { in_order = refl; decode = λ q h. absurd h; from_page = λ q i h e. absurd h; to_page = λ i h. absurd h }

-- all that a page may be
page_cases : (page : Bytes) (is : List Item) → page_items page ≡ Some is → (is ≡ []) ⊎ ((i : Item) × (is ≡ i ∷ []))
page_cases page is e = ⊎_elim (λ p. inl p.1) (λ p. inr (p.0, p.3)) (page_read page is e)

-- one more page before some pages, whose records are known
module _ (page : Bytes) (pages : List Bytes) (items : List Item) (earlier : (others : List Item) → records_in pages ≡ Some others → AreRecordsOf pages others) where
  with_one : (i : Item) (others : List Item) (o : Option (List Item)) → page_items page ≡ Some (i ∷ []) → AreRecordsOf pages others → Placed i others o → o ≡ Some items → AreRecordsOf (page ∷ pages) items
  with_one i others None is r p found = absurd (none-some items found)
  with_one i others (Some ks) is r p found = subst (AreRecordsOf (page ∷ pages)) (same_Some ks items found) (more_full page pages i others ks is r p)

  by_others : (is : List Item) (o : Option (List Item)) → page_items page ≡ Some is → records_in pages ≡ o → option_and_then (with_items is) o ≡ Some items → AreRecordsOf (page ∷ pages) items
  by_others is None at rest found = absurd (none-some items found)
  by_others is (Some others) at rest found = ⊎_elim
      (λ none. more_empty page pages items (at ∙ ap (λ (l : List Item). Some l) none)
      (earlier items (rest ∙ sym (ap (λ (l : List Item). with_items l others) none) ∙ found)))
      (λ p. with_one p.0 others (with_item p.0 others) (at ∙ ap (λ (l : List Item). Some l) p.1) (earlier others rest) (placed p.0 others)
      (sym (ap (λ (l : List Item). with_items l others) p.1) ∙ found))
      (page_cases page is at)

  by_page : (o : Option (List Item)) → page_items page ≡ o → option_and_then (λ is. option_and_then (with_items is) (records_in pages)) o ≡ Some items → AreRecordsOf (page ∷ pages) items
  by_page None at found = absurd (none-some items found)
  by_page (Some is) at found = by_others is (records_in pages) at refl found

pub records_of : (pages : List Bytes) (items : List Item) → records_in pages ≡ Some items → AreRecordsOf pages items
unfolding records_in
records_of [] items e = subst (AreRecordsOf []) (same_Some [] items e) no_pages
records_of (page ∷ pages) items e = by_page page pages items (λ others. records_of pages others) (page_items page) refl e

-- ---- pages of different keys

abbrev HasRecords : List Bytes → Type 0
HasRecords pages = (items : List Item) × (records_in pages ≡ Some items)

module _ (page : Bytes) (pages : List Bytes) (apart : HaveOwnKeys (page ∷ pages)) (others : List Item) (rest : records_in pages ≡ Some others) where
  -- an item of the page finds its place
  one_place : (i : Item) → page_items page ≡ Some (i ∷ []) → (o : Option (List Item)) → Placed i others o → (items : List Item) × (o ≡ Some items)
  one_place i at None p =
      let q = (records_of pages others rest).to_page p.0 p.1 in
      let n = among_index pages q.0 [] q.1 in
      absurd (apart 0 (suc n.0) i p.0 (omega arith) (omega (arith, n.1)) at (ap page_items n.2 ∙ q.2) p.2)
  one_place i at (Some ks) p = (ks, refl)

  next_page : (is : List Item) → page_items page ≡ Some is → (items : List Item) × (with_items is others ≡ Some items)
  next_page is at = ⊎_elim
      (λ none. (others, ap (λ (l : List Item). with_items l others) none))
      (λ p. let found = one_place p.0 (at ∙ ap (λ (l : List Item). Some l) p.1) (with_item p.0 others) (placed p.0 others) in
      (found.0, ap (λ (l : List Item). with_items l others) p.1 ∙ found.1))
      (page_cases page is at)

pub have_records : (pages : List Bytes) → ((page : Bytes) → IsAmong pages page → is_page page ≡ true) → HaveOwnKeys pages → HasRecords pages
unfolding records_in
have_records [] decode apart = ([], refl)
have_records (page ∷ pages) decode apart =
    let earlier = have_records pages (λ q h. decode q (inr h)) (λ p q i j lt below. apart (suc p) (suc q) i j (omega (arith, lt)) (omega (arith, below))) in
    let is = some_of (page_items page) (decode page (inl refl)) in
    let found = next_page page pages apart earlier.0 earlier.1 is.0 is.1 in
    (found.0, ap (option_and_then (λ l. option_and_then (with_items l) (records_in pages))) is.1 ∙ ap (option_and_then (with_items is.0)) earlier.1 ∙ found.1)
  where
    some_of : (o : Option (List Item)) → is_some o ≡ true → (l : List Item) × (o ≡ Some l)
    some_of None e = absurd (false≢true e)
    some_of (Some l) e = (l, refl)

pub pages_have_records : (pages : List Bytes) → ((page : Bytes) → IsAmong pages page → is_page page ≡ true) → HaveOwnKeys pages → is_some (records_in pages) ≡ true
pages_have_records pages decode apart = ap is_some (have_records pages decode apart).1

-- ---- one list

above_least : (xs : List Item) (least : ℕ) → ascends_from least (ranks xs) ≡ true → (i : Item) → IsAmong xs i → least ≤ rank i
above_least [] least ok i h = absurd h
above_least (x ∷ xs) least ok i (inl e) = leb-true least (rank i) (ap (λ (y : Item). nat_le least (rank y)) e ∙ (and_parts (nat_le least (rank x)) (ascends_from (rank x + 1) (ranks xs)) ok).0)
above_least (x ∷ xs) least ok i (inr h) =
    let p = and_parts (nat_le least (rank x)) (ascends_from (rank x + 1) (ranks xs)) ok in
    omega (arith, above_least xs (rank x + 1) p.1 i h, leb-true least (rank x) p.0)

-- the elements behind the first
behind : (x y : Item) (xs ys : List Item) → x ≡ y → ((i : Item) → IsAmong xs i → rank x < rank i) → ((i : Item) → IsAmong (x ∷ xs) i → IsAmong (y ∷ ys) i) → (i : Item) → IsAmong xs i → IsAmong ys i
behind x y xs ys e above sub i h = ⊎_elim (λ same. absurd (omega (arith, above i h, ap rank (same ∙ sym e)))) (λ l. l) (sub i (inr h))

pub one_list : (xs ys : List Item) (least : ℕ) → ascends_from least (ranks xs) ≡ true → ascends_from least (ranks ys) ≡ true → ((i : Item) → IsAmong xs i → IsAmong ys i) → ((i : Item) → IsAmong ys i → IsAmong xs i)
    → xs ≡ ys
one_list [] [] least a b sub back = refl
one_list [] (y ∷ ys) least a b sub back = absurd (back y (inl refl))
one_list (x ∷ xs) [] least a b sub back = absurd (sub x (inl refl))
one_list (x ∷ xs) (y ∷ ys) least a b sub back =
    let p = (and_parts (nat_le least (rank x)) (ascends_from (rank x + 1) (ranks xs)) a).1 in
    let q = (and_parts (nat_le least (rank y)) (ascends_from (rank y + 1) (ranks ys)) b).1 in
    let above_x : (i : Item) → IsAmong xs i → rank x < rank i = λ i h. omega (arith, above_least xs (rank x + 1) p i h) in
    let above_y : (i : Item) → IsAmong ys i → rank y < rank i = λ i h. omega (arith, above_least ys (rank y + 1) q i h) in
    let e : x ≡ y = ⊎_elim (λ same. same) (λ in_ys. ⊎_elim (λ same. sym same) (λ in_xs. absurd (omega (arith, above_y x in_ys, above_x y in_xs))) (back y (inl refl))) (sub x (inl refl)) in
    let q_x : ascends_from (rank x + 1) (ranks ys) ≡ true = ap (λ (z : Item). ascends_from (rank z + 1) (ranks ys)) e ∙ q in
    let others = one_list xs ys (rank x + 1) p q_x (behind x y xs ys e above_x sub) (behind y x ys xs (sym e) above_y back) in
    λ i. e i ∷ others i

-- ---- records hold different keys

-- an item that finds its place has another key than each of the others
fresh : (i : Item) (js : List Item) (least : ℕ) → ascends_from least (ranks js) ≡ true → (ks : List Item) → with_item i js ≡ Some ks → (j : Item) → IsAmong js j → rank i ≡ rank j → ⊥
unfolding with_item
fresh i [] least ok ks e j h same = h
fresh i (x ∷ xs) least ok ks e j h same =
    let p = and_parts (nat_le least (rank x)) (ascends_from (rank x + 1) (ranks xs)) ok in
    cond_both (nat_lt (rank i) (rank x)) (Some (i ∷ x ∷ xs)) (cond (rank i == rank x) None (option_map (λ ks. x ∷ ks) (with_item i xs))) (λ (o : Option (List Item)). o ≡ Some ks → ⊥)
    (λ below found. omega (arith, ltb-true (rank i) (rank x) below, above_least (x ∷ xs) (rank x) (and_from (nat_le (rank x) (rank x)) (ascends_from (rank x + 1) (ranks xs)) (le-leb (rank x) (rank x) (omega arith)) p.1) j h, same))
    (λ above. cond_both (rank i == rank x) None (option_map (λ ks. x ∷ ks) (with_item i xs)) (λ (o : Option (List Item)). o ≡ Some ks → ⊥)
    (λ equal found. none-some ks found)
    (λ differ. go (with_item i xs) refl (eqb-false (rank i) (rank x) differ) (λ others found l. fresh i xs (rank x + 1) p.1 others found j l same))) e
  where
    go : (o : Option (List Item)) → with_item i xs ≡ o → (rank i ≡ rank x → ⊥) → ((others : List Item) → with_item i xs ≡ Some others → IsAmong xs j → ⊥) → option_map (λ ks. x ∷ ks) o ≡ Some ks → ⊥
    go None is differ rest found = none-some ks found
    go (Some others) is differ rest found = ⊎_elim (λ here. differ (same ∙ ap rank here)) (λ l. rest others is l) h

among_get : {A : Type 0} (xs : List A) (n : ℕ) (d : A) → n < length xs → IsAmong xs (get_or xs n d)
among_get [] n d lt = absurd (omega (arith, lt))
among_get (x ∷ xs) zero d lt = inl refl
among_get (x ∷ xs) (suc n) d lt = inr (among_get xs n d (omega (arith, lt)))

-- the first page holds another key than the pages behind it
module _ (page : Bytes) (pages : List Bytes) (items : List Item) where
  first_apart : (o : Option (List Item)) → records_in pages ≡ o → (i : Item) → page_items page ≡ Some (i ∷ []) → option_and_then (with_items (i ∷ [])) o ≡ Some items
      → (q : ℕ) (j : Item) → q < length pages → page_items (get_or pages q []) ≡ Some (j ∷ []) → rank i ≡ rank j → ⊥
  first_apart None rest i at found q j lt there same = none-some items found
  first_apart (Some others) rest i at found q j lt there same =
      let r = records_of pages others rest in
      fresh i others 0 r.in_order items found j (r.from_page (get_or pages q []) j (among_get pages q [] lt) there) same

  -- the pages behind it have records too
  rest_has : (o : Option (List Item)) → option_and_then (λ is. option_and_then (with_items is) (records_in pages)) o ≡ Some items → HasRecords pages
  rest_has None found = absurd (none-some items found)
  rest_has (Some is) found = go (records_in pages) refl found
    where
      go : (o : Option (List Item)) → records_in pages ≡ o → option_and_then (with_items is) o ≡ Some items → HasRecords pages
      go None rest e = absurd (none-some items e)
      go (Some others) rest e = (others, rest)

pub records_apart : (pages : List Bytes) (items : List Item) → records_in pages ≡ Some items → HaveOwnKeys pages
unfolding records_in
records_apart [] items e p q i j lt below = absurd (omega (arith, below))
records_apart (page ∷ pages) items e p zero i j lt below = absurd (omega (arith, lt))
records_apart (page ∷ pages) items e zero (suc q) i j lt below =
    λ at there same. first_apart page pages items (records_in pages) refl i at (sym (ap (option_and_then (λ is. option_and_then (with_items is) (records_in pages))) at) ∙ e) q j (omega (arith, below)) there same
records_apart (page ∷ pages) items e (suc p) (suc q) i j lt below =
    let rest = rest_has page pages items (page_items page) e in
    records_apart pages rest.0 rest.1 p q i j (omega (arith, lt)) (omega (arith, below))
