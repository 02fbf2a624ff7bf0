-- What the items of a group say, by its tables.
use Rattle.std.proofs.Common.{◌≡◌, ℕ, ◌+◌, ◌-◌, Bool, true, false, eqb, get_or, List, [], ◌∷◌, Option, Some, None, refl, sym, ap, subst, ◌∙◌, arith, inl, inr}
use Rattle.std.specs.Prelude.{◌&&◌, ◌/◌, ◌%◌}
use Rattle.std.specs.declared.cmp.Ordering.{Ordering}
use Rattle.std.specs.Ordering.{nat_cmp, is_lt}
use Rattle.std.specs.Cmp.{IsTotalOrder}
use Rattle.std.proofs.lemmas.Cmp.{nat_cmp_total}
use Rattle.std.specs.BTreeMap.{is_at}
use Rattle.std.specs.Map.{lookup}
use Rattle.std.specs.Option.{option_and_then, option_map, option_or, unwrap_or}
use Rattle.std.proofs.lemmas.Bool.{and_parts, and_from, eqb-true, eq-eqb, ne_eqb}
use Rattle.std.proofs.lemmas.Option.{none-some}
use Rattle.asm_formats.specs.Among.{IsAmong}
use Rattle.asm_formats.specs.Items.{Item, chunk_len, item_key, file_item, chunk_item, marks_item}
use Rattle.asm_formats.specs.Sets.{has_bit}
use Rattle.catalog.specs.asm_placement.Tables.{first_said, head_of, homes_in, if_is, is_stale, marks_in}
use Rattle.catalog.specs.asm_base.Records.{Ascend}
use Rattle.catalog.proofs.asm_base.Exact.{bind_some, some_is, test_some}
use Rattle.catalog.proofs.asm_base.ItemTables.{IsEntry}
use Rattle.catalog.specs.file_directory.Entries.{file_entries as head_laws}
use Rattle.catalog.specs.staleness_directory.MarkEntries.{marks_entries as marks_laws}
use Rattle.catalog.specs.asm_base.Chunks as chunk_order
use Rattle.catalog.specs.file_directory.Files as files
use Rattle.catalog.specs.extent_map.Extents as extents
use Rattle.catalog.proofs.extent_map.Laws.{chunk_entries as chunk_laws, chunk_total}
use Rattle.catalog.specs.staleness_directory.Marks as stale
use Rattle.catalog.specs.catalog_tables.Tables.{AreTables, Tables, item_at}
use Rattle.catalog.specs.catalog_tables.Rules.{marks_of}
use Rattle.catalog.specs.catalog_tables.Items.{AreItemsOf}
use Rattle.catalog.proofs.catalog_tables.TableItems.{AreExact, IsOf, a_file, a_chunk, marks, among_found, chunks_exact, found_is, from_map, numbers_exact, says}

-- ---- the first item that says something

first_is : {A : Type 0} (tells : Item → Option A) (items : List Item) (i : Item) (y : A) → IsAmong items i → tells i ≡ Some y → ((j : Item) (z : A) → IsAmong items j → tells j ≡ Some z → z ≡ y) → first_said tells items ≡ Some y
first_is tells [] i y h e only = absurd h
first_is {A} tells (x ∷ items) i y h e only = by (tells x) refl h (λ later. first_is tells items i y later e (λ j z g f. only j z (inr g) f)) where
  by : (o : Option A) → tells x ≡ o → IsAmong (x ∷ items) i → (IsAmong items i → first_said tells items ≡ Some y) → option_or o (first_said tells items) ≡ Some y
  by (Some z) is h rest = ap (λ (w : A). Some w) (only x z (inl refl) is)
  by None is (inl same) rest = absurd (none-some y (sym is ∙ ap tells (sym same) ∙ e))
  by None is (inr later) rest = rest later

first_none : {A : Type 0} (tells : Item → Option A) (items : List Item) → ((j : Item) (z : A) → IsAmong items j → tells j ≡ Some z → ⊥) → first_said tells items ≡ None
first_none tells [] none = refl
first_none {A} tells (x ∷ items) none = by (tells x) refl (first_none tells items (λ j z g f. none j z (inr g) f)) where
  by : (o : Option A) → tells x ≡ o → first_said tells items ≡ None → option_or o (first_said tells items) ≡ None
  by (Some z) is rest = absurd (none x z (inl refl) is)
  by None is rest = rest

-- ---- a look-up among the items is one in the table

record IsTest {K : Type 0} (test : K → K → Bool) : Type 0 where
  exact : (k l : K) → test k l ≡ true → l ≡ k
  itself : (k : K) → test k k ≡ true

-- the entries of the table are the items of its kind
pub record AreEntries {K T : Type 0} (item_of : K × T → Item) (es : List (K × T)) (items : List Item) : Type 0 where
  pub into : (x : K × T) → IsAmong es x → IsAmong items (item_of x)
  pub back : (x : K × T) → IsAmong items (item_of x) → IsAmong es x

abbrev tells_of : {K T : Type 0} → (Item → Option (K × T)) → (K → K → Bool) → K → Item → Option T
tells_of entry_of test k i = option_and_then (λ x. if_is (test k x.0) x.1) (entry_of i)

module _ {K T : Type 0} {item_of : K × T → Item} {entry_of : Item → Option (K × T)} (law : IsEntry item_of entry_of) (R : K → K → Ordering) (total : IsTotalOrder R) (exact : AreExact R) (test : K → K → Bool) (is_test : IsTest test)
    (es : List (K × T)) (items : List Item) (up : Ascend (λ a b. is_lt (R a b)) es) (are : AreEntries item_of es items) where
  told : (k : K) (j : Item) (z : T) → tells_of entry_of test k j ≡ Some z → item_of (k, z) ≡ j
  told k j z e =
      let b = bind_some (λ (x : K × T). if_is (test k x.0) x.1) (entry_of j) z e in
      let p = test_some (test k b.0.0) b.0.1 z b.2 in
      let first = is_test.exact k b.0.0 p.0 in
      let same : b.0 ≡ (k, z) = λ i. (first i, p.1 i) in
      ap item_of (sym same) ∙ law.there j b.0 b.1

  is_there : (k : K) (j : Item) (z : T) → IsAmong items j → tells_of entry_of test k j ≡ Some z → lookup (is_at (R k)) es ≡ Some z
  is_there k j z h e = among_found R total exact es (k, z) up (are.back (k, z) (subst (λ (i : Item). IsAmong items i) (sym (told k j z e)) h))

  looks_up : (k : K) → first_said (tells_of entry_of test k) items ≡ lookup (is_at (R k)) es
  looks_up k = by (lookup (is_at (R k)) es) refl where
    by : (o : Option T) → lookup (is_at (R k)) es ≡ o → first_said (tells_of entry_of test k) items ≡ o
    by None none = first_none (tells_of entry_of test k) items (λ j z h e. none-some z (sym none ∙ is_there k j z h e))
    by (Some y) found =
        let tells : tells_of entry_of test k (item_of (k, y)) ≡ Some y = rw (law.back (k, y), is_test.itself k) refl in
        first_is (tells_of entry_of test k) items (item_of (k, y)) y (are.into (k, y) (found_is R total exact k es y found)) tells
        (λ j z h e. some_is z y (sym (is_there k j z h e) ∙ found))

-- ---- heads, homes and marks

same_number : IsTest (λ (f g : ℕ). eqb g f)
same_number = record { exact = λ f g e. eqb-true g f e; itself = λ f. eq-eqb f f refl }

abbrev is_chunk_at : chunk_order.Chunk → chunk_order.Chunk → Bool
is_chunk_at x y = eqb y.0 x.0 && eqb y.1 x.1

same_chunk : IsTest is_chunk_at
same_chunk = record {
  exact = λ x y e.
      let p = and_parts (eqb y.0 x.0) (eqb y.1 x.1) e in
      let first = eqb-true y.0 x.0 p.0 in
      let second = eqb-true y.1 x.1 p.1 in
      λ i. (first i, second i);
  itself = λ x. and_from (eqb x.0 x.0) (eqb x.1 x.1) (eq-eqb x.0 x.0 refl) (eq-eqb x.1 x.1 refl);
}

head_said : (items : List Item) (f : ℕ) → head_of items f ≡ first_said (tells_of files.file_of_item (λ (f g : ℕ). eqb g f) f) items
unfolding head_of
head_said [] f = refl
head_said (file_item g h ∷ items) f = ap (option_or (if_is (eqb g f) h)) (head_said items f)
head_said (i ∷ items) f = head_said items f

homes_said : (items : List Item) (f c : ℕ) → homes_in items f c ≡ first_said (tells_of extents.chunk_of_item is_chunk_at (f, c)) items
unfolding homes_in
homes_said [] f c = refl
homes_said (chunk_item g d homes ∷ items) f c = ap (option_or (if_is (eqb g f && eqb d c) homes)) (homes_said items f c)
homes_said (i ∷ items) f c = homes_said items f c

marks_said : (items : List Item) (f c : ℕ) → marks_in items f c ≡ first_said (tells_of stale.marks_of_item is_chunk_at (f, c)) items
unfolding marks_in
marks_said [] f c = refl
marks_said (marks_item g d ms ∷ items) f c = ap (option_or (if_is (eqb g f && eqb d c) ms)) (marks_said items f c)
marks_said (i ∷ items) f c = marks_said items f c

module _ (t : Tables) (items : List Item) (a : AreTables t) (is : AreItemsOf t items) where
  item_there : (i : Item) → IsOf t i → IsAmong items i
  item_there i o = is.from_table (item_key i) i (says t i a o)

  head_entries : AreEntries files.item_of_file_head t.files items
  unfolding item_at
  head_entries = record {
    into = λ x h. item_there (files.item_of_file_head x) (a_file x h refl);
    back = λ x h.
        let m = from_map (file_item x.0) (files.head_at t.files x.0) (files.item_of_file_head x) (is.to_table (files.item_of_file_head x) h) in
        let e : files.head_at t.files x.0 ≡ Some x.1 = m.1 ∙ ap (option_map (λ (y : files.NumberedFile). y.1)) (ap files.file_of_item m.2) in
        found_is nat_cmp nat_cmp_total numbers_exact x.0 t.files x.1 e;
  }

  marks_entries : AreEntries stale.item_of_marks t.stale items
  unfolding item_at
  marks_entries = record {
    into = λ x h. item_there (stale.item_of_marks x) (marks x h refl);
    back = λ x h.
        let m = from_map (marks_item x.0.0 x.0.1) (stale.marks_at t.stale x.0) (stale.item_of_marks x) (is.to_table (stale.item_of_marks x) h) in
        let e : stale.marks_at t.stale x.0 ≡ Some x.1 = m.1 ∙ ap (option_map (λ (y : stale.Marked). y.1)) (ap stale.marks_of_item m.2) in
        found_is chunk_order.chunk_cmp chunk_total chunks_exact x.0 t.stale x.1 e;
  }

  chunk_back : (x : extents.Chunked) → item_at t (item_key (extents.item_of_chunk x)) ≡ Some (extents.item_of_chunk x) → IsAmong t.extents x
  unfolding item_at
  chunk_back x e =
      let some : eqb (x.0.1 + 1) 0 ≡ false = ne_eqb (x.0.1 + 1) 0 (λ e. omega (arith, e)) in
      let less : x.0.1 + 1 - 1 ≡ x.0.1 = omega arith in
      let here : option_map (chunk_item x.0.0 x.0.1) (extents.chunk_at t.extents x.0) ≡ Some (extents.item_of_chunk x) = rw (some, less) at e in
      let m = from_map (chunk_item x.0.0 x.0.1) (extents.chunk_at t.extents x.0) (extents.item_of_chunk x) here in
      let same : extents.chunk_at t.extents x.0 ≡ Some x.1 = m.1 ∙ ap (option_map (λ (y : extents.Chunked). y.1)) (ap extents.chunk_of_item m.2) in
      found_is chunk_order.chunk_cmp chunk_total chunks_exact x.0 t.extents x.1 same

  pub chunk_entries : AreEntries extents.item_of_chunk t.extents items
  chunk_entries = record { into = λ x h. item_there (extents.item_of_chunk x) (a_chunk x h refl); back = λ x h. chunk_back x (is.to_table (extents.item_of_chunk x) h) }

  pub heads_are : (f : ℕ) → head_of items f ≡ files.head_at t.files f
  heads_are f = head_said items f ∙ looks_up head_laws.0 nat_cmp nat_cmp_total numbers_exact (λ (f g : ℕ). eqb g f) same_number t.files items a.files.0 head_entries f

  pub homes_are : (f c : ℕ) → homes_in items f c ≡ extents.chunk_at t.extents (f, c)
  homes_are f c = homes_said items f c ∙ looks_up chunk_laws.0 chunk_order.chunk_cmp chunk_total chunks_exact is_chunk_at same_chunk t.extents items a.extents.0.0 chunk_entries (f, c)

  pub marks_are : (f c : ℕ) → marks_in items f c ≡ stale.marks_at t.stale (f, c)
  marks_are f c = marks_said items f c ∙ looks_up marks_laws.0 chunk_order.chunk_cmp chunk_total chunks_exact is_chunk_at same_chunk t.stale items a.stale.0 marks_entries (f, c)

  pub stale_are : (f i k : ℕ) → is_stale items f i k ≡ has_bit (marks_of t f i) k
  unfolding is_stale
  stale_are f i k = ap (λ (o : Option (List ℕ)). has_bit (get_or (unwrap_or o []) (i % chunk_len) 0) k) (marks_are f (i / chunk_len))
