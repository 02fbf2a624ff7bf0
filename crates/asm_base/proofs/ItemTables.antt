-- A table of items is read exactly from its records, and stays one where an entry is put or removed.
use Rattle.std.proofs.Common.{◌≡◌, ℕ, Ordering, Bool, true, false, List, [], ◌∷◌, ◌++◌, map, Option, Some, None, refl, sym, ap, subst, ◌∙◌}
use Rattle.std.specs.Prelude.{IfSome}
use Rattle.std.specs.Cmp.{IsTotalOrder}
use Rattle.std.specs.Ordering.{is_lt, ordering_reverse}
use Rattle.std.specs.declared.cmp.Ordering.TheVariants.{Less, Equal, Greater}
use Rattle.std.specs.BTreeMap.{insert_entry}
use Rattle.std.specs.Map.{remove_entry}
use Rattle.std.specs.List.{AllByRecursion}
use Rattle.std.specs.Option.{option_and_then, option_map}
use Rattle.std.proofs.lemmas.Option.{none-some}
use Rattle.asm_formats.specs.Items.{Item, Key, item_key, is_item}
use Rattle.asm_formats.specs.Values.{value, decoded_item}
use Rattle.asm_formats.proofs.Bodies.{item_codec}
use Rattle.asm_base.specs.Records.{DirectoryRecord, Ascend, add_item, ends_below, of_kinds, read_from}
use Rattle.asm_base.specs.Tables.{IsItemTable, entry_of_record, item_record}
use Rattle.asm_base.proofs.Exact.{bind_some}
use Rattle.asm_base.proofs.Tables.{read_again, read_found}
use Rattle.asm_base.proofs.Lists.{IsItem, ascend_push, insert_at_end, is_list_table}

-- ---- the value of a record

-- What is read is an item of the key with this value, and each such item is read: so the reading gives what is decoded.
pub item_is_decoded : (k : Key) (bytes : List ℕ) (read : Option Item)
    → ((i : Item) → read ≡ Some i → (is_item i ≡ true) × (item_key i ≡ k) × (bytes ≡ value i))
    → ((i : Item) → is_item i ≡ true → item_key i ≡ k → bytes ≡ value i → read ≡ Some i)
    → read ≡ decoded_item k bytes
item_is_decoded k bytes (Some i) found only =
    let f = found i refl in
    sym (ap (λ (j : Key). decoded_item j bytes) (sym f.1) ∙ ap (λ (b : List ℕ). decoded_item (item_key i) b) f.2 ∙ item_codec.again i f.0)
item_is_decoded k bytes None found only = none (decoded_item k bytes) refl where
  none : (o : Option Item) → decoded_item k bytes ≡ o → None ≡ decoded_item k bytes
  none None e = sym e
  none (Some i) e = let f = item_codec.decoded k bytes i e in absurd (none-some i (only i f.0 f.1 f.2))

-- ---- entries and items

-- an item is the entry whose item it is
pub record IsEntry {X : Type 0} (item_of : X → Item) (entry_of : Item → Option X) : Type 0 where
  pub there : (i : Item) (x : X) → entry_of i ≡ Some x → item_of x ≡ i
  pub back : (x : X) → entry_of (item_of x) ≡ Some x

-- each item of the kinds is that of an entry
abbrev pub AreEntries : {X : Type 0} → (Key → Bool) → (X → Item) → Type 0
AreEntries {X} is_mine item_of = (i : Item) → is_mine (item_key i) ≡ true → (x : X) × (i ≡ item_of x)

-- then a record of the kinds that says no entry says no item
pub nothing_decoded : {X : Type 0} {item_of : X → Item} {entry_of : Item → Option X} → IsEntry item_of entry_of → (is_mine : Key → Bool) → AreEntries is_mine item_of
    → (e : DirectoryRecord) → is_mine e.0 ≡ true → entry_of_record entry_of e ≡ None → decoded_item e.0 e.1 ≡ None
unfolding entry_of_record
nothing_decoded {X} {item_of} {entry_of} law is_mine all e mine none = by (decoded_item e.0 e.1) refl where
  by : (o : Option Item) → decoded_item e.0 e.1 ≡ o → o ≡ None
  by None is = refl
  by (Some i) is =
      let x = all i (ap is_mine (item_codec.decoded e.0 e.1 i is).1 ∙ mine) in
      absurd (none-some x.0 (sym none ∙ ap (option_and_then entry_of) is ∙ ap entry_of x.1 ∙ law.back x.0))

-- the entry of a record whose value was read
pub entry_is_read : {X A : Type 0} {item_of : X → Item} {entry_of : Item → Option X} → IsEntry item_of entry_of → (make : A → Item) (entry : A → X) → ((x : A) → make x ≡ item_of (entry x))
    → (e : DirectoryRecord) (read : Option A) → option_map make read ≡ decoded_item e.0 e.1 → entry_of_record entry_of e ≡ option_map entry read
unfolding entry_of_record
entry_is_read {X} {A} {item_of} {entry_of} law make entry same e (Some x) is = rw (← is) (ap entry_of (same x) ∙ law.back (entry x))
entry_is_read {X} {A} {item_of} {entry_of} law make entry same e None is = rw (← is) refl

module _ {K T : Type 0} {item_of : K × T → Item} {entry_of : Item → Option (K × T)} (law : IsEntry item_of entry_of) where
  abbrev record_of : K × T → DirectoryRecord
  record_of x = item_record (item_of x)

  takes : (is_mine : Key → Bool) (e : DirectoryRecord) (x : K × T) → is_mine e.0 ≡ true → entry_of_record entry_of e ≡ Some x → (record_of x ≡ e) × (is_item (item_of x) ≡ true)
  unfolding entry_of_record
  takes is_mine e x mine read =
      let b = bind_some entry_of (decoded_item e.0 e.1) x read in
      let d = item_codec.decoded e.0 e.1 b.0 b.1 in
      let same : item_of x ≡ b.0 = law.there b.0 x b.2 in
      let pair : item_record b.0 ≡ e = ap (λ (k : Key). (k, value b.0)) d.1 ∙ ap (λ (v : List ℕ). (e.0, v)) (sym d.2) in
      (ap item_record same ∙ pair, ap is_item same ∙ d.0)

  again : (x : K × T) → is_item (item_of x) ≡ true → entry_of_record entry_of (record_of x) ≡ Some x
  unfolding entry_of_record
  again x ok = rw (item_codec.again (item_of x) ok) (law.back x)

  pub is_entry_item : (is_mine : Key → Bool) → IsItem is_mine record_of (λ x. is_item (item_of x) ≡ true) (entry_of_record entry_of)
  is_entry_item is_mine = record { takes = takes is_mine; again = again }

  -- what is read is a table whose records are those of its kinds
  pub items_found : (is_mine : Key → Bool) (is_below : K → K → Bool) (records : List DirectoryRecord) (read : Option (List (K × T)))
      → read ≡ read_from is_mine (add_item is_below (entry_of_record entry_of)) [] records
      → IfSome read (λ t. IsItemTable is_below item_of t × (of_kinds is_mine records ≡ map record_of t))
  items_found is_mine is_below records None e = tt
  items_found is_mine is_below records (Some t) e =
      let f = read_found (is_list_table (is_entry_item is_mine) is_below) [] records t (tt, tt) (sym e) in (f.1, f.0)

  -- every table that has these records is read
  pub items_again : (is_mine : Key → Bool) (is_below : K → K → Bool) (records : List DirectoryRecord) (read : Option (List (K × T))) (t : List (K × T))
      → read ≡ read_from is_mine (add_item is_below (entry_of_record entry_of)) [] records
      → IsItemTable is_below item_of t → of_kinds is_mine records ≡ map record_of t → read ≡ Some t
  items_again is_mine is_below records read t e fits same = e ∙ read_again (is_list_table (is_entry_item is_mine) is_below) [] records t (tt, tt) fits same

  -- a record whose entry comes behind the others is taken up by an insert
  pub entry_taken : (R : K → K → Ordering) → IsTotalOrder R → (items new : List (K × T)) (e : DirectoryRecord) (x : K × T)
      → Ascend (λ a b. is_lt (R a b)) items → entry_of_record entry_of e ≡ Some x → ends_below (λ a b. is_lt (R a b)) items x.0 ≡ true → new ≡ insert_entry R items x.0 x.1
      → (add_item (λ a b. is_lt (R a b)) (entry_of_record entry_of) items e ≡ Some new) × Ascend (λ a b. is_lt (R a b)) new
  entry_taken R order items new e x up read ends put =
      let at_end : new ≡ items ++ x ∷ [] = put ∙ insert_at_end R order items x.0 x.1 up ends in
      (rw (read, ends, at_end) refl, rw at_end (ascend_push (is_entry_item (λ k. true)) (λ a b. is_lt (R a b)) items x up ends))

-- ---- a table after a change

less_is : (o : Ordering) → is_lt o ≡ true → o ≡ Less
less_is Less e = refl
less_is Equal e = absurd cc
less_is Greater e = absurd cc

is_behind : {K : Type 0} {R : K → K → Ordering} → IsTotalOrder R → (k e : K) → R k e ≡ Greater → is_lt (R e k) ≡ true
is_behind order k e q = ap is_lt (order.antisymm e k ∙ ap ordering_reverse q)

abbrev below : {K : Type 0} → (K → K → Ordering) → K → K → Bool
below R a b = is_lt (R a b)

module _ {K T : Type 0} (R : K → K → Ordering) where
  abbrev Up : List (K × T) → Type 0
  Up es = Ascend (below R) es

  other_value : (e : K × T) (v : T) (es : List (K × T)) → Up (e ∷ es) → Up ((e.0, v) ∷ es)
  other_value e v [] up = tt
  other_value e v (f ∷ es) up = up

  tail_up : (e : K × T) (es : List (K × T)) → Up (e ∷ es) → Up es
  tail_up e [] up = tt
  tail_up e (f ∷ es) up = up.1

  past : IsTotalOrder R → (a e : K × T) (es : List (K × T)) → Up (a ∷ e ∷ es) → Up (a ∷ es)
  past order a e [] up = tt
  past order a e (f ∷ es) up = (ap is_lt (order.trans a.0 e.0 f.0 (less_is (R a.0 e.0) up.0) (less_is (R e.0 f.0) up.1.0)), up.1.1)

  put_in : (k : K) (v : T) (e : K × T) (es : List (K × T)) (o : Ordering) → R k e.0 ≡ o → Up (e ∷ es) → (R k e.0 ≡ Greater → Up (e ∷ insert_entry R es k v)) → Up (insert_entry R (e ∷ es) k v)
  put_in k v e es Less q up more = rw q (ap is_lt q, up)
  put_in k v e es Equal q up more = rw q (other_value e v es up)
  put_in k v e es Greater q up more = rw q (more q)

  put_after : (k : K) (v : T) (a e : K × T) (es : List (K × T)) (o : Ordering) → R k e.0 ≡ o → is_lt (R a.0 k) ≡ true → Up (a ∷ e ∷ es) → (R k e.0 ≡ Greater → Up (e ∷ insert_entry R es k v)) → Up (a ∷ insert_entry R (e ∷ es) k v)
  put_after k v a e es Less q lt up more = rw q (lt, (ap is_lt q, up.1))
  put_after k v a e es Equal q lt up more = rw q (up.0, other_value e v es up.1)
  put_after k v a e es Greater q lt up more = rw q (up.0, more q)

  put_behind : IsTotalOrder R → (k : K) (v : T) (a : K × T) (es : List (K × T)) → is_lt (R a.0 k) ≡ true → Up (a ∷ es) → Up (a ∷ insert_entry R es k v)
  put_behind order k v a [] lt up = (lt, tt)
  put_behind order k v a (e ∷ es) lt up = put_after k v a e es (R k e.0) refl lt up (λ q. put_behind order k v e es (is_behind order k e.0 q) up.1)

  put_ascends : IsTotalOrder R → (k : K) (v : T) (es : List (K × T)) → Up es → Up (insert_entry R es k v)
  put_ascends order k v [] up = tt
  put_ascends order k v (e ∷ es) up = put_in k v e es (R k e.0) refl up (λ q. put_behind order k v e es (is_behind order k e.0 q) up)

  removed_after : IsTotalOrder R → (test : K → Bool) (a e : K × T) (es : List (K × T)) (b : Bool) → test e.0 ≡ b → Up (a ∷ e ∷ es) → Up (e ∷ remove_entry test es) → Up (a ∷ remove_entry test (e ∷ es))
  removed_after order test a e es true q up more = rw q (past order a e es up)
  removed_after order test a e es false q up more = rw q (up.0, more)

  removed_behind : IsTotalOrder R → (test : K → Bool) (a : K × T) (es : List (K × T)) → Up (a ∷ es) → Up (a ∷ remove_entry test es)
  removed_behind order test a [] up = tt
  removed_behind order test a (e ∷ es) up = removed_after order test a e es (test e.0) refl up (removed_behind order test e es up.1)

  removed_in : (test : K → Bool) (e : K × T) (es : List (K × T)) (b : Bool) → test e.0 ≡ b → Up (e ∷ es) → Up (e ∷ remove_entry test es) → Up (remove_entry test (e ∷ es))
  removed_in test e es true q up more = rw q (tail_up e es up)
  removed_in test e es false q up more = rw q more

  removed_ascends : IsTotalOrder R → (test : K → Bool) (es : List (K × T)) → Up es → Up (remove_entry test es)
  removed_ascends order test [] up = tt
  removed_ascends order test (e ∷ es) up = removed_in test e es (test e.0) refl up (removed_behind order test e es up)

  put_all : (P : K × T → Type 0) → ((x y : K) → R x y ≡ Equal → x ≡ y) → (k : K) (v : T) (es : List (K × T)) → AllByRecursion P es → P (k, v) → AllByRecursion P (insert_entry R es k v)
  put_all P same k v [] all p = (p, tt)
  put_all P same k v (e ∷ es) all p = one (R k e.0) refl (put_all P same k v es all.1 p) where
    one : (o : Ordering) → R k e.0 ≡ o → AllByRecursion P (insert_entry R es k v) → AllByRecursion P (insert_entry R (e ∷ es) k v)
    one Less q more = rw q (p, all)
    one Equal q more = rw q (subst (λ (j : K). P (j, v)) (same k e.0 q) p, all.1)
    one Greater q more = rw q (all.0, more)

  removed_all : (P : K × T → Type 0) (test : K → Bool) (es : List (K × T)) → AllByRecursion P es → AllByRecursion P (remove_entry test es)
  removed_all P test [] all = tt
  removed_all P test (e ∷ es) all = one (test e.0) refl (removed_all P test es all.1) where
    one : (b : Bool) → test e.0 ≡ b → AllByRecursion P (remove_entry test es) → AllByRecursion P (remove_entry test (e ∷ es))
    one true q more = rw q all.1
    one false q more = rw q (all.0, more)

  -- a table with another entry is a table where that is an item of the formats
  pub put_keeps : IsTotalOrder R → ((x y : K) → R x y ≡ Equal → x ≡ y) → (item_of : K × T → Item) (es : List (K × T)) (k : K) (v : T) → is_item (item_of (k, v)) ≡ true
      → IsItemTable (λ a b. is_lt (R a b)) item_of es → IsItemTable (λ a b. is_lt (R a b)) item_of (insert_entry R es k v)
  put_keeps order same item_of es k v ok t = (put_ascends order k v es t.0, put_all (λ x. is_item (item_of x) ≡ true) same k v es t.1 ok)

  pub removed_keeps : IsTotalOrder R → (item_of : K × T → Item) (test : K → Bool) (es : List (K × T)) → IsItemTable (λ a b. is_lt (R a b)) item_of es → IsItemTable (λ a b. is_lt (R a b)) item_of (remove_entry test es)
  removed_keeps order item_of test es t = (removed_ascends order test es t.0, removed_all (λ x. is_item (item_of x) ≡ true) test es t.1)
