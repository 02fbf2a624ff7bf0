-- What a table is after a change, and which table is read from records.
use Rattle.std.proofs.Common.{◌≡◌, Ordering, Bool, true, false, cond, List, [], ◌∷◌, ◌++◌, map, Option, Some, None, refl, sym, ap, ◌∙◌, inl, inr, ◌⊎◌}
use Rattle.std.specs.Prelude.{IfSome}
use Rattle.std.specs.Cmp.{IsTotalOrder, Equal-is}
use Rattle.std.specs.declared.cmp.Ordering.TheVariants.{Equal}
use Rattle.std.specs.BTreeMap.{is_at}
use Rattle.asm_base.specs.asm_formats.Items.{Item, Key, is_item}
use Rattle.asm_base.specs.asm_formats.Values.{value}
use Rattle.asm_base.specs.Records.{Ascend, DirectoryRecord, ends_below, of_kinds, read_from}
use Rattle.asm_base.specs.Tables.{entry_of_record}
use Rattle.asm_base.proofs.Copying.{copied_more}
use Rattle.asm_base.proofs.ItemTables.{IsEntry, entry_taken, is_entry_item, items_again, items_found, put_keeps, removed_keeps}
use Rattle.item_table.specs.Tables.{IsTable, add_record, at_key, bytes_at, is_key_before, record_of, with_key, without_key}

either : (b : Bool) → (b ≡ true) ⊎ (b ≡ false)
either true = inl refl
either false = inr refl

module _ {K T : Type 0} {cmp : K → K → Ordering} (total : IsTotalOrder cmp) where
  pub put_keeps_table : ((x y : K) → cmp x y ≡ Equal → x ≡ y) → (item_of : K × T → Item) (table : List (K × T)) (k : K) (x : T) → is_item (item_of (k, x)) ≡ true
      → IsTable cmp item_of table → IsTable cmp item_of (with_key cmp table k x)
  put_keeps_table exact item_of table k x ok t = put_keeps cmp total exact item_of table k x ok t

  pub remove_keeps_table : (item_of : K × T → Item) (table : List (K × T)) (k : K) → IsTable cmp item_of table → IsTable cmp item_of (without_key cmp table k)
  remove_keeps_table item_of table k t = removed_keeps cmp total item_of (is_at (cmp k)) table t

  -- the next entry of a table comes behind those that are copied
  pub copied : (whole done new rest : List (K × T)) (k : K) (x : T) → Ascend (is_key_before cmp) whole → done ++ (k, x) ∷ rest ≡ whole → new ≡ with_key cmp done k x → new ++ rest ≡ whole
  copied whole done new rest k x up e put = ap (λ (es : List (K × T)). es ++ rest) put ∙ copied_more cmp total whole done rest k x up e

pub record_gone : {K T : Type 0} (cmp : K → K → Ordering) (item_of : K × T → Item) (old new : List (K × T)) (k : K)
    → ((j : K) → at_key cmp new j ≡ cond (is_at (cmp k) j) None (at_key cmp old j))
    → (j : K) → bytes_at cmp item_of new j ≡ cond (is_at (cmp k) j) None (bytes_at cmp item_of old j)
record_gone cmp item_of old new k all j = elim (either (is_at (cmp k) j)) [
  | inl hit ↦ rw (all j, hit) refl
  | inr miss ↦ rw (all j, miss) refl
]

module _ {K T : Type 0} {item_of : K × T → Item} {entry_of : Item → Option (K × T)} (law : IsEntry item_of entry_of) (is_mine : Key → Bool) where
  -- what a record of its kinds says is an item
  pub is_kept : (e : DirectoryRecord) (k : K) (x : T) → is_mine e.0 ≡ true → entry_of_record entry_of e ≡ Some (k, x) → is_item (item_of (k, x)) ≡ true
  is_kept e k x mine read = ((is_entry_item law is_mine).takes e (k, x) mine read).1

  -- the value at the key of a record that is put is that of the record, and the others stay
  pub record_put : {cmp : K → K → Ordering} → ((x y : K) → cmp x y ≡ Equal → x ≡ y) → (old new : List (K × T)) (e : DirectoryRecord) (k : K) (x : T) → is_mine e.0 ≡ true → entry_of_record entry_of e ≡ Some (k, x)
      → ((j : K) → at_key cmp new j ≡ cond (is_at (cmp k) j) (Some x) (at_key cmp old j))
      → (j : K) → bytes_at cmp item_of new j ≡ cond (is_at (cmp k) j) (Some e.1) (bytes_at cmp item_of old j)
  record_put {cmp} exact old new e k x mine read all j = elim (either (is_at (cmp k) j)) [
    | inl hit ↦
        let same : k ≡ j = exact k j ((Equal-is (cmp k j)).0 hit) in
        let r = ((is_entry_item law is_mine).takes e (k, x) mine read).0 in
        rw (all j, hit) (ap (λ (i : K). Some (value (item_of (i, x)))) (sym same) ∙ ap (λ (f : DirectoryRecord). Some f.1) r)
    | inr miss ↦ rw (all j, miss) refl
  ]

  pub step_taken : {cmp : K → K → Ordering} → IsTotalOrder cmp → (table new : List (K × T)) (e : DirectoryRecord) (k : K) (x : T) → is_mine e.0 ≡ true → IsTable cmp item_of table
      → entry_of_record entry_of e ≡ Some (k, x) → ends_below (is_key_before cmp) table k ≡ true → new ≡ with_key cmp table k x
      → cond (is_mine e.0) (add_record cmp entry_of table e) (Some table) ≡ Some new
  step_taken {cmp} total table new e k x mine fits read ends put = rw mine (entry_taken law cmp total table new e (k, x) fits.0 read ends put).0

  pub table_found : (cmp : K → K → Ordering) (records : List DirectoryRecord) (read : Option (List (K × T))) → read ≡ read_from is_mine (add_record cmp entry_of) [] records
      → IfSome read (λ t. IsTable cmp item_of t × (of_kinds is_mine records ≡ map (record_of item_of) t))
  table_found cmp records read e = items_found law is_mine (is_key_before cmp) records read e

  pub table_again : (cmp : K → K → Ordering) (records : List DirectoryRecord) (read : Option (List (K × T))) (t : List (K × T)) → read ≡ read_from is_mine (add_record cmp entry_of) [] records
      → IsTable cmp item_of t → of_kinds is_mine records ≡ map (record_of item_of) t → read ≡ Some t
  table_again cmp records read t e fits same = items_again law is_mine (is_key_before cmp) records read t e fits same
