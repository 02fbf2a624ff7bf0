-- Where no node at fault is found, each table of nodes that has the records keeps the rule.
use Rattle.std.proofs.Common.{◌≡◌, ℕ, Bool, true, false, List, [], ◌∷◌, map, Option, Some, None, refl, sym, subst, ◌∙◌}
use Rattle.std.specs.Prelude.{IfNone, IfSome, find, not}
use Rattle.std.specs.List.{list_all}
use Rattle.std.specs.Option.{option_map}
use Rattle.std.proofs.lemmas.Option.{none-some}
use Rattle.asm_base.specs.Records.{DirectoryRecord, of_kinds}
use Rattle.asm_base.specs.Tables.{IsItemTable}
use Rattle.asm_base.proofs.Exact.{some_is}
use Rattle.alias_tree.specs.Faults.{IsWithoutFault}
use Rattle.alias_tree.specs.Nodes.{KeepsRule, Numbered, is_before, is_key_of_node, is_right, item_of_node, record_of_node}
use Rattle.alias_tree.specs.Places.{HasIndex}
use Rattle.alias_tree.proofs.Rules.{IsRead, found_of, table_of}

all_right : (f : Numbered → Bool) (nodes : List Numbered) → find (λ y. not (f y)) nodes ≡ None → list_all f nodes ≡ true
all_right f [] e = refl
all_right f (x ∷ nodes) e = by (f x) refl (all_right f nodes) where
  by : (b : Bool) → f x ≡ b → (find (λ y. not (f y)) nodes ≡ None → list_all f nodes ≡ true) → list_all f (x ∷ nodes) ≡ true
  by true is rest = rw is (rest (rw is at e))
  by false is rest = absurd (none-some x (sym (rw is at e)))

none_first : (o : Option Numbered) → option_map (λ x. x.0) o ≡ None → o ≡ None
none_first None e = refl
none_first (Some x) e = absurd cc

pub none_read : (records : List DirectoryRecord) (read : Option (List Numbered)) → read ≡ None → IsRead records read → IsWithoutFault records
none_read records read none only t items same = absurd (none-some t (sym none ∙ only t items same))

pub none_at_fault : (records : List DirectoryRecord) (nodes : List Numbered) (read : Option (List Numbered)) → read ≡ Some nodes → IsRead records read → IfSome read (λ t. IsItemTable is_before item_of_node t × (of_kinds is_key_of_node records ≡ map record_of_node t))
    → (unrooted : Option ℕ) → unrooted ≡ option_map (λ x. x.0) (find (λ x. not (is_right nodes x)) nodes) → unrooted ≡ None → (twin : Option ℕ) → IfNone twin (HasIndex nodes) → IfNone twin (IsWithoutFault records)
none_at_fault records nodes read some only found unrooted first none (Some n) index = tt
none_at_fault records nodes read some only found unrooted first none None index = λ t items same.
    let all = all_right (is_right nodes) nodes (none_first (find (λ x. not (is_right nodes x)) nodes) (sym first ∙ none)) in
    let f = found_of records nodes read some found in
    let table = table_of nodes index.places f.0 index.indexes all in
    subst (λ (ns : List Numbered). KeepsRule ns) (some_is nodes t (sym some ∙ only t items same)) table.rule
