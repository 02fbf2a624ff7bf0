-- The table of operations is read exactly from its records.
use Rattle.std.proofs.Common.{◌≡◌, ℕ, true, List, [], ◌∷◌, ◌++◌, Option, Some, None, refl, sym, ap, subst, ◌∙◌, arith}
use Rattle.std.specs.Prelude.{IfSome}
use Rattle.asm_formats.specs.Items.{Key, is_item, Pending as PendingOperation}
use Rattle.asm_formats.specs.Values.{value, decoded_item}
use Rattle.asm_formats.proofs.Bodies.{item_codec}
use Rattle.asm_base.specs.Records.{DirectoryRecord, of_kinds, read_from}
use Rattle.asm_base.specs.Tables.{entry_of_record, item_record}
use Rattle.asm_base.proofs.Exact.{bind_some, some_is}
use Rattle.asm_base.proofs.Tables as tables
use Rattle.operations_directory.specs.declared.reading.Operation.{Operation}
use Rattle.operations_directory.specs.declared.reading.Operation.TheVariants.{Rebalance, Pending}
use Rattle.operations_directory.specs.Operations.{IsOperationTable, Operations, is_operation, nothing_begun, records_of_operations}
use Rattle.operations_directory.specs.Readings.{add_operation_record, item_of_operation, operation_of, with_operation}
use Rattle.operations_directory.proofs.Values.{operation_entry}

abbrev rec : Operation → DirectoryRecord
rec o = item_record (item_of_operation o)

abbrev Allowed : Operation → Type 0
Allowed o = is_item (item_of_operation o) ≡ true

takes : (e : DirectoryRecord) (o : Operation) → entry_of_record operation_of e ≡ Some o → (rec o ≡ e) × Allowed o
unfolding entry_of_record
takes e o read =
    let b = bind_some operation_of (decoded_item e.0 e.1) o read in
    let d = item_codec.decoded e.0 e.1 b.0 b.1 in
    let same : item_of_operation o ≡ b.0 = operation_entry.there b.0 o b.2 in
    let pair : item_record b.0 ≡ e = ap (λ (k : Key). (k, value b.0)) d.1 ∙ ap (λ (v : List ℕ). (e.0, v)) (sym d.2) in
    (ap item_record same ∙ pair, ap is_item same ∙ d.0)

again : (o : Operation) → Allowed o → entry_of_record operation_of (rec o) ≡ Some o
unfolding entry_of_record
again o ok = rw (item_codec.again (item_of_operation o) ok) (operation_entry.back o)

abbrev table : Option PendingOperation → Option ℕ → Operations
table pending rebalance = record { pending = pending; rebalance = rebalance }

abbrev Next : Option PendingOperation → Option ℕ → Operation → Operations → Type 0
Next pending rebalance o u = (records_of_operations (table pending rebalance) ++ rec o ∷ [] ≡ records_of_operations u) × IsOperationTable u

-- a record that is taken up is the table's next one
next_at : (pending : Option PendingOperation) (rebalance : Option ℕ) (o : Operation) (u : Operations) → with_operation (table pending rebalance) o ≡ Some u
    → IsOperationTable (table pending rebalance) → Allowed o → Next pending rebalance o u
next_at None None (Rebalance n) u e fits ok = subst (Next None None (Rebalance n)) (some_is (table None (Some n)) u e) (refl, (ok, tt))
next_at None None (Pending p) u e fits ok = subst (Next None None (Pending p)) (some_is (table (Some p) None) u e) (refl, (ok, tt))
next_at None (Some r) (Pending p) u e fits ok = subst (Next None (Some r) (Pending p)) (some_is (table (Some p) (Some r)) u e) (refl, (fits.0, (ok, tt)))
next_at None (Some r) (Rebalance n) u e fits ok = absurd cc
next_at (Some q) None (Rebalance n) u e fits ok = absurd cc
next_at (Some q) None (Pending p) u e fits ok = absurd cc
next_at (Some q) (Some r) (Rebalance n) u e fits ok = absurd cc
next_at (Some q) (Some r) (Pending p) u e fits ok = absurd cc

next_is : (t : Operations) (e : DirectoryRecord) (u : Operations) → is_operation e.0 ≡ true → IsOperationTable t → add_operation_record t e ≡ Some u → (records_of_operations t ++ e ∷ [] ≡ records_of_operations u) × IsOperationTable u
next_is t e u mine fits a =
    let b = bind_some (with_operation t) (entry_of_record operation_of e) u a in
    let k = takes e b.0 b.1 in
    let n = next_at t.pending t.rebalance b.0 u b.2 fits k.1 in
    (ap (λ (x : DirectoryRecord). records_of_operations t ++ x ∷ []) (sym k.0) ∙ n.0, n.1)

abbrev AddsTo : Operations → DirectoryRecord → Type 0
AddsTo t e = (u : Operations) × (add_operation_record t e ≡ Some u)

adds : (t : Operations) (o : Operation) (e : DirectoryRecord) (u : Operations) → Allowed o → rec o ≡ e → with_operation t o ≡ Some u → AddsTo t e
adds t o e u ok is w = subst (AddsTo t) is (u, rw (again o ok) w)

head_is : (x y : DirectoryRecord) (xs ys : List DirectoryRecord) → x ∷ xs ≡ y ∷ ys → (y ≡ x) × (xs ≡ ys)
head_is x y xs ys e = (cc, cc)

-- a rebalance isn't a pending operation
not_both : (n : ℕ) (p : PendingOperation) → rec (Pending p) ≡ rec (Rebalance n) → ⊥
not_both n p e = omega (arith, ap (λ (x : DirectoryRecord). x.0.a) e)

-- the next record of a table is taken up
follows_at : (pending : Option PendingOperation) (rebalance : Option ℕ) (e : DirectoryRecord) (es : List DirectoryRecord) (q : Option PendingOperation) (r : Option ℕ)
    → IsOperationTable (table q r) → records_of_operations (table pending rebalance) ++ e ∷ es ≡ records_of_operations (table q r) → AddsTo (table pending rebalance) e
follows_at None None e es None None fits s = absurd cc
follows_at None None e es None (Some r) fits s = adds (table None None) (Rebalance r) e (table None (Some r)) fits.0 (head_is e (rec (Rebalance r)) es [] s).0 refl
follows_at None None e es (Some q) None fits s = adds (table None None) (Pending q) e (table (Some q) None) fits.0 (head_is e (rec (Pending q)) es [] s).0 refl
follows_at None None e es (Some q) (Some r) fits s = adds (table None None) (Rebalance r) e (table None (Some r)) fits.0 (head_is e (rec (Rebalance r)) es (rec (Pending q) ∷ []) s).0 refl
follows_at None (Some p) e es None None fits s = absurd cc
follows_at None (Some p) e es None (Some r) fits s = absurd cc
follows_at None (Some p) e es (Some q) None fits s = absurd cc
follows_at None (Some p) e es (Some q) (Some r) fits s =
    adds (table None (Some p)) (Pending q) e (table (Some q) (Some p)) fits.1.0 (head_is e (rec (Pending q)) es [] (head_is (rec (Rebalance p)) (rec (Rebalance r)) (e ∷ es) (rec (Pending q) ∷ []) s).1).0 refl
follows_at (Some o) None e es None None fits s = absurd cc
follows_at (Some o) None e es None (Some r) fits s = absurd cc
follows_at (Some o) None e es (Some q) None fits s = absurd cc
follows_at (Some o) None e es (Some q) (Some r) fits s = absurd (not_both r o (sym (head_is (rec (Pending o)) (rec (Rebalance r)) (e ∷ es) (rec (Pending q) ∷ []) s).0))
follows_at (Some o) (Some p) e es None None fits s = absurd cc
follows_at (Some o) (Some p) e es None (Some r) fits s = absurd cc
follows_at (Some o) (Some p) e es (Some q) None fits s = absurd cc
follows_at (Some o) (Some p) e es (Some q) (Some r) fits s = absurd cc

-- the table of the records
abbrev read_all : List DirectoryRecord → Option Operations
read_all es = read_from (λ key. true) add_operation_record nothing_begun es

made_again : (pending : Option PendingOperation) (rebalance : Option ℕ) → IsOperationTable (table pending rebalance) → read_all (records_of_operations (table pending rebalance)) ≡ Some (table pending rebalance)
unfolding read_from
made_again None None fits = refl
made_again None (Some r) fits = rw (again (Rebalance r) fits.0) refl
made_again (Some q) None fits = rw (again (Pending q) fits.0) refl
made_again (Some q) (Some r) fits = rw (again (Rebalance r) fits.0, again (Pending q) fits.1.0) refl

same_is : (t u : Operations) → IsOperationTable t → IsOperationTable u → records_of_operations t ≡ records_of_operations u → t ≡ u
same_is t u fits_t fits_u e = some_is t u (sym (made_again t.pending t.rebalance fits_t) ∙ ap read_all e ∙ made_again u.pending u.rebalance fits_u)

is_table : tables.IsTable is_operation records_of_operations IsOperationTable add_operation_record
is_table = record {
  next = next_is;
  follows = λ t e es whole fits fits_whole s. follows_at t.pending t.rebalance e es whole.pending whole.rebalance fits_whole s;
  same = same_is;
}

pub table_found : (records : List DirectoryRecord) (read : Option Operations) → read ≡ read_from is_operation add_operation_record nothing_begun records → IfSome read (λ t. IsOperationTable t × (of_kinds is_operation records ≡ records_of_operations t))
table_found records None e = tt
table_found records (Some t) e = let f = tables.read_found is_table nothing_begun records t tt (sym e) in (f.1, f.0)

pub table_again : (records : List DirectoryRecord) (read : Option Operations) (t : Operations) → read ≡ read_from is_operation add_operation_record nothing_begun records → IsOperationTable t → of_kinds is_operation records ≡ records_of_operations t → read ≡ Some t
table_again records read t e fits same = e ∙ tables.read_again is_table nothing_begun records t tt fits same
