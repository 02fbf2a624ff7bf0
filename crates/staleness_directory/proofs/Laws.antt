-- The marks of a chunk are read from their one spelling alone.
use Rattle.std.proofs.Common.{◌≡◌, ℕ, ◌^◌, ◌<◌, ◌+◌, Bool, true, cond, eqb, ltb, List, [], length, map, Option, Some, None, refl, sym, ap, subst, ◌∙◌}
use Rattle.std.specs.Prelude.{IfSome, ◌&&◌}
use Rattle.std.specs.Option.{option_map}
use Rattle.std.proofs.lemmas.Bool.{and_parts, eq-eqb, eqb-true, lt-ltb}
use Rattle.asm_formats.specs.Items.{Item, marks_item, Key, item_key, is_item}
use Rattle.asm_formats.specs.Values.{value, decoded_item}
use Rattle.asm_base.specs.Chunks.{Chunk, chunk_cmp}
use Rattle.asm_base.specs.Records.{DirectoryRecord, of_kinds, read_from}
use Rattle.asm_base.specs.Tables.{entry_of_record}
use Rattle.asm_base.proofs.Chunks.{chunk_total, same_chunk}
use Rattle.asm_base.proofs.Exact.{test_some}
use Rattle.asm_base.proofs.ItemTables.{item_is_decoded, entry_is_read}
use Rattle.item_table.proofs.Laws as tables
use Rattle.staleness_directory.specs.MarkEntries.{marks_entries}
use Rattle.staleness_directory.specs.Marks.{Marked, marks_chunk_key, with_marks, without_marks, item_of_marks, record_of_marks, is_marks, marks_of_item, IsMarkTable, add_record, are_marks, read_marks}

-- ---- marks and their records

abbrev passes : ℕ → List ℕ → Bool
passes c bytes = ltb (c + 1) (2 ^ 32) && (eqb (length bytes) 256 && are_marks bytes)

is_marks_item : (f c : ℕ) (bytes : List ℕ) → f < 2 ^ 32 → passes c bytes ≡ true → is_item (marks_item f c bytes) ≡ true
unfolding is_item
is_marks_item f c bytes file pass = rw (lt-ltb f (2 ^ 32) file) pass

pub marks_allowed : (f c : ℕ) (marks : List ℕ) → f < 2 ^ 32 → length marks ≡ 256 → is_item (marks_item f c marks) ≡ (ltb (c + 1) (2 ^ 32) && are_marks marks)
unfolding is_item
marks_allowed f c marks file size = rw (lt-ltb f (2 ^ 32) file, eq-eqb (length marks) 256 size) refl

passes_of : (f c : ℕ) (marks : List ℕ) → is_item (marks_item f c marks) ≡ true → passes c marks ≡ true
unfolding is_item
passes_of f c marks ok = (and_parts (ltb f (2 ^ 32)) (passes c marks) ok).1

marks_value : (f c : ℕ) (marks : List ℕ) → value (marks_item f c marks) ≡ marks
unfolding value
marks_value f c marks = refl

made : (f c : ℕ) (o : Option (List ℕ)) (i : Item) → option_map (marks_item f c) o ≡ Some i → (x : List ℕ) × (o ≡ Some x) × (marks_item f c x ≡ i)
made f c (Some x) i e = (x, refl, cc)
made f c None i e = absurd cc

abbrev read_item : ℕ → ℕ → List ℕ → Option Item
read_item f c bytes = option_map (marks_item f c) (cond (passes c bytes) (Some bytes) None)

item_found : (f c : ℕ) (bytes : List ℕ) → f < 2 ^ 32 → (i : Item) → read_item f c bytes ≡ Some i → (is_item i ≡ true) × (item_key i ≡ marks_chunk_key f c) × (bytes ≡ value i)
item_found f c bytes file i e =
    let m = made f c (cond (passes c bytes) (Some bytes) None) i e in
    let t = test_some (passes c bytes) bytes m.0 m.1 in
    let ok : (is_item (marks_item f c bytes) ≡ true) × (item_key (marks_item f c bytes) ≡ marks_chunk_key f c) × (bytes ≡ value (marks_item f c bytes)) = (is_marks_item f c bytes file t.0, refl, sym (marks_value f c bytes)) in
    subst (λ (j : Item). (is_item j ≡ true) × (item_key j ≡ marks_chunk_key f c) × (bytes ≡ value j)) (ap (marks_item f c) t.1 ∙ m.2) ok

marks_only : (f c : ℕ) (bytes : List ℕ) (x : Marked) → is_item (item_of_marks x) ≡ true → item_key (item_of_marks x) ≡ marks_chunk_key f c → bytes ≡ value (item_of_marks x) → read_item f c bytes ≡ Some (item_of_marks x)
marks_only f c bytes ((g, d), marks) ok at e =
    let same : bytes ≡ marks = e ∙ marks_value g d marks in
    let chunk : d ≡ c = ap (λ (k : Key). k.b) at in
    let pass : passes c bytes ≡ true = ap (λ (n : ℕ). passes n bytes) (sym chunk) ∙ ap (passes d) same ∙ passes_of g d marks ok in
    rw pass (ap (λ (m : List ℕ). Some (marks_item f c m)) same ∙ ap (λ (k : Key). Some (marks_item k.a k.b marks)) (sym at))

-- an item of a chunk's key is that of its marks
item_only : (f c : ℕ) (bytes : List ℕ) (i : Item) → is_item i ≡ true → item_key i ≡ marks_chunk_key f c → bytes ≡ value i → read_item f c bytes ≡ Some i
item_only f c bytes i ok at e =
    let x = marks_entries.1 i (ap is_marks at) in
    subst (λ (j : Item). is_item j ≡ true → item_key j ≡ marks_chunk_key f c → bytes ≡ value j → read_item f c bytes ≡ Some j) (sym x.1) (marks_only f c bytes x.0) ok at e

value_is_read : (f c : ℕ) (bytes : List ℕ) → f < 2 ^ 32 → option_map (marks_item f c) (read_marks c bytes) ≡ decoded_item (marks_chunk_key f c) bytes
unfolding read_marks
value_is_read f c bytes file = item_is_decoded (marks_chunk_key f c) bytes (read_item f c bytes) (item_found f c bytes file) (item_only f c bytes)

-- the marks of a record of their kind are read from its value
pub marks_are_read : (k : Key) (bytes : List ℕ) → k.a < 2 ^ 32 → is_marks k ≡ true → entry_of_record marks_of_item (k, bytes) ≡ option_map (λ marks. ((k.a, k.b), marks)) (read_marks k.b bytes)
marks_are_read k bytes file mine =
    let same : marks_chunk_key k.a k.b ≡ k = λ i. record { kind = sym (eqb-true k.kind 12 mine) i; a = k.a; b = k.b } in
    entry_is_read marks_entries.0 (marks_item k.a k.b) (λ marks. ((k.a, k.b), marks)) (λ marks. refl) (k, bytes) (read_marks k.b bytes) (value_is_read k.a k.b bytes file ∙ ap (λ (j : Key). decoded_item j bytes) same)

-- ---- the table

pub table_found : (records : List DirectoryRecord) (read : Option (List Marked)) → read ≡ read_from is_marks (add_record chunk_cmp marks_of_item) [] records → IfSome read (λ t. IsMarkTable t × (of_kinds is_marks records ≡ map record_of_marks t))
table_found records read e = tables.table_found marks_entries.0 is_marks chunk_cmp records read e

pub table_again : (records : List DirectoryRecord) (read : Option (List Marked)) (t : List Marked) → read ≡ read_from is_marks (add_record chunk_cmp marks_of_item) [] records → IsMarkTable t → of_kinds is_marks records ≡ map record_of_marks t → read ≡ Some t
table_again records read t e fits same = tables.table_again marks_entries.0 is_marks chunk_cmp records read t e fits same

pub put_keeps_table : (t : List Marked) (chunk : Chunk) (marks : List ℕ) → is_item (item_of_marks (chunk, marks)) ≡ true → IsMarkTable t → IsMarkTable (with_marks t chunk marks)
put_keeps_table t chunk marks ok fits = tables.put_keeps_table chunk_total same_chunk item_of_marks t chunk marks ok fits

pub removed_keeps_table : (t : List Marked) (chunk : Chunk) → IsMarkTable t → IsMarkTable (without_marks t chunk)
removed_keeps_table t chunk fits = tables.remove_keeps_table chunk_total item_of_marks t chunk fits
