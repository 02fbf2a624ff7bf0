-- The table of extents is read exactly from its records.
use Rattle.std.proofs.Common.{◌≡◌, ℕ, ◌+◌, ◌-◌, ◌<◌, Bool, true, false, cond, List, [], ◌∷◌, map, Option, Some, None, refl, sym, ap, subst, ◌∙◌, inl, inr, arith}
use Rattle.std.specs.Prelude.{Result, Ok, Err, OnOk, OnErr, IfSome, ◌/◌, ◌%◌, replicate, slice_set}
use Rattle.std.specs.Map.{lookup, set_value}
use Rattle.std.specs.List.{AllByRecursion}
use Rattle.std.specs.Option.{is_some, option_map}
use Rattle.std.proofs.lemmas.Bool.{eq-eqb, ne_eqb}
use Rattle.asm_formats.specs.Items.{Homes, Item, chunk_item, Key, is_item}
use Rattle.asm_formats.specs.Values.{decoded_item}
use Rattle.asm_base.specs.Records.{DirectoryRecord, of_kinds, read_from, Ascend, ends_below}
use Rattle.asm_base.specs.Tables.{entry_of_record}
use Rattle.asm_base.proofs.Exact.{bind_some, test_some}
use Rattle.asm_base.proofs.ItemTables.{AreEntries, IsEntry, entry_is_read, entry_taken, items_found, items_again}
use Rattle.item_table.proofs.Entries.{IsKnown, entry_laws}
use Rattle.extent_map.specs.Extents.{absent_homes, Chunked, IsNumbered, IsExtentTable, add_chunk_record, chunk_key, chunk_of_item, has_no_gap, chunk_at, is_chunk, item_of_chunk, record_of_chunk, with_chunk, with_extent, without_gap}
use Rattle.asm_base.specs.Chunks.{chunk_cmp, is_chunk_before}
pub use Rattle.asm_base.proofs.Chunks.{chunk_total, same_chunk}
use Rattle.extent_map.proofs.Values.{chunk_numbered}

-- ---- chunks and their records

each_item : (i : Item) → IsKnown is_chunk item_of_chunk chunk_of_item i
each_item (chunk_item f c homes) = inl (((f, c), homes), refl)
each_item _ = inr (refl, refl)

pub chunk_entries : IsEntry item_of_chunk chunk_of_item × AreEntries is_chunk item_of_chunk
chunk_entries = entry_laws is_chunk item_of_chunk chunk_of_item each_item (λ x. refl)

-- ---- one record more

pub key_is : (n f b : ℕ) (k : Key) → n ≡ 1 → 0 < b → ◌≡◌ {A = Key} (record { kind = n; a = f; b = b }) k → chunk_key f (b - 1) ≡ k
key_is n f b k kind some view =
    let next : b - 1 + 1 ≡ b = omega (arith, some) in
    ap (λ (m : ℕ). record { kind = 1; a = f; b = m }) next ∙ ap (λ (m : ℕ). record { kind = m; a = f; b = b }) (sym kind) ∙ view

pub mine : (f c : ℕ) (k : Key) → chunk_key f c ≡ k → is_chunk k ≡ true
mine f c k at =
    let kind : k.kind ≡ 1 = sym (ap (λ (j : Key). j.kind) at) in
    let next : c + 1 ≡ k.b = ap (λ (j : Key). j.b) at in
    rw (eq-eqb k.kind 1 kind, ne_eqb k.b 0 (λ e. omega (arith, next, e))) refl

pub entry_read : (k : Key) (f c : ℕ) → chunk_key f c ≡ k → (v bytes : List ℕ) (read : Option (List Homes)) → bytes ≡ v → option_map (chunk_item f c) read ≡ decoded_item (chunk_key f c) bytes
    → entry_of_record chunk_of_item (k, v) ≡ option_map (λ homes. ((f, c), homes)) read
entry_read k f c at v bytes read is e =
    entry_is_read chunk_entries.0 (chunk_item f c) (λ homes. ((f, c), homes)) (λ homes. refl) (k, v) read (e ∙ ap (decoded_item (chunk_key f c)) is ∙ ap (λ (j : Key). decoded_item j v) at)

pub taken_step : (items new : List Chunked) (k : Key) (f c : ℕ) → chunk_key f c ≡ k → (v bytes : List ℕ) (homes : List Homes) → bytes ≡ v → Ascend is_chunk_before items
    → option_map (chunk_item f c) (Some homes) ≡ decoded_item (chunk_key f c) bytes → ends_below is_chunk_before items (f, c) ≡ true → new ≡ with_chunk items (f, c) homes
    → (cond (is_chunk k) (add_chunk_record items (k, v)) (Some items) ≡ Some new) × Ascend is_chunk_before new
taken_step items new k f c at v bytes homes is up read ends put =
    let t = entry_taken chunk_entries.0 chunk_cmp chunk_total items new (k, v) ((f, c), homes) up (entry_read k f c at v bytes (Some homes) is read) ends put in
    (rw (mine f c k at) t.0, t.1)

pub not_chunk : (items : List Chunked) (k : Key) (f c : ℕ) → chunk_key f c ≡ k → (v bytes : List ℕ) → bytes ≡ v → option_map (chunk_item f c) None ≡ decoded_item (chunk_key f c) bytes
    → cond (is_chunk k) (add_chunk_record items (k, v)) (Some items) ≡ None
not_chunk items k f c at v bytes is read = rw (mine f c k at, entry_read k f c at v bytes None is read) refl

pub not_behind : (items : List Chunked) (k : Key) (f c : ℕ) → chunk_key f c ≡ k → (v bytes : List ℕ) (homes : List Homes) → bytes ≡ v → option_map (chunk_item f c) (Some homes) ≡ decoded_item (chunk_key f c) bytes
    → ends_below is_chunk_before items (f, c) ≡ false → cond (is_chunk k) (add_chunk_record items (k, v)) (Some items) ≡ None
not_behind items k f c at v bytes homes is read ends = rw (mine f c k at, entry_read k f c at v bytes (Some homes) is read, ends) refl

-- ---- the table

pub table_found : (records : List DirectoryRecord) (read : Option (List Chunked)) → read ≡ without_gap (read_from is_chunk add_chunk_record [] records) → IfSome read (λ t. IsExtentTable t × (of_kinds is_chunk records ≡ map record_of_chunk t))
table_found records None e = tt
table_found records (Some t) e =
    let b = bind_some (λ (u : List Chunked). cond (has_no_gap None u) (Some u) None) (read_from is_chunk add_chunk_record [] records) t (sym e) in
    let g = test_some (has_no_gap None b.0) b.0 t b.2 in
    let f = items_found chunk_entries.0 is_chunk is_chunk_before records (Some b.0) (sym b.1) in
    subst (λ (u : List Chunked). IsExtentTable u × (of_kinds is_chunk records ≡ map record_of_chunk u)) g.1 ((f.0, g.0), f.1)

pub table_again : (records : List DirectoryRecord) (read : Option (List Chunked)) (t : List Chunked) → read ≡ without_gap (read_from is_chunk add_chunk_record [] records) → IsExtentTable t → of_kinds is_chunk records ≡ map record_of_chunk t → read ≡ Some t
table_again records read t e fits same =
    let all = items_again chunk_entries.0 is_chunk is_chunk_before records (read_from is_chunk add_chunk_record [] records) t refl fits.0 same in
    e ∙ rw (all, fits.1) refl

-- each chunk of a table has a number with room in its key
pub all_numbered : (t : List Chunked) → AllByRecursion (λ x. is_item (item_of_chunk x) ≡ true) t → AllByRecursion IsNumbered t
all_numbered [] all = tt
all_numbered (x ∷ t) all = (chunk_numbered x.0.0 x.0.1 x.1 all.0, all_numbered t all.1)

pub table_numbered : (t : List Chunked) → IsExtentTable t → AllByRecursion IsNumbered t
table_numbered t fits = all_numbered t fits.0.1

-- what isn't there isn't set
pub nothing_set : {K X : Type 0} (test : K → Bool) (es : List (K × X)) (w : X) → lookup test es ≡ None → set_value test es w ≡ es
nothing_set test [] w none = refl
nothing_set {K} {X} test (e ∷ es) w none = found_or (test e.0) refl none (λ missed. nothing_set test es w missed) where
  found_or : (b : Bool) → test e.0 ≡ b → cond b (Some e.1) (lookup test es) ≡ None → (lookup test es ≡ None → set_value test es w ≡ es) → set_value test (e ∷ es) w ≡ e ∷ es
  found_or true q none more = absurd cc
  found_or false q none more = rw q (ap (λ (r : List (K × X)). e ∷ r) (more none))

pub new_extent : (t s : List Chunked) (f i : ℕ) (homes : Homes) → s ≡ t → false ≡ is_some (chunk_at t (f, i / 256)) → with_chunk s (f, i / 256) (slice_set (replicate 256 absent_homes) (i % 256) homes) ≡ with_extent t f i homes
new_extent t s f i homes is none = rw (is, ← none) refl

-- a table stays one, whether there was memory or not
pub put_keeps_table : {E : Type 0} (r : Result (Unit {0}) E) (old new w : List Chunked) → OnOk r (new ≡ w) → OnErr r (new ≡ old) → IsExtentTable w → IsExtentTable old → IsExtentTable new
put_keeps_table (Ok u) old new w ok err fits before = subst IsExtentTable (sym ok) fits
put_keeps_table (Err e) old new w ok err fits before = subst IsExtentTable (sym err) before
