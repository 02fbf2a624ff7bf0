-- Plans of another size of a file.
use Rattle.std.proofs.Common.{◌≡◌, ◌<◌, ◌≤◌, ◌+◌, ◌^◌, ℕ, Bool, true, cond, ltb, List, [], ◌∷◌, length, Option, Some, None, refl, sym, ap, subst, ◌∙◌, arith, inl, inr}
use Rattle.std.specs.Prelude.{◌||◌, IsTrue, is_some}
use Rattle.std.specs.List.{AllByRecursion}
use Rattle.std.specs.Ordering.{nat_cmp}
use Rattle.std.specs.BTreeMap.{is_at}
use Rattle.std.proofs.lemmas.Bool.{and_parts, lt-ltb, ltb-false, ltb-true}
use Rattle.asm_group.specs.Names.{is_part}
use Rattle.asm_group.specs.Shape.{Shape}
use Rattle.asm_group.specs.declared.NodeKind.{NodeKind}
use Rattle.asm_group.specs.declared.NodeKind.TheVariants.{Directory, System, Alias}
use Rattle.asm_group.specs.declared.PendingKind.TheVariants.{Shrink}
use Rattle.asm_formats.specs.Among.{IsAmong}
use Rattle.asm_formats.specs.Items.{FileHead, Key, Pending, file_item, is_item, is_redundancy, pending_item}
use Rattle.asm_formats.specs.Values.{value}
use Rattle.asm_base.specs.Records.{DirectoryRecord, is_key}
use Rattle.asm_base.specs.Tables.{item_record}
use Rattle.asm_placement.specs.Layout.{first_of_set, start}
use Rattle.plan_records.specs.page_map.Changes.{value_after}
use Rattle.plan_records.specs.file_directory.Files.{NumberedFile, IsFileTable, head_at, record_of_file, with_head}
use Rattle.plan_records.proofs.file_directory.Laws.{put_keeps_table}
use Rattle.plan_records.specs.extent_map.Extents.{Chunked}
use Rattle.plan_records.specs.alias_tree.Nodes.{Numbered}
use Rattle.plan_records.specs.operations_directory.Operations as operations
use Rattle.plan_records.proofs.operations_directory.ChangeLaws as operation_laws
use Rattle.plan_records.specs.catalog_tables.Changing.{Sets}
use Rattle.plan_records.specs.catalog_tables.Faults.{IsCatalog, file_key}
use Rattle.plan_records.specs.Heads.{with_size}
use Rattle.plan_records.specs.Operations.{HasSoMany}
use Rattle.catalog.specs.FilePlans.{IsSizePlan, MayGrow, is_on_file, tables_with_size}
use Rattle.catalog.specs.Plans.{AreOwned, IsPlan}
use Rattle.asm_placement.specs.Naming.{is_kind_directory, is_pending, names_back}
use Rattle.plan_records.specs.catalog_tables.Rules.{HasExtents, KeepsRules, are_within_head, blocks_used, first_wrong, has_names, head_has_extent, is_named_back, is_owned, keeps_copies}
use Rattle.plan_records.specs.catalog_tables.Tables.{AreTables, Catalogued, Tables, records_of}
use Rattle.plan_records.proofs.catalog_tables.NumberedLists.{all_there, either, number_is, put_at, there_as_long}
use Rattle.catalog.proofs.NumberedEntries.{found_passes, passes_where, put_all, put_passes}
use Rattle.catalog.proofs.Owners.{of_file}
use Rattle.catalog.proofs.PlanLaws.{or_false, pending_key}
use Rattle.plan_records.proofs.catalog_tables.SetLaws.{operations_set}
use Rattle.catalog.proofs.TreePlans.{head_put}
use Rattle.plan_records.proofs.catalog_tables.NewRecords.{HasRoom, head_there, old_room, two_old_room}
use Rattle.catalog.proofs.PutItems.{is_once, plan_is}

-- ---- the head

-- a head of another size is one of the formats
sized_item : (f : ℕ) (head : FileHead) (size : ℕ) → size < 2 ^ 64 → is_item (file_item f head) ≡ true → is_item (file_item f (with_size head size)) ≡ true
unfolding is_item
sized_item f head size less ok =
    let a = and_parts (ltb f (2 ^ 32)) _ ok in
    let b = and_parts (is_redundancy head.copies) _ a.1 in
    let d = and_parts (is_part 30 head.type_name) _ b.1 in
    let e = and_parts (ltb head.size (2 ^ 64)) _ d.1 in
    let fits : ltb size (2 ^ 64) ≡ true = lt-ltb size (2 ^ 64) less in
    rw (a.0, b.0, d.0, fits) e.1

item_of_head : (files : List NumberedFile) (f : ℕ) (head : FileHead) → IsFileTable files → head_at files f ≡ Some head → is_item (file_item f head) ≡ true
item_of_head files f head t there = all_there (λ x. IsTrue (is_item (file_item x.0 x.1))) files t.1 f head there

-- the head of another size is one of the formats
pub sized_allowed : (c : Catalogued) (f : ℕ) (head new : FileHead) (size : ℕ) → IsCatalog c → head_at c.tables.files f ≡ Some head → size < 2 ^ 64 → new ≡ with_size head size → is_item (file_item f new) ≡ true
sized_allowed c f head new size is there less same = rw same (sized_item f head size less (item_of_head c.tables.files f head is.rules.tables.files there))

-- a file has at each smaller size no more extents
due_before : (s : Shape) (head : FileHead) (size i : ℕ) → size ≤ head.size → head_has_extent s (with_size head size) i ≡ true → head_has_extent s head i ≡ true
due_before s head size i le due = lt-ltb (start s.au s.step (first_of_set head.stripe i)) head.size (let less = ltb-true (start s.au s.step (first_of_set head.stripe i)) size due in omega (arith, less, le))

-- ---- the rules

module _ (s : Shape) (t : Tables) (f : ℕ) (head : FileHead) (size : ℕ) (pending : Option Pending) (r : KeepsRules s t) (there : head_at t.files f ≡ Some head) where
  abbrev u : Tables
  u = tables_with_size t f head size pending

  -- what is asked of a head, but its size, is as before
  same_head : {A : Type 0} (g : Option FileHead → A) → g (Some (with_size head size)) ≡ g (Some head) → (n : ℕ) → g (head_at u.files n) ≡ g (head_at t.files n)
  same_head {A} g same n = elim (either (is_at (nat_cmp f) n)) [
    | inl hit ↦
        let new : head_at u.files n ≡ Some (with_size head size) = put_at f (with_size head size) t.files n ∙ rw hit refl in
        ap g new ∙ (same ∙ ap g (sym there ∙ ap (λ (m : ℕ). head_at t.files m) (number_is f n hit)))
    | inr miss ↦
        let old : head_at u.files n ≡ head_at t.files n = put_at f (with_size head size) t.files n ∙ rw miss refl in
        ap g old
  ]

  copies_kept : first_wrong (keeps_copies u) t.extents ≡ None
  copies_kept = passes_where (keeps_copies t) (keeps_copies u) t.extents (λ x m ok. same_head (λ h. are_within_head h x.1) refl x.0.0 ∙ ok) r.redundancy

  names_back_same : (kind : NodeKind) (n : ℕ) → names_back kind n (Some (with_size head size)) ≡ names_back kind n (Some head)
  names_back_same Directory n = refl
  names_back_same System n = refl
  names_back_same Alias n = refl

  nodes_kept : first_wrong (is_named_back u) t.nodes ≡ None
  nodes_kept = passes_where (is_named_back t) (is_named_back u) t.nodes (λ x m ok. same_back x ∙ ok) r.nodes where
    same_back : (x : Numbered) → is_named_back u x ≡ is_named_back t x
    same_back x = ap (λ (b : Bool). is_kind_directory x.1.kind || b) (same_head (names_back x.1.kind x.0) (names_back_same x.1.kind x.0) x.1.file)

  names_kept : first_wrong (has_names u) u.files ≡ None
  names_kept = put_passes (has_names u) t.files f (with_size head size) r.names (found_passes (has_names t) t.files f head r.names there)

  extents_kept : MayGrow s t f size → AllByRecursion (HasExtents u s) u.files
  extents_kept may = put_all (HasExtents u s) t.files f (with_size head size) r.extents (elim (either (ltb head.size size)) [
    | inl grows ↦ may head there (ltb-true head.size size grows)
    | inr not ↦ λ i due. all_there (HasExtents t s) t.files r.extents f head there i (due_before s head size i (ltb-false head.size size not) due)
  ])

  room_kept : blocks_used u + 2 ≤ s.dir_blocks
  room_kept = let same = there_as_long f (with_size head size) head t.files r.tables.files.0 there in omega (arith, same, r.room)

  files_kept : size < 2 ^ 64 → IsFileTable u.files
  files_kept less = put_keeps_table t.files f (with_size head size) (sized_item f head size less (item_of_head t.files f head r.tables.files there)) r.tables.files

  tables_kept : size < 2 ^ 64 → operations.IsOperationTable u.operations → AreTables u
  tables_kept less is = record { files = files_kept less; extents = r.tables.extents; nodes = r.tables.nodes; templates = r.tables.templates; stale = r.tables.stale; operations = is; disks = r.tables.disks }

  rules_kept : size < 2 ^ 64 → operations.IsOperationTable u.operations → MayGrow s t f size → AreOwned u → KeepsRules s u
  rules_kept less is may owned = record {
    tables = tables_kept less is;
    marked = r.marked;
    chunks = r.chunks;
    owned = owned;
    redundancy = copies_kept;
    apart = r.apart;
    stale = r.stale;
    nodes = nodes_kept;
    names = names_kept;
    extents = extents_kept may;
    room = room_kept;
  }

  owned_then : is_on_file t.files t.operations.pending ≡ true → AreOwned u
  owned_then on = passes_where (is_owned t) (is_owned u) t.extents keeps r.owned where
    keeps : (x : Chunked) → IsAmong t.extents x → is_owned t x ≡ true → is_owned u x ≡ true
    keeps x m ok = ap (λ (b : Bool). b || is_pending x.0.0 pending) (same_head (λ o. is_some o) refl x.0.0 ∙ of_file t.files t.operations.pending x.0.0 on ok)

  -- ---- the records

  abbrev head_only : Tables
  head_only = record t { files = with_head t.files f (with_size head size) }

  abbrev head_value : List ℕ
  head_value = value (file_item f (with_size head size))

  head_set : Sets t head_only (file_key f) (Some head_value)
  head_set = head_put t f (with_size head size)

-- ---- the three plans

module _ (c : Catalogued) (f : ℕ) (head : FileHead) (size : ℕ) (put : List DirectoryRecord) (gone : List Key) (is : IsCatalog c) (there : head_at c.tables.files f ≡ Some head) (less : size < 2 ^ 64) (may : MayGrow c.shape c.tables f size) where
  abbrev old : operations.Operations
  old = c.tables.operations

  abbrev entry : DirectoryRecord
  entry = record_of_file (f, with_size head size)

  abbrev to : Option Pending → Tables
  to pending = tables_with_size c.tables f head size pending

  plan_of : (pending : Option Pending) → operations.IsOperationTable (record old { pending = pending }) → ((k : Key) → records_of (to pending) k ≡ value_after put gone k (records_of c.tables k)) → length put + length gone ≤ 64 → is_once put gone ≡ true → HasRoom c put
      → AreOwned (to pending) → IsPlan c put gone (to pending)
  plan_of pending table after few once room owned =
      plan_is c put gone (to pending) (record { tables = tables_kept c.shape c.tables f head size pending is.rules there less table; records = after })
      (rules_kept c.shape c.tables f head size pending is.rules there less table may owned) (λ es has. (c.units, has)) few once room

  head_room : HasRoom c (entry ∷ [])
  head_room = old_room c entry is (head_there c.tables f head there)

  grown_after : put ≡ entry ∷ [] → gone ≡ pending_key ∷ [] → (k : Key) → records_of (to None) k ≡ value_after put gone k (records_of c.tables k)
  grown_after p g k = rw (p, g) (
      operations_set (head_only c.shape c.tables f head size None is.rules there) (record old { pending = None }) pending_key None refl (operation_laws.pending_gone old (record old { pending = None }) pending_key refl refl refl refl) k
      ∙ (ap (λ (o : Option (List ℕ)). cond (is_key pending_key k) None o) (head_set c.shape c.tables f head size None is.rules there k)
      ∙ ap (λ (b : Bool). cond b None (cond (is_key (file_key f) k) (Some (value (file_item f (with_size head size)))) (records_of c.tables k))) (or_false (is_key pending_key k))))

  pub grown : put ≡ entry ∷ [] → gone ≡ pending_key ∷ [] → head.size < size → IsSizePlan c f size put gone
  grown p g more = record {
    head = head;
    file = there;
    pending = None;
    operation = record { grown = λ e. refl; shrunk = λ e. absurd (omega arith); as_long = λ e. absurd (omega arith) };
    plan = plan_of None (operation_laws.no_pending old (record old { pending = None }) refl is.rules.tables.operations) (grown_after p g) (rw (p, g) (omega arith)) (rw (p, g) refl) (rw p head_room);
    owned = owned_then c.shape c.tables f head size None is.rules there;
  }

  shrunk_after : (op : Pending) → put ≡ entry ∷ item_record (pending_item op) ∷ [] → gone ≡ [] → (k : Key) → records_of (to (Some op)) k ≡ value_after put gone k (records_of c.tables k)
  shrunk_after op p g k = rw (p, g) (
      operations_set (head_only c.shape c.tables f head size None is.rules there) (record old { pending = Some op }) pending_key (Some (value (pending_item op))) refl (operation_laws.operation_set old op) k
      ∙ ap (λ (o : Option (List ℕ)). cond (is_key pending_key k) (Some (value (pending_item op))) o) (head_set c.shape c.tables f head size None is.rules there k))

  pub shrunk : (op : Pending) (s : Shape) (new : FileHead) (first second : DirectoryRecord) → put ≡ first ∷ second ∷ [] → gone ≡ [] → first ≡ record_of_file (f, new) → second ≡ item_record (pending_item op) → new ≡ with_size head size → s ≡ c.shape
      → size < head.size → is_item (pending_item op) ≡ true → op.kind ≡ Shrink → op.file ≡ f → HasSoMany s new op.kept → IsSizePlan c f size put gone
  shrunk op s new first second p g a b is_new is_shape fewer ok kind file kept = record {
    head = head;
    file = there;
    pending = Some op;
    operation = record { grown = λ e. absurd (omega arith); shrunk = λ e. (op.kept, ap (λ (o : Pending). Some o) same, kept_then); as_long = λ e. absurd (omega arith) };
    plan = plan_of (Some op) (operation_laws.operation_allowed old op ok is.rules.tables.operations) (shrunk_after op records g) (rw (records, g) (omega arith)) (rw (records, g) refl) (rw records (two_old_room c entry (item_record (pending_item op)) is (head_there c.tables f head there) refl));
    owned = owned_then c.shape c.tables f head size (Some op) is.rules there;
  } where
    same : op ≡ record { kind = Shrink; file = f; kept = op.kept }
    same = λ i. record { kind = kind i; file = file i; kept = op.kept }

    records : put ≡ entry ∷ item_record (pending_item op) ∷ []
    records = p ∙ (λ i. (a ∙ ap (λ (h : FileHead). record_of_file (f, h)) is_new) i ∷ b i ∷ [])

    kept_then : HasSoMany c.shape (with_size head size) op.kept
    kept_then = subst (λ (z : Shape). HasSoMany z (with_size head size) op.kept) is_shape (subst (λ (h : FileHead). HasSoMany s h op.kept) is_new kept)

  pub as_long : put ≡ entry ∷ [] → gone ≡ [] → size ≡ head.size → IsSizePlan c f size put gone
  as_long p g long = record {
    head = head;
    file = there;
    pending = old.pending;
    operation = record { grown = λ e. absurd (omega arith); shrunk = λ e. absurd (omega arith); as_long = λ e. refl };
    plan = plan_of old.pending is.rules.tables.operations (λ k. rw (p, g) (head_set c.shape c.tables f head size old.pending is.rules there k)) (rw (p, g) (omega arith)) (rw (p, g) refl) (rw p head_room);
    owned = owned_then c.shape c.tables f head size old.pending is.rules there;
  }
