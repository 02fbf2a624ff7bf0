-- From records that can be read each table is made.
use Rattle.std.proofs.Common.{◌≡◌, ℕ, ◌+◌, Bool, true, false, List, [], ◌∷◌, map, Option, Some, None, refl, sym, ap, subst, ◌∙◌, arith}
use Rattle.std.specs.Prelude.{is_some}
use Rattle.std.specs.declared.cmp.Ordering.{Ordering}
use Rattle.std.specs.declared.cmp.Ordering.TheVariants.{Less, Equal, Greater}
use Rattle.std.specs.Cmp.{Equal-is}
use Rattle.std.specs.Ordering.{nat_cmp, is_lt, ordering_then}
use Rattle.std.specs.List.{AllByRecursion}
use Rattle.std.specs.List.Sorted.{IsStrictlySortedBy}
use Rattle.std.proofs.lemmas.Bool.{true≢false}
use Rattle.std.proofs.lemmas.Option.{none-some}
use Rattle.asm_group.specs.Group.{Template}
use Rattle.asm_formats.specs.Items.{Item, Key, Settings, rebalance_item, pending_item, templates_item, node_item, settings_item, item_key, is_item}
use Rattle.asm_formats.specs.Values.{decoded_item}
use Rattle.asm_formats.proofs.Bodies.{item_codec}
use Rattle.asm_base.specs.Records.{Ascend, DirectoryRecord, is_key, key_cmp, keys_of, of_kinds, record_at}
use Rattle.asm_base.specs.Tables.{IsItemTable, item_record}
use Rattle.asm_base.specs.Chunks as chunk_order
use Rattle.file_directory.specs.Files as files
use Rattle.file_directory.specs.Entries.{file_entries}
use Rattle.extent_map.specs.Extents as extents
use Rattle.extent_map.specs.Faults.{IsWithoutGap}
use Rattle.extent_map.proofs.Laws.{chunk_entries}
use Rattle.alias_tree.specs.Nodes as nodes
use Rattle.alias_tree.specs.Faults.{IsWithoutFault}
use Rattle.template_directory.specs.Tables as templates
use Rattle.staleness_directory.specs.Marks as stale
use Rattle.staleness_directory.specs.MarkEntries.{marks_entries}
use Rattle.operations_directory.specs.Operations as operations
use Rattle.operations_directory.specs.Readings.{item_of_operation}
use Rattle.operations_directory.specs.declared.reading.Operation.{Operation}
use Rattle.operations_directory.specs.declared.reading.Operation.TheVariants.{Rebalance, Pending as PendingOne}
use Rattle.disk_directory.specs.Disks as disks
use Rattle.disk_directory.specs.DiskEntries.{disk_entries}
use Rattle.catalog_tables.specs.Tables.{first_unreadable}
use Rattle.catalog_tables.specs.Faults.{settings_key, templates_key}
use Rattle.catalog_tables.specs.Readable.{AreReadable, HasNeeded}
use Rattle.catalog_tables.proofs.TableItems.{keys_exact}

-- ---- the records of some kinds

-- the record of an item of the formats, of one of the kinds
record IsRecordOf (p : Key → Bool) (e : DirectoryRecord) : Type 0 where
  item : Item
  allowed : is_item item ≡ true
  mine : p (item_key item) ≡ true
  same : e ≡ item_record item

record_of_item : (p : Key → Bool) (e : DirectoryRecord) (i : Item) → p e.0 ≡ true → decoded_item e.0 e.1 ≡ Some i → IsRecordOf p e
record_of_item p e i mine read =
    let d = item_codec.decoded e.0 e.1 i read in
    record {
      item = i;
      allowed = d.0;
      mine = ap p d.1 ∙ mine;
      same = λ j. (sym d.1 j, d.2 j);
    }

-- records of the formats are those of items
each_read : (p : Key → Bool) (content : List DirectoryRecord) → first_unreadable content ≡ None → AllByRecursion (IsRecordOf p) (of_kinds p content)
each_read p [] all = tt
each_read p (e ∷ es) all = by (decoded_item e.0 e.1) (p e.0) refl refl (each_read p es) where
  by : (o : Option Item) (b : Bool) → decoded_item e.0 e.1 ≡ o → p e.0 ≡ b → (first_unreadable es ≡ None → AllByRecursion (IsRecordOf p) (of_kinds p es)) → AllByRecursion (IsRecordOf p) (of_kinds p (e ∷ es))
  by None b read mine rest = absurd (none-some e.0 (sym (rw read at all)))
  by (Some i) true read mine rest = rw mine (record_of_item p e i mine read, rest (rw read at all))
  by (Some i) false read mine rest = rw mine (rest (rw read at all))

-- records of some kinds stay in order
kept_all : (P : Key → Type 0) (p : Key → Bool) (content : List DirectoryRecord) → AllByRecursion P (keys_of content) → AllByRecursion P (keys_of (of_kinds p content))
kept_all P p [] all = tt
kept_all P p (e ∷ es) all = by (p e.0) refl (kept_all P p es all.1) where
  by : (b : Bool) → p e.0 ≡ b → AllByRecursion P (keys_of (of_kinds p es)) → AllByRecursion P (keys_of (of_kinds p (e ∷ es)))
  by true mine rest = rw mine (all.0, rest)
  by false mine rest = rw mine rest

abbrev InOrder : List DirectoryRecord → Type 0
InOrder es = IsStrictlySortedBy key_cmp (keys_of es)

kept_order : (p : Key → Bool) (content : List DirectoryRecord) → InOrder content → InOrder (of_kinds p content)
unfolding IsStrictlySortedBy
kept_order p [] up = tt
kept_order p (e ∷ es) up = by (p e.0) refl (kept_order p es up.1) where
  by : (b : Bool) → p e.0 ≡ b → InOrder (of_kinds p es) → InOrder (of_kinds p (e ∷ es))
  by true mine rest = rw mine (kept_all (λ y. key_cmp e.0 y ≡ Less) p es up.0, rest)
  by false mine rest = rw mine rest

record AreRecordsOf (p : Key → Bool) (es : List DirectoryRecord) : Type 0 where
  each : AllByRecursion (IsRecordOf p) es
  ordered : InOrder es

records_read : (p : Key → Bool) (content : List DirectoryRecord) → AreReadable content → AreRecordsOf p (of_kinds p content)
records_read p content are = record { each = each_read p content are.all; ordered = kept_order p content are.ordered }

-- ---- the entries that they are

record HasEntries {X : Type 0} (item_of : X → Item) (es : List DirectoryRecord) : Type 0 where
  entries : List X
  same : es ≡ map (λ x. item_record (item_of x)) entries
  allowed : AllByRecursion (λ x. is_item (item_of x) ≡ true) entries

module _ {X : Type 0} (p : Key → Bool) (item_of : X → Item) (entry : (i : Item) → p (item_key i) ≡ true → (x : X) × (i ≡ item_of x)) where
  entries_of : (es : List DirectoryRecord) → AllByRecursion (IsRecordOf p) es → HasEntries item_of es
  entries_of [] each = record { entries = []; same = refl; allowed = tt }
  entries_of (e ∷ es) each = more (entry each.0.item each.0.mine) (entries_of es each.1) where
    more : (x : X) × (each.0.item ≡ item_of x) → HasEntries item_of es → HasEntries item_of (e ∷ es)
    more x rest = record {
      entries = x.0 ∷ rest.entries;
      same = λ j. (each.0.same ∙ ap item_record x.1) j ∷ rest.same j;
      allowed = (ap is_item (sym x.1) ∙ each.0.allowed, rest.allowed);
    }

-- ---- a table of items by key

then_equal : (o : Ordering) → ordering_then o Equal ≡ Less → is_lt o ≡ true
then_equal Less e = refl
then_equal Equal e = absurd cc
then_equal Greater e = absurd cc

-- the items of the kinds are the table's entries, in whose order their keys are
record IsKind {K T : Type 0} (p : Key → Bool) (is_below : K → K → Bool) (item_of : K × T → Item) : Type 0 where
  entry : (i : Item) → p (item_key i) ≡ true → (x : K × T) × (i ≡ item_of x)
  below : (x y : K × T) → key_cmp (item_key (item_of x)) (item_key (item_of y)) ≡ Less → is_below x.0 y.0 ≡ true

module _ {K T : Type 0} {p : Key → Bool} {is_below : K → K → Bool} {item_of : K × T → Item} (law : IsKind p is_below item_of) where
  abbrev record_of : K × T → DirectoryRecord
  record_of x = item_record (item_of x)

  ascends : (xs : List (K × T)) → InOrder (map record_of xs) → Ascend is_below xs
  unfolding IsStrictlySortedBy
  ascends [] up = tt
  ascends (x ∷ []) up = tt
  ascends (x ∷ y ∷ xs) up = (law.below x y up.0.0, ascends (y ∷ xs) up.1)

  table_of : (content : List DirectoryRecord) → AreReadable content → (xs : List (K × T)) × IsItemTable is_below item_of xs × (of_kinds p content ≡ map record_of xs)
  table_of content are =
      let r = records_read p content are in
      let h = entries_of p item_of law.entry (of_kinds p content) r.each in
      (h.entries, (ascends h.entries (subst InOrder h.same r.ordered), h.allowed), h.same)

  -- so such a table is read
  always : (content : List DirectoryRecord) (read : Option (List (K × T))) → AreReadable content
      → ((t : List (K × T)) → IsItemTable is_below item_of t → of_kinds p content ≡ map record_of t → read ≡ Some t) → read ≡ None → ⊥
  always content read are only none = let t = table_of content are in none-some t.0 (sym none ∙ only t.0 t.1 t.2)

-- ---- the kinds

file_kind : IsKind files.is_key_of_file files.is_lower_file files.item_of_file_head
file_kind = record { entry = file_entries.1; below = λ x y e. then_equal (nat_cmp x.0 y.0) e }

-- chunk c has the number c + 1 in its key
next_cmp : (c d : ℕ) → nat_cmp (c + 1) (d + 1) ≡ nat_cmp c d
next_cmp c d = by (nat_cmp c d) refl where
  by : (o : Ordering) → nat_cmp c d ≡ o → nat_cmp (c + 1) (d + 1) ≡ o
  by Less e = grind (arith, e)
  by Equal e = grind (arith, e)
  by Greater e = grind (arith, e)

chunk_kind : IsKind extents.is_chunk chunk_order.is_chunk_before extents.item_of_chunk
chunk_kind = record { entry = chunk_entries.1; below = below } where
  below : (x y : extents.Chunked) → key_cmp (item_key (extents.item_of_chunk x)) (item_key (extents.item_of_chunk y)) ≡ Less → chunk_order.is_chunk_before x.0 y.0 ≡ true
  below x y e = ap is_lt (ap (ordering_then (nat_cmp x.0.0 y.0.0)) (sym (next_cmp x.0.1 y.0.1)) ∙ e)

node_kind : IsKind nodes.is_key_of_node nodes.is_before nodes.item_of_node
node_kind = record { entry = entry; below = λ x y e. then_equal (nat_cmp x.0 y.0) e } where
  entry : (i : Item) → nodes.is_key_of_node (item_key i) ≡ true → (x : nodes.Numbered) × (i ≡ nodes.item_of_node x)
  entry (node_item n node) e = ((n, node), refl)
  entry _ e = absurd cc

marks_kind : IsKind stale.is_marks chunk_order.is_chunk_before stale.item_of_marks
marks_kind = record { entry = marks_entries.1; below = λ x y e. ap is_lt e }

disk_kind : IsKind disks.is_key_of_disk disks.is_lower_disk disks.item_of_disk
disk_kind = record { entry = disk_entries.1; below = λ x y e. then_equal (nat_cmp x.0 y.0) e }

-- ---- templates and settings

-- what one of the two records says
data Part : Type 0 where
  a_list : List Template → Part
  a_set : Settings → Part

part_item : Part → Item
part_item (a_list ts) = templates_item ts
part_item (a_set s) = settings_item s

a_part : (i : Item) → templates.is_key_of_templates (item_key i) ≡ true → (x : Part) × (i ≡ part_item x)
unfolding part_item
a_part (templates_item ts) e = (a_list ts, refl)
a_part (settings_item s) e = (a_set s, refl)
a_part _ e = absurd cc

-- a record that is there is among those of its kinds
kept_there : (p : Key → Bool) (content : List DirectoryRecord) (k : Key) → p k ≡ true → is_some (record_at content k) ≡ true → is_some (record_at (of_kinds p content) k) ≡ true
kept_there p [] k mine there = absurd cc
kept_there p (e ∷ es) k mine there = by (is_key k e.0) (p e.0) refl refl (kept_there p es k mine) where
  by : (a b : Bool) → is_key k e.0 ≡ a → p e.0 ≡ b → (is_some (record_at es k) ≡ true → is_some (record_at (of_kinds p es) k) ≡ true) → is_some (record_at (of_kinds p (e ∷ es)) k) ≡ true
  by true true is kind rest = rw (kind, is) refl
  by true false is kind rest = absurd (true≢false (sym mine ∙ ap p (keys_exact k e.0 ((Equal-is (key_cmp k e.0)).0 is)) ∙ kind))
  by false true is kind rest = rw (kind, is) (rest (rw is at there))
  by false false is kind rest = rw kind (rest (rw is at there))

abbrev part_record : Part → DirectoryRecord
part_record x = item_record (part_item x)

record IsBoth (es : List DirectoryRecord) : Type 0 where
  table : templates.Table
  is_table : templates.IsTemplateTable table
  same : es ≡ templates.records_of_templates table

-- where both are there, in order, there is no third
both_of : (xs : List Part) → AllByRecursion (λ x. is_item (part_item x) ≡ true) xs → InOrder (map part_record xs) → HasNeeded (map part_record xs) → IsBoth (map part_record xs)
unfolding IsStrictlySortedBy part_item
both_of [] all up has = let h : false ≡ true = has.templates in absurd cc
both_of (a_list ts ∷ []) all up has = let h : false ≡ true = has.settings in absurd cc
both_of (a_set s ∷ []) all up has = let h : false ≡ true = has.templates in absurd cc
both_of (a_list ts ∷ a_set s ∷ []) all up has = record { table = record { templates = ts; settings = s }; is_table = record { templates = all.0; settings = all.1.0 }; same = refl }
both_of (a_list ts ∷ a_list us ∷ xs) all up has = let h : Equal ≡ Less = up.0.0 in absurd cc
both_of (a_set s ∷ a_list us ∷ xs) all up has = let h : Greater ≡ Less = up.0.0 in absurd cc
both_of (a_set s ∷ a_set u ∷ xs) all up has = let h : Equal ≡ Less = up.0.0 in absurd cc
both_of (a_list ts ∷ a_set s ∷ a_list us ∷ xs) all up has = let h : Greater ≡ Less = up.1.0.0 in absurd cc
both_of (a_list ts ∷ a_set s ∷ a_set u ∷ xs) all up has = let h : Equal ≡ Less = up.1.0.0 in absurd cc

both_there : (content : List DirectoryRecord) → AreReadable content → HasNeeded content → IsBoth (of_kinds templates.is_key_of_templates content)
both_there content are has =
    let r = records_read templates.is_key_of_templates content are in
    let h = entries_of templates.is_key_of_templates part_item a_part (of_kinds templates.is_key_of_templates content) r.each in
    let there : HasNeeded (of_kinds templates.is_key_of_templates content) = record {
      templates = kept_there templates.is_key_of_templates content templates_key refl has.templates;
      settings = kept_there templates.is_key_of_templates content settings_key refl has.settings;
    } in
    subst IsBoth (sym h.same) (both_of h.entries h.allowed (subst InOrder h.same r.ordered) (subst HasNeeded h.same there))

-- ---- operations

operation_item : (i : Item) → operations.is_operation (item_key i) ≡ true → (x : Operation) × (i ≡ item_of_operation x)
operation_item (rebalance_item power) e = (Rebalance power, refl)
operation_item (pending_item op) e = (PendingOne op, refl)
operation_item _ e = absurd cc

abbrev operation_record : Operation → DirectoryRecord
operation_record x = item_record (item_of_operation x)

record AreBegun (es : List DirectoryRecord) : Type 0 where
  table : operations.Operations
  is_table : operations.IsOperationTable table
  same : es ≡ operations.records_of_operations table

-- in order there is at most one of each
begun_of : (xs : List Operation) → AllByRecursion (λ x. is_item (item_of_operation x) ≡ true) xs → InOrder (map operation_record xs) → AreBegun (map operation_record xs)
unfolding IsStrictlySortedBy
begun_of [] all up = record { table = operations.nothing_begun; is_table = tt; same = refl }
begun_of (Rebalance n ∷ []) all up = record { table = record { pending = None; rebalance = Some n }; is_table = all; same = refl }
begun_of (PendingOne p ∷ []) all up = record { table = record { pending = Some p; rebalance = None }; is_table = all; same = refl }
begun_of (Rebalance n ∷ PendingOne p ∷ []) all up = record { table = record { pending = Some p; rebalance = Some n }; is_table = all; same = refl }
begun_of (Rebalance n ∷ Rebalance m ∷ xs) all up = let h : Equal ≡ Less = up.0.0 in absurd cc
begun_of (PendingOne p ∷ Rebalance m ∷ xs) all up = let h : Greater ≡ Less = up.0.0 in absurd cc
begun_of (PendingOne p ∷ PendingOne q ∷ xs) all up = let h : Equal ≡ Less = up.0.0 in absurd cc
begun_of (Rebalance n ∷ PendingOne p ∷ Rebalance m ∷ xs) all up = let h : Greater ≡ Less = up.1.0.0 in absurd cc
begun_of (Rebalance n ∷ PendingOne p ∷ PendingOne q ∷ xs) all up = let h : Equal ≡ Less = up.1.0.0 in absurd cc

begun_in : (content : List DirectoryRecord) → AreReadable content → AreBegun (of_kinds operations.is_operation content)
begun_in content are =
    let r = records_read operations.is_operation content are in
    let h = entries_of operations.is_operation item_of_operation operation_item (of_kinds operations.is_operation content) r.each in
    subst AreBegun (sym h.same) (begun_of h.entries h.allowed (subst InOrder h.same r.ordered))

-- ---- the tables are read

pub readable_is : (content : List DirectoryRecord) → first_unreadable content ≡ None → InOrder content → AreReadable content
readable_is content all up = record { all = all; ordered = up }

pub needed_is : (content : List DirectoryRecord) → is_some (record_at content templates_key) ≡ true → is_some (record_at content settings_key) ≡ true → HasNeeded content
needed_is content first second = record { templates = first; settings = second }

pub files_read : (content : List DirectoryRecord) (read : Option (List files.NumberedFile)) → AreReadable content
    → ((t : List files.NumberedFile) → files.IsFileTable t → of_kinds files.is_key_of_file content ≡ map files.record_of_file t → read ≡ Some t) → read ≡ None → ⊥
files_read content read are only none = always file_kind content read are only none

pub stale_read : (content : List DirectoryRecord) (read : Option (List stale.Marked)) → AreReadable content
    → ((t : List stale.Marked) → stale.IsMarkTable t → of_kinds stale.is_marks content ≡ map stale.record_of_marks t → read ≡ Some t) → read ≡ None → ⊥
stale_read content read are only none = always marks_kind content read are only none

pub disks_read : (content : List DirectoryRecord) (read : Option (List disks.Disk)) → AreReadable content
    → ((t : List disks.Disk) → disks.IsDiskTable t → of_kinds disks.is_key_of_disk content ≡ map disks.record_of_disk t → read ≡ Some t) → read ≡ None → ⊥
disks_read content read are only none = always disk_kind content read are only none

pub extents_read : (content : List DirectoryRecord) (read : Option (List extents.Chunked)) → AreReadable content → IsWithoutGap content
    → ((t : List extents.Chunked) → extents.IsExtentTable t → of_kinds extents.is_chunk content ≡ map extents.record_of_chunk t → read ≡ Some t) → read ≡ None → ⊥
extents_read content read are without only none = always chunk_kind content read are (λ t fits same. only t (fits, without t fits same) same) none

pub tree_read : (content : List DirectoryRecord) (read : Option (List nodes.Numbered)) → AreReadable content → IsWithoutFault content
    → ((t : List nodes.Numbered) → nodes.IsNodeTable t → of_kinds nodes.is_key_of_node content ≡ map nodes.record_of_node t → read ≡ Some t) → read ≡ None → ⊥
tree_read content read are without only none = always node_kind content read are (λ t fits same. only t (record { items = fits; rule = without t fits same }) same) none

pub templates_read : (content : List DirectoryRecord) (read : Option templates.Table) → AreReadable content → HasNeeded content
    → ((t : templates.Table) → templates.IsTemplateTable t → of_kinds templates.is_key_of_templates content ≡ templates.records_of_templates t → read ≡ Some t) → read ≡ None → ⊥
templates_read content read are has only none = let b = both_there content are has in none-some b.table (sym none ∙ only b.table b.is_table b.same)

pub operations_read : (content : List DirectoryRecord) (read : Option operations.Operations) → AreReadable content
    → ((t : operations.Operations) → operations.IsOperationTable t → of_kinds operations.is_operation content ≡ operations.records_of_operations t → read ≡ Some t) → read ≡ None → ⊥
operations_read content read are only none = let b = begun_in content are in none-some b.table (sym none ∙ only b.table b.is_table b.same)
