-- Where a record is at fault, there is no catalog of the records.
use Rattle.std.proofs.Common.{◌≡◌, ℕ, Bool, true, false, List, [], ◌∷◌, Option, Some, None, refl, sym, ap, subst, ◌∙◌, arith, inl, inr}
use Rattle.std.specs.Prelude.{not, find}
use Rattle.std.specs.List.{AllByRecursion, list_all}
use Rattle.std.specs.Ordering.{nat_cmp}
use Rattle.std.proofs.lemmas.Bool.{and_parts, true≢false}
use Rattle.std.proofs.lemmas.Option.{none-some}
use Rattle.asm_group.specs.Shape.{Shape}
use Rattle.asm_formats.specs.Among.{IsAmong}
use Rattle.asm_formats.specs.Items.{Key}
use Rattle.asm_formats.specs.Status as status
use Rattle.catalog.specs.asm_base.Records.{DirectoryRecord, add_item, of_kinds, read_from, record_at, is_key}
use Rattle.catalog.specs.asm_base.Tables.{entry_of_record}
use Rattle.catalog.proofs.asm_base.Exact.{some_is}
use Rattle.catalog.proofs.asm_base.ItemTables.{items_again}
use Rattle.catalog.specs.asm_base.Chunks as chunk_order
use Rattle.catalog.specs.allocator.UnitMaps.{UnitMap}
use Rattle.catalog.specs.file_directory.Files as files
use Rattle.catalog.proofs.file_directory.Laws as file_laws
use Rattle.catalog.specs.extent_map.Extents as extents
use Rattle.catalog.specs.extent_map.Faults.{HasGap, gap_from}
use Rattle.catalog.proofs.extent_map.Laws as extent_laws
use Rattle.catalog.specs.alias_tree.Nodes as nodes
use Rattle.catalog.specs.alias_tree.Faults.{HasFault}
use Rattle.catalog.proofs.alias_tree.Rules as node_laws
use Rattle.catalog.specs.template_directory.Tables as templates
use Rattle.catalog.proofs.template_directory.ReadingLaws as template_laws
use Rattle.catalog.specs.staleness_directory.Marks as stale
use Rattle.catalog.proofs.staleness_directory.Laws as stale_laws
use Rattle.catalog.specs.operations_directory.Operations as operations
use Rattle.catalog.specs.operations_directory.Readings as operation_readings
use Rattle.catalog.proofs.operations_directory.Laws as operation_laws
use Rattle.catalog.specs.disk_directory.Disks as disks
use Rattle.catalog.proofs.disk_directory.DiskLaws as disk_laws
use Rattle.catalog.specs.catalog_tables.Tables.{AreTables, Catalogued, HasRecords, Tables}
use Rattle.catalog.specs.catalog_tables.Rules.{AreOnRegular, HasExtents, KeepsRules, first_unknown}
use Rattle.catalog.specs.catalog_tables.Placing.{HasUnits, unused_maps}
use Rattle.catalog.proofs.catalog_tables.PlacingLaws.{misplaced_none}
use Rattle.catalog.specs.catalog_tables.Faults.{BreaksRule, IsAtFault, IsCatalogOf, IsNeeded, settings_key, templates_key}
use Rattle.catalog.specs.catalog_tables.Faults as fault

same_of : {X : Type 0} (r : Option X) (t u : X) → r ≡ Some t → r ≡ Some u → t ≡ u
same_of r t u e f = some_is t u (sym e ∙ f)

-- the tables of some records are the only ones
same_tables : (content : List DirectoryRecord) (t u : Tables) → AreTables t → HasRecords content t → AreTables u → HasRecords content u → t ≡ u
same_tables content t u a h b g = λ i. record {
  files = same_of (read_from files.is_key_of_file (files.add_record nat_cmp files.file_of_item) [] content) t.files u.files (file_laws.table_again content _ t.files refl a.files h.files) (file_laws.table_again content _ u.files refl b.files g.files) i;
  extents = same_of (extents.without_gap (read_from extents.is_chunk extents.add_chunk_record [] content)) t.extents u.extents (extent_laws.table_again content _ t.extents refl a.extents h.extents) (extent_laws.table_again content _ u.extents refl b.extents g.extents) i;
  nodes = same_of (read_from nodes.is_key_of_node (add_item nodes.is_before (entry_of_record nodes.node_of_item)) [] content) t.nodes u.nodes (node_laws.nodes_again content _ refl t.nodes a.nodes.items h.nodes) (node_laws.nodes_again content _ refl u.nodes b.nodes.items g.nodes) i;
  templates = same_of (templates.table_of (of_kinds templates.is_key_of_templates content)) t.templates u.templates (template_laws.table_again (of_kinds templates.is_key_of_templates content) _ t.templates refl a.templates h.templates) (template_laws.table_again (of_kinds templates.is_key_of_templates content) _ u.templates refl b.templates g.templates) i;
  stale = same_of (read_from stale.is_marks (stale.add_record chunk_order.chunk_cmp stale.marks_of_item) [] content) t.stale u.stale (stale_laws.table_again content _ t.stale refl a.stale h.stale) (stale_laws.table_again content _ u.stale refl b.stale g.stale) i;
  operations = same_of (read_from operations.is_operation operation_readings.add_operation_record operations.nothing_begun content) t.operations u.operations (operation_laws.table_again content _ t.operations refl a.operations h.operations) (operation_laws.table_again content _ u.operations refl b.operations g.operations) i;
  disks = same_of (read_from disks.is_key_of_disk (disks.add_record nat_cmp disks.disk_of_item) [] content) t.disks u.disks (disk_laws.table_again content _ t.disks refl a.disks h.disks) (disk_laws.table_again content _ u.disks refl b.disks g.disks) i;
}

-- ---- rules of the tables

two_answers : {X : Type 0} (o : Option X) (x : X) → o ≡ None → o ≡ Some x → ⊥
two_answers o x e f = none-some x (sym e ∙ f)

has_extents : (t : Tables) (s : Shape) (x : files.NumberedFile) (xs : List files.NumberedFile) → AllByRecursion (HasExtents t s) xs → IsAmong xs x → HasExtents t s x
has_extents t s x [] all among = absurd among
has_extents t s x (y ∷ xs) all among = elim among [
  | inl same ↦ subst (λ (z : files.NumberedFile). HasExtents t s z) (sym same) all.0
  | inr later ↦ has_extents t s x xs all.1 later
]

no_break : (s : Shape) (es : List status.Entry) (t : Tables) (ms : List UnitMap) (k : Key) → KeepsRules s t → first_unknown t es ≡ None → AreOnRegular es t → HasUnits s es t ms → BreaksRule s es t k → ⊥
no_break s es t ms k r infos regular units (fault.unmarked at e is) = two_answers _ at r.marked e
no_break s es t ms k r infos regular units (fault.marks_alone at e is) = two_answers _ at r.chunks e
no_break s es t ms k r infos regular units (fault.mark_alone at e is) = two_answers _ at r.stale e
no_break s es t ms k r infos regular units (fault.unowned at e is) = two_answers _ at r.owned e
no_break s es t ms k r infos regular units (fault.too_many_copies at e is) = two_answers _ at r.redundancy e
no_break s es t ms k r infos regular units (fault.on_one_disk at e is) = two_answers _ at r.apart e
no_break s es t ms k r infos regular units (fault.out_of_place at e is) = two_answers _ ms (misplaced_none s.step t.extents (unused_maps s es) at e) units
no_break s es t ms k r infos regular units (fault.nameless_node n e is) = two_answers _ n r.nodes e
no_break s es t ms k r infos regular units (fault.nameless_file f e is) = two_answers _ f r.names e
no_break s es t ms k r infos regular units (fault.short_file f e is) =
    let l = e.lacks in
    true≢false (sym (has_extents t s (f, e.head) t.files r.extents e.file l.index l.due) ∙ l.lacks)
no_break s es t ms k r infos regular units (fault.unknown_disk d e is) = two_answers _ d infos e
no_break s es t ms k r infos regular units (fault.on_quorum at e is) = two_answers _ at regular e
no_break s es t ms k r infos regular units (fault.no_room e is) = omega (arith, e, r.room)

-- ---- rules of one table

no_gap : (past : Option chunk_order.Chunk) (t : List extents.Chunked) (at : chunk_order.Chunk) → gap_from past t ≡ Some at → extents.has_no_gap past t ≡ true → ⊥
no_gap past [] at e right = none-some at e
no_gap past (x ∷ t) at e right = by (extents.stands_at past x) refl (no_gap (extents.full_chunk x) t at) where
  by : (b : Bool) → extents.stands_at past x ≡ b → (gap_from (extents.full_chunk x) t ≡ Some at → extents.has_no_gap (extents.full_chunk x) t ≡ true → ⊥) → ⊥
  by true is rest = rest (rw is at e) (rw is at right)
  by false is rest = true≢false (sym (rw is at right))

none_found : (p : nodes.Numbered → Bool) (xs : List nodes.Numbered) (x : nodes.Numbered) → list_all p xs ≡ true → find (λ y. not (p y)) xs ≡ Some x → ⊥
none_found p [] x all e = none-some x e
none_found p (y ∷ xs) x all e =
    let parts = and_parts (p y) (list_all p xs) all in
    none_found p xs x parts.1 (rw parts.0 at e)

no_loose : (content : List DirectoryRecord) (u : Tables) (n : ℕ) → AreTables u → HasRecords content u → HasFault content n → ⊥
no_loose content u n b g f =
    let same : f.nodes ≡ u.nodes = same_of (read_from nodes.is_key_of_node (add_item nodes.is_before (entry_of_record nodes.node_of_item)) [] content) f.nodes u.nodes (node_laws.nodes_again content _ refl f.nodes f.items f.same) (node_laws.nodes_again content _ refl u.nodes b.nodes.items g.nodes) in
    let table : nodes.IsNodeTable f.nodes = subst (λ (t : List nodes.Numbered). nodes.IsNodeTable t) (sym same) b.nodes in
    elim f.fault [
      | inl unrooted ↦ none_found (nodes.is_right f.nodes) f.nodes unrooted.x (node_laws.rule_tested f.nodes table) unrooted.first
      | inr twin ↦ node_laws.no_clash f.nodes table twin.clash
    ]

no_chunk_gap : (content : List DirectoryRecord) (u : Tables) (at : chunk_order.Chunk) → AreTables u → HasRecords content u → HasGap content at → ⊥
no_chunk_gap content u at b g h =
    let read = read_from extents.is_chunk extents.add_chunk_record [] content in
    let same : h.table ≡ u.extents = same_of read h.table u.extents (items_again extent_laws.chunk_entries.0 extents.is_chunk chunk_order.is_chunk_before content read h.table refl h.items h.same) (items_again extent_laws.chunk_entries.0 extents.is_chunk chunk_order.is_chunk_before content read u.extents refl b.extents.0 g.extents) in
    no_gap None u.extents at (subst (λ (t : List extents.Chunked). gap_from None t ≡ Some at) same h.gap) b.extents.1

-- ---- records that must be there

not_found : (p : Key → Bool) (content : List DirectoryRecord) (k : Key) → record_at content k ≡ None → record_at (of_kinds p content) k ≡ None
not_found p [] k e = refl
not_found p (x ∷ content) k e = by (is_key k x.0) (p x.0) refl refl (not_found p content k) where
  by : (a b : Bool) → is_key k x.0 ≡ a → p x.0 ≡ b → (record_at content k ≡ None → record_at (of_kinds p content) k ≡ None) → record_at (of_kinds p (x ∷ content)) k ≡ None
  by true b is mine rest = absurd (none-some x.1 (sym (rw is at e)))
  by false true is mine rest = rw (mine, is) (rest (rw is at e))
  by false false is mine rest = rw mine (rest (rw is at e))

no_absent : (content : List DirectoryRecord) (u : Tables) (k : Key) → HasRecords content u → record_at content k ≡ None → IsNeeded k → ⊥
no_absent content u k g e needed =
    let gone : record_at (templates.records_of_templates u.templates) k ≡ None = ap (λ (es : List DirectoryRecord). record_at es k) (sym g.templates) ∙ not_found templates.is_key_of_templates content k e in
    elim needed [
      | inl first ↦ none-some _ (sym (subst (λ (j : Key). record_at (templates.records_of_templates u.templates) j ≡ None) first gone))
      | inr second ↦ none-some _ (sym (subst (λ (j : Key). record_at (templates.records_of_templates u.templates) j ≡ None) second gone))
    ]

-- ---- all faults

pub fault_refuses : (content : List DirectoryRecord) (es : List status.Entry) (c : Catalogued) (k : Key) → IsAtFault content c.shape es k → IsCatalogOf content es c → ⊥
fault_refuses content es c k (fault.unreadable e) is = two_answers _ k is.records.all e
fault_refuses content es c k (fault.missing_record e needed) is = no_absent content c.tables k is.records e needed
fault_refuses content es c k (fault.chunk_gap at h at_key) is = no_chunk_gap content c.tables at is.rules.tables is.records h
fault_refuses content es c k (fault.loose_node n f at_key) is = no_loose content c.tables n is.rules.tables is.records f
fault_refuses content es c k (fault.broken t are has b) is =
    let same = same_tables content t c.tables are has is.rules.tables is.records in
    no_break c.shape es c.tables c.units k is.rules is.infos is.regular is.units (subst (λ (u : Tables). BreaksRule c.shape es u k) same b)
