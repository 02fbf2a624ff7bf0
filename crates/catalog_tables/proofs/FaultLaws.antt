-- Faults that are found in the tables.
use Rattle.std.proofs.Common.{◌≡◌, ℕ, ◌<◌, ◌≤◌, ◌+◌, ◌^◌, Bool, true, false, List, [], ◌∷◌, Option, Some, None, refl, subst, inl, inr}
use Rattle.std.specs.List.{AllByRecursion}
use Rattle.std.proofs.lemmas.Option.{none-some}
use Rattle.asm_group.specs.Shape.{Shape}
use Rattle.asm_formats.specs.Items.{Key}
use Rattle.asm_formats.specs.Status as status
use Rattle.asm_base.proofs.Exact.{some_is}
use Rattle.page_map.specs.allocator.UnitMaps.{UnitMap}
use Rattle.extent_map.specs.Extents.{Chunked, IsNumbered, IsExtentTable}
use Rattle.asm_base.specs.Chunks.{Chunk}
use Rattle.extent_map.proofs.Laws.{table_numbered}
use Rattle.catalog_tables.specs.Tables.{AreTables, Tables}
use Rattle.catalog_tables.specs.Rules.{AreOnRegular, HasExtents, IsShortFile, KeepsRules, blocks_used, first_unknown, first_wrong, has_chunk, has_marks, has_names, is_marked_right, is_named_back, is_on_disks, is_owned, is_regular_chunk, keeps_copies}
use Rattle.catalog_tables.specs.Placing.{after_homes, homes_of, first_misplaced, unused_maps}
use Rattle.catalog_tables.specs.Faults.{AreChunksRight, AreNamesRight, AreSizesRight, BreaksRule, IsChunkFault, disk_key, file_key, key_of_chunk, key_of_marks, node_key, settings_key}
use Rattle.catalog_tables.specs.Faults as fault

module _ (t : Tables) (at : Chunk) where
  pub unmarked_is : first_wrong (has_marks t) t.extents ≡ Some at → IsChunkFault t at
  unmarked_is e = inl e

  pub unowned_is : first_wrong (is_owned t) t.extents ≡ Some at → IsChunkFault t at
  unowned_is e = inr (inl e)

  pub too_many_is : first_wrong (keeps_copies t) t.extents ≡ Some at → IsChunkFault t at
  too_many_is e = inr (inr (inl e))

  pub on_one_is : first_wrong is_on_disks t.extents ≡ Some at → IsChunkFault t at
  on_one_is e = inr (inr (inr e))

pub chunks_are : (t : Tables) → first_wrong (has_marks t) t.extents ≡ None → first_wrong (is_owned t) t.extents ≡ None → first_wrong (keeps_copies t) t.extents ≡ None → first_wrong is_on_disks t.extents ≡ None → AreChunksRight t
chunks_are t a b c d = record { marked = a; owned = b; redundancy = c; apart = d }

pub names_are : (t : Tables) → first_wrong (has_chunk t) t.stale ≡ None → first_wrong (is_marked_right t) t.stale ≡ None → first_wrong (is_named_back t) t.nodes ≡ None → first_wrong (has_names t) t.files ≡ None → AreNamesRight t
names_are t a m b c = record { chunks = a; stale = m; nodes = b; names = c }

pub sizes_are : (s : Shape) (es : List status.Entry) (t : Tables) → AllByRecursion (HasExtents t s) t.files → first_unknown t es ≡ None → AreOnRegular es t → blocks_used t + 2 ≤ s.dir_blocks → AreSizesRight s es t
sizes_are s es t a b q c = record { extents = a; infos = b; regular = q; room = c }

pub rules_are : (s : Shape) (es : List status.Entry) (t : Tables) → AreTables t → AreChunksRight t → AreNamesRight t → AreSizesRight s es t → KeepsRules s t
rules_are s es t are c n z = record {
  tables = are;
  marked = c.marked;
  chunks = n.chunks;
  owned = c.owned;
  redundancy = c.redundancy;
  apart = c.apart;
  stale = n.stale;
  nodes = n.nodes;
  names = n.names;
  extents = z.extents;
  room = z.room;
}

pub chunk_fault_is : (s : Shape) (es : List status.Entry) (t : Tables) (at : Chunk) (k : Key) → IsChunkFault t at → k ≡ key_of_chunk at → BreaksRule s es t k
chunk_fault_is s es t at k (inl e) is = fault.unmarked at e is
chunk_fault_is s es t at k (inr (inl e)) is = fault.unowned at e is
chunk_fault_is s es t at k (inr (inr (inl e))) is = fault.too_many_copies at e is
chunk_fault_is s es t at k (inr (inr (inr e))) is = fault.on_one_disk at e is

pub alone_is : (s : Shape) (es : List status.Entry) (t : Tables) (at : Chunk) (k : Key) → first_wrong (has_chunk t) t.stale ≡ Some at → k ≡ key_of_marks at → BreaksRule s es t k
alone_is s es t at k e is = fault.marks_alone at e is

pub mark_alone_is : (s : Shape) (es : List status.Entry) (t : Tables) (at : Chunk) (k : Key) → first_wrong (is_marked_right t) t.stale ≡ Some at → k ≡ key_of_marks at → BreaksRule s es t k
mark_alone_is s es t at k e is = fault.mark_alone at e is

pub node_is : (s : Shape) (es : List status.Entry) (t : Tables) (n : ℕ) (k : Key) → first_wrong (is_named_back t) t.nodes ≡ Some n → k ≡ node_key n → BreaksRule s es t k
node_is s es t n k e is = fault.nameless_node n e is

pub file_is : (s : Shape) (es : List status.Entry) (t : Tables) (f : ℕ) (k : Key) → first_wrong (has_names t) t.files ≡ Some f → k ≡ file_key f → BreaksRule s es t k
file_is s es t f k e is = fault.nameless_file f e is

pub short_is : (s : Shape) (es : List status.Entry) (t : Tables) (f : ℕ) (k : Key) → IsShortFile t s f → k ≡ file_key f → BreaksRule s es t k
short_is s es t f k e is = fault.short_file f e is

pub unknown_is : (s : Shape) (es : List status.Entry) (t : Tables) (d : ℕ) (k : Key) → first_unknown t es ≡ Some d → k ≡ disk_key d → BreaksRule s es t k
unknown_is s es t d k e is = fault.unknown_disk d e is

pub on_quorum_is : (s : Shape) (es : List status.Entry) (t : Tables) (at : Chunk) (k : Key) → first_wrong (is_regular_chunk es) t.extents ≡ Some at → k ≡ key_of_chunk at → BreaksRule s es t k
on_quorum_is s es t at k e is = fault.on_quorum at e is

pub no_room_is : (s : Shape) (es : List status.Entry) (t : Tables) (k : Key) → s.dir_blocks < blocks_used t + 2 → k ≡ settings_key → BreaksRule s es t k
no_room_is s es t k e is = fault.no_room e is

pub misplaced_is : (s : Shape) (es : List status.Entry) (t : Tables) (at : Chunk) (k : Key) → first_misplaced s.step (unused_maps s es) t.extents ≡ Some at → k ≡ key_of_chunk at → BreaksRule s es t k
misplaced_is s es t at k e is = fault.out_of_place at e is

-- ---- the number of a chunk that is found has room in its key

first_numbered : (right : Chunked → Bool) (xs : List Chunked) (at : Chunk) → AllByRecursion IsNumbered xs → first_wrong right xs ≡ Some at → at.1 + 1 < 2 ^ 32
first_numbered right [] at all e = absurd (none-some at e)
first_numbered right (x ∷ xs) at all e = by (right x) refl (first_numbered right xs at all.1) where
  by : (b : Bool) → right x ≡ b → (first_wrong right xs ≡ Some at → at.1 + 1 < 2 ^ 32) → at.1 + 1 < 2 ^ 32
  by true is rest = rest (rw is at e)
  by false is rest = subst (λ (c : Chunk). c.1 + 1 < 2 ^ 32) (some_is x.0 at (rw is at e)) all.0

pub fault_numbered : (t : Tables) (at : Chunk) → AreTables t → IsChunkFault t at → at.1 + 1 < 2 ^ 32
fault_numbered t at are (inl e) = first_numbered (has_marks t) t.extents at (table_numbered t.extents are.extents) e
fault_numbered t at are (inr (inl e)) = first_numbered (is_owned t) t.extents at (table_numbered t.extents are.extents) e
fault_numbered t at are (inr (inr (inl e))) = first_numbered (keeps_copies t) t.extents at (table_numbered t.extents are.extents) e
fault_numbered t at are (inr (inr (inr e))) = first_numbered is_on_disks t.extents at (table_numbered t.extents are.extents) e

pub quorum_numbered : (es : List status.Entry) (t : Tables) (at : Chunk) → IsExtentTable t.extents → first_wrong (is_regular_chunk es) t.extents ≡ Some at → at.1 + 1 < 2 ^ 32
quorum_numbered es t at table e = first_numbered (is_regular_chunk es) t.extents at (table_numbered t.extents table) e

placed_numbered : (step : ℕ) (xs : List Chunked) (ms : List UnitMap) (at : Chunk) → AllByRecursion IsNumbered xs → first_misplaced step ms xs ≡ Some at → at.1 + 1 < 2 ^ 32
unfolding first_misplaced
placed_numbered step [] ms at all e = absurd (none-some at e)
placed_numbered step (x ∷ xs) ms at all e = by (after_homes ms (homes_of step x)) refl (λ next. placed_numbered step xs next at all.1) where
  by : (placed : Option (List UnitMap)) → after_homes ms (homes_of step x) ≡ placed → ((next : List UnitMap) → first_misplaced step next xs ≡ Some at → at.1 + 1 < 2 ^ 32) → at.1 + 1 < 2 ^ 32
  by None is rest = subst (λ (c : Chunk). c.1 + 1 < 2 ^ 32) (some_is x.0 at (rw is at e)) all.0
  by (Some next) is rest = rest next (rw is at e)

pub misplaced_numbered : (step : ℕ) (xs : List Chunked) (ms : List UnitMap) (at : Chunk) → IsExtentTable xs → first_misplaced step ms xs ≡ Some at → at.1 + 1 < 2 ^ 32
misplaced_numbered step xs ms at table e = placed_numbered step xs ms at (table_numbered xs table) e
