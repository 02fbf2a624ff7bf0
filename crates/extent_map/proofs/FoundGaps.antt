-- A gap that is found is one of a table that has the records, and where none is found each such table keeps the rule.
use Rattle.std.proofs.Common.{◌≡◌, Bool, true, false, List, [], ◌∷◌, Option, Some, None, refl, sym, subst, ◌∙◌}
use Rattle.std.proofs.lemmas.Option.{none-some}
use Rattle.asm_base.specs.Records.{DirectoryRecord, read_from}
use Rattle.asm_base.proofs.Exact.{some_is}
use Rattle.asm_base.proofs.ItemTables.{items_again, items_found}
use Rattle.extent_map.specs.Extents.{Chunked, add_chunk_record, has_no_gap, is_chunk, full_chunk, stands_at}
use Rattle.asm_base.specs.Chunks.{Chunk, is_chunk_before}
use Rattle.extent_map.specs.Faults.{HasGap, IsWithoutGap, gap_from}
use Rattle.extent_map.proofs.Laws.{chunk_entries}

pub gap_is : (records : List DirectoryRecord) (read : Option (List Chunked)) (t : List Chunked) (at : Chunk) → read ≡ read_from is_chunk add_chunk_record [] records → read ≡ Some t → gap_from None t ≡ Some at → HasGap records at
gap_is records read t at e some gap =
    let f = items_found chunk_entries.0 is_chunk is_chunk_before records (Some t) (sym some ∙ e) in
    record { table = t; items = f.0; same = f.1; gap = gap }

none_gap : (past : Option Chunk) (t : List Chunked) → gap_from past t ≡ None → has_no_gap past t ≡ true
none_gap past [] e = refl
none_gap past (x ∷ t) e = by (stands_at past x) refl (none_gap (full_chunk x) t) where
  by : (b : Bool) → stands_at past x ≡ b → (gap_from (full_chunk x) t ≡ None → has_no_gap (full_chunk x) t ≡ true) → has_no_gap past (x ∷ t) ≡ true
  by true is rest = rw is (rest (rw is at e))
  by false is rest = absurd (none-some x.0 (sym (rw is at e)))

pub no_gap_is : (records : List DirectoryRecord) (read : Option (List Chunked)) (t : List Chunked) → read ≡ read_from is_chunk add_chunk_record [] records → read ≡ Some t → gap_from None t ≡ None → IsWithoutGap records
no_gap_is records read t e some none u fits same =
    let again = items_again chunk_entries.0 is_chunk is_chunk_before records read u e fits same in
    subst (λ (v : List Chunked). has_no_gap None v ≡ true) (some_is t u (sym some ∙ again)) (none_gap None t none)

pub no_table_is : (records : List DirectoryRecord) (read : Option (List Chunked)) → read ≡ read_from is_chunk add_chunk_record [] records → read ≡ None → IsWithoutGap records
no_table_is records read e none u fits same = absurd (none-some u (sym none ∙ items_again chunk_entries.0 is_chunk is_chunk_before records read u e fits same))
