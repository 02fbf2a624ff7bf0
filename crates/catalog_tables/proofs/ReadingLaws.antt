-- Faults that are found while tables are read.
use Rattle.std.proofs.Common.{◌≡◌, ◌<◌, ◌+◌, ◌^◌, Bool, true, false, List, [], ◌∷◌, Option, Some, None, refl, subst}
use Rattle.std.proofs.lemmas.Option.{none-some}
use Rattle.std.specs.List.{AllByRecursion}
use Rattle.asm_group.specs.Shape.{Shape}
use Rattle.asm_formats.specs.Items.{Key}
use Rattle.asm_formats.specs.Status as status
use Rattle.asm_base.specs.Records.{DirectoryRecord, record_at}
use Rattle.asm_base.proofs.Exact.{some_is}
use Rattle.extent_map.specs.Extents.{Chunked, IsNumbered, full_chunk, stands_at}
use Rattle.asm_base.specs.Chunks.{Chunk}
use Rattle.extent_map.specs.Faults.{HasGap, gap_from}
use Rattle.extent_map.proofs.Laws.{all_numbered}
use Rattle.catalog_tables.specs.declared.error.CatalogError.{CatalogError}
use Rattle.catalog_tables.specs.Tables.{first_unreadable}
use Rattle.catalog_tables.specs.Faults.{IsAtFault, IsGap, IsLoose, IsNeeded, NamesFault}
use Rattle.catalog_tables.specs.Faults as fault
use Rattle.catalog_tables.specs.declared.error.CatalogError.TheVariants as answer

pub unreadable_at : (content : List DirectoryRecord) (s : Shape) (es : List status.Entry) (k : Key) → first_unreadable content ≡ Some k → IsAtFault content s es k
unreadable_at content s es k e = fault.unreadable e

pub absent_at : (content : List DirectoryRecord) (s : Shape) (es : List status.Entry) (k : Key) → (record_at content k ≡ None) × IsNeeded k → IsAtFault content s es k
absent_at content s es k e = fault.missing_record e.0 e.1

pub gap_at : (content : List DirectoryRecord) (e : CatalogError) → NamesFault (IsGap content) e → (s : Shape) (es : List status.Entry) → NamesFault (IsAtFault content s es) e
gap_at content (answer.Damaged k) g s es = fault.chunk_gap g.0 g.1 g.2
gap_at content answer.NoMemory g s es = tt

pub loose_at : (content : List DirectoryRecord) (e : CatalogError) → NamesFault (IsLoose content) e → (s : Shape) (es : List status.Entry) → NamesFault (IsAtFault content s es) e
loose_at content (answer.Damaged k) g s es = fault.loose_node g.0 g.1 g.2
loose_at content answer.NoMemory g s es = tt

numbered_in : (past : Option Chunk) (t : List Chunked) (at : Chunk) → AllByRecursion IsNumbered t → gap_from past t ≡ Some at → at.1 + 1 < 2 ^ 32
numbered_in past [] at all e = absurd (none-some at e)
numbered_in past (x ∷ t) at all e = by (stands_at past x) refl (numbered_in (full_chunk x) t at all.1) where
  by : (b : Bool) → stands_at past x ≡ b → (gap_from (full_chunk x) t ≡ Some at → at.1 + 1 < 2 ^ 32) → at.1 + 1 < 2 ^ 32
  by true is rest = rest (rw is at e)
  by false is rest = subst (λ (c : Chunk). c.1 + 1 < 2 ^ 32) (some_is x.0 at (rw is at e)) all.0

pub gap_numbered : (content : List DirectoryRecord) (at : Chunk) → HasGap content at → at.1 + 1 < 2 ^ 32
gap_numbered content at g = numbered_in None g.table at (all_numbered g.table g.items.1) g.gap
