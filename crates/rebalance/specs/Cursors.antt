-- Cursors, which let the search for the next move pass over chunks with nothing due.
use Rattle.std.specs.Prelude.{◌≡◌, ℕ, ◌/◌, Bool, true, false, ◌&&◌, List, if◌then◌else◌, Option, Some, None}
use Rattle.std.specs.BTreeMap.{is_at}
use Rattle.std.specs.Option.{option_map}
use Rattle.asm_formats.specs.Status.{Entry, Status}
use Rattle.asm_formats.specs.Items.{FileHead, Home, Homes, chunk_len}
use Rattle.catalog_laws.specs.extent_map.Extents.{Chunked, chunk_at}
use Rattle.asm_base.specs.Chunks.{Chunk, chunk_cmp, is_chunk_before}
use Rattle.catalog_laws.specs.file_directory.Files.{head_at}
use Rattle.catalog_laws.specs.staleness_directory.Marks.{marks_at}
use Rattle.catalog_laws.specs.catalog.ExtentPlans.{with_marks_changed, with_move}
use Rattle.catalog_laws.specs.catalog_tables.Tables.{Catalogued, Tables}
use Rattle.rebalance.specs.declared.stages.Stage.{Stage}
use Rattle.rebalance.specs.declared.stages.Stage.TheVariants as stage
use Rattle.rebalance.specs.Sums.{Sums, sums_at}
use Rattle.rebalance.specs.Searching.{group_says, tables_said, work_said}
use Rattle.rebalance.specs.Due.{first_due, is_due_in}

-- where the search of each stage begins: at a file's chunk, or at the end
pub record SearchPlaces : Type 0 where
  pub recopy : Option Chunk
  pub fill : Option Chunk
  pub shift : Option Chunk
  pub lost : Option Chunk
  pub no_space : Option Chunk
  pub balance : Option Chunk

-- the chunk comes before the place
abbrev pub is_passed : Option Chunk → Chunk → Bool
is_passed None p = true
is_passed (Some place) p = is_chunk_before p place

-- nothing is due at the stage in the chunks before the place
abbrev pub IsClearBefore : Stage → List Entry → Catalogued → Sums → Option Chunk → Type 0
IsClearBefore at es c t place = (p : Chunk) (homes : List Homes) → chunk_at c.tables.extents p ≡ Some homes → is_passed place p ≡ true → is_due_in at es c t (p, homes) ≡ false

-- so is it at each stage, before its place
pub record AreClear (es : List Entry) (c : Catalogued) (t : Sums) (k : SearchPlaces) : Type 0 where
  pub recopy : IsClearBefore stage.Recopy es c t k.recopy
  pub fill : IsClearBefore stage.Fill es c t k.fill
  pub shift : IsClearBefore stage.Shift es c t k.shift
  pub lost : IsClearBefore stage.Lost es c t k.lost
  pub no_space : IsClearBefore stage.NoSpace es c t k.no_space
  pub balance : IsClearBefore stage.Balance es c t k.balance

-- the places are those of a cursor of the group
abbrev pub IsCursor : Catalogued → Status → SearchPlaces → Type 0
IsCursor c r k = AreClear r.entries c (sums_at c.units r.entries) k

-- all places at the first chunk
abbrev pub search_start : SearchPlaces
search_start = record { recopy = Some (0, 0); fill = Some (0, 0); shift = Some (0, 0); lost = Some (0, 0); no_space = Some (0, 0); balance = Some (0, 0) }

-- ---- after a search

-- the first three stages were asked, each where those before it say nothing: its place is the first chunk in which something is due
pub record HasAskedWork (es : List Entry) (c : Catalogued) (t : Sums) (k : SearchPlaces) : Type 0 where
  pub recopy : k.recopy ≡ first_due stage.Recopy es c t
  pub fill : group_says stage.Recopy es c t ≡ None → k.fill ≡ first_due stage.Fill es c t
  pub shift : group_says stage.Recopy es c t ≡ None → group_says stage.Fill es c t ≡ None → k.shift ≡ first_due stage.Shift es c t

-- so were the others
pub record HasAskedRest (es : List Entry) (c : Catalogued) (t : Sums) (k : SearchPlaces) : Type 0 where
  pub lost : k.lost ≡ first_due stage.Lost es c t
  pub no_space : group_says stage.Lost es c t ≡ None → k.no_space ≡ first_due stage.NoSpace es c t
  pub balance : group_says stage.Lost es c t ≡ None → group_says stage.NoSpace es c t ≡ None → k.balance ≡ first_due stage.Balance es c t

-- all stages were asked that the search came to
pub record HasGoneOn (es : List Entry) (c : Catalogued) (r : Status) (t : Sums) (k : SearchPlaces) : Type 0 where
  pub work : HasAskedWork es c t k
  pub rest : work_said es c t ≡ None → tables_said c r ≡ None → HasAskedRest es c t k

-- ---- after a change of one chunk

-- the chunk passes the test, where it is there
abbrev pub passes_found : (Chunked → Bool) → Chunk → Option (List Homes) → Bool
passes_found test at None = false
passes_found test at (Some homes) = test (at, homes)

abbrev pub passes_at : (Chunked → Bool) → List Chunked → Chunk → Bool
passes_at test table at = passes_found test at (chunk_at table at)

-- the place, or the chunk where that comes before it and passes the test
abbrev pub place_after : (Chunked → Bool) → List Chunked → Chunk → Option Chunk → Option Chunk
place_after due table at place = if is_passed place at && passes_at due table at then Some at else place

-- the places once the chunk has changed: those that are behind it go back to it where something is due there, and the last one to the first chunk
abbrev pub places_after : List Entry → Catalogued → Sums → SearchPlaces → Chunk → SearchPlaces
places_after es c t k at = record {
  recopy = place_after (is_due_in stage.Recopy es c t) c.tables.extents at k.recopy;
  fill = place_after (is_due_in stage.Fill es c t) c.tables.extents at k.fill;
  shift = place_after (is_due_in stage.Shift es c t) c.tables.extents at k.shift;
  lost = place_after (is_due_in stage.Lost es c t) c.tables.extents at k.lost;
  no_space = place_after (is_due_in stage.NoSpace es c t) c.tables.extents at k.no_space;
  balance = Some (0, 0);
}

-- copies that a file has, where it has a head
abbrev pub copy_count_of_file : Tables → ℕ → Option ℕ
copy_count_of_file t f = option_map (λ (h : FileHead). h.copies) (head_at t.files f)

-- all chunks but one are as they were: their homes, their marks, and how many copies their files have
pub record IsSameBut (at : Chunk) (old new : Tables) : Type 0 where
  pub chunks : (p : Chunk) → is_at (chunk_cmp p) at ≡ false → chunk_at new.extents p ≡ chunk_at old.extents p
  pub marks : (p : Chunk) → is_at (chunk_cmp p) at ≡ false → marks_at new.stale p ≡ marks_at old.stale p
  pub copies : (f : ℕ) → copy_count_of_file new f ≡ copy_count_of_file old f

-- What is a cursor of a group is followed to one of each group of the same shape and entries in which all chunks but one are the same.
abbrev pub IsFollowed : Chunk → SearchPlaces → Catalogued → Status → SearchPlaces → Type 0
IsFollowed at k c r later = (old : Catalogued) (q : Status) → IsCursor old q k → c.shape ≡ old.shape → r.entries ≡ q.entries → IsSameBut at old.tables c.tables → IsCursor c r later

-- The plan of a copy's move leads to such tables.
abbrev pub MovesChangeOne : Type 0
MovesChangeOne = (t : Tables) (f i copy : ℕ) (h : Home) → IsSameBut (f, i / chunk_len) t (with_move t f i copy h)

-- So does that of an extent's marks.
abbrev pub MarksChangeOne : Type 0
MarksChangeOne = (t : Tables) (f i set clear : ℕ) → IsSameBut (f, i / chunk_len) t (with_marks_changed t f i set clear)
