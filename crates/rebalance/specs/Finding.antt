-- What the walk through the extents of a group finds.
use Rattle.std.specs.Prelude.{ℕ, suc, ◌*◌, ◌<◌, ◌≤◌, Bool, List, [], ◌∷◌, if◌then◌else◌, Option, Some, None}
use Rattle.std.specs.Option.{is_some, option_map, option_or}
use Rattle.asm_group.specs.Shape.{Shape}
use Rattle.asm_formats.specs.Status.{Entry}
use Rattle.asm_formats.specs.Items.{FileHead, Homes, chunk_len}
use Rattle.allocator.specs.UnitMaps.{UnitMap}
use Rattle.catalog_laws.specs.extent_map.Extents.{Chunked}
use Rattle.catalog_laws.specs.file_directory.Files.{head_at}
use Rattle.catalog_laws.specs.catalog_tables.Tables.{Catalogued, Tables}
use Rattle.extent_copies.specs.declared.extent.Extent.{Extent}
use Rattle.rebalance.specs.declared.search.Asked.{Asked}
use Rattle.rebalance.specs.declared.search.Asked.TheVariants as asked
use Rattle.rebalance.specs.declared.search.Found.{Found}
use Rattle.rebalance.specs.Sums.{Sums}
use Rattle.rebalance.specs.Searching.{extent_in_tables, extent_says, with_copies}
use Rattle.rebalance.specs.Due.{is_due, passes_there}

-- an extent of a file: it has at most three copies, of a unit at least
pub record IsWholeExtent (x : Extent) : Type 0 where
  pub copies : x.copies ≤ 3
  pub long : 0 < x.units

-- what is asked of an extent is so
abbrev pub is_as_asked : Asked → List Entry → List UnitMap → Sums → Extent → Bool
is_as_asked (asked.Due at) es ms t x = is_due at es ms t x
is_as_asked (asked.Says at) es ms t x = is_some (extent_says at es ms t x)

-- ---- one extent after the other

-- the extent, where it is there and passes the test
abbrev pub found_there : (Extent → Bool) → Shape → Tables → ℕ → ℕ → ℕ → Homes → Option Extent
found_there test s t f copies i homes = if passes_there test s t f copies i homes then Some (extent_in_tables s t f copies i homes) else None

-- the first that does of some extents, that have the numbers from i on
abbrev pub found_of_extents : (Extent → Bool) → Shape → Tables → ℕ → ℕ → ℕ → List Homes → Option Extent
found_of_extents test s t f copies i [] = None
found_of_extents test s t f copies i (homes ∷ more) = option_or (found_there test s t f copies i homes) (found_of_extents test s t f copies (suc i) more)

-- the first of a chunk, where the file has a head
abbrev pub found_of_chunk : (Extent → Bool) → Shape → Tables → Chunked → Option Extent
found_of_chunk test s t x = with_copies (λ copies. found_of_extents test s t x.0.0 copies (x.0.1 * chunk_len) x.1) (option_map (λ (h : FileHead). h.copies) (head_at t.files x.0.0))

abbrev pub found_of_chunks : (Extent → Bool) → Shape → Tables → List Chunked → Option Found
found_of_chunks test s t [] = None
found_of_chunks test s t (x ∷ xs) = option_or (option_map (λ (e : Extent). record { at = x.0; extent = e }) (found_of_chunk test s t x)) (found_of_chunks test s t xs)

-- ---- in a group

abbrev pub found_in_chunk : Asked → List Entry → Catalogued → Sums → Chunked → Option Extent
found_in_chunk what es c t x = found_of_chunk (is_as_asked what es c.units t) c.shape c.tables x

abbrev pub found_from : Asked → List Entry → Catalogued → Sums → List Chunked → Option Found
found_from what es c t xs = found_of_chunks (is_as_asked what es c.units t) c.shape c.tables xs
