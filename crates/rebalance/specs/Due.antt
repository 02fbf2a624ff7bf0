-- What is due at each stage of the search for the next move.
use Rattle.std.specs.Prelude.{ℕ, suc, ◌*◌, ◌^◌, Bool, false, ◌&&◌, ◌||◌, nat_lt, List, [], ◌∷◌, find, Option, Some, None}
use Rattle.std.specs.Option.{option_map}
use Rattle.asm_group.specs.Shape.{Shape}
use Rattle.asm_formats.specs.Status.{Entry}
use Rattle.asm_formats.specs.Items.{FileHead, Homes, chunk_len}
use Rattle.allocator.specs.UnitMaps.{UnitMap}
use Rattle.catalog_laws.specs.extent_map.Extents.{Chunked, has_home}
use Rattle.asm_base.specs.Chunks.{Chunk}
use Rattle.catalog_laws.specs.file_directory.Files.{head_at}
use Rattle.catalog_laws.specs.catalog_tables.Tables.{Catalogued, Tables}
use Rattle.extent_copies.specs.declared.extent.Extent.{Extent}
use Rattle.rebalance.specs.declared.stages.Stage.{Stage}
use Rattle.rebalance.specs.Sums.{Sums}
use Rattle.rebalance.specs.Extents.{any_from}
use Rattle.rebalance.specs.Stages.{is_due_at}
use Rattle.rebalance.specs.Searching.{extent_in_tables}

-- a copy of the extent lacks what the stage is about
abbrev pub is_due : Stage → List Entry → List UnitMap → Sums → Extent → Bool
is_due at es ms t x = any_from (is_due_at at es ms t x) 0 x.copies

-- ---- one extent after the other

-- the extent is there and passes the test; its number has 32 bits
abbrev pub passes_there : (Extent → Bool) → Shape → Tables → ℕ → ℕ → ℕ → Homes → Bool
passes_there test s t f copies i homes = (has_home homes && nat_lt i (2 ^ 32)) && test (extent_in_tables s t f copies i homes)

-- one of some extents does, that have the numbers from i on
abbrev pub any_of_extents : (Extent → Bool) → Shape → Tables → ℕ → ℕ → ℕ → List Homes → Bool
any_of_extents test s t f copies i [] = false
any_of_extents test s t f copies i (homes ∷ more) = passes_there test s t f copies i homes || any_of_extents test s t f copies (suc i) more

abbrev pub any_with : (ℕ → Bool) → Option ℕ → Bool
any_with test None = false
any_with test (Some copies) = test copies

-- one of a chunk does, where the file has a head
abbrev pub any_of_chunk : (Extent → Bool) → Shape → Tables → Chunked → Bool
any_of_chunk test s t x = any_with (λ copies. any_of_extents test s t x.0.0 copies (x.0.1 * chunk_len) x.1) (option_map (λ (h : FileHead). h.copies) (head_at t.files x.0.0))

-- something is due in the chunk
abbrev pub is_due_in : Stage → List Entry → Catalogued → Sums → Chunked → Bool
is_due_in at es c t x = any_of_chunk (is_due at es c.units t) c.shape c.tables x

-- the first of some chunks in which something is due
abbrev pub first_due_of : Stage → List Entry → Catalogued → Sums → List Chunked → Option Chunk
first_due_of at es c t xs = option_map (λ (x : Chunked). x.0) (find (is_due_in at es c t) xs)

-- the first of all chunks
abbrev pub first_due : Stage → List Entry → Catalogued → Sums → Option Chunk
first_due at es c t = first_due_of at es c t c.tables.extents
