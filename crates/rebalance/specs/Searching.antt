-- The search for the next move over the tables of a group.
use Rattle.std.specs.Prelude.{ℕ, suc, ◌*◌, ◌^◌, ◌&&◌, nat_lt, List, [], ◌∷◌, unwrap_or, Option, Some, None, IsTrue}
use Rattle.std.specs.Option.{option_map, option_or}
use Rattle.asm_group.specs.Shape.{Shape}
use Rattle.asm_formats.specs.Status.{Entry, Status, is_status}
use Rattle.asm_formats.specs.Items.{FileHead, Homes, chunk_len}
use Rattle.asm_placement.specs.Layout.{units_of}
use Rattle.asm_placement.specs.Rebalancing.{Next, done, next_directory, next_tables, option_when}
use Rattle.allocator.specs.UnitMaps.{UnitMap}
use Rattle.catalog_laws.specs.extent_map.Extents.{Chunked, has_home}
use Rattle.catalog_laws.specs.file_directory.Files.{head_at}
use Rattle.catalog_laws.specs.catalog_tables.Tables.{Catalogued, Tables}
use Rattle.catalog_laws.specs.catalog_tables.Rules.{AreOnRegular, marks_of}
use Rattle.catalog_laws.specs.catalog_tables.Placing.{HasUnits}
use Rattle.extent_copies.specs.declared.extent.Extent.{Extent}
use Rattle.rebalance.specs.declared.stages.Stage.{Stage}
use Rattle.rebalance.specs.declared.stages.Stage.TheVariants as stage
use Rattle.rebalance.specs.Sums.{Sums, sums_at}
use Rattle.rebalance.specs.Extents.{first_from}
use Rattle.rebalance.specs.Stages.{copy_says}

-- The status record is that of the catalog: one of the formats, the used units are those of its entries' disks, and no home lies on a quorum disk.
pub record IsStatusOf (c : Catalogued) (r : Status) : Type 0 where
  pub status : IsTrue (is_status r)
  pub units : HasUnits c.shape r.entries c.tables c.units
  pub regular : AreOnRegular r.entries c.tables

-- ---- one extent after the other

-- an extent of a file with so many copies, as the tables have it
abbrev pub extent_in_tables : Shape → Tables → ℕ → ℕ → ℕ → Homes → Extent
extent_in_tables s t f copies i homes = record { id = record { file = f; index = i }; homes = homes; marks = marks_of t f i; copies = copies; units = units_of s.step i }

-- what the extent says, where it is there; its number has 32 bits
abbrev pub said_there : (Extent → Option Next) → Shape → Tables → ℕ → ℕ → ℕ → Homes → Option Next
said_there says s t f copies i homes = option_when (has_home homes && nat_lt i (2 ^ 32)) (says (extent_in_tables s t f copies i homes))

-- what the first of some extents says, that have the numbers from i on
abbrev pub first_of_extents : (Extent → Option Next) → Shape → Tables → ℕ → ℕ → ℕ → List Homes → Option Next
first_of_extents says s t f copies i [] = None
first_of_extents says s t f copies i (homes ∷ more) = option_or (said_there says s t f copies i homes) (first_of_extents says s t f copies (suc i) more)

abbrev pub with_copies : {A : Type 0} → (ℕ → Option A) → Option ℕ → Option A
with_copies says None = None
with_copies says (Some copies) = says copies

-- what the first extent of a chunk says, where the file has a head
abbrev pub first_of_chunk : (Extent → Option Next) → Shape → Tables → Chunked → Option Next
first_of_chunk says s t x = with_copies (λ copies. first_of_extents says s t x.0.0 copies (x.0.1 * chunk_len) x.1) (option_map (λ (h : FileHead). h.copies) (head_at t.files x.0.0))

abbrev pub first_of_chunks : (Extent → Option Next) → Shape → Tables → List Chunked → Option Next
first_of_chunks says s t [] = None
first_of_chunks says s t (x ∷ xs) = option_or (first_of_chunk says s t x) (first_of_chunks says s t xs)

-- ---- one stage after the other

-- what an extent says at a stage, by maps of units and sums
abbrev pub extent_says : Stage → List Entry → List UnitMap → Sums → Extent → Option Next
extent_says at es ms t x = first_from (copy_says at es ms t x) 0 x.copies

-- what the first extent of some chunks of a group says, and of all
abbrev pub says_of : Stage → List Entry → Catalogued → Sums → List Chunked → Option Next
says_of at es c t xs = first_of_chunks (extent_says at es c.units t) c.shape c.tables xs

abbrev pub group_says : Stage → List Entry → Catalogued → Sums → Option Next
group_says at es c t = says_of at es c t c.tables.extents

-- what is first to be done with copies, and what is said once nothing has to be done
abbrev pub work_said : List Entry → Catalogued → Sums → Option Next
work_said es c t = option_or (group_says stage.Recopy es c t) (option_or (group_says stage.Fill es c t) (group_says stage.Shift es c t))

abbrev pub rest_said : List Entry → Catalogued → Sums → Option Next
rest_said es c t = option_or (group_says stage.Lost es c t) (option_or (group_says stage.NoSpace es c t) (group_says stage.Balance es c t))

abbrev pub tables_said : Catalogued → Status → Option Next
tables_said c r = option_or (next_directory c.shape r) (next_tables c.shape r)

abbrev pub all_said : Catalogued → Status → List Entry → Sums → Option Next
all_said c r es t = option_or (work_said es c t) (option_or (tables_said c r) (rest_said es c t))

abbrev pub next_in : Catalogued → Status → Next
next_in c r = unwrap_or (all_said c r r.entries (sums_at c.units r.entries)) done
