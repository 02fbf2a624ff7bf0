-- What shows that a copy may move.
use Rattle.std.proofs.Common.{◌≡◌, ℕ, Bool, true, false, cond, List, [], get_or, Option, Some, None, refl}
use Rattle.std.specs.Prelude.{◌/◌, ◌%◌, IsTrue}
use Rattle.std.specs.Bool.{OnTrue}
use Rattle.std.specs.List.{slice_get}
use Rattle.std.specs.Option.{is_some, option_and_then, unwrap_or}
use Rattle.asm_formats.specs.Items.{Home, Homes}
use Rattle.plan_records.specs.allocator.UnitMaps.{IsFreeRun, UnitMap, is_free}
use Rattle.plan_records.specs.extent_map.Extents.{chunk_at, extent_at, has_extent, has_home}
use Rattle.plan_records.specs.catalog_tables.Rules.{homes_at}
use Rattle.plan_records.specs.catalog_tables.Placing.{home_taken}
use Rattle.plan_records.specs.catalog_tables.Tables.{Tables}
use Rattle.plan_records.proofs.catalog_tables.PlacingLaws.{from_all}

pub extent_there : (t : Tables) (f i : ℕ) (hs : Homes) → extent_at t.extents f i ≡ Some hs → (has_extent t.extents f i ≡ true) × (homes_at t f i ≡ hs)
extent_there t f i hs = by (chunk_at t.extents (f, i / 256)) where
  at : Homes → Bool → Option Homes
  at x b = cond b (Some x) None

  there : (x : Homes) (b : Bool) → at x b ≡ Some hs → (b ≡ true) × (x ≡ hs)
  there x true e = (refl, cc)
  there x false e = absurd cc

  by : (o : Option (List Homes)) → option_and_then (λ chunk. at (get_or chunk (i % 256) []) (has_home (get_or chunk (i % 256) []))) o ≡ Some hs
      → (has_home (get_or (unwrap_or o []) (i % 256) []) ≡ true) × (get_or (unwrap_or o []) (i % 256) [] ≡ hs)
  by None e = absurd cc
  by (Some chunk) e = there (get_or chunk (i % 256) []) (has_home (get_or chunk (i % 256) [])) e

pub run_taken : (ms : List UnitMap) (h : Home) (n : ℕ) (m : UnitMap) (b : Bool) → slice_get ms h.disk ≡ Some m → OnTrue b (IsFreeRun m h.unit n) → OnTrue b (IsTrue (is_some (home_taken ms h n)))
run_taken ms h n m true there free = rw (there, from_all (is_free m) h.unit n free) refl
run_taken ms h n m false there free = tt
