-- The mark of a copy that is there may be cleared, and the record in which a disk is Online may come next.
use Rattle.std.proofs.Common.{◌≡◌, ℕ, Bool, true, false, cond, List, [], ◌∷◌, map, get_or, refl, sym, subst, Option, Some, None, arith}
use Rattle.std.specs.Prelude.{◌/◌, ◌%◌, ◌==◌, IsTrue}
use Rattle.std.specs.Option.{is_some, option_and_then}
use Rattle.std.proofs.lemmas.Option.{none-some}
use Rattle.asm_group.specs.declared.Mode.{Mode}
use Rattle.asm_formats.specs.Items.{Homes}
use Rattle.asm_formats.specs.Sets.{has_bit}
use Rattle.asm_formats.specs.Status.{Entry, Status}
use Rattle.file_extents.specs.asm_images.RecordLaws.{bare}
use Rattle.file_extents.specs.catalog.ExtentPlans.{MayMark}
use Rattle.file_extents.specs.catalog_tables.Rules.{are_marks_of, homes_at}
use Rattle.file_extents.specs.catalog_tables.Tables.{Tables}
use Rattle.file_extents.specs.extent_map.Extents.{chunk_at, extent_at, has_home}
use Rattle.file_extents.specs.group_engine.NextRecords.{KeepsDisks}
use Rattle.file_extents.specs.status_table.Changes.{entry_with_mode, status_with_mode}

-- ---- marks

chunk_there : (t : Tables) (f i : ℕ) (hs : Homes) → extent_at t.extents f i ≡ Some hs → IsTrue (is_some (chunk_at t.extents (f, i / 256)))
chunk_there t f i hs is = by (chunk_at t.extents (f, i / 256)) is
  where
    by : (o : Option (List Homes)) → option_and_then (λ chunk. cond (has_home (get_or chunk (i % 256) [])) (Some (get_or chunk (i % 256) [])) None) o ≡ Some hs → IsTrue (is_some o)
    by None e = absurd (none-some hs e)
    by (Some chunk) e = refl

no_marks : (hs : Homes) → are_marks_of (0, hs) ≡ true
unfolding has_bit
no_marks hs = refl

pub may_clear : (t : Tables) (f i : ℕ) (hs : Homes) → extent_at t.extents f i ≡ Some hs → MayMark t f i 0
may_clear t f i hs is = record { chunk = chunk_there t f i hs is; few = omega arith; copies = no_marks (homes_at t f i) }

-- ---- modes

module _ (d : ℕ) (mode : Mode) (since : ℕ) where
  bare_mode : (e : Entry) → bare (entry_with_mode d mode since e) ≡ bare e
  bare_mode e = go (e.number == d)
    where
      go : (b : Bool) → bare (cond b (record e { mode = mode; since = since }) e) ≡ bare e
      go true = refl
      go false = refl

  all_bare : (es : List Entry) → map bare (map (entry_with_mode d mode since) es) ≡ map bare es
  all_bare [] = refl
  all_bare (e ∷ es) = λ i. bare_mode e i ∷ all_bare es i

  -- another mode of one disk, the same disks
  pub mode_disks : (r next : Status) → next ≡ status_with_mode r d mode since → KeepsDisks r next
  mode_disks r next is = subst (λ (q : Status). KeepsDisks r q) (sym is) (record {
    id = refl;
    gone = refl;
    holders = refl;
    next_holders = refl;
    directories = refl;
    entries = all_bare r.entries;
  })
