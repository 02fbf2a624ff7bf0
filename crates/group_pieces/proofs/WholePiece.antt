-- What the disks hold of a group over the write of a piece: the copies, the move that is on its way, and what is recorded.
use Rattle.std.proofs.Common.{ℕ, [], ◌∷◌, length, Result, Ok, Err, Option, refl, arith}
use Rattle.bay.specs.Moments.{LeavesOnly, NowOnly}
use Rattle.bay.specs.State.{BayState, IsSound}
use Rattle.bay.proofs.Calls.{leaves_less, leaves_on}
use Rattle.asm_group.specs.Group.{Group}
use Rattle.asm_group.specs.Names.{Bytes}
use Rattle.asm_base.specs.declared.kinds.ExtentId.{ExtentId}
use Rattle.refusal_lines.specs.declared.refusal.Refusal.{Refusal}
use Rattle.asm_images.specs.Kept.{Kept}
use Rattle.record_laws.specs.group_of.Describing.{KeepsNames}
use Rattle.record_laws.specs.group_engine.declared.flight.Flight.{Flight}
use Rattle.record_laws.specs.group_engine.Commits.{StandsIn}
use Rattle.record_laws.specs.group_engine.Making.{IsShut}
use Rattle.record_laws.specs.group_engine.Mounts.{IsMounted, IsReady, IsWhole, MountedGroup}
use Rattle.record_laws.proofs.group_engine.Standings.{stands_at_rest}
use Rattle.record_laws.proofs.Attaching.{other_flights_mount}
use Rattle.group_pieces.specs.declared.writing.WriteError.{WriteError}
use Rattle.group_pieces.specs.declared.writing.WriteError.TheVariants as error
use Rattle.group_pieces.specs.Bytes.{WritesBytes}
use Rattle.group_pieces.specs.Copies.{HaveBut}
use Rattle.group_pieces.specs.Failing.{AreServing, CostsFaults}
use Rattle.group_pieces.specs.Held.{FlightIsSpare, IsWritten, PieceHeld, PieceStays, RecordsHeld, TakesBytes, WritesHeld, piece_freed}
use Rattle.group_pieces.specs.Usable.{FitsExtent, places_at}
use Rattle.group_pieces.specs.Written.{MovedBytes}
use Rattle.group_pieces.proofs.Behind.{piece_unwritten}
use Rattle.group_pieces.proofs.Flying.{flying_moments, flying_mounts, has_still}
use Rattle.group_pieces.proofs.Holding.{held_failing}
use Rattle.group_pieces.proofs.Steps.{mounted_stays, shut_stays}

-- no copy took the bytes
pub piece_failing : (m : MountedGroup) (x : ExtentId) (inner : ℕ) (bytes : Bytes) (why : WriteError) (e : Refusal) (s t : BayState) → IsMounted m → WritesHeld m x inner bytes (Err why) s t
    → PieceHeld m x inner bytes (Err e) m s t
piece_failing m x inner bytes why e s t mounted writes = record {
  moments = λ n g kept is. leaves_less (λ y. stands_at_rest n m.register.id (piece_freed x inner (length bytes) g ∷ []) kept y is.mounts.begun) (writes.moments n g kept is.mounts);
  done = tt;
  spare = λ still spare. spare;
  refused = λ still n g kept mounts. writes.mounted n g kept mounts;
  mounted = mounted_stays m (Err e) mounted;
  turns = λ still. omega arith;
  names = λ still. record { files = refl; nodes = refl; templates = refl };
}

-- nothing was done
pub piece_shut : (m : MountedGroup) (x : ExtentId) (inner : ℕ) (bytes : Bytes) (e : Refusal) (s : BayState) → IsSound s → FitsExtent m.catalog.shape x.index inner (length bytes) → IsShut m.access e
    → PieceHeld m x inner bytes (Err e) m s s
piece_shut m x inner bytes e s sound piece shut = record {
  moments = λ n g kept is. leaves_less (λ y. stands_at_rest n m.register.id (piece_freed x inner (length bytes) g ∷ []) kept y is.mounts.begun) ((same is.mounts.whole is.mounts.ready).moments n g kept is.mounts);
  done = tt;
  spare = λ still spare. spare;
  refused = λ still n g kept mounts. (same mounts.whole mounts.ready).mounted n g kept mounts;
  mounted = shut_stays m e shut;
  turns = λ still. omega arith;
  names = λ still. record { files = refl; nodes = refl; templates = refl };
}
  where
    same : IsWhole m → IsReady m s → WritesHeld m x inner bytes (Err error.Lost) s s
    same whole ready = held_failing m s s sound sound x inner bytes piece (piece_unwritten m s x inner (length bytes) whole ready piece) error.Lost

module _ (m : MountedGroup) (flown : Option Flight) (s t u v : BayState) (x : ExtentId) (inner : ℕ) (bytes : Bytes) (piece : FitsExtent m.catalog.shape x.index inner (length bytes)) (failed : ℕ)
    (writes : WritesHeld m x inner bytes (Ok failed) s t) (has : NowOnly t (HaveBut (places_at m x inner) failed bytes)) (serving : AreServing m.register.value.entries failed)
    (flies : WritesBytes m (MovedBytes m x inner (length bytes)) t u) where
  abbrev mid : MountedGroup
  mid = record m { flight = flown }

  is_written : (n : ℕ) (g : Group) (kept : Kept) → TakesBytes n m s g kept → IsWritten mid x inner failed u n g kept bytes
  is_written n g kept is =
      let there = writes.mounted n g kept is.mounts in
      record {
        mounts = other_flights_mount u n m (piece_freed x inner (length bytes) g) kept flown (flying_mounts n m t u (piece_freed x inner (length bytes) g) kept there x inner (length bytes) piece is.spare flies);
        piece = piece;
        has = has_still m t there.whole there.ready x inner (length bytes) piece is.spare bytes failed u refl has flies;
        serving = serving;
        turns = is.turns;
      }

  all_moments : (answer : Result (Unit {0}) Refusal) (new : MountedGroup) → RecordsHeld mid x inner failed answer new u v → (n : ℕ) (g : Group) (kept : Kept) → TakesBytes n m s g kept
      → LeavesOnly s v (StandsIn n m.register.id (piece_freed x inner (length bytes) g ∷ []) kept)
  all_moments answer new records n g kept is =
      let h = piece_freed x inner (length bytes) g in
      leaves_on (leaves_less (λ y. stands_at_rest n m.register.id (h ∷ []) kept y is.mounts.begun) (writes.moments n g kept is.mounts))
      (leaves_on (leaves_less (λ y. stands_at_rest n m.register.id (h ∷ []) kept y is.mounts.begun) (flying_moments n m t u h kept (writes.mounted n g kept is.mounts) x inner (length bytes) piece is.spare flies))
      (records.moments n g kept bytes (is_written n g kept is)))

  -- what failed was recorded
  pub piece_done : (new : MountedGroup) → RecordsHeld mid x inner failed (Ok tt) new u v → IsMounted new → (FlightIsSpare m → FlightIsSpare new) → CostsFaults mid failed new → KeepsNames m.catalog.tables new.catalog.tables
      → PieceHeld m x inner bytes (Ok failed) new s v
  piece_done new records mounted spares costs names = record {
    moments = all_moments (Ok tt) new records;
    done = λ n g kept is. records.done n g kept bytes (is_written n g kept is);
    spare = λ still. spares;
    refused = λ still. tt;
    mounted = mounted;
    turns = λ still. costs serving;
    names = λ still. names;
  }

  -- it couldn't be
  pub piece_refused : (new : MountedGroup) (why e : Refusal) → RecordsHeld mid x inner failed (Err why) new u v → PieceStays (Err e) new → (IsMounted new → ⊥) → PieceHeld m x inner bytes (Err e) new s v
  piece_refused new why e records stays shut = record {
    moments = all_moments (Err why) new records;
    done = tt;
    spare = λ still. absurd (shut still);
    refused = λ still. absurd (shut still);
    mounted = stays;
    turns = λ still. absurd (shut still);
    names = λ still. absurd (shut still);
  }
