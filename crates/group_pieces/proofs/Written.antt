-- What a write of a piece leaves on the copies of its extent, and on the new copy of a move.
use Rattle.std.proofs.Common.{◌≡◌, ◌≤◌, zero, suc, ℕ, List, [], ◌∷◌, Some, refl, sym, subst, ◌∙◌, ap, arith, length, take}
use Rattle.bay.specs.Image.{Range}
use Rattle.bay.specs.State.{BayState}
use Rattle.bay.specs.Moments.{NowOnly}
use Rattle.bay.proofs.Calls.{now_only, started, stops, widened}
use Rattle.bay.proofs.Images.{changes-same, changes-window, changes-within, same-refl}
use Rattle.asm_group.specs.Names.{Bytes}
use Rattle.asm_base.specs.declared.kinds.ExtentId.{ExtentId}
use Rattle.asm_formats.specs.Items.{Home}
use Rattle.record_laws.specs.group_engine.declared.flight.Flight.{Flight}
use Rattle.record_laws.specs.group_engine.Mounts.{IsReady, IsWhole, MountedGroup, slot_at}
use Rattle.record_laws.specs.group_engine.Own.{KeepsGroup}
use Rattle.record_laws.proofs.group_engine.Causes.{calls_keep}
use Rattle.group_pieces.specs.declared.copies.Place.{Place}
use Rattle.group_pieces.specs.Bytes.{UserBytes, WritesBytes}
use Rattle.group_pieces.specs.Copies.{HaveBut, PlacesOf}
use Rattle.group_pieces.specs.Marking.{left_of}
use Rattle.group_pieces.specs.Spare.{IsRunAt}
use Rattle.group_pieces.specs.Usable.{places_at}
use Rattle.group_pieces.specs.Writes.{SomeTook}
use Rattle.group_pieces.specs.Written.{FlightBytes, WritesPiece, HomeBytes, IsPlaceOfHome, IsPlain, MovedBytes}

-- ---- regions

-- no call
pub unwritten : (m : MountedGroup) (s : BayState) (region : ℕ → ℕ → Type 0) → IsWhole m → IsReady m s → ((slot k : ℕ) → region slot k → UserBytes m slot k) → WritesBytes m region s s
unwritten m s region whole ready user = record {
  attached = record { same = λ slot. refl };
  runs = started (λ x. changes-same region x x (same-refl x));
  user = user;
  ready = ready;
}

-- a larger region
pub writes_more : (m : MountedGroup) (s t : BayState) (small large : ℕ → ℕ → Type 0) → ((slot k : ℕ) → small slot k → large slot k) → ((slot k : ℕ) → large slot k → UserBytes m slot k)
    → WritesBytes m small s t → WritesBytes m large s t
writes_more m s t small large within user writes = record {
  attached = writes.attached;
  runs = widened (λ x y change. changes-within large small x y within change) writes.runs;
  user = user;
  ready = writes.ready;
}

pub home_user : (m : MountedGroup) (h : Home) (inner n slot k : ℕ) → HomeBytes m h inner n slot k → UserBytes m slot k
home_user m h inner n slot k inside = inside.0

pub moved_user : (m : MountedGroup) (x : ExtentId) (inner n slot k : ℕ) → MovedBytes m x inner n slot k → UserBytes m slot k
moved_user m x inner n slot k inside = inside.2.1.0

-- a write of a run is one at its home
pub home_writes : (m : MountedGroup) (s t : BayState) (h : Home) (inner n : ℕ) (p : Place) → IsRunAt m n p → IsPlaceOfHome m h inner p → WritesBytes m (Range p.slot p.at n) s t
    → WritesBytes m (HomeBytes m h inner n) s t
home_writes m s t h inner n p run at writes = writes_more m s t (Range p.slot p.at n) (HomeBytes m h inner n)
    (λ slot k inside. (
      writes.user slot k inside,
      ap (λ (d : ℕ). slot_at m.disks d) (sym at.0) ∙ run.slot ∙ ap (λ (j : ℕ). Some j) (sym inside.0),
      omega (arith, at.1, inside.1),
      omega (arith, at.1, inside.2),
    ))
    (home_user m h inner n) writes

shorter : (n : ℕ) (xs : List ℕ) → length (take n xs) ≤ length xs
shorter zero xs = omega arith
shorter (suc n) [] = omega arith
shorter (suc n) (x ∷ xs) = let rest = shorter n xs in omega (arith, rest)

-- a write of the first of some bytes at the home that a move goes to
pub copied_writes : (m : MountedGroup) (s t : BayState) (f : Flight) (x : ExtentId) (inner count : ℕ) (bytes : List ℕ) → f.x ≡ x → WritesBytes m (HomeBytes m f.to inner (length (take count bytes))) s t
    → WritesBytes m (FlightBytes m f x inner (length bytes)) s t
copied_writes m s t f x inner count bytes is writes = writes_more m s t (HomeBytes m f.to inner (length (take count bytes))) (FlightBytes m f x inner (length bytes))
    (λ slot k inside. (is, (inside.0, inside.1, inside.2, omega (arith, inside.3, shorter count bytes)))) (λ slot k inside. inside.1.0) writes

-- a write for the move that is on its way
pub moved_writes : (m : MountedGroup) (s t : BayState) (f : Flight) (x : ExtentId) (inner n : ℕ) → m.flight ≡ Some f → WritesBytes m (FlightBytes m f x inner n) s t → WritesBytes m (MovedBytes m x inner n) s t
moved_writes m s t f x inner n is writes = writes_more m s t (FlightBytes m f x inner n) (MovedBytes m x inner n) (λ slot k inside. (f, is, inside)) (moved_user m x inner n) writes

-- ---- the write of a piece

module _ {B : Type 0} (state : B → BayState) (m : MountedGroup) (x : ExtentId) (inner : ℕ) (bytes : Bytes) (failed : ℕ) where
  pub writes_piece : (flown new : MountedGroup) (start written moved end : B)
      → WritesBytes m (PlacesOf (places_at m x inner) (length bytes)) (state start) (state written)
      → NowOnly (state written) (HaveBut (places_at m x inner) failed bytes)
      → SomeTook (places_at m x inner) failed
      → KeepsGroup m flown (state written) (state moved)
      → WritesBytes m (MovedBytes m x inner (length bytes)) (state written) (state moved)
      → KeepsGroup flown new (state moved) (state end)
      → (failed ≡ 0 → left_of m x inner failed ≡ 0 → end ≡ moved)
      → WritesPiece state m x inner bytes failed new start end
  writes_piece flown new start written moved end writes done some flies copies records still = record {
    written = written;
    writes = writes;
    done = done;
    some = some;
    keeps = calls_keep flies records;
    rest = λ none left. subst (λ (b : B). WritesBytes m (MovedBytes m x inner (length bytes)) (state written) (state b)) (sym (still none left)) copies;
  }

  -- what nothing but the new copy of a move follows is there in the end
  pub stays_written : (new : MountedGroup) (start end : B) → WritesPiece state m x inner bytes failed new start end → IsPlain m x inner (length bytes) failed
      → NowOnly (state end) (HaveBut (places_at m x inner) failed bytes)
  stays_written new start end w plain =
      let region = MovedBytes m x inner (length bytes) in
      let has = HaveBut (places_at m x inner) failed bytes in
      now_only {P = has} {Q = has}
      (λ y z was step p among out. changes-window region y z p.slot p.at (length bytes) (λ k low high moved. plain.apart p.slot k moved (p, among, (refl, low, high))) step ∙ was p among out)
      (stops (w.rest plain.none plain.left).runs) w.done
