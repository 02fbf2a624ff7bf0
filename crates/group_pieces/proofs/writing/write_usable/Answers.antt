use Rattle.std.proofs.Common.{length, List, Option, ap, refl, sym, subst, ◌∙◌}
use Rattle.bay.specs.Image.{ChangesOnly}
use Rattle.bay.specs.Moments.{Runs, NowOnly}
use Rattle.group_pieces.specs.declared.copies.Place.{Place}
use Rattle.group_pieces.specs.Copies.{AreCopyPlacesApart, AreUsable, HasOnlyFailedPlaces, HaveBut, IsSlotOfPlace, PlacesOf}
use Rattle.group_pieces.specs.Usable.{AreNone, first_disk, places_at}
use Rattle.group_pieces.specs.Writes.{ArePlacesNumbered, have_failed}
use Rattle.group_pieces.proofs.Behind.{piece_unwritten, piece_writes}
use Rattle.group_pieces.proofs.FailedModes.{failed_serve}
use Rattle.group_pieces.proofs.Holding.{held_failing, held_taken}
use Rattle.group_pieces.proofs.Keeping.{writes_keep}
use Rattle.group_pieces.proofs.Places.{first_is_there, none_is_there, places_apart, places_usable}
use Rattle.group_pieces.proofs.Risen.{all_failed, are_risen, is_fault, some_took}
use Rattle.group_pieces.proofs.UsableCopies.{short_inner}
use Rattle.group_pieces.proofs.writing.write_usable.Goals as goal

pub usable_copies-places-requires : goal.usable_copies-places-requires
usable_copies-places-requires g c =
    let whole = (c.requires.takes c.requires.mounted).0 in
    record { shape = whole.shape; short = short_inner c.args.m.now.catalog.shape c.args.x.index c.args.inner (length c.args.bytes.now) whole.shape c.requires.piece }

pub write_copies-failed-requires : goal.write_copies-failed-requires
write_copies-failed-requires g c =
    let m = c.args.m.now in
    let s = g.B.Bay.state c.args.bay.now in
    let n = length c.args.bytes.now in
    let takes = c.requires.takes c.requires.mounted in
    record {
      usable = subst (λ (l : List (Option Place)). AreUsable l n s) (sym c.usable_copies-places.ensures.value) (places_usable m s c.args.x c.args.inner n takes.0 takes.1 c.requires.piece);
      apart = subst AreCopyPlacesApart (sym c.usable_copies-places.ensures.value) (places_apart m s c.args.x c.args.inner n takes.0 takes.1 c.requires.piece c.usable_copies-places.ensures.apart);
    }

pub have_failed-requires : goal.have_failed-requires
have_failed-requires g c =
    let m = c.args.m.now in
    let s = g.B.Bay.state c.args.bay.now in
    let n = length c.args.bytes.now in
    let takes = c.requires.takes c.requires.mounted in
    subst ArePlacesNumbered (sym c.usable_copies-places.ensures.value) (λ p among. (places_usable m s c.args.x c.args.inner n takes.0 takes.1 c.requires.piece p among).number)

pub returns-in_default : goal.returns-in_default
returns-in_default g c =
    let m = c.args.m.now in
    let s = g.B.Bay.state c.args.bay.now in
    let takes = c.requires.takes c.requires.mounted in
    let sound = g.met.B.Bay.sound c.args.bay.now in
    let writes = piece_unwritten m s c.args.x c.args.inner (length c.args.bytes.now) takes.0 takes.1 c.requires.piece in
    record {
      keeps = writes_keep m s s _ takes.0 writes;
      writes = writes;
      done = tt;
      failed = tt;
      serving = tt;
      some = tt;
      cause = subst AreNone c.usable_copies-places.ensures.value (none_is_there c.usable_copies-places.result (sym c.first_disk.ensures ∙ c.in_default.is));
      holds = held_failing m s s sound sound c.args.x c.args.inner c.args.bytes.now c.requires.piece writes _;
      lost = λ none. refl;
    }

pub returns-then-have_failed : goal.returns-then-have_failed
returns-then-have_failed g c =
    let m = c.args.m.now in
    let s = g.B.Bay.state c.args.bay.now in
    let t = g.B.Bay.state c.write_copies-failed.new.bay in
    let n = length c.args.bytes.now in
    let takes = c.requires.takes c.requires.mounted in
    let value = c.usable_copies-places.ensures.value in
    let failed = c.write_copies-failed.result in
    let writes = piece_writes m s c.args.x c.args.inner n takes.0 takes.1 c.requires.piece t c.write_copies-failed.ensures.attached
    (subst (λ (l : List (Option Place)). Runs (IsSlotOfPlace l) (ChangesOnly (PlacesOf l n)) s t) value c.write_copies-failed.ensures.runs) in
    record {
      keeps = writes_keep m s t _ takes.0 writes;
      writes = writes;
      done = tt;
      failed = tt;
      serving = tt;
      some = tt;
      cause = is_fault m c.args.x c.args.inner s t c.in-Some.disk
          (all_failed m c.args.x c.args.inner failed s t (λ p among. (places_usable m s c.args.x c.args.inner n takes.0 takes.1 c.requires.piece p among).number)
          (subst (λ (l : List (Option Place)). HasOnlyFailedPlaces l failed s t) value c.write_copies-failed.ensures.failed)
          (ap (have_failed failed) (sym value) ∙ sym c.have_failed.ensures ∙ c.if-have_failed.true))
          (ap first_disk (sym value) ∙ sym c.in-Some.ensures);
      holds = held_failing m s t (g.met.B.Bay.sound c.args.bay.now) (g.met.B.Bay.sound c.write_copies-failed.new.bay) c.args.x c.args.inner c.args.bytes.now c.requires.piece writes _;
      lost = λ none. absurd (first_is_there c.usable_copies-places.result c.in-Some.disk (sym c.in-Some.ensures) (subst AreNone (sym value) none));
    }

pub returns-else-have_failed : goal.returns-else-have_failed
returns-else-have_failed g c =
    let m = c.args.m.now in
    let s = g.B.Bay.state c.args.bay.now in
    let t = g.B.Bay.state c.write_copies-failed.new.bay in
    let n = length c.args.bytes.now in
    let takes = c.requires.takes c.requires.mounted in
    let value = c.usable_copies-places.ensures.value in
    let failed = c.write_copies-failed.result in
    let alone = subst (λ (l : List (Option Place)). HasOnlyFailedPlaces l failed s t) value c.write_copies-failed.ensures.failed in
    let has = subst (λ (l : List (Option Place)). NowOnly t (HaveBut l failed c.args.bytes.now)) value c.write_copies-failed.ensures.done in
    let writes = piece_writes m s c.args.x c.args.inner n takes.0 takes.1 c.requires.piece t c.write_copies-failed.ensures.attached
    (subst (λ (l : List (Option Place)). Runs (IsSlotOfPlace l) (ChangesOnly (PlacesOf l n)) s t) value c.write_copies-failed.ensures.runs) in
    record {
      keeps = writes_keep m s t _ takes.0 writes;
      writes = writes;
      done = has;
      failed = are_risen m c.args.x c.args.inner failed s t alone;
      serving = failed_serve m c.args.x c.args.inner failed s t alone;
      some = some_took failed (places_at m c.args.x c.args.inner) (ap (have_failed failed) (sym value) ∙ sym c.have_failed.ensures ∙ c.if-have_failed.false);
      cause = tt;
      holds = held_taken m s t (g.met.B.Bay.sound c.args.bay.now) (g.met.B.Bay.sound c.write_copies-failed.new.bay) c.args.x c.args.inner c.args.bytes.now c.requires.piece writes failed has;
      lost = λ none. absurd (first_is_there c.usable_copies-places.result c.in-Some.disk (sym c.in-Some.ensures) (subst AreNone (sym value) none));
    }
