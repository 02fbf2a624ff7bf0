use Rattle.std.proofs.Common.{length, List, Option, ap, sym, subst, ◌∙◌}
use Rattle.std.specs.Option.{ForSome}
use Rattle.bay.specs.Image.{Same}
use Rattle.bay.specs.Moments.{Runs}
use Rattle.group_pieces.specs.declared.copies.Place.{Place}
use Rattle.group_pieces.specs.Copies.{AllFailed, AreUsable, IsSlotOfPlace, SomeHas}
use Rattle.group_pieces.specs.Usable.{AreNone, first_disk}
use Rattle.group_pieces.proofs.Agreeing.{read_agrees}
use Rattle.group_pieces.proofs.Keeping.{no_reads, reads_group, reads_keep, still_mounted}
use Rattle.group_pieces.proofs.Places.{first_is_there, none_is_there, place_own, places_usable}
use Rattle.group_pieces.proofs.Risen.{is_fault}
use Rattle.group_pieces.proofs.UsableCopies.{short_inner}
use Rattle.group_pieces.proofs.reading.read_piece.Goals as goal

pub usable_copies-places-requires : goal.usable_copies-places-requires
usable_copies-places-requires g c = record {
  shape = (c.requires.takes c.requires.mounted).0.shape;
  short = short_inner c.args.m.now.catalog.shape c.args.x.index c.args.inner (length c.args.buf.now) (c.requires.takes c.requires.mounted).0.shape c.requires.piece;
}

pub read_copies-requires : goal.read_copies-requires
read_copies-requires g c = record {
  usable = subst (λ (l : List (Option Place)). AreUsable l (length c.args.buf.now) (g.B.Bay.state c.args.bay.now)) (sym c.usable_copies-places.ensures.value)
      (places_usable c.args.m.now (g.B.Bay.state c.args.bay.now) c.args.x c.args.inner (length c.args.buf.now) (c.requires.takes c.requires.mounted).0 (c.requires.takes c.requires.mounted).1 c.requires.piece);
}

pub returns-in_default-clause-reads : goal.returns-in_default-clause-reads
returns-in_default-clause-reads g c = no_reads c.args.m.now (g.B.Bay.state c.args.bay.now) (c.requires.takes c.requires.mounted).1

pub returns-in-Ok-clause-reads : goal.returns-in-Ok-clause-reads
returns-in-Ok-clause-reads g c =
    let s = g.B.Bay.state c.args.bay.now in
    let t = g.B.Bay.state c.read_copies.new.bay in
    let m = c.args.m.now in
    let run = subst (λ (l : List (Option Place)). Runs (IsSlotOfPlace l) Same s t) c.usable_copies-places.ensures.value c.read_copies.ensures.runs in
    reads_group m s t _ (c.requires.takes c.requires.mounted).0 (c.requires.takes c.requires.mounted).1
    (place_own m s c.args.x c.args.inner (length c.args.buf.now) (c.requires.takes c.requires.mounted).0 (c.requires.takes c.requires.mounted).1 c.requires.piece) c.read_copies.ensures.attached run

pub returns-in-Err-clause-reads : goal.returns-in-Err-clause-reads
returns-in-Err-clause-reads g c =
    let s = g.B.Bay.state c.args.bay.now in
    let t = g.B.Bay.state c.read_copies.new.bay in
    let m = c.args.m.now in
    let run = subst (λ (l : List (Option Place)). Runs (IsSlotOfPlace l) Same s t) c.usable_copies-places.ensures.value c.read_copies.ensures.runs in
    reads_group m s t _ (c.requires.takes c.requires.mounted).0 (c.requires.takes c.requires.mounted).1
    (place_own m s c.args.x c.args.inner (length c.args.buf.now) (c.requires.takes c.requires.mounted).0 (c.requires.takes c.requires.mounted).1 c.requires.piece) c.read_copies.ensures.attached run

pub returns-in_default-clause-keeps : goal.returns-in_default-clause-keeps
returns-in_default-clause-keeps g c =
    let s = g.B.Bay.state c.args.bay.now in
    let takes = c.requires.takes c.requires.mounted in
    reads_keep c.args.m.now s s takes.0 (no_reads c.args.m.now s takes.1)

pub returns-in-Ok-clause-keeps : goal.returns-in-Ok-clause-keeps
returns-in-Ok-clause-keeps g c =
    let s = g.B.Bay.state c.args.bay.now in
    let t = g.B.Bay.state c.read_copies.new.bay in
    let m = c.args.m.now in
    let takes = c.requires.takes c.requires.mounted in
    let run = subst (λ (l : List (Option Place)). Runs (IsSlotOfPlace l) Same s t) c.usable_copies-places.ensures.value c.read_copies.ensures.runs in
    reads_keep m s t takes.0 (reads_group m s t _ takes.0 takes.1 (place_own m s c.args.x c.args.inner (length c.args.buf.now) takes.0 takes.1 c.requires.piece) c.read_copies.ensures.attached run)

pub returns-in-Err-clause-keeps : goal.returns-in-Err-clause-keeps
returns-in-Err-clause-keeps g c =
    let s = g.B.Bay.state c.args.bay.now in
    let t = g.B.Bay.state c.read_copies.new.bay in
    let m = c.args.m.now in
    let takes = c.requires.takes c.requires.mounted in
    let run = subst (λ (l : List (Option Place)). Runs (IsSlotOfPlace l) Same s t) c.usable_copies-places.ensures.value c.read_copies.ensures.runs in
    reads_keep m s t takes.0 (reads_group m s t _ takes.0 takes.1 (place_own m s c.args.x c.args.inner (length c.args.buf.now) takes.0 takes.1 c.requires.piece) c.read_copies.ensures.attached run)

pub returns-in_default-clause-cause : goal.returns-in_default-clause-cause
returns-in_default-clause-cause g c = subst AreNone c.usable_copies-places.ensures.value (none_is_there c.usable_copies-places.result (sym c.first_disk.ensures ∙ c.in_default.is))

pub returns-in-Err-clause-cause : goal.returns-in-Err-clause-cause
returns-in-Err-clause-cause g c =
    let s = g.B.Bay.state c.args.bay.now in
    let t = g.B.Bay.state c.read_copies.new.bay in
    is_fault c.args.m.now c.args.x c.args.inner s t c.in-Some.disk
    (subst (λ (l : List (Option Place)). AllFailed l s t) c.usable_copies-places.ensures.value c.in-Err.ensures.cause)
    (ap first_disk (sym c.usable_copies-places.ensures.value) ∙ sym c.in-Some.ensures)

pub returns-in-Ok-clause-some : goal.returns-in-Ok-clause-some
returns-in-Ok-clause-some g c = λ none.
    first_is_there c.usable_copies-places.result c.in-Some.disk (sym c.in-Some.ensures) (subst AreNone (sym c.usable_copies-places.ensures.value) none)

pub returns-in-Ok-clause-mounted : goal.returns-in-Ok-clause-mounted
returns-in-Ok-clause-mounted g c = λ n group kept mounts.
    still_mounted n c.args.m.now (g.B.Bay.state c.args.bay.now) (g.B.Bay.state c.read_copies.new.bay) group kept _ (g.met.B.Bay.sound c.args.bay.now) c.read_copies.ensures.attached c.read_copies.ensures.runs mounts

pub returns-in-Err-clause-mounted : goal.returns-in-Err-clause-mounted
returns-in-Err-clause-mounted g c = λ n group kept mounts.
    still_mounted n c.args.m.now (g.B.Bay.state c.args.bay.now) (g.B.Bay.state c.read_copies.new.bay) group kept _ (g.met.B.Bay.sound c.args.bay.now) c.read_copies.ensures.attached c.read_copies.ensures.runs mounts

pub returns-in_default-clause-mounted : goal.returns-in_default-clause-mounted
returns-in_default-clause-mounted g c = λ n group kept mounts. mounts

pub returns-in-Ok-clause-agrees : goal.returns-in-Ok-clause-agrees
returns-in-Ok-clause-agrees g c = λ n group kept mounts.
    let s = g.B.Bay.state c.args.bay.now in
    let t = g.B.Bay.state c.read_copies.new.bay in
    read_agrees n c.args.m.now s group kept (g.met.B.Bay.sound c.args.bay.now) mounts (c.requires.takes c.requires.mounted).1 c.args.x c.args.inner (length c.args.buf.now) c.requires.piece
    t c.read_copies.new.buf _ c.read_copies.ensures.runs c.read_copies.auto.buf
    (subst (λ (l : List (Option Place)). ForSome t.holds (SomeHas l c.read_copies.new.buf)) c.usable_copies-places.ensures.value c.in-Ok.ensures.bytes)
