use Rattle.std.proofs.Common.{◌≡◌, length, ap, refl, subst, sym, ◌∙◌, Ok, Err}
use Rattle.record_laws.specs.group_engine.Mounts.{MountedGroup}
use Rattle.refusal_lines.specs.declared.refusal.Refusal.{Refusal}
use Rattle.group_pieces.specs.Marking.{AreMarked, MarksMore, left_of}
use Rattle.group_pieces.specs.Pieces.{WritePieceCause}
use Rattle.record_laws.proofs.group_engine.Causes.{calls_keep, cause_on}
use Rattle.group_pieces.proofs.Risen.{rose_later}
use Rattle.group_pieces.proofs.Steps.{fault_cause, piece_cause, takes_next, unrecorded_stays}
use Rattle.group_pieces.proofs.UsableCopies.{short_inner}
use Rattle.group_pieces.specs.Failing.{CostsFaults}
use Rattle.group_pieces.specs.Held.{RecordsHeld}
use Rattle.group_pieces.proofs.Flying.{spare_still}
use Rattle.group_pieces.proofs.WholePiece.{piece_done, piece_failing, piece_refused}
use Rattle.group_pieces.proofs.Written.{writes_piece, stays_written}
use Rattle.group_pieces.proofs.piece.write_mounted.Goals as goal

pub follow_move-requires : goal.follow_move-requires
follow_move-requires g c = record {
  mounted = c.requires.mounted;
  takes = takes_next c.args.m.now c.args.m.now (g.B.Bay.state c.args.bay.now) (g.B.Bay.state c.write_usable.new.bay) c.write_usable.ensures.keeps;
  short = short_inner c.args.m.now.catalog.shape c.args.x.index c.args.inner (length c.args.bytes.now) (c.requires.takes c.requires.mounted).0.shape c.requires.piece;
}

pub settle-requires : goal.settle-requires
settle-requires g c = record {
  mounted = ap (λ (q : MountedGroup). q.access) c.follow_move.ensures.same ∙ c.requires.mounted;
  takes = takes_next c.args.m.now c.follow_move.new.m (g.B.Bay.state c.write_usable.new.bay) (g.B.Bay.state c.follow_move.new.bay) c.follow_move.ensures.keeps;
  short = short_inner c.args.m.now.catalog.shape c.args.x.index c.args.inner (length c.args.bytes.now) (c.requires.takes c.requires.mounted).0.shape c.requires.piece;
}

pub returns-in-Ok-settle-clause-keeps : goal.returns-in-Ok-settle-clause-keeps
returns-in-Ok-settle-clause-keeps g c = calls_keep c.write_usable.ensures.keeps (calls_keep c.follow_move.ensures.keeps c.settle.ensures.goes.keeps)

pub returns-in-Ok-settle-clause-failed : goal.returns-in-Ok-settle-clause-failed
returns-in-Ok-settle-clause-failed g c =
    rose_later c.args.m.now c.in-Ok.failed (g.B.Bay.state c.args.bay.now) (g.B.Bay.state c.write_usable.new.bay) (g.B.Bay.state c.settle.new.bay)
    (calls_keep c.follow_move.ensures.keeps c.settle.ensures.goes.keeps).runs.faults c.in-Ok.ensures.failed

pub returns-in-Ok-settle-clause-some : goal.returns-in-Ok-settle-clause-some
returns-in-Ok-settle-clause-some g c = λ none. let some = c.in-Ok.ensures.some in none some.0 some.1

pub returns-in-Ok-settle-clause-marked : goal.returns-in-Ok-settle-clause-marked
returns-in-Ok-settle-clause-marked g c =
    subst (λ (q : MountedGroup). AreMarked q c.args.x c.args.inner c.in-Ok.failed c.settle.new.m.catalog.tables) c.follow_move.ensures.same c.in-Ok-settle.ensures.marked

pub returns-in-Ok-settle-clause-offline : goal.returns-in-Ok-settle-clause-offline
returns-in-Ok-settle-clause-offline g c = c.in-Ok-settle.ensures.offline

pub returns-in-Err-settle-clause-keeps : goal.returns-in-Err-settle-clause-keeps
returns-in-Err-settle-clause-keeps g c = calls_keep c.write_usable.ensures.keeps (calls_keep c.follow_move.ensures.keeps c.settle.ensures.goes.keeps)

pub returns-in-Err-settle-clause-cause : goal.returns-in-Err-settle-clause-cause
returns-in-Err-settle-clause-cause g c =
    let s = g.B.Bay.state c.args.bay.now in
    let t = g.B.Bay.state c.settle.new.bay in
    piece_cause c.args.m.now c.settle.new.m c.args.x c.args.inner s t c.in-Err-settle.refusal
    (cause_on (calls_keep c.write_usable.ensures.keeps c.follow_move.ensures.keeps) t c.settle.new.m (ap (λ (q : MountedGroup). q.access) c.follow_move.ensures.same ∙ c.requires.mounted) c.in-Err-settle.refusal c.in-Err-settle.ensures.goes.cause)

pub returns-in-Err-clause-keeps : goal.returns-in-Err-clause-keeps
returns-in-Err-clause-keeps g c = c.write_usable.ensures.keeps

pub returns-in-Err-clause-cause : goal.returns-in-Err-clause-cause
returns-in-Err-clause-cause g c =
    let m = c.args.m.now in
    let s = g.B.Bay.state c.args.bay.now in
    let t = g.B.Bay.state c.write_usable.new.bay in
    subst (λ (r : Refusal). WritePieceCause m c.args.x c.args.inner m s t r) (sym c.refusal_of.ensures) (fault_cause m m c.args.x c.args.inner s t c.in-Err.error c.in-Err.ensures.cause)

pub returns-in-Ok-settle-clause-written : goal.returns-in-Ok-settle-clause-written
returns-in-Ok-settle-clause-written g c =
    let m = c.args.m.now in
    writes_piece g.B.Bay.state m c.args.x c.args.inner c.args.bytes.now c.in-Ok.failed c.follow_move.new.m c.settle.new.m c.args.bay.now c.write_usable.new.bay c.follow_move.new.bay c.settle.new.bay
    c.write_usable.ensures.writes c.in-Ok.ensures.done c.in-Ok.ensures.some c.follow_move.ensures.keeps c.follow_move.ensures.writes c.settle.ensures.goes.keeps
    (subst (λ (q : MountedGroup). c.in-Ok.failed ≡ 0 → left_of q c.args.x c.args.inner c.in-Ok.failed ≡ 0 → c.settle.new.bay ≡ c.follow_move.new.bay) c.follow_move.ensures.same c.settle.ensures.still)

pub returns-in-Ok-settle-clause-done : goal.returns-in-Ok-settle-clause-done
returns-in-Ok-settle-clause-done g c =
    stays_written g.B.Bay.state c.args.m.now c.args.x c.args.inner c.args.bytes.now c.in-Ok.failed c.settle.new.m c.args.bay.now c.settle.new.bay (returns-in-Ok-settle-clause-written g c)

pub returns-in-Ok-settle-clause-held : goal.returns-in-Ok-settle-clause-held
returns-in-Ok-settle-clause-held g c =
    let m = c.args.m.now in
    let t = g.B.Bay.state c.write_usable.new.bay in
    let u = g.B.Bay.state c.follow_move.new.bay in
    let v = g.B.Bay.state c.settle.new.bay in
    let more = subst (λ (q : MountedGroup). MarksMore q.catalog.tables c.settle.new.m.catalog.tables) c.follow_move.ensures.same c.in-Ok-settle.ensures.places in
    piece_done m c.follow_move.new.m.flight (g.B.Bay.state c.args.bay.now) t u v c.args.x c.args.inner c.args.bytes.now c.requires.piece c.in-Ok.failed c.in-Ok.ensures.holds c.in-Ok.ensures.done c.in-Ok.ensures.serving
    c.follow_move.ensures.writes c.settle.new.m
    (subst (λ (q : MountedGroup). RecordsHeld q c.args.x c.args.inner c.in-Ok.failed (Ok tt) c.settle.new.m u v) c.follow_move.ensures.same c.in-Ok-settle.ensures.held)
    c.in-Ok-settle.ensures.goes.mounted
    (spare_still m c.settle.new.m (c.requires.takes c.requires.mounted).0.are_tables (calls_keep c.follow_move.ensures.keeps c.settle.ensures.goes.keeps).same more)
    (subst (λ (q : MountedGroup). CostsFaults q c.in-Ok.failed c.settle.new.m) c.follow_move.ensures.same c.in-Ok-settle.ensures.turns) more.names

pub returns-in-Err-settle-clause-held : goal.returns-in-Err-settle-clause-held
returns-in-Err-settle-clause-held g c =
    let m = c.args.m.now in
    let t = g.B.Bay.state c.write_usable.new.bay in
    let u = g.B.Bay.state c.follow_move.new.bay in
    let v = g.B.Bay.state c.settle.new.bay in
    piece_refused m c.follow_move.new.m.flight (g.B.Bay.state c.args.bay.now) t u v c.args.x c.args.inner c.args.bytes.now c.requires.piece c.in-Ok.failed c.in-Ok.ensures.holds c.in-Ok.ensures.done c.in-Ok.ensures.serving
    c.follow_move.ensures.writes c.settle.new.m c.in-Err-settle.refusal _
    (subst (λ (q : MountedGroup). RecordsHeld q c.args.x c.args.inner c.in-Ok.failed (Err c.in-Err-settle.refusal) c.settle.new.m u v) c.follow_move.ensures.same c.in-Err-settle.ensures.held)
    (unrecorded_stays c.follow_move.new.m c.settle.new.m u v _ c.in-Err-settle.ensures.goes.cause) c.in-Err-settle.ensures.shut

pub returns-in-Err-clause-held : goal.returns-in-Err-clause-held
returns-in-Err-clause-held g c =
    piece_failing c.args.m.now c.args.x c.args.inner c.args.bytes.now c.in-Err.error _ (g.B.Bay.state c.args.bay.now) (g.B.Bay.state c.write_usable.new.bay) c.requires.mounted c.in-Err.ensures.holds

pub returns-in-Ok-settle-clause-lost : goal.returns-in-Ok-settle-clause-lost
returns-in-Ok-settle-clause-lost g c = λ none. let some = c.in-Ok.ensures.some in absurd (none some.0 some.1)

pub returns-in-Err-settle-clause-lost : goal.returns-in-Err-settle-clause-lost
returns-in-Err-settle-clause-lost g c = λ none. let some = c.in-Ok.ensures.some in absurd (none some.0 some.1)

pub returns-in-Err-clause-lost : goal.returns-in-Err-clause-lost
returns-in-Err-clause-lost g c = λ none. (refl, c.write_usable.ensures.lost none)
