use Rattle.std.proofs.Common.{◌∙◌, ◌+◌, sym, arith}
use Rattle.std.proofs.lemmas.Bool.{false≢true}
use Rattle.std.proofs.lemmas.Result.{err_from_is_err_and}
use Rattle.group_engine.proofs.Causes.{calls_keep}
use Rattle.mounted_groups.proofs.Brought.{brought_from, brought_more}
use Rattle.mounted_groups.proofs.BroughtMounts.{mounts_at_first, mounts_for_more, mounts_more, stands_at_first, stands_for_more, stands_more}
use Rattle.mounted_groups.proofs.Clears.{clear_on}
use Rattle.mounted_groups.proofs.Drops.{nothing_done}
use Rattle.mounted_groups.proofs.bringing.bring_all.Goals.{then-has+in_ok-bring_up, else-has}
use Rattle.mounted_groups.proofs.bringing.bring_all.Goals as goal

pub loop-disk-init : goal.loop-disk-init
loop-disk-init g c = record {
  works = record { keeps = nothing_done c.args.m.now (g.B.Bay.state c.args.bay.now) c.requires.takes; mounted = c.requires.mounted; cause = tt };
  brought = λ d lt bit. absurd (omega (arith, lt));
  moments = stands_at_first c.args.m.now (g.B.Bay.state c.args.bay.now);
  mounts = λ mounted. mounts_at_first c.args.m.now (g.B.Bay.state c.args.bay.now);
  turns = omega arith;
}

pub bring_up-requires-clause-mounted : goal.bring_up-requires-clause-mounted
bring_up-requires-clause-mounted g c = c.loop-disk.invariant.works.mounted

pub bring_up-requires-clause-takes : goal.bring_up-requires-clause-takes
bring_up-requires-clause-takes g c = λ mounted. (c.loop-disk.invariant.works.keeps.whole mounted, c.loop-disk.invariant.works.keeps.ready mounted)

pub returns-in_err-bring_up : goal.returns-in_err-bring_up
returns-in_err-bring_up g c =
    let old = c.args.m.now in
    let mid = c.loop-disk.m in
    let n = c.loop-disk.disk in
    let before = c.loop-disk.invariant in
    let s = g.B.Bay.state c.args.bay.now in
    let m = g.B.Bay.state c.loop-disk.bay in
    let t = g.B.Bay.state c.bring_up.new.bay in
    let p = err_from_is_err_and c.from_residual.result c.from_residual.ensures.1 in
    let mounts = before.mounts before.works.mounted in
    let cause = clear_on old mid s m t c.in_err-bring_up.field-0.0 before.works.keeps c.in_err-bring_up.ensures.works.cause in
    rw (p.1, p.2) (record {
      works = record { keeps = calls_keep before.works.keeps c.bring_up.ensures.works.keeps; mounted = tt; cause = cause };
      brought = tt;
      moments = stands_for_more (n + 1) 64 old s t (omega arith) (stands_more n old mid s m t before.turns mounts before.works.keeps.same.id before.moments c.bring_up.ensures.moments);
      mounts = λ mounted. mounts_for_more (n + 1) 64 old c.bring_up.new.m s t (omega arith) (mounts_more n old mid s m t before.turns mounts c.bring_up.new.m (c.bring_up.ensures.mounts mounted));
      turns = omega (arith, before.turns, c.bring_up.ensures.turns);
    })

pub loop-disk-preserved : goal.loop-disk-preserved
loop-disk-preserved g c =
    let state = g.B.Bay.state in
    let old = c.args.m.now in
    let mid = c.loop-disk.m in
    let n = c.loop-disk.disk in
    let before = c.loop-disk.invariant in
    let s = g.B.Bay.state c.args.bay.now in
    let m = g.B.Bay.state c.loop-disk.bay in
    let keeps = before.works.keeps in
    let first = before.mounts before.works.mounted in
    elim c.if-has.branch [
      | then-has+in_ok-bring_up w ↦ rw (w.bay-is, w.m-is) (record {
        works = record { keeps = calls_keep keeps w.bring_up.ensures.works.keeps; mounted = w.in_ok-bring_up.ensures.works.mounted; cause = tt };
        brought = brought_more state old c.args.disks n mid w.bring_up.new.m s m (g.B.Bay.state w.bring_up.new.bay) w.bring_up.ensures.works.keeps before.brought
            (λ bit. brought_from state old mid n w.bring_up.new.m s m (g.B.Bay.state w.bring_up.new.bay) keeps w.in_ok-bring_up.ensures.brought);
        moments = stands_more n old mid s m (g.B.Bay.state w.bring_up.new.bay) before.turns first keeps.same.id before.moments w.bring_up.ensures.moments;
        mounts = λ mounted. mounts_more n old mid s m (g.B.Bay.state w.bring_up.new.bay) before.turns first w.bring_up.new.m (w.bring_up.ensures.mounts mounted);
        turns = omega (arith, before.turns, w.bring_up.ensures.turns);
      })
      | else-has w ↦ rw (w.bay-is, w.m-is) (record {
        works = record { keeps = keeps; mounted = before.works.mounted; cause = tt };
        brought = brought_more state old c.args.disks n mid mid s m m (nothing_done mid m (λ mounted. (keeps.whole mounted, keeps.ready mounted))) before.brought
            (λ bit. absurd (false≢true (sym (sym c.has.ensures ∙ w.if-has.false) ∙ bit)));
        moments = stands_for_more n (n + 1) old s m (omega arith) before.moments;
        mounts = λ mounted. mounts_for_more n (n + 1) old mid s m (omega arith) first;
        turns = omega (arith, before.turns);
      })
    ]
