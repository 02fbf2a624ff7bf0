use Rattle.std.proofs.Common.{◌+◌, List, length, sym, ap, subst, arith}
use Rattle.disk_images.proofs.OneMoreLook.{looks_below, one_more as one_look_more}
use Rattle.group_recovery.specs.Finding.{AreAllHeaded, AreThere}
use Rattle.group_recovery.specs.declared.finding.Headed.{Headed}
use Rattle.group_recovery.proofs.Looks.{more_all, more_there, one_more}
use Rattle.group_recovery.proofs.finding.find_headed.Goals as goal

pub returns-in_err-put_headed-clause-looks : goal.returns-in_err-put_headed-clause-looks
returns-in_err-put_headed-clause-looks g c =
    looks_below (c.loop-slot.slot + 1) (length c.args.paths.now) (omega (arith, c.loop-slot-test.true)) (one_look_more c.loop-slot.slot c.loop-slot.invariant.looks c.look_at.ensures.looks)

pub loop-slot-preserved : goal.loop-slot-preserved
loop-slot-preserved g c =
    let s = g.B.Bay.state c.args.bay.now in
    let m = g.B.Bay.state c.loop-slot.bay in
    let t = g.B.Bay.state c.look_at.new.bay in
    let n = c.loop-slot.slot in
    let old = c.loop-slot.found.items in
    let looked = c.in_ok-looked.looked in
    let first = c.loop-slot.invariant.looks in
    let next = c.look_at.ensures.looks in
    let more = sym c.in_ok-put_headed.ensures in
    record {
      looks = one_look_more n first next;
      few = omega (arith, c.loop-slot.invariant.few, one_more old n looked, ap length c.in_ok-put_headed.ensures);
      there = subst (λ (l : List Headed). AreThere (n + 1) l t) more (more_there s m t n first next old looked c.loop-slot.invariant.there c.in_ok-looked.ensures.looked);
      all = subst (λ (l : List Headed). AreAllHeaded (n + 1) l s t) more (more_all s m t n first next old looked c.loop-slot.invariant.all c.in_ok-looked.ensures.looked);
    }
