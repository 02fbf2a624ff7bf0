use Rattle.std.proofs.Common.{◌≡◌, ◌≤◌, ◌+◌, ◌∷◌, ◌++◌, [], List, length, ap, sym, subst, ◌∙◌, arith}
use Rattle.disk_images.specs.Looks.{AreLooked}
use Rattle.disk_images.specs.declared.looking.Looked.{Looked}
use Rattle.disk_images.proofs.OneMoreLook.{looks_below, one_more, one_more_looked, one_longer}
use Rattle.disk_images.proofs.looking.look_at_images.Goals as goal

pub returns-in_err-keep-clause-looks : goal.returns-in_err-keep-clause-looks
returns-in_err-keep-clause-looks g c =
    looks_below (c.loop-slot.slot + 1) (length c.args.paths.now) (omega (arith, c.loop-slot-test.true)) (one_more c.loop-slot.slot c.loop-slot.invariant.looks c.look_at.ensures.looks)

pub loop-slot-preserved : goal.loop-slot-preserved
loop-slot-preserved g c =
    let more = sym c.in_ok-keep.ensures in
    let each = one_more_looked c.loop-slot.slot c.loop-slot.invariant.looks c.look_at.ensures.looks c.loop-slot.found.items c.in_ok-looked.looked c.loop-slot.invariant.count c.loop-slot.invariant.each c.in_ok-looked.ensures.looked in
    record {
      looks = one_more c.loop-slot.slot c.loop-slot.invariant.looks c.look_at.ensures.looks;
      count = ap (λ (l : List Looked). length l) c.in_ok-keep.ensures ∙ omega (arith, one_longer c.loop-slot.found.items c.in_ok-looked.looked, c.loop-slot.invariant.count);
      each = subst (λ (l : List Looked). AreLooked l (g.B.Bay.state c.args.bay.now) (g.B.Bay.state c.look_at.new.bay)) more each;
    }
