use Rattle.std.proofs.Common.{◌∙◌, ◌+◌, ℕ, refl, sym, subst}
use Rattle.record_laws.proofs.group_engine.Sets.{IsFront, none_gone, all_gone, stays, goes}
use Rattle.disk_modes.proofs.records.without.Goals as goal
use Rattle.disk_modes.proofs.records.without.Goals.{then-has, else-has}

pub loop-disk-init : goal.loop-disk-init
loop-disk-init c = none_gone c.args.all c.args.gone

pub loop-disk-preserved : goal.loop-disk-preserved
loop-disk-preserved c = elim c.if-has.branch [
  | then-has w ↦ subst (λ (n : ℕ). IsFront n c.args.all c.args.gone (c.loop-disk.disk + 1)) (sym w.left-is)
      (goes c.loop-disk.left w.without-left.result c.args.all c.args.gone c.loop-disk.disk (c.loop-disk.disk + 1) refl (sym c.has.ensures ∙ w.if-has.true) w.without-left.ensures c.loop-disk.invariant)
  | else-has w ↦ subst (λ (n : ℕ). IsFront n c.args.all c.args.gone (c.loop-disk.disk + 1)) (sym w.left-is)
      (stays c.loop-disk.left c.args.all c.args.gone c.loop-disk.disk (c.loop-disk.disk + 1) refl (sym c.has.ensures ∙ w.if-has.false) c.loop-disk.invariant)
]

pub returns : goal.returns
returns c = all_gone c.loop-disk.left c.args.all c.args.gone c.loop-disk.disk c.loop-disk-test.false c.loop-disk.invariant
