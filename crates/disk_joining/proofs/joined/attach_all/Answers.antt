use Rattle.std.proofs.Common.{◌≡◌, Some, refl, sym, subst, ◌∙◌}
use Rattle.new_groups.specs.group_recovery.declared.finding.Headed.{Headed}
use Rattle.new_groups.proofs.DiskLists.{item_among}
use Rattle.disk_joining.proofs.Takings.{nothing_taken, taken_on, takes_then}
use Rattle.disk_joining.proofs.joined.attach_all.Goals as goal

pub loop-disk-init : goal.loop-disk-init
loop-disk-init g c = record { taken = nothing_taken c.args.held.now c.args.m.now (g.B.Bay.state c.args.bay.now) c.requires.takes c.requires.apart; same = refl; value = refl }

pub attach_image-requires-clause-takes : goal.attach_image-requires-clause-takes
attach_image-requires-clause-takes g c = takes_then c.loop-disk.invariant.taken

pub attach_image-requires-clause-apart : goal.attach_image-requires-clause-apart
attach_image-requires-clause-apart g c = c.loop-disk.invariant.taken.own

pub attach_image-requires-clause-attached : goal.attach_image-requires-clause-attached
attach_image-requires-clause-attached g c =
    subst (λ (h : Headed). (g.B.Bay.state c.args.bay.now).attached h.slot ≡ Some h.size) (sym c.disk.view_is)
    (c.requires.attached c.disk-item.result (item_among c.args.disks.now c.loop-disk.disk-index c.disk-item.result c.loop-disk-test.true c.disk-item.is))

pub loop-disk-preserved : goal.loop-disk-preserved
loop-disk-preserved g c = record {
  taken = taken_on c.args.held.now c.loop-disk.invariant.taken c.attach_image.ensures.taken;
  same = c.attach_image.ensures.same ∙ c.loop-disk.invariant.same;
  value = c.attach_image.ensures.value ∙ c.loop-disk.invariant.value;
}
