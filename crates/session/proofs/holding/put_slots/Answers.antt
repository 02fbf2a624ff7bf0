use Rattle.session.proofs.Slots.{slots_some, slots_none}
use Rattle.session.proofs.holding.put_slots.Goals as goal
use Rattle.session.proofs.holding.put_slots.Goals.{in-Some+in_ok-put_slot, in_default}

pub loop-disk-preserved : goal.loop-disk-preserved
loop-disk-preserved c = elim c.match-disk.branch [
  | in-Some+in_ok-put_slot w ↦ rw w.slots-is (slots_some c.args.slots.now.items c.loop-disk.slots.items _ c.args.disks.now c.loop-disk.disk-index w.in-Some.attached c.loop-disk-test.true w.in-Some.is c.loop-disk.invariant w.in_ok-put_slot.ensures)
  | in_default w ↦ rw w.slots-is (slots_none c.args.slots.now.items c.loop-disk.slots.items c.args.disks.now c.loop-disk.disk-index c.loop-disk-test.true w.in_default.is c.loop-disk.invariant)
]
