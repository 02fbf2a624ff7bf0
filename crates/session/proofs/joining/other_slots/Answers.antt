use Rattle.session.proofs.Slots.{other_more}
use Rattle.session.proofs.joining.other_slots.Goals as goal

pub loop-slot-preserved : goal.loop-slot-preserved
loop-slot-preserved c = other_more c.args.own.now c.args.slots.now c.loop-slot.others.items _ c.loop-slot.slot-index c.loop-slot-test.true c.loop-slot.invariant c.in_ok-put_other.ensures
