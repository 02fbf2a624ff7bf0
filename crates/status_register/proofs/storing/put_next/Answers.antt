use Rattle.std.proofs.Common.{rules}
use Rattle.bay.proofs.OneCall.{afforded, then, wider}
use Rattle.status_register.specs.Slots.{next_gate}
use Rattle.status_register.proofs.Shown.{same_next_gate}
use Rattle.status_register.proofs.Filling.{put_follows, same_puts}
use Rattle.status_register.proofs.storing.put_next.Goals as goal

pub returns-in_err-gate : goal.returns-in_err-gate
returns-in_err-gate g c =
    let calls = wider (same_puts (next_gate c.args.pair c.args.id) c.args.slot c.args.body.now.bytes) c.next_gate.ensures.call.calls in search rules

pub returns : goal.returns
returns g c = afforded (search rules)
    (then (put_follows (next_gate c.args.pair c.args.id) c.args.slot c.args.body.now.bytes c.in_ok-gate.gate (same_next_gate c.args.pair c.args.id c.args.slot))
    c.in_ok-gate.ensures.call c.fill_slot.ensures)
