use Rattle.std.proofs.Common.{rules}
use Rattle.bay.proofs.OneCall.{wider, afforded, then}
use Rattle.body_slot.proofs.Steps.{putting, waiting}
use Rattle.body_slot.proofs.gate.put.Goals as goal

pub returns-in_err-close_gate : goal.returns-in_err-close_gate
returns-in_err-close_gate g c =
    let calls = wider (waiting _ c.args.slot (putting c.requires.usable c.args.body.now)).starts c.close_gate.ensures.call.calls in search rules

pub returns : goal.returns
returns g c = afforded (search rules) (then (waiting _ c.args.slot (putting c.requires.usable c.args.body.now)) c.in_ok-close_gate.ensures.call c.fill_and_open.ensures)
