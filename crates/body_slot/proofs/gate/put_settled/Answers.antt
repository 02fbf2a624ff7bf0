use Rattle.std.proofs.Common.{rules}
use Rattle.bay.proofs.OneCall.{wider, afforded, then}
use Rattle.body_slot.proofs.Steps.{putting}
use Rattle.body_slot.proofs.gate.put_settled.Goals as goal

pub returns-in_err-close_settled : goal.returns-in_err-close_settled
returns-in_err-close_settled g c =
    let calls = wider (putting c.requires.usable c.args.body.now).starts c.close_settled.ensures.calls in search rules

pub returns : goal.returns
returns g c = afforded (search rules) (then (putting c.requires.usable c.args.body.now) c.in_ok-close_settled.ensures c.fill_and_open.ensures)
