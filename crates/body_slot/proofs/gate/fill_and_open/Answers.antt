use Rattle.std.proofs.Common.{◌+◌, rules, arith}
use Rattle.bay.proofs.OneCall.{wider, afforded, then}
use Rattle.body_slot.proofs.Steps.{filling}
use Rattle.body_slot.proofs.gate.fill_and_open.Goals as goal

pub returns-in_err-fill_body : goal.returns-in_err-fill_body
returns-in_err-fill_body g c =
    let calls = wider (filling c.requires.usable c.args.body.now (c.args.place.body + 0) (omega arith) c.requires.whole).starts c.fill_body.ensures.calls in search rules

pub returns : goal.returns
returns g c = afforded (search rules) (then (filling c.requires.usable c.args.body.now (c.args.place.body + 0) (omega arith) c.requires.whole) c.in_ok-fill_body.ensures c.open_gate.ensures)
