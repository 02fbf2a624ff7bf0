use Rattle.std.proofs.Common.{rules}
use Rattle.bay.proofs.OneCall.{wider, afforded, then, of_settling}
use Rattle.body_slot.proofs.Steps.{closing, staying, finds}
use Rattle.body_slot.proofs.gate.close_settled.Goals as goal

pub returns-in_err-is_open : goal.returns-in_err-is_open
returns-in_err-is_open g c =
    let calls = wider (closing c.requires.usable).starts c.is_open.ensures.call.calls in search rules

pub returns-then-branch : goal.returns-then-branch
returns-then-branch g c =
    let found = finds c.args.place c.args.slot (g.met.B.Bay.sound c.args.bay.now) c.requires.settled c.in_ok-is_open.ensures.call in
    afforded (search rules) (then (closing c.requires.usable) (rw c.if-branch.true at found) c.write_gate.ensures)

pub returns-else-branch : goal.returns-else-branch
returns-else-branch g c =
    let found = finds c.args.place c.args.slot (g.met.B.Bay.sound c.args.bay.now) c.requires.settled c.in_ok-is_open.ensures.call in
    afforded (search rules) (then (staying c.requires.usable) (rw c.if-branch.false at found) (of_settling c.sync.ensures))
