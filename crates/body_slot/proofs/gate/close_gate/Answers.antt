use Rattle.std.proofs.Common.{rules}
use Rattle.bay.proofs.Calls.{done_less}
use Rattle.bay.proofs.OneCall.{wider, afforded, then}
use Rattle.body_slot.proofs.Steps.{closing, closes-found, waiting_still, from_less}
use Rattle.body_slot.proofs.gate.close_gate.Goals as goal

pub returns-in_err-is_open_synced-clause-call : goal.returns-in_err-is_open_synced-clause-call
returns-in_err-is_open_synced-clause-call g c =
    let calls = wider (waiting_still (g.B.Bay.state c.args.bay.now) c.args.slot (closing c.requires)).starts c.is_open_synced.ensures.calls in search rules

pub returns-then-not-branch-clause-call : goal.returns-then-not-branch-clause-call
returns-then-not-branch-clause-call g c =
    let calls = wider (waiting_still (g.B.Bay.state c.args.bay.now) c.args.slot (closing c.requires)).starts c.is_open_synced.ensures.calls in
    let done = done_less (from_less _ c.args.slot (closes-found c.requires)) (rw c.if-not-branch.true at c.in_ok-is_open_synced.ensures.done) in search rules

pub returns-clause-call : goal.returns-clause-call
returns-clause-call g c = afforded (search rules)
    (then (waiting_still _ c.args.slot (closing c.requires)) (rw c.if-not-branch.false at c.in_ok-is_open_synced.ensures) c.write_gate.ensures)
