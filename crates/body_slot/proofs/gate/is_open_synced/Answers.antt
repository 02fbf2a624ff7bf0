use Rattle.std.proofs.Common.{rules}
use Rattle.std.proofs.lemmas.Result.{IfOk-weaker}
use Rattle.bay.proofs.Calls.{stops}
use Rattle.bay.proofs.Images.{same-trans}
use Rattle.bay.proofs.OneCall.{of_reading, joined}
use Rattle.body_slot.proofs.Steps.{found_gate}
use Rattle.body_slot.proofs.gate.is_open_synced.Goals as goal

pub returns : goal.returns
returns g c =
    let calls = joined same-trans (of_reading c.sync.ensures).calls (stops c.sync.ensures.runs) c.is_open.ensures.call.calls in
    let done = IfOk-weaker c.is_open.result _ _
    (λ answer. found_gate c.args.place c.args.slot answer _ _ _ (g.met.B.Bay.sound c.sync.new.self) c.sync.ensures.runs c.in_ok-sync.ensures.done c.is_open.ensures.call.calls.runs) c.is_open.ensures.call.done in
    search rules
