use Rattle.std.proofs.Common.{◌≡◌, ◌+◌, ◌*◌, rules, arith}
use Rattle.bay.proofs.OneCall.{afforded, then, went}
use Rattle.body_slot.proofs.Steps.{plain, may_close-same}
use Rattle.disk_forming.proofs.Shutting.{usable_gate, still_region, short_sector, one_more}
use Rattle.disk_forming.proofs.gates.close_other_gates.Goals as goal

pub close_gate-requires : goal.close_gate-requires
close_gate-requires g c = rw c.block_slot.ensures (usable_gate c.loop-gate.gate-index (still_region c.requires c.loop-gate.invariant.calls.attached) c.loop-gate-test.true)

pub returns-in_err-close_gate : goal.returns-in_err-close_gate
returns-in_err-close_gate g c =
    let follows = one_more c.args.slot c.args.sector (short_sector _ c.requires.sector_size) _ c.loop-gate.gate-index c.loop-gate-test.true in
    let calls = (then follows c.loop-gate.invariant (plain (may_close-same _ c.args.slot) (rw c.block_slot.ensures at c.close_gate.ensures.call))).calls in search rules

pub loop-gate-preserved : goal.loop-gate-preserved
loop-gate-preserved g c =
    let more : (c.loop-gate.gate-index + 1) * c.args.sector ≡ c.loop-gate.gate-index * c.args.sector + c.args.sector = grind arith in
    let follows = one_more c.args.slot c.args.sector (short_sector _ c.requires.sector_size) _ c.loop-gate.gate-index c.loop-gate-test.true in
    afforded (search rules) (went (then follows c.loop-gate.invariant (plain (may_close-same _ c.args.slot) (rw c.block_slot.ensures at c.in_ok-close_gate.ensures.call))))
