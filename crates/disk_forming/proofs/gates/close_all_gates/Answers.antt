use Rattle.std.proofs.Common.{rules, arith}
use Rattle.bay.proofs.OneCall.{wider, afforded, then}
use Rattle.body_slot.proofs.Steps.{plain, may_close-same}
use Rattle.disk_forming.proofs.Shutting.{usable_slot, still_region, short_sector, some_sector, header_then_others}
use Rattle.disk_forming.proofs.gates.close_all_gates.Goals as goal

pub close_gate-requires : goal.close_gate-requires
close_gate-requires g c = rw c.header_slot.ensures (usable_slot 0 1 c.requires (omega (arith, c.requires.long)))

pub close_other_gates-requires : goal.close_other_gates-requires
close_other_gates-requires g c = still_region c.requires c.close_gate.ensures.call.calls.attached

pub returns-in_err-close_gate : goal.returns-in_err-close_gate
returns-in_err-close_gate g c =
    let follows = header_then_others c.args.slot c.args.sector c.args.dir_blocks (short_sector _ c.requires.sector_size) (some_sector _ c.requires.sector_size) in
    let closing = plain (may_close-same _ c.args.slot) (rw c.header_slot.ensures at c.close_gate.ensures.call) in
    let calls = wider follows.starts closing.calls in search rules

pub returns : goal.returns
returns g c =
    let follows = header_then_others c.args.slot c.args.sector c.args.dir_blocks (short_sector _ c.requires.sector_size) (some_sector _ c.requires.sector_size) in
    afforded (search rules) (then follows (plain (may_close-same _ c.args.slot) (rw c.header_slot.ensures at c.in_ok-close_gate.ensures.call)) c.close_other_gates.ensures)
