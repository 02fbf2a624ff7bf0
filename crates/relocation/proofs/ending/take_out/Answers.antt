use Rattle.std.proofs.Common.{sym, ◌∙◌}
use Rattle.relocation.proofs.Chains.{lets_takes, own_slot}
use Rattle.relocation.proofs.Leaving.{header_later, header_slot, left_closed}
use Rattle.relocation.proofs.ending.take_out.Goals as goal

pub returns-in-Err : goal.returns-in-Err
returns-in-Err g c = record { lets = c.leave.ensures.lets; mounted = tt; cause = c.in-Err.ensures.cause }

pub close_left-requires : goal.close_left-requires
close_left-requires g c =
    let t = c.requires.takes c.requires.mounted in
    let at = sym c.slot-slot.ensures ∙ c.in-Some.is in
    let lets = c.leave.ensures.lets in
    record {
      takes = lets_takes lets;
      header = header_later lets c.in-Some.slot (header_slot c.args.m.now (g.B.Bay.state c.args.bay.now) t.0 t.1 c.args.disk c.in-Some.slot at);
    }

pub returns-in-Some : goal.returns-in-Some
returns-in-Some g c =
    let t = c.requires.takes c.requires.mounted in
    let at = sym c.slot-slot.ensures ∙ c.in-Some.is in
    record {
      lets = left_closed c.in-Some.slot c.leave.ensures.lets (own_slot c.args.m.now t.0 c.args.disk c.in-Some.slot at) c.close_left.ensures;
      mounted = c.in-Ok.ensures.mounted;
      cause = tt;
    }

pub returns-in-None : goal.returns-in-None
returns-in-None g c = record { lets = c.leave.ensures.lets; mounted = c.in-Ok.ensures.mounted; cause = tt }
