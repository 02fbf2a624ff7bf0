use Rattle.std.proofs.Common.{rules, arith}
use Rattle.bay.proofs.OneCall.{wider, afforded, then}
use Rattle.body_slot.proofs.Steps.{plain, may_put-same}
use Rattle.disk_forming.proofs.Steps.{claim_then_status}
use Rattle.disk_forming.proofs.forming.give_record.Goals as goal

pub returns-in_err-put : goal.returns-in_err-put
returns-in_err-put g c =
    let follows = claim_then_status c.args.slot 512 (omega arith) (omega arith) c.args.claim.now c.args.status.now in
    let claiming = plain (may_put-same _ c.args.slot c.args.claim.now) (rw c.block_slot.ensures at c.put.ensures) in
    let calls = wider follows.starts claiming.calls in search rules

pub returns : goal.returns
returns g c =
    let follows = claim_then_status c.args.slot 512 (omega arith) (omega arith) c.args.claim.now c.args.status.now in
    let claiming = plain (may_put-same _ c.args.slot c.args.claim.now) (rw c.block_slot.ensures at c.in_ok-put.ensures) in
    afforded (search rules) (then follows claiming (plain (may_put-same _ c.args.slot c.args.status.now) (rw c.block_slot-2.ensures at c.put-2.ensures)))
