use Rattle.std.proofs.Common.{rules, arith}
use Rattle.bay.proofs.OneCall.{wider, afforded, then}
use Rattle.body_slot.proofs.Steps.{plain, may_put-same}
use Rattle.disk_forming.proofs.Steps.{gates_then_header}
use Rattle.disk_forming.proofs.forming.give_header.Goals as goal

pub returns-in_err-close_all_gates : goal.returns-in_err-close_all_gates
returns-in_err-close_all_gates g c =
    let follows = gates_then_header c.args.slot 512 (omega arith) (omega arith) c.args.dir_blocks c.requires.region.long c.args.header.now in
    let calls = wider follows.starts c.close_all_gates.ensures.calls in search rules

pub returns : goal.returns
returns g c =
    let follows = gates_then_header c.args.slot 512 (omega arith) (omega arith) c.args.dir_blocks c.requires.region.long c.args.header.now in
    afforded (search rules) (then follows c.in_ok-close_all_gates.ensures (plain (may_put-same _ c.args.slot c.args.header.now) (rw c.header_slot.ensures at c.put.ensures)))
