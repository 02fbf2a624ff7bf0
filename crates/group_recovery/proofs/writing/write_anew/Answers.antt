use Rattle.std.proofs.Common.{arith}
use Rattle.asm_formats.specs.Status.{status_spelling}
use Rattle.asm_formats.proofs.Orders.{same_sets_follow}
use Rattle.status_register.specs.Holders.{attached_to, with_next_number}
use Rattle.status_register.specs.Slots.{status_gate}
use Rattle.status_register.proofs.Ordering.{row_runs}
use Rattle.status_register.proofs.Taking.{kept_among}
use Rattle.status_register.proofs.Tallying.{RoseAt}
use Rattle.group_recovery.proofs.Reaching.{few_holders}
use Rattle.group_recovery.proofs.writing.write_anew.Goals as goal

pub write-requires-clause-follows : goal.write-requires-clause-follows
write-requires-clause-follows g c = same_sets_follow c.args.register.value c.args.next.now c.requires.sets

pub returns-in-Ok-clause-calls : goal.returns-in-Ok-clause-calls
returns-in-Ok-clause-calls g c = omega (arith, c.write.ensures.calls.calls, few_holders c.args.register.members c.args.next.now 64)

pub returns-in-Err-clause-calls : goal.returns-in-Err-clause-calls
returns-in-Err-clause-calls g c = omega (arith, c.write.ensures.calls.calls, few_holders c.args.register.members c.args.next.now 64)

pub returns-in-Ok-clause-answer : goal.returns-in-Ok-clause-answer
returns-in-Ok-clause-answer g c =
    let s = g.B.Bay.state c.args.bay.now in
    let t = g.B.Bay.state c.write.new.bay in
    let a = c.in-Ok.ensures.answer in
    (a.0, kept_among (RoseAt s t) (attached_to c.args.register.members c.args.next.now) a.0 a.1, a.2, a.3.0, c.in-Ok.ensures.register)

pub returns-in-Ok-clause-runs : goal.returns-in-Ok-clause-runs
returns-in-Ok-clause-runs g c = row_runs (status_gate c.args.register.id) (attached_to c.args.register.members c.args.next.now) (status_spelling (with_next_number c.args.register c.args.next.now)) (g.B.Bay.state c.args.bay.now) (g.B.Bay.state c.write.new.bay) c.write.ensures.calls.runs

pub returns-in-Err-clause-runs : goal.returns-in-Err-clause-runs
returns-in-Err-clause-runs g c = row_runs (status_gate c.args.register.id) (attached_to c.args.register.members c.args.next.now) (status_spelling (with_next_number c.args.register c.args.next.now)) (g.B.Bay.state c.args.bay.now) (g.B.Bay.state c.write.new.bay) c.write.ensures.calls.runs
