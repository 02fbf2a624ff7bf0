use Rattle.status_register.proofs.Answered.{write_lost, write_taken}
use Rattle.status_register.proofs.writing.write_on_majorities.Goals as goal

pub returns-in-Some-clause-answer : goal.returns-in-Some-clause-answer
returns-in-Some-clause-answer g c = write_lost (g.B.Bay.state c.args.bay.now) (g.B.Bay.state c.put_on_all-took.new.bay) c.args.status.now c.args.holders.now c.put_on_all-took.result c.members.result.now
    c.body_of-body.result.bytes c.put_on_all-took.ensures.took c.put_on_all-took.ensures.done c.body_of-body.ensures c.members.ensures.members c.in-Some.member c.in-Some.ensures

pub returns-in-None-clause-answer : goal.returns-in-None-clause-answer
returns-in-None-clause-answer g c = write_taken (g.B.Bay.state c.args.bay.now) (g.B.Bay.state c.put_on_all-took.new.bay) c.args.status.now c.args.holders.now c.put_on_all-took.result c.members.result.now
    c.body_of-body.result.bytes c.put_on_all-took.ensures.took c.put_on_all-took.ensures.done c.body_of-body.ensures c.members.ensures.members c.failed_set.result c.members-in-None.result.now
    c.members-in-None.ensures.members c.in-None.ensures c.failed_set.ensures
