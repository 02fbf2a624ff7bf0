use Rattle.status_register.proofs.Tallying.{RoseAt}
use Rattle.group_recovery.proofs.Syncs.{survey_now, well_read}
use Rattle.group_recovery.proofs.syncing.survey_synced.Goals as goal

pub returns-clause-now : goal.returns-clause-now
returns-clause-now g c = survey_now (g.B.Bay.state c.args.bay.now) (g.B.Bay.state c.read.new.bay) (g.met.B.Bay.sound c.args.bay.now) (g.met.B.Bay.sound c.read.new.bay) c.args.id c.args.members.now c.requires.slots c.requires.durable c.read.ensures.calls.runs
    c.read.result c.read.ensures.answer c.read.ensures.surveyed

pub returns-clause-record_is : goal.returns-clause-record_is
returns-clause-record_is g c =
    well_read (RoseAt (g.B.Bay.state c.args.bay.now) (g.B.Bay.state c.read.new.bay)) c.args.id c.args.members.now c.read.result c.read.ensures.own c.read.ensures.seen c.read.ensures.surveyed
