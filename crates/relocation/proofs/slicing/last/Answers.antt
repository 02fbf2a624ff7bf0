use Rattle.resync.proofs.group_engine.Members.{lets_join}
use Rattle.relocation.specs.Slices.{SliceCause}
use Rattle.resync.proofs.Chains.{on_err}
use Rattle.relocation.proofs.Chains.{lets_takes, slice_on}
use Rattle.relocation.proofs.slicing.last.Goals as goal

pub ended-requires-clause-takes : goal.ended-requires-clause-takes
ended-requires-clause-takes g c = lets_takes c.ask.ensures.lets

pub returns-in-End-clause-lets : goal.returns-in-End-clause-lets
returns-in-End-clause-lets g c = lets_join c.ask.ensures.lets c.ended.ensures.lets

pub returns-in-End-clause-cause : goal.returns-in-End-clause-cause
returns-in-End-clause-cause g c =
    let b = c.ask.new.m in
    let m = c.ended.new.m in
    let s = g.B.Bay.state c.args.bay.now in
    let u = g.B.Bay.state c.ended.new.bay in
    on_err (SliceCause b m s u) (SliceCause c.args.m.now m s u) c.ended.result (slice_on c.ask.ensures.lets c.ask.ensures.mounted m u) c.ended.ensures.cause
