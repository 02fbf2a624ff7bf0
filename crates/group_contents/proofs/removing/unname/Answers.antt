use Rattle.std.proofs.Common.{ap, subst}
use Rattle.file_extents.specs.catalog.FilePlans.{IsRemovalPlan}
use Rattle.file_extents.specs.catalog_tables.Tables.{Catalogued}
use Rattle.file_extents.specs.group_engine.Mounts.{MountedGroup}
use Rattle.file_extents.proofs.group_engine.Endings.{goes_on, on_true}
use Rattle.file_extents.proofs.Chains.{given_mounted, given_up, goes_short, takes_on}
use Rattle.group_contents.proofs.Steps.{removal_plan, removes}
use Rattle.group_contents.proofs.removing.unname.Goals as goal

pub returns-then-not-may_unname-clause-goes : goal.returns-then-not-may_unname-clause-goes
returns-then-not-may_unname-clause-goes g c = goes_short (given_up c.args.m.now c.set_flight.new.self (g.B.Bay.state c.args.bay.now) c.requires.takes c.set_flight.ensures)

pub commit_plan-requires-clause-takes : goal.commit_plan-requires-clause-takes
commit_plan-requires-clause-takes g c = takes_on (given_up c.args.m.now c.set_flight.new.self (g.B.Bay.state c.args.bay.now) c.requires.takes c.set_flight.ensures)

pub commit_plan-requires-clause-plan : goal.commit_plan-requires-clause-plan
commit_plan-requires-clause-plan g c =
    removal_plan c.set_flight.new.self.catalog c.args.file c.in-Ok.change.put c.in-Ok.change.gone
    (subst (λ (k : Catalogued). IsRemovalPlan k c.args.file c.in-Ok.change.put c.in-Ok.change.gone) c.catalog.ensures c.in-Ok.ensures.planned)
    (on_true c.may_unname.result c.may_unname.ensures.rest c.if-not-may_unname.false)

pub returns-in-Ok-clause-goes : goal.returns-in-Ok-clause-goes
returns-in-Ok-clause-goes g c =
    goes_on c.commit_plan.result (given_up c.args.m.now c.set_flight.new.self (g.B.Bay.state c.args.bay.now) c.requires.takes c.set_flight.ensures)
    (given_mounted c.args.m.now c.set_flight.new.self c.requires.mounted c.set_flight.ensures) c.commit_plan.ensures.goes

pub returns-in-Ok-clause-removed : goal.returns-in-Ok-clause-removed
returns-in-Ok-clause-removed g c =
    removes c.args.m.now c.set_flight.new.self.catalog c.args.file c.in-Ok.change.put c.in-Ok.change.gone c.commit_plan.result c.commit_plan.new.self
    (ap (λ (v : MountedGroup). v.catalog) c.set_flight.ensures)
    (subst (λ (k : Catalogued). IsRemovalPlan k c.args.file c.in-Ok.change.put c.in-Ok.change.gone) c.catalog.ensures c.in-Ok.ensures.planned)
    c.commit_plan.ensures.commits.applied

pub returns-clause-goes : goal.returns-clause-goes
returns-clause-goes g c = goes_short (given_up c.args.m.now c.set_flight.new.self (g.B.Bay.state c.args.bay.now) c.requires.takes c.set_flight.ensures)
