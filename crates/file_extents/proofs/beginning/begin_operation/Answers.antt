use Rattle.std.proofs.Common.{subst, ◌∙◌, ap}
use Rattle.group_pieces.specs.catalog.Plans.{IsPlan}
use Rattle.catalog_tables.specs.Tables.{Catalogued, Tables}
use Rattle.asm_formats.specs.Items.{Pending}
use Rattle.group_pieces.proofs.group_engine.Endings.{goes_on, on_true}
use Rattle.file_extents.specs.Beginning.{begun}
use Rattle.file_extents.proofs.Begins.{begins}
use Rattle.file_extents.proofs.Chains.{given_mounted, given_up, goes_short, takes_on}
use Rattle.file_extents.proofs.Extents.{owned_with}
use Rattle.file_extents.proofs.beginning.begin_operation.Goals as goal

pub returns-then-not-is_at_rest-clause-goes : goal.returns-then-not-is_at_rest-clause-goes
returns-then-not-is_at_rest-clause-goes g c = goes_short (given_up c.args.m.now c.set_flight.new.self (g.B.Bay.state c.args.bay.now) c.requires.takes c.set_flight.ensures)

pub commit_plan-requires-clause-takes : goal.commit_plan-requires-clause-takes
commit_plan-requires-clause-takes g c = takes_on (given_up c.args.m.now c.set_flight.new.self (g.B.Bay.state c.args.bay.now) c.requires.takes c.set_flight.ensures)

pub commit_plan-requires-clause-plan : goal.commit_plan-requires-clause-plan
commit_plan-requires-clause-plan g c =
    let cat = c.catalog-catalog.result.now in
    let none = on_true c.is_at_rest.result c.is_at_rest.ensures c.if-not-is_at_rest.false in
    let op : Pending = record { kind = c.args.kind; file = c.args.new.file; kept = c.args.new.first } in
    let owned = owned_with cat.tables op c.shape-shape.ensures.rules.rules.owned (ap (λ (v : Catalogued). v.tables.operations.pending) c.catalog-catalog.ensures ∙ none) in
    subst (λ (v : Catalogued). (u : Tables) × IsPlan v c.in-Ok.change.put c.in-Ok.change.gone u) c.catalog-catalog.ensures (begun cat.tables c.args.kind c.args.new, c.in-Ok.ensures.planned owned)

pub returns-in-Ok-clause-goes : goal.returns-in-Ok-clause-goes
returns-in-Ok-clause-goes g c =
    goes_on c.commit_plan.result (given_up c.args.m.now c.set_flight.new.self (g.B.Bay.state c.args.bay.now) c.requires.takes c.set_flight.ensures)
    (given_mounted c.args.m.now c.set_flight.new.self c.requires.mounted c.set_flight.ensures) c.commit_plan.ensures.goes

pub returns-in-Ok-clause-begins : goal.returns-in-Ok-clause-begins
returns-in-Ok-clause-begins g c =
    let cat = c.catalog-catalog.result.now in
    let none = on_true c.is_at_rest.result c.is_at_rest.ensures c.if-not-is_at_rest.false in
    let op : Pending = record { kind = c.args.kind; file = c.args.new.file; kept = c.args.new.first } in
    let owned = owned_with cat.tables op c.shape-shape.ensures.rules.rules.owned (ap (λ (v : Catalogued). v.tables.operations.pending) c.catalog-catalog.ensures ∙ none) in
    begins c.args.m.now c.set_flight.new.self cat c.args.kind c.args.new c.in-Ok.change.put c.in-Ok.change.gone c.commit_plan.result c.commit_plan.new.self c.set_flight.ensures
    c.catalog-catalog.ensures (c.in-Ok.ensures.planned owned) c.commit_plan.ensures.commits.applied

pub returns-clause-goes : goal.returns-clause-goes
returns-clause-goes g c = goes_short (given_up c.args.m.now c.set_flight.new.self (g.B.Bay.state c.args.bay.now) c.requires.takes c.set_flight.ensures)
