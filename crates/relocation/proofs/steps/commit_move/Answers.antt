use Rattle.std.proofs.Common.{◌/◌, subst}
use Rattle.resync.specs.catalog_tables.Tables.{Catalogued}
use Rattle.resync.specs.group_engine.Searches.{IsPlanIn}
use Rattle.resync.proofs.group_engine.Endings.{goes_without}
use Rattle.relocation.proofs.steps.commit_move.Goals as goal

pub commit_extent-requires-clause-plan : goal.commit_extent-requires-clause-plan
commit_extent-requires-clause-plan g c =
    let x = c.args.flight.x in
    subst (λ (v : Catalogued). IsPlanIn (x.file, x.index / 256) v c.in-Ok.change.put c.in-Ok.change.gone) c.catalog.ensures c.in-Ok.ensures

pub returns-in-Ok : goal.returns-in-Ok
returns-in-Ok g c = c.commit_extent.ensures.goes

pub returns : goal.returns
returns g c = let t = c.requires.takes c.requires.mounted in goes_without c.args.m.now (g.B.Bay.state c.args.bay.now) t.0 t.1
