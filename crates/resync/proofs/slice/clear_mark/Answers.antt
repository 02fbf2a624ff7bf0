use Rattle.std.proofs.Common.{◌/◌, sym, subst}
use Rattle.file_extents.specs.catalog_tables.Tables.{Catalogued}
use Rattle.file_extents.specs.group_engine.Searches.{IsPlanIn}
use Rattle.file_extents.proofs.group_engine.Endings.{goes_without}
use Rattle.resync.proofs.Marks.{may_clear}
use Rattle.resync.proofs.slice.clear_mark.Goals as goal

pub plan_marks-requires : goal.plan_marks-requires
plan_marks-requires g c = record { marks = may_clear c.catalog-catalog.result.now.tables c.args.x.file c.args.x.index c.in-Some._homes (sym c.in-Some.ensures) }

pub commit_extent-requires-clause-plan : goal.commit_extent-requires-clause-plan
commit_extent-requires-clause-plan g c =
    let x = c.args.x in
    subst (λ (v : Catalogued). IsPlanIn (x.file, x.index / 256) v c.in-Ok.change.put c.in-Ok.change.gone) c.catalog-catalog.ensures
    (record { tables = _; plan = c.in-Ok.ensures.planned; same = c.planned_moves_change_one_chunk.ensures.marks c.catalog-catalog.result.now.tables x.file x.index 0 _ })

pub returns-in_default : goal.returns-in_default
returns-in_default g c = let t = c.requires.takes c.requires.mounted in record { goes = goes_without c.args.m.now (g.B.Bay.state c.args.bay.now) t.0 t.1 }

pub returns : goal.returns
returns g c = let t = c.requires.takes c.requires.mounted in record { goes = goes_without c.args.m.now (g.B.Bay.state c.args.bay.now) t.0 t.1 }
