use Rattle.std.proofs.Common.{Some, sym, ap, subst, ◌∙◌}
use Rattle.std.specs.Prelude.{IsTrue, is_some}
use Rattle.std.specs.Bool.{OnTrue}
use Rattle.std.proofs.lemmas.Option.{slice_get-get_or}
use Rattle.asm_formats.specs.Items.{Home}
use Rattle.plan_records.specs.allocator.UnitMaps.{UnitMap}
use Rattle.plan_records.specs.catalog_tables.Placing.{home_taken}
use Rattle.catalog.proofs.MovedHomes.{run_taken}
use Rattle.catalog.proofs.moving.has_run.Goals as goal

pub returns : goal.returns
returns c =
    let there = slice_get-get_or c.args.units.now c.home.inside.disk c.index-units-disk.result c.if-disk-units.false ∙ ap (λ (m : UnitMap). Some m) (sym c.index-units-disk.is) in
    subst (λ (h : Home). OnTrue c.begins_at.result (IsTrue (is_some (home_taken c.args.units.now h c.args.n)))) c.home.view_is
    (run_taken c.args.units.now (record { disk = c.home.inside.disk; unit = c.home.inside.unit }) c.args.n c.index-units-disk.result c.begins_at.result there c.begins_at.ensures)
