use Rattle.std.proofs.Common.{sym, subst}
use Rattle.asm_formats.specs.Status.{Status}
use Rattle.rebalance.specs.catalog_tables.Placing.{HasUnits}
use Rattle.group_engine.specs.Mounts.{MountedGroup}
use Rattle.group_engine.proofs.mounted.Mounted.next_move.Goals as goal

pub next-requires-clause-units : goal.next-requires-clause-units
next-requires-clause-units c =
    subst (λ (r : Status). HasUnits c.self.inside.catalog.shape r.entries c.self.inside.catalog.tables c.self.inside.catalog.units) (sym c.value.ensures)
    (subst (λ (v : MountedGroup). HasUnits v.catalog.shape v.register.value.entries v.catalog.tables v.catalog.units) (sym c.self.view_is) c.requires.whole.units)
