use Rattle.std.proofs.Common.{sym, subst}
use Rattle.catalog_tables.specs.Rules.{AreOnRegular}
use Rattle.catalog_tables.specs.Tables.{Tables}
use Rattle.catalog_laws.proofs.RegularHomes.{moving_keeps}
use Rattle.sample_group.proofs.moving.make_move.Goals as goal

pub returns-clause-moved : goal.returns-clause-moved
returns-clause-moved c = c.a_change_leaves_one_set_of_tables.ensures _ _ _ _ _ c.in_ok-make.ensures.after c.in-Ok.ensures.planned.after

pub returns-clause-regular : goal.returns-clause-regular
returns-clause-regular c = λ entries regular on.
    subst (λ (t : Tables). AreOnRegular entries t) (sym (c.a_change_leaves_one_set_of_tables.ensures _ _ _ _ _ c.in_ok-make.ensures.after c.in-Ok.ensures.planned.after))
    (moving_keeps entries c.args.catalog.now.tables c.args.x.file c.args.x.index c.args.copy c.args.to regular on)
