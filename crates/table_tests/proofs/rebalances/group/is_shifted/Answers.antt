use Rattle.std.proofs.Common.{◌≡◌, ◌/◌, Bool, refl, sym, subst}
use Rattle.std.specs.Bool.{OnTrue}
use Rattle.catalog.specs.ExtentPlans.{with_move}
use Rattle.catalog_tables.specs.Tables.{Tables}
use Rattle.rebalance.specs.Cursors.{IsSameBut}
use Rattle.table_tests.proofs.rebalances.group.is_shifted.Goals as goal

pub follow-requires : goal.follow-requires
follow-requires c = record { tables = c.shape.ensures.rules.rules.tables }

pub returns-clause-cursor : goal.returns-clause-cursor
returns-clause-cursor c =
    let x = c.args.x in
    let old = c.args.catalog.now.tables in
    let moved : c.make_move.new.catalog.tables ≡ with_move old x.file x.index c.args.copy c.args.to =
    subst (λ (b : Bool). OnTrue b (c.make_move.new.catalog.tables ≡ with_move old x.file x.index c.args.copy c.args.to)) c.if-not-moved.false c.in-Ok.ensures.moved in
    let same = subst (λ (t : Tables). IsSameBut (x.file, x.index / 256) old t) (sym moved) (c.planned_moves_change_one_chunk.ensures.moves old x.file x.index c.args.copy c.args.to) in
    c.follow.ensures.follows c.args.catalog.now c.args.status.now c.requires.cursor c.make_move.ensures.shape refl same

pub returns-in_default-clause-cursor : goal.returns-in_default-clause-cursor
returns-in_default-clause-cursor c = c.restart.ensures c.make_move.new.catalog c.args.status.now

pub returns-then-not-moved-clause-cursor : goal.returns-then-not-moved-clause-cursor
returns-then-not-moved-clause-cursor c = c.restart-then-not-moved.ensures c.make_move.new.catalog c.args.status.now
