use Rattle.std.proofs.Common.{◌/◌, refl, sym, subst}
use Rattle.catalog_tables.specs.Tables.{Tables}
use Rattle.rebalance.specs.Cursors.{IsSameBut}
use Rattle.benchmarks.proofs.moves.make_next.Goals as goal

pub follow-requires : goal.follow-requires
follow-requires c = record { tables = c.shape.ensures.rules.rules.tables }

pub returns-clause-cursor : goal.returns-clause-cursor
returns-clause-cursor c =
    let x = c.in-Shift.x in
    let same = subst (λ (t : Tables). IsSameBut (x.file, x.index / 256) c.args.catalog.now.tables t) (sym c.in_ok-make.ensures.moved)
    (c.planned_moves_change_one_chunk.ensures.moves c.args.catalog.now.tables x.file x.index c.in-Shift.copy c.in-Shift.to) in
    c.follow.ensures.follows c.args.catalog.now c.args.status.now c.next_move_from.ensures.cursor c.make.ensures.shape refl same
