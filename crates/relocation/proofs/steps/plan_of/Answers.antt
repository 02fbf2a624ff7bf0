use Rattle.std.proofs.Common.{◌/◌}
use Rattle.resync.proofs.group_engine.Endings.{on_true}
use Rattle.relocation.proofs.Chains.{planned}
use Rattle.relocation.proofs.steps.plan_of.Goals as goal

pub plan_marks-requires : goal.plan_marks-requires
plan_marks-requires c = record { marks = on_true c.is_in_place.result c.is_in_place.ensures.marks c.if-is_in_place.true }

pub returns-then-is_in_place : goal.returns-then-is_in_place
returns-then-is_in_place c =
    let x = c.args.flight.x in
    planned (x.file, x.index / 256) c.args.catalog.now _ c.plan_marks.result c.plan_marks.ensures.planned (c.planned_moves_change_one_chunk.ensures.marks c.args.catalog.now.tables x.file x.index 0 _)

pub plan_move-requires : goal.plan_move-requires
plan_move-requires c = record { move_ = on_true c.may_move.result c.may_move.ensures c.if-may_move.true }

pub returns-then-may_move : goal.returns-then-may_move
returns-then-may_move c =
    let x = c.args.flight.x in
    planned (x.file, x.index / 256) c.args.catalog.now _ c.plan_move.result c.plan_move.ensures.planned (c.planned_moves_change_one_chunk.ensures.moves c.args.catalog.now.tables x.file x.index _ _)
