use Rattle.std.proofs.Common.{sym, subst, ◌∙◌}
use Rattle.record_laws.specs.catalog_tables.Tables.{Tables}
use Rattle.record_laws.proofs.group_engine.Endings.{goes_on}
use Rattle.group_pieces.specs.Marking.{AreMarked, MarksMore}
use Rattle.group_pieces.proofs.FewerServing.{costs_on}
use Rattle.group_pieces.proofs.Recording.{held_on}
use Rattle.group_pieces.proofs.Steps.{any_ok, takes_next}
use Rattle.group_pieces.proofs.piece.record_faults.Goals as goal

pub take_offline-requires : goal.take_offline-requires
take_offline-requires g c = record {
  mounted = c.in-Ok.ensures.goes.mounted;
  takes = takes_next c.args.m.now c.mark_left.new.m (g.B.Bay.state c.args.bay.now) (g.B.Bay.state c.mark_left.new.bay) c.in-Ok.ensures.goes.keeps;
}

pub returns-in-Ok-clause-goes : goal.returns-in-Ok-clause-goes
returns-in-Ok-clause-goes g c = goes_on c.take_offline.result c.in-Ok.ensures.goes.keeps c.in-Ok.ensures.goes.mounted c.take_offline.ensures.goes

pub returns-in-Ok-clause-marked : goal.returns-in-Ok-clause-marked
returns-in-Ok-clause-marked g c =
    any_ok c.take_offline.result (subst (λ (t : Tables). AreMarked c.args.m.now c.args.x c.args.inner c.args.failed t) (sym c.take_offline.ensures.tables) c.in-Ok.ensures.marked)

pub returns-in-Ok-clause-still : goal.returns-in-Ok-clause-still
returns-in-Ok-clause-still g c = λ none left. c.take_offline.ensures.still none ∙ c.mark_left.ensures.still left

pub returns-in-Ok-clause-held : goal.returns-in-Ok-clause-held
returns-in-Ok-clause-held g c =
    held_on c.args.m.now c.mark_left.new.m (g.B.Bay.state c.args.bay.now) (g.B.Bay.state c.mark_left.new.bay) c.args.x c.args.inner c.args.failed c.in-Ok.ensures.held c.in-Ok.ensures.goes.keeps.same.id
    c.mark_left.ensures.status.entries c.mark_left.ensures.turns c.take_offline.new.m (g.B.Bay.state c.take_offline.new.bay) c.take_offline.result c.take_offline.ensures.held

pub returns-in-Ok-clause-places : goal.returns-in-Ok-clause-places
returns-in-Ok-clause-places g c =
    any_ok c.take_offline.result (subst (λ (t : Tables). MarksMore c.args.m.now.catalog.tables t) (sym c.take_offline.ensures.tables) c.in-Ok.ensures.places)

pub returns-in-Ok-clause-turns : goal.returns-in-Ok-clause-turns
returns-in-Ok-clause-turns g c =
    costs_on c.args.m.now c.mark_left.new.m c.take_offline.new.m c.args.failed c.take_offline.result c.mark_left.ensures.status.entries c.mark_left.ensures.turns c.take_offline.ensures.turns
