use Rattle.record_laws.proofs.group_engine.Endings.{goes_on}
use Rattle.disk_modes.specs.Sizes.{PutsUnits, ResizesDisks}
use Rattle.disk_modes.proofs.Effects.{on_ok}
use Rattle.disk_modes.proofs.Held.{fewer_turns, held_on, turns_behind}
use Rattle.disk_modes.proofs.Resized.{rebalance_then_units}
use Rattle.disk_modes.proofs.Sized.{same_fit}
use Rattle.disk_modes.proofs.Steps.{takes_on}
use Rattle.disk_modes.proofs.resizing.rebalance_first.Goals as goal

pub units_or_shut-requires-clause-takes : goal.units_or_shut-requires-clause-takes
units_or_shut-requires-clause-takes g c = takes_on c.in-Ok.ensures.goes.keeps

pub returns-in-Ok-clause-goes : goal.returns-in-Ok-clause-goes
returns-in-Ok-clause-goes g c = goes_on c.units_or_shut.result c.in-Ok.ensures.goes.keeps c.in-Ok.ensures.goes.mounted c.units_or_shut.ensures.goes

pub returns-in-Ok-clause-done : goal.returns-in-Ok-clause-done
returns-in-Ok-clause-done g c =
    let asked = c.args.asked.now in
    let a = c.args.m.now in
    let b = c.put_rebalance.new.m in
    let d = c.units_or_shut.new.m in
    on_ok (PutsUnits asked b d) (ResizesDisks asked.disks asked.size c.args.power a d) c.units_or_shut.result
    (rebalance_then_units c.args.power asked a b d c.in-Ok.ensures.goes.keeps.same c.in-Ok.ensures.done) c.units_or_shut.ensures.done

pub returns-in-Ok-clause-held : goal.returns-in-Ok-clause-held
returns-in-Ok-clause-held g c = λ fit.
    let a = c.args.m.now in
    let b = c.put_rebalance.new.m in
    let one = c.in-Ok.ensures in
    let two = c.units_or_shut.ensures.held (same_fit c.args.asked.now a b one.goes.keeps.same fit) one.commits.rules in
    held_on one.goes.keeps.same one.goes.mounted (fewer_turns a b one.commits.turns) (turns_behind a b c.units_or_shut.new.m one.commits.turns two.turns) one.commits.held two
