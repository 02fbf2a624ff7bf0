use Rattle.record_laws.proofs.group_engine.Endings.{goes_on}
use Rattle.disk_modes.specs.Effects.{PutsBoth, PutsModes}
use Rattle.disk_modes.proofs.Effects.{on_ok, rebalance_then_modes}
use Rattle.disk_modes.proofs.Getting.{put_behind}
use Rattle.disk_modes.proofs.Held.{fewer_turns, held_on, turns_behind}
use Rattle.disk_modes.proofs.Steps.{takes_on}
use Rattle.disk_modes.proofs.changing.rebalance_first.Goals as goal

pub modes_or_shut-requires-clause-takes : goal.modes_or_shut-requires-clause-takes
modes_or_shut-requires-clause-takes g c = takes_on c.in-Ok.ensures.goes.keeps

pub returns-in-Ok-clause-goes : goal.returns-in-Ok-clause-goes
returns-in-Ok-clause-goes g c = goes_on c.modes_or_shut.result c.in-Ok.ensures.goes.keeps c.in-Ok.ensures.goes.mounted c.modes_or_shut.ensures.goes

pub returns-in-Ok-clause-done : goal.returns-in-Ok-clause-done
returns-in-Ok-clause-done g c =
    let to = c.args.new.now in
    let a = c.args.m.now in
    let b = c.put_rebalance.new.m in
    let d = c.modes_or_shut.new.m in
    on_ok (PutsModes to b d) (PutsBoth c.args.power to a d) c.modes_or_shut.result (rebalance_then_modes c.args.power to a b d c.in-Ok.ensures.done) c.modes_or_shut.ensures.done

pub returns-in-Ok-clause-held : goal.returns-in-Ok-clause-held
returns-in-Ok-clause-held g c = λ may.
    let a = c.args.m.now in
    let b = c.put_rebalance.new.m in
    let one = c.in-Ok.ensures in
    let two = c.modes_or_shut.ensures.held (put_behind c.args.new.now a b one.done.kept may) in
    held_on one.goes.keeps.same one.goes.mounted (fewer_turns a b one.commits.turns) (turns_behind a b c.modes_or_shut.new.m one.commits.turns two.turns) one.commits.held two
