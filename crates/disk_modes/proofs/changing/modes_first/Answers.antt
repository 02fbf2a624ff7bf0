use Rattle.std.proofs.Common.{Some}
use Rattle.record_laws.proofs.group_engine.Endings.{goes_on}
use Rattle.disk_modes.specs.Effects.{PutsBoth, PutsRebalance}
use Rattle.disk_modes.proofs.Effects.{modes_then_rebalance, on_ok}
use Rattle.disk_modes.proofs.Held.{held_on, turn_more, turns_before}
use Rattle.disk_modes.proofs.Steps.{takes_on}
use Rattle.disk_modes.proofs.changing.modes_first.Goals as goal

pub rebalance_or_shut-requires-clause-takes : goal.rebalance_or_shut-requires-clause-takes
rebalance_or_shut-requires-clause-takes g c = takes_on c.in-Ok.ensures.goes.keeps

pub returns-in-Ok-clause-goes : goal.returns-in-Ok-clause-goes
returns-in-Ok-clause-goes g c = goes_on c.rebalance_or_shut.result c.in-Ok.ensures.goes.keeps c.in-Ok.ensures.goes.mounted c.rebalance_or_shut.ensures.goes

pub returns-in-Ok-clause-done : goal.returns-in-Ok-clause-done
returns-in-Ok-clause-done g c =
    let to = c.args.new.now in
    let a = c.args.m.now in
    let b = c.put_modes.new.m in
    let d = c.rebalance_or_shut.new.m in
    on_ok (PutsRebalance (Some c.args.power) b d) (PutsBoth c.args.power to a d) c.rebalance_or_shut.result (modes_then_rebalance c.args.power to a b d c.in-Ok.ensures.done) c.rebalance_or_shut.ensures.done

pub returns-in-Ok-clause-held : goal.returns-in-Ok-clause-held
returns-in-Ok-clause-held g c = λ may.
    let a = c.args.m.now in
    let b = c.put_modes.new.m in
    let goes = c.in-Ok.ensures.goes in
    let one = c.in-Ok.ensures.held may.0 in
    let two = c.rebalance_or_shut.ensures.commits in
    held_on goes.keeps.same goes.mounted (λ turns. turn_more a b one.turns may.1) (turns_before a b c.rebalance_or_shut.new.m one.turns two.turns) one two.held

pub returns-in-Err-clause-held : goal.returns-in-Err-clause-held
returns-in-Err-clause-held g c = λ may. c.in-Err.ensures.held may.0
