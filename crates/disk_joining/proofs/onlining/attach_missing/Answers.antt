use Rattle.std.proofs.Common.{refl, ◌∙◌}
use Rattle.disk_joining.proofs.Takings.{nothing_taken, taken_on, takes_then}
use Rattle.disk_joining.proofs.onlining.attach_missing.Goals as goal

pub loop-number-init : goal.loop-number-init
loop-number-init g c = record { taken = nothing_taken c.args.held.now c.args.m.now (g.B.Bay.state c.args.bay.now) c.requires.takes c.requires.apart; same = refl }

pub attach_found-requires-clause-takes : goal.attach_found-requires-clause-takes
attach_found-requires-clause-takes g c = takes_then c.loop-number.invariant.taken

pub attach_found-requires-clause-apart : goal.attach_found-requires-clause-apart
attach_found-requires-clause-apart g c = c.loop-number.invariant.taken.own

pub loop-number-preserved : goal.loop-number-preserved
loop-number-preserved g c = record {
  taken = taken_on c.args.held.now c.loop-number.invariant.taken c.attach_found.ensures.taken;
  same = c.attach_found.ensures.same ∙ c.loop-number.invariant.same;
}
