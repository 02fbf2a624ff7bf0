use Rattle.std.proofs.Common.{◌∙◌, sym}
use Rattle.verb_paths.proofs.Matching.{next_place, no_place, shorter}
use Rattle.verb_paths.proofs.pattern.matches_from.Goals as goal

pub loop-behind-smaller-in-Star : goal.loop-behind-smaller-in-Star
loop-behind-smaller-in-Star c = shorter c.loop-behind.pattern.now c.loop-behind.name.now c.in-Star.behind.now c.in-Star.rest.now c.in-Star.ensures

pub returns-in-empty : goal.returns-in-empty
returns-in-empty c = sym (no_place c.loop-behind.pattern.now c.loop-behind.name.now c.in-empty.len_below c.in-Differs.ensures) ∙ c.loop-behind.invariant

pub loop-behind-preserved : goal.loop-behind-preserved
loop-behind-preserved c = next_place c.loop-behind.pattern.now c.loop-behind.name.now c.in-len1-up.len_at_least c.in-Differs.ensures ∙ c.loop-behind.invariant
