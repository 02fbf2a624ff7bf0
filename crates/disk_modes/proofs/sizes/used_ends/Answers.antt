use Rattle.std.proofs.Common.{List, subst, ◌∙◌}
use Rattle.group_reports.specs.extent_map.Extents.{Chunked}
use Rattle.disk_modes.proofs.Ends.{HasWalked, all_walked, none_walked, one_walked}
use Rattle.disk_modes.proofs.sizes.used_ends.Goals as goal

pub loop-at-init : goal.loop-at-init
loop-at-init c = none_walked c.args.catalog.now _ (c.into_iter-at-iterator.ensures.into_iter_gives ∙ c.chunks-at-items.ensures)

pub loop-at-preserved : goal.loop-at-preserved
loop-at-preserved c =
    one_walked c.args.catalog.now c.loop-at.at-iterator c.next.new.self c.in-Some.at.now c.in-Some.chunk.now c.as_slice.result.now c.in-Some.ensures.steps c.as_slice.ensures.homes c.loop-at.invariant c.end_behind.ensures

pub returns : goal.returns
returns c = all_walked c.args.catalog.now (subst (λ (rest : List Chunked). HasWalked c.args.catalog.now rest c.loop-at.ends) c.in-None.ensures.steps.0 c.loop-at.invariant)
