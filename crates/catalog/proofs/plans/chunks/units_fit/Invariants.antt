use Rattle.std.proofs.Common.{◌≡◌, true, take}
use Rattle.std.specs.List.{list_all}
use Rattle.catalog.specs.ExtentPlans.{are_small}
use Rattle.catalog.proofs.plans.chunks.units_fit.Given as goal

abbrev pub invariant-loop-extent : goal.invariant-loop-extent
invariant-loop-extent l = list_all are_small (take l.extent-index l.homes) ≡ true
