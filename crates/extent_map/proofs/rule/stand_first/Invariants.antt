use Rattle.std.proofs.Common.{◌≡◌, false, drop}
use Rattle.extent_map.specs.Extents.{stand_first}
use Rattle.extent_map.proofs.rule.stand_first.Given as goal

abbrev pub invariant-loop-extent : goal.invariant-loop-extent
invariant-loop-extent l = stand_first l.ended (drop l.extent-index l.homes) ≡ stand_first false l.homes
