use Rattle.std.proofs.Common.{◌≤◌, subst}
use Rattle.allocator.specs.UnitMaps.{UnitMap, total_of, used_of}
use Rattle.allocator.proofs.Maps.{used_few}
use Rattle.allocator.proofs.units.Units.used.Goals as goal

pub returns-clause-few : goal.returns-clause-few
returns-clause-few c = subst (λ (m : UnitMap). used_of m ≤ total_of m) c.self.view_is (used_few c.self.inside.first c.self.inside.units c.self.inside.words.items)
