use Rattle.std.proofs.Common.{◌≡◌, ◌-◌}
use Rattle.directory_page.specs.Checks.{times}
use Rattle.directory_page.specs.Values.{extent_check}
use Rattle.directory_page.proofs.values.pass_extents.Given as goal

abbrev pub invariant-loop-i : goal.invariant-loop-i
invariant-loop-i l = times (256 - l.i) extent_check l.from ≡ times 256 extent_check l.fn.from
