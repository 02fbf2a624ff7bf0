use Rattle.std.proofs.Common.{◌≡◌, ◌-◌, []}
use Rattle.directory_page.specs.Values.{each_after}
use Rattle.directory_page.proofs.templates.pass_each.Given as goal

abbrev pub invariant-loop-i : goal.invariant-loop-i
invariant-loop-i l = each_after l.before (l.count - l.i) l.from ≡ each_after [] l.count l.fn.from
