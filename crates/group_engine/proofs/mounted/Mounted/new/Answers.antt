use Rattle.std.proofs.Common.{rules}
use Rattle.group_engine.proofs.mounted.Mounted.new.Goals as goal

pub invariant_of-result : goal.invariant_of-result
invariant_of-result c = record { places = search rules; search = c.start.ensures c.args.catalog c.args.register.value }
