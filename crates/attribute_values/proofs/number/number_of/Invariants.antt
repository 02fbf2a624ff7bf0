use Rattle.std.proofs.Common.{◌<◌, ◌^◌}
use Rattle.attribute_values.proofs.NumberLaws.{Reads}
use Rattle.attribute_values.proofs.number.number_of.Given as goal

abbrev pub invariant-loop-b : goal.invariant-loop-b
invariant-loop-b l = record { read : Reads l.digits l.b-index l.number; small : l.number < 2 ^ 64 }
