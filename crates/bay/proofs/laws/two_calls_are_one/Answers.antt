use Rattle.bay.proofs.OneCall.{then}
use Rattle.bay.proofs.laws.two_calls_are_one.Goals as goal

pub returns : goal.returns
returns g c = λ first second starts goes ends before next. then (record { starts = starts; goes = goes; ends = ends }) before next
