use Rattle.bay.proofs.OneCall.{wider, cheaper, more_slots}
use Rattle.bay.proofs.laws.calls_widen.Goals as goal

pub returns : goal.returns
returns g c = λ least most within wide fits call. more_slots within (cheaper fits (wider wide call))
