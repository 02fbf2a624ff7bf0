use Rattle.bay.proofs.OneCall.{of_device}
use Rattle.bay.proofs.laws.device_calls_are_calls.Goals as goal

pub returns : goal.returns
returns g c = λ sent bytes few call. of_device bytes few call
