use Rattle.flight_laws.proofs.Writing.{settling_holds, writing_agrees, writing_holds}
use Rattle.flight_laws.proofs.writing_holds.Goals as goal

pub returns : goal.returns
returns c = record { writing = writing_holds; settled = settling_holds; agrees = writing_agrees }
