use Rattle.flight_laws.proofs.Agreeing.{agreed_copies_hold, agreed_hold, cleared_copies_hold, marked_copies_hold}
use Rattle.flight_laws.proofs.agreed_copies_hold.Goals as goal

pub returns : goal.returns
returns c = record { any = agreed_hold; moved = agreed_copies_hold; cleared = cleared_copies_hold; marked = marked_copies_hold }
