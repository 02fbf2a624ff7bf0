use Rattle.body_slot.proofs.Steps.{shown-elsewhere}
use Rattle.body_slot.specs.Slot.{PlaceOf}
use Rattle.body_slot.proofs.place.other_places_stay.Goals as goal

pub returns : goal.returns
returns c = λ x y some apart step. shown-elsewhere c.args.place c.args.slot some (PlaceOf c.args.other c.args.other_slot) x y (λ k mine. apart c.args.slot k mine) step
