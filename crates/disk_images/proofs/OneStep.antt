-- What each image has once a change is done.
use Rattle.std.specs.Prelude.{Result, Ok, Err, OnOk}
use Rattle.bay.specs.Image.{Image}
use Rattle.bay.specs.State.{BayState}
use Rattle.bay.specs.Moments.{Ends, NowOnly}

-- what each image has that a change leads to
pub leads_to : {T E : Type 0} {done : Image → Image → Type 0} {P : Image → Type 0} (result : Result T E) (a b : BayState)
    → ((x y : Image) → a.leaves a.calls x → done x y → P y) → OnOk result (Ends done a b) → OnOk result (NowOnly b P)
leads_to (Ok value) a b gives ends = record { now = λ image left. let from = ends.now image left in gives from.0 image from.1 from.2 }
leads_to (Err e) a b gives ends = tt
