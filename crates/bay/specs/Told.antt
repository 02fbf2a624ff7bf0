-- What is told of the disks over some calls.
use Rattle.std.specs.Prelude.{Option}
use Rattle.std.specs.Option.{ForSome}
use Rattle.bay.specs.Image.{Image}
use Rattle.bay.specs.State.{BayState}

-- what the disks held at first, where it is told what they hold at first and at last
abbrev pub ToldOf : Option Image → Option Image → (Image → Type 0) → Type 0
ToldOf first last P = ForSome last (λ now. ForSome first P)

-- the same of two states of a bay
abbrev pub Told : BayState → BayState → (Image → Type 0) → Type 0
Told s t P = ToldOf s.holds t.holds P
