-- Calls on a copy's disk as one value each, where a `Call` of the bay says less.
use Rattle.std.specs.Prelude.{◌≡◌, ℕ, Result, Ok, IfOk, OnErr}
use Rattle.std.specs.Option.{ForSome}
use Rattle.bay.specs.Image.{Image, Same}
use Rattle.bay.specs.State.{BayState, IsSlot}
use Rattle.bay.specs.Counts.{Rose}
use Rattle.bay.specs.Moments.{Ends, Durable}
use Rattle.bay.specs.Calls.{Cost, cost, Calls, Call, Held}
use Rattle.bay.specs.Told.{Told}

-- Calls on one slot that only read, so many at most.
pub record OnlyReads (slot most : ℕ) (old new : BayState) : Type 0 where
  -- the same disks stay attached, and hold what they held
  pub calls : Calls (IsSlot slot) Same (cost most 0) old new
  -- no byte is handed to `write`
  pub written : new.written slot ≡ old.written slot

-- Reads with their answer.
pub record ReadCall {T E : Type 0} (result : Result T E) (slot : ℕ)
    (does : T → BayState → BayState → Type 0) (most : ℕ) (old new : BayState) : Type 0 where
  pub reads : OnlyReads slot most old new
  -- at Ok they tell this
  pub done : IfOk result (λ value. does value old new)
  -- they fail only where the slot failed
  pub cause : OnErr result (Rose (old.faults slot) (new.faults slot))

-- what is told at Ok of what the disks held before
abbrev pub ToldOver : (Image → Type 0) → BayState → BayState → Type 0
ToldOver P old new = Told old new P

-- what is told at Ok of the disks as they are behind the call
abbrev pub TellsNow : (Image → Type 0) → BayState → BayState → Type 0
TellsNow P old new = ForSome new.holds P

-- what a call does at Ok that ends with a sync
pub record DoneSynced {T : Type 0} (slot : ℕ) (change : Image → Image → Type 0) (value : T)
    (old new : BayState) : Type 0 where
  -- it changed each image
  pub ends : Ends change old new
  -- each image has on the slot's disk what it holds
  pub durable : Durable slot new

-- calls on a slot one after the other, none of which failed, and no sync behind them
abbrev pub WentHeld : ℕ → (Image → Image → Type 0) → (Image → Image → Type 0) → Cost
    → BayState → BayState → Type 0
WentHeld slot step change = Call {T = Unit {0}} {E = Unit {0}} (Ok (tt {0})) slot step (Held change)
