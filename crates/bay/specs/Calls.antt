-- A call on the disks as one value: its slots, what it did and cost, and what it answered.
use Rattle.std.specs.Prelude.{◌≡◌, ℕ, ◌+◌, ◌≤◌, Option, Some, Result, Ok, IfOk, OnErr, IsErrOf}
use Rattle.std.specs.Option.{ForSome}
use Rattle.bay.specs.Image.{Image, Makes}
use Rattle.bay.specs.State.{BayState, IsSlot, KeepsAttached, AttachesOnly}
use Rattle.bay.specs.Counts.{count_after, Rose}
use Rattle.bay.specs.Moments.{Runs, Ends, Holds, Durable}
use Rattle.bay.specs.declared.fault.BayError.{BayError}
use Rattle.bay.specs.declared.fault.BayError.TheVariants.{Fault}

-- so many calls of the bay, and so many bytes handed to `write` for each slot
pub record Cost : Type 0 where
  pub calls : ℕ
  pub bytes : ℕ → ℕ

-- the same number of bytes for each slot
abbrev pub cost : ℕ → ℕ → Cost
cost calls bytes = record { calls = calls; bytes = λ s. bytes }

-- one cost and another
abbrev pub both_costs : Cost → Cost → Cost
both_costs one other = record {
  calls = one.calls + other.calls;
  bytes = λ s. one.bytes s + other.bytes s;
}

-- one cost is at most the other
pub record CostsAtMost (cost most : Cost) : Type 0 where
  pub calls : cost.calls ≤ most.calls
  pub bytes : (s : ℕ) → cost.bytes s ≤ most.bytes s

-- Calls on these slots lead from old to new, at this cost at most.
pub record Calls (slots : ℕ → Type 0) (step : Image → Image → Type 0) (most : Cost)
    (old new : BayState) : Type 0 where
  -- the same disks stay attached
  pub attached : KeepsAttached old new
  -- other slots stay, and each image of each moment comes by the step
  pub runs : Runs slots step old new
  pub calls : new.calls ≤ old.calls + most.calls
  pub written : (s : ℕ) → new.written s ≤ old.written s + most.bytes s

-- A call on one slot, with its answer.
pub record Call {T E : Type 0} (result : Result T E) (slot : ℕ) (step : Image → Image → Type 0)
    (does : T → BayState → BayState → Type 0) (most : Cost) (old new : BayState) : Type 0 where
  pub calls : Calls (IsSlot slot) step most old new
  -- at Ok it has done this
  pub done : IfOk result (λ value. does value old new)
  -- it fails only where the slot failed
  pub cause : OnErr result (Rose (old.faults slot) (new.faults slot))

-- what a call does at Ok: a change of each image
abbrev pub ChangesEachImage : {T : Type 0} → (Image → Image → Type 0) → T → BayState → BayState → Type 0
ChangesEachImage change value = Ends change

-- a change of what the disks hold, which no sync has settled yet
abbrev pub Held : {T : Type 0} → (Image → Image → Type 0) → T → BayState → BayState → Type 0
Held change value = Holds change

-- a sync
abbrev pub Settles : {T : Type 0} → ℕ → T → BayState → BayState → Type 0
Settles slot value old new = Durable slot new

-- a read: what the disks held before is so, where the bay tells it
abbrev pub Tells : (Image → Type 0) → BayState → BayState → Type 0
Tells P old new = ForSome old.holds P

-- calls on a slot one after the other, none of which failed
abbrev pub Went : ℕ → (Image → Image → Type 0) → (Image → Image → Type 0) → Cost
    → BayState → BayState → Type 0
Went slot step done = Call {T = Unit {0}} {E = Unit {0}} (Ok (tt {0})) slot step (ChangesEachImage done)

-- what becomes of a slot's count of bytes in a call that hands none to `write`
abbrev pub sends_none : ℕ → ℕ
sends_none written = written

-- and in one that hands it so many
abbrev pub sends : ℕ → ℕ → ℕ
sends bytes written = count_after written bytes

-- One call of the device on an attached disk, with its answer. Its counts are exact.
pub record DeviceCall {T E : Type 0} (result : Result T E) (slot : ℕ)
    (step : Image → Image → Type 0) (does : T → BayState → BayState → Type 0) (sent : ℕ → ℕ)
    (old new : BayState) : Type 0 where
  -- it is one call more
  pub count : new.calls ≡ count_after old.calls 1
  -- of the slot's bytes it counts those that it was handed
  pub written : new.written slot ≡ sent (old.written slot)
  -- the same disks stay attached
  pub attached : KeepsAttached old new
  -- other slots stay, and each image of each moment comes by the step
  pub runs : Runs (IsSlot slot) step old new
  -- at Ok it has done this
  pub done : IfOk result (λ value. does value old new)
  -- it fails only where the slot failed
  pub cause : OnErr result (Rose (old.faults slot) (new.faults slot))

-- a disk of so many bytes is attached to the slot
pub record Attaches (slot size : ℕ) (old new : BayState) : Type 0 where
  pub attached : new.attached slot ≡ Some size
  -- one that was attached has the size that it had
  pub has : ForSome (old.attached slot) (λ had. new.attached slot ≡ Some had)

-- a disk of so many zeros is attached to the slot
pub record AttachesZeros (slot size : ℕ) (old new : BayState) : Type 0 where
  pub attached : new.attached slot ≡ Some size
  pub zeros : Ends (Makes slot size) old new

-- One call of the device that attaches a disk to a slot, with its answer. Its counts are exact.
pub record AttachCall {T : Type 0} (result : Result T BayError) (slot : ℕ)
    (step : Image → Image → Type 0) (does : T → BayState → BayState → Type 0) (left : Option ℕ)
    (old new : BayState) : Type 0 where
  -- it is one call more
  pub count : new.calls ≡ count_after old.calls 1
  -- it hands no bytes to `write`
  pub written : new.written slot ≡ old.written slot
  -- on other slots the same disks stay attached
  pub others : AttachesOnly slot old new
  -- other slots stay, and each image of each moment comes by the step
  pub runs : Runs (IsSlot slot) step old new
  -- at Ok it has done this
  pub done : IfOk result (λ value. does value old new)
  -- where it fails this is attached to the slot
  pub refused : OnErr result (new.attached slot ≡ left)
  -- it is a fault only where the slot failed
  pub cause : IsErrOf result Fault → Rose (old.faults slot) (new.faults slot)
