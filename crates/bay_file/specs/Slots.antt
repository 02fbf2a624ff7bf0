-- What the slots of a bay say.
use Rattle.std.specs.Prelude.{◌≡◌, ◌≢◌, ◌≤◌, ℕ, Option, Some, None, option_map, option_and_then, Result, Ok, IfOk, OnOk, OnErr, IsErrOf}
use Rattle.std.specs.Option.{option_map_or, ForSome}
use Rattle.std.specs.Ordering.{nat_cmp}
use Rattle.std.specs.BTreeMap.{BTreeMap, get}
use Rattle.bay.specs.Counts.{Rose}
use Rattle.bay.specs.declared.fault.BayError.{BayError}
use Rattle.bay.specs.declared.fault.BayError.TheVariants.{Fault}
use Rattle.bay_file.specs.declared.slot.Slot.{Slot}

-- the size of the image that is attached to a slot
abbrev pub size_in : Slot → Option ℕ
size_in slot = option_map (λ image. image.size) slot.image

-- what a slot says
pub record SlotState : Type 0 where
  -- the size of the image that is attached
  pub attached : Option ℕ
  -- how many bytes were handed to `write`
  pub written : ℕ
  -- how often calls failed
  pub faults : ℕ

abbrev pub slot_state : Slot → SlotState
slot_state slot = record { attached = size_in slot; written = slot.written; faults = slot.faults }

abbrev pub SlotMap : Type 0
SlotMap = BTreeMap ℕ Slot

-- a slot that was never used has no image, and its counts are 0
abbrev pub attached_in : SlotMap → ℕ → Option ℕ
attached_in slots s = option_and_then size_in (get nat_cmp slots s)

abbrev pub faults_in : SlotMap → ℕ → ℕ
faults_in slots s = option_map_or (λ slot. slot.faults) (get nat_cmp slots s) 0

abbrev pub written_in : SlotMap → ℕ → ℕ
written_in slots s = option_map_or (λ slot. slot.written) (get nat_cmp slots s) 0

abbrev pub state_in : SlotMap → ℕ → SlotState
state_in slots s = record { attached = attached_in slots s; written = written_in slots s; faults = faults_in slots s }

-- the slots but one say what they said
pub record OtherSlotsStay (slot : ℕ) (old new : SlotMap) : Type 0 where
  pub attached : (s : ℕ) → s ≢ slot → attached_in new s ≡ attached_in old s
  pub faults : (s : ℕ) → s ≢ slot → faults_in new s ≡ faults_in old s
  pub written : (s : ℕ) → s ≢ slot → written_in new s ≡ written_in old s

-- each slot says what it said
pub record AllSlotsStay (old new : SlotMap) : Type 0 where
  pub attached : (s : ℕ) → attached_in new s ≡ attached_in old s
  pub faults : (s : ℕ) → faults_in new s ≡ faults_in old s
  pub written : (s : ℕ) → written_in new s ≡ written_in old s

-- An image was attached to a slot, or refused. One that was attached stays.
pub record IsAttached (result : Result ℕ BayError) (old new : SlotState) : Type 0 where
  pub attached : IfOk result (λ size. new.attached ≡ Some size)
  pub has : ForSome old.attached (λ size. (result ≡ Ok size) × (new.attached ≡ Some size))
  pub refused : OnErr result (new.attached ≡ old.attached)
  pub written : new.written ≡ old.written
  pub later : old.faults ≤ new.faults
  pub cause : IsErrOf result Fault → Rose old.faults new.faults

-- An image of a size was made and attached to a slot, or refused. Then none is attached.
pub record IsMade {T : Type 0} (result : Result T BayError) (size : ℕ) (old new : SlotState) : Type 0 where
  pub attached : OnOk result (new.attached ≡ Some size)
  pub refused : OnErr result (new.attached ≡ None)
  pub written : new.written ≡ old.written
  pub later : old.faults ≤ new.faults
  pub cause : IsErrOf result Fault → Rose old.faults new.faults

-- A call on an attached image was done, or failed. Its image stays attached, and `sent` is what became of its count of bytes.
pub record IsServed {T E : Type 0} (result : Result T E) (sent : ℕ → ℕ) (old new : SlotState) : Type 0 where
  pub attached : new.attached ≡ old.attached
  pub written : new.written ≡ sent old.written
  pub later : old.faults ≤ new.faults
  pub cause : OnErr result (Rose old.faults new.faults)
