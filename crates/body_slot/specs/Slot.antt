-- What a gated slot shows, and what its calls do to an image.
use Rattle.std.specs.Prelude.{◌≡◌, ◌⊎◌, ℕ, ◌+◌, ◌%◌, ◌≤◌, Bool, Option, Some, None, IsSome, List, if◌then◌else◌, ◌==◌}
use Rattle.bay.specs.Image.{Image, window, Range, Same, ChangesOnly}
use Rattle.bay.specs.State.{BayState, size_of}
use Rattle.body_slot.specs.declared.place.Place.{Place}

-- the bytes of a sector, which a disk writes whole
abbrev pub IsSectorSize : ℕ → Type 0
IsSectorSize sector = (sector ≡ 512) ⊎ (sector ≡ 4096)

-- the gate and the body of a place are whole sectors of an attached disk, and don't meet
pub record IsUsablePlace (state : BayState) (slot : ℕ) (place : Place) : Type 0 where
  pub attached : IsSome (state.attached slot)
  pub sector : IsSectorSize place.sector
  pub gate_inside : place.gate + place.sector ≤ size_of state slot
  pub body_inside : place.body + place.len ≤ size_of state slot
  pub gate_sectors : place.gate % place.sector ≡ 0
  pub body_sectors : place.body % place.sector ≡ 0
  pub len_sectors : place.len % place.sector ≡ 0
  pub apart : (place.gate + place.sector ≤ place.body) ⊎ (place.body + place.len ≤ place.gate)

-- the bytes of a gate
abbrev pub GateOf : Place → ℕ → ℕ → ℕ → Type 0
GateOf place slot = Range slot place.gate place.sector

-- the bytes of a gate and of its body
abbrev pub PlaceOf : Place → ℕ → ℕ → ℕ → Type 0
PlaceOf place slot s k = GateOf place slot s k ⊎ Range slot place.body place.len s k

-- no byte belongs to both places
abbrev pub ArePlacesApart : Place → ℕ → Place → ℕ → Type 0
ArePlacesApart place slot other other_slot = (s k : ℕ) → PlaceOf place slot s k → PlaceOf other other_slot s k → ⊥

-- a gate is open where its first byte is A5
abbrev pub is_open_in : Place → ℕ → Image → Bool
is_open_in place slot image = image.byte slot place.gate == 165

-- each image that a stop now may leave has the gate as it is held
pub record IsGateSettled (place : Place) (slot : ℕ) (state : BayState) : Type 0 where
  pub gate : (image held : Image) → state.leaves state.calls image → state.holds ≡ Some held → is_open_in place slot image ≡ is_open_in place slot held

-- the bytes of a body
abbrev pub body_in : Place → ℕ → Image → List ℕ
body_in place slot image = window (image.byte slot) place.body place.len

-- what a slot shows: its body where the gate is open, else nothing
abbrev pub shown_body : Place → ℕ → Image → Option (List ℕ)
shown_body place slot image = if is_open_in place slot image then Some (body_in place slot image) else None

-- the gate's first byte is this, and nothing but the gate is changed
pub record SetsGate (place : Place) (slot first : ℕ) (old new : Image) : Type 0 where
  pub gate : new.byte slot place.gate ≡ first
  pub elsewhere : ChangesOnly (GateOf place slot) old new

-- the disks are the same, and it is known whether the gate is open
pub record FoundGate (place : Place) (slot : ℕ) (answer : Bool) (old new : Image) : Type 0 where
  pub gate : is_open_in place slot new ≡ answer
  pub same : Same old new

-- the slot is closed
pub record Closes (place : Place) (slot : ℕ) (old new : Image) : Type 0 where
  pub shows : shown_body place slot new ≡ None
  pub elsewhere : ChangesOnly (GateOf place slot) old new

-- while it is closed, it shows what it did, or nothing
pub record MayClose (place : Place) (slot : ℕ) (old new : Image) : Type 0 where
  pub shows : (shown_body place slot new ≡ shown_body place slot old) ⊎ (shown_body place slot new ≡ None)
  pub elsewhere : ChangesOnly (GateOf place slot) old new

-- the slot shows its body
pub record Opens (place : Place) (slot : ℕ) (old new : Image) : Type 0 where
  pub shows : shown_body place slot new ≡ Some (body_in place slot old)
  pub elsewhere : ChangesOnly (GateOf place slot) old new

-- while it is opened, it shows nothing or its body
pub record MayOpen (place : Place) (slot : ℕ) (old new : Image) : Type 0 where
  pub shows : (shown_body place slot new ≡ None) ⊎ (shown_body place slot new ≡ Some (body_in place slot old))
  pub elsewhere : ChangesOnly (GateOf place slot) old new

-- the slot shows a new body
pub record HasPut (place : Place) (slot : ℕ) (body : List ℕ) (old new : Image) : Type 0 where
  pub shows : shown_body place slot new ≡ Some body
  pub elsewhere : ChangesOnly (PlaceOf place slot) old new

-- while a body is put, the slot shows what it did, nothing, or the new body
pub record MayPut (place : Place) (slot : ℕ) (body : List ℕ) (old new : Image) : Type 0 where
  pub shows : (shown_body place slot new ≡ shown_body place slot old) ⊎ ((shown_body place slot new ≡ None) ⊎ (shown_body place slot new ≡ Some body))
  pub elsewhere : ChangesOnly (PlaceOf place slot) old new

-- while a closed slot is filled and opened, it shows nothing or the body
pub record MayFillShut (place : Place) (slot : ℕ) (body : List ℕ) (old new : Image) : Type 0 where
  pub shows : shown_body place slot old ≡ None → (shown_body place slot new ≡ None) ⊎ (shown_body place slot new ≡ Some body)
  pub elsewhere : ChangesOnly (PlaceOf place slot) old new

-- the step comes from an image that has on the slot's disk what the disks held at a state, where the bay tells it
pub record FromHeld (state : BayState) (slot : ℕ) (step : Image → Image → Type 0) (old new : Image) : Type 0 where
  pub disk : (held : Image) → state.holds ≡ Some held → (k : ℕ) → old.byte slot k ≡ held.byte slot k
  pub steps : step old new

-- Nothing changes until the slot's disk is settled: the disks are the same, or the step comes from what was held.
abbrev pub WaitsFor : BayState → ℕ → (Image → Image → Type 0) → Image → Image → Type 0
WaitsFor state slot step old new = Same old new ⊎ FromHeld state slot step old new
