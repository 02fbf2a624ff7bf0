-- What both slots of a pair say of a group.
use Rattle.std.specs.Prelude.{◌≡◌, ⊤, ℕ, ◌+◌, Bool, IsTrue, true, false, List, [], ◌∷◌, if◌then◌else◌, Option, Some, None}
use Rattle.asm_formats.specs.Status.{Status, is_status}
use Rattle.status_register.specs.Slots.{first_gate, second_gate}
use Rattle.status_register.specs.declared.places.SlotPair.{SlotPair}

-- what there is
abbrev pub none_or_one : {A : Type 0} → Option A → List A
none_or_one None = []
none_or_one (Some x) = x ∷ []

-- a record of the formats, where there is one
abbrev pub IsAllowedStatus : Option Status → Type 0
IsAllowedStatus None = ⊤
IsAllowedStatus (Some r) = IsTrue (is_status r)

-- the same of what stands behind a gate, where it is open
abbrev pub ShowsAllowed : Option (Option Status) → Type 0
ShowsAllowed None = ⊤
ShowsAllowed (Some o) = IsAllowedStatus o

-- a record of the group, where there is one, is one of the formats
abbrev pub IsOwnRecord : ℕ → Option Status → Type 0
IsOwnRecord id None = ⊤
IsOwnRecord id (Some r) = IsTrue (is_status r) × (r.id ≡ id)

-- the gate is open, and the body is no value
abbrev pub shows_no_value : {A : Type 0} → Option (Option A) → Bool
shows_no_value None = false
shows_no_value (Some None) = true
shows_no_value (Some (Some x)) = false

-- the block of the first body of a pair that must be a value and isn't
abbrev pub damage_in : {A : Type 0} → SlotPair → Option (Option A) → Option (Option A) → Option ℕ
damage_in pair first second = if shows_no_value first then Some (first_gate pair + 1) else (if shows_no_value second then Some (second_gate pair + 1) else None)
