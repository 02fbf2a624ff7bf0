-- What stands in the claim and status slots of a disk, and which slot the next claim or record is put into.
use Rattle.std.specs.Prelude.{◌≡◌, ◌⊎◌, ℕ, ◌*◌, ◌==◌, Bool, nat_le, if◌then◌else◌, List, get_or, Option, Some, None}
use Rattle.std.specs.Option.{option_map}
use Rattle.bay.specs.Image.{Image, Range, Same, ChangesOnly}
use Rattle.asm_formats.specs.Bytes.{block_size}
use Rattle.asm_formats.specs.Claim.{Claim, decoded_claim}
use Rattle.asm_formats.specs.Status.{Status, decoded_status}
use Rattle.asm_formats.specs.Following.{rank}
use Rattle.asm_formats.specs.Regions.{claim_gates, status_gates}
use Rattle.asm_images.specs.Bridge.{shown_block}
use Rattle.status_register.specs.declared.places.SlotPair.{SlotPair}
use Rattle.status_register.specs.declared.places.SlotPair.TheVariants.{Claims, Records}

-- the gates of both slots of a pair
abbrev pub gates_of : SlotPair → List ℕ
gates_of Claims = claim_gates
gates_of Records = status_gates

abbrev pub first_gate : SlotPair → ℕ
first_gate pair = get_or (gates_of pair) 0 0

abbrev pub second_gate : SlotPair → ℕ
second_gate pair = get_or (gates_of pair) 1 0

-- both slots of a pair show these bodies
pub record ShowBoth (pair : SlotPair) (slot : ℕ) (one other : Option (List ℕ)) (image : Image) : Type 0 where
  pub first : one ≡ shown_block image slot (first_gate pair)
  pub second : other ≡ shown_block image slot (second_gate pair)

-- what the body behind a gate says: nothing where the gate is shut, and no value where the body is none
abbrev pub body_says : {A : Type 0} → (List ℕ → Option A) → Image → ℕ → ℕ → Option (Option A)
body_says decoded image slot gate = option_map decoded (shown_block image slot gate)

-- the number of a value that passes
abbrev pub passing_number : {A : Type 0} → (A → Bool) → (A → ℕ) → Option (Option A) → Option ℕ
passing_number test number None = None
passing_number test number (Some None) = None
passing_number test number (Some (Some x)) = if test x then Some (number x) else None

-- the epoch of a claim of the group, and the number of a record of it
abbrev pub claim_number : ℕ → Option (Option Claim) → Option ℕ
claim_number id o = passing_number (λ (c : Claim). c.id == id) (λ (c : Claim). c.epoch) o

abbrev pub record_number : ℕ → Option (Option Status) → Option ℕ
record_number id o = passing_number (λ (r : Status). r.id == id) rank o

-- The slot beside the one that holds, by the numbers in both: the first where neither has one. Where both have one number the first holds.
abbrev pub other_gate : ℕ → ℕ → Option ℕ → Option ℕ → ℕ
other_gate first second None other = first
other_gate first second (Some n) None = second
other_gate first second (Some n) (Some m) = if nat_le m n then second else first

-- the number of the group's claim, or record, in a body of a pair
abbrev pub number_in : SlotPair → ℕ → Option (List ℕ) → Option ℕ
number_in Claims id body = claim_number id (option_map decoded_claim body)
number_in Records id body = record_number id (option_map decoded_status body)

-- the gate of the slot of a pair that the next body is put into, by the numbers in both
abbrev pub gate_by : SlotPair → ℕ → ℕ → Image → ℕ
gate_by pair id slot image =
    other_gate (first_gate pair) (second_gate pair) (number_in pair id (shown_block image slot (first_gate pair))) (number_in pair id (shown_block image slot (second_gate pair)))

-- the gate of the slot that the next claim is put into, and that of the next record
unfoldable pub claim_gate : ℕ → ℕ → Image → ℕ
claim_gate id slot image = gate_by Claims id slot image

unfoldable pub status_gate : ℕ → ℕ → Image → ℕ
status_gate id slot image = gate_by Records id slot image

-- the same of a pair of slots
abbrev pub next_gate : SlotPair → ℕ → ℕ → Image → ℕ
next_gate Claims id = claim_gate id
next_gate Records id = status_gate id

-- the disks are the same, and it is known which gate is the next
pub record FoundNextGate (gate_of : Image → ℕ) (gate : ℕ) (old new : Image) : Type 0 where
  pub gate_is : gate_of new ≡ gate
  pub same : Same old new

-- a body is being put behind this gate: the slot shows what it did, nothing or the body
pub record MayFill (gate slot : ℕ) (body : List ℕ) (old new : Image) : Type 0 where
  pub shows : (shown_block new slot gate ≡ shown_block old slot gate) ⊎ ((shown_block new slot gate ≡ None) ⊎ (shown_block new slot gate ≡ Some body))
  pub elsewhere : ChangesOnly (Range slot (gate * block_size) (2 * block_size)) old new

-- the slot shows the body
pub record Fills (gate slot : ℕ) (body : List ℕ) (old new : Image) : Type 0 where
  pub shows : shown_block new slot gate ≡ Some body
  pub elsewhere : ChangesOnly (Range slot (gate * block_size) (2 * block_size)) old new

-- a body is being put into the slot that is the next
abbrev pub MayPutNext : (ℕ → Image → ℕ) → ℕ → List ℕ → Image → Image → Type 0
MayPutNext gate_of slot body old new = MayFill (gate_of slot old) slot body old new

abbrev pub PutsNext : (ℕ → Image → ℕ) → ℕ → List ℕ → Image → Image → Type 0
PutsNext gate_of slot body old new = Fills (gate_of slot old) slot body old new
