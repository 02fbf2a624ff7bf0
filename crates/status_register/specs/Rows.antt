-- A body is put on the disks of several members, one after another.
use Rattle.std.specs.Prelude.{◌≡◌, ◌⊎◌, ℕ, ◌*◌, ◌<◌, List, [], ◌∷◌, ◌++◌, length, get_or, Some}
use Rattle.bay.specs.Image.{Image, Same}
use Rattle.bay.specs.State.{BayState}
use Rattle.bay.specs.Counts.{Rose}
use Rattle.bay.specs.Moments.{Ends, Runs}
use Rattle.bay.specs.Calls.{Cost, cost, Calls}
use Rattle.asm_formats.specs.Among.{IsAmong}
use Rattle.asm_images.specs.Bridge.{shown_block}
use Rattle.status_register.specs.Slots.{MayPutNext, PutsNext, first_gate, next_gate, second_gate}
use Rattle.status_register.specs.Surveys.{AreRead}
use Rattle.status_register.specs.Tallies.{IsSlotOf}
use Rattle.status_register.specs.declared.member.Member.{Member}
use Rattle.status_register.specs.declared.places.SlotPair.{SlotPair}
use Rattle.status_register.specs.declared.places.SlotPair.TheVariants.{Claims, Records}

-- some puts of a body on disks of these members, each whole or in part
pub data PutsRow (gate_of : ℕ → Image → ℕ) (ms : List Member) (body : List ℕ) : Image → Image → Type 0 where
  no_put : (x y : Image) → Same x y → PutsRow gate_of ms body x y
  one_put : (x y z : Image) (m : Member) → IsAmong ms m → PutsRow gate_of ms body x y → MayPutNext gate_of m.slot body y z → PutsRow gate_of ms body x z

-- the put of a body on a member's disk was tried: the disk shows the body, or the slot failed and has it in part
abbrev pub IsTried : (ℕ → Image → ℕ) → List ℕ → (ℕ → Type 0) → Member → Image → Image → Type 0
IsTried gate_of body failed m old new = PutsNext gate_of m.slot body old new ⊎ (failed m.slot × MayPutNext gate_of m.slot body old new)

-- A body is put on the disks of these members in their order: the put of the first is on its way, or it was tried and those of the others are on their way.
abbrev pub PutsInOrder : (ℕ → Image → ℕ) → List ℕ → (ℕ → Type 0) → List Member → Image → Image → Type 0
PutsInOrder gate_of body failed [] old new = Same old new
PutsInOrder gate_of body failed (m ∷ ms) old new =
    MayPutNext gate_of m.slot body old new ⊎ ((between : Image) × IsTried gate_of body failed m old between × PutsInOrder gate_of body failed ms between new)

-- the same of calls, at each moment: a slot failed only where its count rose
abbrev pub RunsInOrder : (ℕ → Image → ℕ) → List Member → List ℕ → BayState → BayState → Type 0
RunsInOrder gate_of ms body s t = Runs (IsSlotOf ms) (PutsInOrder gate_of body (λ slot. Rose (s.faults slot) (t.faults slot)) ms) s t

-- the cost of a put of a body on each of so many members: the calls, and the bytes that one slot is given
abbrev pub cost_of_puts : ℕ → Cost
cost_of_puts n = cost (13 * n) (12288 * n)

-- the puts on these members as one value
abbrev pub CallsInOrder : (ℕ → Image → ℕ) → List Member → List ℕ → BayState → BayState → Type 0
CallsInOrder gate_of ms body s t =
    Calls (IsSlotOf ms) (PutsInOrder gate_of body (λ slot. Rose (s.faults slot) (t.faults slot)) ms) (cost_of_puts (length ms)) s t

-- one of the two slots of a disk shows the body
abbrev pub HasBody : ℕ → ℕ → List ℕ → ℕ → Image → Type 0
HasBody first second body slot image = (shown_block image slot first ≡ Some body) ⊎ (shown_block image slot second ≡ Some body)

-- each of these disks shows the body, whatever it showed before
abbrev pub HaveBody : ℕ → ℕ → List ℕ → List Member → Image → Image → Type 0
HaveBody first second body took old new = (m : Member) → IsAmong took m → HasBody first second body m.slot new

-- A body was put on these members in their order, past faults, and some of them took it.
pub record PutsOnAll (pair : SlotPair) (id : ℕ) (ms : List Member) (body : List ℕ)
    (result : List Member) (s t : BayState) : Type 0 where
  -- a member is left out only where its slot failed
  pub took : AreRead (λ slot. Rose (s.faults slot) (t.faults slot)) ms result
  -- the disks of those that took it show it from then on
  pub done : Ends (HaveBody (first_gate pair) (second_gate pair) body result) s t
  -- the puts come in their order
  pub calls : CallsInOrder (next_gate pair id) ms body s t
  -- the same calls where their order doesn't matter
  pub row : Calls (IsSlotOf ms) (PutsRow (next_gate pair id) ms body) (cost_of_puts (length ms)) s t

-- a claim slot, and a status slot, of a disk shows the body
abbrev pub HasClaim : List ℕ → ℕ → Image → Type 0
HasClaim body slot image = HasBody (first_gate Claims) (second_gate Claims) body slot image

abbrev pub HasStatus : List ℕ → ℕ → Image → Type 0
HasStatus body slot image = HasBody (first_gate Records) (second_gate Records) body slot image

-- the same of each of these disks
abbrev pub HaveClaim : List ℕ → List Member → Image → Image → Type 0
HaveClaim body took old new = HaveBody (first_gate Claims) (second_gate Claims) body took old new

abbrev pub HaveStatus : List ℕ → List Member → Image → Image → Type 0
HaveStatus body took old new = HaveBody (first_gate Records) (second_gate Records) body took old new

-- one member more: left out where its slot failed, and else its disk shows the body
abbrev pub TakesMember : (ℕ → Image → ℕ) → Member → List ℕ → List Member → List Member → BayState → BayState → Type 0
TakesMember gate_of m body old new s t = (Rose (s.faults m.slot) (t.faults m.slot) × (new ≡ old)) ⊎ (Ends (PutsNext gate_of m.slot body) s t × (new ≡ old ++ m ∷ []))

-- no two of the members have one slot
abbrev pub HaveOwnSlots : List Member → Type 0
HaveOwnSlots ms = (i j : ℕ) (d : Member) → i < length ms → j < length ms → (get_or ms i d).slot ≡ (get_or ms j d).slot → i ≡ j
