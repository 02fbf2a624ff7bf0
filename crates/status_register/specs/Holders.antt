-- Which of the attached disks a record is written to.
use Rattle.std.specs.Prelude.{◌≡◌, ℕ, zero, suc, ◌+◌, ◌-◌, ◌^◌, ◌<◌, Bool, true, ◌&&◌, ◌||◌, ◌==◌, List, [], ◌∷◌, ◌++◌, min, get_or, if◌then◌else◌, Option, Some, None}
use Rattle.std.specs.Option.{option_map}
use Rattle.bay.specs.State.{BayState}
use Rattle.asm_formats.specs.Among.{IsAmong}
use Rattle.asm_formats.specs.Sets.{has_bit}
use Rattle.asm_formats.specs.Status.{Status, Entry, entry_of}
use Rattle.status_register.specs.Places.{HasSlots}
use Rattle.status_register.specs.Registered.{Registered, is_same_birth}
use Rattle.status_register.specs.declared.member.Member.{Member}

-- the member is the disk of its number's entry
abbrev pub is_of : List Entry → Member → Bool
is_of entries m = is_same_birth (option_map (λ (e : Entry). e.birth) (entry_of entries m.number)) m.birth

-- the member in the place of a number, where it is one of the disks of the record's sets
abbrev pub holder_in : Status → ℕ → Option Member → List Member
holder_in r d None = []
holder_in r d (Some m) = if (has_bit r.holders d || has_bit r.next_holders d) && ((m.number == d) && is_of r.entries m) then m ∷ [] else []

-- those with numbers below d, from the greatest number down
unfoldable pub holders_below : List (Option Member) → Status → ℕ → List Member
holders_below places r zero = []
holders_below places r (suc d) = holder_in r d (get_or places d None) ++ holders_below places r d

-- the attached disks of a record's sets, from the greatest number down
abbrev pub attached_to : List (Option Member) → Status → List Member
attached_to places r = holders_below places r 64

-- each of the members is the disk of its number's entry
abbrev pub AreHolders : List Entry → List Member → Type 0
AreHolders entries ms = (m : Member) → IsAmong ms m → (m.number < 64) × (is_of entries m ≡ true)

-- each attached member has its slots
abbrev pub HoldSlots : BayState → List (Option Member) → Type 0
HoldSlots state places = (i : ℕ) (m : Member) → get_or places i None ≡ Some m → HasSlots state m.slot m.sector

-- no two attached members have one slot
abbrev pub SlotsDiffer : List (Option Member) → Type 0
SlotsDiffer places = (i j : ℕ) (m n : Member) → get_or places i None ≡ Some m → get_or places j None ≡ Some n → m.slot ≡ n.slot → i ≡ j

-- the turn after a turn; at the end of the numbers it stays
abbrev pub next_turn : ℕ → ℕ
next_turn turn = min (turn + 1) (2 ^ 64 - 1)

-- the record as it is written, under the next number of the register
abbrev pub with_next_number : Registered → Status → Status
with_next_number register next = record next { epoch = register.epoch; turn = next_turn register.turn }
