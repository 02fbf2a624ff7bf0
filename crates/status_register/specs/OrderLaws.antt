-- What the order says in which a record is written.
use Rattle.std.specs.Prelude.{◌≡◌, ◌⊎◌, ℕ, ◌<◌, List, [], ◌∷◌, Option}
use Rattle.bay.specs.Image.{Image}
use Rattle.bay.specs.Counts.{Rose}
use Rattle.asm_formats.specs.Among.{IsAmong}
use Rattle.asm_formats.specs.Status.{Status}
use Rattle.status_register.specs.Holders.{SlotsDiffer, attached_to}
use Rattle.status_register.specs.Rows.{HasStatus, PutsInOrder, PutsRow}
use Rattle.status_register.specs.Slots.{status_gate}
use Rattle.status_register.specs.declared.member.Member.{Member}

-- the numbers of the members descend
abbrev pub Descend : List Member → Type 0
Descend [] = Unit {0}
Descend (m ∷ ms) = ((n : Member) → IsAmong ms n → n.number < m.number) × Descend ms

abbrev pub AttachedDisksDescend : Type 0
AttachedDisksDescend = (places : List (Option Member)) (r : Status) → Descend (attached_to places r)

-- While a body is put on the attached disks of a record in their order, a disk is as it was, or each one of a greater number shows the body or failed.
abbrev pub GreaterNumbersFirst : Type 0
GreaterNumbersFirst =
    (id : ℕ) (body : List ℕ) (places : List (Option Member)) (r : Status) (before now : ℕ → ℕ) (x y : Image) → SlotsDiffer places
    → PutsInOrder (status_gate id) body (λ slot. Rose (before slot) (now slot)) (attached_to places r) x y
    → (greater m : Member) → IsAmong (attached_to places r) greater → IsAmong (attached_to places r) m → m.number < greater.number
    → ((k : ℕ) → y.byte m.slot k ≡ x.byte m.slot k) ⊎ (HasStatus body greater.slot y ⊎ Rose (before greater.slot) (now greater.slot))

-- puts in the order of the members are a row of puts
abbrev pub OrderedPutsAreARow : Type 0
OrderedPutsAreARow =
    (id : ℕ) (body : List ℕ) (ms : List Member) (before now : ℕ → ℕ) (x y : Image) → PutsInOrder (status_gate id) body (λ slot. Rose (before slot) (now slot)) ms x y
    → PutsRow (status_gate id) ms body x y
