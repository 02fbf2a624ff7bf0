-- Slots that other groups hold.
use Rattle.std.specs.Prelude.{◌==◌, ◌<◌, ℕ, List, IsTrue}
use Rattle.std.specs.List.{list_any}
use Rattle.bay.specs.Image.{Image, SameDisk}
use Rattle.bay.specs.Moments.{Runs}
use Rattle.bay.specs.State.{BayState}

-- the slot is one of those that are held
abbrev pub IsHeldSlot : List ℕ → ℕ → Type 0
IsHeldSlot held slot = IsTrue (list_any (λ s. s == slot) held)

-- each disk in a slot that is held stays
abbrev pub SameHeld : List ℕ → Image → Image → Type 0
SameHeld held x y = (slot : ℕ) → IsHeldSlot held slot → SameDisk slot x y

-- Calls on n slots leave the disks that others hold.
abbrev pub SparesHeld : List ℕ → ℕ → BayState → BayState → Type 0
SparesHeld held n s t = Runs (λ slot. slot < n) (SameHeld held) s t
