-- What every event keeps.
use Rattle.std.proofs.Common.{◌≡◌, ◌⊎◌, ℕ, ◌+◌, ◌<◌, ◌≤◌, true, List, ◌∷◌, Some}
use Rattle.asm_formats.specs.Among.{IsAmong}
use Rattle.asm_formats.specs.Status.{Status, is_status}
use Rattle.asm_formats.specs.Following.{Holder, rank, sets, Follows, most_pass}
use Rattle.register_machine.specs.Disks.{DisksByHolder, is_enough, has_claim}
use Rattle.register_machine.specs.Machine.{Mark, Begun, Completed, Program, Idle, Claiming, Claimed, Writing, Holding, State}
use Rattle.register_machine.specs.Laws.{begun, begun_since, last_completed, IsCurrent, AreNumbered}
use Rattle.register_machine.proofs.Pivots.{pivot}
use Rattle.register_machine.proofs.Rising.{has_from, shows_from}
use Rattle.register_machine.proofs.Histories.{base}

-- a majority of one of its sets holds greater records: so no disks that are enough for it have it as their greatest
pub record Superseded (disks : DisksByHolder) (g : Status) : Type 0 where
  pub set : List Holder
  pub among : IsAmong (sets g) set
  pub greater : most_pass (has_from disks (rank g + 1)) set ≡ true

-- of the record that was completed last, or else begun first
pub record AtBase (disks : DisksByHolder) (history : List Mark) (v : Status) : Type 0 where
  pub is_begun : IsAmong (begun history) v
  -- smaller records are superseded, the others follow and are current
  pub superseded : (g : Status) → IsAmong (begun history) g → rank g < rank v → Superseded disks g
  pub follow : (g : Status) → IsAmong (begun history) g → rank v ≤ rank g → Follows v g
  pub current : (g : Status) → IsAmong (begun history) g → rank v ≤ rank g → IsCurrent history g
  pub since : (g : Status) → IsAmong (begun_since history) g → rank v ≤ rank g
  pub above : last_completed history ≡ Some v → (g : Status) → IsAmong (begun_since history) g → rank v < rank g
  -- a majority of the set that these share shows each epoch
  pub shown : (g : Status) → IsAmong (begun history) g → most_pass (shows_from disks g.epoch) (pivot (sets v)) ≡ true
  -- once complete it stands, or greater ones do
  pub stands : last_completed history ≡ Some v → is_enough (has_from disks (rank v)) v ≡ true
  pub completed : (w : Status) → IsAmong history (Completed w) → (w ≡ v) ⊎ (rank w < rank v)

pub record Kept (disks : DisksByHolder) (history : List Mark) : Type 0 where
  pub allowed : (r : Status) → IsAmong (begun history) r → is_status r ≡ true
  pub held : (d : Holder) (r : Status) → (disks d).status ≡ Some r → IsAmong (begun history) r
  pub numbered : AreNumbered (begun history)
  pub at_base : (v : Status) → base history ≡ Some v → AtBase disks history v

-- the epoch is new, and the record that was found follows the base
pub record IsClaim (history : List Mark) (found : Status) (epoch : ℕ) : Type 0 where
  pub above : (g : Status) → IsAmong (begun history) g → g.epoch < epoch
  pub follows : (v : Status) → base history ≡ Some v → Follows v found

-- what the program knows
abbrev pub Knows : DisksByHolder → List Mark → Program → Type 0
Knows disks history Idle = Unit {0}
Knows disks history (Claiming found epoch) = IsClaim history found epoch
Knows disks history (Claimed found epoch) = IsClaim history found epoch × (is_enough (has_claim disks epoch) found ≡ true)
Knows disks history (Writing next) = (older : List Mark) × (history ≡ Begun next ∷ older)
Knows disks history (Holding last) =
    (older : List Mark) × (history ≡ Completed last ∷ older) × ((g : Status) → IsAmong (begun history) g → (g ≡ last) ⊎ (rank g < rank last))

pub record Holds (s : State) : Type 0 where
  pub kept : Kept s.disks s.history
  pub knows : Knows s.disks s.history s.program
