-- The status register: one record, kept on majorities.
use Rattle.std.specs.Prelude.{◌≡◌, ◌⊎◌, ℕ, ◌*◌, ◌<◌, ◌≤◌, Bool, ◌&&◌, not, List, [], ◌∷◌, length, filter, if◌then◌else◌, nat_lt, Option, Some, None, IsTrue}
use Rattle.std.specs.List.{list_all}
use Rattle.asm_formats.specs.Among.{IsAmong}
use Rattle.asm_formats.specs.Status.{Status}
use Rattle.asm_formats.specs.Following.{Holder, sets, rank, Follows, most_pass, later_of}
use Rattle.asm_formats.specs.Claim.{Claim}
use Rattle.asm_images.specs.Members.{Member, has_disk, within, statuses, claims, AreDistinct}

-- more than half of the set are among the members
abbrev pub is_majority : List Member → List Holder → Bool
is_majority ms set = most_pass (λ h. has_disk ms h.0 h.1) set

-- Enough: a majority of each set of the record
unfoldable pub is_enough : Status → List Member → Bool
is_enough r ms = list_all (is_majority ms) (sets r)

-- the record of the greatest number
abbrev pub greater : Status → Option Status → Option Status
greater r before = later_of r before

abbrev pub greatest : List Status → Option Status
greatest [] = None
greatest (r ∷ rs) = greater r (greatest rs)

-- the record, where the members are enough for it and it isn't marked gone
abbrev pub status_if_enough : List Member → Option Status → Option Status
status_if_enough ms None = None
status_if_enough ms (Some r) = if is_enough r ms && not r.gone then Some r else None

-- Status: the greatest record that these members hold, where they are enough for it and it isn't marked gone
unfoldable pub status : ℕ → List Member → Option Status
status id ms = status_if_enough ms (greatest (statuses id ms))

-- ---- the history that counts: the record that was last completed, if there is one, and those begun after it

-- the completed record and the begun ones
abbrev pub current_records : Option Status → List Status → List Status
current_records None begun = begun
current_records (Some v) begun = v ∷ begun

-- a record of a smaller number than the completed one
abbrev pub IsOlder : Option Status → Status → Type 0
IsOlder None r = ⊥
IsOlder (Some v) r = rank r < rank v

-- what the begun records follow: the completed one, and before there is one, the first of them
abbrev pub base : Option Status → List Status → Option Status
base (Some v) begun = Some v
base None [] = None
base None (r ∷ rs) = Some r

-- one of the records stands in an open slot of one of the members
abbrev pub HoldsOne : ℕ → List Status → List Member → Type 0
HoldsOne id records ms = (r : Status) × IsAmong (statuses id ms) r × IsAmong records r

-- an open slot of one of the members has a claim or a record of at least this epoch
abbrev pub HasEpoch : ℕ → List Member → ℕ → Type 0
HasEpoch id ms epoch = ((c : Claim) × IsAmong (claims id ms) c × (epoch ≤ c.epoch)) ⊎ ((r : Status) × IsAmong (statuses id ms) r × (epoch ≤ r.epoch))

-- What the members hold fits the history. A set of members is given by its slots.
pub record Fits (id : ℕ) (ms : List Member) (completed : Option Status) (begun : List Status) : Type 0 where
  -- no disk is there twice: else two sets without a common disk could both be majorities
  pub distinct : AreDistinct ms
  -- the begun records have greater numbers than the completed one
  pub greater : (v r : Status) → completed ≡ Some v → IsAmong begun r → rank v < rank r
  -- each open slot holds one of these records, or an older one
  pub slots : (r : Status) → IsAmong (statuses id ms) r → IsAmong (current_records completed begun) r ⊎ IsOlder completed r
  -- one number, one record
  pub numbers : (r s : Status) → IsAmong (statuses id ms) r → IsAmong (statuses id ms) s → rank r ≡ rank s → r ≡ s
  -- each begun record follows the completed one
  pub follow : (v r : Status) → base completed begun ≡ Some v → IsAmong begun r → Follows v r
  -- a set of members that is enough for the greatest record in its own slots holds one of these records
  pub surveyed : (P : ℕ → Bool) (g : Status) → greatest (statuses id (within P ms)) ≡ Some g → IsTrue (is_enough g (within P ms))
      → HoldsOne id (current_records completed begun) (within P ms)
  -- so does a set that is enough for the completed record
  pub completed_found : (P : ℕ → Bool) (v : Status) → completed ≡ Some v → IsTrue (is_enough v (within P ms)) → HoldsOne id (v ∷ begun) (within P ms)
  -- a set that is enough for one of the records has, for each begun record, a claim or record of at least its epoch
  pub claimed : (P : ℕ → Bool) (r s : Status) → IsAmong begun r → IsAmong (current_records completed begun) s → IsTrue (is_enough s (within P ms))
      → HasEpoch id (within P ms) r.epoch
