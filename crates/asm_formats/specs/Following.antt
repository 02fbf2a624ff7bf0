-- The order of status records, and the majorities that each needs.
use Rattle.std.specs.Prelude.{◌≡◌, ◌⊎◌, ℕ, ◌+◌, ◌*◌, ◌^◌, List, [], ◌∷◌, flat_map, filter, length, nat_lt, if◌then◌else◌, ◌==◌, Bool, Option, Some, None, ◌<◌, IsTrue}
use Rattle.asm_formats.specs.Sets.{elements}
use Rattle.asm_formats.specs.Status.{Status, Entry, entry_of, is_status}

-- Records are ordered by epoch, and then by turn, which is below 2 ^ 64.
abbrev pub rank : Status → ℕ
rank r = r.epoch * 2 ^ 64 + r.turn

-- a disk is meant by its number and the birth of its entry
abbrev pub Holder : Type 0
Holder = ℕ × ℕ

abbrev pub holder_of : ℕ → Option Entry → List Holder
holder_of d None = []
holder_of d (Some e) = (d, e.birth) ∷ []

-- the disks of a set of numbers
unfoldable pub disks_of : List Entry → ℕ → List Holder
disks_of entries set = flat_map (λ d. holder_of d (entry_of entries d)) (elements set)

-- the holders and, where there are some, the next holders
unfoldable pub sets_of : List Entry → ℕ → ℕ → List (List Holder)
sets_of entries holders next_holders = disks_of entries holders ∷ (if next_holders == 0 then [] else disks_of entries next_holders ∷ [])

-- the sets of which a majority each is needed
abbrev pub sets : Status → List (List Holder)
sets r = sets_of r.entries r.holders r.next_holders

-- more than half of the disks pass a test
abbrev pub most_pass : (Holder → Bool) → List Holder → Bool
most_pass test set = nat_lt (length set) (2 * length (filter test set))

-- the record of the greater number: r, or the one before it
abbrev pub later_of : Status → Option Status → Option Status
later_of r None = Some r
later_of r (Some s) = if nat_lt (rank r) (rank s) then Some s else Some r

-- After two sets both stay, or the second stays alone. After one set it stays, with or without next holders.
abbrev pub FollowsSets : List (List Holder) → List (List Holder) → Type 0
FollowsSets (holders ∷ next ∷ []) later = (later ≡ holders ∷ next ∷ []) ⊎ (later ≡ next ∷ [])
FollowsSets (holders ∷ []) (later ∷ others) = later ≡ holders
FollowsSets _ _ = ⊥

-- record r may be written after record v
abbrev pub Follows : Status → Status → Type 0
Follows v r = FollowsSets (sets v) (sets r)

-- ---- laws

-- The order of records is that of their epochs, and then of their turns.
pub record IsRanked : Type 0 where
  pub by_epoch : (r s : Status) → IsTrue (is_status r) → r.epoch < s.epoch → rank r < rank s
  pub by_turn : (r s : Status) → r.epoch ≡ s.epoch → r.turn < s.turn → rank r < rank s
  pub exact : (r s : Status) → IsTrue (is_status r) → IsTrue (is_status s) → rank r ≡ rank s → (r.epoch ≡ s.epoch) × (r.turn ≡ s.turn)

-- A record with the sets of another follows it.
abbrev pub SameSetsFollow : Type 0
SameSetsFollow = (v r : Status) → sets r ≡ sets v → Follows v r
