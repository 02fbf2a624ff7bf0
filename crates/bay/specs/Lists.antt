-- A call on each of several things, each on a slot of its own.
use Rattle.std.specs.Prelude.{◌≡◌, ◌≢◌, ◌⊎◌, ℕ, ◌+◌, ◌≤◌, Bool, false, List, [], ◌∷◌, if◌then◌else◌, ◌==◌}
use Rattle.bay.specs.Image.{Image, ChangesOnly, SameDisk}
use Rattle.bay.specs.State.{BayState, IsSlot}
use Rattle.bay.specs.Moments.{NowOnly, LeavesOnly}
use Rattle.bay.specs.Calls.{Cost, cost, both_costs, Calls}

-- What a call is to do with a thing: on which slot, which bytes it may change, and at what cost.
pub record Tasks (A : Type 0) : Type 1 where
  pub slot : A → ℕ
  pub region : A → ℕ → ℕ → Type 0
  pub most : A → Cost

-- what an image has of a thing before the call, at each moment of it, and when it is done
pub record Claims (A : Type 0) : Type 1 where
  pub before : A → Image → Type 0
  pub during : A → Image → Type 0
  pub after : A → Image → Type 0

-- the claim speaks of the slot's disk alone
abbrev pub IsOn : ℕ → (Image → Type 0) → Type 0
IsOn slot claim = (old new : Image) → SameDisk slot old new → claim old → claim new

module _ {A : Type 0} where
  -- one of those, or this one
  abbrev pub OneMore : A → (A → Type 0) → A → Type 0
  OneMore x among y = (y ≡ x) ⊎ among y

  -- each of them has the claim
  abbrev pub Each : (A → Image → Type 0) → (A → Type 0) → Image → Type 0
  Each claim among image = (x : A) → among x → claim x image

  -- Each claim on one of them speaks of its slot alone, and what was there before is there at each
  -- moment.
  pub record IsLocal (tasks : Tasks A) (claims : Claims A) (among : A → Type 0) : Type 0 where
    pub on_slot : (x : A) → among x → (s k : ℕ) → tasks.region x s k → s ≡ tasks.slot x
    pub starts : (x : A) → among x → (image : Image) → claims.before x image → claims.during x image
    pub before_stays : (x : A) → among x → IsOn (tasks.slot x) (claims.before x)
    pub during_stays : (x : A) → among x → IsOn (tasks.slot x) (claims.during x)
    pub after_stays : (x : A) → among x → IsOn (tasks.slot x) (claims.after x)

module _ {A : Type 0} (tasks : Tasks A) where
  -- none of those has the slot of this one
  abbrev pub HasOwnSlot : A → (A → Type 0) → Type 0
  HasOwnSlot x among = (y : A) → among y → tasks.slot x ≢ tasks.slot y

  -- the slots of those
  abbrev pub SlotsOf : (A → Type 0) → ℕ → Type 0
  SlotsOf among s = (x : A) × among x × (s ≡ tasks.slot x)

  -- the bytes that the calls on those may change
  abbrev pub BytesOf : (A → Type 0) → ℕ → ℕ → Type 0
  BytesOf among s k = (x : A) × among x × tasks.region x s k

  -- the cost of the call on one of them, with no bytes on other slots
  abbrev pub own_cost : A → Cost
  own_cost x = record {
    calls = (tasks.most x).calls;
    bytes = λ s. if s == tasks.slot x then (tasks.most x).bytes s else 0;
  }

  -- the cost of the calls on a list of them
  abbrev pub cost_of : List A → Cost
  cost_of [] = cost 0 0
  cost_of (x ∷ xs) = both_costs (own_cost x) (cost_of xs)

  -- calls on those
  abbrev pub CallsOn : (A → Type 0) → Cost → BayState → BayState → Type 0
  CallsOn among = Calls (SlotsOf among) (ChangesOnly (BytesOf among))

  module _ (claims : Claims A) where
    -- a call on one of them, which failed or not
    pub record DoesOne (x : A) (failed : Bool) (old new : BayState) : Type 0 where
      pub calls : Calls (IsSlot (tasks.slot x)) (ChangesOnly (tasks.region x)) (tasks.most x) old new
      pub moments : NowOnly old (claims.before x) → LeavesOnly old new (claims.during x)
      pub done : failed ≡ false → NowOnly old (claims.before x) → NowOnly new (claims.after x)

    -- A call on each of them, past faults. `failed` says which failed.
    pub record DoesEach (among : A → Type 0) (most : Cost) (failed : A → Bool)
        (old new : BayState) : Type 0 where
      pub calls : CallsOn among most old new
      -- on the slot of each so many bytes were written as its own call may write
      pub written : (x : A) → among x
          → let slot = tasks.slot x in new.written slot ≤ old.written slot + (tasks.most x).bytes slot
      pub moments : NowOnly old (Each claims.before among)
          → LeavesOnly old new (Each claims.during among)
      pub done : NowOnly old (Each claims.before among)
          → NowOnly new (Each (λ x image. failed x ≡ false → claims.after x image) among)
