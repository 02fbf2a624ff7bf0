-- What holds of the register in each state, whatever happens.
use Rattle.std.specs.Prelude.{◌≡◌, ◌⊎◌, ◌<◌, ◌≤◌, List, [], ◌∷◌, Option, Some, None, IsTrue}
use Rattle.asm_formats.specs.Among.{IsAmong}
use Rattle.asm_formats.specs.Status.{Status}
use Rattle.asm_formats.specs.Following.{Holder, rank, Follows}
use Rattle.register_machine.specs.Disks.{is_enough, is_in, greatest, surveyed_record, status, seen_epoch}
use Rattle.register_machine.specs.Machine.{Mark, Begun, Completed, State, Event, AreAllowed, after_all, start}

-- ---- the history

-- the records that were begun, the newest first
abbrev pub begun : List Mark → List Status
begun [] = []
begun (Begun r ∷ older) = r ∷ begun older
begun (Completed r ∷ older) = begun older

-- those begun since a record was completed
abbrev pub begun_since : List Mark → List Status
begun_since [] = []
begun_since (Begun r ∷ older) = r ∷ begun_since older
begun_since (Completed r ∷ older) = []

abbrev pub last_completed : List Mark → Option Status
last_completed [] = None
last_completed (Begun r ∷ older) = last_completed older
last_completed (Completed r ∷ older) = Some r

-- the record is the one that was completed last, or was begun after it; where none is complete yet, it was begun
abbrev pub IsCurrent : List Mark → Status → Type 0
IsCurrent history r = (last_completed history ≡ Some r) ⊎ IsAmong (begun_since history) r

-- each record has a greater number than those begun before it
abbrev pub AreNumbered : List Status → Type 0
AreNumbered [] = Unit {0}
AreNumbered (r ∷ older) = ((s : Status) → IsAmong older s → rank s < rank r) × AreNumbered older

-- ---- the laws

-- in each state that allowed events leave
abbrev pub Always : (State → Type 0) → Type 0
Always Holds = (events : List Event) → AreAllowed start events → Holds (after_all start events)

-- whichever disks are left, the record that they survey is current
abbrev pub SurveyIsCurrent : State → Type 0
SurveyIsCurrent s = (read : List Holder) (r : Status) → surveyed_record s.disks read ≡ Some r → IsCurrent s.history r

abbrev pub StatusIsCurrent : State → Type 0
StatusIsCurrent s = (read : List Holder) (r : Status) → status s.disks read ≡ Some r → IsCurrent s.history r

-- those begun after the completed record have greater numbers, and follow it
abbrev pub BegunFollow : State → Type 0
BegunFollow s = (v r : Status) → last_completed s.history ≡ Some v → IsAmong (begun_since s.history) r → (rank v < rank r) × Follows v r

-- the record that was completed last is the greatest complete one
abbrev pub LastIsGreatest : State → Type 0
LastIsGreatest s = (v w : Status) → last_completed s.history ≡ Some v → IsAmong s.history (Completed w) → (w ≡ v) ⊎ (rank w < rank v)

abbrev pub NumbersRise : State → Type 0
NumbersRise s = AreNumbered (begun s.history)

-- of disks that are enough for the completed record, the greatest one is current
abbrev pub CompletedIsHeld : State → Type 0
CompletedIsHeld s = (v : Status) (read : List Holder) → last_completed s.history ≡ Some v → IsTrue (is_enough (is_in read) v)
    → (r : Status) × (greatest s.disks read ≡ Some r) × IsCurrent s.history r

-- and where nothing was begun since, they survey it
abbrev pub CompletedIsFound : State → Type 0
CompletedIsFound s = (v : Status) (read : List Holder) → last_completed s.history ≡ Some v → begun_since s.history ≡ [] → IsTrue (is_enough (is_in read) v)
    → surveyed_record s.disks read ≡ Some v

-- disks that are enough for a current record show each epoch in which a record was begun
abbrev pub EpochsAreSeen : State → Type 0
EpochsAreSeen s = (r g : Status) (read : List Holder) → IsCurrent s.history r → IsTrue (is_enough (is_in read) r) → IsAmong (begun s.history) g
    → g.epoch ≤ seen_epoch s.disks read

-- A record that was completed is never undone: whatever comes later, each survey gives it, or a record of a greater number.
abbrev pub NeverUndone : Type 0
NeverUndone =
    (events later : List Event) → AreAllowed start events → AreAllowed (after_all start events) later
    → (v : Status) → IsAmong (after_all start events).history (Completed v)
    → (read : List Holder) (r : Status) → surveyed_record (after_all (after_all start events) later).disks read ≡ Some r → (r ≡ v) ⊎ (rank v < rank r)
