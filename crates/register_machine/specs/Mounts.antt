-- Whole mounts, and that nothing keeps enough disks from one.
use Rattle.std.specs.Prelude.{◌≡◌, ℕ, ◌+◌, ◌^◌, ◌<◌, List, [], ◌∷◌, ◌++◌, map, Some}
use Rattle.asm_formats.specs.Status.{Status}
use Rattle.asm_formats.specs.Following.{Holder}
use Rattle.register_machine.specs.Disks.{surveyed_record, seen_epoch}
use Rattle.register_machine.specs.Laws.{last_completed}
use Rattle.register_machine.specs.Machine.{State, Event, Surveys, Claims, ClaimStands, Begins, Stores, Completes, Stops, AreAllowed, after_all}

-- the claim is put on these disks, and stands
abbrev pub claims : List Holder → Status → ℕ → List Event
claims ds found epoch = map (λ d. Claims d found epoch) ds ++ ClaimStands found epoch ∷ []

-- the record is begun, and put on these disks
abbrev pub writes : List Holder → Status → List Event
writes ds next = Begins next ∷ map (λ d. Stores d next) ds

-- and it is complete
abbrev pub completes : List Holder → Status → List Event
completes ds next = writes ds next ++ Completes next ∷ []

-- a program reads these disks, finds this record and claims this epoch on them
abbrev pub surveys : List Holder → Status → ℕ → List Event
surveys ds found epoch = Surveys ds found ∷ claims ds found epoch

-- the first record of an epoch, with what the other one says
abbrev pub anew : Status → ℕ → Status
anew r epoch = record r { epoch = epoch; turn = 1 }

-- the epoch that a survey of the disks claims
abbrev pub next_epoch : State → List Holder → ℕ
next_epoch s read = seen_epoch s.disks read + 1

-- another program comes, and writes the record that it finds anew, under its epoch
abbrev pub mount : State → List Holder → Status → List Event
mount s read found = Stops ∷ surveys read found (next_epoch s read) ++ completes read (anew found (next_epoch s read))

-- Wherever the last program stopped: disks that are enough for the greatest record that they hold can be mounted, while there are epochs.
abbrev pub CanBeMounted : State → Type 0
CanBeMounted s =
    (read : List Holder) (found : Status) → surveyed_record s.disks read ≡ Some found → next_epoch s read < 2 ^ 64
    → AreAllowed s (mount s read found) × (last_completed (after_all s (mount s read found)).history ≡ Some (anew found (next_epoch s read)))
