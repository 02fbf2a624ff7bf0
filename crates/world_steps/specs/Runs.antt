-- Runs up to the first move that doesn't meet a premise on it and on the state before it.
use Rattle.std.specs.Prelude.{ℕ, ◌<◌, ⊤, List, [], ◌∷◌, ◌++◌, ◌↔◌}
use Rattle.asm_world.specs.Run.{CallsRise, PrintedMove, IsMove, IsRun, SessionMove, Outside, State, end_of}

-- each of these moves meets it
abbrev pub AllFrom : {Counts : Type 0} → (State Counts → SessionMove → Type 0) → State Counts → List (PrintedMove Counts) → Type 0
AllFrom premise s [] = ⊤
AllFrom premise s (e ∷ es) = premise s e.move × AllFrom premise e.after es

-- The moves before the first that doesn't are a run.
abbrev pub IsRunFrom : {Counts Image : Type 0} → Outside Counts Image → (State Counts → SessionMove → Type 0) → State Counts → List (PrintedMove Counts) → Type 0
IsRunFrom out premise s [] = ⊤
IsRunFrom out premise s (e ∷ es) = premise s e.move → IsMove out s e.move e.after × IsRunFrom out premise e.after es

-- The moves of two rows meet it exactly where those of both do.
abbrev pub FromPremisesJoin : {Counts : Type 0} → (State Counts → SessionMove → Type 0) → Type 0
FromPremisesJoin {Counts = Counts} premise = (s : State Counts) (first rest : List (PrintedMove Counts)) → (AllFrom premise s first × AllFrom premise (end_of s first) rest) ↔ AllFrom premise s (first ++ rest)

-- They are a run in some moves, and in others behind these if all of these meet it, exactly where they are in all of both.
abbrev pub FromJoins : {Counts Image : Type 0} → Outside Counts Image → (State Counts → SessionMove → Type 0) → Type 0
FromJoins {Counts = Counts} out premise = (s : State Counts) (first rest : List (PrintedMove Counts))
    → (IsRunFrom out premise s first × (AllFrom premise s first → IsRunFrom out premise (end_of s first) rest)) ↔ IsRunFrom out premise s (first ++ rest)

-- Where all moves meet it, this says that they are a run.
abbrev pub FromIsRun : {Counts Image : Type 0} → Outside Counts Image → (State Counts → SessionMove → Type 0) → Type 0
FromIsRun {Counts = Counts} out premise = (s : State Counts) (history : List (PrintedMove Counts)) → AllFrom premise s history → IsRunFrom out premise s history ↔ IsRun out s history

-- What is told later of ended moments changes nothing, as long as it allows no more images.
abbrev pub FromStays : {Counts Image : Type 0} → Outside Counts Image → (State Counts → SessionMove → Type 0) → (ℕ → Image → Type 0) → Type 0
FromStays {Counts = Counts} {Image = Image} out premise later = (s : State Counts) (history : List (PrintedMove Counts))
    → ((m : ℕ) (image : Image) → m < (end_of s history).calls → later m image → out.leaves m image)
    → CallsRise s history → IsRunFrom out premise s history → IsRunFrom (record out { leaves = later }) premise s history
