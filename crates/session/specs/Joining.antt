-- Images that are attached to a group of the session, and the slots of the disks of the others.
use Rattle.std.specs.Prelude.{◌≡◌, ◌⊎◌, ◌==◌, ℕ, List, [], ◌∷◌, IfErr, OnOk, Option, Result, if◌then◌else◌}
use Rattle.std.specs.List.{list_any}
use Rattle.refusal_lines.specs.declared.refusal.Refusal.{Refusal}
use Rattle.asm_group.specs.Names.{Bytes}
use Rattle.bay.specs.State.{BayState}
use Rattle.group_contents.specs.group_engine.declared.attached.Attached.{Attached}
use Rattle.session.specs.Naming.{CarriesOn, IsMountedName, IsOutCause}
use Rattle.session.specs.Sessions.{SessionView, slots_in}

-- of slots those that are none of a group's own
abbrev pub without_own : List ℕ → List ℕ → List ℕ
without_own own [] = []
without_own own (slot ∷ slots) = if list_any (λ s. s == slot) own then without_own own slots else slot ∷ without_own own slots

-- of slots those in which none of the disks is
abbrev pub others_of : List (Option Attached) → List ℕ → List ℕ
others_of disks slots = without_own (slots_in disks) slots

-- At most the mounted group of a name is worked on.
pub record JoinsIn {T : Type 0} (name : Bytes) (result : Result T Refusal) (old new : SessionView) (s t : BayState) : Type 0 where
  -- ok comes of a mounted group alone, and of any other name the refusal that it has
  pub found : OnOk result (IsMountedName old name)
  pub out : IfErr result (λ refusal. IsMountedName old name ⊎ IsOutCause old.entries name refusal)
  pub carries : CarriesOn old new s t
