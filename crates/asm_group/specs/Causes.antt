-- Refusals in the order in which they are tried.
use Rattle.std.specs.Prelude.{Bool, List, [], ◌∷◌, Option, Some, None, Result, Ok, Err, if◌then◌else◌}
use Rattle.asm_group.specs.Refusal.{Refusal}

-- a test, and the refusal where it is true
abbrev pub Causes : Type 0
Causes = List (Bool × Refusal)

-- the refusal of the first test that is true
abbrev pub first_cause : Causes → Option Refusal
first_cause [] = None
first_cause ((test, cause) ∷ causes) = if test then Some cause else first_cause causes

abbrev pub unless_refused : {A : Type 0} → Option Refusal → A → Result A Refusal
unless_refused None value = Ok value
unless_refused (Some cause) value = Err cause
