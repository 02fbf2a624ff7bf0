-- Why the program stops.
use Rattle.std.specs.Prelude.{◌≡◌, ◌⊎◌, ℕ, ◌≤◌, ⊤, MatchBool, Bool, true, List, [], ◌∷◌, IfErr, Result}
use Rattle.bay.specs.Counts.{Rose}
use Rattle.asm_group.specs.Names.{Bytes}
use Rattle.asm_group.specs.Refusal as r
use Rattle.asm_world.specs.Reply.{Reply, Refused}
use Rattle.asm_world.specs.Run.{is_refusal}
use Rattle.serving.specs.declared.stop.Stop.{Stop}
use Rattle.serving.specs.declared.stop.Stop.TheVariants.{ReadFault, WriteFault, NoMemory, TooLong}

-- where a command stops the program, the sink failed or memory is short
abbrev pub IsOutputStop : Stop → ℕ → ℕ → Type 0
IsOutputStop ReadFault before after = ⊥
IsOutputStop WriteFault before after = Rose before after
IsOutputStop NoMemory before after = ⊤
IsOutputStop TooLong before after = ⊥

pub record StopsByOutput {T : Type 0} (result : Result T Stop) (before after : ℕ) : Type 0 where
  pub later : before ≤ after
  pub failed : IfErr result (λ stop. IsOutputStop stop before after)

-- the reply that a command was given, or want of memory in place of a refusal
abbrev pub IsReplyOrNoMemory : Reply → Reply → Type 0
IsReplyOrNoMemory given printed = (printed ≡ given) ⊎ ((is_refusal given ≡ true) × (printed ≡ Refused [] r.NoMemory))

-- it is refused for want of memory, which ends the program
abbrev pub IsWantOfMemory : Reply → Type 0
IsWantOfMemory reply = (lines : List Bytes) × (reply ≡ Refused lines r.NoMemory)

-- one command was answered; where the program stops, that one or none
abbrev pub IsCommandOrNone : Bool → Bytes → List Bytes → Type 0
IsCommandOrNone whole command commands = MatchBool whole (commands ≡ command ∷ []) ((commands ≡ []) ⊎ (commands ≡ command ∷ []))
