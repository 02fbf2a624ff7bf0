-- How texts are told, as the world says it.
use Rattle.std.proofs.Common.{◌≡◌, ℕ, ◌-◌, List, [], ◌∷◌, refl, ◌∙◌, subst}
use Rattle.asm_group.specs.Names.{Bytes}
use Rattle.asm_world.specs.Run.{State, PrintedMove, SessionMove, Starts, Expires, Answers, Slices, Rests, Stops, Style, Full, AreInFull, IsGenerated}
use Rattle.serving.specs.declared.manner.Manner.{Manner}
use Rattle.serving.specs.declared.manner.Manner.TheVariants.{InFull, InShort}
use Rattle.serving.specs.Manners.{AreTold, after_move, style_of}

full-style : (move : SessionMove) → style_of InFull move ≡ Full
full-style (Starts time) = refl
full-style (Expires event) = refl
full-style (Answers found text reply) = refl
full-style (Slices event) = refl
full-style Rests = refl
full-style Stops = refl

full-after : (move : SessionMove) → after_move InFull move ≡ InFull
full-after (Starts time) = refl
full-after (Expires event) = refl
full-after (Answers found text reply) = refl
full-after (Slices event) = refl
full-after Rests = refl
full-after Stops = refl

-- each text in full
pub all-full : {Counts : Type 0} (h : List (PrintedMove Counts)) → AreTold InFull h → AreInFull h
all-full [] p = tt
all-full (e ∷ h) p = let T : Manner → Type 0 = λ m. AreTold m h in (p.0 ∙ full-style e.move, all-full h (subst T (full-after e.move) p.1))

generated-step : {Counts : Type 0} (n : ℕ) (move : SessionMove) (style : Style) (printed : Bytes) (after : State Counts) (h : List (PrintedMove Counts)) → style ≡ style_of (InShort n) move
    → ((k : ℕ) → AreTold (InShort k) h → IsGenerated k h) → AreTold (after_move (InShort n) move) h → IsGenerated n (record { move = move; style = style; printed = printed; after = after } ∷ h)
generated-step n (Answers found text reply) style printed after h is rest told = (is, rest (n - 1) told)
generated-step n (Starts time) style printed after h is rest told = (is, rest n told)
generated-step n (Expires event) style printed after h is rest told = (is, rest n told)
generated-step n (Slices event) style printed after h is rest told = (is, rest n told)
generated-step n Rests style printed after h is rest told = (is, rest n told)
generated-step n Stops style printed after h is rest told = (is, rest n told)

-- short texts, where so many commands are left
pub all-generated : {Counts : Type 0} (n : ℕ) (h : List (PrintedMove Counts)) → AreTold (InShort n) h → IsGenerated n h
all-generated n [] p = tt
all-generated n (e ∷ h) p = generated-step n e.move e.style e.printed e.after h p.0 (λ k. all-generated k h) p.1
