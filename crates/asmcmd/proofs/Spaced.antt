-- Words with one space between.
use Rattle.std.proofs.Common.{◌≡◌, ℕ, List, [], ◌∷◌, ◌++◌, ap, sym, ◌∙◌, append_assoc, append-nil}
use Rattle.std.specs.Prelude.{map}
use Rattle.std.specs.List.{flat_map}
use Rattle.std.proofs.lemmas.List.Folds.{flat_map-map}
use Rattle.asm_group.specs.Names.{Bytes}
use Rattle.asm_group.specs.Refusal.{spaced}

-- the first word, and the others each after a space
spaced_after : (word : Bytes) (words : List Bytes) → spaced (word ∷ words) ≡ word ++ flat_map (λ other. 32 ∷ other) words
spaced_after word [] = sym (append-nil word)
spaced_after word (next ∷ words) = ap (λ line. word ++ 32 ∷ line) (spaced_after next words)

-- a text, its first word, and the others each after a space
pub words_made : {X : Type 0} (printed : X → Bytes) (first : Bytes) (others : List X) (t t₁ longer : Bytes) → t₁ ≡ t ++ first → longer ≡ t₁ ++ flat_map (λ x. 32 ∷ printed x) others
    → longer ≡ t ++ spaced (first ∷ map printed others)
words_made printed first others t t₁ longer e f = f ∙ (ap (λ z. z ++ rest) e ∙ (append_assoc t first rest ∙ ap (λ z. t ++ z) (sym whole))) where
  rest : Bytes
  rest = flat_map (λ x. 32 ∷ printed x) others

  whole : spaced (first ∷ map printed others) ≡ first ++ rest
  whole = spaced_after first (map printed others) ∙ ap (λ z. first ++ z) (flat_map-map (λ other. 32 ∷ other) printed others)
