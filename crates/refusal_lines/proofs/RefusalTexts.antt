-- Words that are put at the end of a line one after another are the line of all of them.
use Rattle.std.proofs.Common.{◌≡◌, ℕ, List, [], ◌∷◌, ◌++◌, take, drop, sym, ap, ◌∙◌, append_assoc, append-nil}
use Rattle.std.specs.Prelude.{codes}
use Rattle.std.specs.Fmt.{decimal}
use Rattle.std.specs.List.{flat_map}
use Rattle.std.proofs.lemmas.Grind.{flat_map-append}
use Rattle.std.proofs.lemmas.List.{take-append-drop}
use Rattle.asm_group.specs.Names.{Bytes}
use Rattle.asm_group.specs.Refusal.{spaced, refused}

-- the first word, and the others each after a space
spaced_after : (word : Bytes) (words : List Bytes) → spaced (word ∷ words) ≡ word ++ flat_map (λ other. 32 ∷ other) words
spaced_after word [] = sym (append-nil word)
spaced_after word (next ∷ words) = ap (λ line. word ++ 32 ∷ line) (spaced_after next words)

-- the three words that each line begins with, and what follows
begins : (number : ℕ) (name : Bytes) (first second words : List Bytes) → refused number name [] ≡ take 3 words → first ++ second ≡ drop 3 words → refused number name (first ++ second) ≡ words
begins number name first second words e f = (ap (λ front. front ++ (first ++ second)) e ∙ ap (λ rest. take 3 words ++ rest) f) ∙ take-append-drop 3 words

-- a line that was put together word for word
pub line_is : (number : ℕ) (name : Bytes) (first second words : List Bytes) {l₀ l₁ l₂ l₃ l₄ : Bytes} → refused number name [] ≡ take 3 words → first ++ second ≡ drop 3 words → l₀ ≡ codes "error" → l₁ ≡ l₀ ++ flat_map (λ word. 32 ∷ word) (decimal number ∷ []) → l₂ ≡ l₁ ++ flat_map (λ word. 32 ∷ word) (name ∷ []) → l₃ ≡ l₂ ++ flat_map (λ word. 32 ∷ word) first → l₄ ≡ l₃ ++ flat_map (λ word. 32 ∷ word) second → l₄ ≡ spaced words
line_is number name first second words {l₀} {l₁} {l₂} {l₃} {l₄} e f e₀ e₁ e₂ e₃ e₄ = all ∙ ap spaced (begins number name first second words e f)
  where
    whole : spaced (refused number name (first ++ second)) ≡ codes "error" ++ (32 ∷ decimal number ++ (32 ∷ name ++ (flat_map (λ word. 32 ∷ word) first ++ flat_map (λ word. 32 ∷ word) second)))
    whole = spaced_after (codes "error") (decimal number ∷ name ∷ (first ++ second)) ∙ ap (λ rest. codes "error" ++ (32 ∷ decimal number ++ (32 ∷ name ++ rest))) (flat_map-append (λ word. 32 ∷ word) first second)

    parts : l₄ ≡ (((codes "error" ++ (32 ∷ decimal number)) ++ (32 ∷ name)) ++ flat_map (λ word. 32 ∷ word) first) ++ flat_map (λ word. 32 ∷ word) second
    parts = let n = append-nil (decimal number) in let m = append-nil name in cc

    all : l₄ ≡ spaced (refused number name (first ++ second))
    all = (parts ∙ simp append_assoc) ∙ sym whole
