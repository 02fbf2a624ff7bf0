-- The homes of an extent, and the numbers of its copies.
use Rattle.std.proofs.Common.{◌≡◌, ℕ, suc, ◌-◌, ◌<◌, [], ◌∷◌, get_or, sym, ap, ◌∙◌, Option, None, arith}
use Rattle.std.proofs.lemmas.List.{get_or_past}
use Rattle.asm_formats.specs.Items.{Home, Homes}

-- ---- an extent has three homes

pub no_home : (homes : Homes) (a b c : Option Home) (k : ℕ) → a ∷ b ∷ c ∷ [] ≡ homes → (k ≡ 0 → ⊥) → (k ≡ 1 → ⊥) → (k ≡ 2 → ⊥) → None ≡ get_or homes k None
no_home homes a b c k is no_first no_second no_third = sym (get_or_past (a ∷ b ∷ c ∷ []) k None (omega (arith, no_first, no_second, no_third))) ∙ ap (λ (hs : Homes). get_or hs k None) is

-- ---- numbers of copies, one by one

pub rest : (n k : ℕ) → k < n → n - k ≡ suc (n - suc k)
rest n k less = omega arith
