-- The order of folded names, as records and as code have it.
use Rattle.std.proofs.Common.{◌≡◌, ℕ, Bool, true, false, cond, ltb, eqb, List, [], ◌∷◌, refl, ap, ◌∙◌}
use Rattle.std.specs.Prelude.{◌&&◌, ◌||◌}
use Rattle.std.specs.Ordering.{nat_cmp, is_lt, ordering_then}
use Rattle.std.specs.declared.cmp.Ordering.{Ordering}
use Rattle.std.specs.declared.cmp.Ordering.TheVariants.{Less, Equal, Greater}
use Rattle.std.specs.Cmp.Lexicographic.{slice_cmp}
use Rattle.asm_formats.specs.Items.{precedes}

by_tests : (a b : Bool) (rest : Ordering) → is_lt (ordering_then (cond a Less (cond b Equal Greater)) rest) ≡ (a || (b && is_lt rest))
by_tests true b rest = refl
by_tests false true rest = refl
by_tests false false rest = refl

pub before_is_less : (xs ys : List ℕ) → is_lt (slice_cmp nat_cmp xs ys) ≡ precedes xs ys
before_is_less [] [] = refl
before_is_less [] (y ∷ ys) = refl
before_is_less (x ∷ xs) [] = refl
before_is_less (x ∷ xs) (y ∷ ys) = by_tests (ltb x y) (eqb x y) (slice_cmp nat_cmp xs ys) ∙ ap (λ (b : Bool). ltb x y || (eqb x y && b)) (before_is_less xs ys)
