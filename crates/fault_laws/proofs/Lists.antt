-- Tests that all entries of a list pass.
use Rattle.std.proofs.Common.{◌≡◌, ℕ, suc, ◌<◌, Bool, true, get_or, List, [], ◌∷◌, length, None, refl, arith, inl, inr}
use Rattle.std.specs.List.{AllByRecursion, list_all}
use Rattle.std.proofs.lemmas.Bool.{and_from}
use Rattle.asm_formats.specs.Among.{IsAmong}
use Rattle.catalog_tables.specs.Rules.{first_wrong}
use Rattle.catalog_laws.proofs.catalog.NumberedEntries.{passes_more}

-- where each entry passes there is no first one that doesn't
pub none_wrong : {K X : Type 0} (test : K × X → Bool) (es : List (K × X)) → ((x : K × X) → IsAmong es x → test x ≡ true) → first_wrong test es ≡ None
none_wrong test [] each = refl
none_wrong test (e ∷ es) each = passes_more test e es (each e (inl refl)) (none_wrong test es (λ x m. each x (inr m)))

-- by their places
pub all_at : {A : Type 0} (test : A → Bool) (xs : List A) (d : A) → ((p : ℕ) → p < length xs → test (get_or xs p d) ≡ true) → list_all test xs ≡ true
all_at test [] d each = refl
all_at test (x ∷ xs) d each = and_from (test x) (list_all test xs) (each 0 (omega arith)) (all_at test xs d (λ p lt. each (suc p) (omega (arith, lt))))

pub all_among : {A : Type 0} (P : A → Type 0) (xs : List A) → ((x : A) → IsAmong xs x → P x) → AllByRecursion P xs
all_among P [] each = tt
all_among P (x ∷ xs) each = (each x (inl refl), all_among P xs (λ y m. each y (inr m)))
