-- The first path of a kind, and whether there is one.
use Rattle.std.proofs.Common.{◌≡◌, ◌∙◌, Bool, true, false, cond, ◌||◌, List, [], ◌∷◌, Option, Some, None, is_some, option_map, find, Bor, refl, sym, ap}
use Rattle.std.specs.List.{list_any}
use Rattle.std.specs.Str.{bytes_eq}
use Rattle.command_line.specs.Paths.{WordBytes, first_twice, has_twice, texts}

any_step : {X : Type 0} (b : Bool) (x : X) (rest : Option X) (any : Bool) → any ≡ is_some rest → (b || any) ≡ is_some (cond b (Some x) rest)
any_step true x rest any is = refl
any_step false x rest any is = is

pub any_is : {X : Type 0} (p : X → Bool) (xs : List X) → list_any p xs ≡ is_some (find p xs)
any_is p [] = refl
any_is p (x ∷ xs) = any_step (p x) x (find p xs) (list_any p xs) (any_is p xs)

pub twice_is : (paths : List WordBytes) → has_twice paths ≡ is_some (first_twice paths)
twice_is [] = refl
twice_is (path ∷ rest) = any_step (list_any (λ other. bytes_eq other path) rest) path (first_twice rest) (has_twice rest) (twice_is rest)

pub none_any : {X : Type 0} (p : X → Bool) (xs : List X) → find p xs ≡ None → list_any p xs ≡ false
none_any p xs none = any_is p xs ∙ ap is_some none

pub some_any : {X : Type 0} (p : X → Bool) (xs : List X) (x : X) → find p xs ≡ Some x → list_any p xs ≡ true
some_any p xs x some = any_is p xs ∙ ap is_some some

pub none_twice : (paths : List WordBytes) → first_twice paths ≡ None → has_twice paths ≡ false
none_twice paths none = twice_is paths ∙ ap is_some none

pub some_twice : (paths : List WordBytes) (path : WordBytes) → first_twice paths ≡ Some path → has_twice paths ≡ true
some_twice paths path some = twice_is paths ∙ ap is_some some

-- ---- texts behind references

text_step : (b : Bool) (first : Bor WordBytes) (rest : Option (Bor WordBytes)) (other : Option WordBytes) → option_map (λ s. s.now) rest ≡ other
    → option_map (λ s. s.now) (cond b (Some first) rest) ≡ cond b (Some first.now) other
text_step true first rest other is = refl
text_step false first rest other is = is

text_found : (test : WordBytes → Bool) (paths : List (Bor WordBytes)) → option_map (λ s. s.now) (find (λ path. test path.now) paths) ≡ find test (texts paths)
text_found test [] = refl
text_found test (first ∷ rest) = text_step (test first.now) first (find (λ path. test path.now) rest) (find test (texts rest)) (text_found test rest)

as_it_is : (found : Option (Bor WordBytes)) → option_map (λ x. x) found ≡ found
as_it_is None = refl
as_it_is (Some x) = refl

pub found_text : (test : WordBytes → Bool) (paths : List (Bor WordBytes)) (found : Option (Bor WordBytes)) → option_map (λ x. x) found ≡ find (λ path. test path.now) paths
    → option_map (λ s. s.now) found ≡ find test (texts paths)
found_text test paths found is = ap (λ (o : Option (Bor WordBytes)). option_map (λ s. s.now) o) (sym (as_it_is found) ∙ is) ∙ text_found test paths
