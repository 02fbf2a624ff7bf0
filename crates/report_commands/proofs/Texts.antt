-- The text of a place.
use Rattle.std.proofs.Common.{◌≡◌, List, [], ◌∷◌, ◌++◌, length, flat_map, refl, sym, ap, arith}
use Rattle.std.specs.List.{IsFirstAndRest}
use Rattle.std.proofs.lemmas.List.{append-nil}
use Rattle.asm_group.specs.Names.{Bytes}
use Rattle.asm_world.specs.Paths.{path_text, with_slashes}

slashes : (group : Bytes) (parts : List Bytes) → with_slashes (group ∷ parts) ≡ group ++ flat_map (λ (part : Bytes). 47 ∷ part) parts
slashes group [] = sym (append-nil group)
slashes group (part ∷ parts) = ap (λ (rest : Bytes). group ++ 47 ∷ rest) (slashes part parts)

-- of a place in a group
pub text_below : (place : List Bytes) (group : Bytes) (parts : List Bytes) → IsFirstAndRest place group parts → 43 ∷ (group ++ flat_map (λ (part : Bytes). 47 ∷ part) parts) ≡ path_text place
text_below place group parts is = rw is.0 (ap (λ (rest : Bytes). 43 ∷ rest) (sym (slashes group parts)))

-- of the top
pub text_top : (place : List Bytes) → length place ≡ 0 → 43 ∷ [] ≡ path_text place
text_top [] none = refl
text_top (name ∷ names) none = absurd (omega (arith, none))
