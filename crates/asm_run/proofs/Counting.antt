-- How many commands the generator makes.
use Rattle.std.proofs.Common.{◌≡◌, ℕ, zero, suc, ◌+◌, List, [], ◌∷◌, ◌++◌, length, map, refl, ◌∙◌, ap, arith}
use Rattle.std.proofs.lemmas.List.{length-append, length-map}
use Rattle.asm_group.specs.Names.{Bytes}
use Rattle.asm_world.specs.Generator.{after_choices, create_file, create_group, create_image, fills, from_zero, generated, next_choice}
use Rattle.std.specs.Prelude.{codes}

count-fills : (n x : ℕ) → length (fills n x) ≡ n
count-fills zero x = refl
count-fills (suc n) x = ap suc (count-fills n (next_choice x))

count-numbers : (n : ℕ) → length (from_zero n) ≡ n
count-numbers zero = refl
count-numbers (suc n) = length-append (from_zero n) (n ∷ []) ∙ omega (arith, count-numbers n)

count-parts : (images files early late : List Bytes) (group drop list : Bytes)
    → length (images ++ group ∷ files ++ early ++ drop ∷ late ++ list ∷ []) ≡ length images + length files + length early + length late + 3
count-parts images files early late group drop list =
    omega (
      arith,
      length-append (images ++ group ∷ files ++ early ++ drop ∷ late) (list ∷ []),
      length-append (images ++ group ∷ files ++ early) (drop ∷ late),
      length-append (images ++ group ∷ files) early,
      length-append images (group ∷ files),
    )

pub count-generated : (number : ℕ) (paths : List Bytes) → length paths ≡ 4 → length (generated number paths) ≡ 1023
count-generated number paths four =
    count-parts (map create_image paths) (map create_file (from_zero 16)) (fills 500 (next_choice number)) (fills 500 (after_choices 501 number)) (create_group paths)
    (codes "ALTER DISKGROUP DATA DROP DISK DATA_0003 REBALANCE POWER 4;") (codes "lsdg")
    ∙ omega (arith, four, length-map paths create_image, length-map (from_zero 16) create_file, count-numbers 16, count-fills 500 (next_choice number), count-fills 500 (after_choices 501 number))
