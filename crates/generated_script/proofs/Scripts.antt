-- The script in the order in which it is made.
use Rattle.std.proofs.Common.{◌≡◌, ℕ, List, [], ◌∷◌, ◌++◌, refl, sym, ap, ◌∙◌, append_assoc}
use Rattle.std.specs.Prelude.{map}
use Rattle.std.proofs.lemmas.Grind.{flat_map-append}
use Rattle.asm_group.specs.Names.{Bytes}
use Rattle.asm_world.specs.Generator.{after_choices, create_file, create_group, create_image, fills, from_zero, generated, generated_script, next_choice}
use Rattle.asm_world.specs.Text.{ended}
use Rattle.generated_script.specs.Lines.{all_fills, all_late_fills, drop_disk, early_fills, files_from, late_fills, list_groups, made_for}

files_are : (x : ℕ) → files_from 16 x ≡ map create_file (from_zero 16) ++ all_fills x
files_are x = refl

regroup : {X : Type 0} (a : List X) (g : X) (f e : List X) (d : X) (l : List X) (z : X) → (((a ++ g ∷ f) ++ e) ++ d ∷ l) ++ z ∷ [] ≡ (a ++ g ∷ []) ++ (f ++ (e ++ d ∷ (l ++ z ∷ [])))
regroup a g f e d l z = simp append_assoc

-- the creations, and the commands behind them
whole : (number : ℕ) (paths : List Bytes) → generated number paths ≡ (map create_image paths ++ create_group paths ∷ []) ++ made_for number
unfolding made_for all_fills all_late_fills
whole number paths = regroup (map create_image paths) (create_group paths) (map create_file (from_zero 16)) (fills 500 (next_choice number)) drop_disk (fills 500 (after_choices 501 number)) list_groups

pub script_is : (number : ℕ) (paths : List Bytes) → generated_script number paths ≡ ended (map create_image paths ++ create_group paths ∷ []) ++ ended (made_for number)
script_is number paths = ap ended (whole number paths) ∙ flat_map-append (λ line. line ++ 10 ∷ []) (map create_image paths ++ create_group paths ∷ []) (made_for number)

-- where no file is left the fills follow
pub no_files : (count x : ℕ) (lines : List Bytes) → count ≡ 0 → lines ≡ early_fills 500 x → lines ≡ files_from count x
unfolding all_fills
no_files count x lines none e = rw none e

pub dropped : (x : ℕ) (lines : List Bytes) → lines ≡ late_fills 500 x → early_fills 0 x ≡ drop_disk ∷ lines
unfolding all_late_fills
dropped x lines e = ap (λ (ls : List Bytes). drop_disk ∷ ls) (sym e)

pub made : (number x : ℕ) (lines : List Bytes) → x ≡ next_choice number → lines ≡ files_from 16 x → lines ≡ made_for number
unfolding made_for
made number x lines choice e = e ∙ ap (λ (y : ℕ). files_from 16 y) choice
