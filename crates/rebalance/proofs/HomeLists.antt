-- The homes that are there, and those that are kept, of three.
use Rattle.std.proofs.Common.{◌≡◌, ℕ, suc, Bool, true, false, cond, not, ◌&&◌, List, [], ◌∷◌, ◌++◌, refl, sym, ap, ◌∙◌, Option, Some, None, eqb}
use Rattle.std.proofs.lemmas.List.{append_assoc, append-nil}
use Rattle.std.specs.Option.{is_some, option_to_list}
use Rattle.asm_formats.specs.Status.{Entry}
use Rattle.asm_formats.specs.Items.{Home, Homes}
use Rattle.asm_placement.specs.Choices.{staying_disk}
use Rattle.partnership.specs.UnitsOf.{held, homes_kept, kept_homes_from}
use Rattle.rebalance.specs.Extents.{kept_home}

held_three : (a b c : Option Home) → option_to_list a ++ option_to_list b ++ option_to_list c ≡ held (a ∷ b ∷ c ∷ [])
held_three None None None = refl
held_three None None (Some c) = refl
held_three None (Some b) None = refl
held_three None (Some b) (Some c) = refl
held_three (Some a) None None = refl
held_three (Some a) None (Some c) = refl
held_three (Some a) (Some b) None = refl
held_three (Some a) (Some b) (Some c) = refl

pub held_is : (a b c : Option Home) (list : List Home) (homes : Homes) → a ∷ b ∷ c ∷ [] ≡ homes → list ≡ option_to_list a ++ option_to_list b ++ option_to_list c → list ≡ held homes
held_is a b c list homes is made = made ∙ held_three a b c ∙ ap held is

-- one home more in front
kept_one : (es : List Entry) (replaced copy : ℕ) (h : Option Home) (hs : Homes) → kept_homes_from es replaced copy (h ∷ hs) ≡ option_to_list (kept_home es replaced copy h) ++ kept_homes_from es replaced (suc copy) hs
kept_one es replaced copy None hs = by (not (eqb copy replaced))
  where
    by : (b : Bool) → kept_homes_from es replaced (suc copy) hs ≡ option_to_list (cond (b && false) None None) ++ kept_homes_from es replaced (suc copy) hs
    by true = refl
    by false = refl
kept_one es replaced copy (Some h) hs = by (eqb copy replaced) (is_some (staying_disk es (Some h)))
  where
    by : (same stays : Bool) → cond same (kept_homes_from es replaced (suc copy) hs) (cond stays (h ∷ kept_homes_from es replaced (suc copy) hs) (kept_homes_from es replaced (suc copy) hs)) ≡ option_to_list (cond (not same && stays) (Some h) None) ++ kept_homes_from es replaced (suc copy) hs
    by true stays = refl
    by false true = refl
    by false false = refl

appended : (xs ys zs : List Home) → xs ++ (ys ++ (zs ++ [])) ≡ xs ++ ys ++ zs
appended xs ys zs = simp (append_assoc, append-nil)

kept_three : (es : List Entry) (replaced : ℕ) (a b c : Option Home) → homes_kept es replaced (a ∷ b ∷ c ∷ []) ≡ option_to_list (kept_home es replaced 0 a) ++ option_to_list (kept_home es replaced 1 b) ++ option_to_list (kept_home es replaced 2 c)
kept_three es replaced a b c =
    kept_one es replaced 0 a (b ∷ c ∷ [])
    ∙ ap (λ (l : List Home). option_to_list (kept_home es replaced 0 a) ++ l) (kept_one es replaced 1 b (c ∷ []))
    ∙ ap (λ (l : List Home). option_to_list (kept_home es replaced 0 a) ++ (option_to_list (kept_home es replaced 1 b) ++ l)) (kept_one es replaced 2 c [])
    ∙ appended (option_to_list (kept_home es replaced 0 a)) (option_to_list (kept_home es replaced 1 b)) (option_to_list (kept_home es replaced 2 c))

pub kept_is : (es : List Entry) (replaced : ℕ) (a b c x y z : Option Home) (list : List Home) (homes : Homes) → a ∷ b ∷ c ∷ [] ≡ homes
    → x ≡ kept_home es replaced 0 a → y ≡ kept_home es replaced 1 b → z ≡ kept_home es replaced 2 c → list ≡ option_to_list x ++ option_to_list y ++ option_to_list z → list ≡ homes_kept es replaced homes
kept_is es replaced a b c x y z list homes is x_is y_is z_is made = made ∙ rw (x_is, y_is, z_is) (sym (kept_three es replaced a b c)) ∙ ap (homes_kept es replaced) is
