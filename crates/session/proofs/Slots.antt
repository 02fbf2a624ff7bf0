-- The slots of attached disks, one after another.
use Rattle.std.proofs.Common.{◌≡◌, ◌==◌, ℕ, Bool, true, false, ◌+◌, ◌<◌, List, [], ◌∷◌, ◌++◌, length, take, get_or, Option, Some, None, refl, sym, ◌∙◌, ap, append_assoc}
use Rattle.std.specs.Prelude.{if◌then◌else◌}
use Rattle.std.specs.List.{list_any}
use Rattle.std.proofs.lemmas.List.{take_more, append-nil}
use Rattle.group_contents.specs.group_engine.declared.attached.Attached.{Attached}
use Rattle.session.specs.Joining.{without_own}
use Rattle.session.specs.Sessions.{slots_in}

slots_append : (xs ys : List (Option Attached)) → slots_in (xs ++ ys) ≡ slots_in xs ++ slots_in ys
slots_append [] ys = refl
slots_append (None ∷ xs) ys = slots_append xs ys
slots_append (Some a ∷ xs) ys = ap (λ (l : List ℕ). a.slot ∷ l) (slots_append xs ys)

slots_more : (disks : List (Option Attached)) (i : ℕ) → i < length disks → slots_in (take (i + 1) disks) ≡ slots_in (take i disks) ++ slots_in (get_or disks i None ∷ [])
slots_more disks i below = ap slots_in (take_more disks i None below) ∙ slots_append (take i disks) (get_or disks i None ∷ [])

-- with one disk more, behind other slots
pub slots_some : (before now after : List ℕ) (disks : List (Option Attached)) (i : ℕ) (a : Attached) → i < length disks → get_or disks i None ≡ Some a → now ≡ before ++ slots_in (take i disks)
    → after ≡ now ++ a.slot ∷ [] → after ≡ before ++ slots_in (take (i + 1) disks)
slots_some before now after disks i a below is so_far next =
    next ∙ ap (λ (l : List ℕ). l ++ a.slot ∷ []) so_far ∙ append_assoc before (slots_in (take i disks)) (a.slot ∷ [])
    ∙ ap (λ (l : List ℕ). before ++ l) (sym (slots_more disks i below ∙ ap (λ (o : Option Attached). slots_in (take i disks) ++ slots_in (o ∷ [])) is))

pub slots_none : (before now : List ℕ) (disks : List (Option Attached)) (i : ℕ) → i < length disks → get_or disks i None ≡ None → now ≡ before ++ slots_in (take i disks) → now ≡ before ++ slots_in (take (i + 1) disks)
slots_none before now disks i below is so_far =
    so_far ∙ ap (λ (l : List ℕ). before ++ l)
    (sym (slots_more disks i below ∙ ap (λ (o : Option Attached). slots_in (take i disks) ++ slots_in (o ∷ [])) is ∙ append-nil (slots_in (take i disks))))

-- ---- slots of others

without_by : (t : Bool) (x : ℕ) (all a b : List ℕ) → all ≡ a ++ b → (if t then all else x ∷ all) ≡ (if t then a else x ∷ a) ++ b
without_by true x all a b is = is
without_by false x all a b is = ap (λ (l : List ℕ). x ∷ l) is

without_append : (own xs ys : List ℕ) → without_own own (xs ++ ys) ≡ without_own own xs ++ without_own own ys
without_append own [] ys = refl
without_append own (x ∷ xs) ys = without_by (list_any (λ s. s == x) own) x (without_own own (xs ++ ys)) (without_own own xs) (without_own own ys) (without_append own xs ys)

without_more : (own slots : List ℕ) (i : ℕ) → i < length slots → without_own own (take (i + 1) slots) ≡ without_own own (take i slots) ++ without_own own (get_or slots i 0 ∷ [])
without_more own slots i below = ap (without_own own) (take_more slots i 0 below) ∙ without_append own (take i slots) (get_or slots i 0 ∷ [])

-- with what is put behind the others for one more
pub other_more : (own slots before after : List ℕ) (i : ℕ) → i < length slots → before ≡ without_own own (take i slots) → after ≡ before ++ without_own own (get_or slots i 0 ∷ []) → after ≡ without_own own (take (i + 1) slots)
other_more own slots before after i below so_far next =
    next ∙ ap (λ (l : List ℕ). l ++ without_own own (get_or slots i 0 ∷ [])) so_far ∙ sym (without_more own slots i below)

-- nothing, where it is one of the group's own
pub own_left : (own before : List ℕ) (slot : ℕ) → list_any (λ s. s == slot) own ≡ true → before ≡ before ++ without_own own (slot ∷ [])
own_left own before slot is =
    let nothing : without_own own (slot ∷ []) ≡ [] = rw is refl in
    sym (ap (λ (l : List ℕ). before ++ l) nothing ∙ append-nil before)

pub other_put : (own before after : List ℕ) (slot : ℕ) → list_any (λ s. s == slot) own ≡ false → after ≡ before ++ slot ∷ [] → after ≡ before ++ without_own own (slot ∷ [])
other_put own before after slot none put =
    let one : without_own own (slot ∷ []) ≡ slot ∷ [] = rw none refl in
    put ∙ sym (ap (λ (l : List ℕ). before ++ l) one)
