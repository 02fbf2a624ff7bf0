-- The first refusal of several.
use Rattle.std.proofs.Common.{◌≡◌, inl, inr, ⊎_elim, ℕ, ◌<◌, true, List, [], ◌∷◌, ◌++◌, Option, Some, None, refl, sym, ap, ◌∙◌, arith}
use Rattle.std.specs.Prelude.{nat_lt}
use Rattle.std.proofs.lemmas.Bool.{cond-true, lt-ltb}
use Rattle.bay.specs.Moments.{Runs}
use Rattle.bay.specs.Image.{Image}
use Rattle.bay.specs.State.{BayState}
use Rattle.asm_group.specs.declared.GroupKind.{GroupKind}
use Rattle.asm_world.specs.NewDisks.{PlannedDisk, is_name_taken, needed_groups, regular_groups}
use Rattle.asm_group.specs.Refusal as r
use Rattle.refusal_lines.specs.Refusals.{meaning_of}
use Rattle.refusal_lines.specs.declared.refusal.Refusal.{Refusal}
use Rattle.mounted_groups.specs.Probes.{SaysRefusal}
use Rattle.mounted_groups.proofs.group_recovery.Told.{rose_before}
use Rattle.mounted_groups.specs.group_recovery.declared.finding.Headed.{Headed}
use Rattle.new_groups.specs.Causes.{IsThisRefusal, clash_refusal, first_refusal, first_refused, groups_refusal}
use Rattle.new_groups.specs.Drafts.{AreFreeDisks}
use Rattle.new_groups.specs.Forming.{IsFormRefusal}
use Rattle.new_groups.specs.Preparing.{IsFormFailure}

-- what is said is the one that there is
pub first_says : (first : Option r.Refusal) (wanted : r.Refusal) (refusal : Refusal) → first ≡ Some wanted → SaysRefusal wanted refusal → IsThisRefusal first (meaning_of (λ any. []) refusal)
first_says first wanted refusal is says = ⊎_elim (λ (same : meaning_of (λ any. []) refusal ≡ wanted). inl (is ∙ ap (λ (x : r.Refusal). Some x) (sym same))) (λ short. inr short) says

pub first_passed : {A : Type 0} (test : A → Option r.Refusal) (x : A) (xs : List A) → test x ≡ None → first_refused test (x ∷ xs) ≡ first_refused test xs
first_passed test x xs none = rw none refl

pub first_failed : {A : Type 0} (test : A → Option r.Refusal) (x : A) (xs : List A) (refusal : r.Refusal) → IsThisRefusal (test x) refusal → IsThisRefusal (first_refused test (x ∷ xs)) refusal
first_failed test x xs refusal why = ⊎_elim (λ (some : test x ≡ Some refusal). inl (rw some refl)) (λ short. inr short) why

-- the first of more
pub first_more : (xs ys : List (Option r.Refusal)) (refusal : r.Refusal) → first_refusal xs ≡ Some refusal → first_refusal (xs ++ ys) ≡ Some refusal
first_more [] ys refusal is = absurd (cc)
first_more (None ∷ xs) ys refusal is = first_more xs ys refusal is
first_more (Some x ∷ xs) ys refusal is = is

pub first_later : (xs ys : List (Option r.Refusal)) → first_refusal xs ≡ None → first_refusal (xs ++ ys) ≡ first_refusal ys
first_later [] ys none = refl
first_later (None ∷ xs) ys none = first_later xs ys none
first_later (Some x ∷ xs) ys none = absurd (cc)

pub is_first_more : (xs ys : List (Option r.Refusal)) (refusal : r.Refusal) → IsThisRefusal (first_refusal xs) refusal → IsThisRefusal (first_refusal (xs ++ ys)) refusal
is_first_more xs ys refusal why = ⊎_elim (λ some. inl (first_more xs ys refusal some)) (λ short. inr short) why

pub is_first_later : (xs ys : List (Option r.Refusal)) (refusal : r.Refusal) → first_refusal xs ≡ None → IsThisRefusal (first_refusal ys) refusal → IsThisRefusal (first_refusal (xs ++ ys)) refusal
is_first_later xs ys refusal none why = ⊎_elim (λ some. inl (first_later xs ys none ∙ some)) (λ short. inr short) why

-- ---- tests of all

pub groups_few : (kind : GroupKind) (disks : List PlannedDisk) (need have : ℕ) → need ≡ needed_groups kind → have ≡ regular_groups disks → have < need → groups_refusal kind disks ≡ Some (r.TooFewGroups need have)
groups_few kind disks need have is_need is_have few =
    rw (is_need, is_have)
    (cond-true (nat_lt (regular_groups disks) (needed_groups kind)) (Some (r.TooFewGroups (needed_groups kind) (regular_groups disks))) None (lt-ltb (regular_groups disks) (needed_groups kind) (omega (arith, is_need, is_have, few))))

pub names_clash : (disks : List PlannedDisk) → is_name_taken [] disks ≡ true → clash_refusal disks ≡ Some r.NameTaken
names_clash disks taken = cond-true (is_name_taken [] disks) (Some r.NameTaken) None taken

-- ---- what failed in forming

pub form_failed : (n k : ℕ) (held : List ℕ) (hs : List Headed) (s m t : BayState) {slots : ℕ → Type 0} {step : Image → Image → Type 0} → n ≡ k → AreFreeDisks n held hs m → Runs slots step s m → (refusal : r.Refusal) → IsFormRefusal hs refusal m t → IsFormFailure k refusal s t
form_failed n k held hs s m t same free run (r.WriteFault name) is =
    let h : Headed = is.0 in
    (h.slot, omega (arith, same, (free h is.1).inside), rose_before (s.faults h.slot) (m.faults h.slot) (t.faults h.slot) (run.faults h.slot) is.3)
form_failed n k held hs s m t same free run r.NoMemory is = tt
form_failed n k held hs s m t same free run other is = absurd is
