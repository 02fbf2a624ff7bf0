-- Whether an extent is full, copy by copy.
use Rattle.std.proofs.Common.{◌≡◌, ℕ, zero, suc, ◌+◌, ◌-◌, ◌<◌, ◌≤◌, Bool, true, false, not, ◌&&◌, ◌||◌, List, [], ◌∷◌, length, get_or, refl, sym, ap, ◌∙◌, Option, Some, None, arith, add-one, eqb}
use Rattle.std.specs.List.{list_all, list_any}
use Rattle.asm_group.specs.Shape.{Shape}
use Rattle.asm_formats.specs.Status.{Entry}
use Rattle.asm_formats.specs.Items.{Item, Home}
use Rattle.asm_placement.specs.Modes.{is_online}
use Rattle.asm_placement.specs.DiskSets.{distinct_failgroups}
use Rattle.asm_placement.specs.Copies.{Copy, copies_at, disks_of_copies, entry_at_home, home, has_full_redundancy, is_on, is_whole_copy, siblings}
use Rattle.extent_copies.specs.declared.extent.Extent.{Extent}
use Rattle.extent_copies.specs.Extents.{IsExtentOf, copies_of_extent, copy_of}
use Rattle.extent_copies.specs.NewFiles.{is_of_group}
use Rattle.extent_copies.specs.Usable.{all_from, copies_after, failgroup_count_after, is_full_at, is_whole_at}
use Rattle.extent_copies.proofs.Verdicts.{rest}
use Rattle.extent_copies.proofs.Groups.{more_known, more_new}

-- ---- all copies

abbrev pub AreAll : (ℕ → Bool) → ℕ → ℕ → Type 0
AreAll test n k = all_from test k (n - k) ≡ all_from test 0 n

all_here : (test : ℕ → Bool) (n k : ℕ) (b : Bool) → k < n → test k ≡ b → all_from test k (n - k) ≡ (b && all_from test (k + 1) (n - (k + 1)))
all_here test n k b less is =
    ap (all_from test k) (rest n k less) ∙ ap (λ (c : Bool). c && all_from test (suc k) (n - suc k)) is
    ∙ ap (λ (j : ℕ). b && all_from test j (n - j)) (sym (add-one k))

pub all_start : (test : ℕ → Bool) (n : ℕ) → AreAll test n 0
all_start test n = let all : n - 0 ≡ n = omega arith in ap (all_from test 0) all

pub all_more : (test : ℕ → Bool) (n k : ℕ) → k < n → test k ≡ true → AreAll test n k → AreAll test n (k + 1)
all_more test n k less passes so_far = sym (all_here test n k true less passes) ∙ so_far

pub all_failed : (test : ℕ → Bool) (n k : ℕ) → k < n → test k ≡ false → AreAll test n k → false ≡ all_from test 0 n
all_failed test n k less fails so_far = sym (all_here test n k false less fails) ∙ so_far

pub all_end : (test : ℕ → Bool) (n k : ℕ) → n ≤ k → AreAll test n k → true ≡ all_from test 0 n
all_end test n k past so_far = let none : n - k ≡ 0 = omega arith in sym (ap (all_from test k) none) ∙ so_far

-- ---- the copies from a number on

-- the disk of a home, before other disks
abbrev before : Option Entry → List Entry → List Entry
before None es = es
before (Some e) es = e ∷ es

with_copy : (es : List Entry) (c : Copy) (more : List Copy) → disks_of_copies es (c ∷ more) ≡ before (entry_at_home es (home c)) (disks_of_copies es more)
with_copy es c more = by (entry_at_home es (home c)) refl
  where
    by : (o : Option Entry) → entry_at_home es (home c) ≡ o → disks_of_copies es (c ∷ more) ≡ before o (disks_of_copies es more)
    by None is = rw is refl
    by (Some e) is = rw is refl

disks_from : (es : List Entry) (x : Extent) (k : ℕ) (o : Option Entry) → k < x.copies → entry_at_home es (home (copy_of x k)) ≡ o → disks_of_copies es (copies_after x k) ≡ before o (disks_of_copies es (copies_after x (k + 1)))
disks_from es x k o less is =
    ap (λ (n : ℕ). disks_of_copies es (copies_at x.id.file x.id.index x.homes k n)) (rest x.copies k less)
    ∙ with_copy es (copy_of x k) (copies_at x.id.file x.id.index x.homes (suc k) (x.copies - suc k))
    ∙ ap (λ (p : Option Entry). before p (disks_of_copies es (copies_after x (suc k)))) is
    ∙ ap (λ (j : ℕ). before o (disks_of_copies es (copies_after x j))) (sym (add-one k))

none_after : (x : Extent) (k : ℕ) → x.copies ≤ k → copies_after x k ≡ []
none_after x k past = let none : x.copies - k ≡ 0 = omega arith in ap (copies_at x.id.file x.id.index x.homes k) none

pub any_end : (es : List Entry) (x : Extent) (k g : ℕ) → x.copies ≤ k → false ≡ list_any (is_of_group g) (disks_of_copies es (copies_after x k))
any_end es x k g past = ap (λ (l : List Copy). list_any (is_of_group g) (disks_of_copies es l)) (sym (none_after x k past))

pub any_step : (es : List Entry) (x : Extent) (k g : ℕ) → k < x.copies
    → (list_any (is_of_group g) (disks_of_copies es (copy_of x k ∷ [])) || list_any (is_of_group g) (disks_of_copies es (copies_after x (k + 1)))) ≡ list_any (is_of_group g) (disks_of_copies es (copies_after x k))
any_step es x k g less = by (entry_at_home es (home (copy_of x k))) refl
  where
    or_assoc : (b c : Bool) → ((b || false) || c) ≡ (b || c)
    or_assoc true c = refl
    or_assoc false c = refl

    by : (o : Option Entry) → entry_at_home es (home (copy_of x k)) ≡ o
        → (list_any (is_of_group g) (disks_of_copies es (copy_of x k ∷ [])) || list_any (is_of_group g) (disks_of_copies es (copies_after x (k + 1)))) ≡ list_any (is_of_group g) (disks_of_copies es (copies_after x k))
    by None is =
        ap (λ (l : List Entry). list_any (is_of_group g) l || list_any (is_of_group g) (disks_of_copies es (copies_after x (k + 1)))) (with_copy es (copy_of x k) [] ∙ ap (λ (p : Option Entry). before p []) is)
        ∙ ap (list_any (is_of_group g)) (sym (disks_from es x k None less is))
    by (Some e) is =
        ap (λ (l : List Entry). list_any (is_of_group g) l || list_any (is_of_group g) (disks_of_copies es (copies_after x (k + 1)))) (with_copy es (copy_of x k) [] ∙ ap (λ (p : Option Entry). before p []) is)
        ∙ or_assoc (eqb e.failgroup g) (list_any (is_of_group g) (disks_of_copies es (copies_after x (k + 1))))
        ∙ ap (list_any (is_of_group g)) (sym (disks_from es x k (Some e) less is))

pub groups_end : (es : List Entry) (x : Extent) (k : ℕ) → x.copies ≤ k → 0 ≡ failgroup_count_after es x k
groups_end es x k past = ap (λ (l : List Copy). length (distinct_failgroups (disks_of_copies es l))) (sym (none_after x k past))

pub groups_absent : (es : List Entry) (x : Extent) (k : ℕ) → k < x.copies → None ≡ entry_at_home es (get_or x.homes k None) → failgroup_count_after es x (k + 1) ≡ failgroup_count_after es x k
groups_absent es x k less none = ap (λ (l : List Entry). length (distinct_failgroups l)) (sym (disks_from es x k None less (sym none)))

pub groups_known : (es : List Entry) (x : Extent) (k : ℕ) (e : Entry) → k < x.copies → Some e ≡ entry_at_home es (get_or x.homes k None) → list_any (is_of_group e.failgroup) (disks_of_copies es (copies_after x (k + 1))) ≡ true
    → failgroup_count_after es x (k + 1) ≡ failgroup_count_after es x k
groups_known es x k e less some known =
    sym (more_known e (disks_of_copies es (copies_after x (k + 1))) known) ∙ ap (λ (l : List Entry). length (distinct_failgroups l)) (sym (disks_from es x k (Some e) less (sym some)))

pub groups_new : (es : List Entry) (x : Extent) (k : ℕ) (e : Entry) → k < x.copies → Some e ≡ entry_at_home es (get_or x.homes k None) → list_any (is_of_group e.failgroup) (disks_of_copies es (copies_after x (k + 1))) ≡ false
    → failgroup_count_after es x (k + 1) + 1 ≡ failgroup_count_after es x k
groups_new es x k e less some new =
    sym (more_new e (disks_of_copies es (copies_after x (k + 1))) new) ∙ ap (λ (l : List Entry). length (distinct_failgroups l)) (sym (disks_from es x k (Some e) less (sym some)))

-- ---- by the records

all_copies_are : (es : List Entry) (items : List Item) (x : Extent) (k n : ℕ) → ((j : ℕ) → j < k + n → is_whole_at es x j ≡ is_whole_copy es items (copy_of x j))
    → all_from (is_whole_at es x) k n ≡ list_all (is_whole_copy es items) (copies_at x.id.file x.id.index x.homes k n)
all_copies_are es items x k zero same = refl
all_copies_are es items x k (suc n) same = rw (same k (omega arith), all_copies_are es items x (suc k) n (λ j less. same j (omega arith))) refl

as_many : (x : Extent) (k n : ℕ) → length (copies_at x.id.file x.id.index x.homes k n) ≡ n
as_many x k zero = refl
as_many x k (suc n) = ap suc (as_many x (suc k) n)

pub full_is : (b : Bool) (es : List Entry) (s : Shape) (items : List Item) (all : List Copy) (x : Extent) → b ≡ is_full_at es x → IsExtentOf s items all x → b ≡ has_full_redundancy es items (siblings all (copy_of x 0))
full_is b es s items all x is are =
    is
    ∙ ap (λ (c : Bool). c && eqb (failgroup_count_after es x 0) x.copies)
    (all_copies_are es items x 0 x.copies (λ j less. ap (λ (m : Bool). is_on is_online es (copy_of x j) && not m) (are.marks j (omega arith))))
    ∙ ap (λ (l : List Copy). list_all (is_whole_copy es items) (copies_of_extent x) && eqb (length (distinct_failgroups (disks_of_copies es l))) x.copies) whole
    ∙ ap (λ (n : ℕ). list_all (is_whole_copy es items) (copies_of_extent x) && eqb (length (distinct_failgroups (disks_of_copies es (copies_of_extent x)))) n) (sym (as_many x 0 x.copies))
    ∙ ap (has_full_redundancy es items) (sym are.copies)
  where
    whole : copies_after x 0 ≡ copies_of_extent x
    whole = let all_of : x.copies - 0 ≡ x.copies = omega arith in ap (copies_at x.id.file x.id.index x.homes 0) all_of
