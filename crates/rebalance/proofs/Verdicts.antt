-- What copies say, by the records and by an extent's homes and marks.
use Rattle.std.proofs.Common.{◌≡◌, ℕ, zero, suc, ◌+◌, ◌-◌, ◌<◌, ◌≤◌, Bool, true, false, not, ◌&&◌, ◌||◌, List, [], ◌∷◌, ◌++◌, filter, refl, sym, ap, ◌∙◌, Option, Some, None, arith, add-one, eqb}
use Rattle.std.specs.Prelude.{IsSomeAnd, slice_get}
use Rattle.std.specs.List.{list_any, AllByRecursion}
use Rattle.std.specs.Option.{is_none, is_some, option_or, option_map, option_and_then}
use Rattle.std.proofs.lemmas.List.Elements.{recursion_from_All}
use Rattle.asm_group.specs.Shape.{Shape}
use Rattle.asm_formats.specs.Status.{Entry, entry_of}
use Rattle.asm_formats.specs.Items.{Item, Home}
use Rattle.allocator.specs.UnitMaps.{UnitMap}
use Rattle.asm_placement.specs.Layout.{units_of}
use Rattle.asm_placement.specs.Modes.{serves}
use Rattle.asm_placement.specs.Space.{is_above, is_below, has_room, tried_first}
use Rattle.asm_placement.specs.Choices.{home_on, is_eligible, replacement, replacement_on}
use Rattle.asm_placement.specs.Copies.{Copy, home, units, copies_at, entry_at_home, is_on, is_marked, can_be_read, has_source, has_other_source, wants_fill, wants_shift}
use Rattle.asm_placement.specs.Rebalancing.{Next, first_of, move, lacks_space, shift, option_when, new_home, above_or_none, balancing}
use Rattle.asm_placement.proofs.Bits.{passing_is}
use Rattle.partnership.specs.Candidates.{is_disk_in_set}
use Rattle.partnership.specs.UnitsOf.{AreUnits, AreUnitsOf, held, homes_kept}
use Rattle.partnership.proofs.Kept.{copy_is, copy_on_is}
use Rattle.extent_copies.specs.declared.extent.Extent.{Extent}
use Rattle.rebalance.specs.declared.moves.Next.{Next as CodeNext}
use Rattle.rebalance.specs.declared.stages.Stage.{Stage}
use Rattle.rebalance.specs.declared.stages.Stage.TheVariants as stage
use Rattle.extent_copies.specs.Extents.{copy_of, copies_of_extent, IsExtentOf, can_be_read_at}
use Rattle.rebalance.specs.Extents.{any_from, first_from, is_marked_at, has_source_at, is_other_source_at, has_other_at}
use Rattle.rebalance.specs.Moves.{next_meant}
use Rattle.partnership.specs.Selections.{FitInSet}
use Rattle.rebalance.specs.Sums.{Sums, sums_of, below_set, below_from, is_below_of}
use Rattle.rebalance.specs.Stages.{records_say, copy_says, home_for, home_below, below_if_above, balancing_at}
use Rattle.rebalance.proofs.Sharing.{own_map, above_number, below_number}

-- ---- numbers of copies, one by one

rest : (n k : ℕ) → k < n → n - k ≡ suc (n - suc k)
rest n k less = omega arith

abbrev pub IsAny : (ℕ → Bool) → ℕ → ℕ → Type 0
IsAny test n k = any_from test k (n - k) ≡ any_from test 0 n

any_here : (test : ℕ → Bool) (n k : ℕ) (b : Bool) → k < n → test k ≡ b → any_from test k (n - k) ≡ (b || any_from test (k + 1) (n - (k + 1)))
any_here test n k b less is =
    ap (any_from test k) (rest n k less) ∙ ap (λ (c : Bool). c || any_from test (suc k) (n - suc k)) is
    ∙ ap (λ (j : ℕ). b || any_from test j (n - j)) (sym (add-one k))

pub any_start : (test : ℕ → Bool) (n : ℕ) → IsAny test n 0
any_start test n = let all : n - 0 ≡ n = omega arith in ap (any_from test 0) all

pub any_more : (test : ℕ → Bool) (n k : ℕ) → k < n → test k ≡ false → IsAny test n k → IsAny test n (k + 1)
any_more test n k less fails so_far = sym (any_here test n k false less fails) ∙ so_far

pub any_found : (test : ℕ → Bool) (n k : ℕ) → k < n → test k ≡ true → IsAny test n k → true ≡ any_from test 0 n
any_found test n k less passes so_far = sym (any_here test n k true less passes) ∙ so_far

pub any_end : (test : ℕ → Bool) (n k : ℕ) → n ≤ k → IsAny test n k → false ≡ any_from test 0 n
any_end test n k past so_far = let none : n - k ≡ 0 = omega arith in sym (ap (any_from test k) none) ∙ so_far

abbrev pub IsSaid : (ℕ → Option Next) → ℕ → ℕ → Type 0
IsSaid says n k = first_from says k (n - k) ≡ first_from says 0 n

said_here : (says : ℕ → Option Next) (n k : ℕ) (o : Option Next) → k < n → says k ≡ o → first_from says k (n - k) ≡ option_or o (first_from says (k + 1) (n - (k + 1)))
said_here says n k o less is =
    ap (first_from says k) (rest n k less) ∙ ap (λ (c : Option Next). option_or c (first_from says (suc k) (n - suc k))) is
    ∙ ap (λ (j : ℕ). option_or o (first_from says j (n - j))) (sym (add-one k))

pub said_start : (says : ℕ → Option Next) (n : ℕ) → IsSaid says n 0
said_start says n = let all : n - 0 ≡ n = omega arith in ap (first_from says 0) all

pub said_more : (says : ℕ → Option Next) (n k : ℕ) (next : Option CodeNext) → k < n → option_map next_meant next ≡ says k → is_some next ≡ false → IsSaid says n k → IsSaid says n (k + 1)
said_more says n k None less is none so_far = sym (said_here says n k None less (sym is)) ∙ so_far
said_more says n k (Some next) less is none so_far = absurd cc

pub said_found : (says : ℕ → Option Next) (n k : ℕ) (next : Option CodeNext) → k < n → option_map next_meant next ≡ says k → is_some next ≡ true → IsSaid says n k → option_map next_meant next ≡ first_from says 0 n
said_found says n k None less is some so_far = absurd cc
said_found says n k (Some next) less is some so_far = sym (said_here says n k (Some (next_meant next)) less (sym is)) ∙ so_far

pub said_end : (says : ℕ → Option Next) (n k : ℕ) → n ≤ k → IsSaid says n k → None ≡ first_from says 0 n
said_end says n k past so_far = let none : n - k ≡ 0 = omega arith in sym (ap (first_from says k) none) ∙ so_far

pub first_parts : (says : Copy → Option Next) (xs ys : List Copy) → first_of says (xs ++ ys) ≡ option_or (first_of says xs) (first_of says ys)
first_parts says [] ys = refl
first_parts says (x ∷ xs) ys = by (says x) (first_parts says xs ys)
  where
    by : (o : Option Next) → first_of says (xs ++ ys) ≡ option_or (first_of says xs) (first_of says ys) → option_or o (first_of says (xs ++ ys)) ≡ option_or (option_or o (first_of says xs)) (first_of says ys)
    by None later = later
    by (Some next) later = refl

-- ---- copies, and their numbers

any_copies : (p : Copy → Bool) (x : Extent) (k n : ℕ) → list_any p (copies_at x.id.file x.id.index x.homes k n) ≡ any_from (λ j. p (copy_of x j)) k n
any_copies p x k zero = refl
any_copies p x k (suc n) = ap (λ (b : Bool). p (copy_of x k) || b) (any_copies p x (suc k) n)

any_agree : (f g : ℕ → Bool) (k n : ℕ) → ((j : ℕ) → j < k + n → f j ≡ g j) → any_from f k n ≡ any_from g k n
any_agree f g k zero same = refl
any_agree f g k (suc n) same = rw (same k (omega arith), any_agree f g (suc k) n (λ j less. same j (omega arith))) refl

first_copies : (says : Copy → Option Next) (x : Extent) (k n : ℕ) → first_of says (copies_at x.id.file x.id.index x.homes k n) ≡ first_from (λ j. says (copy_of x j)) k n
first_copies says x k zero = refl
first_copies says x k (suc n) = ap (λ (o : Option Next). option_or (says (copy_of x k)) o) (first_copies says x (suc k) n)

first_agree : (f g : ℕ → Option Next) (k n : ℕ) → ((j : ℕ) → j < k + n → f j ≡ g j) → first_from f k n ≡ first_from g k n
first_agree f g k zero same = refl
first_agree f g k (suc n) same = rw (same k (omega arith), first_agree f g (suc k) n (λ j less. same j (omega arith))) refl

-- ---- by the records

readable_is : (s : Shape) (items : List Item) (all : List Copy) (es : List Entry) (x : Extent) → IsExtentOf s items all x → (j : ℕ) → j < x.copies → can_be_read_at es x j ≡ can_be_read es items (copy_of x j)
readable_is s items all es x are j less = ap (λ (b : Bool). is_on serves es (copy_of x j) && not b) (are.marks j less)

source_is : (s : Shape) (items : List Item) (all : List Copy) (es : List Entry) (x : Extent) (k : ℕ) → IsExtentOf s items all x → has_source_at es x ≡ has_source es items all (copy_of x k)
source_is s items all es x k are =
    any_agree (can_be_read_at es x) (λ j. can_be_read es items (copy_of x j)) 0 x.copies (λ j less. readable_is s items all es x are j (omega arith))
    ∙ sym (any_copies (can_be_read es items) x 0 x.copies)
    ∙ ap (list_any (can_be_read es items)) (sym are.copies)

other_is : (s : Shape) (items : List Item) (all : List Copy) (es : List Entry) (x : Extent) (k : ℕ) → IsExtentOf s items all x → has_other_at es x k ≡ has_other_source es items all (copy_of x k)
other_is s items all es x k are =
    any_agree (is_other_source_at es x k) (λ j. not (eqb j k) && can_be_read es items (copy_of x j)) 0 x.copies (λ j less. ap (λ (b : Bool). not (eqb j k) && b) (readable_is s items all es x are j (omega arith)))
    ∙ sym (any_copies (λ y. not (eqb y.copy k) && can_be_read es items y) x 0 x.copies)
    ∙ ap (list_any (λ (y : Copy). not (eqb y.copy k) && can_be_read es items y)) (sym are.copies)

marked_is : (s : Shape) (items : List Item) (all : List Copy) (x : Extent) (k : ℕ) → IsExtentOf s items all x → k < x.copies → is_marked_at x k ≡ is_marked items (copy_of x k)
marked_is s items all x k are less = ap (λ (b : Bool). is_some (home (copy_of x k)) && b) (are.marks k less)

home_is : (s : Shape) (items : List Item) (all : List Copy) (es : List Entry) (ms : List UnitMap) (x : Extent) (k : ℕ) → 0 < x.units → AreUnitsOf s items es ms → IsExtentOf s items all x → home_for es ms x k ≡ new_home s es items (copy_of x k)
home_is s items all es ms x k long units are =
    copy_is s items es ms x.units k x.homes (homes_kept es k x.homes) (held x.homes) long units (record { kept_is = refl; holders_are = refl })
    ∙ ap (λ (n : ℕ). replacement s es items n k x.homes) are.units

-- the disks of the set are those below their shares
set_is : (s : Shape) (items : List Item) (es : List Entry) (ms : List UnitMap) (t : Sums) (n : ℕ) (e : Entry) → e.number < 64 → IsSomeAnd (slice_get ms e.number) (AreUnits s items e) → t ≡ sums_of s items es → is_disk_in_set (below_set t n ms) e ≡ is_below s items es n e
unfolding below_from
set_is s items es ms t n e small units is = passing_is (is_below_of t n ms) e.number small ∙ below_number s items ms es n e t units is

-- so the tests of a disk agree
below_agree : (s : Shape) (items : List Item) (es : List Entry) (ms : List UnitMap) (t : Sums) (n : ℕ) (fits : Entry → Bool) (fs : List Entry) → AllByRecursion (λ e. e.number < 64) fs → AreUnitsOf s items fs ms → t ≡ sums_of s items es
    → filter (λ (e : Entry). fits e && is_disk_in_set (below_set t n ms) e) fs ≡ filter (λ (e : Entry). fits e && is_below s items es n e) fs
below_agree s items es ms t n fits [] small units is = refl
below_agree s items es ms t n fits (e ∷ fs) small units is =
    rw (set_is s items es ms t n e small.0 units.0 is, below_agree s items es ms t n fits fs small.1 units.1 is) refl

below_is : (s : Shape) (items : List Item) (all : List Copy) (es : List Entry) (ms : List UnitMap) (t : Sums) (x : Extent) (k : ℕ) → FitInSet es → 0 < x.units → AreUnitsOf s items es ms → t ≡ sums_of s items es → IsExtentOf s items all x
    → home_below es ms t x k ≡ replacement_on (is_below s items es (units s (copy_of x k))) s es items (units s (copy_of x k)) k x.homes
below_is s items all es ms t x k small long units is are =
    copy_on_is s items es ms (below_set t x.units ms) x.units k x.homes (homes_kept es k x.homes) (held x.homes) long units (record { kept_is = refl; holders_are = refl })
    ∙ ap (λ (l : List Entry). option_and_then (home_on s items x.units) (tried_first s items l))
    (below_agree s items es ms t x.units (λ (e : Entry). is_eligible es k x.homes e && has_room s items x.units e) es (recursion_from_All (λ (e : Entry). e.number < 64) es small) units is)
    ∙ ap (λ (n : ℕ). replacement_on (is_below s items es n) s es items n k x.homes) are.units

above_is : (s : Shape) (items : List Item) (all : List Copy) (es : List Entry) (ms : List UnitMap) (t : Sums) (x : Extent) (k : ℕ) (h : Home) (o : Option Entry) → entry_of es h.disk ≡ o → FitInSet es → 0 < x.units → AreUnitsOf s items es ms → t ≡ sums_of s items es → IsExtentOf s items all x
    → below_if_above es ms t x k o ≡ above_or_none s es items (copy_of x k) o
above_is s items all es ms t x k h None found small long units is are = refl
above_is s items all es ms t x k h (Some e) found small long units is are =
    rw (above_number s items ms es x.units e t (own_map s items ms es h.disk e units found) is, below_is s items all es ms t x k small long units is are)
    (ap (λ (n : ℕ). option_when (is_above s items es n e) (replacement_on (is_below s items es (units_of s.step x.id.index)) s es items (units_of s.step x.id.index) k x.homes)) are.units)

balancing_is : (s : Shape) (items : List Item) (all : List Copy) (es : List Entry) (ms : List UnitMap) (t : Sums) (x : Extent) (k : ℕ) → FitInSet es → 0 < x.units → AreUnitsOf s items es ms → t ≡ sums_of s items es → IsExtentOf s items all x
    → balancing_at es ms t x k ≡ balancing s es items (copy_of x k)
unfolding balancing
balancing_is s items all es ms t x k small long units is are = by (home (copy_of x k))
  where
    by : (o : Option Home) → below_if_above es ms t x k (entry_at_home es o) ≡ above_or_none s es items (copy_of x k) (entry_at_home es o)
    by None = refl
    by (Some h) = above_is s items all es ms t x k h (entry_of es h.disk) refl small long units is are

when_both : (a b : Bool) (o : Option Next) → option_when a (option_when b o) ≡ option_when (a && b) o
when_both true b o = refl
when_both false b o = refl

when_some : (f : Home → Next) (o : Option Home) → option_when (is_some o) (option_map f o) ≡ option_map f o
when_some f None = refl
when_some f (Some h) = refl

-- what a copy says by its number is what it says by the records
said_copy : (stage : Stage) (s : Shape) (items : List Item) (all : List Copy) (es : List Entry) (ms : List UnitMap) (t : Sums) (x : Extent) (k : ℕ) → FitInSet es → 0 < x.units → AreUnitsOf s items es ms → t ≡ sums_of s items es → IsExtentOf s items all x → k < x.copies
    → copy_says stage es ms t x k ≡ records_say stage s es items all (copy_of x k)
said_copy stage.Recopy s items all es ms t x k small long units is are less =
    rw (marked_is s items all x k are less, other_is s items all es x k are) refl
said_copy stage.Fill s items all es ms t x k small long units is are less =
    rw (source_is s items all es x k are, home_is s items all es ms x k long units are) refl
said_copy stage.Shift s items all es ms t x k small long units is are less =
    rw (source_is s items all es x k are, home_is s items all es ms x k long units are) refl
said_copy stage.Lost s items all es ms t x k small long units is are less = rw (source_is s items all es x k are) refl
said_copy stage.NoSpace s items all es ms t x k small long units is are less =
    rw (home_is s items all es ms x k long units are)
    (when_both (wants_fill es (copy_of x k) || wants_shift es (copy_of x k)) (is_none (new_home s es items (copy_of x k))) (Some (lacks_space x.id.file x.id.index)))
said_copy stage.Balance s items all es ms t x k small long units is are less =
    rw (balancing_is s items all es ms t x k small long units is are) (when_some (λ h. move (shift x.id.file x.id.index k h)) (balancing s es items (copy_of x k)))

pub said_agrees : (stage : Stage) (s : Shape) (items : List Item) (all : List Copy) (es : List Entry) (ms : List UnitMap) (t : Sums) (x : Extent) → FitInSet es → 0 < x.units → AreUnitsOf s items es ms → t ≡ sums_of s items es → IsExtentOf s items all x
    → first_from (copy_says stage es ms t x) 0 x.copies ≡ first_of (records_say stage s es items all) (copies_of_extent x)
said_agrees stage s items all es ms t x small long units is are =
    first_agree (copy_says stage es ms t x) (λ k. records_say stage s es items all (copy_of x k)) 0 x.copies (λ k less. said_copy stage s items all es ms t x k small long units is are (omega arith))
    ∙ sym (first_copies (records_say stage s es items all) x 0 x.copies)
