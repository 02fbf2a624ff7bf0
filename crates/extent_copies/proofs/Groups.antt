-- In how many failure groups disks lie.
use Rattle.std.proofs.Common.{◌≡◌, inl, inr, ℕ, suc, ◌+◌, ◌-◌, ◌<◌, Bool, true, false, cond, not, ◌&&◌, ◌||◌, List, [], ◌∷◌, length, filter, get_or, take, drop, refl, sym, ap, ◌∙◌, arith, eqb}
use Rattle.std.specs.List.{list_any}
use Rattle.std.proofs.lemmas.Bool.{cases_eq, eq-eqb, eqb-true, ne_eqb, both_ways, and_parts, not-true}
use Rattle.std.proofs.lemmas.List.{take_all}
use Rattle.asm_formats.specs.Status.{Entry}
use Rattle.asm_placement.specs.DiskSets.{is_among, distinct_failgroups}
use Rattle.asm_placement.specs.Modes.{stays}
use Rattle.asm_placement.specs.Partners.{table_disks}
use Rattle.extent_copies.specs.NewFiles.{is_of_group}
use Rattle.partnership.specs.Tables.{is_table_disk}

-- all but a number
abbrev but : ℕ → List ℕ → List ℕ
but g gs = filter (λ h. not (eqb h g)) gs

still_among : (g h : ℕ) (gs : List ℕ) → (g ≡ h → ⊥) → is_among (but g gs) h ≡ is_among gs h
still_among g h [] other = refl
still_among g h (k ∷ gs) other = by (eqb k g) refl (still_among g h gs other)
  where
    by : (b : Bool) → eqb k g ≡ b → is_among (but g gs) h ≡ is_among gs h → is_among (cond (not b) (k ∷ but g gs) (but g gs)) h ≡ (eqb k h || is_among gs h)
    by true is later =
        let same : k ≡ g = eqb-true k g is in
        rw (ne_eqb k h (λ e. other (sym same ∙ e))) later
    by false is later = ap (λ (b : Bool). eqb k h || b) later

none_left : (g : ℕ) (gs : List ℕ) → is_among (but g gs) g ≡ false
none_left g [] = refl
none_left g (k ∷ gs) = by (eqb k g) refl (none_left g gs)
  where
    by : (b : Bool) → eqb k g ≡ b → is_among (but g gs) g ≡ false → is_among (cond (not b) (k ∷ but g gs) (but g gs)) g ≡ false
    by true is later = later
    by false is later = rw is later

-- a group is among those of disks where one of them lies in it
groups_any : (g : ℕ) (es : List Entry) → is_among (distinct_failgroups es) g ≡ list_any (is_of_group g) es
groups_any g [] = refl
groups_any g (e ∷ es) = by (eqb e.failgroup g) refl (groups_any g es)
  where
    by : (b : Bool) → eqb e.failgroup g ≡ b → is_among (distinct_failgroups es) g ≡ list_any (is_of_group g) es → (b || is_among (but e.failgroup (distinct_failgroups es)) g) ≡ (b || list_any (is_of_group g) es)
    by true is later = refl
    by false is later = still_among e.failgroup g (distinct_failgroups es) (λ same. both_ways (eqb e.failgroup g) is (eq-eqb e.failgroup g same)) ∙ later

-- ---- no number stands twice

record IsFirst (g : ℕ) (gs : List ℕ) (rest : Type 0) : Type 0 where
  once : is_among gs g ≡ false
  later : rest

abbrev AreOnce : List ℕ → Type 0
AreOnce [] = Unit {0}
AreOnce (g ∷ gs) = IsFirst g gs (AreOnce gs)

-- without a number that isn't there they are as they were
but_none : (g : ℕ) (gs : List ℕ) → is_among gs g ≡ false → but g gs ≡ gs
but_none g [] none = refl
but_none g (k ∷ gs) none = by (eqb k g) refl none (but_none g gs)
  where
    by : (b : Bool) → eqb k g ≡ b → (b || is_among gs g) ≡ false → (is_among gs g ≡ false → but g gs ≡ gs) → cond (not b) (k ∷ but g gs) (but g gs) ≡ k ∷ gs
    by true is some later = absurd cc
    by false is some later = ap (λ (l : List ℕ). k ∷ l) (later some)

-- fewer stay apart
not_more : (g h : ℕ) (gs : List ℕ) → is_among gs h ≡ false → is_among (but g gs) h ≡ false
not_more g h [] none = refl
not_more g h (k ∷ gs) none = by (eqb k g) (eqb k h) refl none (not_more g h gs)
  where
    by : (b c : Bool) → eqb k h ≡ c → (c || is_among gs h) ≡ false → (is_among gs h ≡ false → is_among (but g gs) h ≡ false) → is_among (cond (not b) (k ∷ but g gs) (but g gs)) h ≡ false
    by b true is some later = absurd cc
    by true false is some later = later some
    by false false is some later = rw is (later some)

once_without : (g : ℕ) (gs : List ℕ) → AreOnce gs → AreOnce (but g gs)
once_without g [] once = tt
once_without g (k ∷ gs) once = by (eqb k g) (once_without g gs once.later)
  where
    by : (b : Bool) → AreOnce (but g gs) → AreOnce (cond (not b) (k ∷ but g gs) (but g gs))
    by true later = later
    by false later = record { once = not_more g k gs once.once; later = later }

groups_once : (es : List Entry) → AreOnce (distinct_failgroups es)
groups_once [] = tt
groups_once (e ∷ es) = record { once = none_left e.failgroup (distinct_failgroups es); later = once_without e.failgroup (distinct_failgroups es) (groups_once es) }

-- one that is there is taken away once
taken : (g : ℕ) (gs : List ℕ) → AreOnce gs → is_among gs g ≡ true → length (but g gs) + 1 ≡ length gs
taken g [] once some = absurd cc
taken g (k ∷ gs) once some = by (eqb k g) refl some (taken g gs once.later)
  where
    by : (b : Bool) → eqb k g ≡ b → (b || is_among gs g) ≡ true → (is_among gs g ≡ true → length (but g gs) + 1 ≡ length gs) → length (cond (not b) (k ∷ but g gs) (but g gs)) + 1 ≡ length (k ∷ gs)
    by true is there later =
        let none : is_among gs g ≡ false = ap (is_among gs) (sym (eqb-true k g is)) ∙ once.once in
        omega (arith, ap (λ (l : List ℕ). length l) (but_none g gs none))
    by false is there later = omega (arith, later there)

-- ---- one disk more

pub more_known : (e : Entry) (es : List Entry) → list_any (is_of_group e.failgroup) es ≡ true → length (distinct_failgroups (e ∷ es)) ≡ length (distinct_failgroups es)
more_known e es known = omega (arith, taken e.failgroup (distinct_failgroups es) (groups_once es) (groups_any e.failgroup es ∙ known))

pub more_new : (e : Entry) (es : List Entry) → list_any (is_of_group e.failgroup) es ≡ false → length (distinct_failgroups (e ∷ es)) ≡ length (distinct_failgroups es) + 1
more_new e es new = omega (arith, ap (λ (l : List ℕ). length l) (but_none e.failgroup (distinct_failgroups es) (groups_any e.failgroup es ∙ new)))

-- ---- the regular disks that stay

count_other : (e : Entry) (es : List Entry) → (not e.quorum && stays e.mode) ≡ false → length (distinct_failgroups (table_disks es)) ≡ length (distinct_failgroups (table_disks (e ∷ es)))
count_other e es other = ap (λ (b : Bool). length (distinct_failgroups (cond b (e ∷ table_disks es) (table_disks es)))) (sym other)

count_known : (e : Entry) (es : List Entry) → (not e.quorum && stays e.mode) ≡ true → list_any (is_of_group e.failgroup) (table_disks es) ≡ true
    → length (distinct_failgroups (table_disks es)) ≡ length (distinct_failgroups (table_disks (e ∷ es)))
count_known e es is known =
    sym (more_known e (table_disks es) known) ∙ ap (λ (b : Bool). length (distinct_failgroups (cond b (e ∷ table_disks es) (table_disks es)))) (sym is)

count_new : (e : Entry) (es : List Entry) → (not e.quorum && stays e.mode) ≡ true → list_any (is_of_group e.failgroup) (table_disks es) ≡ false
    → length (distinct_failgroups (table_disks es)) + 1 ≡ length (distinct_failgroups (table_disks (e ∷ es)))
count_new e es is new =
    sym (more_new e (table_disks es) new) ∙ ap (λ (b : Bool). length (distinct_failgroups (cond b (e ∷ table_disks es) (table_disks es)))) (sym is)

-- ---- the first of some disks, and the others

-- the disks behind the first
abbrev pub behind : List Entry → List Entry
behind ds = take (length ds - 1) (drop 1 ds)

behind_is : (d : Entry) (es : List Entry) → behind (d ∷ es) ≡ es
behind_is d es = take_all (length (d ∷ es) - 1) es (omega arith)

-- the disk makes one group more
abbrev adds : Entry → List Entry → Bool
adds e es = is_table_disk e && not (list_any (is_of_group e.failgroup) (table_disks es))

pub more_here : (ds : List Entry) (e : Entry) (n : ℕ) → 0 < length ds → e ≡ get_or ds 0 e → true ≡ (is_table_disk e && not (list_any (is_of_group e.failgroup) (table_disks (behind ds))))
    → n ≡ length (distinct_failgroups (table_disks (behind ds))) → n + 1 ≡ length (distinct_failgroups (table_disks ds))
more_here [] e n some at is count = absurd (omega (arith, some))
more_here (d ∷ es) e n some at is count =
    let same : true ≡ adds d es = is ∙ ap (adds e) (behind_is d es) ∙ ap (λ (x : Entry). adds x es) at in
    let p = and_parts (is_table_disk d) (not (list_any (is_of_group d.failgroup) (table_disks es))) (sym same) in
    ap (λ (k : ℕ). k + 1) (count ∙ ap (λ (l : List Entry). length (distinct_failgroups (table_disks l))) (behind_is d es)) ∙ count_new d es p.0 (not-true (list_any (is_of_group d.failgroup) (table_disks es)) p.1)

pub same_here : (ds : List Entry) (e : Entry) (n : ℕ) → 0 < length ds → e ≡ get_or ds 0 e → false ≡ (is_table_disk e && not (list_any (is_of_group e.failgroup) (table_disks (behind ds))))
    → n ≡ length (distinct_failgroups (table_disks (behind ds))) → n ≡ length (distinct_failgroups (table_disks ds))
same_here [] e n some at is count = absurd (omega (arith, some))
same_here (d ∷ es) e n some at is count =
    count ∙ ap (λ (l : List Entry). length (distinct_failgroups (table_disks l))) (behind_is d es)
    ∙ by (is_table_disk d) (list_any (is_of_group d.failgroup) (table_disks es)) refl refl (is ∙ ap (adds e) (behind_is d es) ∙ ap (λ (x : Entry). adds x es) at)
  where
    by : (a b : Bool) → is_table_disk d ≡ a → list_any (is_of_group d.failgroup) (table_disks es) ≡ b → false ≡ (a && not b) → length (distinct_failgroups (table_disks es)) ≡ length (distinct_failgroups (table_disks (d ∷ es)))
    by false b other known none = count_other d es other
    by true true table known none = count_known d es table known
    by true false table new none = absurd cc
