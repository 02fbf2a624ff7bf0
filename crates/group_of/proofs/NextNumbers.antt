-- The number of the next file.
use Rattle.std.proofs.Common.{◌≡◌, ◌⊎◌, ℕ, ◌+◌, ◌<◌, ◌≤◌, Bool, true, false, cond, List, [], ◌∷◌, map, Option, Some, None, refl, sym, ap, subst, ◌∙◌, arith, inl, inr}
use Rattle.std.specs.Prelude.{◌||◌, T, is_some}
use Rattle.std.specs.FinMap as maps
use Rattle.std.specs.Ordering.{nat_cmp, eq_by_cmp, is_lt}
use Rattle.std.specs.declared.cmp.Ordering.{Ordering}
use Rattle.std.specs.declared.cmp.Ordering.TheVariants.{Less, Equal, Greater}
use Rattle.std.proofs.lemmas.Bool.{and_parts, cases_lt, eq-eqb, false≢true, le-ltb, lt-ltb, ne_eqb, true≢false}
use Rattle.asm_group.specs.Shape.{Shape}
use Rattle.asm_group.specs.Group.{Cell}
use Rattle.asm_formats.specs.Items.{FileHead, Pending}
use Rattle.asm_placement.specs.Naming.{is_pending}
use Rattle.asm_world.specs.Files.{least_from}
use Rattle.catalog_laws.specs.file_directory.Files.{head_at, is_file_number}
use Rattle.catalog_laws.specs.file_directory.Files as heads
use Rattle.catalog_laws.specs.catalog.NamePlans.{made_file}
use Rattle.catalog_laws.specs.catalog.Numbers.{IsNextFile, is_taken}
use Rattle.catalog_laws.specs.catalog_tables.Tables.{Tables}
use Rattle.catalog_laws.proofs.catalog.NumberedEntries.{number_other}
use Rattle.catalog_laws.proofs.catalog_tables.NumberedLists.{number_itself}
use Rattle.group_of.specs.Groups.{files_by_number, group_of}
use Rattle.group_of.specs.Files.{IsAtRest, MadeNumberIsWorlds, NextNumberIsWorlds}
use Rattle.group_of.proofs.FreeNumbers.{HasFreeNumber, number_is_free}
use Rattle.group_of.proofs.HeadedFiles.{file_at, files_are}

-- ---- the least number that isn't among rising ones

is_less : (m n : ℕ) → is_lt (nat_cmp m n) ≡ true → m < n
is_less m n e = number m n (by (nat_cmp m n) e) where
  by : (o : Ordering) → is_lt o ≡ true → o ≡ Less
  by Less e = refl
  by Equal e = absurd cc
  by Greater e = absurd cc

  number : (m n : ℕ) → nat_cmp m n ≡ Less → m < n
  number m n e = grind (arith, e)

module _ {X : Type 0} where
  has : List (ℕ × X) → ℕ → Bool
  has es k = is_some (maps.find nat_cmp k es)

  here : (k : ℕ) (e : ℕ × X) (es : List (ℕ × X)) → k ≡ e.0 → has (e ∷ es) k ≡ true
  unfolding has
  here k e es same =
      let is : eq_by_cmp nat_cmp k e.0 ≡ true = subst (λ (n : ℕ). eq_by_cmp nat_cmp k n ≡ true) same (number_itself k) in
      ap (λ (b : Bool). is_some (cond b (Some e.1) (maps.find nat_cmp k es))) is

  behind : (k : ℕ) (e : ℕ × X) (es : List (ℕ × X)) → (k ≡ e.0 → ⊥) → has (e ∷ es) k ≡ has es k
  unfolding has
  behind k e es other = ap (λ (b : Bool). is_some (cond b (Some e.1) (maps.find nat_cmp k es))) (number_other k e.0 other)

  none_below : (n : ℕ) (es : List (ℕ × X)) → maps.Entries.below_all nat_cmp n es ≡ true → (k : ℕ) → k ≤ n → has es k ≡ false
  unfolding has
  none_below n [] up k le = refl
  none_below n (e ∷ es) up k le =
      let p = and_parts (is_lt (nat_cmp n e.0)) (maps.Entries.below_all nat_cmp n es) up in
      behind k e es (λ same. omega (arith, le, same, is_less n e.0 p.0)) ∙ none_below n es p.1 k le

  least : (n f : ℕ) (es : List (ℕ × X)) → maps.is_sorted nat_cmp es ≡ true → n ≤ f → ((k : ℕ) → n ≤ k → k < f → has es k ≡ true) → has es f ≡ false → least_from n (map (λ (e : ℕ × X). e.0) es) ≡ f
  least n f [] up le all free = elim (cases_lt n f) [
    | inl lt ↦ absurd (false≢true (sym (none_below n [] refl n (omega arith)) ∙ all n (omega arith) lt))
    | inr ge ↦ omega (arith, le, ge)
  ]
  least n f (e ∷ es) up le all free = by (cases_lt e.0 n) (cases_lt n e.0) (λ m low each. least m f es sorted.1 low each left) where
    sorted : (maps.Entries.below_all nat_cmp e.0 es ≡ true) × (maps.is_sorted nat_cmp es ≡ true)
    sorted = and_parts (maps.Entries.below_all nat_cmp e.0 es) (maps.is_sorted nat_cmp es) up

    not_here : f ≡ e.0 → ⊥
    not_here same = true≢false (sym (here f e es same) ∙ free)

    left : has es f ≡ false
    left = sym (behind f e es not_here) ∙ free

    by : (e.0 < n) ⊎ (n ≤ e.0) → (n < e.0) ⊎ (e.0 ≤ n) → ((m : ℕ) → m ≤ f → ((k : ℕ) → m ≤ k → k < f → has es k ≡ true) → least_from m (map (λ (x : ℕ × X). x.0) es) ≡ f)
        → least_from n (e.0 ∷ map (λ (x : ℕ × X). x.0) es) ≡ f
    by (inl low) either more =
        let rest = more n le (λ k from to. sym (behind k e es (λ same. omega (arith, same, low, from))) ∙ all k from to) in
        rw (ne_eqb e.0 n (λ same. omega (arith, same, low)), lt-ltb e.0 n low) rest
    by (inr from) (inl high) more = elim (cases_lt n f) [
      | inl lt ↦
          let other : n ≡ e.0 → ⊥ = λ same. omega (arith, same, high) in
          absurd (true≢false (sym (all n (omega arith) lt) ∙ behind n e es other ∙ none_below e.0 es sorted.0 n (omega (arith, high))))
      | inr ge ↦ rw (ne_eqb e.0 n (λ same. omega (arith, same, high)), le-ltb e.0 n from) (omega (arith, le, ge))
    ]
    by (inr from) (inr to) more =
        let same : e.0 ≡ n = omega (arith, from, to) in
        let not_it : f ≡ n → ⊥ = λ q. not_here (q ∙ sym same) in
        let low : n + 1 ≤ f = omega (arith, le, not_it) in
        rw (eq-eqb e.0 n same) (more (n + 1) low (λ k from to. sym (behind k e es (λ q. omega (arith, q, same, from))) ∙ all k (omega (arith, from)) to))

-- ---- files

of_true : (b : Bool) → T b → b ≡ true
of_true true p = refl
of_true false p = absurd p

same_some : (cells : ℕ → List Cell) (f : ℕ) (o : Option FileHead) → is_some (file_at cells f o) ≡ is_some o
same_some cells f None = refl
same_some cells f (Some head) = refl

has_file : (cells : ℕ → List Cell) (files : List heads.NumberedFile) (k : ℕ) → has (maps.entries (files_by_number cells files)) k ≡ is_file_number files k
unfolding has
has_file cells files k = ap is_some (sym (maps.get-entries (files_by_number cells files) k)) ∙ ap is_some (files_are cells files k) ∙ same_some cells k (head_at files k)

pub least_free : (cells : ℕ → List Cell) (files : List heads.NumberedFile) (f : ℕ) → 256 ≤ f → ((k : ℕ) → 256 ≤ k → k < f → is_file_number files k ≡ true) → is_file_number files f ≡ false
    → least_from 256 (maps.keys (files_by_number cells files)) ≡ f
least_free cells files f low all free =
    least 256 f (maps.entries (files_by_number cells files)) (of_true _ (maps.entries_sorted (files_by_number cells files))) low
    (λ k from to. has_file cells files k ∙ all k from to) (has_file cells files f ∙ free)

-- without a pending operation a number is taken by a file
taken_is : (t : Tables) (k : ℕ) → t.operations.pending ≡ None → is_taken t k ≡ is_file_number t.files k
taken_is t k rests = ap (λ (o : Option Pending). is_file_number t.files k || is_pending k o) rests ∙ or_none (is_file_number t.files k) where
  or_none : (b : Bool) → (b || false) ≡ b
  or_none true = refl
  or_none false = refl

next_is_free : (t : Tables) (f : ℕ) → HasFreeNumber t → IsNextFile t f → is_taken t f ≡ false
next_is_free t f has next = by (is_taken t f) refl where
  by : (b : Bool) → is_taken t f ≡ b → is_taken t f ≡ false
  by false e = e
  by true e =
      let last : f ≡ 4294967295 = next.free e in
      elim (cases_lt has.number f) [
        | inl lt ↦ absurd (true≢false (sym (next.others has.number has.at_least lt) ∙ has.free))
        | inr ge ↦
            let same : has.number ≡ f = omega (arith, last, ge, has.few) in
            absurd (true≢false (sym e ∙ ap (is_taken t) (sym same) ∙ has.free))
      ]

least_next : (s : Shape) (t : Tables) (f : ℕ) (cells : ℕ → List Cell) → IsAtRest s t → IsNextFile t f → least_from 256 (maps.keys (files_by_number cells t.files)) ≡ f
least_next s t f cells rests next =
    least_free cells t.files f next.at_least (λ k from to. sym (taken_is t k rests.pending) ∙ next.others k from to)
    (sym (taken_is t f rests.pending) ∙ next_is_free t f (number_is_free s t rests.shape rests.rules) next)

pub next_number_is : NextNumberIsWorlds
unfolding group_of
next_number_is name s t f cells rests next = least_next s t f cells rests next

pub made_number_is : MadeNumberIsWorlds
unfolding group_of
made_number_is name s t u cells rests next same =
    ap (λ (files : List heads.NumberedFile). least_from 256 (maps.keys (files_by_number cells files))) same ∙ least_next s t (made_file u) cells rests next
