-- Entries by number, of which one is put or goes: what all of them pass, and what stands at each number then.
use Rattle.std.proofs.Common.{◌≡◌, ℕ, Ordering, Bool, true, false, List, [], ◌∷◌, Some, None, refl, sym, subst, inl, inr}
use Rattle.std.specs.List.{AllByRecursion}
use Rattle.std.specs.Ordering.{nat_cmp}
use Rattle.std.specs.declared.cmp.Ordering.TheVariants.{Less, Equal, Greater}
use Rattle.std.specs.BTreeMap.{is_at, insert_entry}
use Rattle.std.specs.Map.{remove_entry}
use Rattle.std.specs.FinMap.{nat_cmp-IsAntisymmetric}
use Rattle.std.proofs.lemmas.Option.{none-some}
use Rattle.asm_formats.specs.Among.{IsAmong}
use Rattle.asm_base.proofs.Exact.{some_is}
use Rattle.plan_records.specs.catalog_tables.Rules.{first_wrong}
use Rattle.plan_records.proofs.catalog_tables.NumberedLists.{at, either, number_is}

pub number_other : (m n : ℕ) → (m ≡ n → ⊥) → is_at (nat_cmp m) n ≡ false
number_other m n apart = elim (either (is_at (nat_cmp m) n)) [ inl hit ↦ absurd (apart (number_is m n hit)) | inr miss ↦ miss ]

-- ---- a test that all entries pass

module _ {K X : Type 0} where
  pub first_passes : (test : K × X → Bool) (e : K × X) (es : List (K × X)) → first_wrong test (e ∷ es) ≡ None → (test e ≡ true) × (first_wrong test es ≡ None)
  first_passes test e es none = by (test e) refl where
    by : (b : Bool) → test e ≡ b → (test e ≡ true) × (first_wrong test es ≡ None)
    by true q = (q, rw q at none)
    by false q = absurd (none-some e.0 (sym (rw q at none)))

  pub passes_more : (test : K × X → Bool) (e : K × X) (es : List (K × X)) → test e ≡ true → first_wrong test es ≡ None → first_wrong test (e ∷ es) ≡ None
  passes_more test e es ok none = rw ok none

  -- where each entry that passes one test passes another
  pub passes_where : (a b : K × X → Bool) (es : List (K × X)) → ((x : K × X) → IsAmong es x → a x ≡ true → b x ≡ true) → first_wrong a es ≡ None → first_wrong b es ≡ None
  passes_where a b [] keeps none = refl
  passes_where a b (e ∷ es) keeps none =
      let p = first_passes a e es none in
      passes_more b e es (keeps e (inl refl) p.0) (passes_where a b es (λ x m. keeps x (inr m)) p.1)

  pub passes_each : (test : K × X → Bool) (es : List (K × X)) → first_wrong test es ≡ None → (x : K × X) → IsAmong es x → test x ≡ true
  passes_each test [] none x m = absurd m
  passes_each test (e ∷ es) none x m =
      let p = first_passes test e es none in
      elim m [ inl same ↦ subst (λ (y : K × X). test y ≡ true) (sym same) p.0 | inr more ↦ passes_each test es p.1 x more ]

-- ---- by number

module _ {X : Type 0} where
  abbrev pub with_entry : List (ℕ × X) → ℕ → X → List (ℕ × X)
  with_entry es k v = insert_entry nat_cmp es k v

  abbrev pub without_entry : List (ℕ × X) → ℕ → List (ℕ × X)
  without_entry es k = remove_entry (is_at (nat_cmp k)) es

  pub put_passes : (test : ℕ × X → Bool) (es : List (ℕ × X)) (k : ℕ) (v : X) → first_wrong test es ≡ None → test (k, v) ≡ true → first_wrong test (with_entry es k v) ≡ None
  put_passes test [] k v none ok = passes_more test (k, v) [] ok refl
  put_passes test (e ∷ es) k v none ok = by (nat_cmp k e.0) refl (first_passes test e es none) (put_passes test es k v) where
    by : (o : Ordering) → nat_cmp k e.0 ≡ o → (test e ≡ true) × (first_wrong test es ≡ None) → (first_wrong test es ≡ None → test (k, v) ≡ true → first_wrong test (with_entry es k v) ≡ None) → first_wrong test (with_entry (e ∷ es) k v) ≡ None
    by Less q p more = rw q (passes_more test (k, v) (e ∷ es) ok none)
    by Equal q p more = rw q (passes_more test (e.0, v) es (subst (λ (n : ℕ). test (n, v) ≡ true) (nat_cmp-IsAntisymmetric k e.0 q) ok) p.1)
    by Greater q p more = rw q (passes_more test e (with_entry es k v) p.0 (more p.1 ok))

  pub rest_passes : (test : ℕ × X → Bool) (gone : ℕ → Bool) (es : List (ℕ × X)) → first_wrong test es ≡ None → first_wrong test (remove_entry gone es) ≡ None
  rest_passes test gone [] none = refl
  rest_passes test gone (e ∷ es) none = by (gone e.0) refl (first_passes test e es none) (rest_passes test gone es) where
    by : (b : Bool) → gone e.0 ≡ b → (test e ≡ true) × (first_wrong test es ≡ None) → (first_wrong test es ≡ None → first_wrong test (remove_entry gone es) ≡ None) → first_wrong test (remove_entry gone (e ∷ es)) ≡ None
    by true q p more = rw q p.1
    by false q p more = rw q (passes_more test e (remove_entry gone es) p.0 (more p.1))

  pub found_passes : (test : ℕ × X → Bool) (es : List (ℕ × X)) (k : ℕ) (v : X) → first_wrong test es ≡ None → at es k ≡ Some v → test (k, v) ≡ true
  found_passes test [] k v none found = absurd (none-some v found)
  found_passes test (e ∷ es) k v none found = by (is_at (nat_cmp k) e.0) refl (first_passes test e es none) (found_passes test es k v) where
    by : (b : Bool) → is_at (nat_cmp k) e.0 ≡ b → (test e ≡ true) × (first_wrong test es ≡ None) → (first_wrong test es ≡ None → at es k ≡ Some v → test (k, v) ≡ true) → test (k, v) ≡ true
    by true q p more =
        let same : e.1 ≡ v = some_is e.1 v (rw q at found) in
        subst (λ (x : ℕ × X). test x ≡ true) (λ i. (sym (number_is k e.0 q) i, same i)) p.0
    by false q p more = more p.1 (rw q at found)

  -- ---- what holds of all entries

  pub put_all : (P : ℕ × X → Type 0) (es : List (ℕ × X)) (k : ℕ) (v : X) → AllByRecursion P es → P (k, v) → AllByRecursion P (with_entry es k v)
  put_all P [] k v all ok = (ok, tt)
  put_all P (e ∷ es) k v all ok = by (nat_cmp k e.0) refl (put_all P es k v all.1 ok) where
    by : (o : Ordering) → nat_cmp k e.0 ≡ o → AllByRecursion P (with_entry es k v) → AllByRecursion P (with_entry (e ∷ es) k v)
    by Less q more = rw q (ok, all)
    by Equal q more = rw q (subst (λ (n : ℕ). P (n, v)) (nat_cmp-IsAntisymmetric k e.0 q) ok, all.1)
    by Greater q more = rw q (all.0, more)

  pub rest_all : (P : ℕ × X → Type 0) (gone : ℕ → Bool) (es : List (ℕ × X)) → AllByRecursion P es → AllByRecursion P (remove_entry gone es)
  rest_all P gone [] all = tt
  rest_all P gone (e ∷ es) all = by (gone e.0) refl (rest_all P gone es all.1) where
    by : (b : Bool) → gone e.0 ≡ b → AllByRecursion P (remove_entry gone es) → AllByRecursion P (remove_entry gone (e ∷ es))
    by true q more = rw q all.1
    by false q more = rw q (all.0, more)
