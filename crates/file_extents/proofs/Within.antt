-- The chunks of a file, up to the first of another file.
use Rattle.std.proofs.Common.{◌≡◌, ℕ, ◌<◌, ◌≤◌, Bool, true, false, List, [], ◌∷◌, None, refl, sym, ap, subst, ◌∙◌, arith}
use Rattle.std.specs.Prelude.{◌==◌, ◌||◌, not}
use Rattle.std.specs.List.{list_all}
use Rattle.std.specs.Ordering.{nat_cmp}
use Rattle.std.proofs.lemmas.Bool.{ne_eqb}
use Rattle.std.proofs.Math.Arith.{lt_of_le-ne}
use Rattle.asm_formats.specs.Items.{Homes}
use Rattle.asm_base.specs.Records.{Ascend}
use Rattle.catalog_tables.specs.extent_map.Extents.{Chunked, chunks_from}
use Rattle.catalog_tables.proofs.extent_map.FileOrder.{AreFrom, Rise, keeps, kept_from, le_is, not_le, rises, starts}
use Rattle.asm_base.specs.Chunks.{is_chunk_before}
use Rattle.group_pieces.specs.catalog.NamePlans.{is_within_file}
use Rattle.catalog_tables.specs.Rules.{are_within, first_wrong}

-- ---- chunks that pass

other : (f copies : ℕ) (x : Chunked) → (x.0.0 ≡ f → ⊥) → is_within_file f copies x ≡ true
other f copies x not_of = ap (λ (b : Bool). not b || list_all (are_within copies) x.1) (ne_eqb x.0.0 f not_of)

own : (f copies : ℕ) (x : Chunked) → list_all (are_within copies) x.1 ≡ true → is_within_file f copies x ≡ true
own f copies x all = by (not (x.0.0 == f)) all
  where
    by : (b : Bool) → list_all (are_within copies) x.1 ≡ true → (b || list_all (are_within copies) x.1) ≡ true
    by true all = refl
    by false all = all

passes : (f copies : ℕ) (x : Chunked) (xs : List Chunked) → is_within_file f copies x ≡ true
    → first_wrong (is_within_file f copies) (x ∷ xs) ≡ first_wrong (is_within_file f copies) xs
passes f copies x xs ok = rw ok refl

none_above : (f copies n : ℕ) (xs : List Chunked) → f < n → AreFrom n xs → first_wrong (is_within_file f copies) xs ≡ None
none_above f copies n [] less from = refl
none_above f copies n (x ∷ xs) less from =
    passes f copies x xs (other f copies x (λ same. omega (arith, less, from.0, same))) ∙ none_above f copies n xs less from.1

-- ---- the chunks that are left

-- Those that are left of the chunks from the file's first on: what they say all of them say.
pub record AreTheRest (f copies : ℕ) (all left : List Chunked) : Type 0 where
  pub same : first_wrong (is_within_file f copies) left ≡ first_wrong (is_within_file f copies) all
  pub from : AreFrom f left
  pub rise : Rise left

both : (f copies : ℕ) (x : Chunked) (xs ys : List Chunked) → first_wrong (is_within_file f copies) xs ≡ first_wrong (is_within_file f copies) ys
    → first_wrong (is_within_file f copies) (x ∷ xs) ≡ first_wrong (is_within_file f copies) (x ∷ ys)
both f copies x xs ys same = by (is_within_file f copies x) refl
  where
    by : (b : Bool) → is_within_file f copies x ≡ b → first_wrong (is_within_file f copies) (x ∷ xs) ≡ first_wrong (is_within_file f copies) (x ∷ ys)
    by true is = rw is same
    by false is = rw is refl

starts_right : (f copies : ℕ) (xs : List Chunked) → Rise xs → AreTheRest f copies xs (starts f xs)
starts_right f copies [] rise = record { same = refl; from = tt; rise = tt }
starts_right f copies (x ∷ xs) rise = by (keeps f x) refl (starts_right f copies xs rise.1)
  where
    by : (b : Bool) → keeps f x ≡ b → AreTheRest f copies xs (starts f xs) → AreTheRest f copies (x ∷ xs) (starts f (x ∷ xs))
    by true is later =
        let first : f ≤ x.0.0 = le_is f x.0.0 (nat_cmp 0 x.0.1) is in
        let kept : starts f (x ∷ xs) ≡ x ∷ starts f xs = rw is refl in
        subst (AreTheRest f copies (x ∷ xs)) (sym kept)
        (record { same = both f copies x (starts f xs) xs later.same; from = (first, later.from); rise = (kept_from f xs x.0.0 rise.0, later.rise) })
    by false is later =
        let passed : first_wrong (is_within_file f copies) (x ∷ xs) ≡ first_wrong (is_within_file f copies) xs =
        passes f copies x xs (other f copies x (not_le f x.0.0 x.0.1 is)) in
        let dropped : starts f (x ∷ xs) ≡ starts f xs = rw is refl in
        subst (AreTheRest f copies (x ∷ xs)) (sym dropped) (record { same = later.same ∙ sym passed; from = later.from; rise = later.rise })

pub at_start : (f copies : ℕ) (all left : List Chunked) → Ascend is_chunk_before all → left ≡ chunks_from all (f, 0) → AreTheRest f copies all left
at_start f copies all left up is = subst (AreTheRest f copies all) (sym is) (starts_right f copies all (rises all up))

pub one_more : (f copies : ℕ) (all left next : List Chunked) (x : Chunked) (homes : List Homes) → homes ≡ x.1 → left ≡ x ∷ next → list_all (are_within copies) homes ≡ true
    → AreTheRest f copies all left → AreTheRest f copies all next
one_more f copies all left next x homes here split ok rest =
    let s : AreTheRest f copies all (x ∷ next) = subst (AreTheRest f copies all) split rest in
    let right : list_all (are_within copies) x.1 ≡ true = ap (list_all (are_within copies)) (sym here) ∙ ok in
    record { same = sym (passes f copies x next (own f copies x right)) ∙ s.same; from = s.from.1; rise = s.rise.1 }

pub stopped : (f copies : ℕ) (all left next : List Chunked) (x : Chunked) → left ≡ x ∷ next → (x.0.0 ≡ f → ⊥) → AreTheRest f copies all left
    → first_wrong (is_within_file f copies) all ≡ None
stopped f copies all left next x split not_of rest =
    let s : AreTheRest f copies all (x ∷ next) = subst (AreTheRest f copies all) split rest in
    let above : f < x.0.0 = lt_of_le-ne s.from.0 (λ same. not_of (sym same)) in
    sym s.same ∙ none_above f copies x.0.0 (x ∷ next) above (omega arith, s.rise.0)

pub ended : (f copies : ℕ) (all left : List Chunked) → left ≡ [] → AreTheRest f copies all left → first_wrong (is_within_file f copies) all ≡ None
ended f copies all left none rest =
    let s : AreTheRest f copies all [] = subst (AreTheRest f copies all) none rest in
    sym s.same
