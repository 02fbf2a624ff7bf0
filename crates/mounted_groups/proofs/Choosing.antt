-- Ids, names and refusals of a new group.
use Rattle.std.proofs.Common.{◌≡◌, ⊎_elim, ℕ, ◌+◌, ◌<◌, ◌≤◌, Bool, true, zero, suc, List, [], ◌∷◌, ◌++◌, length, take, All, get_or, Some, None, refl, sym, ap, subst, ◌∙◌, arith}
use Rattle.std.specs.Prelude.{codes, nat_le, ◌&&◌}
use Rattle.std.specs.List.{list_all}
use Rattle.std.proofs.lemmas.Bool.{and_parts, cond-true, le-leb}
use Rattle.std.proofs.lemmas.List.{take_more, length-append, length-take}
use Rattle.std.proofs.lemmas.List.Elements.{All-append}
use Rattle.std.proofs.lemmas.List.Folds.{list_all-append}
use Rattle.asm_group.specs.Names.{Bytes, is_letter, is_name_byte, is_name, is_part}
use Rattle.asm_group.specs.Refusal as r
use Rattle.refusal_lines.specs.declared.refusal.Refusal.{Refusal}
use Rattle.refusal_lines.specs.Refusals.{meaning_of}
use Rattle.asm_base.specs.Names.{name_of}
use Rattle.asm_base.proofs.NameLaws.{name_is_part}
use Rattle.mounted_groups.specs.declared.find.Probe.{Probe}
use Rattle.mounted_groups.specs.Probes.{IsUnusable, SaysRefusal}
use Rattle.asm_formats.specs.Regions.{reserved_units}
use Rattle.disk_sizes.specs.Sizes.{least_units}
use Rattle.mounted_groups.specs.Creating.{units_needed, usual_shape}

-- what the disk of a new group must have is what a disk of its shape must have
needed_is_least : least_units usual_shape ≡ units_needed
unfolding reserved_units
needed_is_least = refl

weaker : (n m : ℕ) → n ≤ m → (xs : List ℕ) → All (λ (o : ℕ). o < n) xs → All (λ (o : ℕ). o < m) xs
weaker n m le xs all = λ k d lt. let old : get_or xs k d < n = all k d lt in omega (arith, old, le)

-- one id more is below
pub all_more : (ids : List ℕ) (i next more : ℕ) → i < length ids → All (λ (o : ℕ). o < next) (take i ids) → next ≤ more → get_or ids i 0 < more → All (λ (o : ℕ). o < more) (take (i + 1) ids)
all_more ids i next more below all le this =
    subst (λ (l : List ℕ). All (λ (o : ℕ). o < more) l) (sym (take_more ids i 0 below))
    (All-append (λ (o : ℕ). o < more) (take i ids) (get_or ids i 0 ∷ []) (weaker next more le (take i ids) all) (one (get_or ids i 0) this))
  where
    one : (x : ℕ) → x < more → (k d : ℕ) → k < 1 → get_or (x ∷ []) k d < more
    one x lt zero d short = lt
    one x lt (suc k) d short = absurd (omega (arith, short))

all_taken : (p : ℕ → Bool) (n : ℕ) (xs : List ℕ) → list_all p xs ≡ true → list_all p (take n xs) ≡ true
all_taken p zero xs all = refl
all_taken p (suc n) [] all = refl
all_taken p (suc n) (x ∷ xs) all = let both = and_parts (p x) (list_all p xs) all in λ i. both.0 i && all_taken p n xs both.1 i

-- the first bytes of a name and a number in four digits are a name
pub numbered_name : (name : Bytes) → is_name name ≡ true → is_name (take 25 name ++ codes "_0000") ≡ true
unfolding is_name
numbered_name [] is = absurd cc
numbered_name (c ∷ cs) is =
    let front = and_parts (is_letter c && list_all is_name_byte cs) (nat_le (length cs) 29) is in
    let both = and_parts (is_letter c) (list_all is_name_byte cs) front.0 in
    let rest : List ℕ = take 24 cs ++ codes "_0000" in
    let all : list_all is_name_byte rest ≡ true = list_all-append is_name_byte (take 24 cs) (codes "_0000") ∙ ap (λ (b : Bool). b && true) (all_taken is_name_byte 24 cs both.1) in
    let short : nat_le (length rest) 29 ≡ true = le-leb (length rest) 29 (omega (arith, length-append (take 24 cs) (codes "_0000"), length-take 24 cs)) in
    λ i. both.0 i && all i && short i

-- it says why, or that there was no memory
pub unusable : (path disk : Bytes) (p : Probe) (wanted : r.Refusal) (given : Refusal) → SaysRefusal wanted given → IsUnusable path disk p wanted → IsUnusable path disk p (meaning_of (λ any. []) given)
unusable path disk p wanted given says is = ⊎_elim
    (λ e. subst (IsUnusable path disk p) (sym e) is)
    (λ none. subst (IsUnusable path disk p) (sym none) tt) says

-- all of them were taken
pub all_of_taken : (ids : List ℕ) (i next : ℕ) → length ids ≤ i → All (λ (o : ℕ). o < next) (take i ids) → All (λ (o : ℕ). o < next) ids
all_of_taken ids i next le all = subst (λ (l : List ℕ). All (λ (o : ℕ). o < next) l) (take_all ids i le) all
  where
    take_all : (xs : List ℕ) (n : ℕ) → length xs ≤ n → take n xs ≡ xs
    take_all [] zero short = refl
    take_all [] (suc n) short = refl
    take_all (x ∷ xs) zero short = absurd (omega (arith, short))
    take_all (x ∷ xs) (suc n) short = ap (λ (l : List ℕ). x ∷ l) (take_all xs n (omega (arith, short)))

-- what was put behind a name is that name
pub first_name : (name bytes : List ℕ) → bytes ≡ take 25 name ++ codes "_0000" → is_name name ≡ true → is_name bytes ≡ true
first_name name bytes same is = subst (λ (l : List ℕ). is_name l ≡ true) (sym same) (numbered_name name is)

-- such bytes are read as the name that they are
pub read_name : (name bytes : List ℕ) → bytes ≡ take 25 name ++ codes "_0000" → is_name name ≡ true → name_of 30 bytes ≡ Some bytes
read_name name bytes same is = cond-true (is_part 30 bytes) (Some bytes) None (name_is_part bytes (first_name name bytes same is))
