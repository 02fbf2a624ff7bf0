-- A path is read part by part.
use Rattle.std.proofs.Common.{◌≡◌, ℕ, zero, suc, Bool, true, false, cond, eqb, List, [], ◌∷◌, ◌++◌, ◌-◌, length, take, drop, arith, Option, Some, None, refl, sym, ap, ◌∙◌, append_assoc, inl, inr, ◌⊎◌}
use Rattle.std.specs.Prelude.{◌&&◌}
use Rattle.std.specs.List.{list_all}
use Rattle.std.proofs.lemmas.List.Folds.{list_all-append}
use Rattle.std.proofs.lemmas.List.{append-nil, length-drop, take_all}
use Rattle.asm_group.specs.Names.{is_name, is_part, all_parts}
use Rattle.asm_base.specs.Names.{name_of}
use Rattle.asm_base.specs.Paths.{onto_first, parts_between_slashes, path_with_group, path_of, slash_at, parts_behind_slash}
use Rattle.asm_base.proofs.Exact.{test_some}
use Rattle.asm_base.proofs.NameLaws.{name_is_part}

either : (b : Bool) → (b ≡ true) ⊎ (b ≡ false)
either true = inl refl
either false = inr refl

-- the first part, and the others
pub first_part : (bytes : List ℕ) → parts_between_slashes bytes ≡ take (slash_at bytes) bytes ∷ parts_behind_slash (drop (slash_at bytes) bytes)
unfolding parts_behind_slash
first_part [] = refl
first_part (b ∷ bytes) = elim (either (eqb b 47)) [
  | inl slash ↦ rw slash refl
  | inr other ↦ rw other (ap (onto_first b) (first_part bytes))
]

-- what is no part of a path is no name of a group
pub no_group : (bytes : List ℕ) → None ≡ name_of 30 bytes → None ≡ cond (is_name bytes) (Some bytes) None
no_group bytes e = elim (either (is_name bytes)) [
  | inl name ↦ absurd (let f = rw (name_is_part bytes name) at e in cc)
  | inr other ↦ rw other refl
]

pub behind_slash : (slash : ℕ) (bytes : List ℕ) → parts_behind_slash (slash ∷ bytes) ≡ take (slash_at bytes) bytes ∷ parts_behind_slash (drop (slash_at bytes) bytes)
unfolding parts_behind_slash
behind_slash slash bytes = first_part bytes

pub none_behind : (bytes : List ℕ) → length bytes ≡ 0 → parts_behind_slash bytes ≡ []
unfolding parts_behind_slash
none_behind [] e = refl
none_behind (b ∷ bytes) e = absurd (omega arith)

-- what stands behind the first n bytes, as a part of them all
whole_end : (n : ℕ) (xs : List ℕ) → take (length xs - n) (drop n xs) ≡ drop n xs
whole_end n xs = take_all (length xs - n) (drop n xs) (omega (arith, length-drop n xs))

stepped : (parts : List (List ℕ)) (slash n : ℕ) (left rest part : List ℕ) (whole : List (List ℕ)) → parts ++ parts_behind_slash left ≡ whole → left ≡ slash ∷ rest → n ≡ slash_at rest → part ≡ take n rest
    → (parts ++ part ∷ []) ++ parts_behind_slash (drop n rest) ≡ whole
stepped parts slash n left rest part whole e is at one =
    append_assoc parts (part ∷ []) (parts_behind_slash (drop n rest)) ∙ (ap (λ (p : List ℕ). parts ++ p ∷ parts_behind_slash (drop n rest)) one ∙ (rw at (ap (λ (ps : List (List ℕ)). parts ++ ps) (sym (behind_slash slash rest)) ∙ (ap (λ (b : List ℕ). parts ++ parts_behind_slash b) (sym is) ∙ e))))

-- the parts that were read, one more, and those behind it
pub stepped_to : (parts new : List (List ℕ)) (slash n : ℕ) (left rest part : List ℕ) (whole : List (List ℕ)) → new ≡ parts ++ part ∷ [] → parts ++ parts_behind_slash left ≡ whole → left ≡ slash ∷ rest → n ≡ slash_at rest → part ≡ take n rest
    → new ++ parts_behind_slash (take (length rest - n) (drop n rest)) ≡ whole
stepped_to parts new slash n left rest part whole put e is at one =
    ap (λ (ps : List (List ℕ)). ps ++ parts_behind_slash (take (length rest - n) (drop n rest))) put
    ∙ (ap (λ (bytes : List ℕ). (parts ++ part ∷ []) ++ parts_behind_slash bytes) (whole_end n rest) ∙ stepped parts slash n left rest part whole e is at one)

and_false : (b : Bool) → (b && false) ≡ false
and_false true = refl
and_false false = refl

-- one that isn't a part
pub refused : (parts : List (List ℕ)) (slash n : ℕ) (left rest : List ℕ) (whole : List (List ℕ)) → parts ++ parts_behind_slash left ≡ whole → left ≡ slash ∷ rest → n ≡ slash_at rest → None ≡ name_of 80 (take n rest)
    → None ≡ all_parts whole
refused parts slash n left rest whole e is at one = elim (either (is_part 80 (take n rest))) [
  | inl part ↦ absurd (let f = rw part at one in cc)
  | inr other ↦
      let split : parts ++ take n rest ∷ parts_behind_slash (drop n rest) ≡ whole = rw at (ap (λ (ps : List (List ℕ)). parts ++ ps) (sym (behind_slash slash rest)) ∙ (ap (λ (b : List ℕ). parts ++ parts_behind_slash b) (sym is) ∙ e)) in
      let all : list_all (is_part 80) (parts ++ take n rest ∷ parts_behind_slash (drop n rest)) ≡ false = list_all-append (is_part 80) parts (take n rest ∷ parts_behind_slash (drop n rest)) ∙ rw other (and_false (list_all (is_part 80) parts)) in
      rw (← split, all) refl
]

pub one_more : (parts : List (List ℕ)) (part : List ℕ) → list_all (is_part 80) parts ≡ true → is_part 80 part ≡ true → list_all (is_part 80) (parts ++ part ∷ []) ≡ true
one_more parts part e f = list_all-append (is_part 80) parts (part ∷ []) ∙ rw (e, f) refl

part_read : (parts : List (List ℕ)) (read bytes : List ℕ) → list_all (is_part 80) parts ≡ true → Some read ≡ name_of 80 bytes → (read ≡ bytes) × (list_all (is_part 80) (parts ++ read ∷ []) ≡ true)
part_read parts read bytes e f =
    let t = test_some (is_part 80 bytes) bytes read (sym f) in
    (sym t.1, one_more parts read e (ap (is_part 80) (sym t.1) ∙ t.0))

-- a part more that was read
pub read_more : (parts : List (List ℕ)) (read bytes : List ℕ) → list_all (is_part 80) parts ≡ true → Some read ≡ name_of 80 bytes → list_all (is_part 80) (parts ++ read ∷ []) ≡ true
read_more parts read bytes e f = (part_read parts read bytes e f).1

pub read_is : (read bytes : List ℕ) → Some read ≡ name_of 80 bytes → read ≡ bytes
read_is read bytes f = (part_read [] read bytes refl f).0

-- all parts were read
pub all_read : (parts whole : List (List ℕ)) (left : List ℕ) → list_all (is_part 80) parts ≡ true → parts ++ parts_behind_slash left ≡ whole → length left ≡ 0 → Some parts ≡ all_parts whole
all_read parts whole left e same end =
    let is : parts ≡ whole = sym (append-nil parts) ∙ (ap (λ (ps : List (List ℕ)). parts ++ ps) (sym (none_behind left end)) ∙ same) in
    rw (← is, e) refl

-- ---- the whole path

pub path_is : (bytes group : List ℕ) (parts : List (List ℕ)) (n : ℕ) → n ≡ slash_at bytes → Some group ≡ cond (is_name (take n bytes)) (Some (take n bytes)) None → Some parts ≡ all_parts (parts_behind_slash (take (length bytes - n) (drop n bytes)))
    → Some (record { group = group; parts = parts }) ≡ path_with_group (parts_between_slashes bytes)
path_is bytes group parts n at first others =
    let g = test_some (is_name (take n bytes)) (take n bytes) group (sym first) in
    let behind_it : Some parts ≡ all_parts (parts_behind_slash (drop n bytes)) = others ∙ ap (λ (b : List ℕ). all_parts (parts_behind_slash b)) (whole_end n bytes) in
    let p = test_some (list_all (is_part 80) (parts_behind_slash (drop n bytes))) (parts_behind_slash (drop n bytes)) parts (sym behind_it) in
    let split : parts_between_slashes bytes ≡ take n bytes ∷ parts_behind_slash (drop n bytes) = rw at (first_part bytes) in
    rw (split, g.0, p.0) (ap (λ (x : List ℕ). Some (record { group = x; parts = parts })) (sym g.1) ∙ ap (λ (x : List (List ℕ)). Some (record { group = take n bytes; parts = x })) (sym p.1))

pub no_group_name : (bytes : List ℕ) (n : ℕ) → n ≡ slash_at bytes → None ≡ cond (is_name (take n bytes)) (Some (take n bytes)) None → None ≡ path_with_group (parts_between_slashes bytes)
no_group_name bytes n at first = elim (either (is_name (take n bytes))) [
  | inl name ↦ absurd (let f = rw name at first in cc)
  | inr other ↦
      let split : parts_between_slashes bytes ≡ take n bytes ∷ parts_behind_slash (drop n bytes) = rw at (first_part bytes) in
      rw (split, other) refl
]

pub no_parts : (bytes : List ℕ) (n : ℕ) → n ≡ slash_at bytes → None ≡ all_parts (parts_behind_slash (take (length bytes - n) (drop n bytes))) → None ≡ path_with_group (parts_between_slashes bytes)
no_parts bytes n at others = elim (either (list_all (is_part 80) (parts_behind_slash (drop n bytes)))) [
  | inl all ↦
      let behind_it : None ≡ all_parts (parts_behind_slash (drop n bytes)) = others ∙ ap (λ (b : List ℕ). all_parts (parts_behind_slash b)) (whole_end n bytes) in
      absurd (let f = rw all at behind_it in cc)
  | inr not_all ↦
      let split : parts_between_slashes bytes ≡ take n bytes ∷ parts_behind_slash (drop n bytes) = rw at (first_part bytes) in
      rw (split, not_all, and_false (is_name (take n bytes))) refl
]
