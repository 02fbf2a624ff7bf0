-- What was written as a field is read as it was.
use Rattle.std.proofs.Common.{◌≡◌, ⊎_elim, ℕ, ◌+◌, ◌-◌, ◌^◌, ◌<◌, ◌≤◌, Bool, true, false, not, ◌&&◌, ◌==◌, List, [], ◌∷◌, ◌++◌, length, take, drop, replicate, refl, sym, ap, subst, ◌∙◌, arith, append_assoc, add-one, w16, w32, w64}
use Rattle.std.specs.List.{list_all, list_any, flat_map}
use Rattle.std.specs.Prelude.{nat_le, nat_lt}
use Rattle.std.specs.Str.{bytes_eq}
use Rattle.std.proofs.lemmas.Bool.{and_parts, or_cases, eqb-true, leb-true}
use Rattle.std.proofs.lemmas.List.{append-nil, take_at, drop_at, length-append, length-replicate}
use Rattle.std.proofs.lemmas.Nat.{from_be_bytes-to_be_bytes_2, from_be_bytes-to_be_bytes_4, from_be_bytes-to_be_bytes_8}
use Rattle.asm_group.specs.Names.{Bytes, is_name, is_letter, is_name_byte, is_part, is_part_byte}
use Rattle.asm_formats.specs.Bytes.{number_bytes, name_field, number_at, name_in_bytes, values_at}
use Rattle.asm_formats.specs.Codes.{flag}

-- ---- numbers, and what stands behind them

pub number16 : (n : ℕ) (rest : Bytes) → n < 2 ^ 16 → number_at w16 (number_bytes w16 n ++ rest) ≡ (n, rest)
unfolding number_bytes number_at
number16 n rest lt = ap (λ (k : ℕ). (k, rest)) (from_be_bytes-to_be_bytes_2 n lt)

pub number32 : (n : ℕ) (rest : Bytes) → n < 2 ^ 32 → number_at w32 (number_bytes w32 n ++ rest) ≡ (n, rest)
unfolding number_bytes number_at
number32 n rest lt = ap (λ (k : ℕ). (k, rest)) (from_be_bytes-to_be_bytes_4 n lt)

pub number64 : (n : ℕ) (rest : Bytes) → n < 2 ^ 64 → number_at w64 (number_bytes w64 n ++ rest) ≡ (n, rest)
unfolding number_bytes number_at
number64 n rest lt = ap (λ (k : ℕ). (k, rest)) (from_be_bytes-to_be_bytes_8 n lt)

-- the last field

pub end16 : (n : ℕ) → n < 2 ^ 16 → number_at w16 (number_bytes w16 n) ≡ (n, [])
unfolding number_bytes number_at
end16 n lt = ap (λ (k : ℕ). (k, [])) (from_be_bytes-to_be_bytes_2 n lt)

pub end32 : (n : ℕ) → n < 2 ^ 32 → number_at w32 (number_bytes w32 n) ≡ (n, [])
unfolding number_bytes number_at
end32 n lt = ap (λ (k : ℕ). (k, [])) (from_be_bytes-to_be_bytes_4 n lt)

pub end64 : (n : ℕ) → n < 2 ^ 64 → number_at w64 (number_bytes w64 n) ≡ (n, [])
unfolding number_bytes number_at
end64 n lt = ap (λ (k : ℕ). (k, [])) (from_be_bytes-to_be_bytes_8 n lt)

-- ---- names

pub name_again : (width : ℕ) (name rest : Bytes) → length name ≤ width → name_in_bytes width (name_field width name ++ rest) ≡ (name, rest)
unfolding name_field name_in_bytes
name_again width name rest le =
    let zeros = replicate (width - length name) 0 in
    let front : take (length name) ((name ++ zeros) ++ rest) ≡ name = ap (λ (l : Bytes). take (length name) l) (append_assoc name zeros rest) ∙ take_at name (zeros ++ rest) (length name) refl in
    let len : length (name ++ zeros) ≡ width = length-append name zeros ∙ omega (arith, length-replicate {A = ℕ} (width - length name) 0) in
    let back : drop (width + 1) (length name ∷ ((name ++ zeros) ++ rest)) ≡ rest = ap (λ (k : ℕ). drop k (length name ∷ ((name ++ zeros) ++ rest))) (add-one width) ∙ drop_at (name ++ zeros) rest width len in
    λ i. (front i, back i)

pub name_end : (width : ℕ) (name : Bytes) → length name ≤ width → name_in_bytes width (name_field width name) ≡ (name, [])
name_end width name le = ap (name_in_bytes width) (sym (append-nil (name_field width name))) ∙ name_again width name [] le

pub name_len : (name : Bytes) → is_name name ≡ true → length name ≤ 30
unfolding is_name
name_len [] h = absurd cc
name_len (c ∷ cs) h =
    let a = and_parts (is_letter c && list_all is_name_byte cs) (nat_le (length cs) 29) h in
    omega (arith, leb-true (length cs) 29 a.1)

pub part_len : (width : ℕ) (name : Bytes) → is_part width name ≡ true → length name ≤ width
unfolding is_part
part_len width name h =
    let a = and_parts (list_all is_part_byte name && nat_lt 0 (length name) && nat_le (length name) width) (not (bytes_eq name (46 ∷ []))) h in
    let b = and_parts (list_all is_part_byte name && nat_lt 0 (length name)) (nat_le (length name) width) a.0 in
    leb-true (length name) width b.1

-- ---- words, lists and rows of fields

pub flag_again : (b : Bool) → (flag b == 1) ≡ b
flag_again true = refl
flag_again false = refl

pub repeated_again : {A : Type 0} (read : Bytes → A × Bytes) (fields : A → Bytes) (ok : A → Bool) → ((x : A) (rest : Bytes) → ok x ≡ true → read (fields x ++ rest) ≡ (x, rest))
    → (xs : List A) (rest : Bytes) → list_all ok xs ≡ true → values_at read (length xs) (flat_map fields xs ++ rest) ≡ (xs, rest)
repeated_again read fields ok each [] rest all = refl
repeated_again {A} read fields ok each (x ∷ xs) rest all =
    let p = and_parts (ok x) (list_all ok xs) all in
    let first : read ((fields x ++ flat_map fields xs) ++ rest) ≡ (x, flat_map fields xs ++ rest) =
    ap read (append_assoc (fields x) (flat_map fields xs) rest) ∙ each x (flat_map fields xs ++ rest) p.0 in
    ap (λ (y : A × Bytes). (y.0 ∷ (values_at read (length xs) y.1).0, (values_at read (length xs) y.1).1)) first
    ∙ ap (λ (y : List A × Bytes). (x ∷ y.0, y.1)) (repeated_again read fields ok each xs rest p.1)

pub join : (a x y zeros : Bytes) → x ++ zeros ≡ y → (a ++ x) ++ zeros ≡ a ++ y
join a x y zeros e = append_assoc a x zeros ∙ ap (λ (l : Bytes). a ++ l) e

pub after : (b : ℕ) (x y zeros : Bytes) → x ++ zeros ≡ y → (b ∷ x) ++ zeros ≡ b ∷ y
after b x y zeros e = ap (λ (l : Bytes). b ∷ l) e

-- what holds of each of a list holds of one of them
pub passes_if_all : (good : ℕ → Bool) (x : ℕ) (xs : List ℕ) → list_any (λ n. n == x) xs ≡ true → list_all good xs ≡ true → good x ≡ true
passes_if_all good x [] any all = absurd cc
passes_if_all good x (y ∷ xs) any all =
    let parts = and_parts (good y) (list_all good xs) all in
    ⊎_elim (λ here. subst (λ (n : ℕ). good n ≡ true) (eqb-true y x here) parts.0) (λ there. passes_if_all good x xs there parts.1) (or_cases (y == x) (list_any (λ n. n == x) xs) any)
