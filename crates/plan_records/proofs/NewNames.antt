-- The name of a new file, and the bytes of its system name.
use Rattle.std.proofs.Common.{◌≡◌, ◌<◌, ◌≤◌, ◌+◌, ◌^◌, ℕ, Bool, true, false, cond, leb, ltb, [], ◌∷◌, ◌++◌, length, map, Option, Some, None, refl, sym, ap, subst, ◌∙◌, arith, inl, inr, length-append, lit≤}
use Rattle.std.specs.Prelude.{◌&&◌, ◌||◌, not, codes, IsTrue, ◌↔◌}
use Rattle.std.specs.Bool.{one_answer}
use Rattle.std.specs.Char.{to_ascii_lowercase}
use Rattle.std.specs.Fmt.{decimal}
use Rattle.std.specs.List.{list_all}
use Rattle.std.specs.Str.{bytes_eq}
use Rattle.std.proofs.lemmas.Bool.{and_from, and_parts, le-leb, leb-true, lt-leb, lt-ltb, ltb-true, cases_lt}
use Rattle.std.proofs.lemmas.Fmt.{length-decimal-le}
use Rattle.std.proofs.lemmas.List.Folds.{list_all-append}
use Rattle.std.proofs.lemmas.Slice.Eq.{bytes_eq-Decides}
use Rattle.asm_group.specs.Names.{Bytes, Path, folded, folded_byte, is_part, is_letter, is_part_byte, is_same_name}
use Rattle.attribute_values.specs.asm_grammar.Bytes as grammar
use Rattle.attribute_values.proofs.asm_grammar.Written.{decimal_digits}
use Rattle.attribute_values.specs.asm_world.Files.{NewName, file_name, new_name, new_path}
use Rattle.asm_base.proofs.NameLaws.{part_is, part_of}
use Rattle.alias_edits.specs.Edits.{are_parts}
use Rattle.plan_records.specs.NewNames.{HasParts, name_at}
use Rattle.catalog_units.proofs.catalog_tables.NumberedLists.{either}

-- ---- parts

-- a name is a part of so many bytes where it has no more
pub part_is_short : (longest : ℕ) (name : Bytes) → is_part 255 name ≡ true → leb (length name) longest ≡ is_part longest name
unfolding is_part
part_is_short longest name e =
    let p = part_of 255 name e in
    rw (p.made, p.some, p.no_point) (sym (last_true (leb (length name) longest))) where
      last_true : (b : Bool) → (b && true) ≡ b
      last_true true = refl
      last_true false = refl

longer : (short long : ℕ) (name : Bytes) → short ≤ long → is_part short name ≡ true → is_part long name ≡ true
longer short long name le e =
    let p = part_of short name e in
    part_is long name (record { made = p.made; some = p.some; few = (let few = p.few in omega arith); no_point = p.no_point })

as_long : (longest : ℕ) (name : Bytes) → is_part longest name ≡ true → leb (length name) longest ≡ true
as_long longest name e = le-leb (length name) longest (part_of longest name e).few

too_long : (longest : ℕ) (name : Bytes) → is_part 255 name ≡ true → is_part longest name ≡ false → leb (length name) longest ≡ false
too_long longest name part e = part_is_short longest name part ∙ e

-- ---- the name at a path

abbrev three : Bytes → Bytes → Bytes → Path
three db kind tag = db ∷ kind ∷ tag ∷ []

abbrev made : Bytes → Bytes → Bytes → NewName
made db kind tag = record { db = db; type_name = kind; tag = tag }

pub name_is : (db kind tag : Bytes) → is_part 80 db ≡ true → is_part 30 kind ≡ true → is_part 48 tag ≡ true → is_same_name kind (codes "ASMVOL") ≡ false → name_at (three db kind tag) ≡ Some (made db kind tag)
name_is db kind tag d k t other =
    rw (d, longer 30 80 kind (lit≤ tt) k, longer 48 80 tag (lit≤ tt) t, as_long 30 kind k, as_long 48 tag t, other) refl

if_none : (b : Bool) → ◌≡◌ {A = Option NewName} (cond b None None) None
if_none true = refl
if_none false = refl

pub long_db : (db kind tag : Bytes) → is_part 80 db ≡ false → name_at (three db kind tag) ≡ None
long_db db kind tag e = rw e refl

-- a name whose type or tag may not be
not_new : (db kind tag : Bytes) → new_name (three db kind tag) ≡ None → name_at (three db kind tag) ≡ None
not_new db kind tag e = rw e (if_none (are_parts (three db kind tag)))

pub long_kind : (db kind tag : Bytes) → is_part 255 kind ≡ true → is_part 30 kind ≡ false → name_at (three db kind tag) ≡ None
long_kind db kind tag part e = not_new db kind tag (rw (too_long 30 kind part e) refl)

pub long_tag : (db kind tag : Bytes) → is_part 255 tag ≡ true → is_part 48 tag ≡ false → name_at (three db kind tag) ≡ None
long_tag db kind tag part e = not_new db kind tag (rw (too_long 48 tag part e) (by (leb (length kind) 30))) where
  by : (b : Bool) → cond (b && false && not (is_same_name kind (codes "ASMVOL"))) (Some (made db kind tag)) None ≡ None
  by true = refl
  by false = refl

pub of_volumes : (db kind tag : Bytes) → is_same_name kind (codes "ASMVOL") ≡ true → name_at (three db kind tag) ≡ None
of_volumes db kind tag e = not_new db kind tag (rw e (by (leb (length kind) 30) (leb (length tag) 48))) where
  by : (a b : Bool) → cond (a && b && false) (Some (made db kind tag)) None ≡ None
  by true true = refl
  by true false = refl
  by false b = refl

-- a path of other than three parts
pub other_path : (path : Path) → (length path ≡ 3 → ⊥) → name_at path ≡ None
other_path [] e = refl
other_path (a ∷ []) e = if_none (are_parts (a ∷ []))
other_path (a ∷ b ∷ []) e = if_none (are_parts (a ∷ b ∷ []))
other_path (a ∷ b ∷ c ∷ []) e = absurd (e refl)
other_path (a ∷ b ∷ c ∷ d ∷ path) e = if_none (are_parts (a ∷ b ∷ c ∷ d ∷ path))

if_some : {A : Type 0} (b : Bool) (o : Option A) (x : A) → cond b o None ≡ Some x → (b ≡ true) × (o ≡ Some x)
if_some true o x e = (refl, e)
if_some false o x e = absurd cc

-- the parts of a new name are as long as they may be
pub name_parts : (path : Path) (name : NewName) → name_at path ≡ Some name → HasParts name
name_parts [] name e = absurd cc
name_parts (a ∷ []) name e = absurd (let p = if_some (are_parts (a ∷ [])) None name e in cc)
name_parts (a ∷ b ∷ []) name e = absurd (let p = if_some (are_parts (a ∷ b ∷ [])) None name e in cc)
name_parts (db ∷ kind ∷ tag ∷ []) name e =
    let p = if_some (are_parts (three db kind tag)) (new_name (three db kind tag)) name e in
    let q = if_some (leb (length kind) 30 && leb (length tag) 48 && not (is_same_name kind (codes "ASMVOL"))) (Some (made db kind tag)) name p.1 in
    let same : made db kind tag ≡ name = cc in
    let parts = and_parts (is_part 80 db) (is_part 80 kind && (is_part 80 tag && true)) p.0 in
    let more = and_parts (is_part 80 kind) (is_part 80 tag && true) parts.1 in
    let last = and_parts (is_part 80 tag) true more.1 in
    let lengths = and_parts (leb (length kind) 30 && leb (length tag) 48) (not (is_same_name kind (codes "ASMVOL"))) q.0 in
    let short = and_parts (leb (length kind) 30) (leb (length tag) 48) lengths.0 in
    subst HasParts same (record { db = parts.0; type_name = cut 80 30 kind more.0 short.0; tag = cut 80 48 tag last.0 short.1 }) where
      cut : (long short : ℕ) (part : Bytes) → is_part long part ≡ true → leb (length part) short ≡ true → is_part short part ≡ true
      cut long short part e few =
          let p = part_of long part e in
          part_is short part (record { made = p.made; some = p.some; few = leb-true (length part) short few; no_point = p.no_point })
name_parts (a ∷ b ∷ c ∷ d ∷ path) name e = absurd (let p = if_some (are_parts (a ∷ b ∷ c ∷ d ∷ path)) None name e in cc)

-- ---- names without case

byte_is : (c : ℕ) → to_ascii_lowercase c ≡ folded_byte c
byte_is c = elim (cases_lt c 65) [
  | inl below ↦ rw (lt-ltb c 65 below, lt-leb 65 c below) refl
  | inr above ↦ elim (cases_lt c 91) [
    | inl small ↦ rw (not_below 65 above, lt-ltb c 91 small, le-leb 65 c above, le-leb c 90 (omega arith)) refl
    | inr past ↦ rw (not_below 65 above, not_below 91 past, le-leb 65 c above, lt-leb c 90 (omega arith)) refl
  ]
] where
  not_below : (n : ℕ) → n ≤ c → ltb c n ≡ false
  not_below n le = elim (either (ltb c n)) [ inl less ↦ absurd (let l = ltb-true c n less in omega arith) | inr other ↦ other ]

bytes_are : (cs : Bytes) → map to_ascii_lowercase cs ≡ folded cs
bytes_are [] = refl
bytes_are (c ∷ cs) = λ i. byte_is c i ∷ bytes_are cs i

pub same_name_is : (b : Bool) (xs ys : Bytes) → IsTrue b ↔ (map to_ascii_lowercase xs ≡ map to_ascii_lowercase ys) → b ≡ is_same_name xs ys
same_name_is b xs ys test = one_answer b (is_same_name xs ys) test (λ e. lower ((bytes_eq-Decides (folded xs) (folded ys)).0 e), λ e. (bytes_eq-Decides (folded xs) (folded ys)).1 (sym (bytes_are xs) ∙ (e ∙ bytes_are ys))) where
  lower : folded xs ≡ folded ys → map to_ascii_lowercase xs ≡ map to_ascii_lowercase ys
  lower e = bytes_are xs ∙ (e ∙ sym (bytes_are ys))

-- ---- the bytes of the system name

digit_is : (c : ℕ) → grammar.is_digit_byte c ≡ true → is_part_byte c ≡ true
digit_is c e = rw e (rw (right (is_letter c)) refl) where
  right : (b : Bool) → (b || true) ≡ true
  right true = refl
  right false = refl

all_digits : (cs : Bytes) → list_all grammar.is_digit_byte cs ≡ true → list_all is_part_byte cs ≡ true
all_digits [] e = refl
all_digits (c ∷ cs) e =
    let p = and_parts (grammar.is_digit_byte c) (list_all grammar.is_digit_byte cs) e in
    and_from (is_part_byte c) (list_all is_part_byte cs) (digit_is c p.0) (all_digits cs p.1)

-- a dot and a number
numbered : (n : ℕ) → list_all is_part_byte (46 ∷ decimal n) ≡ true
numbered n = all_digits (decimal n) (decimal_digits n)

pub file_name_is_part : (tag : Bytes) (n incarnation : ℕ) → is_part 48 tag ≡ true → n < 2 ^ 32 → incarnation < 2 ^ 64 → is_part 80 (file_name tag n incarnation) ≡ true
file_name_is_part tag n incarnation e small fits = part_is 80 (file_name tag n incarnation) (record { made = bytes; some = lt-ltb 0 (length (file_name tag n incarnation)) (omega (arith, long)); few = omega (arith, long, first, second, (part_of 48 tag e).few); no_point = no_point }) where
  bytes : list_all is_part_byte (file_name tag n incarnation) ≡ true
  bytes =
      list_all-append is_part_byte (tag ++ 46 ∷ decimal n) (46 ∷ decimal incarnation)
      ∙ and_from (list_all is_part_byte (tag ++ 46 ∷ decimal n)) (list_all is_part_byte (46 ∷ decimal incarnation))
      (list_all-append is_part_byte tag (46 ∷ decimal n) ∙ and_from (list_all is_part_byte tag) (list_all is_part_byte (46 ∷ decimal n)) (part_of 48 tag e).made (numbered n)) (numbered incarnation)

  long : length (file_name tag n incarnation) ≡ length tag + (1 + length (decimal n) + (1 + length (decimal incarnation)))
  long = omega (arith, length-append (tag ++ 46 ∷ decimal n) (46 ∷ decimal incarnation), length-append tag (46 ∷ decimal n))

  no_point : not (bytes_eq (file_name tag n incarnation) (46 ∷ [])) ≡ true
  no_point = elim (either (bytes_eq (file_name tag n incarnation) (46 ∷ []))) [
    | inl same ↦ absurd (let one : length (file_name tag n incarnation) ≡ 1 = ap (λ (cs : Bytes). length cs) ((bytes_eq-Decides (file_name tag n incarnation) (46 ∷ [])).0 same) in omega (arith, long))
    | inr other ↦ rw other refl
  ]

  ten : 2 ^ 32 ≤ 10 ^ 10
  ten = lit≤ tt

  twenty : 2 ^ 64 ≤ 10 ^ 20
  twenty = lit≤ tt

  wide : 2 ^ 32 ≤ 2 ^ 64
  wide = lit≤ tt

  first : length (decimal n) ≤ 10
  first = length-decimal-le 10 n (lit≤ tt) (omega (arith, ten)) (omega (arith, wide))

  second : length (decimal incarnation) ≤ 20
  second = length-decimal-le 20 incarnation (lit≤ tt) (omega (arith, twenty)) fits

pub path_parts : (path : Path) (name : NewName) (n incarnation : ℕ) → path ≡ new_path name n incarnation → HasParts name → n < 2 ^ 32 → incarnation < 2 ^ 64 → (are_parts path ≡ true) × (length path ≡ 3)
path_parts path name n incarnation is parts small fits = subst (λ (p : Path). (are_parts p ≡ true) × (length p ≡ 3)) (sym is) (all, refl) where
  all : are_parts (new_path name n incarnation) ≡ true
  all = rw (parts.db, longer 30 80 name.type_name (lit≤ tt) parts.type_name, file_name_is_part name.tag n incarnation parts.tag small fits) refl
