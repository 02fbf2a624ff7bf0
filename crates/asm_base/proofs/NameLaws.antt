-- The field of a text or a name is read as that text or name, and no other bytes are.
use Rattle.std.proofs.Common.{◌≡◌, ℕ, zero, suc, ◌+◌, ◌-◌, ◌<◌, ◌≤◌, Bool, true, false, leb, ltb, eqb, List, [], ◌∷◌, ◌++◌, length, take, drop, replicate, Option, Some, None, refl, sym, ap, subst, ◌∙◌, append_assoc, add-one, arith, inl, inr}
use Rattle.std.specs.Prelude.{◌&&◌, not}
use Rattle.std.specs.declared.cmp.Ordering.TheVariants.{Greater}
use Rattle.std.specs.Int.{is_in_range}
use Rattle.std.specs.Str.{bytes_eq}
use Rattle.std.specs.Ordering.{is_eq}
use Rattle.std.specs.Option.{option_map}
use Rattle.std.specs.List.{list_all}
use Rattle.std.proofs.lemmas.Bool.{and_parts, and_from, cases_eq, lt-ltb, cases_lt, true≢false, ne_eqb, leb-true, le-leb, lt-leb}
use Rattle.std.proofs.lemmas.List.{take_at, drop_at, take-append-drop, take-take, length-append, length-take, length-replicate, length-drop}
use Rattle.std.proofs.lemmas.Map.Text.{is_eq-slice_cmp}
use Rattle.asm_group.specs.Names.{is_name, is_part, is_name_byte, is_part_byte, is_letter, folded, is_same_name}
use Rattle.asm_formats.specs.Bytes.{name_field}
use Rattle.asm_base.specs.Readings.{text_in, text_reading, name_reading}
use Rattle.asm_base.specs.Names.{folded_cmp}
use Rattle.asm_base.proofs.Exact.{IsBytes, IsBytes-append, IsExact, Begins, test_some, tested_exact, fits_exact}
use Rattle.asm_base.proofs.Numbers.{IsBytes-drop, IsBytes-take}
use Rattle.asm_base.proofs.FieldLaws.{are_zeros, zeros_are}

-- ---- the order of names

-- a name is above no name
pub above_nothing : (a b : List ℕ) → 1 ≤ length a → length b ≡ 0 → Greater ≡ folded_cmp a b
above_nothing [] b some none = absurd (omega arith)
above_nothing (x ∷ a) [] some none = refl
above_nothing (x ∷ a) (y ∷ b) some none = absurd (omega arith)

pub same_order : (a b : List ℕ) → is_eq (folded_cmp a b) ≡ is_same_name a b
same_order a b = is_eq-slice_cmp (folded a) (folded b)

-- ---- what names are made of

-- the bytes of parts are bytes
part_byte_lt : (b : ℕ) → is_part_byte b ≡ true → b < 256
part_byte_lt b e = elim (cases_lt b 256) [ inl lt ↦ lt | inr past ↦ absurd (true≢false (sym e ∙ none b past)) ] where
  and_false : (b : Bool) → (b && false) ≡ false
  and_false true = refl
  and_false false = refl

  between : (low high b : ℕ) → high < b → is_in_range low high b ≡ false
  between low high b past = rw (lt-leb b high past) (and_false (leb low b))

  none : (b : ℕ) → 256 ≤ b → is_part_byte b ≡ false
  none b past = rw (between 65 90 b (omega arith), between 97 122 b (omega arith), between 48 57 b (omega arith), ne_eqb b 95 (λ same. omega arith), ne_eqb b 36 (λ same. omega arith), ne_eqb b 35 (λ same. omega arith), ne_eqb b 45 (λ same. omega arith), ne_eqb b 46 (λ same. omega arith)) refl

are_part_bytes : (name : List ℕ) → list_all is_part_byte name ≡ true → IsBytes name
are_part_bytes [] e i = omega arith
are_part_bytes (b ∷ name) e zero = part_byte_lt b (and_parts (is_part_byte b) (list_all is_part_byte name) e).0
are_part_bytes (b ∷ name) e (suc i) = are_part_bytes name (and_parts (is_part_byte b) (list_all is_part_byte name) e).1 i

-- what a part of a path is
pub record Part (longest : ℕ) (part : List ℕ) : Type 0 where
  pub made : list_all is_part_byte part ≡ true
  pub some : ltb 0 (length part) ≡ true
  pub few : length part ≤ longest
  pub no_point : not (bytes_eq part (46 ∷ [])) ≡ true

pub part_of : (longest : ℕ) (part : List ℕ) → is_part longest part ≡ true → Part longest part
unfolding is_part
part_of longest part e =
    let a = four_parts (list_all is_part_byte part) (ltb 0 (length part)) (leb (length part) longest) (not (bytes_eq part (46 ∷ []))) e in
    record { made = a.0; some = a.1.0; few = leb-true (length part) longest a.1.1.0; no_point = a.1.1.1 } where
      four_parts : (a b c d : Bool) → (a && b && c && d) ≡ true → (a ≡ true) × ((b ≡ true) × ((c ≡ true) × (d ≡ true)))
      four_parts true true true d e = (refl, (refl, (refl, e)))
      four_parts true true false d e = absurd cc
      four_parts true false c d e = absurd cc
      four_parts false b c d e = absurd cc

pub part_is : (longest : ℕ) (part : List ℕ) → Part longest part → is_part longest part ≡ true
unfolding is_part
part_is longest part p = rw (p.made, p.some, le-leb (length part) longest p.few, p.no_point) refl

-- a short part is a part where more bytes are allowed
pub part_is_longer : (longest : ℕ) (part : List ℕ) → longest ≤ 255 → is_part longest part ≡ true → is_part 255 part ≡ true
part_is_longer longest part le e =
    let p = part_of longest part e in
    part_is 255 part (record { made = p.made; some = p.some; few = omega (arith, p.few); no_point = p.no_point })

-- ---- the field

-- what fits a field of a width
abbrev pub FitsText : ℕ → List ℕ → Type 0
FitsText width text = (length text ≤ width) × IsBytes text

map_some : {X Y : Type 0} (f : X → Y) (o : Option X) (y : Y) → option_map f o ≡ Some y → (x : X) × (o ≡ Some x) × (f x ≡ y)
map_some f (Some x) y e = (x, refl, cc)
map_some f None y e = absurd cc

text_takes : (width : ℕ) → (bytes text rest : List ℕ) → IsBytes bytes → text_reading width bytes ≡ Some (text, rest) → Begins (name_field width) (FitsText width) bytes text rest
unfolding text_reading name_field
text_takes width [] text rest fits e = absurd cc
text_takes width (n ∷ bytes) text rest fits e =
    let same : drop (width + 1) (n ∷ bytes) ≡ drop width bytes = rw add-one refl in
    let m = map_some (λ (x : List ℕ). (x, drop width bytes)) (text_in width (n ∷ bytes)) (text, rest) (rw same at e) in
    let t = test_some (leb n width && (leb width (length bytes) && list_all (λ b. eqb b 0) (drop n (take width bytes)))) (take n bytes) m.0 m.1 in
    let p = and_parts (leb n width) (leb width (length bytes) && list_all (λ b. eqb b 0) (drop n (take width bytes))) t.0 in
    let q = and_parts (leb width (length bytes)) (list_all (λ b. eqb b 0) (drop n (take width bytes))) p.1 in
    let low = leb-true n width p.0 in
    let long = leb-true width (length bytes) q.0 in
    let len : length (take n bytes) ≡ n = omega (arith, length-take n bytes) in
    let zeros : drop n (take width bytes) ≡ replicate (width - n) 0 =
    are_zeros (drop n (take width bytes)) q.1 ∙ ap (λ (k : ℕ). replicate k 0) (omega (arith, length-drop n (take width bytes), length-take width bytes)) in
    let field : take width bytes ≡ take n bytes ++ replicate (width - n) 0 =
    sym (take-append-drop n (take width bytes)) ∙ ap (λ (f : List ℕ). f ++ drop n (take width bytes)) (take-take n width bytes low) ∙ ap (λ (z : List ℕ). take n bytes ++ z) zeros in
    let all : n ∷ bytes ≡ (length (take n bytes) ∷ take n bytes ++ replicate (width - length (take n bytes)) 0) ++ drop width bytes =
    rw len (ap (λ (b : List ℕ). n ∷ b) (sym (take-append-drop width bytes) ∙ ap (λ (f : List ℕ). f ++ drop width bytes) field)) in
    let whole : Begins (name_field width) (FitsText width) (n ∷ bytes) (take n bytes) (drop width bytes) = record {
      parts = all;
      fits = (omega (arith, len), IsBytes-take n bytes (λ i. fits (suc i)));
      rest_bytes = IsBytes-drop width bytes (λ i. fits (suc i));
    } in
    subst (λ (x : List ℕ × List ℕ). Begins (name_field width) (FitsText width) (n ∷ bytes) x.0 x.1) (ap (λ (x : List ℕ). (x, drop width bytes)) t.1 ∙ m.2) whole

text_again : (width : ℕ) (text rest : List ℕ) → FitsText width text → text_reading width (name_field width text ++ rest) ≡ Some (text, rest)
unfolding text_reading name_field
text_again width text rest fits =
    let n = length text in
    let gap : List ℕ = replicate (width - n) 0 in
    let gap_len : length gap ≡ width - n = length-replicate {A = ℕ} (width - n) 0 in
    let field : List ℕ = text ++ gap in
    let field_len : length field ≡ width = omega (arith, length-append text gap, gap_len, fits.0) in
    let front : take n (field ++ rest) ≡ text = ap (take n) (append_assoc text gap rest) ∙ take_at text (gap ++ rest) n refl in
    let whole : take width (field ++ rest) ≡ field = take_at field rest width field_len in
    let tail : drop n field ≡ gap = drop_at text gap n refl in
    let behind : drop (width + 1) (n ∷ (field ++ rest)) ≡ rest = rw add-one (drop_at field rest width field_len) in
    rw (whole, tail, front, le-leb n width fits.0, le-leb width (length (field ++ rest)) (omega (arith, length-append field rest, field_len)), zeros_are (width - n), behind) refl

pub zeros_bytes : (n : ℕ) → IsBytes (replicate n 0)
zeros_bytes zero i = omega arith
zeros_bytes (suc n) zero = omega arith
zeros_bytes (suc n) (suc i) = zeros_bytes n i

text_bytes : (width : ℕ) → width < 256 → (text : List ℕ) → FitsText width text → IsBytes (name_field width text)
unfolding name_field
text_bytes width small text fits zero = omega (arith, fits.0)
text_bytes width small text fits (suc i) = IsBytes-append text (replicate (width - length text) 0) fits.1 (zeros_bytes (width - length text)) i

pub text_exact : (width : ℕ) → width < 256 → IsExact (name_field width) (FitsText width) (text_reading width)
text_exact width small = record { takes = text_takes width; again = text_again width; bytes = text_bytes width small }

pub name_exact : (width : ℕ) → width < 256 → IsExact (name_field width) (λ name. is_part width name ≡ true) (name_reading width)
name_exact width small =
    fits_exact (λ name f. f.1) (λ name part. let p = part_of width name part in ((p.few, are_part_bytes name p.made), part))
    (tested_exact (is_part width) (text_exact width small))

-- ---- names that begin with a letter are parts

named_bytes : (cs : List ℕ) → list_all is_name_byte cs ≡ true → list_all is_part_byte cs ≡ true
named_bytes [] e = refl
named_bytes (c ∷ cs) e =
    let a = and_parts (is_name_byte c) (list_all is_name_byte cs) e in
    and_from (is_part_byte c) (list_all is_part_byte cs) (rw a.0 refl) (named_bytes cs a.1)

no_point : (c : ℕ) (cs : List ℕ) → is_letter c ≡ true → not (bytes_eq (c ∷ cs) (46 ∷ [])) ≡ true
no_point c cs e = elim (cases_eq c 46) [
  | inl same ↦ absurd (true≢false (sym e ∙ ap is_letter same))
  | inr other ↦ rw (ne_eqb c 46 other) refl
]

letter_byte : (c : ℕ) → is_letter c ≡ true → is_part_byte c ≡ true
letter_byte c e = rw e refl

pub name_is_part : (name : List ℕ) → is_name name ≡ true → is_part 30 name ≡ true
unfolding is_name
name_is_part [] e = absurd cc
name_is_part (c ∷ cs) e =
    let a = three_parts (is_letter c) (list_all is_name_byte cs) (leb (length cs) 29) e in
    part_is 30 (c ∷ cs) (record {
      made = and_from (is_part_byte c) (list_all is_part_byte cs) (letter_byte c a.0) (named_bytes cs a.1.0);
      some = lt-ltb 0 (suc (length cs)) (omega arith);
      few = omega (arith, leb-true (length cs) 29 a.1.1);
      no_point = no_point c cs a.0;
    }) where
      three_parts : (a b c : Bool) → (a && b && c) ≡ true → (a ≡ true) × ((b ≡ true) × (c ≡ true))
      three_parts true true c e = (refl, (refl, e))
      three_parts true false c e = absurd cc
      three_parts false b c e = absurd cc

pub part_is_short : (longest : ℕ) (part : List ℕ) → is_part longest part ≡ true → length part ≤ longest
part_is_short longest part e = (part_of longest part e).few

pub name_is_short : (name : List ℕ) → is_name name ≡ true → length name ≤ 30
name_is_short name e = part_is_short 30 name (name_is_part name e)
