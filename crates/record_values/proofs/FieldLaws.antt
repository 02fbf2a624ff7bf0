-- Fields that records of several kinds have are read exactly.
use Rattle.std.proofs.Common.{◌≡◌, ℕ, suc, ◌-◌, ◌^◌, ◌<◌, Bool, true, false, cond, eqb, leb, ltb, List, ◌++◌, length, replicate, Option, Some, None, refl, sym, ap, subst, ◌∙◌, arith, inl, inr}
use Rattle.std.specs.Int.{w32}
use Rattle.std.specs.Option.{option_and_then, option_map}
use Rattle.std.proofs.lemmas.Bool.{and_parts, cases_eq, eqb-true, eq-eqb, leb-true, lt-ltb, ltb-true, ne_eqb, true≢false}
use Rattle.std.proofs.lemmas.List.{take_at}
use Rattle.asm_base.specs.asm_group.Names.{Bytes, is_name, is_part}
use Rattle.asm_base.specs.asm_formats.Bytes.{number_bytes, name_field}
use Rattle.asm_base.specs.asm_formats.Items.{Home, is_home, is_redundancy}
use Rattle.asm_base.specs.asm_formats.Values.{home_fields}
use Rattle.asm_base.specs.Parts.{home_of_numbers, home_reading}
use Rattle.asm_base.specs.Readings.{both, byte_reading, number_reading, name_reading, text_reading}
use Rattle.asm_base.proofs.Exact.{IsBytes, IsExact, Begins, bind_some, test_some, some_is, chosen, both_exact, tested_exact, fits_exact}
use Rattle.asm_base.proofs.Numbers.{number_exact, IsBytes-take}
use Rattle.asm_base.proofs.FieldLaws.{one_byte, byte_exact}
use Rattle.asm_base.proofs.NameLaws.{name_exact, text_exact, name_is_part, name_is_short}
use Rattle.record_values.specs.Values.{copies_reading, named_reading, system_reading}

-- ---- numbers

pub few_copies : (n : ℕ) → is_redundancy n ≡ true → n < 256
few_copies n ok = omega (arith, leb-true n 3 (and_parts (leb 1 n) (leb n 3) ok).1)

pub copies_exact : IsExact one_byte (λ n. (n < 256) × (is_redundancy n ≡ true)) copies_reading
copies_exact = tested_exact is_redundancy byte_exact

pub system_exact : IsExact (number_bytes w32) (λ n. (n < 2 ^ 32) × (ltb 0 n ≡ true)) system_reading
system_exact = tested_exact (λ n. ltb 0 n) (number_exact w32)

-- ---- names

name_bytes : (n : Bytes) → is_name n ≡ true → IsBytes n
unfolding name_field
name_bytes n ok =
    let gap : Bytes = replicate (30 - length n) 0 in
    let field : IsBytes (n ++ gap) = λ i. (name_exact 30 (omega arith)).bytes n (name_is_part n ok) (suc i) in
    subst IsBytes (take_at n gap (length n) refl) (IsBytes-take (length n) (n ++ gap) field)

pub named_exact : IsExact (name_field 30) (λ n. is_name n ≡ true) named_reading
named_exact = fits_exact (λ n f. f.1) (λ n ok. ((name_is_short n ok, name_bytes n ok), ok)) (tested_exact is_name (text_exact 30 (omega arith)))

-- a name is a part of a path, so it may be tested behind that
by_part : (o : Option (Bytes × List ℕ)) → option_and_then (λ x. cond (is_name x.0) (Some x) None) o ≡ option_and_then (λ x. cond (is_name x.0) (Some x) None) (option_and_then (λ x. cond (is_part 30 x.0) (Some x) None) o)
by_part None = refl
by_part (Some x) = go (is_name x.0) refl (is_part 30 x.0) refl where
  go : (n : Bool) → is_name x.0 ≡ n → (p : Bool) → is_part 30 x.0 ≡ p
      → cond n (Some x) None ≡ option_and_then (λ (y : Bytes × List ℕ). cond (is_name y.0) (Some y) None) (cond p (Some x) None)
  go n e true f = rw e refl
  go true e false f = absurd (true≢false (sym (name_is_part x.0 e) ∙ f))
  go false e false f = refl

pub no_part : (bytes : List ℕ) → name_reading 30 bytes ≡ None → named_reading bytes ≡ None
no_part bytes e = by_part (text_reading 30 bytes) ∙ ap (option_and_then (λ x. cond (is_name x.0) (Some x) None)) e

pub no_name : (bytes name rest : List ℕ) → name_reading 30 bytes ≡ Some (name, rest) → is_name name ≡ false → named_reading bytes ≡ None
no_name bytes name rest e other = by_part (text_reading 30 bytes) ∙ ap (option_and_then (λ x. cond (is_name x.0) (Some x) None)) e ∙ rw other refl

pub named : (bytes name rest : List ℕ) → name_reading 30 bytes ≡ Some (name, rest) → is_name name ≡ true → named_reading bytes ≡ Some (name, rest)
named bytes name rest e is = by_part (text_reading 30 bytes) ∙ ap (option_and_then (λ x. cond (is_name x.0) (Some x) None)) e ∙ rw is refl

-- ---- homes

map_some : {X Y : Type 0} (f : X → Y) (o : Option X) (y : Y) → option_map f o ≡ Some y → (x : X) × (o ≡ Some x) × (f x ≡ y)
map_some f (Some x) y e = (x, refl, cc)
map_some f None y e = absurd cc

abbrev pub IsHome : Option Home → Type 0
IsHome o = is_home o ≡ true

home_parts : (h : Home) → IsHome (Some h) → (h.disk < 255) × (h.unit < 2 ^ 32)
home_parts h ok = let p = and_parts (ltb h.disk 255) (ltb h.unit (2 ^ 32)) ok in (ltb-true h.disk 255 p.0, ltb-true h.unit (2 ^ 32) p.1)

home_code : Option Home → ℕ × ℕ
home_code None = (255, 0)
home_code (Some h) = (h.disk, h.unit)

abbrev pair_fields : ℕ × ℕ → List ℕ
pair_fields p = one_byte p.0 ++ number_bytes w32 p.1

home_spelt : (o : Option Home) → pair_fields (home_code o) ≡ home_fields o
unfolding home_code
home_spelt None = refl
home_spelt (Some h) = refl

home_known : (o : Option Home) → IsHome o → home_of_numbers (home_code o) ≡ Some o
unfolding home_code
home_known None ok = refl
home_known (Some h) ok = let p = home_parts h ok in rw (ne_eqb h.disk 255 (λ e. omega (arith, p.0, e))) refl

home_code_fits : (o : Option Home) → IsHome o → ((home_code o).0 < 256) × ((home_code o).1 < 2 ^ 32)
unfolding home_code
home_code_fits None ok = (omega arith, omega arith)
home_code_fits (Some h) ok = let p = home_parts h ok in (omega (arith, p.0), p.1)

below_255 : (n : ℕ) → n < 256 → eqb n 255 ≡ false → n < 255
below_255 n small other = elim (cases_eq n 255) [
  | inl e ↦ absurd (true≢false (sym (eq-eqb n 255 e) ∙ other))
  | inr ne ↦ omega (arith, small, ne)
]

home_one : (p : ℕ × ℕ) (o : Option Home) → p.0 < 256 → p.1 < 2 ^ 32 → home_of_numbers p ≡ Some o → (p ≡ home_code o) × IsHome o
unfolding home_code
home_one p o byte unit e = elim (chosen (eqb p.0 255) (cond (eqb p.1 0) (Some None) None) (Some (Some (record { disk = p.0; unit = p.1 }))) (Some o) e) [
  | inl away ↦
      let t = test_some (eqb p.1 0) None o away.1 in
      let at : p ≡ (255, 0) = ap (λ (n : ℕ). (n, p.1)) (eqb-true p.0 255 away.0) ∙ ap (λ (n : ℕ). (255, n)) (eqb-true p.1 0 t.0) in
      subst (λ (q : Option Home). (p ≡ home_code q) × IsHome q) t.1 (at, refl)
  | inr there ↦
      let ok : IsHome (Some (record { disk = p.0; unit = p.1 })) = rw (lt-ltb p.0 255 (below_255 p.0 byte there.0), lt-ltb p.1 (2 ^ 32) unit) refl in
      subst (λ (q : Option Home). (p ≡ home_code q) × IsHome q) (some_is (Some (record { disk = p.0; unit = p.1 })) o there.1) (refl, ok)
]

pub home_exact : IsExact home_fields IsHome home_reading
unfolding home_reading
home_exact = record {
  takes = λ bytes x rest fits e.
      let a = bind_some (λ (u : (ℕ × ℕ) × List ℕ). option_map (λ (y : Option Home). (y, u.1)) (home_of_numbers u.0)) (both byte_reading (number_reading w32) bytes) (x, rest) e in
      let one = pair_exact.takes bytes a.0.0 a.0.1 fits a.1 in
      let m = map_some (λ (y : Option Home). (y, a.0.1)) (home_of_numbers a.0.0) (x, rest) a.2 in
      let is = home_one a.0.0 m.0 one.fits.0 one.fits.1 m.1 in
      let parts : bytes ≡ home_fields m.0 ++ a.0.1 = one.parts ∙ ap (λ (v : ℕ × ℕ). pair_fields v ++ a.0.1) is.0 ∙ ap (λ (w : List ℕ). w ++ a.0.1) (home_spelt m.0) in
      let whole : Begins home_fields IsHome bytes m.0 a.0.1 = record { parts = parts; fits = is.1; rest_bytes = one.rest_bytes } in
      subst (λ (p : Option Home × List ℕ). Begins home_fields IsHome bytes p.0 p.1) m.2 whole;
  again = λ x rest fits.
      rw (← home_spelt x) (rw (pair_exact.again (home_code x) rest (home_code_fits x fits), home_known x fits) refl);
  bytes = λ x fits. subst IsBytes (home_spelt x) (pair_exact.bytes (home_code x) (home_code_fits x fits));
} where
  pair_exact : IsExact pair_fields (λ p. (p.0 < 256) × (p.1 < 2 ^ 32)) (both byte_reading (number_reading w32))
  pair_exact = both_exact byte_exact (number_exact w32)
