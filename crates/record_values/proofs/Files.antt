-- The head of a file is read from its one spelling alone.
use Rattle.std.proofs.Common.{◌≡◌, ℕ, ◌^◌, ◌<◌, true, ltb, refl, arith}
use Rattle.std.specs.Int.{w32, w64}
use Rattle.std.specs.Option.{option_map}
use Rattle.std.proofs.lemmas.Bool.{and_parts, ltb-true, lt-ltb}
use Rattle.asm_base.specs.asm_group.Names.{Bytes, is_part}
use Rattle.asm_base.specs.asm_formats.Items.{FileHead, file_item, is_item, is_redundancy}
use Rattle.asm_base.specs.asm_formats.Values.{value, decoded_item, item_by, file_value, file_head_at}
use Rattle.asm_base.specs.Records.{all_of}
use Rattle.asm_base.proofs.Exact.{IsExact, both_exact, as_exact, fits_exact}
use Rattle.asm_base.proofs.Numbers.{number_exact}
use Rattle.byte_codes.proofs.WordLaws.{stripe_exact}
use Rattle.asm_base.proofs.NameLaws.{name_exact}
use Rattle.record_values.specs.Values.{FileParts, to_file, file_reading}
use Rattle.record_values.proofs.Decoded.{value_decoded}
use Rattle.record_values.proofs.FieldLaws.{copies_exact, few_copies, system_exact}

pub record FitsFile (h : FileHead) : Type 0 where
  pub copies : is_redundancy h.copies ≡ true
  pub type_name : is_part 30 h.type_name ≡ true
  pub size : h.size < 2 ^ 64
  pub incarnation : h.incarnation < 2 ^ 64
  pub some : ltb 0 h.system ≡ true
  pub system : h.system < 2 ^ 32
  pub alias : h.alias < 2 ^ 32

of_file : FileHead → FileParts
of_file h = (h.copies, (h.stripe, (h.type_name, (h.size, (h.incarnation, (h.system, h.alias))))))

pub file_exact : IsExact file_value FitsFile file_reading
unfolding of_file file_reading
file_exact =
    let fields = both_exact copies_exact (both_exact stripe_exact (both_exact (name_exact 30 (omega arith)) (both_exact (number_exact w64) (both_exact (number_exact w64) (both_exact system_exact (number_exact w32)))))) in
    fits_exact
    (λ h f. record { copies = f.0.1; type_name = f.1.1.0; size = f.1.1.1.0; incarnation = f.1.1.1.1.0; some = f.1.1.1.1.1.0.1; system = f.1.1.1.1.1.0.0; alias = f.1.1.1.1.1.1 })
    (λ h f. ((few_copies h.copies f.copies, f.copies), (tt, (f.type_name, (f.size, (f.incarnation, ((f.system, f.some), f.alias)))))))
    (as_exact to_file of_file (λ p. refl) (λ h. refl) fields)

pub file_allowed : (f : ℕ) → f < 2 ^ 32 → (h : FileHead) → FitsFile h → is_item (file_item f h) ≡ true
unfolding is_item
file_allowed f lt h fits =
    rw (lt-ltb f (2 ^ 32) lt, fits.copies, fits.type_name, lt-ltb h.size (2 ^ 64) fits.size, lt-ltb h.incarnation (2 ^ 64) fits.incarnation, fits.some, lt-ltb h.system (2 ^ 32) fits.system, lt-ltb h.alias (2 ^ 32) fits.alias) refl

pub file_fits : (f : ℕ) (h : FileHead) → is_item (file_item f h) ≡ true → FitsFile h
unfolding is_item
file_fits f h ok =
    let a = and_parts (ltb f (2 ^ 32)) _ ok in
    let b = and_parts (is_redundancy h.copies) _ a.1 in
    let c = and_parts (is_part 30 h.type_name) _ b.1 in
    let d = and_parts (ltb h.size (2 ^ 64)) _ c.1 in
    let e = and_parts (ltb h.incarnation (2 ^ 64)) _ d.1 in
    let s = and_parts (ltb 0 h.system) _ e.1 in
    let g = and_parts (ltb h.system (2 ^ 32)) (ltb h.alias (2 ^ 32)) s.1 in
    record {
      copies = b.0;
      type_name = c.0;
      size = ltb-true h.size (2 ^ 64) d.0;
      incarnation = ltb-true h.incarnation (2 ^ 64) e.0;
      some = s.0;
      system = ltb-true h.system (2 ^ 32) g.0;
      alias = ltb-true h.alias (2 ^ 32) g.1;
    }

file_spelt : (f : ℕ) (h : FileHead) → value (file_item f h) ≡ file_value h
unfolding value
file_spelt f h = refl

file_form : (f : ℕ) (bytes : Bytes) → item_by (record { kind = 1; a = f; b = 0 }) bytes ≡ file_item f (file_head_at bytes)
unfolding item_by
file_form f bytes = refl

pub file_decoded : (f : ℕ) (bytes : Bytes) → f < 2 ^ 32 → option_map (file_item f) (all_of file_reading bytes) ≡ decoded_item (record { kind = 1; a = f; b = 0 }) bytes
file_decoded f bytes lt =
    value_decoded file_exact (record { kind = 1; a = f; b = 0 }) (file_item f) (file_head_at bytes) bytes (file_form f bytes) (file_spelt f) (λ h fits. (file_allowed f lt h fits, refl)) (file_fits f)
