-- The templates of a group are read from their one spelling alone.
use Rattle.std.proofs.Common.{◌≡◌, ℕ, ◌≤◌, true, leb, List, [], ◌∷◌, length, refl, arith}
use Rattle.std.specs.Prelude.{◌&&◌}
use Rattle.std.specs.List.{flat_map, list_all, AllByRecursion}
use Rattle.std.specs.Option.{option_map}
use Rattle.std.proofs.lemmas.Bool.{and_parts, and_from, leb-true, le-leb}
use Rattle.asm_base.specs.asm_group.Names.{Bytes, is_name}
use Rattle.asm_base.specs.asm_group.Group.{Template}
use Rattle.asm_base.specs.asm_formats.Items.{templates_item, is_item, is_redundancy, is_template, names_ascend}
use Rattle.asm_base.specs.asm_formats.Values.{value, decoded_item, item_by, template_fields, templates_at}
use Rattle.asm_base.specs.Parts.{TemplateParts, to_template}
use Rattle.asm_base.specs.Records.{all_of}
use Rattle.asm_base.proofs.Exact.{IsExact, both_exact, as_exact, tested_exact, fits_exact}
use Rattle.asm_base.proofs.FieldLaws.{flag_exact, counted_exact}
use Rattle.byte_codes.proofs.WordLaws.{stripe_exact}
use Rattle.record_values.specs.Values.{template_reading, templates_reading}
use Rattle.record_values.proofs.Decoded.{value_decoded}
use Rattle.record_values.proofs.FieldLaws.{copies_exact, few_copies, named_exact}

of_template : Template → TemplateParts
of_template t = (t.name, (t.copies, (t.stripe, t.system)))

pub record FitsTemplate (t : Template) : Type 0 where
  pub name : is_name t.name ≡ true
  pub copies : is_redundancy t.copies ≡ true

pub template_exact : IsExact template_fields FitsTemplate template_reading
unfolding template_reading of_template
template_exact =
    let fields = both_exact named_exact (both_exact copies_exact (both_exact stripe_exact flag_exact)) in
    fits_exact (λ t f. record { name = f.0; copies = f.1.0.1 }) (λ t f. (f.name, ((few_copies t.copies f.copies, f.copies), (tt, tt))))
    (as_exact to_template of_template (λ p. refl) (λ t. refl) fields)

templates_value : List Template → Bytes
templates_value ts = length ts ∷ flat_map template_fields ts

FitsTemplates : List Template → Type 0
FitsTemplates ts = ((length ts ≤ 64) × AllByRecursion FitsTemplate ts) × (names_ascend ts ≡ true)

templates_exact : IsExact templates_value FitsTemplates templates_reading
unfolding templates_value FitsTemplates templates_reading
templates_exact = tested_exact names_ascend (counted_exact 64 (omega arith) template_exact)

templates_spelt : (ts : List Template) → value (templates_item ts) ≡ templates_value ts
unfolding value templates_value
templates_spelt ts = refl

each_template : (ts : List Template) → list_all is_template ts ≡ true → AllByRecursion FitsTemplate ts
each_template [] ok = tt
each_template (t ∷ ts) ok =
    let a = and_parts (is_template t) (list_all is_template ts) ok in
    let b = and_parts (is_name t.name) (is_redundancy t.copies) a.0 in
    (record { name = b.0; copies = b.1 }, each_template ts a.1)

are_templates : (ts : List Template) → AllByRecursion FitsTemplate ts → list_all is_template ts ≡ true
are_templates [] fits = refl
are_templates (t ∷ ts) fits = and_from (is_template t) (list_all is_template ts) (and_from (is_name t.name) (is_redundancy t.copies) fits.0.name fits.0.copies) (are_templates ts fits.1)

templates_allowed : (ts : List Template) → FitsTemplates ts → is_item (templates_item ts) ≡ true
unfolding is_item FitsTemplates
templates_allowed ts fits =
    and_from (leb (length ts) 64) (list_all is_template ts && names_ascend ts) (le-leb (length ts) 64 fits.0.0)
    (and_from (list_all is_template ts) (names_ascend ts) (are_templates ts fits.0.1) fits.1)

templates_fit : (ts : List Template) → is_item (templates_item ts) ≡ true → FitsTemplates ts
unfolding is_item FitsTemplates
templates_fit ts ok =
    let a = and_parts (leb (length ts) 64) (list_all is_template ts && names_ascend ts) ok in
    let b = and_parts (list_all is_template ts) (names_ascend ts) a.1 in
    ((leb-true (length ts) 64 a.0, each_template ts b.0), b.1)

pub templates_form : (a b : ℕ) (bytes : Bytes) → item_by (record { kind = 5; a = a; b = b }) bytes ≡ templates_item (templates_at bytes)
unfolding item_by
templates_form a b bytes = refl

pub templates_decoded : (bytes : Bytes) → option_map templates_item (all_of templates_reading bytes) ≡ decoded_item (record { kind = 5; a = 0; b = 0 }) bytes
templates_decoded bytes =
    value_decoded templates_exact (record { kind = 5; a = 0; b = 0 }) templates_item (templates_at bytes) bytes (templates_form 0 0 bytes) templates_spelt (λ ts fits. (templates_allowed ts fits, refl)) templates_fit
