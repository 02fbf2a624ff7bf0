-- Templates and attributes of a group.
use Rattle.std.specs.Prelude.{ℕ, zero, suc, ◌+◌, ◌-◌, ◌*◌, Bool, true, ◌&&◌, ◌||◌, ◌==◌, not, nat_le, List, [], ◌∷◌, length, take, drop, Option, Some, None, unwrap_or, Result, Ok, Err, codes, if◌then◌else◌}
use Rattle.std.specs.Option.{option_map}
use Rattle.std.specs.Str.{bytes_eq}
use Rattle.asm_grammar.specs.Bytes.{is_digit_byte, upper, run_of, after_run}
use Rattle.asm_grammar.specs.Word.{digits_of, number_of_text, size_of_text, when}
use Rattle.asm_group.specs.declared.GroupKind.{GroupKind}
use Rattle.asm_group.specs.declared.GroupKind.TheVariants.{Normal}
use Rattle.asm_group.specs.declared.Stripe.{Stripe}
use Rattle.asm_group.specs.declared.Stripe.TheVariants.{Coarse}
use Rattle.asm_group.specs.Names.{Bytes, is_same_name}
use Rattle.asm_group.specs.Shape.{Shape, is_unit_size, is_step, is_sector, is_dir_blocks}
use Rattle.asm_group.specs.Group.{Template, Attributes, Group}
use Rattle.asm_group.specs.NewGroup.{usual_attributes}
use Rattle.asm_group.specs.Refusal as r
use Rattle.asm_group.specs.TemplateEdits as t
pub use Rattle.asm_group.specs.TemplateEdits.{TemplateEdit}
use Rattle.asm_world.specs.Statement as s
use Rattle.asm_world.specs.Edits.{Causes, first_cause, unless_refused}

-- ---- templates

abbrev pub copies_of : s.Redundancy → ℕ
copies_of s.Unprotected = 1
copies_of s.Mirror = 2
copies_of s.High = 3

abbrev pub copies_in : s.TemplateWords → Option ℕ
copies_in words = option_map copies_of words.redundancy

-- COARSE where the words say nothing
abbrev pub stripe_in : s.TemplateWords → Stripe
stripe_in words = unwrap_or words.stripe Coarse

-- ADD, MODIFY and DROP TEMPLATE
abbrev pub added_by : Bytes → s.TemplateWords → TemplateEdit
added_by name words = t.Add name (copies_in words) (stripe_in words)

abbrev pub modified_by : Bytes → s.TemplateWords → TemplateEdit
modified_by name words = t.Modify name (copies_in words) (stripe_in words)

abbrev pub dropped_by : Bytes → TemplateEdit
dropped_by name = t.Drop name

abbrev pub group_template_at : Group → Bytes → Option Template
group_template_at g name = t.template_at g.templates name

abbrev pub group_template_causes : Group → TemplateEdit → Causes
group_template_causes g edit = t.template_causes g.shape.kind g.templates edit

abbrev pub group_with_template_edit : Group → TemplateEdit → Group
group_with_template_edit g edit = record g { templates = t.with_template_edit g.shape.kind g.templates edit }

-- The group after the edit, or why it is refused.
abbrev pub group_after_template_edit : Group → TemplateEdit → Result Group r.Refusal
group_after_template_edit g edit = unless_refused (first_cause (group_template_causes g edit)) (group_with_template_edit g edit)

-- ---- values of attributes

-- how many seconds a tenth of the unit has: hours where there is no letter
abbrev pub tenth_of : Bytes → Option ℕ
tenth_of [] = Some 360
tenth_of (b ∷ []) = if upper b == 77 then Some 6 else (if upper b == 72 then Some 360 else None)
tenth_of (b ∷ c ∷ bytes) = None

-- at most 100,000 of the unit
abbrev pub at_most : ℕ → Option ℕ → Option ℕ
at_most tenths None = None
at_most tenths (Some seconds) = if nat_le tenths 1000000 then Some (tenths * seconds) else None

-- what stands behind the whole number: a point and one digit, or neither, and a letter or none
abbrev pub tenths_of : Option ℕ → Bytes → Option ℕ
tenths_of None bytes = None
tenths_of (Some n) [] = at_most (n * 10) (tenth_of [])
tenths_of (Some n) (b ∷ []) = at_most (n * 10) (tenth_of (b ∷ []))
tenths_of (Some n) (b ∷ d ∷ unit) = if b == 46 && is_digit_byte d then at_most (n * 10 + (d - 48)) (tenth_of unit) else None

-- the seconds of a repair time
abbrev pub repair_seconds : Bytes → Option ℕ
repair_seconds bytes = tenths_of (digits_of (run_of is_digit_byte bytes)) (after_run is_digit_byte bytes)

-- so many further parts of a point and digits, at most
abbrev pub is_version_rest : ℕ → Bytes → Bool
is_version_rest zero bytes = length bytes == 0
is_version_rest (suc n) [] = true
is_version_rest (suc n) (b ∷ bytes) = (b == 46) && not (length (run_of is_digit_byte bytes) == 0) && is_version_rest n (after_run is_digit_byte bytes)

-- 11.2 and perhaps further parts, at most 30 bytes
abbrev pub is_version : Bytes → Bool
is_version bytes = bytes_eq (take 4 bytes) (codes "11.2") && is_version_rest 30 (drop 4 bytes) && nat_le (length bytes) 30

-- An attribute that may be set at any time. None where there is no such name or value.
abbrev pub with_attribute : Attributes → s.Attribute → Option Attributes
with_attribute old a =
    if is_same_name a.name (codes "disk_repair_time") then option_map (λ n. record old { repair = n }) (repair_seconds a.value)
    else (if is_same_name a.name (codes "compatible.asm") then when (is_version a.value) (record old { asm = a.value })
    else (if is_same_name a.name (codes "compatible.rdbms") then when (is_version a.value) (record old { rdbms = a.value })
    else (if is_same_name a.name (codes "compatible.advm") then when (is_version a.value) (record old { advm = a.value })
    else None)))

abbrev pub with_attributes : Group → Bytes → Option Attributes → Result Group r.Refusal
with_attributes g name None = Err (r.BadAttribute name)
with_attributes g name (Some attributes) = Ok (record g { attributes = attributes })

-- SET ATTRIBUTE
abbrev pub attribute_set : Group → s.Attribute → Result Group r.Refusal
attribute_set g a = with_attributes g a.name (with_attribute g.attributes a)

-- ---- attributes of a creation

pub record Creation : Type 0 where
  pub shape : Shape
  pub attributes : Attributes

-- units of 1 MB, sectors of 512 bytes, 20,000 extents of a size and 1,024 record blocks
abbrev pub usual_creation : GroupKind → Creation
usual_creation kind = record {
  shape = record { kind = kind; au = 1048576; sector = 512; step = 20000; dir_blocks = 1024 };
  attributes = usual_attributes;
}

abbrev pub with_shape : Creation → (ℕ → Bool) → (ℕ → Shape) → Option ℕ → Option Creation
with_shape c test make None = None
with_shape c test make (Some n) = when (test n) (record c { shape = make n })

-- An attribute that a creation gives: one of the shape's, or one that may be set at any time.
abbrev pub with_creation_attribute : Creation → s.Attribute → Option Creation
with_creation_attribute c a =
    if is_same_name a.name (codes "au_size") then with_shape c is_unit_size (λ n. record c.shape { au = n }) (size_of_text a.value)
    else (if is_same_name a.name (codes "sector_size") then with_shape c (λ n. n == 512 || n == 4096) (λ n. record c.shape { sector = n }) (size_of_text a.value)
    else (if is_same_name a.name (codes "extent_step") then with_shape c is_step (λ n. record c.shape { step = n }) (number_of_text a.value)
    else (if is_same_name a.name (codes "dir_blocks") then with_shape c is_dir_blocks (λ n. record c.shape { dir_blocks = n }) (number_of_text a.value)
    else option_map (λ attributes. record c { attributes = attributes }) (with_attribute c.attributes a))))

-- Each is tried as it comes, and the last value of a name holds. That a unit has eight sectors is tried at the end.
abbrev pub created_with : Creation → List s.Attribute → Result Creation r.Refusal
created_with c [] = if is_sector c.shape.sector c.shape.au then Ok c else Err (r.BadAttribute (codes "au_size"))
created_with c (a ∷ attributes) = elim (with_creation_attribute c a) [
  | None ↦ Err (r.BadAttribute a.name)
  | Some next ↦ created_with next attributes
]

abbrev pub creation : Option GroupKind → List s.Attribute → Result Creation r.Refusal
creation kind attributes = created_with (usual_creation (unwrap_or kind Normal)) attributes
