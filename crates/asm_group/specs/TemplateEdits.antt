-- The edits of a group's templates, and the refusals of each in the order in which they are tried.
use Rattle.std.specs.Prelude.{ℕ, Bool, true, false, ◌==◌, not, nat_le, [], ◌∷◌, Option, Some, None, is_some, is_none, unwrap_or, Result}
use Rattle.std.specs.FinMap as maps
use Rattle.asm_group.specs.declared.GroupKind.{GroupKind}
use Rattle.asm_group.specs.declared.GroupKind.TheVariants.{External, Normal, High}
use Rattle.asm_group.specs.declared.Stripe.{Stripe}
use Rattle.asm_group.specs.Names.{Bytes, ByName, folded}
use Rattle.asm_group.specs.Group.{Template}
use Rattle.asm_group.specs.NewGroup.{usual_copies}
use Rattle.asm_group.specs.Refusal as r
use Rattle.asm_group.specs.Causes.{Causes, first_cause, unless_refused}

-- what stands at each folded name
abbrev pub Templates : Type 0
Templates = ByName Template

-- copies are None where the statement says none
pub data TemplateEdit : Type 0 where
  Add : (name : Bytes) (copies : Option ℕ) (stripe : Stripe) → TemplateEdit
  Modify : (name : Bytes) (copies : Option ℕ) (stripe : Stripe) → TemplateEdit
  Drop : (name : Bytes) → TemplateEdit

-- EXTERNAL allows one copy alone, HIGH three alone and NORMAL each number.
abbrev pub allows_copies : GroupKind → ℕ → Bool
allows_copies External copies = copies == 1
allows_copies Normal copies = true
allows_copies High copies = copies == 3

-- the copies that are said, or those that the group's kind usually has
abbrev pub said_copies : GroupKind → Option ℕ → ℕ
said_copies kind copies = unwrap_or copies (usual_copies kind)

abbrev pub is_system_template : Option Template → Bool
is_system_template None = false
is_system_template (Some t) = t.system

abbrev pub template_at : Templates → Bytes → Option Template
template_at templates name = maps.get templates (folded name)

-- the name as the template that is there spells it
abbrev pub spelt_template : Option Template → Bytes → Bytes
spelt_template None name = name
spelt_template (Some t) name = t.name

abbrev pub template_causes : GroupKind → Templates → TemplateEdit → Causes
template_causes kind templates (Add name copies stripe) =
    (is_some (template_at templates name), r.NameTaken) ∷ (not (allows_copies kind (said_copies kind copies)), r.BadRedundancy)
    ∷ (nat_le 64 (maps.len templates), r.TooMany r.Templates 64) ∷ []
template_causes kind templates (Modify name copies stripe) =
    (is_none (template_at templates name), r.NoTemplate) ∷ (not (allows_copies kind (said_copies kind copies)), r.BadRedundancy) ∷ []
template_causes kind templates (Drop name) =
    (is_none (template_at templates name), r.NoTemplate) ∷ (is_system_template (template_at templates name), r.SystemTemplate) ∷ []

abbrev pub with_template : GroupKind → Templates → Bytes → Option ℕ → Stripe → Bool → Templates
with_template kind templates name copies stripe system =
    maps.insert templates (folded name) (record { name = name; copies = said_copies kind copies; stripe = stripe; system = system })

abbrev pub with_template_edit : GroupKind → Templates → TemplateEdit → Templates
with_template_edit kind templates (Add name copies stripe) = with_template kind templates name copies stripe false
with_template_edit kind templates (Modify name copies stripe) =
    with_template kind templates (spelt_template (template_at templates name) name) copies stripe (is_system_template (template_at templates name))
with_template_edit kind templates (Drop name) = maps.remove templates (folded name)

-- The templates after the edit, or why it is refused.
abbrev pub templates_edited : GroupKind → Templates → TemplateEdit → Result Templates r.Refusal
templates_edited kind templates edit =
    unless_refused (first_cause (template_causes kind templates edit)) (with_template_edit kind templates edit)
