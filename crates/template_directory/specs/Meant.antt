-- What the code's edits and refusals mean.
use Rattle.std.specs.Prelude.{◌≡◌, ◌⊎◌, ℕ, Bool, true, ◌&&◌, not, nat_le, List, [], ◌∷◌, length, Option, Some, None, Result, Err, is_some, is_none}
use Rattle.asm_group.specs.declared.GroupKind.{GroupKind}
use Rattle.asm_group.specs.Names.{ByName, is_name}
use Rattle.asm_group.specs.Group.{Template}
use Rattle.asm_group.specs.Refusal as r
use Rattle.asm_formats.specs.Items.{is_redundancy}
use Rattle.refusal_lines.specs.declared.refusal.Refusal.{Refusal}
use Rattle.refusal_lines.specs.Refusals.{meaning_of}
use Rattle.template_directory.specs.declared.editing.TemplateEdit.{TemplateEdit}
use Rattle.template_directory.specs.declared.editing.TemplateEdit.TheVariants as code
use Rattle.asm_group.specs.Causes.{Causes, first_cause}
use Rattle.asm_group.specs.TemplateEdits as e
use Rattle.template_directory.specs.Tables.{template_named}

abbrev pub template_edit_meant : TemplateEdit → e.TemplateEdit
template_edit_meant (code.Add name copies stripe) = e.Add name copies stripe
template_edit_meant (code.Modify name copies stripe) = e.Modify name copies stripe
template_edit_meant (code.Drop name) = e.Drop name

-- copies that are said are one, two or three
abbrev pub is_optional_redundancy : Option ℕ → Bool
is_optional_redundancy None = true
is_optional_redundancy (Some n) = is_redundancy n

-- the name is one of the grammar, and the copies are such as a template may have
abbrev pub is_template_edit : e.TemplateEdit → Bool
is_template_edit (e.Add name copies stripe) = is_name name && is_optional_redundancy copies
is_template_edit (e.Modify name copies stripe) = is_name name && is_optional_redundancy copies
is_template_edit (e.Drop name) = true

-- a refusal as it is said; those of templates name no disk
abbrev pub refusal_said : Refusal → r.Refusal
refusal_said cause = meaning_of (λ n. []) cause

-- want of memory, or why the edit is refused
abbrev pub IsTemplateEditRefusal : Result (ByName Template) r.Refusal → Refusal → Type 0
IsTemplateEditRefusal edited cause = (refusal_said cause ≡ r.NoMemory) ⊎ (edited ≡ Err (refusal_said cause))

-- the same tests, on the list of the templates
abbrev pub listed_causes : GroupKind → List Template → e.TemplateEdit → Causes
listed_causes kind ts (e.Add name copies stripe) =
    (is_some (template_named name ts), r.NameTaken) ∷ (not (e.allows_copies kind (e.said_copies kind copies)), r.BadRedundancy)
    ∷ (nat_le 64 (length ts), r.TooMany r.Templates 64) ∷ []
listed_causes kind ts (e.Modify name copies stripe) =
    (is_none (template_named name ts), r.NoTemplate) ∷ (not (e.allows_copies kind (e.said_copies kind copies)), r.BadRedundancy) ∷ []
listed_causes kind ts (e.Drop name) =
    (is_none (template_named name ts), r.NoTemplate) ∷ (e.is_system_template (template_named name ts), r.SystemTemplate) ∷ []

-- the refusal of an edit of this list, or None
abbrev pub listed_cause : GroupKind → List Template → e.TemplateEdit → Option r.Refusal
listed_cause kind ts edit = first_cause (listed_causes kind ts edit)
