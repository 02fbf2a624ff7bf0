-- What an edit of a mounted group does that is one commit.
use Rattle.std.specs.Prelude.{◌≡◌, ◌⊎◌, List, Result, Err}
use Rattle.bay.specs.Image.{Same}
use Rattle.bay.specs.Moments.{Runs}
use Rattle.bay.specs.State.{BayState}
use Rattle.asm_group.specs.NewGroup.{templates_by_name}
use Rattle.asm_group.specs.TemplateEdits.{TemplateEdit, templates_edited}
use Rattle.asm_formats.specs.Items.{Key}
use Rattle.asm_base.specs.Records.{DirectoryRecord}
use Rattle.refusal_lines.specs.declared.refusal.Refusal.{Refusal}
use Rattle.group_engine.specs.catalog_tables.Tables.{Catalogued}
use Rattle.template_directory.specs.Meant.{IsTemplateEditRefusal}
use Rattle.group_engine.specs.Commits.{CommitsPlan}
use Rattle.group_engine.specs.Mounts.{MountedGroup}

-- No change is the edit, and nothing was done: no call on a disk was made, and each image is as it was.
pub record IsUnplanned (IsCause : Refusal → Type 0) (old : MountedGroup) (answer : Result (Unit {0}) Refusal) (new : MountedGroup)
    (s t : BayState) : Type 0 where
  pub refusal : Refusal
  pub answer_is : answer ≡ Err refusal
  pub cause : IsCause refusal
  pub group : new ≡ old
  pub calls : t.calls ≡ s.calls
  pub runs : Runs (λ slot. ⊥) Same s t

-- A change that is the edit was committed, or its commit was refused.
pub record IsCommitted (IsChange : List DirectoryRecord → List Key → Type 0) (old : MountedGroup) (answer : Result (Unit {0}) Refusal)
    (new : MountedGroup) (s t : BayState) : Type 0 where
  pub put : List DirectoryRecord
  pub gone : List Key
  pub change : IsChange put gone
  pub commits : CommitsPlan old put gone answer new s t

-- An edit was answered: it is refused, for such a cause, or one of these changes was committed, or its commit refused.
abbrev pub Edits : (List DirectoryRecord → List Key → Type 0) → (Refusal → Type 0) → MountedGroup → Result (Unit {0}) Refusal → MountedGroup
    → BayState → BayState → Type 0
Edits IsChange IsCause old answer new s t = IsUnplanned IsCause old answer new s t ⊎ IsCommitted IsChange old answer new s t

-- want of memory, or why the edit of the templates is refused
abbrev pub IsTemplateRefusal : Catalogued → TemplateEdit → Refusal → Type 0
IsTemplateRefusal c edit refusal = IsTemplateEditRefusal (templates_edited c.shape.kind (templates_by_name c.tables.templates.templates) edit) refusal
