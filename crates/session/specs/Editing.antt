-- What an edit of one group of the session does.
use Rattle.std.specs.Prelude.{Result}
use Rattle.refusal_lines.specs.declared.refusal.Refusal.{Refusal}
use Rattle.asm_group.specs.Names.{Bytes}
use Rattle.bay.specs.State.{BayState}
use Rattle.group_contents.specs.group_engine.Own.{KeepsGroup}
use Rattle.session_claims.specs.group_files.Edits.{Edits}
use Rattle.session_claims.specs.group_files.GroupEdits.{IsEditPlan, IsEditRefusal}
use Rattle.session_claims.specs.group_files.declared.edit.GroupEdit.{GroupEdit}
use Rattle.session.specs.Sessions.{SessionView}
use Rattle.session.specs.Works.{DoesWork, Doing}

-- the group stays what it is, and its catalog is edited, or the edit is refused
abbrev pub EditDoes : GroupEdit → Doing (Unit {0})
EditDoes edit before answer after s t = KeepsGroup before after s t × Edits (IsEditPlan before.catalog edit) (IsEditRefusal before.catalog edit) before answer after s t

-- The mounted group of the name was edited, or the edit was refused.
abbrev pub EditsGroup : Bytes → GroupEdit → Result (Unit {0}) Refusal → SessionView → SessionView → BayState → BayState → Type 0
EditsGroup name edit = DoesWork name (EditDoes edit)
