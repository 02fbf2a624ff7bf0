-- Which edit of one group of the session a command asks for, by the session's place.
use Rattle.std.specs.Prelude.{◌≡◌, Bool, true, false, List, [], Option, Some, None, Result, Err}
use Rattle.refusal_lines.specs.Refusals.{meaning_of}
use Rattle.asm_base.specs.declared.path.Path.{Path}
use Rattle.refusal_lines.specs.declared.refusal.Refusal.{Refusal}
use Rattle.refusal_lines.specs.declared.refusal.Refusal.TheVariants as cause
use Rattle.asm_group.specs.Group.{Group}
use Rattle.asm_group.specs.Names as paths
use Rattle.asm_group.specs.Names.{Bytes, is_same_name}
use Rattle.asm_group.specs.Refusal as r
use Rattle.asm_world.specs.Command.{Command}
use Rattle.asm_world.specs.Edits as e
use Rattle.asm_world.specs.Paths.{target_from}
use Rattle.alias_edits.specs.Edits.{edit_meant}
use Rattle.alias_edits.specs.declared.editing.TreeEdit.{TreeEdit}
use Rattle.session.specs.catalog.TreePlans.{makes_node}
use Rattle.session.specs.edit_laws.Edits.{edited_by}
use Rattle.session.specs.group_files.GroupEdits.{is_group_edit}
use Rattle.session.specs.group_files.declared.edit.GroupEdit.{GroupEdit}
use Rattle.session.specs.group_files.declared.edit.GroupEdit.TheVariants.{Tree, Templates, SetAttribute}
use Rattle.world_steps.specs.Steps.{asks_edit, at_led, by_alias, change_of, makes_name}
use Rattle.name_commands.specs.NameEdits.{edit_at}
use Rattle.name_commands.specs.declared.names.AtPath.{AtPath}

-- The command is an edit that changes the group of a name so.
pub record AsksChange (place : List Bytes) (command : Command) (name : Bytes) (change : Group → Result Group r.Refusal) : Type 0 where
  pub is_edit : asks_edit command ≡ true
  pub asks : change_of place command ≡ Some (name, change)

-- the edit makes a name, and may want a block for its record
abbrev pub wants_record : GroupEdit → Bool
wants_record (Tree edit) = makes_node (edit_meant edit)
wants_record (Templates edit) = false
wants_record (SetAttribute name value) = false

-- The command asks for this edit of the group of a name.
pub record AsksForEdit (place : List Bytes) (command : Command) (name : Bytes) (edit : GroupEdit) : Type 0 where
  pub change : Group → Result Group r.Refusal
  pub asks : AsksChange place command name change
  pub same : (g : Group) → is_same_name g.name name ≡ true → change g ≡ edited_by g edit
  pub makes : wants_record edit ≡ true → makes_name command ≡ true

-- The command asks for an edit in vain: whatever the group of the name holds, it is refused so.
pub record AsksInVain (place : List Bytes) (command : Command) (name : Bytes) (refusal : Refusal) : Type 0 where
  pub change : Group → Result Group r.Refusal
  pub asks : AsksChange place command name change
  pub refused : (g : Group) → is_same_name g.name name ≡ true → change g ≡ Err (meaning_of (λ _. []) refusal)

-- The edit of names that a clause was read as, which is allowed. It is in vain where a path isn't one of the group.
abbrev pub AsksAsRead : List Bytes → Command → Bytes → Option TreeEdit → Type 0
AsksAsRead place command name None = AsksInVain place command name cause.NoName
AsksAsRead place command name (Some edit) = AsksForEdit place command name (Tree edit) × (is_group_edit (Tree edit) ≡ true)

-- The command asks for an edit of names of one kind, where the path of a verb leads.
pub record AsksAt (place : List Bytes) (command : Command) (path : Bytes) (kind : AtPath) : Type 0 where
  pub is_edit : asks_edit command ≡ true
  pub asks : change_of place command ≡ at_led (target_from place path) (λ p g. e.edited_group g (edit_at kind p))
  pub makes : (p : paths.Path) → makes_node (edit_at kind p) ≡ true → makes_name command ≡ true

-- The command asks for an alias at this path of a group, of the file to which the path of a verb leads.
pub record AsksAlias (place : List Bytes) (command : Command) (alias : Path) (path : Bytes) : Type 0 where
  pub asks : AsksChange place command alias.group (by_alias (target_from place path) alias.parts)
  pub makes : makes_name command ≡ true
