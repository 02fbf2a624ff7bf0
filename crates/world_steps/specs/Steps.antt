-- What an edit of a group's names or settings is answered, by the world's edit.
use Rattle.std.specs.Prelude.{◌≡◌, ℕ, Bool, true, false, List, [], ◌∷◌, Option, Some, None, Result, Ok, Err, if◌then◌else◌}
use Rattle.std.specs.FinMap as maps
use Rattle.asm_group.specs.Group.{Group}
use Rattle.asm_group.specs.Names.{Bytes, Path, is_same_name}
use Rattle.asm_group.specs.Refusal as r
use Rattle.asm_world.specs.Below.{Below}
use Rattle.asm_world.specs.Causes.{HasCause}
use Rattle.asm_world.specs.Command as c
use Rattle.asm_world.specs.Edits as e
use Rattle.asm_world.specs.Paths.{target_from}
use Rattle.asm_world.specs.Reply.{Reply, Done, Refused}
use Rattle.asm_world.specs.Settings as t
use Rattle.asm_world.specs.Statement as s
use Rattle.asm_world.specs.Step.{HasMountedGroup, Step, edit_of}
use Rattle.asm_world.specs.Waits.{HasLines}
use Rattle.asm_world.specs.World.{SessionEntry, World, DismountedBy, entry_in, with_dismounted, with_group}

-- the reply may come, with its cause and its lines, and leads to this world
pub record MayAnswer (below : Below) (w : World) (command : c.Command) (reply : Reply) (new : World) : Type 0 where
  pub step : Step below w command reply new
  pub cause : HasCause below w command reply
  pub lines : HasLines below w command reply

-- ---- which commands edit names or settings

abbrev pub is_edit_clause : s.Clause → Bool
is_edit_clause (s.AddTemplate name words) = true
is_edit_clause (s.ModifyTemplate name words) = true
is_edit_clause (s.DropTemplate name) = true
is_edit_clause (s.SetAttribute attribute) = true
is_edit_clause (s.AddDirectory path) = true
is_edit_clause (s.DropDirectory path) = true
is_edit_clause (s.RenameDirectory old new) = true
is_edit_clause (s.AddAlias alias path) = true
is_edit_clause (s.RenameAlias old new) = true
is_edit_clause (s.DropAlias path) = true
is_edit_clause other = false

-- rm may take a file away, with all its bytes
abbrev pub is_edit_verb : c.Verb → Bool
is_edit_verb (c.MakeDirectory path) = true
is_edit_verb (c.MakeAlias path alias) = true
is_edit_verb (c.RemoveAlias path) = true
is_edit_verb other = false

abbrev pub asks_edit : c.Command → Bool
asks_edit (c.Said (s.Alter name clause)) = is_edit_clause clause
asks_edit (c.Asked verb) = is_edit_verb verb
asks_edit other = false

-- Such a command may want a block for the record of a new name.
abbrev pub makes_name : c.Command → Bool
makes_name (c.Said (s.Alter name (s.AddDirectory path))) = true
makes_name (c.Said (s.Alter name (s.AddAlias alias path))) = true
makes_name (c.Asked (c.MakeDirectory path)) = true
makes_name (c.Asked (c.MakeAlias path alias)) = true
makes_name other = false

-- ---- what becomes of a group: the one after the edit, or why it is refused

-- NoName where a path isn't one of the group
abbrev pub by_tree : Option e.TreeEdit → Group → Result Group r.Refusal
by_tree None g = Err r.NoName
by_tree (Some edit) g = e.edited_group g edit

abbrev pub by_clause : Bytes → s.Clause → Group → Result Group r.Refusal
by_clause name (s.AddTemplate template words) g = t.group_after_template_edit g (t.added_by template words)
by_clause name (s.ModifyTemplate template words) g = t.group_after_template_edit g (t.modified_by template words)
by_clause name (s.DropTemplate template) g = t.group_after_template_edit g (t.dropped_by template)
by_clause name (s.SetAttribute attribute) g = t.attribute_set g attribute
by_clause name other g = by_tree (edit_of name other) g

-- the alias of a file of its own group
abbrev pub by_alias : Option (Bytes × Path) → Path → Group → Result Group r.Refusal
by_alias None alias g = Err r.NoGroup
by_alias (Some (name, path)) alias g = if is_same_name name g.name then e.edited_group g (e.AddAliasEntry alias path) else Err r.NoName

-- ---- the group that a command names, and its edit

abbrev pub GroupChange : Type 0
GroupChange = Bytes × (Group → Result Group r.Refusal)

-- None where the path of a verb comes to `+`
abbrev pub at_led : Option (Bytes × Path) → (Path → Group → Result Group r.Refusal) → Option GroupChange
at_led None change = None
at_led (Some (name, path)) change = Some (name, change path)

abbrev pub verb_change : List Bytes → c.Verb → Option GroupChange
verb_change place (c.MakeDirectory path) = at_led (target_from place path) (λ p g. e.edited_group g (e.MakeDir p))
verb_change place (c.RemoveAlias path) = at_led (target_from place path) (λ p g. e.edited_group g (e.DropAliasEntry p))
verb_change place (c.MakeAlias path alias) = at_led (target_from place alias) (λ p g. by_alias (target_from place path) p g)
verb_change place other = None

-- By the session's place.
abbrev pub change_of : List Bytes → c.Command → Option GroupChange
change_of place (c.Said (s.Alter name clause)) = Some (name, by_clause name clause)
change_of place (c.Asked verb) = verb_change place verb
change_of place other = None

-- ---- an edit of a mounted group

-- the command asks for an edit of a mounted group
pub record EditAt (w : World) (command : c.Command) : Type 0 where
  pub is_edit : asks_edit command ≡ true
  pub name : Bytes
  pub change : Group → Result Group r.Refusal
  pub asks : change_of w.place command ≡ Some (name, change)
  pub id : ℕ
  pub group : Group
  pub has : HasMountedGroup w name id group

-- the world's group after it, or why it is refused
abbrev pub edited_in : {w : World} {command : c.Command} → EditAt w command → Result Group r.Refusal
edited_in at = at.change at.group

-- the id has the group before and the one after, and its group is dismounted by a disk
abbrev pub torn_world : World → ℕ → Bytes → Group → Group → Bytes → World
torn_world w id name g h disk = record w { groups = maps.insert w.groups id (g ∷ h ∷ []); session = with_dismounted w.session name disk }

pub record AnswersEdits : Type 0 where
  pub done : (below : Below) (w : World) (command : c.Command) (at : EditAt w command) (h : Group) → edited_in at ≡ Ok h → MayAnswer below w command (Done []) (with_group w at.id h)
  pub refused : (below : Below) (w : World) (command : c.Command) (at : EditAt w command) (cause : r.Refusal) → edited_in at ≡ Err cause → MayAnswer below w command (Refused [] cause) w
  -- no block is free for the record of a new name
  pub full : (below : Below) (w : World) (command : c.Command) (at : EditAt w command) (h : Group) (need free : ℕ) → makes_name command ≡ true → edited_in at ≡ Ok h
      → MayAnswer below w command (Refused [] (r.DirectoryFull need free)) w
  -- its commit dismounts the group
  pub dismounted : (below : Below) (w : World) (command : c.Command) (at : EditAt w command) (h : Group) (disk : Bytes) → edited_in at ≡ Ok h
      → MayAnswer below w command (Refused [] (r.Dismounted disk)) (torn_world w at.id at.name at.group h disk)

-- ---- where no mounted group is there to edit

pub record AnswersNone : Type 0 where
  pub nowhere : (below : Below) (w : World) (command : c.Command) → asks_edit command ≡ true → change_of w.place command ≡ None → MayAnswer below w command (Refused [] r.NoGroup) w
  pub absent : (below : Below) (w : World) (command : c.Command) (name : Bytes) (change : Group → Result Group r.Refusal) → asks_edit command ≡ true → change_of w.place command ≡ Some (name, change) → entry_in w name ≡ None
      → MayAnswer below w command (Refused [] r.NoGroup) w
  pub out : (below : Below) (w : World) (command : c.Command) (name : Bytes) (change : Group → Result Group r.Refusal) (entry : SessionEntry) (disk : Bytes) → asks_edit command ≡ true
      → change_of w.place command ≡ Some (name, change) → entry_in w name ≡ Some entry → entry.state ≡ DismountedBy disk → MayAnswer below w command (Refused [] (r.Dismounted disk)) w

-- ---- refusals of an edit

-- the refusal tells a disk
abbrev pub tells_disk : r.Refusal → Bool
tells_disk (r.NoDisk text) = true
tells_disk (r.TooSmall name need) = true
tells_disk (r.MissingDisks name) = true
tells_disk (r.ReadFault name) = true
tells_disk (r.WriteFault name) = true
tells_disk (r.Dismounted name) = true
tells_disk (r.DiskState name mode) = true
tells_disk (r.HoldsStatus name) = true
tells_disk (r.HoldsDirectories name) = true
tells_disk other = false

-- What refuses an edit in the world tells no disk.
abbrev pub TellsNoDisk : Type 0
TellsNoDisk = (place : List Bytes) (command : c.Command) (name : Bytes) (change : Group → Result Group r.Refusal) (g : Group) (cause : r.Refusal) → asks_edit command ≡ true → change_of place command ≡ Some (name, change)
    → change g ≡ Err cause → tells_disk cause ≡ false
