-- What commands ask for that are edits of a group's names or settings.
use Rattle.std.proofs.Common.{◌≡◌, ◌&&◌, ℕ, Bool, true, false, List, [], Option, Some, None, Result, Ok, Err, refl, sym, ◌∙◌, ap, subst}
use Rattle.std.specs.Prelude.{IfOk, if◌then◌else◌}
use Rattle.std.specs.Option.{option_map}
use Rattle.std.specs.Cmp.Lexicographic.{nat_list_eq_equiv}
use Rattle.std.proofs.lemmas.Bool.{false≢true, true≢false}
use Rattle.std.proofs.lemmas.Option.{none-some, same_Some}
use Rattle.asm_base.specs.Names.{name_of}
use Rattle.refusal_lines.specs.Refusals.{meaning_of}
use Rattle.asm_base.specs.declared.path.Path as code
use Rattle.refusal_lines.specs.declared.refusal.Refusal.{Refusal}
use Rattle.refusal_lines.specs.declared.refusal.Refusal.TheVariants as cause
use Rattle.asm_group.specs.Group.{Group}
use Rattle.asm_group.specs.Names.{Bytes, Path, folded, is_name, is_part, is_same_name}
use Rattle.asm_group.specs.Refusal as r
use Rattle.asm_world.specs.Below.{GroupBelow}
use Rattle.asm_world.specs.Command as c
use Rattle.asm_world.specs.Command.{Command, Said, Asked}
use Rattle.asm_world.specs.Edits as e
use Rattle.asm_world.specs.Language.{command_of}
use Rattle.asm_world.specs.Paths.{clause_path, target_from}
use Rattle.asm_world.specs.Settings as t
use Rattle.asm_world.specs.Statement as s
use Rattle.asm_world.specs.Step.{edit_of, on_path, on_paths}
use Rattle.asm_world.specs.World.{World}
use Rattle.alias_edits.specs.Edits.{edit_meant, is_tree_edit}
use Rattle.alias_edits.specs.declared.editing.TreeEdit.{TreeEdit}
use Rattle.alias_edits.specs.declared.editing.TreeEdit.TheVariants as tree
use Rattle.template_directory.specs.Meant as templates
use Rattle.session.specs.catalog.TreePlans.{keeps_files, makes_node}
use Rattle.session.specs.edit_laws.Edits.{edited_by}
use Rattle.session.specs.mounted_groups.Found.{Counts}
use Rattle.session.specs.group_files.declared.edit.GroupEdit.{GroupEdit}
use Rattle.session.specs.group_files.declared.edit.GroupEdit.TheVariants.{Tree, SetAttribute}
use Rattle.session.specs.group_of.Edits.{attribute_meant}
use Rattle.world_steps.specs.Steps.{asks_edit, at_led, by_alias, by_clause, by_tree, change_of, is_edit_clause, makes_name}
use Rattle.world_steps.proofs.Said.{attributes_have_parts, paths_have_parts}
use Rattle.name_commands.specs.Asking.{AsksAlias, AsksAsRead, AsksAt, AsksChange, AsksForEdit, AsksInVain, wants_record}
use Rattle.session.specs.Families as families
use Rattle.session.specs.Families.{IsRefused}
use Rattle.session.specs.Leading.{IsLedTo}
use Rattle.session.specs.Meaning.{meaning}
use Rattle.name_commands.specs.NameEdits.{edit_at}
use Rattle.session.specs.OnDisks.{NoWork, work_of}
use Rattle.name_commands.specs.declared.names.AtPath.{AtPath}
use Rattle.name_commands.specs.declared.names.AtPath.TheVariants as at
use Rattle.session.proofs.Entries.{flip}
use Rattle.session.proofs.Languages.{meaning_is}

-- ---- by the kind of command

-- What holds of each such command: it is an edit, it has no work on disks beside the world, and of its refusals no cause is
-- counted.
pub record IsEditAlone (c : Command) : Type 0 where
  pub edits : families.is_edit c ≡ true
  pub works : (w : World) (below : ℕ → GroupBelow) → work_of c w below ≡ NoWork
  pub counts : (paths : List Bytes) (cause : r.Refusal) (s t : Counts) → IsRefused paths c cause s t

clause_alone : (name : Bytes) (clause : s.Clause) → is_edit_clause clause ≡ true → IsEditAlone (Said (s.Alter name clause))
clause_alone name (s.AddTemplate template words) is = record { edits = refl; works = λ w below. refl; counts = λ paths cause s t. tt }
clause_alone name (s.ModifyTemplate template words) is = record { edits = refl; works = λ w below. refl; counts = λ paths cause s t. tt }
clause_alone name (s.DropTemplate template) is = record { edits = refl; works = λ w below. refl; counts = λ paths cause s t. tt }
clause_alone name (s.SetAttribute attribute) is = record { edits = refl; works = λ w below. refl; counts = λ paths cause s t. tt }
clause_alone name (s.AddDirectory path) is = record { edits = refl; works = λ w below. refl; counts = λ paths cause s t. tt }
clause_alone name (s.DropDirectory path) is = record { edits = refl; works = λ w below. refl; counts = λ paths cause s t. tt }
clause_alone name (s.RenameDirectory old new) is = record { edits = refl; works = λ w below. refl; counts = λ paths cause s t. tt }
clause_alone name (s.AddAlias alias path) is = record { edits = refl; works = λ w below. refl; counts = λ paths cause s t. tt }
clause_alone name (s.RenameAlias old new) is = record { edits = refl; works = λ w below. refl; counts = λ paths cause s t. tt }
clause_alone name (s.DropAlias path) is = record { edits = refl; works = λ w below. refl; counts = λ paths cause s t. tt }
clause_alone name other is = absurd (false≢true is)

pub edit_alone : (c : Command) → asks_edit c ≡ true → IsEditAlone c
edit_alone (Said (s.Alter name clause)) is = clause_alone name clause is
edit_alone (Asked (c.MakeDirectory path)) is = record { edits = refl; works = λ w below. refl; counts = λ paths cause s t. tt }
edit_alone (Asked (c.MakeAlias path alias)) is = record { edits = refl; works = λ w below. refl; counts = λ paths cause s t. tt }
edit_alone (Asked (c.RemoveAlias path)) is = record { edits = refl; works = λ w below. refl; counts = λ paths cause s t. tt }
edit_alone other is = absurd (false≢true is)

-- the text of one is taken for it
means : (text : Bytes) (command : Command) → command_of text ≡ command → asks_edit command ≡ true → meaning text ≡ command
means text command asked is = meaning_is text command asked

-- ---- clauses of names

-- the edit is allowed, and makes a name only where the command does
abbrev Suits : Command → e.TreeEdit → Type 0
Suits command meant = ((is_tree_edit meant && keeps_files meant) ≡ true) × (makes_node meant ≡ true → makes_name command ≡ true)

both : (parts : Bool) → parts ≡ true → (parts && true) ≡ true
both parts are = ap (λ (b : Bool). b && true) are

one_path : (P : e.TreeEdit → Type 0) (o : Option Path) (make : Path → e.TreeEdit) → ((p : Path) → o ≡ Some p → P (make p)) → (meant : e.TreeEdit) → on_path o make ≡ Some meant → P meant
one_path P None make each meant is = absurd (none-some meant is)
one_path P (Some p) make each meant is = subst P (same_Some (make p) meant is) (each p refl)

two_paths : (P : e.TreeEdit → Type 0) (o q : Option Path) (make : Path → Path → e.TreeEdit) → ((old new : Path) → o ≡ Some old → q ≡ Some new → P (make old new)) → (meant : e.TreeEdit) → on_paths o q make ≡ Some meant → P meant
two_paths P None q make each meant is = absurd (none-some meant is)
two_paths P (Some old) q make each meant is = one_path P q (make old) (λ new there. each old new refl there) meant is

clause_suits : (name : Bytes) (clause : s.Clause) (meant : e.TreeEdit) → edit_of name clause ≡ Some meant → Suits (Said (s.Alter name clause)) meant
clause_suits name (s.AddDirectory path) meant is =
    one_path (Suits (Said (s.Alter name (s.AddDirectory path)))) (clause_path name path) (λ p. e.MakeDir p) (λ p at. (both _ (paths_have_parts.clause name path p at), λ makes. refl)) meant is
clause_suits name (s.DropDirectory path) meant is =
    one_path (Suits (Said (s.Alter name (s.DropDirectory path)))) (clause_path name path) (λ p. e.DropDir p) (λ p at. (refl, λ makes. absurd (false≢true makes))) meant is
clause_suits name (s.RenameDirectory old new) meant is =
    two_paths (Suits (Said (s.Alter name (s.RenameDirectory old new)))) (clause_path name old) (clause_path name new) (λ p q. e.RenameDir p q)
    (λ p q from to. (both _ (paths_have_parts.clause name new q to), λ makes. absurd (false≢true makes))) meant is
clause_suits name (s.AddAlias alias path) meant is =
    two_paths (Suits (Said (s.Alter name (s.AddAlias alias path)))) (clause_path name alias) (clause_path name path) (λ p q. e.AddAliasEntry p q)
    (λ p q new there. (both _ (paths_have_parts.clause name alias p new), λ makes. refl)) meant is
clause_suits name (s.RenameAlias old new) meant is =
    two_paths (Suits (Said (s.Alter name (s.RenameAlias old new)))) (clause_path name old) (clause_path name new) (λ p q. e.RenameAliasEntry p q)
    (λ p q from to. (both _ (paths_have_parts.clause name new q to), λ makes. absurd (false≢true makes))) meant is
clause_suits name (s.DropAlias path) meant is =
    one_path (Suits (Said (s.Alter name (s.DropAlias path)))) (clause_path name path) (λ p. e.DropAliasEntry p) (λ p at. (refl, λ makes. absurd (false≢true makes))) meant is
clause_suits name other meant is = absurd (none-some meant is)

module _ (place : List Bytes) (text name : Bytes) (clause : s.Clause) (asked : command_of text ≡ Said (s.Alter name clause)) (is : is_edit_clause clause ≡ true) where
  abbrev command : Command
  command = Said (s.Alter name clause)

  changes : AsksChange place command name (by_clause name clause)
  changes = record { is_edit = is; asks = refl }

  -- the edit that a clause of names was read as, or none where a path isn't one of the group
  names_asked : ((g : Group) → by_clause name clause g ≡ by_tree (edit_of name clause) g) → (o : Option TreeEdit) → option_map edit_meant o ≡ edit_of name clause → AsksAsRead place (meaning text) name o
  unfolding meaning_of
  names_asked by o read = subst (λ (c : Command). AsksAsRead place c name o) (sym (means text command asked is)) (as_read o read)
    where
      as_read : (o : Option TreeEdit) → option_map edit_meant o ≡ edit_of name clause → AsksAsRead place command name o
      as_read None read = record { change = by_clause name clause; asks = changes; refused = λ g same. by g ∙ ap (λ (x : Option e.TreeEdit). by_tree x g) (sym read) }
      as_read (Some edit) read =
          let suits = clause_suits name clause (edit_meant edit) (sym read) in (
            record {
              change = by_clause name clause;
              asks = changes;
              same = λ g same. by g ∙ ap (λ (x : Option e.TreeEdit). by_tree x g) (sym read);
              makes = suits.1;
            },
            suits.0,
          )

  -- where it could be read
  pub clause_asked : {E : Type 0} → ((g : Group) → by_clause name clause g ≡ by_tree (edit_of name clause) g) → (read : Result (Option TreeEdit) E) → IfOk read (λ o. option_map edit_meant o ≡ edit_of name clause)
      → IfOk read (AsksAsRead place (meaning text) name)
  clause_asked by (Ok o) is = names_asked by o is
  clause_asked by (Err e) is = tt

  -- an edit that makes no name
  pub settings_asked : (edit : GroupEdit) → wants_record edit ≡ false → ((g : Group) → by_clause name clause g ≡ edited_by g edit) → AsksForEdit place (meaning text) name edit
  settings_asked edit none each = subst (λ (c : Command). AsksForEdit place c name edit) (sym (means text command asked is)) (record {
    change = by_clause name clause;
    asks = changes;
    same = λ g same. each g;
    makes = λ wants. absurd (true≢false (sym wants ∙ none));
  })

  -- one that is refused in each group
  pub settings_vain : (refusal : Refusal) → ((g : Group) → by_clause name clause g ≡ Err (meaning_of (λ _. []) refusal)) → AsksInVain place (meaning text) name refusal
  settings_vain refusal each = subst (λ (c : Command). AsksInVain place c name refusal) (sym (means text command asked is)) (record {
    change = by_clause name clause;
    asks = changes;
    refused = λ g same. each g;
  })

-- ---- templates and attributes

copies_allowed : (o : Option s.Redundancy) → templates.is_optional_redundancy (option_map t.copies_of o) ≡ true
copies_allowed None = refl
copies_allowed (Some s.Unprotected) = refl
copies_allowed (Some s.Mirror) = refl
copies_allowed (Some s.High) = refl

-- copies that words say may be those of a template
pub words_allowed : (name : Bytes) (words : s.TemplateWords) → is_name name ≡ true → (is_name name && templates.is_optional_redundancy (t.copies_in words)) ≡ true
words_allowed name words named = ap (λ (b : Bool). is_name name && b) (copies_allowed words.redundancy) ∙ both (is_name name) named

by_part : (part : Bool) (bytes name : Bytes) → Some name ≡ (if part then Some bytes else None) → name ≡ bytes
by_part true bytes name is = same_Some name bytes is
by_part false bytes name is = absurd (none-some name (sym is))

-- a name that was read is as it was written
read_same : (longest : ℕ) (bytes name : Bytes) → Some name ≡ name_of longest bytes → name ≡ bytes
read_same longest bytes name is = by_part (is_part longest bytes) bytes name is

no_part : (part : Bool) (bytes : Bytes) → None ≡ (if part then Some bytes else None) → part ≡ false
no_part true bytes is = absurd (none-some bytes is)
no_part false bytes is = refl

-- an attribute whose name was read is set so
pub attribute_read : (g : Group) (a : s.Attribute) (name value read : Bytes) → attribute_meant name value ≡ a → Some read ≡ name_of 255 name → t.attribute_set g a ≡ t.attribute_set g (attribute_meant read value)
attribute_read g a name value read is named = ap (λ (x : s.Attribute). t.attribute_set g x) (sym is) ∙ ap (λ (n : Bytes). t.attribute_set g (attribute_meant n value)) (sym (read_same 255 name read named))

-- one whose name can't be read isn't there
pub attribute_unread : (g : Group) (a : s.Attribute) (name value : Bytes) → attribute_meant name value ≡ a → None ≡ name_of 255 name → t.attribute_set g a ≡ Err (r.BadAttribute name)
attribute_unread g a name value is none =
    ap (λ (x : s.Attribute). t.attribute_set g x) (sym is)
    ∙ ap (t.with_attributes g name) (attributes_have_parts g.attributes (attribute_meant name value) (no_part (is_part 255 name) name none))

-- ---- verbs

pub mkdir_asked : (place : List Bytes) (text path : Bytes) → command_of text ≡ Asked (c.MakeDirectory path) → AsksAt place (meaning text) path at.MakeDir
mkdir_asked place text path asked = subst (λ (c : Command). AsksAt place c path at.MakeDir) (sym (means text (Asked (c.MakeDirectory path)) asked refl)) (record { is_edit = refl; asks = refl; makes = λ p makes. refl })

pub rmalias_asked : (place : List Bytes) (text path : Bytes) → command_of text ≡ Asked (c.RemoveAlias path) → AsksAt place (meaning text) path at.DropAlias
rmalias_asked place text path asked = subst (λ (c : Command). AsksAt place c path at.DropAlias) (sym (means text (Asked (c.RemoveAlias path)) asked refl))
    (record { is_edit = refl; asks = refl; makes = λ p makes. absurd (false≢true makes) })

module _ (place : List Bytes) (command : Command) (path : Bytes) (kind : AtPath) (asks : AsksAt place command path kind) where
  abbrev edits_there : Path → Group → Result Group r.Refusal
  edits_there p g = e.edited_group g (edit_at kind p)

  -- in the group to which its path leads, under a copy of its name
  pub led_asked : (led : code.Path) (name : Bytes) → IsLedTo place path led → name ≡ led.group → (edit : TreeEdit) → edit_meant edit ≡ edit_at kind led.parts → AsksForEdit place command name (Tree edit)
  led_asked led name leads copied edit meant = record {
    change = edits_there led.parts;
    asks = record {
      is_edit = asks.is_edit;
      asks = asks.asks ∙ ap (λ (o : Option (Bytes × Path)). at_led o edits_there) leads ∙ ap (λ (n : Bytes). Some (n, edits_there led.parts)) (sym copied);
    };
    same = λ g same. ap (λ (x : e.TreeEdit). e.edited_group g x) (sym meant);
    makes = λ wants. asks.makes led.parts (ap makes_node (sym meant) ∙ wants);
  }

  -- nowhere, where its path leads into no group
  pub led_nowhere : target_from place path ≡ None → change_of place command ≡ None
  led_nowhere none = asks.asks ∙ ap (λ (o : Option (Bytes × Path)). at_led o edits_there) none

-- ---- mkalias

module _ (place : List Bytes) (text path alias : Bytes) (asked : command_of text ≡ Asked (c.MakeAlias path alias)) where
  mkalias_meant : meaning text ≡ Asked (c.MakeAlias path alias)
  mkalias_meant = means text (Asked (c.MakeAlias path alias)) asked refl

  pub mkalias_edits : asks_edit (meaning text) ≡ true
  mkalias_edits = ap asks_edit mkalias_meant

  abbrev aliased : Path → Group → Result Group r.Refusal
  aliased p g = by_alias (target_from place path) p g

  pub mkalias_asked : (led : code.Path) → IsLedTo place alias led → AsksAlias place (meaning text) led path
  mkalias_asked led leads = subst (λ (c : Command). AsksAlias place c led path) (sym mkalias_meant)
      (record { asks = record { is_edit = refl; asks = ap (λ (o : Option (Bytes × Path)). at_led o aliased) leads }; makes = refl })

  pub mkalias_nowhere : target_from place alias ≡ None → change_of place (meaning text) ≡ None
  mkalias_nowhere none = ap (change_of place) mkalias_meant ∙ ap (λ (o : Option (Bytes × Path)). at_led o aliased) none

-- whatever the case of its letters
same_alike : (name other own : Bytes) (t : Bool) → is_same_name own other ≡ true → is_same_name name other ≡ t → is_same_name name own ≡ t
same_alike name other own t same is = flip own name t (nat_list_eq_equiv.congr (folded own) (folded other) (folded name) same ∙ flip name other t is)

module _ (place : List Bytes) (command : Command) (alias : code.Path) (path name : Bytes) (asks : AsksAlias place command alias path) (copied : name ≡ alias.group) where
  abbrev by_file : Option (Bytes × Path) → Group → Result Group r.Refusal
  by_file o g = by_alias o alias.parts g

  changes_by : (o : Option (Bytes × Path)) → o ≡ target_from place path → AsksChange place command name (by_file o)
  changes_by o leads = record {
    is_edit = asks.asks.is_edit;
    asks = asks.asks.asks ∙ ap (λ (x : Option (Bytes × Path)). Some (alias.group, by_file x)) (sym leads) ∙ ap (λ (n : Bytes). Some (n, by_file o)) (sym copied);
  }

  -- the path of the file leads into no group
  pub alias_nowhere : None ≡ target_from place path → AsksInVain place command name cause.NoGroup
  unfolding meaning_of
  alias_nowhere leads = record { change = by_file None; asks = changes_by None leads; refused = λ g same. refl }

  -- it leads into another group
  pub alias_elsewhere : (file : code.Path) → Some (file.group, file.parts) ≡ target_from place path → is_same_name file.group name ≡ false → AsksInVain place command name cause.NoName
  unfolding meaning_of
  alias_elsewhere file leads other = record {
    change = by_file (Some (file.group, file.parts));
    asks = changes_by (Some (file.group, file.parts)) leads;
    refused = λ g same. ap (λ (b : Bool). if b then e.edited_group g (e.AddAliasEntry alias.parts file.parts) else Err r.NoName) (same_alike file.group name g.name false same other);
  }

  -- it leads into the alias's group
  pub alias_asked : (file : code.Path) → Some (file.group, file.parts) ≡ target_from place path → is_same_name file.group name ≡ true → AsksForEdit place command name (Tree (tree.AddAlias alias file))
  alias_asked file leads own = record {
    change = by_file (Some (file.group, file.parts));
    asks = changes_by (Some (file.group, file.parts)) leads;
    same = λ g same. ap (λ (b : Bool). if b then e.edited_group g (e.AddAliasEntry alias.parts file.parts) else Err r.NoName) (same_alike file.group name g.name true same own);
    makes = λ wants. asks.makes;
  }
