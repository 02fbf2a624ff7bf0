-- Each command that edits names or settings as tests of its group, with a commit behind them.
use Rattle.std.proofs.Common.{◌≡◌, inl, inr, ℕ, Bool, true, false, List, [], ◌∷◌, ◌++◌, Option, Some, None, Result, Ok, Err, refl, sym, ◌∙◌, ap, subst}
use Rattle.std.specs.Prelude.{⊤, not, if◌then◌else◌}
use Rattle.std.specs.Cmp.Lexicographic.{nat_list_eq_equiv}
use Rattle.std.proofs.lemmas.Bool.{false≢true}
use Rattle.std.proofs.lemmas.Option.{none-some, same_Some}
use Rattle.asm_group.specs.Causes.{Causes as Tests, first_cause, unless_refused}
use Rattle.asm_group.specs.Group.{Attributes, Group}
use Rattle.asm_group.specs.Names.{Bytes, Path, folded, is_same_name}
use Rattle.asm_group.specs.Refusal as r
use Rattle.asm_group.specs.TemplateEdits as te
use Rattle.asm_world.specs.Below.{Below}
use Rattle.asm_world.specs.Between.{group_name_of, groups_named}
use Rattle.asm_world.specs.Causes.{Cause, May, IsCaused, alias_causes, at_target, by_result, causes, clause_causes, commit_causes, decided, in_group, may, template_clause_causes, tested_causes, tree_causes}
use Rattle.asm_world.specs.Command as c
use Rattle.asm_world.specs.Edits as e
use Rattle.asm_world.specs.Paths.{clause_path, target_from}
use Rattle.asm_world.specs.Reply.{Done, Refused}
use Rattle.asm_world.specs.Settings as t
use Rattle.asm_world.specs.Numbers as code
use Rattle.asm_world.specs.Statement as s
use Rattle.asm_world.specs.Step.{AddsAlias, ChangesNames, ChangesTemplates, DoneClause, DoneCommand, EditsTree, HasMountedGroup, edit_of, on_path, on_paths}
use Rattle.asm_world.specs.Waits.{HasLines}
use Rattle.asm_world.specs.World.{World, with_group}
use Rattle.world_steps.specs.Steps.{GroupChange, asks_edit, at_led, by_alias, by_clause, by_tree, change_of, is_edit_clause, is_edit_verb, makes_name, verb_change}
use Rattle.world_steps.proofs.Tests.{all_plain}

-- ---- a command as tests of its group

-- what may come behind the tests: a commit, and where it makes a name perhaps want of a block
abbrev pub commit : Bool → List Cause
commit true = may (code.directory_full ∷ code.dismounted ∷ [])
commit false = May code.dismounted ∷ []

pub decided_commit : (makes : Bool) → decided (commit makes) ≡ None
decided_commit true = refl
decided_commit false = refl

pub commit_dismounts : (makes : Bool) (disk : Bytes) → IsCaused (commit makes) (r.Dismounted disk)
commit_dismounts true disk = inr (inl refl)
commit_dismounts false disk = inl refl

pub commit_full : (makes : Bool) (need free : ℕ) → makes ≡ true → IsCaused (commit makes) (r.DirectoryFull need free)
commit_full true need free is = inl refl
commit_full false need free is = absurd (false≢true is)

-- the causes are the tests, and the commit where none is true
pub record Parts (makes : Bool) (list : List Cause) (ts : Tests) : Type 0 where
  pub rest : List Cause
  pub split : list ≡ tested_causes ts ++ rest
  pub commits : first_cause ts ≡ None → rest ≡ commit makes

-- The command changes the group that it names so, by its tests.
pub record Edit (w : World) (command : c.Command) (asked : GroupChange) : Type 0 where
  pub named : groups_named w command ≡ asked.0 ∷ []
  -- its causes in a mounted group
  pub list_of : Group → List Cause
  pub causes_are : (below : Below) → causes below w command ≡ in_group w asked.0 list_of
  pub tests_of : Group → Tests
  pub parts : (g : Group) → Parts (makes_name command) (list_of g) (tests_of g)
  pub all_are : (g : Group) → all_plain (tests_of g) ≡ true
  pub changed : Group → Group
  pub change_is : (g : Group) → asked.1 g ≡ unless_refused (first_cause (tests_of g)) (changed g)
  pub done : (below : Below) (id : ℕ) (g h : Group) → HasMountedGroup w asked.0 id g → asked.1 g ≡ Ok h → DoneCommand below w command [] (with_group w id h)
  pub lines : (below : Below) → HasLines below w command (Done []) × ((cause : r.Refusal) → HasLines below w command (Refused [] cause))

-- ---- edits of names

-- NoName where a path isn't one of the group, else the tests of the edit
abbrev tree_tests : Option e.TreeEdit → Group → Tests
tree_tests None g = (true, r.NoName) ∷ []
tree_tests (Some edit) g = e.group_edit_causes g edit

abbrev tree_changed : Option e.TreeEdit → Group → Group
tree_changed None g = g
tree_changed (Some edit) g = e.changed_group g edit

abbrev Commits : Bool → Option e.TreeEdit → Type 0
Commits makes None = ⊤
Commits makes (Some edit) = commit_causes edit ≡ commit makes

tree_parts : (makes : Bool) (o : Option e.TreeEdit) (g : Group) → Commits makes o → Parts makes (tree_causes g o) (tree_tests o g)
tree_parts makes None g is = record { rest = []; split = refl; commits = λ none. absurd (none-some r.NoName (sym none)) }
tree_parts makes (Some edit) g is = record { rest = commit_causes edit; split = refl; commits = λ none. is }

plain_edit : (g : Group) (edit : e.TreeEdit) → all_plain (e.group_edit_causes g edit) ≡ true
plain_edit g (e.MakeDir path) = refl
plain_edit g (e.DropDir path) = refl
plain_edit g (e.RenameDir old new) = refl
plain_edit g (e.AddAliasEntry alias path) = refl
plain_edit g (e.RenameAliasEntry old new) = refl
plain_edit g (e.DropAliasEntry path) = refl
plain_edit g other = refl

plain_tree : (o : Option e.TreeEdit) (g : Group) → all_plain (tree_tests o g) ≡ true
plain_tree None g = refl
plain_tree (Some edit) g = plain_edit g edit

tree_is : (o : Option e.TreeEdit) (g : Group) → by_tree o g ≡ unless_refused (first_cause (tree_tests o g)) (tree_changed o g)
tree_is None g = refl
tree_is (Some edit) g = refl

tree_done : (o : Option e.TreeEdit) (g h : Group) → by_tree o g ≡ Ok h → EditsTree o g h
tree_done None g h is = absurd cc
tree_done (Some edit) g h is = is

commits_at : (makes : Bool) (f : Path → e.TreeEdit) → ((p : Path) → commit_causes (f p) ≡ commit makes) → (o : Option Path) → Commits makes (on_path o f)
commits_at makes f is None = tt
commits_at makes f is (Some p) = is p

commits_at_both : (makes : Bool) (f : Path → Path → e.TreeEdit) → ((p q : Path) → commit_causes (f p q) ≡ commit makes) → (o other : Option Path) → Commits makes (on_paths o other f)
commits_at_both makes f is None other = tt
commits_at_both makes f is (Some p) None = tt
commits_at_both makes f is (Some p) (Some q) = is p q

-- ---- the alias of a file of its own group

abbrev alias_tests : Option (Bytes × Path) → Path → Group → Tests
alias_tests None alias g = (true, r.NoGroup) ∷ []
alias_tests (Some (name, path)) alias g = (not (is_same_name name g.name), r.NoName) ∷ e.group_edit_causes g (e.AddAliasEntry alias path)

abbrev alias_changed : Option (Bytes × Path) → Path → Group → Group
alias_changed None alias g = g
alias_changed (Some (name, path)) alias g = e.changed_group g (e.AddAliasEntry alias path)

alias_parts : (o : Option (Bytes × Path)) (alias : Path) (g : Group) → Parts true (alias_causes o g.name alias g) (alias_tests o alias g)
alias_parts None alias g = record { rest = []; split = refl; commits = λ none. absurd (none-some r.NoGroup (sym none)) }
alias_parts (Some (name, path)) alias g = record { rest = commit true; split = refl; commits = λ none. refl }

plain_alias : (o : Option (Bytes × Path)) (alias : Path) (g : Group) → all_plain (alias_tests o alias g) ≡ true
plain_alias None alias g = refl
plain_alias (Some (name, path)) alias g = refl

if_same : (same : Bool) (ts : Tests) (h : Group) → (if same then unless_refused (first_cause ts) h else Err r.NoName) ≡ unless_refused (first_cause ((not same, r.NoName) ∷ ts)) h
if_same true ts h = refl
if_same false ts h = refl

alias_is : (o : Option (Bytes × Path)) (alias : Path) (g : Group) → by_alias o alias g ≡ unless_refused (first_cause (alias_tests o alias g)) (alias_changed o alias g)
alias_is None alias g = refl
alias_is (Some (name, path)) alias g = if_same (is_same_name name g.name) (e.group_edit_causes g (e.AddAliasEntry alias path)) (e.changed_group g (e.AddAliasEntry alias path))

flip : (a b : Bytes) → is_same_name a b ≡ true → is_same_name b a ≡ true
flip a b is = nat_list_eq_equiv.symm (folded b) (folded a) ∙ is

then_same : (same : Bool) (result : Result Group r.Refusal) (h : Group) → (if same then result else Err r.NoName) ≡ Ok h → (same ≡ true) × (result ≡ Ok h)
then_same true result h is = (refl, is)
then_same false result h is = absurd cc

alias_done : (o : Option (Bytes × Path)) (alias : Path) (g h : Group) → by_alias o alias g ≡ Ok h → AddsAlias o alias g h
alias_done None alias g h is = absurd cc
alias_done (Some (name, path)) alias g h is =
    let same = then_same (is_same_name name g.name) (e.edited_group g (e.AddAliasEntry alias path)) h is in
    (flip name g.name same.0, same.1)

-- ---- edits of templates, and attributes

plain_template : (g : Group) (edit : t.TemplateEdit) → all_plain (t.group_template_causes g edit) ≡ true
plain_template g (te.Add name copies stripe) = refl
plain_template g (te.Modify name copies stripe) = refl
plain_template g (te.Drop name) = refl

abbrev result_tests : Result Group r.Refusal → Tests
result_tests (Ok h) = []
result_tests (Err cause) = (true, cause) ∷ []

abbrev result_changed : Result Group r.Refusal → Group → Group
result_changed (Ok h) g = h
result_changed (Err cause) g = g

result_parts : (result : Result Group r.Refusal) → Parts false (by_result result ++ May code.dismounted ∷ []) (result_tests result)
result_parts (Ok h) = record { rest = commit false; split = refl; commits = λ none. refl }
result_parts (Err cause) = record { rest = commit false; split = refl; commits = λ none. refl }

result_is : (result : Result Group r.Refusal) (g : Group) → result ≡ unless_refused (first_cause (result_tests result)) (result_changed result g)
result_is (Ok h) g = refl
result_is (Err cause) g = refl

plain_attribute : (g : Group) (name : Bytes) (o : Option Attributes) → all_plain (result_tests (t.with_attributes g name o)) ≡ true
plain_attribute g name None = refl
plain_attribute g name (Some attributes) = refl

-- ---- clauses

module _ (w : World) (name : Bytes) (clause : s.Clause) where
  abbrev NoLines : Type 0
  NoLines = (below : Below) → HasLines below w (c.Said (s.Alter name clause)) (Done []) × ((cause : r.Refusal) → HasLines below w (c.Said (s.Alter name clause)) (Refused [] cause))

  tree_clause : ((below : Below) → clause_causes below w name clause ≡ in_group w name (λ g. tree_causes g (edit_of name clause)))
      → Commits (makes_name (c.Said (s.Alter name clause))) (edit_of name clause)
      → ((below : Below) (new : World) → ChangesNames w name clause [] new → DoneClause below w name clause [] new) → NoLines
      → Edit w (c.Said (s.Alter name clause)) (name, by_tree (edit_of name clause))
  tree_clause are commits done lines = record {
    named = refl;
    list_of = λ g. tree_causes g (edit_of name clause);
    causes_are = are;
    tests_of = tree_tests (edit_of name clause);
    parts = λ g. tree_parts (makes_name (c.Said (s.Alter name clause))) (edit_of name clause) g commits;
    all_are = plain_tree (edit_of name clause);
    changed = tree_changed (edit_of name clause);
    change_is = tree_is (edit_of name clause);
    done = λ below id g h has is. done below (with_group w id h) (record { id = id; old = g; changed = h; has = has; step_is = tree_done (edit_of name clause) g h is; is = refl }, refl);
    lines = lines;
  }

  template_clause : (edit : t.TemplateEdit) → ((below : Below) → clause_causes below w name clause ≡ template_clause_causes w name edit)
      → commit (makes_name (c.Said (s.Alter name clause))) ≡ commit false
      → ((below : Below) (new : World) → ChangesTemplates w name edit [] new → DoneClause below w name clause [] new) → NoLines
      → Edit w (c.Said (s.Alter name clause)) (name, λ g. t.group_after_template_edit g edit)
  template_clause edit are commits done lines = record {
    named = refl;
    list_of = λ g. tested_causes (t.group_template_causes g edit) ++ May code.dismounted ∷ [];
    causes_are = are;
    tests_of = λ g. t.group_template_causes g edit;
    parts = λ g. record { rest = May code.dismounted ∷ []; split = refl; commits = λ none. sym commits };
    all_are = λ g. plain_template g edit;
    changed = λ g. t.group_with_template_edit g edit;
    change_is = λ g. refl;
    done = λ below id g h has is. done below (with_group w id h) (record { id = id; old = g; changed = h; has = has; step_is = is; is = refl }, refl);
    lines = lines;
  }

attribute_clause : (w : World) (name : Bytes) (a : s.Attribute) → Edit w (c.Said (s.Alter name (s.SetAttribute a))) (name, λ g. t.attribute_set g a)
attribute_clause w name a = record {
  named = refl;
  list_of = λ g. by_result (t.attribute_set g a) ++ May code.dismounted ∷ [];
  causes_are = λ below. refl;
  tests_of = λ g. result_tests (t.attribute_set g a);
  parts = λ g. result_parts (t.attribute_set g a);
  all_are = λ g. plain_attribute g a.name (t.with_attribute g.attributes a);
  changed = λ g. result_changed (t.attribute_set g a) g;
  change_is = λ g. result_is (t.attribute_set g a) g;
  done = λ below id g h has is. (record { id = id; old = g; changed = h; has = has; step_is = is; is = refl }, refl);
  lines = λ below. (refl, λ cause. refl);
}

clause_edit : (w : World) (name : Bytes) (clause : s.Clause) → is_edit_clause clause ≡ true → Edit w (c.Said (s.Alter name clause)) (name, by_clause name clause)
clause_edit w name (s.AddTemplate template words) edits =
    template_clause w name (s.AddTemplate template words) (t.added_by template words) (λ below. refl) refl (λ below new is. is) (λ below. (refl, λ cause. refl))
clause_edit w name (s.ModifyTemplate template words) edits =
    template_clause w name (s.ModifyTemplate template words) (t.modified_by template words) (λ below. refl) refl (λ below new is. is) (λ below. (refl, λ cause. refl))
clause_edit w name (s.DropTemplate template) edits =
    template_clause w name (s.DropTemplate template) (t.dropped_by template) (λ below. refl) refl (λ below new is. is) (λ below. (refl, λ cause. refl))
clause_edit w name (s.SetAttribute attribute) edits = attribute_clause w name attribute
clause_edit w name (s.AddDirectory path) edits =
    tree_clause w name (s.AddDirectory path) (λ below. refl) (commits_at true (λ p. e.MakeDir p) (λ p. refl) (clause_path name path)) (λ below new is. is) (λ below. (refl, λ cause. refl))
clause_edit w name (s.DropDirectory path) edits =
    tree_clause w name (s.DropDirectory path) (λ below. refl) (commits_at false (λ p. e.DropDir p) (λ p. refl) (clause_path name path)) (λ below new is. is) (λ below. (refl, λ cause. refl))
clause_edit w name (s.RenameDirectory old new) edits =
    tree_clause w name (s.RenameDirectory old new) (λ below. refl) (commits_at_both false (λ p q. e.RenameDir p q) (λ p q. refl) (clause_path name old) (clause_path name new))
    (λ below changed is. is) (λ below. (refl, λ cause. refl))
clause_edit w name (s.AddAlias alias path) edits =
    tree_clause w name (s.AddAlias alias path) (λ below. refl) (commits_at_both true (λ p q. e.AddAliasEntry p q) (λ p q. refl) (clause_path name alias) (clause_path name path))
    (λ below changed is. is) (λ below. (refl, λ cause. refl))
clause_edit w name (s.RenameAlias old new) edits =
    tree_clause w name (s.RenameAlias old new) (λ below. refl) (commits_at_both false (λ p q. e.RenameAliasEntry p q) (λ p q. refl) (clause_path name old) (clause_path name new))
    (λ below changed is. is) (λ below. (refl, λ cause. refl))
clause_edit w name (s.DropAlias path) edits =
    tree_clause w name (s.DropAlias path) (λ below. refl) (commits_at false (λ p. e.DropAliasEntry p) (λ p. refl) (clause_path name path)) (λ below new is. is) (λ below. (refl, λ cause. refl))
clause_edit w name other edits = absurd (false≢true edits)

-- ---- verbs

-- what holds of the group and of the change that a path leads to
led : (P : GroupChange → Type 0) (o : Option (Bytes × Path)) (change : Path → Group → Result Group r.Refusal) (asked : GroupChange)
    → ((name : Bytes) (inside : Path) → o ≡ Some (name, inside) → P (name, change inside)) → at_led o change ≡ Some asked → P asked
led P None change asked at is = absurd (none-some asked is)
led P (Some (name, inside)) change asked at is = subst P (same_Some (name, change inside) asked is) (at name inside refl)

module _ (w : World) (path : Bytes) (name : Bytes) (inside : Path) (leads : target_from w.place path ≡ Some (name, inside)) where
  make_dir : Edit w (c.Asked (c.MakeDirectory path)) (name, λ g. e.edited_group g (e.MakeDir inside))
  make_dir = record {
    named = ap group_name_of leads;
    list_of = λ g. tree_causes g (Some (e.MakeDir inside));
    causes_are = λ below. ap (λ (o : Option (Bytes × Path)). at_target w o (λ p g. tree_causes g (Some (e.MakeDir p)))) leads;
    tests_of = λ g. e.group_edit_causes g (e.MakeDir inside);
    parts = λ g. tree_parts true (Some (e.MakeDir inside)) g refl;
    all_are = λ g. refl;
    changed = λ g. e.changed_group g (e.MakeDir inside);
    change_is = λ g. refl;
    done = λ below id g h has is. (record { name = name; inside = inside; leads = leads; changes = record { id = id; old = g; changed = h; has = has; step_is = is; is = refl } }, refl);
    lines = λ below. (tt, λ cause. refl);
  }

  remove_alias : Edit w (c.Asked (c.RemoveAlias path)) (name, λ g. e.edited_group g (e.DropAliasEntry inside))
  remove_alias = record {
    named = ap group_name_of leads;
    list_of = λ g. tree_causes g (Some (e.DropAliasEntry inside));
    causes_are = λ below. ap (λ (o : Option (Bytes × Path)). at_target w o (λ p g. tree_causes g (Some (e.DropAliasEntry p)))) leads;
    tests_of = λ g. e.group_edit_causes g (e.DropAliasEntry inside);
    parts = λ g. tree_parts false (Some (e.DropAliasEntry inside)) g refl;
    all_are = λ g. refl;
    changed = λ g. e.changed_group g (e.DropAliasEntry inside);
    change_is = λ g. refl;
    done = λ below id g h has is. (record { name = name; inside = inside; leads = leads; changes = record { id = id; old = g; changed = h; has = has; step_is = is; is = refl } }, refl);
    lines = λ below. (tt, λ cause. refl);
  }

  -- here the path is the alias, and the other that of the file
  make_alias : (file : Bytes) → Edit w (c.Asked (c.MakeAlias file path)) (name, λ g. by_alias (target_from w.place file) inside g)
  make_alias file = record {
    named = ap group_name_of leads;
    list_of = λ g. alias_causes (target_from w.place file) g.name inside g;
    causes_are = λ below. ap (λ (o : Option (Bytes × Path)). at_target w o (λ p g. alias_causes (target_from w.place file) g.name p g)) leads;
    tests_of = alias_tests (target_from w.place file) inside;
    parts = alias_parts (target_from w.place file) inside;
    all_are = plain_alias (target_from w.place file) inside;
    changed = alias_changed (target_from w.place file) inside;
    change_is = alias_is (target_from w.place file) inside;
    done = λ below id g h has is. (
      record {
        name = name;
        inside = inside;
        leads = leads;
        changes = record { id = id; old = g; changed = h; has = has; step_is = alias_done (target_from w.place file) inside g h is; is = refl };
      },
      refl,
    );
    lines = λ below. (tt, λ cause. refl);
  }

verb_edit : (w : World) (verb : c.Verb) (asked : GroupChange) → is_edit_verb verb ≡ true → verb_change w.place verb ≡ Some asked → Edit w (c.Asked verb) asked
verb_edit w (c.MakeDirectory path) asked edits asks =
    led (λ (a : GroupChange). Edit w (c.Asked (c.MakeDirectory path)) a) (target_from w.place path) (λ p g. e.edited_group g (e.MakeDir p)) asked (make_dir w path) asks
verb_edit w (c.RemoveAlias path) asked edits asks =
    led (λ (a : GroupChange). Edit w (c.Asked (c.RemoveAlias path)) a) (target_from w.place path) (λ p g. e.edited_group g (e.DropAliasEntry p)) asked (remove_alias w path) asks
verb_edit w (c.MakeAlias path alias) asked edits asks =
    led (λ (a : GroupChange). Edit w (c.Asked (c.MakeAlias path alias)) a) (target_from w.place alias) (λ p g. by_alias (target_from w.place path) p g) asked
    (λ name inside leads. make_alias w alias name inside leads path) asks
verb_edit w other asked edits asks = absurd (false≢true edits)

pub edit_at : (w : World) (command : c.Command) (asked : GroupChange) → asks_edit command ≡ true → change_of w.place command ≡ Some asked → Edit w command asked
edit_at w (c.Said (s.Alter name clause)) asked edits asks =
    subst (λ (a : GroupChange). Edit w (c.Said (s.Alter name clause)) a) (same_Some (name, by_clause name clause) asked asks) (clause_edit w name clause edits)
edit_at w (c.Asked verb) asked edits asks = verb_edit w verb asked edits asks
edit_at w other asked edits asks = absurd (false≢true edits)
