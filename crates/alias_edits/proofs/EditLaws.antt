-- What is done to the nodes is what the edit says of the tree.
use Rattle.std.proofs.Common.{◌≡◌, List, Option, Some, None, sym, ap, ◌∙◌}
use Rattle.std.specs.Prelude.{Ok, Err}
use Rattle.asm_group.specs.Refusal.{Refusal}
use Rattle.asm_group.specs.Causes.{first_cause, unless_refused}
use Rattle.asm_group.specs.TreeEdits as e
use Rattle.asm_group.specs.TreeEdits.{Tree}
use Rattle.alias_edits.specs.Edits.{ChangesNodes}
use Rattle.alias_tree.specs.Nodes.{Numbered, IsNodeTable}
use Rattle.alias_tree.specs.Trees.{tree_of}
use Rattle.alias_edits.proofs.Edited.{make_dir_tree, drop_dir_tree, add_alias_tree, rename_alias_tree, drop_alias_tree, add_file_tree, drop_file_tree}
use Rattle.alias_edits.proofs.Moved.{rename_dir_tree}

pub changed_tree : (old new : List Numbered) (edit : e.TreeEdit) → IsNodeTable old → IsNodeTable new → first_cause (e.edit_causes (tree_of old) edit) ≡ None → ChangesNodes old new edit → tree_of new ≡ e.changed (tree_of old) edit
changed_tree old new (e.MakeDir path) t u none p = make_dir_tree old new path t u none p
changed_tree old new (e.DropDir path) t u none p = drop_dir_tree old new path t u none p
changed_tree old new (e.RenameDir from to) t u none p = rename_dir_tree old new from to t u none p
changed_tree old new (e.AddAliasEntry alias path) t u none p = add_alias_tree old new alias path t u none p
changed_tree old new (e.RenameAliasEntry from to) t u none p = rename_alias_tree old new from to t u none p
changed_tree old new (e.DropAliasEntry path) t u none p = drop_alias_tree old new path t u none p
changed_tree old new (e.AddFile path file) t u none p = add_file_tree old new path file t u none p
changed_tree old new (e.DropFileEntries file) t u none p = drop_file_tree old new file t u p

-- An edit that isn't refused is done.
pub edited_is : (old new : List Numbered) (edit : e.TreeEdit) → IsNodeTable old → IsNodeTable new → first_cause (e.edit_causes (tree_of old) edit) ≡ None → ChangesNodes old new edit → e.edited (tree_of old) edit ≡ Ok (tree_of new)
edited_is old new edit t u none p =
    ap (λ (o : Option Refusal). unless_refused o (e.changed (tree_of old) edit)) none ∙ ap (λ (x : Tree). Ok x) (sym (changed_tree old new edit t u none p))

-- An edit that has a cause is refused.
pub refused_is : (old : List Numbered) (edit : e.TreeEdit) (cause : Refusal) → Some cause ≡ first_cause (e.edit_causes (tree_of old) edit) → e.edited (tree_of old) edit ≡ Err cause
refused_is old edit cause is = ap (λ (o : Option Refusal). unless_refused o (e.changed (tree_of old) edit)) (sym is)
