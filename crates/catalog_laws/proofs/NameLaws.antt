-- A new file's name as asm_world speaks of it.
use Rattle.std.proofs.Common.{◌≡◌, ℕ, Bool, true, false, [], ◌∷◌, refl, ap, ◌∙◌}
use Rattle.std.specs.Prelude.{◌||◌, not, is_none}
use Rattle.asm_group.specs.Group.{Group, System, File as WorldFile}
use Rattle.asm_group.specs.Names.{Path}
use Rattle.asm_group.specs.Refusal as r
use Rattle.asm_group.specs.TreeEdits as t
use Rattle.asm_group.specs.TreeEdits.{Tree}
use Rattle.catalog.specs.asm_world.Files as world
use Rattle.catalog.specs.asm_world.Files.{NewName, new_path, next_number}
use Rattle.catalog.specs.alias_edits.Filing as of_tree
use Rattle.catalog.specs.NamePlans.{FilesAsWorld, RefusesAsWorld}

dir_tree : (g : Group) (path : Path) → (world.group_with_dir g path).tree ≡ of_tree.with_dir g.tree path
dir_tree g path = by (t.is_there g.tree path) refl where
  by : (b : Bool) → t.is_there g.tree path ≡ b → (world.group_with_dir g path).tree ≡ of_tree.with_dir g.tree path
  by true e = rw e refl
  by false e = rw e refl

tree_as_world : (g : Group) (name : NewName) (n : ℕ) (f : WorldFile) → (world.group_with_file g name n f).tree ≡ of_tree.with_file g.tree (new_path name n f.incarnation) n
tree_as_world g name n f = ap (λ (u : Tree). t.with_node u (new_path name n f.incarnation) (System n)) dirs where
  db : Path
  db = name.db ∷ []

  kind : Path
  kind = name.db ∷ name.type_name ∷ []

  dirs : (world.group_with_dir (world.group_with_dir g (name.db ∷ [])) (name.db ∷ name.type_name ∷ [])).tree ≡ of_tree.with_dir (of_tree.with_dir g.tree (name.db ∷ [])) (name.db ∷ name.type_name ∷ [])
  dirs = dir_tree (world.group_with_dir g (name.db ∷ [])) (name.db ∷ name.type_name ∷ []) ∙ ap (λ (u : Tree). of_tree.with_dir u (name.db ∷ name.type_name ∷ [])) (dir_tree g (name.db ∷ []))

pub files_as_world : FilesAsWorld
files_as_world = record { tree = tree_as_world; next = λ g name n f. refl }

or_last : (a b : Bool) → (a || b) ≡ (a || (b || false))
or_last true b = refl
or_last false true = refl
or_last false false = refl

pub refuses_as_world : RefusesAsWorld
refuses_as_world g name size template =
    ap (λ (below : Bool). (is_none (world.template_for g name template), r.NoTemplate) ∷ (not (world.is_sectors g size), r.NotSectors) ∷ (below, r.NotDirectory)
    ∷ (t.is_there g.tree (new_path name (next_number g) g.next), r.NameTaken) ∷ [])
    (or_last (of_tree.is_no_dir g.tree (name.db ∷ [])) (of_tree.is_no_dir g.tree (name.db ∷ name.type_name ∷ [])))
