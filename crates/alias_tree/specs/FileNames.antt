-- The index of the names by file, and the least number that may be free.
use Rattle.std.specs.Prelude.{◌≡◌, ℕ, ◌<◌, Bool, true, false, ◌&&◌, not, List, map, filter, Option, Some, None, IsTrue, is_some, if◌then◌else◌}
use Rattle.std.specs.Ordering.{nat_cmp, bool_cmp, ordering_then, is_eq}
use Rattle.std.specs.declared.cmp.Ordering.{Ordering}
use Rattle.std.specs.BTreeMap.{is_at}
use Rattle.std.specs.BTreeMap.Range.{range_contains}
use Rattle.std.specs.declared.ops.Bound.TheVariants.{Included}
use Rattle.std.specs.List.{list_any}
use Rattle.asm_group.specs.declared.NodeKind.{NodeKind}
use Rattle.asm_group.specs.declared.NodeKind.TheVariants.{Directory, System, Alias}
use Rattle.asm_formats.specs.Items.{Node}
use Rattle.alias_tree.specs.declared.files.FileName as declared
use Rattle.alias_tree.specs.Nodes.{Numbered, node_at}

abbrev pub FileName : Type 0
FileName = declared.FileName

abbrev pub name_cmp : FileName → FileName → Ordering
name_cmp p q = ordering_then (nat_cmp p.file q.file) (ordering_then (bool_cmp p.is_alias q.is_alias) (nat_cmp p.number q.number))

abbrev pub is_same_file_name : FileName → FileName → Bool
is_same_file_name p q = is_eq (name_cmp p q)

abbrev pub has_name : List FileName → FileName → Bool
has_name names q = list_any (is_at (name_cmp q)) names

-- the name of a file that a node is
abbrev pub name_by_kind : ℕ → ℕ → NodeKind → Option FileName
name_by_kind n file Directory = None
name_by_kind n file System = Some (record { file = file; is_alias = false; number = n })
name_by_kind n file Alias = Some (record { file = file; is_alias = true; number = n })

abbrev pub name_of_node : ℕ → Option Node → Option FileName
name_of_node n None = None
name_of_node n (Some node) = name_by_kind n node.file node.kind

-- it is this name
abbrev pub is_it : Option FileName → FileName → Bool
is_it None q = false
is_it (Some p) q = is_same_file_name p q

-- the index has just the names that the nodes are
pub record IsFileIndex (nodes : List Numbered) (names : List FileName) : Type 0 where
  pub same : (q : FileName) → has_name names q ≡ is_it (name_of_node q.number (node_at nodes q.number)) q

-- before and behind the names of a file
abbrev pub first_name : ℕ → FileName
first_name file = record { file = file; is_alias = false; number = 0 }

abbrev pub last_name : ℕ → FileName
last_name file = record { file = file; is_alias = true; number = 4294967295 }

-- the nodes that the index has as names of a file
abbrev pub numbers_of_file : List FileName → ℕ → List ℕ
numbers_of_file names file = map (λ (q : FileName). q.number) (filter (range_contains name_cmp (Included (first_name file)) (Included (last_name file))) names)

-- whether a name is there, where one goes unless it is the one that is kept
abbrev pub is_left_there : Option FileName → Option FileName → FileName → Bool → Bool
is_left_there gone kept q there = if is_it gone q && not (is_it kept q) then false else there

-- no number from 1 to below this one is free
pub record IsLow (nodes : List Numbered) (low : ℕ) : Type 0 where
  pub some : 0 < low
  pub taken : (k : ℕ) → 0 < k → k < low → IsTrue (is_some (node_at nodes k))
