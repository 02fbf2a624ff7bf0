-- What an edit changes is what it makes of the nodes.
use Rattle.std.proofs.Common.{List, refl}
use Rattle.asm_group.specs.TreeEdits as e
use Rattle.alias_edits.specs.declared.planning.TreeChange.{TreeChange}
use Rattle.alias_edits.specs.declared.planning.TreeChange.TheVariants as change
use Rattle.alias_edits.specs.Edits.{ChangesNodes, IsChange, nodes_after}
use Rattle.alias_tree.specs.Nodes.{IsNodeTable, Numbered}
use Rattle.alias_tree.proofs.FileNodes.{names_at}

-- ---- what an edit changes

pub change_nodes : (nodes : List Numbered) (edit : e.TreeEdit) (c : TreeChange) → IsNodeTable nodes → IsChange nodes edit c → ChangesNodes nodes (nodes_after nodes c) edit
change_nodes nodes (e.MakeDir path) (change.Put n x) t p = record { number = n; node = x; free = p.free; hangs = p.hangs; kind_is = p.kind_is; file_is = p.file_is; after = refl }
change_nodes nodes (e.MakeDir path) (change.Gone n) t p = absurd p
change_nodes nodes (e.MakeDir path) (change.NamesGone ns) t p = absurd p
change_nodes nodes (e.DropDir path) (change.Put n x) t p = absurd p
change_nodes nodes (e.DropDir path) (change.Gone n) t p = record { number = n; at = p; after = refl }
change_nodes nodes (e.DropDir path) (change.NamesGone ns) t p = absurd p
change_nodes nodes (e.RenameDir from to) (change.Put n x) t p = record { number = n; node = x; moved = p; after = refl }
change_nodes nodes (e.RenameDir from to) (change.Gone n) t p = absurd p
change_nodes nodes (e.RenameDir from to) (change.NamesGone ns) t p = absurd p
change_nodes nodes (e.AddAliasEntry alias path) (change.Put n x) t p = record {
  file = p.file;
  file_is = p.file_is;
  puts = record { number = n; node = x; free = p.made.free; hangs = p.made.hangs; kind_is = p.made.kind_is; file_is = p.made.file_is; after = refl };
}
change_nodes nodes (e.AddAliasEntry alias path) (change.Gone n) t p = absurd p
change_nodes nodes (e.AddAliasEntry alias path) (change.NamesGone ns) t p = absurd p
change_nodes nodes (e.RenameAliasEntry from to) (change.Put n x) t p = record { number = n; node = x; moved = p; after = refl }
change_nodes nodes (e.RenameAliasEntry from to) (change.Gone n) t p = absurd p
change_nodes nodes (e.RenameAliasEntry from to) (change.NamesGone ns) t p = absurd p
change_nodes nodes (e.DropAliasEntry path) (change.Put n x) t p = absurd p
change_nodes nodes (e.DropAliasEntry path) (change.Gone n) t p = record { number = n; at = p; after = refl }
change_nodes nodes (e.DropAliasEntry path) (change.NamesGone ns) t p = absurd p
change_nodes nodes (e.AddFile path file) (change.Put n x) t p = record { number = n; node = x; free = p.free; hangs = p.hangs; kind_is = p.kind_is; file_is = p.file_is; after = refl }
change_nodes nodes (e.AddFile path file) (change.Gone n) t p = absurd p
change_nodes nodes (e.AddFile path file) (change.NamesGone ns) t p = absurd p
change_nodes nodes (e.DropFileEntries file) (change.Put n x) t p = absurd p
change_nodes nodes (e.DropFileEntries file) (change.Gone n) t p = absurd p
change_nodes nodes (e.DropFileEntries file) (change.NamesGone ns) t p = names_at nodes file ns.items t.items p
