use Rattle.std.proofs.Common.{◌≡◌, subst}
use Rattle.std.specs.Prelude.{IfOk, Ok}
use Rattle.plan_records.specs.alias_edits.Filing.{tree_with_file, with_nodes}
use Rattle.plan_records.specs.alias_tree.Trees.{tree_of}
use Rattle.plan_records.specs.catalog_tables.Tables.{Catalogued}
use Rattle.catalog.specs.declared.catalog.Catalog.TheInside.{Inside}
use Rattle.catalog.proofs.catalog.Catalog.file_nodes.Goals as goal

pub returns-clause-done : goal.returns-clause-done
returns-clause-done c =
    subst (λ (x : Catalogued). IfOk c.plan_file.result (λ made. tree_with_file (tree_of x.tables.nodes) c.args.path.now.parts c.args.file ≡ Ok (tree_of (with_nodes x.tables.nodes made.items)))) c.self.view_is
    (subst (λ (x : Inside). IfOk c.plan_file.result (λ made. tree_with_file (tree_of x.parts.nodes) c.args.path.now.parts c.args.file ≡ Ok (tree_of (with_nodes x.parts.nodes made.items)))) c.self-inside.view_is c.plan_file.ensures.done)
