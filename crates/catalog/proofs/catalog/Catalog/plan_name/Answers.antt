use Rattle.std.proofs.Common.{ap, List, length, ◌+◌}
use Rattle.plan_records.specs.alias_tree.Nodes.{Numbered}
use Rattle.plan_records.specs.NewNames.{name_meant}
use Rattle.plan_records.proofs.NewNames.{name_parts}
use Rattle.catalog.proofs.NamePlans.{lacks_room}
use Rattle.catalog.proofs.catalog.Catalog.plan_name.Goals as goal

pub name_nodes-requires-clause-parts : goal.name_nodes-requires-clause-parts
name_nodes-requires-clause-parts c = name_parts c.args.new.now.path.parts (name_meant c.in-Some.name) c.in-Some.ensures.name

pub returns-then-free-need-clause-refused : goal.returns-then-free-need-clause-refused
returns-then-free-need-clause-refused c =
    lacks_room c.args.self.now c.args.new.now.path.parts (name_meant c.in-Some.name) c.in-Ok.made.items (length c.as_slice.result.now + 1) c.free_blocks-free.result c.in-Some.ensures.name c.in-Ok.ensures.nodes
    (ap (λ (ns : List Numbered). length ns + 1) c.as_slice.ensures.value) c.free_blocks-free.ensures c.if-free-need.true
