use Rattle.plan_records.specs.NewNames.{name_meant}
use Rattle.plan_records.proofs.NewNames.{name_parts}
use Rattle.catalog.proofs.NamePlans.{head_fits, name_planned}
use Rattle.catalog.proofs.catalog.Catalog.set_name.Goals as goal

pub name_records-requires-clause-head : goal.name_records-requires-clause-head
name_records-requires-clause-head c =
    head_fits c.args.self.now (name_meant c.args.name) c.args.new.now.size c.args.copies c.args.stripe c.args.made.now c.keeps_rules.ensures c.requires.created (name_parts c.args.new.now.path.parts (name_meant c.args.name) c.requires.name) c.requires.nodes c.requires.room
    c.in_ok-head.ensures.small c.made_file.result c.system_node.result c.in_ok-head.head c.made_file.ensures c.in_ok-head.ensures.head c.system_node.ensures

pub returns : goal.returns
returns c =
    name_planned c.args.self.now (name_meant c.args.name) c.args.new.now.size c.args.copies c.args.stripe c.args.made.now c.keeps_rules.ensures c.requires.created (name_parts c.args.new.now.path.parts (name_meant c.args.name) c.requires.name) c.requires.nodes c.requires.room
    c.in_ok-head.ensures.small c.made_file.result c.system_node.result c.in_ok-head.head c.made_file.ensures c.in_ok-head.ensures.head c.system_node.ensures c.args.new.now.path.parts c.in_ok-put.put c.new-gone.result c.push.new.self c.requires.name c.in_ok-put.ensures
    c.new-gone.ensures c.in_ok-push.ensures.ok
