use Rattle.std.proofs.Common.{◌≡◌, true, ap, sym, subst}
use Rattle.asm_formats.specs.Items.{FileHead, Node, file_item, is_item}
use Rattle.catalog.proofs.TreePlans.{alias_put, head_is_item, node_is_item}
use Rattle.catalog.proofs.catalog.Catalog.set_alias.Goals as goal

pub node_record-requires : goal.node_record-requires
node_record-requires c = node_is_item c.args.self.now.tables.nodes c.args.number c.args.node.now c.requires.table

pub record_of-requires : goal.record_of-requires
record_of-requires c =
    subst (λ (h : FileHead). is_item (file_item c.node.inside.file h) ≡ true) (sym c.in_ok-named.ensures.head)
    (head_is_item c.args.self.now.tables.files c.node.inside.file c.in-Some.head.now c.args.number c.keeps_rules.ensures.rules.tables.files (sym c.in-Some.ensures) c.in_ok-named.ensures.small)

pub returns : goal.returns
returns c =
    alias_put c.args.self.now c.in_ok-change.change.put c.in_ok-change.change.gone c.keeps_rules.ensures c.args.number c.args.node.now c.in-Some.head.now c.in_ok-named.named c.node.inside.file c.in_ok-name.name c.in_ok-file.file
    (ap (λ (x : Node). x.file) c.node.view_is) c.in-Some.ensures c.in_ok-named.ensures.head c.requires.table c.in_ok-named.ensures.small c.requires.new c.requires.free c.requires.room c.in_ok-name.ensures c.in_ok-file.ensures
    c.in_ok-change.ensures.put c.in_ok-change.ensures.gone
