use Rattle.std.proofs.Common.{◌≡◌, true, ap, sym, subst, ◌∙◌}
use Rattle.std.specs.Option.{option_copied}
use Rattle.asm_formats.specs.Items.{FileHead, Node, file_item, is_item}
use Rattle.catalog.proofs.TreePlans.{alias_gone, alias_headed, head_is_item}
use Rattle.catalog.proofs.catalog.Catalog.drop_alias.Goals as goal

pub unreachable-requires : goal.unreachable-requires
unreachable-requires c =
    alias_headed c.args.self.now c.args.number c.args.node.now c.node.inside.file c.keeps_rules.ensures c.requires.there c.requires.kind (ap (λ (x : Node). x.file) c.node.view_is)
    (sym c.file.ensures ∙ ap (λ o. option_copied o) c.in_default.is)

pub record_of-requires : goal.record_of-requires
record_of-requires c =
    subst (λ (h : FileHead). is_item (file_item c.node.inside.file h) ≡ true) (sym c.in_ok-unnamed.ensures.head)
    (head_is_item c.args.self.now.tables.files c.node.inside.file c.in-Some.head.now 0 c.keeps_rules.ensures.rules.tables.files (sym c.in-Some.ensures) c.in_ok-unnamed.ensures.small)

pub returns : goal.returns
returns c =
    alias_gone c.args.self.now c.in_ok-change.change.put c.push.new.self c.keeps_rules.ensures c.args.number c.args.node.now c.in-Some.head.now c.in_ok-unnamed.unnamed c.node.inside.file c.in_ok-file.file c.node_key.result c.in_ok-change.change.gone
    (ap (λ (x : Node). x.file) c.node.view_is) c.in-Some.ensures c.in_ok-unnamed.ensures.head c.requires.table c.requires.there c.requires.kind c.in_ok-file.ensures c.node_key.ensures
    c.in_ok-change.ensures.put c.in_ok-change.ensures.gone c.in_ok-push.ensures.ok
