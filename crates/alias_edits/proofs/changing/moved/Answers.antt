use Rattle.std.proofs.Common.{sym, ◌∙◌, ap}
use Rattle.std.specs.Option.{option_copied}
use Rattle.alias_edits.proofs.Done.{entry_missing, node_missing}
use Rattle.alias_edits.proofs.changing.moved.Goals as goal

pub unreachable-requires : goal.unreachable-requires
unreachable-requires c = entry_missing c.args.tree.now c.args.old.now.parts c.find.result c.keeps_rule.ensures c.requires.there c.find.ensures c.in_default.is

pub unreachable-requires-in_default-get : goal.unreachable-requires-in_default-get
unreachable-requires-in_default-get c =
    node_missing c.args.tree.now c.args.old.now.parts c.find.result c.in-Some.number c.keeps_rule.ensures c.requires.there c.find.ensures c.in-Some.is (sym c.get.ensures.node ∙ ap (λ o. option_copied o) c.in_default-get.is)
