use Rattle.std.proofs.Common.{ap, ◌∙◌}
use Rattle.asm_formats.specs.Items.{Node}
use Rattle.alias_tree.specs.FileNames.{name_by_kind}
use Rattle.alias_tree.proofs.FileLaws.{low_put, put_keeps, no_put_keeps}
use Rattle.alias_tree.proofs.nodes.Nodes.put.Goals as goal

pub past_taken-self-inside-requires : goal.past_taken-self-inside-requires
past_taken-self-inside-requires c = low_put c.self.inside.map.entries c.insert.new.self.entries c.self.inside.low c.args.number c.args.node c.self.invariant.1 c.in-Ok.ensures.updates.0

pub invariant_of-self-in-Ok : goal.invariant_of-self-in-Ok
invariant_of-self-in-Ok c =
    let keeps =
    put_keeps c.self.inside.map.entries c.insert.new.self.entries c.self.inside.names c.put.new.self c.forget.new.self c.self.inside.low c.args.number c.args.node c.name_at-before.result c.name_by_kind-after.result
    c.self.invariant.0 c.self.invariant.1 c.name_at-before.ensures (c.name_by_kind-after.ensures ∙ ap (λ (x : Node). name_by_kind c.args.number x.file x.kind) c.node.view_is) c.in-Ok.ensures.updates.0 c.in_ok-put.ensures.ok c.forget.ensures in
    (keeps.0, c.past_taken-self-inside.ensures)

pub invariant_of-self-in-Err : goal.invariant_of-self-in-Err
invariant_of-self-in-Err c =
    rw c.in-Err.ensures.err
    (no_put_keeps c.self.inside.map.entries c.self.inside.names c.put.new.self c.forget-in-Err.new.self c.self.inside.low c.args.number c.args.node c.name_at-before.result c.name_by_kind-after.result
    c.self.invariant.0 c.self.invariant.1 c.name_at-before.ensures (c.name_by_kind-after.ensures ∙ ap (λ (x : Node). name_by_kind c.args.number x.file x.kind) c.node.view_is) c.in_ok-put.ensures.ok c.forget-in-Err.ensures)
