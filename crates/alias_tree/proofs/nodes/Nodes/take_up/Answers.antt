use Rattle.std.proofs.Common.{◌≡◌, true, Some, sym, ap, ◌∙◌}
use Rattle.std.specs.Option.{option_map}
use Rattle.asm_formats.specs.Items.{Key, node_item}
use Rattle.asm_formats.specs.Values.{decoded_item}
use Rattle.asm_base.specs.Records.{ends_below}
use Rattle.alias_tree.specs.Nodes.{is_before, with_numbered_node}
use Rattle.alias_tree.proofs.Rules.{taken_step}
use Rattle.alias_tree.proofs.nodes.Nodes.take_up.Goals as goal

pub returns-clause-step : goal.returns-clause-step
returns-clause-step c =
    let at : c.key-2.inside.a ≡ c.args.key.a = ap (λ (k : Key). k.a) c.key-2.view_is in
    let kind : c.args.key.kind ≡ 6 = ap (λ (k : Key). k.kind) (sym c.key.view_is) ∙ c.if-key-ne-NODES.false in
    let read : option_map (node_item c.args.key.a) (Some c.in-Some.node) ≡ decoded_item c.args.key c.args.value.now = ap (option_map (node_item c.args.key.a)) (sym c.in-Some.is) ∙ c.in_ok-node.ensures in
    let ends : ends_below is_before c.args.self.now c.args.key.a ≡ true = rw (← at) (sym c.ends_before.ensures ∙ c.if-not-ends_before.false) in
    let put : c.put.new.self ≡ with_numbered_node c.args.self.now c.args.key.a c.in-Some.node = rw (← at) c.in_ok-put.ensures.ok in
    (taken_step c.args.self.now c.put.new.self c.args.key c.args.value.now c.in-Some.node kind c.requires read ends put).0

pub returns-clause-ascending : goal.returns-clause-ascending
returns-clause-ascending c =
    let at : c.key-2.inside.a ≡ c.args.key.a = ap (λ (k : Key). k.a) c.key-2.view_is in
    let kind : c.args.key.kind ≡ 6 = ap (λ (k : Key). k.kind) (sym c.key.view_is) ∙ c.if-key-ne-NODES.false in
    let read : option_map (node_item c.args.key.a) (Some c.in-Some.node) ≡ decoded_item c.args.key c.args.value.now = ap (option_map (node_item c.args.key.a)) (sym c.in-Some.is) ∙ c.in_ok-node.ensures in
    let ends : ends_below is_before c.args.self.now c.args.key.a ≡ true = rw (← at) (sym c.ends_before.ensures ∙ c.if-not-ends_before.false) in
    let put : c.put.new.self ≡ with_numbered_node c.args.self.now c.args.key.a c.in-Some.node = rw (← at) c.in_ok-put.ensures.ok in
    (taken_step c.args.self.now c.put.new.self c.args.key c.args.value.now c.in-Some.node kind c.requires read ends put).1
