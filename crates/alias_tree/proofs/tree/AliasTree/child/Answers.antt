use Rattle.std.proofs.Common.{◌<◌, length}
use Rattle.alias_tree.proofs.Children.{no_child}
use Rattle.alias_tree.proofs.tree.AliasTree.child.Goals as goal

pub returns-then-bytes-gt80 : goal.returns-then-bytes-gt80
returns-then-bytes-gt80 c =
    let long : 80 < length c.args.name.now = rw (← c.as_bytes-bytes.ensures.bytes) c.if-bytes-gt80.true in
    rw (← c.self.view_is) (no_child c.self.inside.nodes c.args.parent c.args.name.now c.self.invariant.0 long)
