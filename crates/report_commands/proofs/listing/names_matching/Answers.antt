use Rattle.std.proofs.Common.{rules, ◌∙◌, sym}
use Rattle.report_commands.proofs.GroupNames.{named_first, named_more, named_not}
use Rattle.report_commands.proofs.listing.names_matching.Goals as goal

pub loop-key-init : goal.loop-key-init
loop-key-init c =
    named_first c.args.pattern.now c.groups.result.now.entries c.into_iter-key-iterator.result _ c.new-names.result.items (c.into_iter-key-iterator.ensures.into_iter_gives ∙ c.iter-key-items.ensures.rest) c.groups.ensures.entries
    c.iter-key-items.ensures.unique c.new-names.ensures.items

pub loop-key-preserved-in_ok-put_in_order : goal.loop-key-preserved-in_ok-put_in_order
loop-key-preserved-in_ok-put_in_order c =
    named_more c.args.pattern.now _ c.loop-key.key-iterator c.next.new.self (c.in-Some.key.now, c.in-Some.entry.now) c.loop-key.names.items c.put_in_order.new.names.items (search rules) c.loop-key.invariant
    (sym c.is_matching.ensures ∙ c.if-is_matching.true) (rw c.in_ok-copy.ensures at c.in_ok-put_in_order.ensures)

pub loop-key-preserved : goal.loop-key-preserved
loop-key-preserved c =
    named_not c.args.pattern.now _ c.loop-key.key-iterator c.next.new.self (c.in-Some.key.now, c.in-Some.entry.now) c.loop-key.names.items (search rules) c.loop-key.invariant
    (sym c.is_matching.ensures ∙ c.if-is_matching.false)
