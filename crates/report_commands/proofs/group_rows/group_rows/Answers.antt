use Rattle.std.proofs.Common.{rules, ◌∙◌, sym}
use Rattle.report_commands.proofs.GroupLists.{asked_more}
use Rattle.report_commands.proofs.group_rows.group_rows.Goals as goal

pub loop-key-preserved-in_ok-map_err : goal.loop-key-preserved-in_ok-map_err
loop-key-preserved-in_ok-map_err c =
    asked_more c.args.group.now c.loop-key.key-iterator c.next.new.self (c.in-Some.key.now, c.in-Some.entry.now) c.loop-key.rows.items c.push.new.self.items c.in_ok-row_of.field-0 _
    (search rules) c.loop-key.invariant (sym c.is_asked_for.ensures ∙ c.if-is_asked_for.true) c.in_ok-row_of.ensures (search rules)
