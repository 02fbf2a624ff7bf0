use Rattle.std.proofs.Common.{◌≡◌}
use Rattle.asm_base.specs.Records.{of_kinds}
use Rattle.template_directory.specs.Tables.{is_key_of_templates}
use Rattle.template_directory.proofs.table.next_mine.Given as goal

abbrev pub invariant-loop-key : goal.invariant-loop-key
invariant-loop-key l = record {
  next : (goal.iterator-loop-key).can_next l.left × (goal.iterator-loop-key).is_finite l.left;
  left : of_kinds is_key_of_templates l.left ≡ of_kinds is_key_of_templates l.fn.left;
}
