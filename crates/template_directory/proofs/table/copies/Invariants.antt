use Rattle.std.proofs.Common.{◌≡◌, take}
use Rattle.template_directory.proofs.table.copies.Given as goal

abbrev pub invariant-loop-template : goal.invariant-loop-template
invariant-loop-template l = l.copies ≡ take l.template-index l.templates
