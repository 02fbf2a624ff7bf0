use Rattle.std.proofs.Common.{◌≡◌, ◌+◌, ◌*◌, ◌∷◌, length, take}
use Rattle.std.specs.List.{flat_map}
use Rattle.asm_formats.specs.Values.{template_fields}
use Rattle.asm_base.specs.Cursors.{PutsField}
use Rattle.template_directory.proofs.writing.put_templates.Given as goal

abbrev pub invariant-loop-template : goal.invariant-loop-template
invariant-loop-template l = record {
  put : PutsField l.fn.to l.to (length l.templates ∷ flat_map template_fields (take l.template-index l.templates));
  at : l.to.at ≡ l.fn.to.at + 1 + 34 * l.template-index;
}
