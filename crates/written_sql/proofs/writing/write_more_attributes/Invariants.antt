use Rattle.std.proofs.Common.{◌≡◌, take}
use Rattle.asm_world.specs.Grammar as g
use Rattle.asm_world.specs.Writing.{attribute_value}
use Rattle.written_sql.specs.Lines.{put_more}
use Rattle.written_sql.proofs.writing.write_more_attributes.Given as goal

abbrev pub invariant-loop-attribute : goal.invariant-loop-attribute
invariant-loop-attribute l = l.line ≡ put_more g.attribute attribute_value (take l.attribute-index l.attributes) l.fn.line
