use Rattle.std.proofs.Common.{◌∙◌, sym}
use Rattle.asm_base.proofs.PathLaws.{path_is, no_parts}
use Rattle.asm_base.proofs.path.read_in_group.Goals as goal

pub returns-in_default-2 : goal.returns-in_default-2
returns-in_default-2 c = no_parts c.args.bytes.now c.slash_at-n.result c.slash_at-n.ensures.at (sym c.in_default-2.is ∙ c.in_ok-parts.ensures)

pub returns : goal.returns
returns c =
    path_is c.args.bytes.now c.in-Some.group c.in-Some-2.parts c.slash_at-n.result c.slash_at-n.ensures.at (sym c.in-Some.is ∙ c.in_ok-group.ensures) (sym c.in-Some-2.is ∙ c.in_ok-parts.ensures)
