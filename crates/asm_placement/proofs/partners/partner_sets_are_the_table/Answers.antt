use Rattle.asm_placement.proofs.Bits.{partner_sets}
use Rattle.asm_placement.proofs.partners.partner_sets_are_the_table.Goals as goal

pub returns : goal.returns
returns c = partner_sets
