use Rattle.asm_placement.proofs.PartnerTables.{partners_cross}
use Rattle.asm_placement.proofs.partners.partners_cross.Goals as goal

pub returns : goal.returns
returns c = partners_cross
