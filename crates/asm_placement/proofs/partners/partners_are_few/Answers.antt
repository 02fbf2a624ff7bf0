use Rattle.asm_placement.proofs.PartnerTables.{partners_are_few}
use Rattle.asm_placement.proofs.partners.partners_are_few.Goals as goal

pub returns : goal.returns
returns c = partners_are_few
