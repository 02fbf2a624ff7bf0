use Rattle.asm_placement.proofs.PartnerTables.{partners_are_spread}
use Rattle.asm_placement.proofs.partners.partners_are_spread.Goals as goal

pub returns : goal.returns
returns c = partners_are_spread
