use Rattle.asm_images.proofs.Outsiders.{member_is_outside_others}
use Rattle.asm_images.proofs.others.member_is_outside_others.Goals as goal

pub returns : goal.returns
returns c = member_is_outside_others
