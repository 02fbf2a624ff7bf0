use Rattle.asm_images.proofs.OneGroup.{one_content_is_one_group}
use Rattle.asm_images.proofs.mounting.one_content_is_one_group.Goals as goal

pub returns : goal.returns
returns c = one_content_is_one_group
