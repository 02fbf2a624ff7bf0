use Rattle.asm_images.proofs.OneContent.{one_content_is_covered}
use Rattle.asm_images.proofs.contents.one_content_is_covered.Goals as goal

pub returns : goal.returns
returns c = one_content_is_covered
