use Rattle.asm_images.proofs.OneContent.{one_content_narrows}
use Rattle.asm_images.proofs.contents.one_content_narrows.Goals as goal

pub returns : goal.returns
returns c = one_content_narrows
