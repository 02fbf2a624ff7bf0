use Rattle.asm_images.proofs.Sharing.{followers_share}
use Rattle.asm_images.proofs.register.followers_share_a_set.Goals as goal

pub returns : goal.returns
returns c = followers_share
