use Rattle.asm_formats.proofs.Damaging.{damage_is_seen}
use Rattle.asm_formats.proofs.damage.damage_is_seen.Goals as goal

pub returns : goal.returns
returns c = damage_is_seen
