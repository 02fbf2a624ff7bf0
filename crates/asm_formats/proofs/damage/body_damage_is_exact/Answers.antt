use Rattle.asm_formats.proofs.Damaging.{body_damage_is_exact}
use Rattle.asm_formats.proofs.damage.body_damage_is_exact.Goals as goal

pub returns : goal.returns
returns c = body_damage_is_exact
