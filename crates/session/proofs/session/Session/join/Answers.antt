use Rattle.std.proofs.Common.{inr, refl}
use Rattle.refusal_lines.specs.Refusals.{meaning_of}
use Rattle.session.proofs.Carrying.{carries_none}
use Rattle.session.proofs.Telling.{no_memory_out}
use Rattle.session.proofs.session.Session.join.Goals as goal

pub returns-in-Err : goal.returns-in-Err
unfolding meaning_of
returns-in-Err g c = record {
  found = tt;
  out = inr (inr refl);
  carries = carries_none _ c.requires.ready;
}
