use Rattle.std.proofs.Common.{◌∙◌}
use Rattle.asm_world.specs.Reply.{Expired}
use Rattle.group_turns.proofs.expiring.drop_expired.Goals as goal

pub returns-in-Ok-Some-clause-line : goal.returns-in-Ok-Some-clause-line
returns-in-Ok-Some-clause-line g c = record {
  event = Expired c.name.result.now c.shown_name.result.now;
  is_event = c.name.ensures ∙ c.expire.ensures.keeps.same.name;
  text = c.write.ensures;
}
