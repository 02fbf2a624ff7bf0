use Rattle.world_steps.proofs.Steps.{answers_edits, answers_none, tells_no_disk}
use Rattle.world_steps.proofs.edits_are_answered.Goals as goal

pub returns : goal.returns
returns c = record { inside = answers_edits; outside = answers_none; disks = tells_no_disk }
