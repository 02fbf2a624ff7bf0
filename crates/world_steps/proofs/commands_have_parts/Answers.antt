use Rattle.world_steps.proofs.Said.{attributes_have_parts, paths_have_parts, templates_have_names}
use Rattle.world_steps.proofs.commands_have_parts.Goals as goal

pub returns : goal.returns
returns c = record { templates = templates_have_names; paths = paths_have_parts; attributes = attributes_have_parts }
