use Rattle.std.proofs.Common.{◌∙◌, ap}
use Rattle.asm_formats.specs.Status.{Status, entry_of}
use Rattle.group_engine.proofs.Members.{none_filtered}
use Rattle.group_engine.proofs.leaving.without_disk.Goals as goal

pub returns : goal.returns
returns c = record { gone = ap (λ (r : Status). entry_of r.entries c.args.disk) c.without_entry.ensures.value ∙ none_filtered c.with_dirs-others.result.entries c.args.disk }
