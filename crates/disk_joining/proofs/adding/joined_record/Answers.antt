use Rattle.std.proofs.Common.{◌∙◌, length, ap}
use Rattle.std.proofs.lemmas.List.{length-map}
use Rattle.asm_formats.specs.Status.{Entry}
use Rattle.asm_placement.specs.Partners.{partner_set}
use Rattle.disk_joining.proofs.adding.joined_record.Goals as goal

pub with_partners-requires : goal.with_partners-requires
with_partners-requires c =
    let all = c.entries.result.now in
    ap length (c.deref.ensures.value ∙ c.in_ok-sets.ensures.sets) ∙ length-map all (λ (e : Entry). partner_set all e.number) ∙ ap length c.entries.ensures.entries
