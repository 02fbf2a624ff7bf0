use Rattle.std.proofs.Common.{◌≡◌, ◌∙◌, List, length, ap, subst}
use Rattle.std.proofs.lemmas.List.{length-map}
use Rattle.asm_formats.specs.Status.{Entry, Status}
use Rattle.asm_placement.specs.Partners.{partner_set, with_partners}
use Rattle.status_table.specs.Changes.{entries_with_partners}
use Rattle.disk_modes.proofs.Keeping.{keeps_partners}
use Rattle.disk_modes.proofs.records.with_new_partners.Goals as goal

pub returns-clause-disks : goal.returns-clause-disks
returns-clause-disks c =
    let sets = c.deref.result.now in
    let all = c.entries.result.now in
    let many : length sets ≡ length c.args.status.now.entries =
    ap length (c.deref.ensures.value ∙ c.in_ok-sets.ensures.sets) ∙ length-map all (λ (e : Entry). partner_set all e.number) ∙ ap length c.entries.ensures.entries in
    keeps_partners c.args.status.now c.with_partners.result sets many c.with_partners.ensures.value

pub returns-clause-partners : goal.returns-clause-partners
returns-clause-partners c =
    let es = c.args.status.now.entries in
    ap (λ (r : Status). r.entries) c.with_partners.ensures.value ∙ ap (entries_with_partners es) c.deref.ensures.value
    ∙ subst (λ (xs : List Entry). entries_with_partners xs c.in_ok-sets.sets.items ≡ with_partners xs) c.entries.ensures.entries c.in_ok-sets.ensures.entries

pub returns-clause-births : goal.returns-clause-births
returns-clause-births c = ap (λ (r : Status). r.births) c.with_partners.ensures.value
