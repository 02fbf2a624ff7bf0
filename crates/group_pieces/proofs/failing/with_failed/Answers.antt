use Rattle.std.proofs.Common.{◌≡◌, ◌∙◌, List, length, sym, subst, ap}
use Rattle.std.proofs.lemmas.List.{length-map}
use Rattle.asm_formats.specs.Status.{Entry, Status}
use Rattle.asm_placement.specs.Partners.{partner_set}
use Rattle.record_laws.specs.group_engine.NextRecords.{KeepsDisks}
use Rattle.group_pieces.specs.Failing.{AreOffline}
use Rattle.std.specs.List.{list_any}
use Rattle.asm_placement.specs.Partners.{with_partners}
use Rattle.record_laws.specs.status_table.Changes.{entries_with_partners}
use Rattle.group_pieces.specs.Failing.{FailsModes, FewerServe, is_dropping_in}
use Rattle.group_pieces.proofs.FailedModes.{fails_modes, fails_partners}
use Rattle.group_pieces.proofs.FewerServing.{fewer_failed, fewer_partnered}
use Rattle.group_pieces.proofs.Failed.{failed_disks, failed_offline, partners_disks, partners_offline}
use Rattle.group_pieces.proofs.failing.with_failed.Goals as goal

pub returns-then-not-any_dropping-clause-disks : goal.returns-then-not-any_dropping-clause-disks
returns-then-not-any_dropping-clause-disks c = failed_disks c.args.failed c.args.since c.args.repair c.args.status.now c.without_disks-next.result 64 c.without_disks-next.ensures.value

pub returns-clause-disks : goal.returns-clause-disks
returns-clause-disks c =
    let next = c.without_disks-next.result in
    let sets = c.deref.result.now in
    let all = c.entries-2.result.now in
    let many : length sets ≡ length next.entries =
    ap length (c.deref.ensures.value ∙ c.in_ok-sets.ensures.sets) ∙ length-map all (λ (e : Entry). partner_set all e.number) ∙ ap length c.entries-2.ensures.entries in
    subst (λ (r : Status). KeepsDisks c.args.status.now r) (sym c.with_partners.ensures.value)
    (partners_disks c.args.status.now next sets (failed_disks c.args.failed c.args.since c.args.repair c.args.status.now next 64 c.without_disks-next.ensures.value) many)

pub returns-then-not-any_dropping-clause-offline : goal.returns-then-not-any_dropping-clause-offline
returns-then-not-any_dropping-clause-offline c = failed_offline c.args.failed c.args.since c.args.repair c.args.status.now c.without_disks-next.result c.without_disks-next.ensures.value

pub returns-clause-offline : goal.returns-clause-offline
returns-clause-offline c =
    let next = c.without_disks-next.result in
    subst (AreOffline c.args.failed c.args.since) (sym c.with_partners.ensures.value)
    (partners_offline c.args.failed c.args.since c.args.repair next c.deref.result.now (failed_offline c.args.failed c.args.since c.args.repair c.args.status.now next c.without_disks-next.ensures.value))

pub returns-then-not-any_dropping-clause-modes : goal.returns-then-not-any_dropping-clause-modes
returns-then-not-any_dropping-clause-modes c =
    fails_modes c.args.failed c.args.since c.args.repair c.args.status.now c.requires c.without_disks-next.result c.without_disks-next.ensures.value
    (ap (list_any (is_dropping_in c.args.failed)) (sym c.entries.ensures.entries) ∙ sym c.any_dropping.ensures ∙ c.if-not-any_dropping.true)

pub returns-clause-modes : goal.returns-clause-modes
returns-clause-modes c =
    let next = c.without_disks-next.result in
    let sets = c.deref.result.now in
    let made : entries_with_partners next.entries sets ≡ with_partners next.entries =
    ap (entries_with_partners next.entries) c.deref.ensures.value
    ∙ subst (λ (es : List Entry). entries_with_partners es c.in_ok-sets.sets.items ≡ with_partners es) c.entries-2.ensures.entries c.in_ok-sets.ensures.entries in
    subst (FailsModes c.args.status.now c.args.failed) (sym c.with_partners.ensures.value)
    (fails_partners c.args.failed c.args.since c.args.repair c.args.status.now c.requires next sets c.without_disks-next.ensures.value c.without_disks-next.ensures.status made)

pub returns-then-not-any_dropping-clause-fewer : goal.returns-then-not-any_dropping-clause-fewer
returns-then-not-any_dropping-clause-fewer c = fewer_failed c.args.failed c.args.since c.args.repair c.args.status.now c.without_disks-next.result c.without_disks-next.ensures.value

pub returns-clause-fewer : goal.returns-clause-fewer
returns-clause-fewer c =
    let next = c.without_disks-next.result in
    let sets = c.deref.result.now in
    let made : entries_with_partners next.entries sets ≡ with_partners next.entries =
    ap (entries_with_partners next.entries) c.deref.ensures.value
    ∙ subst (λ (es : List Entry). entries_with_partners es c.in_ok-sets.sets.items ≡ with_partners es) c.entries-2.ensures.entries c.in_ok-sets.ensures.entries in
    subst (FewerServe c.args.status.now c.args.failed) (sym c.with_partners.ensures.value)
    (fewer_partnered c.args.failed c.args.since c.args.repair c.args.status.now next sets c.without_disks-next.ensures.value made)
