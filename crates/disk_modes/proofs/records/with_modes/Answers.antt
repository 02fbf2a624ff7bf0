use Rattle.std.proofs.Common.{◌<◌, ◌≤◌, List, get_or, length, ap, sym, subst, ◌∙◌, IsTrue}
use Rattle.asm_formats.specs.Status.{Entry, Status, is_status}
use Rattle.record_laws.proofs.group_engine.Records.{record_parts}
use Rattle.disk_modes.specs.declared.records.Becomes.{Becomes}
use Rattle.disk_modes.specs.Records.{status_as}
use Rattle.disk_modes.proofs.Entries.{all_so_far, none_so_far, one_more}
use Rattle.disk_modes.proofs.Keeping.{keeps_on, keeps_same}
use Rattle.disk_modes.proofs.records.with_modes.Goals as goal

pub loop-entry-init : goal.loop-entry-init
loop-entry-init c = record {
  status = subst (λ (r : Status). IsTrue (is_status r)) (sym c.copy-next.ensures) c.requires;
  disks = keeps_same c.args.status.now c.copy-next.result c.copy-next.ensures;
  so_far = none_so_far c.args.new.now c.args.status.now c.copy-next.result c.copy-next.ensures;
}

pub loop-entry-preserved : goal.loop-entry-preserved
loop-entry-preserved c =
    let r = c.args.status.now in
    let all = c.entries-entry-items.ensures.entries in
    let i = c.loop-entry.entry-index in
    let e = c.entry-item.result in
    record {
      status = c.with_changed-next.ensures.status;
      disks = keeps_on c.args.status.now c.loop-entry.next c.with_changed-next.result c.loop-entry.invariant.disks c.with_changed-next.ensures.disks;
      so_far = one_more c.args.new.now r c.loop-entry.next c.with_changed-next.result i e (record_parts r c.requires).order
          (subst (λ (es : List Entry). i < length es) all c.loop-entry-test.true) (c.entry-item.is ∙ ap (λ (es : List Entry). get_or es i e) all)
          c.loop-entry.invariant.so_far (c.with_changed-next.ensures.value ∙ ap (λ (b : Becomes). status_as b e c.loop-entry.next) c.change_of.ensures);
    }

pub returns-clause-modes : goal.returns-clause-modes
returns-clause-modes c =
    let i = c.loop-entry.entry-index in
    all_so_far c.args.new.now c.args.status.now c.loop-entry.next i (subst (λ (es : List Entry). length es ≤ i) c.entries-entry-items.ensures.entries c.loop-entry-test.false) c.loop-entry.invariant.so_far
