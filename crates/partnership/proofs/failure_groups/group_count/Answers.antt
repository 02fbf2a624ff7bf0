use Rattle.std.proofs.Common.{◌≡◌, ◌+◌, ℕ, length, take, sym, ap, ◌∙◌, arith}
use Rattle.std.specs.List.{list_any}
use Rattle.asm_formats.specs.Status.{Entry}
use Rattle.asm_placement.specs.DiskSets.{distinct_failgroups}
use Rattle.partnership.specs.Selections.{lies_in}
use Rattle.partnership.proofs.FailureGroups.{groups_from, count_first, count_later}
use Rattle.partnership.proofs.failure_groups.group_count.Goals as goal
use Rattle.partnership.proofs.failure_groups.group_count.Goals.{then-not-has_group, else-not-has_group}

pub loop-i-preserved : goal.loop-i-preserved
loop-i-preserved c =
    let es = c.args.disks.now in
    let i : ℕ = c.loop-i.i in
    let e : Entry = c.index-disks-i.result in
    let has : c.has_group.result ≡ list_any (lies_in e.failgroup) (take i es) = c.has_group.ensures ∙ ap (λ (x : Entry). list_any (lies_in x.failgroup) (take i es)) c.disk.view_is in
    elim c.if-not-has_group.branch [
      | then-not-has_group w ↦
          let so_far : c.loop-i.count + 1 + length (groups_from es (i + 1)) ≡ length (distinct_failgroups es) = count_first es i e c.loop-i.count c.loop-i-test.true c.index-disks-i.is (sym has ∙ w.if-not-has_group.true) c.loop-i.invariant.counted in
          record { counted = omega (arith, so_far, w.count-is); few = omega (arith, w.count-is, c.loop-i.invariant.few) }
      | else-not-has_group w ↦
          let so_far : c.loop-i.count + length (groups_from es (i + 1)) ≡ length (distinct_failgroups es) = count_later es i e c.loop-i.count c.loop-i-test.true c.index-disks-i.is (sym has ∙ w.if-not-has_group.false) c.loop-i.invariant.counted in
          record { counted = omega (arith, so_far, w.count-is); few = omega (arith, w.count-is, c.loop-i.invariant.few) }
    ]
