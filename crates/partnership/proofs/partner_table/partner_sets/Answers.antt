use Rattle.std.proofs.Common.{List, map, ap, ◌∙◌}
use Rattle.std.proofs.lemmas.List.{take_all}
use Rattle.asm_formats.specs.Status.{Entry}
use Rattle.asm_placement.specs.Partners.{partner_set}
use Rattle.partnership.proofs.Tables.{given, set_is, sets_more}
use Rattle.partnership.proofs.partner_table.partner_sets.Goals as goal

pub loop-disk-preserved : goal.loop-disk-preserved
loop-disk-preserved c =
    let set = c.partner_set.ensures ∙ set_is c.args.disks.now c.args.table.now _ c.requires ∙ ap (λ (e : Entry). partner_set c.args.disks.now e.number) c.disk.view_is in
    c.in_ok-push.ensures.ok ∙ sets_more c.args.disks.now c.args.disks.now c.loop-disk.disk-index c.disk-item.result c.loop-disk.sets c.partner_set.result c.loop-disk-test.true c.disk-item.is c.loop-disk.invariant set

pub returns-clause-entries : goal.returns-clause-entries
returns-clause-entries c =
    given c.args.disks.now c.into_vec.result.items
    (c.into_vec.ensures ∙ c.loop-disk.invariant ∙ ap (λ (es : List Entry). map (λ (e : Entry). partner_set c.args.disks.now e.number) es) (take_all c.loop-disk.disk-index c.args.disks.now c.loop-disk-test.false))
