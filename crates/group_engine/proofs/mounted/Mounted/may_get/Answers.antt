use Rattle.std.proofs.Common.{◌∙◌, List, IsTrue, sym, subst}
use Rattle.asm_formats.specs.Status.{Entry, is_status}
use Rattle.rebalance.specs.catalog_tables.Placing.{HasUnits}
use Rattle.group_engine.specs.Mounts.{MountedGroup}
use Rattle.group_engine.proofs.MayGet.{next_of, on_true_of}
use Rattle.group_engine.proofs.mounted.Mounted.may_get.Goals as goal

pub returns : goal.returns
returns c =
    let m = c.args.self.now in
    let next = c.args.next.now in
    let allowed : IsTrue (is_status next) = sym c.is_status.ensures ∙ c.if-not-is_status.false in
    on_true_of c.covers.result c.covers.ensures.covers
    (λ units. next_of m next allowed c.if-not-is_record.ensures c.if-not-has_births.ensures c.if-not-names_copies.ensures (
      units.0,
      subst (λ (v : MountedGroup). HasUnits v.catalog.shape next.entries v.catalog.tables units.0) c.self.view_is
          (subst (λ (es : List Entry). HasUnits c.self.inside.catalog.shape es c.self.inside.catalog.tables units.0) c.entries.ensures.entries units.1),
    ))
