use Rattle.std.proofs.Common.{Ok, Err, sym, subst}
use Rattle.group_engine.specs.Gone.{EndsGroup}
use Rattle.group_engine.specs.Mounts.{IsWhole, MountedGroup}
use Rattle.group_engine.specs.declared.access.Access.TheVariants as access
use Rattle.group_engine.proofs.Gones.{ends_marked, ends_unmarked}
use Rattle.group_engine.proofs.Seen.{seen}
use Rattle.group_engine.proofs.mounted.Mounted.write_gone.Goals as goal

pub returns-in-Ok : goal.returns-in-Ok
returns-in-Ok g c =
    let s = g.B.Bay.state c.args.bay.now in
    let t = g.B.Bay.state c.mark_gone.new.bay in
    let was = seen c.self.inside in
    subst (λ (v : MountedGroup). EndsGroup v (Ok tt) (record was { register = c.mark_gone.new.register; access = access.Closed }) s t) c.self.view_is
    (ends_marked was (subst (λ (v : MountedGroup). IsWhole v) (sym c.self.view_is) c.requires.whole) s t c.mark_gone.result c.mark_gone.new.register c.mark_gone.ensures c.in-Ok.field-0 c.in-Ok.is)

pub returns-in-Err : goal.returns-in-Err
returns-in-Err g c =
    let s = g.B.Bay.state c.args.bay.now in
    let t = g.B.Bay.state c.mark_gone.new.bay in
    let was = seen c.self.inside in
    subst (λ (v : MountedGroup). EndsGroup v (Err c.dismount.result) c.dismount.new.self s t) c.self.view_is
    (ends_unmarked was (subst (λ (v : MountedGroup). IsWhole v) (sym c.self.view_is) c.requires.whole) s t c.mark_gone.result c.mark_gone.new.register c.mark_gone.ensures c.in-Err.dead c.dismount.result c.dismount.new.self c.in-Err.is c.dismount.ensures)
