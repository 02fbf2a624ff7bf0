use Rattle.std.proofs.Common.{refl, ◌∙◌}
use Rattle.session.proofs.Desks.{answered-only}
use Rattle.session.proofs.Ready.{held_covers, spared_ready}
use Rattle.disk_commands.proofs.disks.create_disk.Goals as goal

pub returns-in-Ok-make_disk : goal.returns-in-Ok-make_disk
returns-in-Ok-make_disk g c = record {
  answers = answered-only c.args.text.now _ c.args.desk.now _ (rw c.requires.asked refl) refl (λ is. refl)
      (spared_ready c.args.desk.now.session.groups c.deref-2.result.now _ (held_covers c.args.desk.now.session.groups c.deref-2.result.now (c.deref-2.ensures.value ∙ c.in-Ok.ensures) c.requires.ready) c.requires.ready
      c.create_disk.ensures.attached.held c.create_disk.ensures.held)
      c.create_disk.ensures.held.later (λ m image before left. (c.create_disk.ensures.held.ended m image before).0 left);
}

pub returns : goal.returns
returns g c = record {
  answers = answered-only c.args.text.now _ c.args.desk.now _ (rw c.requires.asked refl) refl (λ is. refl)
      (spared_ready c.args.desk.now.session.groups c.deref-2.result.now _ (held_covers c.args.desk.now.session.groups c.deref-2.result.now (c.deref-2.ensures.value ∙ c.in-Ok.ensures) c.requires.ready) c.requires.ready
      c.create_disk.ensures.attached.held c.create_disk.ensures.held)
      c.create_disk.ensures.held.later (λ m image before left. (c.create_disk.ensures.held.ended m image before).0 left);
}
