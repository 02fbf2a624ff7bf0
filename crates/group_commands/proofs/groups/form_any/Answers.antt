use Rattle.std.proofs.Common.{ap, length, refl}
use Rattle.session.specs.mounted_groups.FirstParts.{IsNewlyMounted}
use Rattle.session.specs.Sessions.{SessionView}
use Rattle.session.proofs.Desks.{answered-only}
use Rattle.group_commands.proofs.Formed.{formed_ready, still_ready}
use Rattle.group_commands.proofs.Named.{of_value}
use Rattle.group_commands.proofs.groups.form_any.Goals as goal

pub enter-requires-clause-mounted : goal.enter-requires-clause-mounted
enter-requires-clause-mounted g c =
    (of_value (λ m. IsNewlyMounted c.args.known.now.held.items c.args.asked.name c.create_group-made.result.0 m _) c.create_group-made.result.1 c.in-Ok.group c.in-Ok.is c.create_group-made.ensures.mounted).mounted

pub returns-in-Ok-enter : goal.returns-in-Ok-enter
returns-in-Ok-enter g c =
    let old = c.args.desk.now.session in
    let s = g.B.Bay.state c.args.desk.now.bay in
    let t = g.B.Bay.state c.create_group-made.new.bay in
    let made = c.create_group-made.result.0 in
    let held = c.args.known.now.held.items in
    let spares = c.create_group-made.ensures.spares in
    let new : IsNewlyMounted held c.args.asked.name made c.in-Ok.group t = of_value (λ m. IsNewlyMounted held c.args.asked.name made m t) c.create_group-made.result.1 c.in-Ok.group c.in-Ok.is c.create_group-made.ensures.mounted in
    record {
      answers = answered-only c.args.text.now _ c.args.desk.now _ c.requires.none refl (λ is. refl)
          (formed_ready old.groups held (length c.deref.result.now) s t c.requires.held c.requires.ready c.create_group-made.ensures.attached spares c.enter.new.self.groups c.args.asked.name made c.in-Ok.group new c.in-Ok-enter.ensures.groups)
          spares.later (λ m image before left. (spares.ended m image before).0 left);
    }

pub returns-in-Ok : goal.returns-in-Ok
returns-in-Ok g c =
    let old = c.args.desk.now.session in
    let s = g.B.Bay.state c.args.desk.now.bay in
    let t = g.B.Bay.state c.create_group-made.new.bay in
    let held = c.args.known.now.held.items in
    let spares = c.create_group-made.ensures.spares in
    record {
      answers = answered-only c.args.text.now _ c.args.desk.now _ c.requires.none refl (λ is. refl)
          (still_ready old.groups held (length c.deref.result.now) s t c.requires.held c.requires.ready c.create_group-made.ensures.attached spares c.enter.new.self.groups c.in-Err-enter.ensures.refused.1)
          spares.later (λ m image before left. (spares.ended m image before).0 left);
    }

pub returns : goal.returns
returns g c =
    let old = c.args.desk.now.session in
    let s = g.B.Bay.state c.args.desk.now.bay in
    let t = g.B.Bay.state c.create_group-made.new.bay in
    let held = c.args.known.now.held.items in
    let spares = c.create_group-made.ensures.spares in
    record {
      answers = answered-only c.args.text.now _ c.args.desk.now _ c.requires.none refl (λ is. refl)
          (still_ready old.groups held (length c.deref.result.now) s t c.requires.held c.requires.ready c.create_group-made.ensures.attached spares c.gave.new.self.groups (ap (λ (v : SessionView). v.groups) c.gave.ensures))
          spares.later (λ m image before left. (spares.ended m image before).0 left);
    }
