use Rattle.std.proofs.Common.{refl, ap, inl, length, map, ◌∙◌}
use Rattle.std.specs.String.{string_bytes}
use Rattle.session.specs.Sessions.{SessionView, held_by}
use Rattle.group_commands.proofs.Entering.{entered_after, mount_refusal, refused_after, short_after}
use Rattle.group_commands.proofs.mounting.mount_named.Goals as goal

pub returns-in-Ok-enter_mounted : goal.returns-in-Ok-enter_mounted
returns-in-Ok-enter_mounted g c =
    entered_after c.args.name.now c.args.option c.args.desk.now _ refl refl c.requires.ready c.deref-2.result.now (length c.deref.result.now)
    (c.deref-2.ensures.value ∙ c.in-Ok.ensures ∙ ap (λ (s : SessionView). held_by s.groups) c.make_room.ensures) (ap length c.deref.ensures.value)
    c.mount_group.ensures.attached c.mount_group.ensures.spares c.in-Ok-mount_group.group c.in-Ok-mount_group.ensures.mounted c.in-Ok-mount_group.ensures.mounts
    (rw c.make_room.ensures at c.in-Ok-enter_mounted.ensures.place) (rw c.make_room.ensures at c.in-Ok-enter_mounted.ensures.given)
    (rw c.make_room.ensures at c.in-Ok-enter_mounted.ensures.entered) (rw c.make_room.ensures at c.in-Ok-enter_mounted.ensures.groups)

pub returns-in-Ok-mount_group : goal.returns-in-Ok-mount_group
returns-in-Ok-mount_group g c =
    short_after c.args.name.now c.args.option c.args.desk.now _ refl refl c.requires.ready c.deref-2.result.now (length c.deref.result.now)
    (c.deref-2.ensures.value ∙ c.in-Ok.ensures ∙ ap (λ (s : SessionView). held_by s.groups) c.make_room.ensures) (ap length c.deref.ensures.value)
    c.mount_group.ensures.attached c.mount_group.ensures.spares c.in-Ok-mount_group.group.name
    (rw c.make_room.ensures at c.in-Err-enter_mounted.ensures.place) (rw c.make_room.ensures at c.in-Err-enter_mounted.ensures.refused)

pub returns-in-Ok-refusal_of : goal.returns-in-Ok-refusal_of
returns-in-Ok-refusal_of g c =
    let held = c.deref-2.result.now in
    let n = length c.deref.result.now in
    let held_is = c.deref-2.ensures.value ∙ c.in-Ok.ensures ∙ ap (λ (s : SessionView). held_by s.groups) c.make_room.ensures in
    let n_is = ap length c.deref.ensures.value in
    refused_after c.args.name.now c.args.option c.args.desk.now _ refl refl c.requires.ready held n held_is n_is
    c.mount_group.ensures.attached c.mount_group.ensures.spares c.in-Ok-refusal_of.refusal c.make_room.ensures
    (mount_refusal c.args.name.now c.args.option c.args.desk.now _ refl refl c.requires.ready held n held_is n_is c.mount_group.ensures.attached c.mount_group.ensures.spares
    (map string_bytes c.deref-in-Err.result.now) c.in-Ok-refusal_of.refusal c.in-Err.error (ap (map string_bytes) c.deref-in-Err.ensures.value)
    c.in-Err.ensures.cause c.in-Err.ensures.refused c.in-Ok-refusal_of.ensures)

pub returns : goal.returns
returns g c =
    short_after c.args.name.now c.args.option c.args.desk.now _ refl refl c.requires.ready c.deref-2.result.now (length c.deref.result.now)
    (c.deref-2.ensures.value ∙ c.in-Ok.ensures ∙ ap (λ (s : SessionView). held_by s.groups) c.make_room.ensures) (ap length c.deref.ensures.value)
    c.mount_group.ensures.attached c.mount_group.ensures.spares c.args.name.now (ap (λ (s : SessionView). s.place) c.make_room.ensures)
    (inl (ap (λ (s : SessionView). s.groups) c.make_room.ensures))
