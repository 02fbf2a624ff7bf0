use Rattle.refusal_lines.specs.Refusals.{meaning_of}
use Rattle.new_groups.proofs.Formed.{disks_stay, disks_there, newly}
use Rattle.new_groups.proofs.create.form_ready.Goals as goal

pub form-requires-clause-disks : goal.form-requires-clause-disks
form-requires-clause-disks g c = disks_there c.args.slots c.args.held.now c.args.ready.draft.disks.items (g.B.Bay.state c.args.bay.now) c.requires.free

pub mount_formed-requires-clause-disks : goal.mount_formed-requires-clause-disks
mount_formed-requires-clause-disks g c =
    disks_stay c.args.ready.draft.disks.items c.form.ensures.works.attached (disks_there c.args.slots c.args.held.now c.args.ready.draft.disks.items (g.B.Bay.state c.args.bay.now) c.requires.free)

pub mount_formed-requires-clause-parts : goal.mount_formed-requires-clause-parts
mount_formed-requires-clause-parts g c = c.in-Ok.ensures.formed.parts

pub returns-in-Ok-mount_formed-clause-mounted : goal.returns-in-Ok-mount_formed-clause-mounted
returns-in-Ok-mount_formed-clause-mounted g c =
    newly c.args.ready.draft c.requires.agrees c.args.slots c.args.held.now c.in-Ok.formed c.in-Ok-mount_formed.group (g.B.Bay.state c.args.bay.now) (g.B.Bay.state c.form.new.bay) c.requires.free c.form.ensures.works.attached
    c.in-Ok.ensures.formed c.in-Ok-mount_formed.ensures.made c.in-Ok-mount_formed.ensures.whole

pub returns-in-Ok-clause-cause : goal.returns-in-Ok-clause-cause
unfolding meaning_of
returns-in-Ok-clause-cause g c = tt
