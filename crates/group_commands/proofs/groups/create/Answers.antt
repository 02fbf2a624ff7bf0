use Rattle.std.proofs.Common.{sym}
use Rattle.group_commands.proofs.Creations.{means_creation, named_creation}
use Rattle.group_commands.proofs.groups.create.Goals as goal

pub create_external-requires-clause-says : goal.create_external-requires-clause-says
create_external-requires-clause-says g c =
    rw c.as_slice-in-Some.ensures (means_creation c.args.text.now c.args.name c.in-Some.path.now c.args.kind c.args.groups c.args.attributes c.requires.asked (rw (c.as_slice.ensures, c.as_slice-2.ensures) at c.in-Some.ensures))

pub create_external-requires-clause-named : goal.create_external-requires-clause-named
create_external-requires-clause-named g c =
    named_creation c.args.text.now c.args.name c.in-Some.path.now c.args.kind c.args.groups c.args.attributes c.requires.asked (rw (c.as_slice.ensures, c.as_slice-2.ensures) at c.in-Some.ensures)

pub create_any-requires-clause-other : goal.create_any-requires-clause-other
create_any-requires-clause-other g c = sym (rw (c.as_slice.ensures, c.as_slice-2.ensures) at c.in-None.ensures)
