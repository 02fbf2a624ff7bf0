use Rattle.std.proofs.Common.{◌∙◌, sym}
use Rattle.name_commands.proofs.AskedEdits.{alias_elsewhere, alias_nowhere}
use Rattle.name_commands.proofs.names.alias_path.Goals as goal

pub refused_in-requires-clause-vain : goal.refused_in-requires-clause-vain
refused_in-requires-clause-vain g c =
    alias_nowhere c.args.desk.now.session.place _ c.args.alias c.args.path.now c.in-Ok.group c.requires.asks c.in-Ok.ensures (rw (c.in_default-led.is, c.place.ensures) at c.in-Ok-target.ensures)

pub refused_in-requires-then-not-is_same-clause-vain : goal.refused_in-requires-then-not-is_same-clause-vain
refused_in-requires-then-not-is_same-clause-vain g c =
    alias_elsewhere c.args.desk.now.session.place _ c.args.alias c.args.path.now c.in-Ok.group c.requires.asks c.in-Ok.ensures c.in-Some.path (rw (c.in-Some.is, c.place.ensures) at c.in-Ok-target.ensures)
    (sym c.is_same.ensures ∙ c.if-not-is_same.true)
