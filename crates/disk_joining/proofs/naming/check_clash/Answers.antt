use Rattle.std.proofs.Common.{inl, sym, ◌∙◌}
use Rattle.refusal_lines.specs.Refusals.{meaning_of}
use Rattle.disk_joining.proofs.Unfit.{names_clash}
use Rattle.disk_joining.proofs.naming.check_clash.Goals as goal

pub returns-then-is_name_taken-clause-refused : goal.returns-then-is_name_taken-clause-refused
unfolding meaning_of
returns-then-is_name_taken-clause-refused c = inl (names_clash c.args.rows.now c.args.disks.now (sym c.is_name_taken.ensures ∙ c.if-is_name_taken.true))
