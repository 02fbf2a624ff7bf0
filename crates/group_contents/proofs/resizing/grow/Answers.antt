use Rattle.file_extents.proofs.Chains.{kept}
use Rattle.group_contents.proofs.resizing.grow.Goals as goal

pub returns-then-not-is_at_rest-clause-keeps : goal.returns-then-not-is_at_rest-clause-keeps
returns-then-not-is_at_rest-clause-keeps g c = kept c.args.m.now (g.B.Bay.state c.args.bay.now) c.requires.takes

pub returns-in_default-clause-keeps : goal.returns-in_default-clause-keeps
returns-in_default-clause-keeps g c = kept c.args.m.now (g.B.Bay.state c.args.bay.now) c.requires.takes
