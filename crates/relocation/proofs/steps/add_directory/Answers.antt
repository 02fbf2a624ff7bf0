use Rattle.std.proofs.Common.{sym}
use Rattle.relocation.proofs.Chains.{copy_goes, goes_short, nothing_lets}
use Rattle.relocation.proofs.steps.add_directory.Goals as goal

pub returns-then-to-ge64 : goal.returns-then-to-ge64
returns-then-to-ge64 g c = goes_short (nothing_lets c.args.m.now (g.B.Bay.state c.args.bay.now) c.requires.takes)

pub returns-in_default : goal.returns-in_default
returns-in_default g c = goes_short (nothing_lets c.args.m.now (g.B.Bay.state c.args.bay.now) c.requires.takes)

pub returns : goal.returns
returns g c =
    copy_goes (c.requires.takes c.requires.mounted).0 c.copy_directory.ensures.keeps c.args.to c.in-Some._slot (sym c.in-Some.ensures) c.copy_directory.result c.copy_directory.ensures.mounted
    c.copy_directory.ensures.cause
