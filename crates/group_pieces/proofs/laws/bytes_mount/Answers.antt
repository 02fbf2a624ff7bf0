use Rattle.group_pieces.proofs.Rewritten.{bytes_mount}
use Rattle.group_pieces.proofs.laws.bytes_mount.Goals as goal

pub returns : goal.returns
returns g c = bytes_mount (g.B.Bay.state c.args.start.now) (g.B.Bay.state c.args.end.now)
