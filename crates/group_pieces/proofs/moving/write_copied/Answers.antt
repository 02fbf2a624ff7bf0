use Rattle.std.proofs.Common.{◌≡◌, rules}
use Rattle.group_pieces.proofs.Written.{copied_writes}
use Rattle.group_pieces.proofs.moving.write_copied.Goals as goal

pub returns-clause-writes : goal.returns-clause-writes
returns-clause-writes g c =
    let same : c.args.flight.x ≡ c.args.x = search rules in
    copied_writes c.args.m.now _ _ c.args.flight c.args.x c.args.inner c.copied_from-count.result c.args.bytes.now same c.write_moved.ensures.writes
