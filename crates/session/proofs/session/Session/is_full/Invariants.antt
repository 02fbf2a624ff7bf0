use Rattle.std.proofs.Common.{◌≡◌, ◌+◌, ◌<◌}
use Rattle.session.proofs.Grouped.{mounted_among, up_among}
use Rattle.session.proofs.session.Session.is_full.Given as goal

abbrev pub invariant-loop-entry : goal.invariant-loop-entry
invariant-loop-entry l = record {
  few : l.mounted < 8;
  counts : l.mounted + up_among l.entry-iterator ≡ mounted_among l.self.entries;
}
