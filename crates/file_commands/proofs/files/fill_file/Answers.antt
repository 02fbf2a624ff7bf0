use Rattle.std.proofs.Common.{refl, replicate}
use Rattle.session.specs.Desks.{paths_on}
use Rattle.file_commands.proofs.WriteRefusals.{no_target}
use Rattle.file_commands.proofs.WrittenSession.{answered_refused, dbfill_of}
use Rattle.file_commands.proofs.files.fill_file.Goals as goal

pub write_in-requires-clause-asks : goal.write_in-requires-clause-asks
write_in-requires-clause-asks g c = (c.in-Ok-copy.ensures, (c.args.path, c.requires.asked, rw (c.place.ensures, c.as_slice.ensures) at c.in-Ok.ensures.led))

pub returns-in-Err : goal.returns-in-Err
returns-in-Err g c = record {
  answers = answered_refused c.args.text.now _ c.args.desk.now _ c.in-Err.refusal refl refl refl refl c.refused.ensures.reply c.refused.ensures.found c.requires.ready (λ w below knows.
      no_target (paths_on c.args.desk.now) c.args.text.now c.args.path c.args.at (replicate c.args.size c.args.byte) (dbfill_of c.args.text.now c.args.path c.args.at c.args.size c.args.byte c.requires.asked)
      c.args.desk.now.session (g.B.Bay.state c.args.desk.now.bay) w below knows c.in-Err.refusal (rw (c.place.ensures, c.as_slice.ensures) at c.in-Err.ensures.cause));
}
