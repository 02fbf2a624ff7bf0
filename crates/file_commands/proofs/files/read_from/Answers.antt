use Rattle.std.proofs.Common.{inl, inr}
use Rattle.session.proofs.Calls.{carries_read}
use Rattle.session.proofs.Carrying.{carries_none}
use Rattle.session.proofs.Ready.{taken}
use Rattle.file_commands.proofs.ReadFailures.{fails_spelt, shows_group}
use Rattle.file_commands.proofs.Spans.{group_read, no_call}
use Rattle.file_commands.proofs.files.read_from.Goals as goal

pub returns-in-Err : goal.returns-in-Err
returns-in-Err g c = record {
  carries = carries_none c.args.session.now c.requires.ready;
  reads = no_call (g.B.Bay.state c.args.bay.now);
  shows = tt;
  cause = inl c.in-Err.ensures.cause;
}

pub read_next-requires : goal.read_next-requires
read_next-requires g c = record { takes = taken c.args.session.now c.args.name.now c.in-Ok.m.now c.requires.ready c.in-Ok.ensures.found }

pub returns-in-Ok-read_next : goal.returns-in-Ok-read_next
returns-in-Ok-read_next g c = record {
  carries = carries_read c.args.session.now c.args.name.now c.in-Ok.m.now c.requires.ready c.in-Ok.ensures.found c.read_next.ensures.keeps;
  reads = group_read c.in-Ok.m.now (g.B.Bay.state c.args.bay.now) (g.B.Bay.state c.read_next.new.bay) c.read_next.ensures.keeps c.read_next.ensures.reads;
  shows = shows_group c.args.session.now c.args.name.now c.in-Ok.m.now (g.B.Bay.state c.args.bay.now) (g.B.Bay.state c.read_next.new.bay) c.args.file.now c.args.at c.read_next.new.buf c.in-Ok.ensures.found c.in-Ok-read_next.ensures.agrees;
  cause = tt;
}

pub returns-in-Err-read_next : goal.returns-in-Err-read_next
returns-in-Err-read_next g c = record {
  carries = carries_read c.args.session.now c.args.name.now c.in-Ok.m.now c.requires.ready c.in-Ok.ensures.found c.read_next.ensures.keeps;
  reads = group_read c.in-Ok.m.now (g.B.Bay.state c.args.bay.now) (g.B.Bay.state c.read_next.new.bay) c.read_next.ensures.keeps c.read_next.ensures.reads;
  shows = tt;
  cause = inr (fails_spelt c.in-Ok.m.now (g.B.Bay.state c.args.bay.now) (g.B.Bay.state c.read_next.new.bay) c.args.file.now c.in-Err-read_next.refusal c.spelt.result c.in-Ok.ensures.found.mounted c.in-Err-read_next.ensures.cause c.spelt.ensures);
}
