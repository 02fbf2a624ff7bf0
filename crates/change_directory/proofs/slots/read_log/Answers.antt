use Rattle.std.proofs.Common.{refl, rules, arith}
use Rattle.change_directory.proofs.LoadTold.{log_told, none_told}
use Rattle.change_directory.proofs.Works.{reads_on, reads_fit, not_err}
use Rattle.change_directory.proofs.slots.read_log.Goals as goal

pub returns-in_err-read_head : goal.returns-in_err-read_head
returns-in_err-read_head g c = let reads = reads_fit {m = 2} {n = 3} (omega arith) c.read_head.ensures.reads in search rules

pub returns-in-None : goal.returns-in-None
returns-in-None g c = record {
  reads = reads_fit {m = 2} (omega arith) c.read_head.ensures.reads;
  done = record {
    is = none_told c.args.copy c.args.log (g.B.Bay.state c.args.bay.now) (g.B.Bay.state c.read_head.new.bay) (g.met.B.Bay.sound c.args.bay.now) c.requires (λ now holds image was. rw c.in-None.is at (c.in_ok-read_head.ensures.done now holds image was));
    sound = λ none. refl;
  };
  refusal = tt;
  cause = not_err;
}

pub returns-in_ok-read-in-Some : goal.returns-in_ok-read-in-Some
returns-in_ok-read-in-Some g c = record {
  reads = reads_on c.read_head.ensures.reads c.read_rest.ensures.reads;
  done = record {
    is = log_told c.args.copy c.args.log _ _ _ c.read_head.ensures.reads.calls.runs c.read_rest.ensures.reads.calls.runs (g.met.B.Bay.sound c.args.bay.now) c.requires c.in-Some.head.bytes _
        (λ now holds image was. rw c.in-Some.is at (c.in_ok-read_head.ensures.done now holds image was)) c.in_ok-read-in-Some.ensures.done.is;
    sound = c.in_ok-read-in-Some.ensures.done.sound;
  };
  refusal = tt;
  cause = not_err;
}

pub returns-in_err-read-in-Some : goal.returns-in_err-read-in-Some
returns-in_err-read-in-Some g c = let reads = reads_on c.read_head.ensures.reads c.read_rest.ensures.reads in search rules
