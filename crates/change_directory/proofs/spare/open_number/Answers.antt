use Rattle.std.proofs.Common.{Some, None, refl, ap}
use Rattle.change_directory.proofs.LoadTold.{number_told}
use Rattle.change_directory.proofs.spare.open_number.Goals as goal

pub returns-in-None : goal.returns-in-None
returns-in-None g c = record {
  reads = c.read_head.ensures.reads;
  done = number_told c.args.copy c.args.log None None refl c.read_head.ensures.reads.calls.runs
      (λ now holds image was. rw c.in-None.is at (c.in_ok-read_head.ensures.done now holds image was));
  cause = tt;
}

pub returns-in-Some : goal.returns-in-Some
returns-in-Some g c = record {
  reads = c.read_head.ensures.reads;
  done = number_told c.args.copy c.args.log (Some c.in-Some.head.bytes) _ (ap Some c.head_number.ensures) c.read_head.ensures.reads.calls.runs
      (λ now holds image was. rw c.in-Some.is at (c.in_ok-read_head.ensures.done now holds image was));
  cause = tt;
}
