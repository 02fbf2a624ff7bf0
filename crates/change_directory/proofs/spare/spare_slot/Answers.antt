use Rattle.std.proofs.Common.{◌∙◌, rules}
use Rattle.change_directory.proofs.Spares.{spare_read}
use Rattle.change_directory.proofs.Works.{reads_on}
use Rattle.change_directory.proofs.spare.spare_slot.Goals as goal

pub returns-in_err-second : goal.returns-in_err-second
returns-in_err-second g c = let reads = reads_on c.open_number.ensures.reads c.open_number-2.ensures.reads in search rules

pub returns : goal.returns
returns g c = record {
  reads = reads_on c.open_number.ensures.reads c.open_number-2.ensures.reads;
  done = λ image holds.
      let from = c.open_number-2.ensures.reads.calls.runs.held image holds in
      c.spare_of.ensures ∙ spare_read c.args.copy from.0 image _ _ from.2 (c.in_ok-first.ensures.done from.0 from.1) (c.in_ok-second.ensures.done image holds);
  cause = tt;
}
