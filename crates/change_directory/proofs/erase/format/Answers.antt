use Rattle.bay.proofs.OneCall.{wider}
use Rattle.change_directory.specs.Formatting.{IsWholeCopy}
use Rattle.change_directory.proofs.Runs.{widened_from, has_size}
use Rattle.change_directory.proofs.erase.format.Goals as goal

pub returns : goal.returns
returns g c =
    let copy = c.args.copy in
    let sound = g.met.B.Bay.sound c.args.bay.now in
    let erased = c.erase.ensures in
    record {
      call = record { calls = wider (λ x y step. step.formats) erased.calls; done = erased.done; cause = erased.cause };
      content = λ decode home.
          widened_from (IsWholeCopy copy) sound
          (λ image left. record { sized = has_size sound c.requires image left; home = home.now image left; decodes = decode.now image left })
          (λ x y whole step. step.loses whole) erased.calls.runs;
    }
