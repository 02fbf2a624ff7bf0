use Rattle.change_directory.specs.Laws.{IsDueHere}
use Rattle.change_directory.proofs.Runs.{widened_from, has_size}
use Rattle.change_directory.proofs.Keeping.{keeps_content}
use Rattle.change_directory.proofs.home.checkpoint.Goals as goal

pub returns : goal.returns
returns g c =
    let copy = c.args.copy in
    let pages = c.args.pages.now in
    let sound = g.met.B.Bay.sound c.args.bay.now in
    record {
      call = c.write_synced.ensures;
      content = widened_from (IsDueHere copy pages) sound
          (λ image left. record { sized = has_size sound c.requires.copy image left; due = c.requires.due.now image left })
          (λ x y here step. keeps_content copy pages c.requires.pages c.requires.copy.least x y here.sized step here.due)
          c.write_synced.ensures.calls.runs;
    }
