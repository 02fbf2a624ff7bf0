use Rattle.std.proofs.Common.{◌-◌, ◌<◌, ◌^◌}
use Rattle.std.proofs.lemmas.Result.{on_ok_weaker}
use Rattle.bay.specs.Image.{Image}
use Rattle.bay.specs.Moments.{NowOnly}
use Rattle.change_directory.specs.Changes.{DecodesIn}
use Rattle.change_directory.specs.Laws.{IsCopyReady}
use Rattle.change_directory.proofs.Usable.{few_pages, short_sector}
use Rattle.change_directory.proofs.Afterwards.{all_images}
use Rattle.change_directory.proofs.Runs.{widened_from, done_from, has_size, may_commit, has_committed}
use Rattle.change_directory.proofs.change.commit.Goals as goal

pub put_log-requires-clause-pages : goal.put_log-requires-clause-pages
put_log-requires-clause-pages g c = few_pages _ _ _ c.requires.pages

pub returns : goal.returns
returns g c =
    let copy = c.args.copy in
    let number = c.args.number in
    let pages = c.args.pages.now in
    let s = g.B.Bay.state c.args.bay.now in
    let sound = g.met.B.Bay.sound c.args.bay.now in
    let is = c.requires.copy in
    let sector = short_sector _ is.sector_size in
    let logged = c.put_log.ensures in
    let ready : number < 2 ^ 64 - 1 → NowOnly s (DecodesIn copy) → (image : Image) → s.leaves s.calls image → IsCopyReady copy number image =
    λ below decode image left. record {
      sized = has_size sound is image left;
      home = c.requires.home.now image left;
      decodes = decode.now image left;
      above = (c.requires.above below).now image left;
    } in
    record {
      call = logged;
      content = λ below decodes decode.
          widened_from (IsCopyReady copy number) sound (ready below decode)
          (λ x y here step. may_commit copy is.least is.most sector number pages (c.requires.pages, all_images _ decodes) x y here step)
          logged.calls.runs;
      committed = λ below decodes decode.
          on_ok_weaker c.put_log.result
          (done_from (IsCopyReady copy number) sound (ready below decode)
          (λ x y here step. has_committed copy is.least is.most sector number pages (c.requires.pages, all_images _ decodes) x y here step))
          logged.done;
    }
