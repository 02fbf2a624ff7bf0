use Rattle.std.proofs.lemmas.Result.{on_ok_weaker}
use Rattle.new_groups.proofs.Records.{put_more}
use Rattle.new_groups.proofs.first_records.+put_disks.Goals as goal

pub returns : goal.returns
returns t c = on_ok_weaker c.put_disks.result (λ rest items. rest (put_more _ _ _ c.in_ok-push.ensures.ok c.in_ok-new.ensures items)) c.put_disks.ensures
