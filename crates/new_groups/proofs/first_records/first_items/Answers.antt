use Rattle.new_groups.proofs.Records.{put_more, put_none}
use Rattle.new_groups.proofs.first_records.first_items.Goals as goal

pub returns : goal.returns
returns c =
    put_more _ _ _ c.in_ok-push-2.ensures.ok c.in_ok-own.ensures
    (put_more _ _ _ c.in_ok-push.ensures.ok c.in_ok-templates.ensures (c.in_ok-put_disks.ensures (put_none _ c.new-put.ensures)))
