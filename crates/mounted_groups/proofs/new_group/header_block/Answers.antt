use Rattle.mounted_groups.proofs.FirstRecords.{header_right}
use Rattle.mounted_groups.proofs.new_group.header_block.Goals as goal

pub encode-requires : goal.encode-requires
encode-requires c = header_right _ _ _ _ c.args.group.now c.group.view_is c.in_ok-copy.ensures c.in_ok-copy-2.ensures c.in_ok-copy-3.ensures c.requires
