use Rattle.std.proofs.Common.{sym, ◌∙◌}
use Rattle.disk_directory.proofs.DiskLaws.{is_allowed_item}
use Rattle.disk_directory.proofs.disk_info.is_allowed.Goals as goal

pub returns : goal.returns
returns c = c.are_right.ensures ∙ sym (is_allowed_item c.args.disk c.args.birth c.args.name.now c.args.failgroup.now c.ranges.birth.fits)
