use Rattle.std.proofs.Common.{sym, ap, ◌∙◌}
use Rattle.std.specs.Option.{option_map}
use Rattle.asm_formats.specs.Items.{DiskInfo}
use Rattle.asm_base.specs.Records.{all_of}
use Rattle.record_values.specs.Values.{disk_reading}
use Rattle.disk_directory.proofs.DiskLaws.{info_is_read}
use Rattle.disk_directory.proofs.table.info_in.Goals as goal

pub returns : goal.returns
returns c =
    info_is_read c.args.key c.args.value.now c.requires
    ∙ ap (option_map (λ (d : DiskInfo). (c.args.key.a, d))) (ap (all_of disk_reading) (sym c.as_bytes.ensures.bytes) ∙ sym c.in_ok-read.ensures)
