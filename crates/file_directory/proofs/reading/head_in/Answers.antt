use Rattle.std.proofs.Common.{sym, ap, ◌∙◌, arith}
use Rattle.std.specs.Option.{option_map}
use Rattle.asm_formats.specs.Items.{FileHead}
use Rattle.asm_base.specs.Records.{all_of}
use Rattle.record_values.specs.Values.{file_reading}
use Rattle.file_directory.proofs.Laws.{file_is_read}
use Rattle.file_directory.proofs.reading.head_in.Goals as goal

pub returns : goal.returns
returns c =
    file_is_read c.args.key c.args.value.now (omega arith) c.requires
    ∙ ap (option_map (λ (h : FileHead). (c.args.key.a, h))) (ap (all_of file_reading) (sym c.as_bytes.ensures.bytes) ∙ sym c.in_ok-read.ensures)
