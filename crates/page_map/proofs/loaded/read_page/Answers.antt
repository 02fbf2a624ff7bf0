use Rattle.page_map.proofs.Loading.{reads_some, reads_item}
use Rattle.std.proofs.Common.{◌≡◌, subst, Option}
use Rattle.std.specs.Option.{option_map}
use Rattle.asm_formats.specs.Records.{decoded_frame}
use Rattle.allocator.specs.asm_base.Frames.{entry_frame}
use Rattle.allocator.specs.asm_base.Records.{DirectoryRecord}
use Rattle.page_map.proofs.loaded.read_page.Goals as goal

pub unreachable-requires : goal.unreachable-requires
unreachable-requires c =
    reads_some c.args.block.now c.requires.page c.requires.filled (subst (λ (read : Option DirectoryRecord). option_map entry_frame read ≡ decoded_frame c.args.block.now.bytes) c.in-None.is c.in_ok-record.ensures)

pub returns : goal.returns
returns c =
    reads_item c.args.block.now c.in-Some.record c.requires.page c.requires.filled (subst (λ (read : Option DirectoryRecord). option_map entry_frame read ≡ decoded_frame c.args.block.now.bytes) c.in-Some.is c.in_ok-record.ensures)
