use Rattle.std.proofs.Common.{sym, ap, ◌∙◌}
use Rattle.std.specs.Option.{option_map}
use Rattle.asm_formats.specs.Items.{chunk_item}
use Rattle.extent_map.proofs.ChangeLaws.{put_keeps_chunks}
use Rattle.extent_map.proofs.table.ExtentMap.put_record.Goals as goal

pub returns-clause-chunks : goal.returns-clause-chunks
returns-clause-chunks c = put_keeps_chunks c.as_bytes-bytes.result.now c.args.self.now c.insert.new.self c.args.file c.args.chunk c.in-Some.homes (ap (option_map (chunk_item c.args.file c.args.chunk)) (sym c.in-Some.is) ∙ c.in_ok-homes.ensures) c.in_ok-insert.ensures.ok
