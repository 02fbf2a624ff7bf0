use Rattle.std.proofs.Common.{ap, ◌∙◌, List, ℕ, Option}
use Rattle.allocator.specs.asm_base.Records.{DirectoryRecord, record_at}
use Rattle.page_map.specs.Tables.{block_of}
use Rattle.page_map.proofs.all_pages.page_block.Goals as goal

pub returns-in-None : goal.returns-in-None
returns-in-None c = c.zeros.ensures ∙ ap (λ (v : Option (List ℕ)). block_of c.args.key v) (c.in-None.ensures ∙ ap (λ (rs : List DirectoryRecord). record_at rs c.args.key) c.records.ensures)
