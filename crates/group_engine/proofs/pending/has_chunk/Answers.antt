use Rattle.std.proofs.Common.{sym, ◌∙◌}
use Rattle.group_engine.proofs.Chunks.{none_seen, other_seen, same_seen}
use Rattle.group_engine.proofs.pending.has_chunk.Goals as goal

pub returns-then-at-file : goal.returns-then-at-file
returns-then-at-file c = same_seen c.args.catalog.now.tables.extents c.requires.extents.0.0 (c.args.file, c.args.chunk) c.in-Some.at (sym c.chunk_from.ensures ∙ c.in-Some.is) c.if-at-file.true

pub returns-else-at-file : goal.returns-else-at-file
returns-else-at-file c = other_seen c.args.catalog.now.tables.extents c.requires.extents.0.0 (c.args.file, c.args.chunk) c.in-Some.at (sym c.chunk_from.ensures ∙ c.in-Some.is) c.if-at-file.false

pub returns-in-None : goal.returns-in-None
returns-in-None c = none_seen c.args.catalog.now.tables.extents c.requires.extents.0.0 (c.args.file, c.args.chunk) (sym c.chunk_from.ensures ∙ c.in-None.is)
