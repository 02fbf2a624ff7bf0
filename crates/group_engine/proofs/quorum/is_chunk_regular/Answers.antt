use Rattle.std.proofs.Common.{◌≡◌, ◌∙◌, List, Bool, true, false, ◌&&◌, is_eq, sym, ap}
use Rattle.std.specs.BTreeMap.{is_at}
use Rattle.std.specs.List.{list_all}
use Rattle.asm_formats.specs.Items.{Homes}
use Rattle.rebalance.specs.extent_map.Extents.{Chunked}
use Rattle.asm_base.specs.Chunks.{chunk_cmp}
use Rattle.rebalance.specs.catalog_tables.Rules.{are_on_regular, is_regular_chunk}
use Rattle.rebalance.proofs.Following.{due_none, due_some}
use Rattle.group_engine.proofs.quorum.is_chunk_regular.Goals as goal

pub returns-then-is_eq : goal.returns-then-is_eq
returns-then-is_eq c =
    let test = is_regular_chunk c.args.disks.now in
    let first : Chunked = (c.in-Some.first.now, c.in-Some.chunk.now) in
    let here : is_at (chunk_cmp c.args.at) first.0 ≡ true = sym (c.is_eq.ensures ∙ ap is_eq c.cmp.ensures) ∙ c.if-is_eq.true in
    c.are_on_regular_all.ensures ∙ ap (λ (hs : List Homes). list_all (are_on_regular c.args.disks.now) hs) c.as_slice.ensures.homes ∙ sym (ap (λ (b : Bool). b && test first) here)
    ∙ due_some test c.args.at c.args.catalog.now.tables.extents c.chunks_from.result first c.next.new.self c.requires.extents.0.0 c.chunks_from.ensures c.in-Some.ensures.steps

pub returns-else-is_eq : goal.returns-else-is_eq
returns-else-is_eq c =
    let test = is_regular_chunk c.args.disks.now in
    let first : Chunked = (c.in-Some.first.now, c.in-Some.chunk.now) in
    let other : is_at (chunk_cmp c.args.at) first.0 ≡ false = sym (c.is_eq.ensures ∙ ap is_eq c.cmp.ensures) ∙ c.if-is_eq.false in
    c.if-is_eq.false ∙ sym (ap (λ (b : Bool). b && test first) other)
    ∙ due_some test c.args.at c.args.catalog.now.tables.extents c.chunks_from.result first c.next.new.self c.requires.extents.0.0 c.chunks_from.ensures c.in-Some.ensures.steps

pub returns-in-None : goal.returns-in-None
returns-in-None c =
    due_none (is_regular_chunk c.args.disks.now) c.args.at c.args.catalog.now.tables.extents c.chunks_from.result c.requires.extents.0.0 c.chunks_from.ensures c.in-None.ensures.steps.0
