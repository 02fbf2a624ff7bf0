use Rattle.std.proofs.Common.{◌≡◌, ◌∙◌, ◌/◌, Bool, false, ◌&&◌, List, sym, ap, subst}
use Rattle.asm_formats.specs.Status.{Entry}
use Rattle.rebalance.specs.catalog_tables.Rules.{is_regular_chunk}
use Rattle.rebalance.specs.Cursors.{IsFollowed, passes_at}
use Rattle.group_engine.specs.Searches.{SearchState}
use Rattle.group_engine.proofs.Searches.{followed_search}
use Rattle.group_engine.proofs.search.Search.follow.Goals as goal
use Rattle.group_engine.proofs.search.Search.follow.Goals.{then-self, else-self}

pub returns : goal.returns
returns c =
    let there : Bool = passes_at (is_regular_chunk c.args.status.now.entries) c.args.catalog.now.tables.extents (c.args.extent.file, c.args.extent.index / 256) in
    let was : c.self.inside.is_regular ≡ c.args.self.now.is_regular = ap (λ (s : SearchState). s.is_regular) c.self.view_is in
    let follows = subst (λ (s : SearchState). IsFollowed (c.args.extent.file, c.args.extent.index / 256) s.cursor c.args.catalog.now c.args.status.now c.follow.new.self) c.self.view_is c.follow.ensures.follows in
    let regular : c.if-self.self ≡ (c.args.self.now.is_regular && there) = elim c.if-self.branch [
      | then-self w ↦
          let is : w.is_chunk_regular-self-inside.result ≡ there = w.is_chunk_regular-self-inside.ensures
          ∙ ap (λ (es : List Entry). passes_at (is_regular_chunk es) c.args.catalog.now.tables.extents (c.args.extent.file, c.args.extent.index / 256)) w.entries.ensures.entries in
          let out : c.if-self.self ≡ there = cc in
          out ∙ sym (ap (λ (b : Bool). b && there) (sym was ∙ w.if-self.true))
      | else-self w ↦
          let out : c.if-self.self ≡ false = cc in
          out ∙ sym (ap (λ (b : Bool). b && there) (sym was ∙ w.if-self.false))
    ] in
    followed_search (c.args.extent.file, c.args.extent.index / 256) c.args.catalog.now c.args.status.now c.args.self.now c.follow.new.self c.if-self.self c.requires.tables c.requires.search follows regular
