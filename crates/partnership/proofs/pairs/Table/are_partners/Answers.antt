use Rattle.std.proofs.Common.{List, sym, ap, ◌∙◌}
use Rattle.asm_placement.specs.Partners.{Pair, are_partners}
use Rattle.partnership.proofs.Tables.{partners_reversed}
use Rattle.partnership.proofs.pairs.Table.are_partners.Goals as goal

pub returns : goal.returns
returns c =
    c.are_partners.ensures
    ∙ ap (λ (ps : List Pair). are_partners ps c.args.a c.args.b) c.deref.ensures.value
    ∙ sym (partners_reversed c.self.inside.pairs.items c.args.a c.args.b)
    ∙ ap (λ (ps : List Pair). are_partners ps c.args.a c.args.b) c.self.view_is
