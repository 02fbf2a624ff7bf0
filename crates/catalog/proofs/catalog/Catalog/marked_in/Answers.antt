use Rattle.std.proofs.Common.{List, ℕ, Some, sym, ap, ◌∙◌}
use Rattle.catalog.proofs.MarkedExtents.{chunk_long, no_place, place_found}
use Rattle.catalog.proofs.catalog.Catalog.marked_in.Goals as goal

pub first_place-requires-clause-homes : goal.first_place-requires-clause-homes
first_place-requires-clause-homes c = chunk_long c.args.self.now c.args.at c.in-Some-chunk.homes.now c.keeps_rules.ensures (sym c.in-Some-chunk.ensures)

pub returns-in_default-first_place-clause-none : goal.returns-in_default-first_place-clause-none
returns-in_default-first_place-clause-none c =
    no_place c.args.self.now.tables c.args.disk c.args.at c.args.from c.marks.inside.bits c.in-Some-chunk.homes.now (sym c.in-Some.ensures ∙ ap (λ (m : List ℕ). Some m) (sym c.marks.view_is)) (sym c.in-Some-chunk.ensures)
    c.in_default-first_place.ensures.none

pub returns-clause-found : goal.returns-clause-found
returns-clause-found c =
    place_found c.args.self.now.tables c.args.disk c.args.at c.args.from c.marks.inside.bits c.in-Some-chunk.homes.now (sym c.in-Some.ensures ∙ ap (λ (m : List ℕ). Some m) (sym c.marks.view_is)) (sym c.in-Some-chunk.ensures)
    c.in-Some-first_place.place c.in-Some-first_place.ensures.found
