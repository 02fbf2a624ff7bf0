use Rattle.std.proofs.Common.{◌≡◌, List, ◌∷◌, length, sym, ap}
use Rattle.asm_group.specs.Names.{Bytes}
use Rattle.report_laws.specs.Places.{spelt_by}
use Rattle.report_laws.proofs.Spelling.{names_none}
use Rattle.report_commands.proofs.places.place_of.Goals as goal
use Rattle.report_commands.proofs.places.place_of.Goals.{in-Some+in_ok-put_names, in_default}

pub returns : goal.returns
returns c =
    let m = c.args.m.now in
    let nodes = m.catalog.tables.nodes in
    elim c.match-spelt-3.branch [
      | in-Some+in_ok-put_names w ↦
          let parts : w.in-Some.path.parts ≡ spelt_by m.catalog.tables c.args.node = rw (w.in-Some.is, c.catalog.ensures) at c.in_ok-spelt.ensures.spelt in
          rw (w.place-is, w.in_ok-put_names.ensures, c.in_ok-push.ensures.ok, c.new-place.ensures, c.in_ok-copy.ensures, c.name-2.ensures, w.as_slice.ensures) (ap (λ (l : List Bytes). m.name ∷ l) parts)
      | in_default w ↦
          let none = rw (w.in_default.is, c.catalog.ensures) at c.in_ok-spelt.ensures.none in
          rw (w.place-is, c.in_ok-push.ensures.ok, c.new-place.ensures, c.in_ok-copy.ensures, c.name-2.ensures) (ap (λ (l : List Bytes). m.name ∷ l) (sym (names_none nodes (length nodes) c.args.node none)))
    ]
