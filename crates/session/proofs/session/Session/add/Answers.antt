use Rattle.std.proofs.Common.{◌≡◌, false, is_some, map, sym, subst}
use Rattle.std.specs.Prelude.{List}
use Rattle.asm_world.specs.World.{SessionEntry, entry_among}
use Rattle.session.specs.Entries.{entry_view}
use Rattle.session.specs.Sessions.{AreGiven}
use Rattle.session.proofs.Giving.{entered_given}
use Rattle.session.proofs.Grouped.{entry_added, group_added}
use Rattle.session.proofs.session.Session.add.Goals as goal
use Rattle.session.proofs.session.Session.add.Goals.{in-Ok, in-Err}

pub returns-clause-entered : goal.returns-clause-entered
returns-clause-entered c =
    let absent : is_some (entry_among (map entry_view c.self.inside.groups.entries) c.args.name) ≡ false = rw (← c.self.view_is) at c.requires.absent in
    rw (← c.self.view_is) (elim c.match-put.branch [
      | in-Ok w ↦ rw w.result-is (entry_added c.self.inside.groups c.args.name c.args.id c.args.group _ c.requires.mounted w.in-Ok.ensures.entries absent)
      | in-Err w ↦ rw w.result-is tt
    ])

pub returns-clause-groups : goal.returns-clause-groups
returns-clause-groups c =
    let absent : is_some (entry_among (map entry_view c.self.inside.groups.entries) c.args.name) ≡ false = rw (← c.self.view_is) at c.requires.absent in
    rw (← c.self.view_is) (elim c.match-put.branch [
      | in-Ok w ↦ rw w.result-is (group_added c.self.inside.groups (record { name = c.args.name }) (record { id = c.args.id; group = c.args.group }) _ w.in-Ok.ensures.entries absent)
      | in-Err w ↦ rw w.result-is tt
    ])

pub invariant_of-self : goal.invariant_of-self
invariant_of-self c =
    let absent : is_some (entry_among (map entry_view c.self.inside.groups.entries) c.args.name) ≡ false = rw (← c.self.view_is) at c.requires.absent in
    let given = rw (← c.self.view_is) at c.requires.given in
    let P : List SessionEntry → Type 0 = λ es. AreGiven es c.self.inside.given in
    elim c.match-put.branch [
      | in-Ok w ↦ subst P (sym (entry_added c.self.inside.groups c.args.name c.args.id c.args.group _ c.requires.mounted w.in-Ok.ensures.entries absent))
          (entered_given (map entry_view c.self.inside.groups.entries) c.self.inside.given c.args.id c.args.name given c.self.invariant)
      | in-Err w ↦ rw w.in-Err.ensures.same c.self.invariant
    ]
