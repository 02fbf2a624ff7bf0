use Rattle.std.proofs.Common.{◌≡◌, map, refl, sym}
use Rattle.session.specs.declared.entry.Entry.{Entry}
use Rattle.session.specs.Entries.{entry_view}
use Rattle.group_turns.specs.Turns.{when_of}
use Rattle.session.proofs.Grouped.{given_keys}
use Rattle.session.proofs.Turning.{among_at, group_at, idle_so, keys_put, line_among, turn_carries, turn_idle, work_so}
use Rattle.session.proofs.session.Session.turn.Goals as goal
use Rattle.session.proofs.session.Session.turn.Goals.{in-Some, in-None}

pub take_turn-requires : goal.take_turn-requires
take_turn-requires g c =
    let ready = rw (← c.self.view_is) at c.requires.ready in
    record { takes = ready.takes c.in-Some.entry.now.group (among_at _ c.args.place _ (group_at c.self.inside.groups.entries c.args.place c.in-Some.entry.now (sym c.in-Some.ensures.value))) }

pub invariant_of-self : goal.invariant_of-self
invariant_of-self g c =
    let es = c.self.inside.groups.entries in
    elim c.match-get_index_mut.branch [
      | in-Some w ↦
          let v = w.in-Some.entry.now in
          let after : Entry = record { id = v.id; group = w.take_turn.new.m } in
          rw w.self-inside-is (given_keys (map entry_view es) _ c.self.inside.given (keys_put es c.args.place v after refl (sym w.in-Some.ensures.value)) c.self.invariant)
      | in-None w ↦ rw w.self-inside-is c.self.invariant
    ]

pub returns-clause-idle : goal.returns-clause-idle
returns-clause-idle g c =
    let es = c.self.inside.groups.entries in
    elim c.match-get_index_mut.branch [
      | in-Some w ↦
          let v = w.in-Some.entry.now in
          let after : Entry = record { id = v.id; group = w.take_turn.new.m } in
          rw (w.result-is, w.self-inside-is, w.bay-is, ← c.self.view_is)
          (idle_so _ _ w.take_turn.result (λ same. (turn_idle c.args.place v after es _ c.self.inside.place c.self.inside.given c.self.inside.time refl (sym w.in-Some.ensures.value) refl same.0, same.1)) w.take_turn.ensures.idle)
      | in-None w ↦ rw (w.result-is, w.self-inside-is, w.bay-is, ← c.self.view_is) (refl, refl)
    ]

pub returns-clause-carries : goal.returns-clause-carries
returns-clause-carries g c =
    let es = c.self.inside.groups.entries in
    let ready = rw (← c.self.view_is) at c.requires.ready in
    elim c.match-get_index_mut.branch [
      | in-Some w ↦
          let v = w.in-Some.entry.now in
          let after : Entry = record { id = v.id; group = w.take_turn.new.m } in
          rw (w.result-is, w.self-inside-is, w.bay-is, ← c.self.view_is)
          (work_so _ _ w.take_turn.result (λ went. turn_carries c.args.place v after es _ c.self.inside.place c.self.inside.given c.self.inside.time refl (sym w.in-Some.ensures.value) refl ready went) w.take_turn.ensures.lets)
      | in-None w ↦ rw (w.result-is) tt
    ]

pub returns-clause-line : goal.returns-clause-line
returns-clause-line g c =
    let es = c.self.inside.groups.entries in
    elim c.match-get_index_mut.branch [
      | in-Some w ↦
          let v = w.in-Some.entry.now in
          rw (w.result-is, w.line-is, ← c.self.view_is)
          (line_among w.take_turn.result (when_of c.args.turn) _ v.group _ (among_at _ c.args.place _ (group_at es c.args.place v (sym w.in-Some.ensures.value))) w.take_turn.ensures.line)
      | in-None w ↦ rw (w.result-is) tt
    ]
