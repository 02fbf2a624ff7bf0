use Rattle.std.proofs.Common.{◌≡◌, ⊎_elim, inl, inr, map, Ok, Err, refl, sym}
use Rattle.std.specs.Map.{set_value}
use Rattle.refusal_lines.specs.Refusals.{meaning_of}
use Rattle.refusal_lines.specs.declared.refusal.Refusal.TheVariants.{NoGroup}
use Rattle.session.specs.declared.entry.Entry.{Entry}
use Rattle.session.specs.Entries.{entry_view}
use Rattle.session.proofs.Carrying.{carries_none}
use Rattle.session.proofs.Entries.{sought}
use Rattle.session.proofs.Grouped.{given_keys, group_found, keys_set}
use Rattle.session.proofs.Outs.{absent_out, shut_after}
use Rattle.session.proofs.Ready.{found_among}
use Rattle.session.proofs.Working.{never_found, works}
use Rattle.session.proofs.session.Session.work.Goals as goal
use Rattle.session.proofs.session.Session.work.Goals.{in-Ok, in-Err}

pub returns-in_default : goal.returns-in_default
unfolding meaning_of
returns-in_default g c =
    let ready = rw (← c.self.view_is) at c.requires.ready in
    rw (c.get_mut.follows.holds-at-none, ← c.self.view_is) (record {
      found = tt;
      done = tt;
      out = inr (absent_out c.args.name.now c.self.inside.groups.entries NoGroup (sym c.in_default.ensures.value) refl);
      groups = inl refl;
      idle = λ none. (refl, refl);
      works = λ found. absurd (never_found c.args.name.now c.self.inside.groups.entries c.self.inside.place c.self.inside.given c.self.inside.time (sym c.in_default.ensures.value) found);
      carries = carries_none _ ready;
    })

pub work_on-requires : goal.work_on-requires
work_on-requires g c =
    let ready = rw (← c.self.view_is) at c.requires.ready in
    record { takes = ready.takes c.in-Some.entry.now.group (found_among _ _ c.args.name.now _ (group_found c.args.name.now c.self.inside.groups.entries c.in-Some.entry.now (sym c.in-Some.ensures.value))) }

pub invariant_of-self-2 : goal.invariant_of-self-2
invariant_of-self-2 g c =
    let v = c.in-Some.entry.now in
    let after : Entry = record { id = v.id; group = c.work_on.new.m } in
    let es = c.self.inside.groups.entries in
    let is : (c.get_mut.follows.lender after).entries ≡ set_value (sought c.args.name.now) es after = (c.get_mut.follows.holds after).0 in
    let given = given_keys (map entry_view es) (map entry_view (c.get_mut.follows.lender after).entries) c.self.inside.given (rw is (keys_set c.args.name.now v after es refl (sym c.in-Some.ensures.value))) c.self.invariant in
    elim c.match-work_on.branch [
      | in-Ok w ↦ rw w.self-inside-is given
      | in-Err w ↦ rw w.self-inside-is given
    ]

pub returns : goal.returns
returns g c =
    let v = c.in-Some.entry.now in
    let name = c.args.name.now in
    let after : Entry = record { id = v.id; group = c.work_on.new.m } in
    let es = c.self.inside.groups.entries in
    let is : (c.get_mut.follows.lender after).entries ≡ set_value (sought name) es after = (c.get_mut.follows.holds after).0 in
    let ready = rw (← c.self.view_is) at c.requires.ready in
    let apart = rw (← c.self.view_is) at c.shows_names.ensures.apart in
    let all = works g.B.Bay.state c.args.bay.now c.work_on.new.bay name v after es (c.get_mut.follows.lender after).entries c.self.inside.place c.self.inside.given c.self.inside.time
    is (sym c.in-Some.ensures.value) refl c.work_on.ensures.keeps c.work_on.ensures.idle ready apart (g.W.GroupWork.does c.args.work) in
    elim c.match-work_on.branch [
      | in-Ok w ↦ rw (w.result-is, w.self-inside-is, ← c.self.view_is) (all (Ok w.in-Ok.given) (Ok w.in-Ok.given) refl (rw w.in-Ok.is at c.work_on.ensures.does) w.in-Ok.ensures.found tt)
      | in-Err w ↦ rw (w.result-is, w.self-inside-is, ← c.self.view_is)
          (all (Err w.in-Err.refusal) (Err w.spelt.result) (w.spelt.result, refl, w.spelt.ensures) (rw w.in-Err.is at c.work_on.ensures.does)
          tt (⊎_elim (λ on. inl on) (λ shut. inr (shut_after name es v c.work_on.new.m w.in-Err.refusal _ (sym c.in-Some.ensures.value) (λ off. (c.work_on.ensures.idle off).0) shut w.spelt.ensures)) w.in-Err.ensures.shut))
    ]
