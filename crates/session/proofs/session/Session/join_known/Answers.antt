use Rattle.std.proofs.Common.{◌≡◌, ⊎_elim, inl, inr, map, refl, sym}
use Rattle.std.specs.Map.{set_value}
use Rattle.refusal_lines.specs.Refusals.{meaning_of}
use Rattle.refusal_lines.specs.declared.refusal.Refusal.TheVariants.{NoGroup}
use Rattle.session.specs.declared.entry.Entry.{Entry}
use Rattle.session.specs.Entries.{entry_view}
use Rattle.session.proofs.Attached.{joins}
use Rattle.session.proofs.Carrying.{carries_none}
use Rattle.session.proofs.Entries.{sought}
use Rattle.session.proofs.Grouped.{given_keys, group_found, keys_set}
use Rattle.session.proofs.Outs.{absent_out, shut_after}
use Rattle.session.proofs.Ready.{found_among, held_covers}
use Rattle.session.proofs.session.Session.join_known.Goals as goal
use Rattle.session.proofs.session.Session.join_known.Goals.{in-Ok, in-Err}

pub returns-in_default : goal.returns-in_default
unfolding meaning_of
returns-in_default g c =
    let ready = rw (← c.self.view_is) at c.requires.ready in
    rw (c.get_mut.follows.holds-at-none, ← c.self.view_is) (record {
      found = tt;
      out = inr (absent_out c.args.name.now c.self.inside.groups.entries NoGroup (sym c.in_default.ensures.value) refl);
      carries = carries_none _ ready;
    })

pub join_on-requires-clause-takes : goal.join_on-requires-clause-takes
join_on-requires-clause-takes g c =
    let ready = rw (← c.self.view_is) at c.requires.ready in
    ready.takes c.in-Some.entry.now.group (found_among _ _ c.args.name.now _ (group_found c.args.name.now c.self.inside.groups.entries c.in-Some.entry.now (sym c.in-Some.ensures.value)))

pub invariant_of-self-2 : goal.invariant_of-self-2
invariant_of-self-2 g c =
    let v = c.in-Some.entry.now in
    let after : Entry = record { id = v.id; group = c.join_on.new.m } in
    let es = c.self.inside.groups.entries in
    let is : (c.get_mut.follows.lender after).entries ≡ set_value (sought c.args.name.now) es after = (c.get_mut.follows.holds after).0 in
    let given = given_keys (map entry_view es) (map entry_view (c.get_mut.follows.lender after).entries) c.self.inside.given (rw is (keys_set c.args.name.now v after es refl (sym c.in-Some.ensures.value))) c.self.invariant in
    elim c.match-join_on.branch [
      | in-Ok w ↦ rw w.self-inside-is given
      | in-Err w ↦ rw w.self-inside-is given
    ]

pub returns : goal.returns
returns g c =
    let v = c.in-Some.entry.now in
    let name = c.args.name.now in
    let after : Entry = record { id = v.id; group = c.join_on.new.m } in
    let es = c.self.inside.groups.entries in
    let is : (c.get_mut.follows.lender after).entries ≡ set_value (sought name) es after = (c.get_mut.follows.holds after).0 in
    let ready = rw (← c.self.view_is) at c.requires.ready in
    let all = joins g.B.Bay.state c.args.bay.now c.join_on.new.bay name v after es (c.get_mut.follows.lender after).entries c.self.inside.place c.self.inside.given c.self.inside.time
    is (sym c.in-Some.ensures.value) refl c.args.known.held.items (held_covers _ c.args.known.held.items (rw (← c.self.view_is) at c.requires.held) ready) c.join_on.ensures.keeps c.join_on.ensures.idle ready in
    elim c.match-join_on.branch [
      | in-Ok w ↦ rw (w.result-is, w.self-inside-is, ← c.self.view_is) (all _ w.in-Ok.ensures.found tt)
      | in-Err w ↦ rw (w.result-is, w.self-inside-is, ← c.self.view_is)
          (all _ tt (⊎_elim (λ on. inl on) (λ shut. inr (shut_after name es v c.join_on.new.m w.in-Err.refusal _ (sym c.in-Some.ensures.value) (λ off. (c.join_on.ensures.idle off).0) shut w.spelt.ensures)) w.in-Err.ensures.shut))
    ]
