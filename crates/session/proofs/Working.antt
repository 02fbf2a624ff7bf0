-- The session over a piece of work on one of its groups.
use Rattle.std.proofs.Common.{◌≡◌, ◌⊎◌, ⊎_elim, inl, inr, ℕ, List, map, Some, None, Result, Ok, Err, refl, sym, ◌∙◌, ap, subst}
use Rattle.std.specs.Prelude.{IfErr, IfOk, OnOk}
use Rattle.std.specs.Map.{lookup, set_value}
use Rattle.bay.specs.State.{BayState}
use Rattle.refusal_lines.specs.declared.refusal.Refusal.{Refusal}
use Rattle.asm_group.specs.Names.{Bytes}
use Rattle.group_contents.specs.group_engine.Mounts.{IsMounted, MountedGroup}
use Rattle.group_contents.specs.group_engine.Members.{LetsGo}
use Rattle.session.specs.declared.entry.Entry.{Entry}
use Rattle.session.specs.Entries.{entry_view, group_view}
use Rattle.session.specs.Naming.{AreNamesApart, ChangesGroup, IsMountedName, IsGroupOf, IsOutCause, group_among, with_group_named}
use Rattle.session.specs.Sessions.{AreReady}
use Rattle.session.specs.Works.{DoesOn, DoesWork, Doing, IsSpelt, WorksOn}
use Rattle.session.proofs.Carrying.{carried, carries_none, if_err, mounted_or, on_ok, seen}
use Rattle.session.proofs.EditedEntries.{entries_put, none_grouped}
use Rattle.session.proofs.Entries.{sought}
use Rattle.session.proofs.Grouped.{Pairs, entry_found, entry_on, group_found, groups_set, paired, same_set}

none_some : {A : Type 0} (x : A) → None ≡ Some x → ⊥
none_some x is = absurd cc

some_same : {A : Type 0} (x y : A) → Some x ≡ Some y → x ≡ y
some_same x y is = cc

-- a name that the map hasn't has no mounted group
pub never_found : (name : Bytes) (es : Pairs) (place : List Bytes) (given time : ℕ) → lookup (sought name) es ≡ None → IsMountedName (seen es place given time) name → ⊥
never_found name es place given time none found = none_some found.0 (sym (none_grouped name es none) ∙ found.1.named)

-- ok doesn't come
never_ok : {T P : Type 0} (Q : T → Type 0) (result : Result T Refusal) → OnOk result P → (P → ⊥) → IfOk result Q
never_ok Q (Ok given) on off = absurd (off on)
never_ok Q (Err refusal) on off = tt

-- where it gave that, the work did what it says of it
gave : {T : Type 0} (Does : Result T Refusal → Type 0) (m : MountedGroup) (answer result : Result T Refusal) → IsSpelt m answer result → Does answer → IfOk result (λ given. Does (Ok given))
gave {T} Does m (Ok given) result spelt did = subst (λ (r : Result T Refusal). IfOk r (λ (x : T). Does (Ok x))) (sym spelt) did
gave {T} Does m (Err raw) result spelt did = subst (λ (r : Result T Refusal). IfOk r (λ (x : T). Does (Ok x))) (sym spelt.1) tt

-- A piece of work on the group of one entry, which does nothing where the group takes no calls.
module _ {B : Type 0} (state : B → BayState) (b b' : B) (name : Bytes) (v w : Entry) (es fs : Pairs) (place : List Bytes) (given time : ℕ) (is : fs ≡ set_value (sought name) es w) (found : lookup (sought name) es ≡ Some v)
    (id : w.id ≡ v.id) (keeps : IsMounted v.group → LetsGo v.group w.group (state b) (state b')) (idle : (IsMounted v.group → ⊥) → (w.group ≡ v.group) × (b' ≡ b)) (ready : AreReady (map group_view es) (state b))
    (apart : AreNamesApart (map entry_view es)) {T : Type 0} (Does : Doing T) (answer result : Result T Refusal) (spelt : IsSpelt w.group answer result) (did : IsMounted v.group → Does v.group answer w.group (state b) (state b'))
    (ok : OnOk result (IsMounted v.group)) (err : IfErr result (λ refusal. IsMounted v.group ⊎ IsOutCause (map entry_view es) name refusal)) where
  of_name : IsMounted v.group → IsGroupOf (seen es place given time) name v.group
  of_name on = record { named = group_found name es v found; mounted = on; on = entry_on name es v found on; paired = paired es }

  there : IsMounted v.group → IsMountedName (seen es place given time) name
  there on = (v.group, of_name on)

  mounted : IsMountedName (seen es place given time) name → IsMounted v.group
  mounted it =
      let here : group_among (map entry_view es) (map group_view es) name ≡ Some v.group = group_found name es v found in
      subst (λ (m : MountedGroup). IsMounted m) (some_same it.0 v.group (sym it.1.named ∙ here)) it.1.mounted

  causes : IfErr result (λ refusal. IsMountedName (seen es place given time) name ⊎ IsOutCause (map entry_view es) name refusal)
  causes = if_err (λ refusal. IsMounted v.group ⊎ IsOutCause (map entry_view es) name refusal) (λ refusal. IsMountedName (seen es place given time) name ⊎ IsOutCause (map entry_view es) name refusal) result
      (λ refusal why. ⊎_elim (λ on. inl (there on)) (λ out. inr out) why) err

  same_entry : w.group ≡ v.group → w ≡ v
  same_entry group = λ i. record { id = id i; group = group i }

  groups_are : map group_view fs ≡ with_group_named (map entry_view es) (map group_view es) name w.group
  groups_are = ap (map group_view) is ∙ groups_set name w es

  changes : IsMounted v.group → ChangesGroup name (seen es place given time) (seen fs place given time) (state b) (state b')
  changes on = record { before = v.group; after = w.group; is = of_name on; keeps = keeps on; groups = groups_are }

  worked : IsMounted v.group → DoesWork name Does result (seen es place given time) (seen fs place given time) (state b) (state b')
  worked on =
      let at = entry_found name es v found in
      record {
        before = v.group;
        after = w.group;
        is = of_name on;
        entry = at.entry;
        named = at.named;
        state = at.state;
        apart = apart;
        answer = answer;
        spelt = spelt;
        does = did on;
        groups = groups_are;
        entries = ap (map entry_view) is ∙ entries_put name v w es id apart found;
      }

  pub works : WorksOn name Does result (seen es place given time) (seen fs place given time) (state b) (state b')
  unfolding changes
  works = ⊎_elim
      (λ on. record {
        found = on_ok result there ok;
        out = causes;
        groups = inr (changes on);
        idle = λ none. absurd (none (there on));
        works = λ it. worked on;
        done = gave (λ (x : Result T Refusal). (c : ChangesGroup name (seen es place given time) (seen fs place given time) (state b) (state b')) × Does c.before x c.after (state b) (state b')) w.group answer result spelt (changes on, did on);
        carries = carried name v w es fs place given time is found on (keeps on) id ready;
      })
      (λ off.
      let nothing = idle off in
      let stays : fs ≡ es = is ∙ same_set name v w es (same_entry nothing.0) found in
      rw (stays, nothing.1) (record {
        found = on_ok result there ok;
        out = causes;
        groups = inl refl;
        idle = λ none. (refl, refl);
        works = λ it. absurd (off (mounted it));
        done = never_ok (DoesOn name Does (seen es place given time) (seen es place given time) (state b) (state b)) result ok off;
        carries = carries_none (seen es place given time) ready;
      }))
      (mounted_or v.group.access)
