-- The session over a call on one of its groups.
use Rattle.std.proofs.Common.{◌≡◌, ◌⊎◌, ⊎_elim, inl, inr, ℕ, List, map, Some, Result, Ok, Err, refl, ◌∙◌, ap, arith}
use Rattle.std.specs.Prelude.{IfErr, OnOk}
use Rattle.std.specs.Map.{lookup, set_value}
use Rattle.bay.specs.State.{BayState}
use Rattle.asm_group.specs.Names.{Bytes}
use Rattle.group_contents.specs.group_engine.Mounts.{IsMounted, MountedGroup}
use Rattle.group_contents.specs.group_engine.Members.{LetsGo}
use Rattle.group_contents.specs.group_engine.declared.access.Access.{Access}
use Rattle.group_contents.specs.group_engine.declared.access.Access.TheVariants as access
use Rattle.session.specs.declared.entry.Entry.{Entry}
use Rattle.session.specs.Entries.{entry_view, group_view}
use Rattle.refusal_lines.specs.declared.refusal.Refusal.{Refusal}
use Rattle.session.specs.Naming.{CarriesOn, with_group_named}
use Rattle.session.specs.Sessions.{AreReady, SessionView}
use Rattle.session.proofs.Entries.{sought}
use Rattle.session.proofs.Grouped.{Pairs, group_found, groups_set, keys_set}
use Rattle.session.proofs.Ready.{worked_ready}

-- the session with these groups by their names
abbrev pub seen : Pairs → List Bytes → ℕ → ℕ → SessionView
seen es place given time = record { entries = map entry_view es; groups = map group_view es; place = place; given = given; time = time }

-- nothing was done
pub carries_none : (session : SessionView) {s : BayState} → AreReady session.groups s → CarriesOn session session s s
carries_none session ready = record { keys = refl; place = refl; given = refl; time = refl; ready = ready; calls = omega arith; past = λ m image before left. left }

-- whether a group takes calls
pub mounted_or : (a : Access) → (a ≡ access.Mounted) ⊎ (a ≡ access.Mounted → ⊥)
mounted_or access.Mounted = inl refl
mounted_or (access.Dismounted disk) = inr (λ is. absurd cc)
mounted_or access.Closed = inr (λ is. absurd cc)

-- A call on the group of one entry, which was mounted: `es` and `fs` are the map before and after.
module _ (name : Bytes) (v w : Entry) (es fs : Pairs) (place : List Bytes) (given time : ℕ) {s t : BayState} (is : fs ≡ set_value (sought name) es w) (found : lookup (sought name) es ≡ Some v)
    (mounted : IsMounted v.group) (keeps : LetsGo v.group w.group s t) where
  groups_are : map group_view fs ≡ with_group_named (map entry_view es) (map group_view es) name w.group
  groups_are = ap (map group_view) is ∙ groups_set name w es

  pub carried : w.id ≡ v.id → AreReady (map group_view es) s → CarriesOn (seen es place given time) (seen fs place given time) s t
  carried id ready = record {
    keys = rw is (keys_set name v w es id found);
    place = refl;
    given = refl;
    time = refl;
    ready = rw groups_are (worked_ready (map entry_view es) (map group_view es) name v.group w.group (group_found name es v found) mounted keeps ready);
    calls = keeps.runs.later;
    past = λ m image before left. (keeps.runs.ended m image before).0 left;
  }

pub on_ok : {T P Q : Type 0} (result : Result T Refusal) → (P → Q) → OnOk result P → OnOk result Q
on_ok (Ok given) f p = f p
on_ok (Err refusal) f p = tt

pub if_err : {T : Type 0} (P Q : Refusal → Type 0) (result : Result T Refusal) → ((refusal : Refusal) → P refusal → Q refusal) → IfErr result P → IfErr result Q
if_err P Q (Ok given) f p = tt
if_err P Q (Err refusal) f p = f refusal p
