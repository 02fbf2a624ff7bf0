-- Edits that are refused before anything is done.
use Rattle.std.proofs.Common.{inl, ◌≡◌, ⊎_elim, ℕ, ◌≤◌, true, false, List, [], Option, Some, None, Result, refl, sym, ◌∙◌, ap, subst, arith}
use Rattle.std.specs.Prelude.{unwrap_or}
use Rattle.std.proofs.lemmas.Bool.{false≢true, true≢false}
use Rattle.bay.specs.State.{BayState}
use Rattle.bay.specs.declared.disk.Bay as Bay
use Rattle.bay.specs.declared.host.Host as Host
use Rattle.refusal_lines.specs.Refusals.{meaning_of}
use Rattle.refusal_lines.specs.declared.refusal.Refusal.{Refusal}
use Rattle.asm_group.specs.Group.{Group}
use Rattle.asm_group.specs.Names.{Bytes, is_same_name}
use Rattle.asm_group.specs.Refusal as r
use Rattle.asm_world.specs.Below.{GroupBelow}
use Rattle.asm_world.specs.Causes.{is_mounted_as}
use Rattle.asm_world.specs.Paths.{target_from}
use Rattle.asm_world.specs.Reply.{Reply, Refused}
use Rattle.asm_world.specs.World.{SessionEntry, SessionState, World, Mounted, DismountedBy, entry_among, entry_in, is_mounted}
use Rattle.session.specs.mounted_groups.Found.{Counts, counts_of}
use Rattle.world_steps.specs.Steps.{EditAt, MayAnswer, asks_edit, change_of}
use Rattle.world_steps.proofs.Steps.{answers_edits, answers_none}
use Rattle.world_steps.proofs.Told.{named_among}
use Rattle.session.specs.Counts.{ReplyCause}
use Rattle.session.specs.declared.answer.Answer.{Answer}
use Rattle.session.specs.declared.desk.Desk.{Desk}
use Rattle.session.specs.declared.reply.Reply.TheVariants as code
use Rattle.session.specs.Desks.{IsAnswered, paths_on}
use Rattle.name_commands.specs.Asking.{AsksChange, AsksInVain}
use Rattle.session.specs.Effects.{IsServed, Past, below_with}
use Rattle.session.specs.Families.{changes_group}
use Rattle.session.specs.Leading.{IsNoTarget}
use Rattle.session.specs.Meaning.{meaning}
use Rattle.session.specs.Naming.{IsOutCause, in_state, of_entry}
use Rattle.session.specs.Proved.{HasOwnGroups}
use Rattle.session.specs.Sessions.{AreReady, Knows, Roster, SessionView, roster_of}
use Rattle.session.specs.Views.{found_view, nothing_found}
use Rattle.name_commands.proofs.AskedEdits.{edit_alone}
use Rattle.session.proofs.Languages.{edit_changes, short_is_no_change}
use Rattle.session.proofs.Outcomes as outcomes
use Rattle.session.proofs.Outcomes.{unread}

module _ (paths : List Bytes) (text : Bytes) (asks : asks_edit (meaning text) ≡ true) where
  -- no cause is counted of it
  pub no_counts : (c : r.Refusal) (s t : Counts) → ReplyCause paths text (Refused [] c) s t
  no_counts r.NoMemory s t = tt
  no_counts other s t = (edit_alone (meaning text) asks).counts paths other s t

  pub edits : changes_group (meaning text) ≡ true
  edits = edit_changes (meaning text) (edit_alone (meaning text) asks).edits

  -- nothing more is said of it
  module _ (was now : Roster) (s t : BayState) (calls : s.calls ≤ t.calls) (past : Past s t) (below : ℕ → GroupBelow) (w : World) where
    -- memory was short
    pub short : (w' : World) → IsServed paths unread text (Refused [] r.NoMemory) was now s t below w w'
    short w' = record { calls = calls; past = past; effect = λ proved met. absurd (true≢false (sym edits ∙ short_is_no_change paths was s w (meaning text) proved)) }

    -- the mounted groups aren't alone under their ids
    pub unmet : (reply : Reply) (w' : World) → (HasOwnGroups w → ⊥) → IsServed paths unread text reply was now s t below w w'
    unmet reply w' never = record { calls = calls; past = past; effect = λ proved met. absurd (never (met (inl edits))) }

  -- before any call
  module _ (was : Roster) (s : BayState) (below : ℕ → GroupBelow) (w : World) where
    abbrev pub IsRefusedSo : r.Refusal → Type 0
    IsRefusedSo c = IsServed paths unread text (Refused [] c) was was s s below w w

    still : (c : r.Refusal) → MayAnswer (below_with below unread) w (meaning text) (Refused [] c) w → IsRefusedSo c
    still c may = outcomes.still paths text c was s w may.step may.cause may.lines (no_counts c (counts_of s) (counts_of s))

    short_still : (c : r.Refusal) → c ≡ r.NoMemory → IsRefusedSo c
    short_still c is = subst (λ (x : r.Refusal). IsRefusedSo x) (sym is) (outcomes.no_memory paths text was s w)

    -- the path of a verb leads into no group
    pub nowhere : (place : List Bytes) (path : Bytes) → (target_from place path ≡ None → change_of w.place (meaning text) ≡ None) → (refusal : Refusal) → IsNoTarget place path refusal → IsRefusedSo (meaning_of (λ _. []) refusal)
    unfolding meaning_of
    nowhere place path leads refusal why = ⊎_elim
        (λ none. short_still (meaning_of (λ _. []) refusal) (ap (meaning_of (λ _. [])) none))
        (λ none. subst (λ (x : Refusal). IsRefusedSo (meaning_of (λ _. []) x)) (sym none.0) (still r.NoGroup (answers_none.nowhere (below_with below unread) w (meaning text) asks (leads none.1))))
        why

    -- the group isn't in the session, or is dismounted
    module _ (name : Bytes) (change : Group → Result Group r.Refusal) (asked : change_of w.place (meaning text) ≡ Some (name, change)) where
      by_entry : (o : Option SessionEntry) → entry_in w name ≡ o → (c : r.Refusal) → of_entry o c → IsRefusedSo c
      by_entry None named c why =
          subst (λ (x : r.Refusal). IsRefusedSo x) (sym why) (still r.NoGroup (answers_none.absent (below_with below unread) w (meaning text) name change asks asked named))
      by_entry (Some entry) named c why = by_state entry.state refl why
        where
          by_state : (x : SessionState) → entry.state ≡ x → in_state x c → IsRefusedSo c
          by_state Mounted is out = absurd out
          by_state (DismountedBy disk) is out =
              subst (λ (x : r.Refusal). IsRefusedSo x) (sym out) (still (r.Dismounted disk) (answers_none.out (below_with below unread) w (meaning text) name change entry disk asks asked named is))

      pub out : (refusal : Refusal) → IsOutCause w.session name refusal → IsRefusedSo (meaning_of (λ _. []) refusal)
      out refusal why = ⊎_elim (λ gone. by_entry (entry_in w name) refl (meaning_of (λ _. []) refusal) gone) (λ none. short_still (meaning_of (λ _. []) refusal) none) why

on_by : (entry : SessionEntry) (x : SessionState) → entry.state ≡ x → is_mounted entry ≡ true → entry.state ≡ Mounted
on_by entry Mounted is on = is
on_by entry (DismountedBy disk) is on = let off : is_mounted entry ≡ false = rw is refl in absurd (false≢true (sym off ∙ on))

-- ---- in vain

-- The entry's group is mounted. Where it is alone under its id, the world refuses the edit so.
vain_in : (paths : List Bytes) (text : Bytes) (was : Roster) (s : BayState) (below : ℕ → GroupBelow) (w : World) (name : Bytes) (refusal : Refusal) → AsksInVain w.place (meaning text) name refusal → (o : Option SessionEntry) → entry_in w name ≡ o
    → is_mounted_as o ≡ true → IsServed paths unread text (Refused [] (meaning_of (λ _. []) refusal)) was was s s below w w
vain_in paths text was s below w name refusal vain None named on = absurd (false≢true on)
vain_in paths text was s below w name refusal vain (Some entry) named on = record {
  calls = omega arith;
  past = λ m image before left. left;
  effect = λ proved met. (alone (met (inl (edits paths text vain.asks.is_edit)))).effect proved met;
}
  where
    alone : HasOwnGroups w → IsServed paths unread text (Refused [] (meaning_of (λ _. []) refusal)) was was s s below w w
    alone own =
        let among = named_among w.session name entry named in
        let one = own.alone.one entry among.0 on in
        let called : one.0.name ≡ entry.name = own.named entry one.0 among.0 on (ap (λ (o : Option (List Group)). unwrap_or o []) one.1) in
        let at : EditAt w (meaning text) = record {
          is_edit = vain.asks.is_edit;
          name = name;
          change = vain.change;
          asks = vain.asks.asks;
          id = entry.id;
          group = one.0;
          has = record { entry = entry; named = named; is = refl; mounted = on_by entry entry.state refl on; only = one.1 };
        } in
        still paths text vain.asks.is_edit was s below w (meaning_of (λ _. []) refusal)
        (answers_edits.refused (below_with below unread) w (meaning text) at (meaning_of (λ _. []) refusal) (vain.refused one.0 (ap (λ (n : Bytes). is_same_name n name) called ∙ among.1)))

-- ---- on the desk

-- a command that was refused, and nothing was done
pub answered-refused : {B H : Type 0} {bay : Bay.Ghosts B} {host : Host.Ghosts H} (text : Bytes) (answer : Answer) (desk new : Desk B H bay host) (refusal : Refusal) → paths_on new ≡ paths_on desk → new.host ≡ desk.host → new.session ≡ desk.session
    → new.bay ≡ desk.bay → answer.reply ≡ code.Refused refusal → found_view answer.found ≡ nothing_found → AreReady desk.session.groups (bay.state desk.bay)
    → ((w : World) (below : ℕ → GroupBelow) → Knows desk.session w below → IsServed (paths_on desk) unread text (Refused [] (meaning_of (λ _. []) refusal)) (roster_of desk.session) (roster_of desk.session) (bay.state desk.bay) (bay.state desk.bay) below w w)
    → IsAnswered text answer desk new
answered-refused text answer desk new refusal paths host session disks reply found ready served = record {
  paths = paths;
  host_stays = λ is. host;
  ready = rw (session, disks) ready;
  served = λ w below knows. (w, below, rw session knows, rw (reply, found, session, disks) (served w below knows));
}

module _ (paths : List Bytes) (text : Bytes) (session : SessionView) (s : BayState) (w : World) (below : ℕ → GroupBelow) (knows : Knows session w below) where
  abbrev pub IsRefusedOn : Refusal → Type 0
  IsRefusedOn refusal = IsServed paths unread text (Refused [] (meaning_of (λ _. []) refusal)) (roster_of session) (roster_of session) s s below w w

  pub no_target : (path : Bytes) → asks_edit (meaning text) ≡ true → (target_from session.place path ≡ None → change_of session.place (meaning text) ≡ None) → (refusal : Refusal) → IsNoTarget session.place path refusal → IsRefusedOn refusal
  no_target path asks leads refusal why =
      nowhere paths text asks (roster_of session) s below w session.place path (λ none. ap (λ (p : List Bytes). change_of p (meaning text)) knows.place_is ∙ leads none) refusal why

  pub out_refused : (name : Bytes) (change : Group → Result Group r.Refusal) → AsksChange session.place (meaning text) name change → (refusal : Refusal) → IsOutCause session.entries name refusal → IsRefusedOn refusal
  out_refused name change asks refusal why =
      out paths text asks.is_edit (roster_of session) s below w name change (ap (λ (p : List Bytes). change_of p (meaning text)) knows.place_is ∙ asks.asks) refusal
      (subst (λ (es : List SessionEntry). IsOutCause es name refusal) (sym knows.entries_are) why)

  pub vain_refused : (name : Bytes) (refusal : Refusal) → AsksInVain session.place (meaning text) name refusal → is_mounted_as (entry_among session.entries name) ≡ true → IsRefusedOn refusal
  vain_refused name refusal vain on =
      vain_in paths text (roster_of session) s below w name refusal (subst (λ (p : List Bytes). AsksInVain p (meaning text) name refusal) (sym knows.place_is) vain)
      (entry_in w name) refl (subst (λ (es : List SessionEntry). is_mounted_as (entry_among es name) ≡ true) (sym knows.entries_are) on)
