-- What an edit of a mounted group was, as the world's.
use Rattle.std.proofs.Common.{◌≡◌, ◌≢◌, ⊎_elim, inl, inr, ℕ, ◌≤◌, Bool, true, false, List, [], ◌∷◌, length, Option, Some, None, Result, Ok, Err, refl, sym, ◌∙◌, ap, subst, arith}
use Rattle.std.specs.Prelude.{IfErr, OnOk, unwrap_or}
use Rattle.std.specs.FinMap as maps
use Rattle.std.specs.Str.{bytes_eq}
use Rattle.std.specs.Cmp.Lexicographic.{bytes_decides}
use Rattle.std.proofs.lemmas.Bool.{cases_eq, false≢true, true≢false}
use Rattle.std.proofs.lemmas.List.{length-map}
use Rattle.bay.specs.Image.{Same}
use Rattle.bay.specs.Moments.{Runs}
use Rattle.bay.specs.State.{BayState, IsSound}
use Rattle.refusal_lines.specs.Refusals.{meaning_of}
use Rattle.refusal_lines.specs.declared.refusal.DiskRef.TheVariants as disk
use Rattle.refusal_lines.specs.declared.refusal.Refusal.{Refusal}
use Rattle.refusal_lines.specs.declared.refusal.Refusal.TheVariants as cause
use Rattle.asm_group.specs.Group.{Group}
use Rattle.asm_group.specs.Names.{Bytes, is_same_name}
use Rattle.asm_group.specs.Refusal as r
use Rattle.asm_formats.specs.Among.{IsAmong}
use Rattle.asm_world.specs.Below.{GroupBelow}
use Rattle.asm_world.specs.Reply.{Reply, Done, Refused}
use Rattle.asm_world.specs.World.{SessionEntry, SessionState, World, Mounted, DismountedBy, entry_among, groups_of, is_mounted, with_group}
use Rattle.session.specs.catalog_tables.Changing.{IsAfter}
use Rattle.session.specs.catalog_tables.Tables.{Tables}
use Rattle.session.proofs.catalog_tables.AfterLaws.{one_after}
use Rattle.session.specs.edit_laws.Edits.{edited_by}
use Rattle.session.proofs.edit_laws.OfTables.{edit_is_of_tables}
use Rattle.session.specs.mounted_groups.Found.{counts_of}
use Rattle.session.specs.group_engine.Commits.{CommitsChange, StatusCause}
use Rattle.session.specs.group_engine.Frames.{StaysAttached}
use Rattle.session.proofs.group_engine.Elsewhere.{stays_attached}
use Rattle.session.specs.group_engine.Making.{dismounted_by}
use Rattle.session.specs.group_engine.Mounts.{IsMounted, MountedGroup}
use Rattle.session.specs.group_engine.Own.{KeepsGroup}
use Rattle.session.specs.group_engine.declared.access.Access.{Access}
use Rattle.session.specs.group_engine.declared.access.Access.TheVariants as access
use Rattle.session.specs.group_files.Edits.{Edits, IsCommitted, IsUnplanned}
use Rattle.session.specs.group_files.GroupEdits.{IsEditPlan, IsEditRefusal, is_group_edit}
use Rattle.session.specs.group_files.declared.edit.GroupEdit.{GroupEdit}
use Rattle.session.specs.group_of.Edits.{IsWorldsRefusal, no_memory, same_refusal}
use Rattle.session.specs.group_of.Groups.{HasCells, group_of}
use Rattle.session.specs.session_claims.Claims.{IsPaired, KeepsWorlds, StandsFor}
use Rattle.session.specs.session_claims.Laws.{CommitsEdit, EditsTo, ReplacesGroups}
use Rattle.session.proofs.session_claims.Edited.{edits_keep, tearing_keeps}
use Rattle.session.proofs.session_claims.Looks.{looks_keep}
use Rattle.world_steps.specs.Steps.{EditAt, MayAnswer, asks_edit, edited_in, tells_disk, torn_world}
use Rattle.world_steps.specs.Told.{AreIdsApart}
use Rattle.world_steps.proofs.Steps.{answers_edits, tells_no_disk}
use Rattle.world_steps.proofs.Told.{named_among, one_entry, torn_apart}
use Rattle.session.specs.Counts.{ReplyCause}
use Rattle.session.specs.declared.reply.Reply as code
use Rattle.session.specs.declared.reply.Reply.TheVariants as replies
use Rattle.name_commands.specs.Asking.{AsksForEdit}
use Rattle.session.specs.Editing.{EditsGroup}
use Rattle.session.specs.Effects.{IsServed, Past, below_with}
use Rattle.session.specs.Entries.{by_disk, disk_name, state_view}
use Rattle.session.specs.Meaning.{meaning}
use Rattle.session.specs.Naming as session
use Rattle.session.specs.Naming.{AreNamesApart, CarriesOn, group_among}
use Rattle.session.specs.OnDisks.{DiskWork, IsWorkDone, ReplyWork, work_of}
use Rattle.session.specs.Proved.{HasOwnGroups}
use Rattle.session.specs.Sessions.{AreToldBy, IsToldBy, Knows, Roster, SessionView, groups_below, roster_of}
use Rattle.session.specs.Views.{reply_view}
use Rattle.session.specs.Works.{IsSpelt, with_state}
use Rattle.name_commands.proofs.AskedEdits.{edit_alone}
use Rattle.session.proofs.Creation.{groups_after, same_some}
use Rattle.name_commands.proofs.EditPlans.{IsRefusedBy, as_is, planned, planned_after, refused_by}
use Rattle.session.proofs.EditedEntries.{one_named, paired_of, paired_torn, paired_with, same_group, same_state, with_length}
use Rattle.session.proofs.Knowing.{cons_same, none_told, paired_among}
use Rattle.session.proofs.Outcomes.{none_read, served, unread}
use Rattle.session.proofs.ReplacedLists.{at_id, elsewhere, listed}
use Rattle.name_commands.proofs.RefusedEdits.{edits, no_counts, short, unmet}

-- ---- the group of the name

pub record IsEdited (es entries' : List SessionEntry) (groups groups' : List MountedGroup) (name : Bytes) (before after : MountedGroup) (entry : SessionEntry) : Type 0 where
  pub named : entry_among es name ≡ Some entry
  pub found : group_among es groups name ≡ Some before
  pub apart : AreNamesApart es
  pub lengths : length groups ≡ length es
  pub groups_are : groups' ≡ session.with_group_named es groups name after
  pub entries_are : entries' ≡ with_state es name (state_view after)

-- the reply to an edit that was answered so
abbrev pub reply_of : Result (Unit {0}) Refusal → Reply
reply_of (Ok given) = Done []
reply_of (Err refusal) = Refused [] (meaning_of (λ _. []) refusal)

get_only : (o : Option (List Group)) (g : Group) → unwrap_or o [] ≡ g ∷ [] → o ≡ Some (g ∷ [])
get_only None g is = absurd cc
get_only (Some list) g is = ap (λ (l : List Group). Some l) is

module _ (paths : List Bytes) (text name : Bytes) (edit : GroupEdit) (allowed : is_group_edit edit ≡ true) (w : World) (below : ℕ → GroupBelow) (asks : AsksForEdit w.place (meaning text) name edit)
    (was now : Roster) (same_given : now.given ≡ was.given) (entries' : List SessionEntry) (s t : BayState) (sound : IsSound s) (later : IsSound t)
    (calls : s.calls ≤ t.calls) (past : Past s t) (all_told : AreToldBy w was.groups) (before after : MountedGroup) (entry : SessionEntry) (edited : IsEdited w.session entries' was.groups now.groups name before after entry)
    (on : entry.state ≡ Mounted) (mounted : IsMounted before) (keeps : KeepsGroup before after s t) where
  asks_edit_so : asks_edit (meaning text) ≡ true
  asks_edit_so = asks.asks.is_edit

  -- a world that the session knows after such a reply
  abbrev pub Ends : Reply → Type 0
  Ends reply = (w' : World) × (w'.session ≡ entries') × (w'.place ≡ w.place) × AreToldBy w' now.groups × IsServed paths unread text reply was now s t below w w'

  -- one without groups
  unknown : (reply : Reply) → ((w' : World) → IsServed paths unread text reply was now s t below w w') → Ends reply
  unknown reply is_served =
      let w' = record w { groups = maps.empty; session = entries' } in
      (w', refl, refl, none_told w' refl now.groups, is_served w')

  pair : IsPaired w.session was.groups entry before
  pair = paired_of w.session was.groups name entry before edited.named edited.found

  among : IsAmong w.session entry
  among = paired_among w.session was.groups entry before pair

  entry_named : is_same_name entry.name name ≡ true
  entry_named = (named_among w.session name entry edited.named).1

  is_on : is_mounted entry ≡ true
  is_on = rw on refl

  before_state : state_view before ≡ Mounted
  before_state = ap (λ (a : Access). by_disk before (dismounted_by a)) mounted

  -- where the group takes calls still, the entries are as they were
  on_session : IsMounted after → w.session ≡ entries'
  on_session still_on =
      let after_state : state_view after ≡ Mounted = ap (λ (a : Access). by_disk after (dismounted_by a)) still_on in
      sym (edited.entries_are ∙ same_state w.session name entry (state_view after) edited.apart edited.named (on ∙ sym after_state))

  attached : StaysAttached s t
  attached = stays_attached keeps.attached

  effect : (reply : Reply) (w' : World) → MayAnswer (below_with below unread) w (meaning text) reply w' → ReplyCause paths text reply (counts_of s) (counts_of t) → ReplyWork paths (work_of (meaning text) w below) reply (counts_of s) (counts_of t)
      → ((known : ℕ → Bool) → StandsFor (length paths) known was.given s w was.groups → KeepsWorlds (length paths) known (meaning text) was.given s t w w' now.groups) → IsServed paths unread text reply was now s t below w w'
  effect reply w' may counted worked keeps_all = served paths unread text reply was now s t w w' (record {
    step = may.step;
    no_memory = λ is other. absurd (true≢false (sym (edits paths text asks_edit_so) ∙ other));
    cause = may.cause;
    lines = may.lines;
    ids_read = none_read (counts_of s) (counts_of t);
    made = tt;
    counted = counted;
    worked = worked;
    calls = calls;
    past = past;
    keeps = λ known stands apart. subst (λ (given : ℕ). KeepsWorlds (length paths) known (meaning text) given s t w w' now.groups) (sym same_given) (keeps_all known stands);
  })

  -- ---- the world has one group under the id, of the entry's name

  module _ (g : Group) (list : groups_of w entry.id ≡ g ∷ []) (called : g.name ≡ entry.name) where
    abbrev told : IsToldBy before g
    told = all_told entry before g pair is_on list called

    abbrev at : EditAt w (meaning text)
    at = record {
      is_edit = asks_edit_so;
      name = name;
      change = asks.change;
      asks = asks.asks.asks;
      id = entry.id;
      group = g;
      has = record { entry = entry; named = edited.named; is = refl; mounted = on; only = get_only (maps.get w.groups entry.id) g list };
    }

    -- the world's edit is this one
    as_asked : edited_in at ≡ edited_by g edit
    as_asked = asks.same g (ap (λ (n : Bytes). is_same_name n name) called ∙ entry_named)

    -- ---- no change was planned, and nothing was done

    module _ (same : after ≡ before) (runs : Runs (λ (slot : ℕ). ⊥) Same s t) where
      groups_stay : now.groups ≡ was.groups
      groups_stay = edited.groups_are ∙ ap (λ (m : MountedGroup). session.with_group_named w.session was.groups name m) same ∙ same_group w.session was.groups name before edited.found

      idle : (c : r.Refusal) → MayAnswer (below_with below unread) w (meaning text) (Refused [] c) w → Ends (Refused [] c)
      idle c may = (
        w,
        on_session (subst (λ (m : MountedGroup). IsMounted m) (sym same) mounted),
        refl,
        subst (λ (l : List MountedGroup). AreToldBy w l) (sym groups_stay) all_told,
        effect (Refused [] c) w may (no_counts paths text asks_edit_so c (counts_of s) (counts_of t)) tt (λ known stands.
            subst (λ (l : List MountedGroup). KeepsWorlds (length paths) known (meaning text) was.given s t w w l) (sym groups_stay)
            (looks_keep (λ (slot : ℕ). ⊥) s t sound (length paths) known was.given was.given w w was.groups was.groups (meaning text) (omega arith) runs attached (same_some (length paths) known was.given s w was.groups stands) stands)),
      )

      by_worlds : (raw : Refusal) → IsWorldsRefusal (edited_by g edit) raw → Ends (Refused [] (meaning_of (disk_name after) raw))
      unfolding meaning_of
      by_worlds raw (no_memory is) =
          let none : meaning_of (disk_name after) raw ≡ r.NoMemory = as_is (disk_name after) raw (ap tells_disk is) ∙ is in
          subst (λ (c : r.Refusal). Ends (Refused [] c)) (sym none) (unknown (Refused [] r.NoMemory) (short paths text asks_edit_so was now s t calls past below w))
      by_worlds raw (same_refusal is) =
          let world_is : edited_in at ≡ Err (meaning_of (λ n. []) raw) = as_asked ∙ is in
          let same_said = as_is (disk_name after) raw (tells_no_disk w.place (meaning text) name asks.change g (meaning_of (λ n. []) raw) asks_edit_so asks.asks.asks world_is) in
          subst (λ (c : r.Refusal). Ends (Refused [] c)) (sym same_said) (idle (meaning_of (λ n. []) raw) (answers_edits.refused (below_with below unread) w (meaning text) at (meaning_of (λ n. []) raw) world_is))

      by_tables : (raw : Refusal) → IsRefusedBy (edited_by g edit) edit raw → Ends (Refused [] (meaning_of (disk_name after) raw))
      unfolding meaning_of
      by_tables raw (inl why) = by_worlds raw why
      by_tables raw (inr lacks) =
          subst (λ (x : Refusal). Ends (Refused [] (meaning_of (disk_name after) x))) (sym lacks.is)
          (idle (r.DirectoryFull lacks.need lacks.free) (answers_edits.full (below_with below unread) w (meaning text) at lacks.done lacks.need lacks.free (asks.makes lacks.wants) (as_asked ∙ lacks.answer_is)))

      unplanned : (raw : Refusal) → IsEditRefusal before.catalog edit raw → Ends (Refused [] (meaning_of (disk_name after) raw))
      unplanned raw (inl never) = absurd (true≢false (sym allowed ∙ never.0))
      unplanned raw (inr why) =
          by_tables raw (subst (λ (x : Group). IsRefusedBy (edited_by x edit) edit raw) (sym told.is) (refused_by before.name before.catalog told.cells edit raw why))

    -- ---- a change was planned

    module _ (answer : Result (Unit {0}) Refusal) (c : IsCommitted (IsEditPlan before.catalog edit) before answer after s t) where
      abbrev u : Tables
      u = planned before.catalog edit c.put c.gone c.change

      u_after : IsAfter before.catalog.tables c.put c.gone u
      u_after = planned_after before.catalog edit c.put c.gone c.change

      done_so : (edited_by (group_of before.name before.catalog.shape before.catalog.tables told.cells) edit ≡ Ok (group_of before.name before.catalog.shape u told.cells)) × HasCells u told.cells
      done_so = edit_is_of_tables before.name before.catalog told.cells edit c.put c.gone u told.has c.change u_after

      abbrev h : Group
      h = group_of before.name before.catalog.shape u told.cells

      h_is : edited_by g edit ≡ Ok h
      unfolding group_of
      h_is = ap (λ (x : Group). edited_by x edit) told.is ∙ done_so.0

      world_is : edited_in at ≡ Ok h
      world_is = as_asked ∙ h_is

      work : CommitsEdit edit before answer after s t
      work = record { mounted = mounted; keeps = keeps; committed = c }

      to : EditsTo w entry.id edit g h
      to = record { before = list; after = h_is }

      name_of : h.name ≡ entry.name
      unfolding group_of
      name_of = sym (ap (λ (x : Group). x.name) told.is) ∙ called

      -- an entry of another name has another id, or is told otherwise
      other_entry : AreIdsApart w.session → (f : SessionEntry) (m : MountedGroup) → IsPaired w.session was.groups f m → is_mounted f ≡ true → is_same_name f.name name ≡ false → f.id ≢ entry.id
      other_entry ids f m at_f on_f differs same =
          let one : f ≡ entry = one_entry w.session f entry ids (paired_among w.session was.groups f m at_f) among on_f is_on same in
          false≢true (sym differs ∙ ap (λ (x : SessionEntry). is_same_name x.name name) one ∙ entry_named)

      other_name_of : (f : SessionEntry) → is_same_name f.name name ≡ false → f.name ≡ entry.name → ⊥
      other_name_of f differs same = false≢true (sym differs ∙ ap (λ (n : Bytes). is_same_name n name) same ∙ entry_named)

      -- ---- it was done

      module _ (done_is : answer ≡ Ok tt) where
        ok_work : CommitsEdit edit before (Ok tt) after s t
        ok_work = subst (λ (x : Result (Unit {0}) Refusal). CommitsEdit edit before x after s t) done_is work

        held : CommitsChange before ok_work.committed.put ok_work.committed.gone (Ok tt) after s t
        held = ok_work.committed.commits.held mounted

        tables_are : after.catalog.tables ≡ u
        tables_are =
            let applied : IsAfter before.catalog.tables c.put c.gone after.catalog.tables = on_done answer done_is c.commits.applied in
            one_after before.catalog.tables after.catalog.tables u c.put c.gone applied u_after
          where
            on_done : {P : Type 0} (x : Result (Unit {0}) Refusal) → x ≡ Ok tt → OnOk x P → P
            on_done (Ok given) is p = p
            on_done (Err refusal) is p = absurd cc

        abbrev w_done : World
        w_done = with_group w entry.id h

        replaces : ReplacesGroups w entry.id (h ∷ []) w_done
        replaces = groups_after w entry.id h

        told_done : IsToldBy after h
        unfolding group_of
        told_done = record {
          cells = told.cells;
          has = subst (λ (x : Tables). HasCells x told.cells) (sym tables_are) done_so.1;
          is = λ i. group_of (sym keeps.same.name i) (sym keeps.same.shape i) (sym tables_are i) told.cells;
        }

        all_done : AreToldBy w_done now.groups
        all_done f m k at_f on_f only named = ⊎_elim
            (λ mine.
            let was_there = subst (λ (l : List MountedGroup). IsPaired w.session l f m) edited.groups_are at_f in
            let f_among : IsAmong w.session f = paired_among w.session (session.with_group_named w.session was.groups name after) f m was_there in
            let one : f ≡ entry = one_named w.session name entry f edited.apart edited.named f_among mine.0 in
            let alike : h ≡ k = cons_same h k (sym (at_id w w_done entry.id (h ∷ []) replaces) ∙ ap (λ (x : SessionEntry). groups_of w_done x.id) (sym one) ∙ only) in
            subst (λ (x : Group). IsToldBy m x) alike (subst (λ (x : MountedGroup). IsToldBy x h) (sym mine.1) told_done))
            (λ other. ⊎_elim
            (λ (here : f.id ≡ entry.id).
            let alike : h ≡ k = cons_same h k (sym (at_id w w_done entry.id (h ∷ []) replaces) ∙ ap (λ (i : ℕ). groups_of w_done i) (sym here) ∙ only) in
            absurd (other_name_of f other.0 (sym named ∙ ap (λ (x : Group). x.name) (sym alike) ∙ name_of)))
            (λ differ. all_told f m k other.1 on_f (sym (elsewhere w w_done entry.id (h ∷ []) replaces f.id differ) ∙ only) named)
            (cases_eq f.id entry.id))
            (paired_with w.session was.groups name after f m edited.apart (subst (λ (l : List MountedGroup). IsPaired w.session l f m) edited.groups_are at_f))

        lengths_done : length now.groups ≡ length w.session
        lengths_done = ap (λ (l : List MountedGroup). length l) edited.groups_are ∙ with_length w.session was.groups name after ∙ edited.lengths

        done_end : Ends (Done [])
        done_end = (
          w_done,
          on_session held.mounted,
          refl,
          all_done,
          effect (Done []) w_done (answers_edits.done (below_with below unread) w (meaning text) at h world_is) tt (subst (λ (x : DiskWork). IsWorkDone paths x (counts_of s) (counts_of t)) (sym ((edit_alone (meaning text) asks_edit_so).works w below)) tt) (λ known stands.
              edits_keep s t sound later (length paths) known was.given w w_done was.groups now.groups entry edit before after g h (meaning text) stands pair is_on ok_work to replaces (record {
                entries = lengths_done;
                ids = stands.ids;
                pairs = λ f m at_f on_f. ⊎_elim
                    (λ mine.
                    let was_there = subst (λ (l : List MountedGroup). IsPaired w.session l f m) edited.groups_are at_f in
                    let f_among : IsAmong w.session f = paired_among w.session (session.with_group_named w.session was.groups name after) f m was_there in
                    inl (ap (λ (x : SessionEntry). x.id) (one_named w.session name entry f edited.apart edited.named f_among mine.0), mine.1))
                    (λ other. inr (other_entry stands.ids f m other.1 on_f other.0, other.1))
                    (paired_with w.session was.groups name after f m edited.apart (subst (λ (l : List MountedGroup). IsPaired w.session l f m) edited.groups_are at_f));
              })),
        )

      -- ---- its commit dismounted the group

      module _ (d : ℕ) (off : after.access ≡ access.Dismounted d) where
        abbrev by : Bytes
        by = disk_name after d

        torn_state : state_view after ≡ DismountedBy by
        torn_state = ap (λ (a : Access). by_disk after (dismounted_by a)) off

        abbrev w_torn : World
        w_torn = torn_world w entry.id name g h by

        torn_lists : ReplacesGroups w entry.id (g ∷ h ∷ []) w_torn
        torn_lists = listed w w_torn entry.id (g ∷ h ∷ []) refl

        torn_session : w_torn.session ≡ entries'
        torn_session = sym (edited.entries_are ∙ ap (λ (x : SessionState). with_state w.session name x) torn_state)

        two_or_one : (k : Group) → g ∷ h ∷ [] ≡ k ∷ [] → ⊥
        two_or_one k same = absurd cc

        all_torn : AreToldBy w_torn now.groups
        all_torn f m k at_f on_f only named =
            let kept = paired_torn by w.session was.groups name after f m edited.apart on_f (subst (λ (l : List MountedGroup). IsPaired w_torn.session l f m) edited.groups_are at_f) in
            ⊎_elim
            (λ (here : f.id ≡ entry.id). absurd (two_or_one k (sym (at_id w w_torn entry.id (g ∷ h ∷ []) torn_lists) ∙ ap (λ (i : ℕ). groups_of w_torn i) (sym here) ∙ only)))
            (λ differ. all_told f m k kept.1 on_f (sym (elsewhere w w_torn entry.id (g ∷ h ∷ []) torn_lists f.id differ) ∙ only) named)
            (cases_eq f.id entry.id)

        torn_end : Ends (Refused [] (r.Dismounted by))
        torn_end = (
          w_torn,
          torn_session,
          refl,
          all_torn,
          effect (Refused [] (r.Dismounted by)) w_torn (answers_edits.dismounted (below_with below unread) w (meaning text) at h by world_is) (no_counts paths text asks_edit_so (r.Dismounted by) (counts_of s) (counts_of t)) tt (λ known stands.
              tearing_keeps s t sound later (length paths) known was.given w w_torn was.groups now.groups entry edit before after answer g h (meaning text) stands pair is_on work to torn_lists (record {
                entries = ap (λ (l : List MountedGroup). length l) edited.groups_are ∙ with_length w.session was.groups name after ∙ edited.lengths ∙ sym (length-map w.session _);
                ids = torn_apart name by w.session stands.ids;
                pairs = λ f m at_f on_f.
                    let kept = paired_torn by w.session was.groups name after f m edited.apart on_f (subst (λ (l : List MountedGroup). IsPaired w_torn.session l f m) edited.groups_are at_f) in
                    inr (other_entry stands.ids f m kept.1 on_f kept.0, kept.1);
              })),
        )

      -- for want of memory, or since the group was dismounted
      refused_commit : (raw : Refusal) → StatusCause before after s t raw → Ends (Refused [] (meaning_of (disk_name after) raw))
      unfolding meaning_of
      refused_commit (cause.Dismounted (disk.Number d)) why = ⊎_elim
          (λ it. let never : access.Mounted ≡ access.Dismounted d = sym mounted ∙ it in absurd cc)
          (λ now_off. torn_end d now_off.0)
          why
      refused_commit (cause.Dismounted (disk.Spelt x)) why = absurd why
      refused_commit cause.NoMemory why = unknown (Refused [] r.NoMemory) (short paths text asks_edit_so was now s t calls past below w)
      refused_commit other why = absurd why

    -- ---- all of it

    committed : (answer result : Result (Unit {0}) Refusal) → IsSpelt after answer result → IsCommitted (IsEditPlan before.catalog edit) before answer after s t → Ends (reply_of result)
    committed (Ok given) result spelt c = subst (λ (x : Result (Unit {0}) Refusal). Ends (reply_of x)) (sym spelt) (done_end (Ok given) c refl)
    committed (Err raw) result spelt c = subst (λ (x : Result (Unit {0}) Refusal). Ends (reply_of x)) (sym spelt.1) (⊎_elim
        (λ same. subst (λ (x : r.Refusal). Ends (Refused [] x)) (sym same) (refused_commit (Err raw) c raw c.commits.cause))
        (λ none. subst (λ (x : r.Refusal). Ends (Refused [] x)) (sym none) (unknown (Refused [] r.NoMemory) (short paths text asks_edit_so was now s t calls past below w)))
        spelt.2)

    not_planned : (answer result : Result (Unit {0}) Refusal) → IsSpelt after answer result → IsUnplanned (IsEditRefusal before.catalog edit) before answer after s t → Ends (reply_of result)
    not_planned answer result spelt p =
        let said_so = subst (λ (x : Result (Unit {0}) Refusal). IsSpelt after x result) p.answer_is spelt in
        subst (λ (x : Result (Unit {0}) Refusal). Ends (reply_of x)) (sym said_so.1) (⊎_elim
        (λ same. subst (λ (x : r.Refusal). Ends (Refused [] x)) (sym same) (unplanned p.group p.runs p.refusal p.cause))
        (λ none. subst (λ (x : r.Refusal). Ends (Refused [] x)) (sym none) (unknown (Refused [] r.NoMemory) (short paths text asks_edit_so was now s t calls past below w)))
        said_so.2)

  -- ---- by the world's list of the id

  -- each mounted group alone under its id means that the list has one group
  has_one : HasOwnGroups w → (g : Group) × (groups_of w entry.id ≡ g ∷ [])
  has_one met = let one = met.alone.one entry among is_on in (one.0, ap (λ (o : Option (List Group)). unwrap_or o []) one.1)

  pub ends : (answer result : Result (Unit {0}) Refusal) → IsSpelt after answer result → Edits (IsEditPlan before.catalog edit) (IsEditRefusal before.catalog edit) before answer after s t → Ends (reply_of result)
  ends answer result spelt edits_it = decide (groups_of w entry.id) refl
    where
      by_name : (g : Group) → groups_of w entry.id ≡ g ∷ [] → (t : Bool) → bytes_eq g.name entry.name ≡ t → Ends (reply_of result)
      by_name g is true called =
          let named = (bytes_decides g.name entry.name).0 called in
          ⊎_elim (λ none. not_planned g is named answer result spelt none) (λ some. committed g is named answer result spelt some) edits_it
      by_name g is false called =
          unknown (reply_of result) (λ w'. unmet paths text asks_edit_so was now s t calls past below w (reply_of result) w'
          (λ met. false≢true (sym called ∙ (bytes_decides g.name entry.name).1 (met.named entry g among is_on is))))

      decide : (list : List Group) → groups_of w entry.id ≡ list → Ends (reply_of result)
      decide [] is = unknown (reply_of result) (λ w'. unmet paths text asks_edit_so was now s t calls past below w (reply_of result) w'
          (λ met. let one = has_one met in let bad : [] ≡ one.0 ∷ [] = sym is ∙ one.1 in absurd cc))
      decide (g ∷ []) is = by_name g is (bytes_eq g.name entry.name) refl
      decide (g ∷ h ∷ more) is = unknown (reply_of result) (λ w'. unmet paths text asks_edit_so was now s t calls past below w (reply_of result) w'
          (λ met. let one = has_one met in let bad : g ∷ h ∷ more ≡ one.0 ∷ [] = sym is ∙ one.1 in absurd cc))

pub reply_is : (done : Result (Unit {0}) Refusal) (reply : code.Reply) → OnOk done (reply ≡ replies.Done []) → IfErr done (λ refusal. reply ≡ replies.Refused refusal) → reply_view reply ≡ reply_of done
reply_is (Ok given) reply ok err = ap reply_view ok
reply_is (Err refusal) reply ok err = ap reply_view err

-- ---- on the session

pub edited_session : (paths : List Bytes) (text name : Bytes) (edit : GroupEdit) → is_group_edit edit ≡ true → (old new : SessionView) → AsksForEdit old.place (meaning text) name edit → (s t : BayState) → IsSound s → IsSound t
    → AreNamesApart old.entries → length old.groups ≡ length old.entries → CarriesOn old new s t
    → (result : Result (Unit {0}) Refusal) → EditsGroup name edit result old new s t → (w : World) (below : ℕ → GroupBelow) → Knows old w below
    → (w' : World) × (below' : ℕ → GroupBelow) × Knows new w' below' × IsServed paths unread text (reply_of result) (roster_of old) (roster_of new) s t below w w'
edited_session paths text name edit allowed old new asks s t sound later apart paired carries result done w below knows =
    let edited : IsEdited w.session new.entries old.groups new.groups name done.before done.after done.entry =
    subst (λ (es : List SessionEntry). IsEdited es new.entries old.groups new.groups name done.before done.after done.entry) (sym knows.entries_are)
    (record { named = done.named; found = done.is.named; apart = apart; lengths = paired; groups_are = done.groups; entries_are = done.entries }) in
    let on : done.entry.state ≡ Mounted = done.state ∙ ap (λ (a : Access). by_disk done.before (dismounted_by a)) done.is.mounted in
    let asks_there = subst (λ (p : List Bytes). AsksForEdit p (meaning text) name edit) (sym knows.place_is) asks in
    let x = ends paths text name edit allowed w below asks_there (roster_of old) (roster_of new) carries.given new.entries s t sound later carries.calls carries.past
    (knows.told (paired ∙ ap (λ (l : List SessionEntry). length l) (sym knows.entries_are))) done.before done.after done.entry edited on done.is.mounted done.does.0 done.answer result done.spelt done.does.1 in
    (x.0, groups_below new.entries new.groups, record { entries_are = x.1; place_is = x.2 ∙ knows.place_is ∙ sym carries.place; below_is = refl; told = λ lengths. x.3 }, x.4)
