-- What a write of bytes of a mounted group was, as the world's.
use Rattle.std.proofs.Common.{◌≡◌, ⊎_elim, inl, inr, ℕ, ◌≤◌, Bool, true, false, List, [], ◌∷◌, length, Option, Some, None, Result, Ok, Err, refl, sym, ◌∙◌, ap, subst, arith, IsTrue}
use Rattle.std.specs.Prelude.{unwrap_or}
use Rattle.std.specs.FinMap as maps
use Rattle.std.specs.Str.{bytes_eq}
use Rattle.std.specs.Cmp.Lexicographic.{bytes_decides}
use Rattle.std.proofs.lemmas.Bool.{false≢true, true≢false}
use Rattle.std.proofs.lemmas.Option.{none-some}
use Rattle.bay.specs.State.{BayState, IsSound}
use Rattle.refusal_lines.specs.Refusals.{meaning_of}
use Rattle.refusal_lines.specs.declared.refusal.DiskRef.TheVariants as disk
use Rattle.refusal_lines.specs.declared.refusal.Refusal.{Refusal}
use Rattle.refusal_lines.specs.declared.refusal.Refusal.TheVariants as cause
use Rattle.asm_group.specs.Group.{File, Group}
use Rattle.asm_group.specs.Names.{Bytes, Path}
use Rattle.asm_group.specs.Refusal as r
use Rattle.asm_group.specs.Shape.{is_shape}
use Rattle.asm_images.specs.Kept.{Kept}
use Rattle.asm_world.specs.Below.{GroupBelow}
use Rattle.asm_world.specs.Causes.{IsCaused, decided, may}
use Rattle.asm_world.specs.Numbers as code
use Rattle.asm_world.specs.Paths.{target_from}
use Rattle.asm_world.specs.Reply.{Reply, Done, Refused}
use Rattle.asm_world.specs.Step.{HasMountedGroup}
use Rattle.asm_world.specs.World.{SessionEntry, World, Mounted, DismountedBy, groups_of, is_mounted, with_group}
use Rattle.catalog_tables.specs.Rules.{KeepsRules}
use Rattle.session.specs.directory_store.Answers.{NoCalls}
use Rattle.session.specs.group_contents.Files.{AtFile, IsOpened, IsSpan, OpenCause, SpanCause, WriteCause}
use Rattle.session.specs.group_contents.Writing.{EndsAs, HasSpan, StaysFor, TakesSpan, WritesFile, WritesNothing, WritesOpened, WritesSpan}
use Rattle.session.specs.group_contents.declared.opening.OpenFile.{OpenFile}
use Rattle.session.specs.mounted_groups.Found.{counts_of}
use Rattle.session.proofs.group_engine.Elsewhere.{stays_attached}
use Rattle.session.specs.group_engine.Making.{dismounted_by}
use Rattle.session.specs.group_engine.Mounts.{IsMounted, MountedGroup}
use Rattle.session.specs.group_engine.Own.{KeepsGroup}
use Rattle.session.specs.group_engine.declared.access.Access.{Access}
use Rattle.session.specs.group_engine.declared.access.Access.TheVariants as access
use Rattle.report_laws.specs.group_of.Groups.{group_of}
use Rattle.session.specs.session_claims.Claims.{KeepsWorlds, StandsFor}
use Rattle.session.specs.session_claims.Laws.{IsWrittenIn, WritesGroup}
use Rattle.session.proofs.session_claims.Looks.{looks_keep}
use Rattle.session.proofs.session_claims.Written.{write_tears, writes_keep}
use Rattle.session.specs.Counts.{ReplyCause}
use Rattle.session.specs.Effects.{IsServed, Past, below_with}
use Rattle.session.specs.Entries.{by_disk, disk_name, state_view}
use Rattle.session.specs.Files as counted
use Rattle.session.specs.Meaning.{meaning}
use Rattle.session.specs.Naming as session
use Rattle.session.specs.OnDisks.{DiskWork, IsWorkDone, ReplyWork, work_of}
use Rattle.session.specs.Proved.{HasOwnGroups}
use Rattle.session.specs.Sessions.{AreToldBy, IsToldBy, Roster}
use Rattle.session.specs.Works.{IsSpelt}
use Rattle.session.proofs.Creation.{same_some}
use Rattle.session.proofs.EditedEntries.{same_group}
use Rattle.session.proofs.Knowing.{none_told}
use Rattle.session.proofs.Languages.{short_is_no_change}
use Rattle.session.proofs.Outcomes.{none_read, served, unread}
use Rattle.world_steps.specs.Steps.{MayAnswer}
use Rattle.file_commands.proofs.ReplacedGroups as put
use Rattle.file_commands.proofs.ReplacedGroups.{IsWorkedOn}
use Rattle.file_commands.proofs.SpanCauses as spans
use Rattle.file_commands.proofs.WriteRefusals as refusals
use Rattle.file_commands.proofs.Writes as writes
use Rattle.file_commands.proofs.Writes.{IsWrite, write_causes}
use Rattle.file_commands.proofs.WrittenTables as tables

-- the reply to a write that was answered so
abbrev pub reply_of : Result (Unit {0}) Refusal → Reply
reply_of (Ok given) = Done []
reply_of (Err refusal) = Refused [] (meaning_of (λ _. []) refusal)

get_only : (o : Option (List Group)) (g : Group) → unwrap_or o [] ≡ g ∷ [] → o ≡ Some (g ∷ [])
get_only None g is = absurd cc
get_only (Some list) g is = ap (λ (l : List Group). Some l) is

-- The write, its bytes, and the place to which its path leads.
pub record WriteTo (text : Bytes) (w : World) (name : Bytes) (inside : Path) (at : ℕ) (bytes : Bytes) : Type 0 where
  pub path : Bytes
  pub write : IsWrite (meaning text) path at bytes
  pub leads : target_from w.place path ≡ Some (name, inside)

-- A call of the session on the mounted group of the name.
pub record CallOn (w : World) (entries' : List SessionEntry) (was now : Roster) (s t : BayState) (name : Bytes) (before after : MountedGroup) (entry : SessionEntry) : Type 0 where
  pub given : now.given ≡ was.given
  pub calls : s.calls ≤ t.calls
  pub past : Past s t
  pub told : AreToldBy w was.groups
  pub worked : IsWorkedOn w.session entries' was.groups now.groups name before after entry
  pub mounted : IsMounted before
  pub keeps : KeepsGroup before after s t
  pub shape : IsTrue (is_shape before.catalog.shape)
  pub rules : KeepsRules before.catalog.shape before.catalog.tables

module _ (paths : List Bytes) (text name : Bytes) (inside : Path) (at : ℕ) (bytes : Bytes) (w : World) (below : ℕ → GroupBelow) (to : WriteTo text w name inside at bytes)
    (entries' : List SessionEntry) (was now : Roster) (s t : BayState) (sound : IsSound s) (later : IsSound t) (before after : MountedGroup) (entry : SessionEntry)
    (call : CallOn w entries' was now s t name before after entry) where
  abbrev write : IsWrite (meaning text) to.path at bytes
  write = to.write

  abbrev worked : IsWorkedOn w.session entries' was.groups now.groups name before after entry
  worked = call.worked

  -- a world that the session knows after such a reply
  abbrev pub Ends : Reply → Type 0
  Ends reply = (w' : World) × (w'.session ≡ entries') × (w'.place ≡ w.place) × AreToldBy w' now.groups × IsServed paths unread text reply was now s t below w w'

  -- one without groups
  unknown : (reply : Reply) → ((w' : World) → IsServed paths unread text reply was now s t below w w') → Ends reply
  unknown reply is_served =
      let w' = record w { groups = maps.empty; session = entries' } in
      (w', refl, refl, none_told w' refl now.groups, is_served w')

  is_on : is_mounted entry ≡ true
  is_on = put.is_on w entries' was.groups now.groups name before after entry worked call.told

  counts : (c : r.Refusal) → counted.IsWriteRefused c (counts_of s) (counts_of t) → ReplyCause paths text (Refused [] c) (counts_of s) (counts_of t)
  counts c why = refusals.counts paths text to.path at bytes write c (counts_of s) (counts_of t) why

  effect : (reply : Reply) (w' : World) → MayAnswer (below_with below unread) w (meaning text) reply w' → ReplyCause paths text reply (counts_of s) (counts_of t) → ReplyWork paths (work_of (meaning text) w below) reply (counts_of s) (counts_of t)
      → ((known : ℕ → Bool) → StandsFor (length paths) known was.given s w was.groups → KeepsWorlds (length paths) known (meaning text) was.given s t w w' now.groups) → IsServed paths unread text reply was now s t below w w'
  effect reply w' may reasons work keeps_all = served paths unread text reply was now s t w w' (record {
    step = may.step;
    no_memory = λ is other. absurd (true≢false (sym write.changes ∙ other));
    cause = may.cause;
    lines = may.lines;
    ids_read = none_read (counts_of s) (counts_of t);
    made = tt;
    counted = reasons;
    worked = work;
    calls = call.calls;
    past = call.past;
    keeps = λ known stands apart. subst (λ (given : ℕ). KeepsWorlds (length paths) known (meaning text) given s t w w' now.groups) (sym call.given) (keeps_all known stands);
  })

  -- memory was short
  short : (w' : World) → IsServed paths unread text (Refused [] r.NoMemory) was now s t below w w'
  short w' = record { calls = call.calls; past = call.past; effect = λ proved met. absurd (true≢false (sym write.changes ∙ short_is_no_change paths was s w (meaning text) proved)) }

  -- the mounted groups aren't alone under their ids
  unmet : (reply : Reply) (w' : World) → (HasOwnGroups w → ⊥) → IsServed paths unread text reply was now s t below w w'
  unmet reply w' never = record { calls = call.calls; past = call.past; effect = λ proved met. absurd (never (met (inl write.changes))) }

  -- ---- the world has one group under the id, of the entry's name

  module _ (g : Group) (list : groups_of w entry.id ≡ g ∷ []) (called : g.name ≡ entry.name) where
    abbrev told : IsToldBy before g
    told = call.told entry before g (put.pair w entries' was.groups now.groups name before after entry worked call.told) is_on list called

    has : HasMountedGroup w name entry.id g
    has = record { entry = entry; named = worked.named; is = refl; mounted = worked.on; only = get_only (maps.get w.groups entry.id) g list }

    -- what the tables are refused by the group is
    in_group : (c : r.Refusal) → IsCaused (write_causes at (length bytes) inside (group_of before.name before.catalog.shape before.catalog.tables told.cells)) c → IsCaused (write_causes at (length bytes) inside g) c
    in_group c is = subst (λ (x : Group). IsCaused (write_causes at (length bytes) inside x) c) (sym told.is) is

    -- ---- nothing was done

    module _ (same : after ≡ before) (still : NoCalls s t) where
      groups_stay : now.groups ≡ was.groups
      groups_stay = worked.groups_are ∙ ap (λ (m : MountedGroup). session.with_group_named w.session was.groups name m) same ∙ same_group w.session was.groups name before worked.found

      idle : (c : r.Refusal) → counted.IsWriteRefused c (counts_of s) (counts_of t) → writes.Left (below_with below unread) w (meaning text) c w → IsCaused (write_causes at (length bytes) inside g) c → Ends (Refused [] c)
      idle c why left is = (
        w,
        put.on_session w entries' was.groups now.groups name before after entry worked call.told (subst (λ (m : MountedGroup). IsMounted m) (sym same) call.mounted),
        refl,
        subst (λ (l : List MountedGroup). AreToldBy w l) (sym groups_stay) call.told,
        effect (Refused [] c) w (writes.refused (meaning text) to.path at bytes write (below_with below unread) w name inside to.leads entry.id g has c left is) (counts c why) tt (λ known stands.
            subst (λ (l : List MountedGroup). KeepsWorlds (length paths) known (meaning text) was.given s t w w l) (sym groups_stay)
            (looks_keep (λ (slot : ℕ). ⊥) s t sound (length paths) known was.given was.given w w was.groups was.groups (meaning text) (omega arith) still.runs (stays_attached call.keeps.attached)
            (same_some (length paths) known was.given s w was.groups stands) stands)),
      )

      no_file : (raw : Refusal) → OpenCause before inside raw → Ends (Refused [] (meaning_of (disk_name after) raw))
      unfolding meaning_of
      no_file cause.NoName why = idle r.NoName tt refl (in_group r.NoName (spans.no_name code.write_fault before call.shape call.rules.tables before.name told.cells inside at (length bytes) call.rules why))
      no_file _ why = absurd why

      no_span : (file : OpenFile) → IsOpened before.catalog.tables inside file → (raw : Refusal) → SpanCause before at (length bytes) file raw → Ends (Refused [] (meaning_of (disk_name after) raw))
      unfolding meaning_of
      no_span file opened cause.NotSectors why =
          idle r.NotSectors tt refl (in_group r.NotSectors (spans.not_sectors code.write_fault before call.shape call.rules.tables before.name told.cells inside at (length bytes) file opened why))
      no_span file opened cause.OutOfFile why =
          idle r.OutOfFile tt refl (in_group r.OutOfFile (spans.out_of_file code.write_fault before call.shape call.rules.tables before.name told.cells inside at (length bytes) file opened told.has why.0 why.1))
      no_span file opened (cause.Lost x) why =
          idle (r.Lost x.file x.index) tt refl (in_group (r.Lost x.file x.index) (spans.failed code.write_fault before call.shape call.rules.tables before.name told.cells inside at (length bytes) file opened told.has why.0 (r.Lost x.file x.index) (inl refl)))
      no_span file opened _ why = absurd why

      not_there : (raw : Refusal) → AtFile before inside (SpanCause before at (length bytes)) raw → Ends (Refused [] (meaning_of (disk_name after) raw))
      not_there raw why = ⊎_elim
          (λ (none : OpenCause before inside raw). no_file raw none)
          (λ (there : (file : OpenFile) × IsOpened before.catalog.tables inside file × SpanCause before at (length bytes) file raw). no_span there.0 there.1 raw there.2)
          why

    -- ---- the file was written

    module _ (file : OpenFile) (opened : IsOpened before.catalog.tables inside file) (span : IsSpan before at (length bytes) file) (answer : Result (Unit {0}) Refusal)
        (writes_it : WritesSpan before file at bytes answer after s t) where
      abbrev the_file : File
      the_file = tables.the_file before call.shape call.rules.tables g told inside at bytes file opened span

      abbrev h : Group
      h = tables.h before call.shape call.rules.tables g told inside at bytes file opened span

      abbrev free : Group
      free = tables.free before call.shape call.rules.tables g told inside at bytes file opened span

      -- in the end the group is this one, where it takes calls
      work : (end : Group) → ((n : ℕ) (kept : Kept) → IsMounted after → (takes : TakesSpan n before s g kept) → EndsAs n after t end kept) → WritesGroup (length paths) before after g free end s t
      work end ends = record {
        mounted = call.mounted;
        keeps = call.keeps;
        holds = λ kept mounts still turns.
            let takes : TakesSpan (length paths) before s g kept = record { mounts = mounts; spare = λ f is. absurd (none-some f (sym still ∙ is)); turns = turns } in
            record {
              moments = writes_it.moments (length paths) g kept the_file takes (tables.has_span before call.shape call.rules.tables g told inside at bytes file opened span);
              after = λ on. ends (length paths) kept on takes;
              turns = λ on. omega (arith, writes_it.turns on, turns);
            };
      }

      behind_tests : (c : r.Refusal) → IsCaused (may (code.lost ∷ code.write_fault ∷ code.dismounted ∷ [])) c → IsCaused (write_causes at (length bytes) inside g) c
      behind_tests c is = in_group c (spans.failed code.write_fault before call.shape call.rules.tables before.name told.cells inside at (length bytes) file opened told.has span c is)

      written_in : (w' : World) → IsWrittenIn w w' was.groups (meaning text) entry before g free
      written_in w' = record {
        pair = put.pair w entries' was.groups now.groups name before after entry worked call.told;
        is = is_on;
        alone = list;
        between = writes.between (meaning text) to.path at bytes write (below_with below unread) w name inside to.leads entry.id g has free
            (tables.freed_is before call.shape call.rules.tables g told inside at bytes file opened span) w';
      }

      -- it takes calls
      on_end : IsMounted after → (end : Group) → end.name ≡ entry.name → IsToldBy after end → WritesGroup (length paths) before after g free end s t
          → (reply : Reply) → MayAnswer (below_with below unread) w (meaning text) reply (with_group w entry.id end) → ReplyCause paths text reply (counts_of s) (counts_of t)
          → ReplyWork paths (work_of (meaning text) w below) reply (counts_of s) (counts_of t) → Ends reply
      on_end on end end_name end_told did reply may reasons work_is = (
        with_group w entry.id end,
        put.on_session w entries' was.groups now.groups name before after entry worked call.told on,
        refl,
        put.all_done w entries' was.groups now.groups name before after entry worked call.told end end_name end_told,
        effect reply (with_group w entry.id end) may reasons work_is (λ known stands.
            writes_keep s t sound later (length paths) known was.given w (with_group w entry.id end) was.groups now.groups entry before after g free end (meaning text) stands
            (written_in (with_group w entry.id end)) did on
            (put.replaces w entries' was.groups now.groups name before after entry worked call.told end end_name)
            (put.goes_done w entries' was.groups now.groups name before after entry worked call.told end end_name stands.ids)),
      )

      -- it was dismounted
      torn_end : (d : ℕ) → after.access ≡ access.Dismounted d → Ends (Refused [] (r.Dismounted (disk_name after d)))
      torn_end d off =
          let by : Bytes = disk_name after d in
          let never : IsMounted after → ⊥ = λ on. let bad : access.Mounted ≡ access.Dismounted d = sym on ∙ off in absurd cc in
          let torn : state_view after ≡ DismountedBy by = ap (λ (a : Access). by_disk after (dismounted_by a)) off in
          let may = writes.dismounted (meaning text) to.path at bytes write (below_with below unread) w name inside to.leads entry.id g has free
          (tables.freed_is before call.shape call.rules.tables g told inside at bytes file opened span) by (behind_tests (r.Dismounted by) (inr (inr (inl refl)))) in
          let w_torn = put.w_torn w entries' was.groups now.groups name before after entry worked call.told free called by torn in (
            w_torn,
            put.torn_session w entries' was.groups now.groups name before after entry worked call.told free called by torn,
            refl,
            put.all_torn w entries' was.groups now.groups name before after entry worked call.told free called by torn,
            effect (Refused [] (r.Dismounted by)) w_torn may (counts (r.Dismounted by) tt) tt (λ known stands.
                write_tears s t sound later (length paths) known was.given w w_torn was.groups now.groups entry before after g free free (meaning text) stands
                (written_in w_torn) (work free (λ n kept on takes. absurd (never on)))
                (put.torn_lists w entries' was.groups now.groups name before after entry worked call.told free called by torn)
                (put.goes_torn w entries' was.groups now.groups name before after entry worked call.told free called by torn stands.ids)),
          )

    module _ (file : OpenFile) (opened : IsOpened before.catalog.tables inside file) (span : IsSpan before at (length bytes) file) where
      has_file : HasSpan g file at (length bytes) (tables.the_file before call.shape call.rules.tables g told inside at bytes file opened span)
      has_file = tables.has_span before call.shape call.rules.tables g told inside at bytes file opened span

      done_end : IsMounted after → WritesSpan before file at bytes (Ok tt) after s t → Ends (Done [])
      done_end on did =
          let end : Group = tables.h before call.shape call.rules.tables g told inside at bytes file opened span in
          on_end file opened span (Ok tt) did on end called
          (tables.told_written before call.shape call.rules.tables g told inside at bytes file opened span after call.keeps.same.name call.keeps.same.shape (did.names on))
          (work file opened span (Ok tt) did end (λ n kept mounted takes. did.done n g kept _ takes has_file))
          (Done [])
          (writes.done (meaning text) to.path at bytes write (below_with below unread) w name inside to.leads entry.id g has end
          (subst (λ (x : Group). decided (write_causes at (length bytes) inside x) ≡ None) (sym told.is)
          (spans.uncaused code.write_fault before call.shape call.rules.tables before.name told.cells inside at (length bytes) file opened told.has span))
          (tables.written_is before call.shape call.rules.tables g told inside at bytes file opened span))
          tt (subst (λ (x : DiskWork). IsWorkDone paths x (counts_of s) (counts_of t)) (sym (write.works w below)) tt)

      -- no copy of an extent took the bytes
      fault_end : (raw : Refusal) → IsMounted after → WritesSpan before file at bytes (Err raw) after s t → (by : Bytes) → counted.SomeSlotFailed (counts_of s) (counts_of t) → Ends (Refused [] (r.WriteFault by))
      fault_end raw on did by failed =
          let end : Group = tables.free before call.shape call.rules.tables g told inside at bytes file opened span in
          on_end file opened span (Err raw) did on end called
          (tables.told_freed before call.shape call.rules.tables g told inside at bytes file opened span after call.keeps.same.name call.keeps.same.shape (did.names on))
          (work file opened span (Err raw) did end (λ n kept mounted takes. did.refused on n g kept _ takes has_file))
          (Refused [] (r.WriteFault by))
          (writes.fault (meaning text) to.path at bytes write (below_with below unread) w name inside to.leads entry.id g has end
          (tables.freed_is before call.shape call.rules.tables g told inside at bytes file opened span) by
          (behind_tests file opened span (Err raw) did (r.WriteFault by) (inr (inl refl))))
          (counts (r.WriteFault by) failed) tt

      refused_end : (raw : Refusal) → StaysFor (Err raw) after → WritesSpan before file at bytes (Err raw) after s t → WriteCause before after s t raw → Ends (Refused [] (meaning_of (disk_name after) raw))
      unfolding meaning_of
      refused_end (cause.WriteFault (disk.Number d)) on did why = fault_end (cause.WriteFault (disk.Number d)) on did (disk_name after d) (why.0, why.2)
      refused_end (cause.WriteFault (disk.Spelt x)) on did why = absurd why
      refused_end (cause.Dismounted (disk.Number d)) on did why = ⊎_elim
          (λ it. let never : access.Mounted ≡ access.Dismounted d = sym call.mounted ∙ it in absurd cc)
          (λ now_off. torn_end file opened span (Err (cause.Dismounted (disk.Number d))) did d now_off.0)
          why
      refused_end (cause.Dismounted (disk.Spelt x)) on did why = absurd why
      refused_end cause.NoMemory on did why = unknown (Refused [] r.NoMemory) short
      refused_end other on did why = absurd why

    -- ---- all of it

    spelt_so : (raw : Refusal) (result : Result (Unit {0}) Refusal) → IsSpelt after (Err raw) result → Ends (Refused [] (meaning_of (disk_name after) raw)) → Ends (reply_of result)
    spelt_so raw result spelt ended = subst (λ (x : Result (Unit {0}) Refusal). Ends (reply_of x)) (sym spelt.1) (⊎_elim
        (λ same. subst (λ (x : r.Refusal). Ends (Refused [] x)) (sym same) ended)
        (λ none. subst (λ (x : r.Refusal). Ends (Refused [] x)) (sym none) (unknown (Refused [] r.NoMemory) short))
        spelt.2)

    short_so : (raw : Refusal) → raw ≡ cause.NoMemory → Ends (Refused [] (meaning_of (disk_name after) raw))
    unfolding meaning_of
    short_so raw is = subst (λ (x : Refusal). Ends (Refused [] (meaning_of (disk_name after) x))) (sym is) (unknown (Refused [] r.NoMemory) short)

    not_written : (answer result : Result (Unit {0}) Refusal) → IsSpelt after answer result → WritesNothing before inside at (length bytes) answer after s t → Ends (reply_of result)
    not_written answer result spelt n =
        let said_so = subst (λ (x : Result (Unit {0}) Refusal). IsSpelt after x result) n.answer_is spelt in
        spelt_so n.refusal result said_so (⊎_elim (λ why. not_there n.same n.calls n.refusal why) (λ none. short_so n.refusal none) n.cause_is)

    was_written : (answer result : Result (Unit {0}) Refusal) → IsSpelt after answer result → WritesOpened before inside at bytes answer after s t → Ends (reply_of result)
    was_written (Ok given) result spelt o = subst (λ (x : Result (Unit {0}) Refusal). Ends (reply_of x)) (sym spelt) (done_end o.file o.opened o.span o.writes.mounted o.writes)
    was_written (Err raw) result spelt o = spelt_so raw result spelt (refused_end o.file o.opened o.span raw o.writes.mounted o.writes o.cause)

  -- ---- by the world's list of the id

  -- each mounted group alone under its id means that the list has one group
  has_one : HasOwnGroups w → (g : Group) × (groups_of w entry.id ≡ g ∷ [])
  has_one met =
      let one = met.alone.one entry (put.among w entries' was.groups now.groups name before after entry worked call.told) is_on in
      (one.0, ap (λ (o : Option (List Group)). unwrap_or o []) one.1)

  pub ends : (answer result : Result (Unit {0}) Refusal) → IsSpelt after answer result → WritesFile before inside at bytes answer after s t → Ends (reply_of result)
  ends answer result spelt written = decide (groups_of w entry.id) refl
    where
      by_name : (g : Group) → groups_of w entry.id ≡ g ∷ [] → (b : Bool) → bytes_eq g.name entry.name ≡ b → Ends (reply_of result)
      by_name g is true called =
          let named = (bytes_decides g.name entry.name).0 called in
          ⊎_elim (λ none. not_written g is named answer result spelt none) (λ some. was_written g is named answer result spelt some) written
      by_name g is false called =
          unknown (reply_of result) (λ w'. unmet (reply_of result) w'
          (λ met. false≢true (sym called ∙ (bytes_decides g.name entry.name).1 (met.named entry g (put.among w entries' was.groups now.groups name before after entry worked call.told) is_on is))))

      decide : (list : List Group) → groups_of w entry.id ≡ list → Ends (reply_of result)
      decide [] is = unknown (reply_of result) (λ w'. unmet (reply_of result) w'
          (λ met. let one = has_one met in let bad : [] ≡ one.0 ∷ [] = sym is ∙ one.1 in absurd cc))
      decide (g ∷ []) is = by_name g is (bytes_eq g.name entry.name) refl
      decide (g ∷ h ∷ more) is = unknown (reply_of result) (λ w'. unmet (reply_of result) w'
          (λ met. let one = has_one met in let bad : g ∷ h ∷ more ≡ one.0 ∷ [] = sym is ∙ one.1 in absurd cc))
