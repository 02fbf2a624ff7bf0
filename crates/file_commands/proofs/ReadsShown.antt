-- dbread, as the world's.
use Rattle.std.proofs.Common.{◌≡◌, ◌⊎◌, ⊎_elim, inl, ℕ, ◌+◌, ◌≤◌, Bool, true, List, [], ◌∷◌, ◌++◌, length, take, drop, Option, Some, None, Result, Ok, Err, refl, sym, ◌∙◌, ap, subst, arith, IsTrue}
use Rattle.std.specs.Prelude.{⊤, IfErr, IfOk, IsSome, unwrap_or}
use Rattle.std.specs.FinMap as maps
use Rattle.std.proofs.lemmas.Bool.{false≢true}
use Rattle.bay.specs.Image.{Image}
use Rattle.bay.specs.State.{BayState, IsSound}
use Rattle.refusal_lines.specs.Refusals.{meaning_of}
use Rattle.refusal_lines.specs.declared.refusal.Refusal.{Refusal}
use Rattle.refusal_lines.specs.declared.refusal.Refusal.TheVariants as cause
use Rattle.asm_group.specs.Group.{File, Group}
use Rattle.asm_group.specs.Names.{Bytes, Path}
use Rattle.asm_group.specs.Refusal as r
use Rattle.asm_group.specs.Shape.{is_shape}
use Rattle.asm_formats.specs.Items.{Item}
use Rattle.asm_world.specs.Below.{GroupBelow}
use Rattle.asm_world.specs.Causes.{Cause, HasCause, IsCaused, When, causes, decided, group_causes, in_group, state_causes}
use Rattle.asm_world.specs.Command.{Command, Asked, DbRead}
use Rattle.asm_world.specs.Files as f
use Rattle.asm_world.specs.Numbers as code
use Rattle.asm_world.specs.Paths.{target_from}
use Rattle.asm_world.specs.Reply.{Reply, Done, Refused}
use Rattle.asm_world.specs.Step.{HasMountedGroup, ReadsFile, Step}
use Rattle.asm_world.specs.Waits.{HasLines}
use Rattle.asm_world.specs.World.{SessionEntry, SessionState, World, Mounted, DismountedBy, entry_among, entry_in, groups_of, is_mounted, mounted_group}
use Rattle.session.proofs.catalog_laws.HavingItems.{have_items}
use Rattle.catalog_tables.specs.Items.{AreItemsOf}
use Rattle.catalog_tables.specs.Rules.{KeepsRules}
use Rattle.session.specs.mounted_groups.Found.{Counts, counts_of}
use Rattle.session.specs.group_engine.Mounts.{MountedGroup}
use Rattle.session.proofs.group_engine.Elsewhere.{stays_attached}
use Rattle.report_laws.specs.group_of.Groups.{HasCells, cells_of, group_of}
use Rattle.report_laws.proofs.group_of.Describes.{described_has_cells}
use Rattle.report_laws.proofs.group_of.Leading.{described_is_of_catalog}
use Rattle.session.specs.group_contents.Files.{IsOpened, IsSpan, OpenCause, SpanCause}
use Rattle.session.specs.group_contents.declared.opening.OpenFile.{OpenFile}
use Rattle.session.specs.session_claims.Claims.{IsMountedAs, IsPaired, StandsFor}
use Rattle.session.proofs.session_claims.Looks.{looks_keep}
use Rattle.session.specs.Counts.{ReplyCause}
use Rattle.session.specs.Effects.{HasEffect, IsProvedOn, IsServed, anywhere, below_with, on_disks}
use Rattle.session.specs.Groups.{mounts}
use Rattle.session.specs.Meaning.{meaning}
use Rattle.session.specs.Naming.{IsGroupOf, IsOutCause, group_among, in_state, of_entry}
use Rattle.session.specs.Proved.{IsOneFor, is_proved_as}
use Rattle.session.specs.Sessions.{Knows, Roster, SessionView, roster_of}
use Rattle.session.proofs.AnsweredLines.{reply_of}
use Rattle.session.proofs.Creation.{same_some}
use Rattle.session.proofs.EditedEntries.{paired_of}
use Rattle.session.proofs.Outcomes.{none_read, plain, unread}
use Rattle.file_commands.specs.Reading.{FailsRead, IsLinesCause, IsNoSpan, OpensSpan, ReadsLines, ReadsOnly, failed, none, out}
use Rattle.file_commands.proofs.Named as named
use Rattle.file_commands.proofs.SpanCauses as spans
use Rattle.file_commands.proofs.SpanCauses.{read_causes}

some_is : {A : Type 0} (o : Option A) → IsSome o → (x : A) × (o ≡ Some x)
some_is None is = absurd (false≢true is)
some_is (Some x) is = (x, refl)

list_of : (o : Option (List Group)) (g : Group) → unwrap_or o [] ≡ g ∷ [] → o ≡ Some (g ∷ [])
list_of None g is = absurd cc
list_of (Some l) g is = ap (λ (x : List Group). Some x) is

abbrev causes_of : Option SessionEntry → List Cause
causes_of o = elim o [ None ↦ When true r.NoGroup ∷ [] | Some entry ↦ state_causes entry.state ]

on_by : (entry : SessionEntry) → entry.state ≡ Mounted → is_mounted entry ≡ true
on_by entry on = rw on refl

found_by : (w : World) (name : Bytes) (entry : SessionEntry) (group : Group) → entry_in w name ≡ Some entry → entry.state ≡ Mounted → groups_of w entry.id ≡ group ∷ [] → mounted_group w name ≡ Some group
found_by w name entry group at_entry on list = rw (at_entry, on, list) refl

-- what a refusal says
says_no_group : meaning_of (λ _. []) cause.NoGroup ≡ r.NoGroup
unfolding meaning_of
says_no_group = refl

says_no_memory : meaning_of (λ _. []) cause.NoMemory ≡ r.NoMemory
unfolding meaning_of
says_no_memory = refl

module _ (paths : List Bytes) (text path : Bytes) (at size : ℕ) (says : meaning text ≡ Asked (DbRead path at size)) (session : SessionView) (s t : BayState) (sound : IsSound s) (only : ReadsOnly s t)
    (w : World) (below : ℕ → GroupBelow) (knows : Knows session w below) where
  abbrev was : Roster
  was = roster_of session

  abbrev command : Command
  command = Asked (DbRead path at size)

  abbrev IsDone : Reply → Type 0
  IsDone reply = IsServed paths unread text reply was was s t below w w

  abbrev Does : Reply → Type 0
  Does reply = HasEffect paths unread text reply was was s t below w w

  abbrev Caused : r.Refusal → Type 0
  Caused c = IsCaused (causes (below_with below unread) w command) c

  counts : (c : r.Refusal) (before after : Counts) → ReplyCause paths text (Refused [] c) before after
  counts r.NoMemory before after = tt
  counts other before after = rw says tt

  -- what the world may answer
  refused : (c : r.Refusal) → Step (below_with below unread) w command (Refused [] c) w → HasCause (below_with below unread) w command (Refused [] c) → IsDone (Refused [] c)
  refused c step caused = plain paths unread text c session.groups session.given session.given (λ (slot : ℕ). ⊤) s t w
      (subst (λ (x : Command). Step (below_with below unread) w x (Refused [] c) w) (sym says) step)
      (subst (λ (x : Command). HasCause (below_with below unread) w x (Refused [] c)) (sym says) caused)
      (subst (λ (x : Command). HasLines (below_with below unread) w x (Refused [] c)) (sym says) refl)
      (none_read (counts_of s) (counts_of t)) tt (counts c (counts_of s) (counts_of t)) (omega arith) only.runs sound (stays_attached only.attached)

  short : IsDone (Refused [] r.NoMemory)
  short = refused r.NoMemory (inl refl) tt

  at_place : (o : Option (Bytes × Path)) → target_from session.place path ≡ o → target_from w.place path ≡ o
  at_place o is = ap (λ (p : List Bytes). target_from p path) knows.place_is ∙ is

  no_mount : IsOneFor (meaning text) w
  no_mount is = absurd (false≢true (subst (λ (c : Command). mounts c ≡ true) says is))

  -- It is proved where the disks stand for the world.
  by_disks : (reply : Reply) → ((known : ℕ → Bool) → StandsFor (length paths) known was.given s w was.groups → Does reply) → IsDone reply
  by_disks reply does = record {
    calls = only.runs.later;
    past = λ m image before left. (only.runs.ended m image before).0 left;
    effect = λ proved met. on proved;
  }
    where
      never : is_proved_as (meaning text) reply ≡ true → ⊥
      never is = false≢true (subst (λ (c : Command). is_proved_as c reply ≡ true) says is)

      on : IsProvedOn paths was s w (meaning text) reply → Does reply
      on (anywhere is) = absurd (never is)
      on (on_disks known is stands one) = does known stands

  -- the world may answer so, and it has its cause
  abbrev Answers : r.Refusal → Type 0
  Answers c = Step (below_with below unread) w command (Refused [] c) w × HasCause (below_with below unread) w command (Refused [] c)

  refused_on : (c : r.Refusal) → ((known : ℕ → Bool) → StandsFor (length paths) known was.given s w was.groups → Answers c) → IsDone (Refused [] c)
  refused_on c answers = record {
    calls = only.runs.later;
    past = λ m image before left. (only.runs.ended m image before).0 left;
    effect = λ proved met.
        (by_disks (Refused [] c) (λ known stands. let a = answers known stands in (refused c a.0 a.1).effect (on_disks known (rw says refl) stands no_mount) met)).effect proved met;
  }

  -- ---- the path leads to no group

  pub nowhere : target_from session.place path ≡ None → IsDone (Refused [] r.NoGroup)
  nowhere isnt = let leads = at_place None isnt in refused r.NoGroup refl (rw leads refl)

  pub no_target : (refusal : Refusal) → (refusal ≡ cause.NoMemory) ⊎ ((refusal ≡ cause.NoGroup) × (target_from session.place path ≡ None)) → IsDone (Refused [] (meaning_of (λ _. []) refusal))
  no_target refusal why = ⊎_elim
      (λ (memory : refusal ≡ cause.NoMemory). subst (λ (c : r.Refusal). IsDone (Refused [] c)) (sym (ap (λ (x : Refusal). meaning_of (λ _. []) x) memory ∙ says_no_memory)) short)
      (λ (isnt : (refusal ≡ cause.NoGroup) × (target_from session.place path ≡ None)). subst (λ (c : r.Refusal). IsDone (Refused [] c)) (sym (ap (λ (x : Refusal). meaning_of (λ _. []) x) isnt.0 ∙ says_no_group)) (nowhere isnt.1))
      why

  -- ---- it leads into one

  module _ (name : Bytes) (inside : Path) (target : target_from session.place path ≡ Some (name, inside)) where
    leads : target_from w.place path ≡ Some (name, inside)
    leads = at_place (Some (name, inside)) target

    abbrev inside_causes : Group → List Cause
    inside_causes g = read_causes inside at size g

    causes_are : causes (below_with below unread) w command ≡ in_group w name inside_causes
    causes_are = rw leads refl

    -- ---- the group isn't there, or isn't mounted

    by_entry : (o : Option SessionEntry) → entry_in w name ≡ o → (c : r.Refusal) → of_entry o c → IsDone (Refused [] c)
    by_entry None at_none c why = subst (λ (x : r.Refusal). IsDone (Refused [] x)) (sym why)
        (refused r.NoGroup refl
        (subst (λ (l : List Cause). IsCaused l r.NoGroup) (sym causes_are) (subst (λ (l : List Cause). IsCaused (l ++ group_causes (mounted_group w name) inside_causes) r.NoGroup) (sym (ap causes_of at_none)) refl)))
    by_entry (Some entry) at_entry c why = by_state entry.state refl why
      where
        by_state : (x : SessionState) → entry.state ≡ x → in_state x c → IsDone (Refused [] c)
        by_state Mounted is away = absurd away
        by_state (DismountedBy disk) is away = subst (λ (x : r.Refusal). IsDone (Refused [] x)) (sym away)
            (refused (r.Dismounted disk) (inl (record { name = name; entry = entry; names = record { among = ([], [], rw leads refl); there = at_entry }; state = is; is = refl }))
            (subst (λ (l : List Cause). IsCaused l (r.Dismounted disk)) (sym causes_are)
            (subst (λ (l : List Cause). IsCaused (l ++ group_causes (mounted_group w name) inside_causes) (r.Dismounted disk)) (sym (ap causes_of at_entry ∙ ap state_causes is)) refl)))

    out_refused : (refusal : Refusal) → IsOutCause session.entries name refusal → IsDone (Refused [] (meaning_of (λ _. []) refusal))
    out_refused refusal why = ⊎_elim
        (λ (away : of_entry (entry_among session.entries name) (meaning_of (λ _. []) refusal)).
        by_entry (entry_in w name) refl (meaning_of (λ _. []) refusal) (subst (λ (es : List SessionEntry). of_entry (entry_among es name) (meaning_of (λ _. []) refusal)) (sym knows.entries_are) away))
        (λ (memory : meaning_of (λ _. []) refusal ≡ r.NoMemory). subst (λ (x : r.Refusal). IsDone (Refused [] x)) (sym memory) short)
        why

    -- ---- the group is there

    module _ (m : MountedGroup) (group : IsGroupOf session name m) (known : ℕ → Bool) (stands : StandsFor (length paths) known was.given s w was.groups) where
      abbrev entry : SessionEntry
      entry = group.on.entry

      named_so : entry_in w name ≡ Some entry
      named_so = ap (λ (es : List SessionEntry). entry_among es name) knows.entries_are ∙ group.on.named

      on_entry : is_mounted entry ≡ true
      on_entry = on_by entry group.on.state

      pair : IsPaired w.session session.groups entry m
      pair = paired_of w.session session.groups name entry m named_so (ap (λ (es : List SessionEntry). group_among es session.groups name) knows.entries_are ∙ group.named)

      as_mounted : IsMountedAs (length paths) entry.id m (groups_of w entry.id) s
      as_mounted = stands.mounted entry m pair on_entry

      abbrev g : Group
      g = as_mounted.group

      has : HasMountedGroup w name entry.id g
      has = record { entry = entry; named = named_so; is = refl; mounted = group.on.state; only = list_of (maps.get w.groups entry.id) g as_mounted.only }

      found_group : mounted_group w name ≡ Some g
      found_group = found_by w name entry g named_so group.on.state as_mounted.only

      causes_inside : causes (below_with below unread) w command ≡ inside_causes g
      causes_inside = causes_are ∙ rw (ap causes_of named_so ∙ ap state_causes group.on.state, found_group) refl

      abbrev shape_holds : IsTrue (is_shape m.catalog.shape)
      shape_holds = as_mounted.mounts.whole.shape

      its : (items : List Item) × AreItemsOf m.catalog.tables items
      its = have_items m.catalog.tables as_mounted.mounts.whole.are_tables

      has_cells : HasCells m.catalog.tables (cells_of g)
      has_cells = described_has_cells m.register.value its.0 m.catalog.tables g as_mounted.mounts.whole.are_tables its.1 (as_mounted.mounts.represents.describes its.0 its.1)

      of_tables : g ≡ group_of g.name m.catalog.shape m.catalog.tables (cells_of g)
      of_tables = described_is_of_catalog m.register.value m.catalog g (record {
        tables = as_mounted.mounts.whole.are_tables;
        units = as_mounted.mounts.whole.units;
        shape = as_mounted.mounts.represents.shape;
        describes = as_mounted.mounts.represents.describes;
      })

      caused : (c : r.Refusal) → IsCaused (inside_causes (group_of g.name m.catalog.shape m.catalog.tables (cells_of g))) c → Caused c
      caused c is = subst (λ (l : List Cause). IsCaused l c) (sym causes_inside) (subst (λ (h : Group). IsCaused (inside_causes h) c) (sym of_tables) is)

      -- ---- the lines

      module _ (lines : List Bytes) (read : ReadsLines session name inside at size s t lines) (opens : OpensSpan m inside at size read.file) where
        abbrev file : OpenFile
        file = read.file

        abbrev the_file : File
        the_file = named.the_file g.name m.catalog.shape m.catalog.tables (cells_of g) inside as_mounted.mounts.whole.are_tables file opens.opened

        told : (image : Image) × (t.holds ≡ Some image)
        told = some_is t.holds (only.runs.tells stands.tells)

        long : at + size ≤ length the_file.cells
        long = omega (arith, named.has_size g.name m.catalog.shape m.catalog.tables (cells_of g) inside as_mounted.mounts.whole.are_tables file opens.opened has_cells, opens.span.within)

        agrees : f.Agrees (take size (drop at the_file.cells)) read.bytes
        agrees = subst (λ (n : ℕ). f.Agrees (take n (drop at the_file.cells)) read.bytes) read.many
            (read.shows m group (length paths) g as_mounted.kept as_mounted.mounts told.0 told.1 the_file
            (subst (λ (h : Group). maps.get h.files file.file ≡ Some the_file) (sym of_tables) (named.has_file g.name m.catalog.shape m.catalog.tables (cells_of g) inside as_mounted.mounts.whole.are_tables file opens.opened))
            (sym opens.opened.stripe) (omega (arith, long, read.many)))

        reads : ReadsFile at size lines inside g
        reads = record {
          file = the_file;
          bytes = read.bytes;
          there = subst (λ (h : Group). f.named_file h inside ≡ Some the_file) (sym of_tables) (named.there g.name m.catalog.shape m.catalog.tables (cells_of g) inside as_mounted.mounts.whole.are_tables file opens.opened);
          within = long;
          agrees = agrees;
          prints = read.prints;
        }

        step : Step (below_with below unread) w command (Done lines) w
        step = record { name = name; inside = inside; leads = leads; shows = record { id = entry.id; g = g; has = has; holds_is = reads; is = refl } }

        cause_is : HasCause (below_with below unread) w command (Done lines)
        cause_is = ap decided causes_inside ∙ subst (λ (h : Group). decided (inside_causes h) ≡ None) (sym of_tables)
            (spans.uncaused code.read_fault m shape_holds as_mounted.mounts.whole.are_tables g.name (cells_of g) inside at size file opens.opened has_cells opens.span)

        did : Does (Done lines)
        did = record {
          step = subst (λ (c : Command). Step (below_with below unread) w c (Done lines) w) (sym says) step;
          no_memory = λ is other. absurd cc;
          cause = subst (λ (c : Command). HasCause (below_with below unread) w c (Done lines)) (sym says) cause_is;
          lines = rw says tt;
          ids_read = none_read (counts_of s) (counts_of t);
          made = tt;
          counted = tt;
          worked = rw says tt;
          calls = only.runs.later;
          past = λ n image before left. (only.runs.ended n image before).0 left;
          keeps = λ k holds apart. looks_keep (λ (slot : ℕ). ⊤) s t sound (length paths) k was.given was.given w w was.groups was.groups (meaning text) (omega arith) only.runs (stays_attached only.attached)
              (same_some (length paths) k was.given s w was.groups holds) holds;
        }

      -- ---- a refusal

      module _ (file : OpenFile) (opened : IsOpened m.catalog.tables inside file) where
        fails_so : IsSpan m at size file → (c : r.Refusal) → FailsRead c → (c ≡ r.NoMemory → ⊥) → Caused c
        fails_so span c fails other = caused c (spans.failed code.read_fault m shape_holds as_mounted.mounts.whole.are_tables g.name (cells_of g) inside at size file opened has_cells span c (spans.fails_read c fails other))

        spans_so : (refusal : Refusal) → SpanCause m at size file refusal → Answers (meaning_of (λ _. []) refusal)
        unfolding meaning_of
        spans_so cause.NotSectors why = (refl, caused r.NotSectors (spans.not_sectors code.read_fault m shape_holds as_mounted.mounts.whole.are_tables g.name (cells_of g) inside at size file opened why))
        spans_so cause.OutOfFile why = (refl, caused r.OutOfFile (spans.out_of_file code.read_fault m shape_holds as_mounted.mounts.whole.are_tables g.name (cells_of g) inside at size file opened has_cells why.0 why.1))
        spans_so (cause.Lost x) why = (refl, fails_so why.0 (r.Lost x.file x.index) tt (λ other. absurd cc))
        spans_so _ why = absurd why

        reads_so : IsSpan m at size file → (c : r.Refusal) → FailsRead c → Answers c
        reads_so span (r.Lost k i) fails = (refl, fails_so span (r.Lost k i) fails (λ other. absurd cc))
        reads_so span (r.ReadFault disk) fails = (refl, fails_so span (r.ReadFault disk) fails (λ other. absurd cc))
        reads_so span r.NoMemory fails = (inl refl, tt)
        reads_so span _ fails = absurd fails

      no_file_so : KeepsRules m.catalog.shape m.catalog.tables → (refusal : Refusal) → OpenCause m inside refusal → Answers (meaning_of (λ _. []) refusal)
      unfolding meaning_of
      no_file_so rules cause.NoName why = (refl, caused r.NoName (spans.no_name code.read_fault m shape_holds as_mounted.mounts.whole.are_tables g.name (cells_of g) inside at size rules why))
      no_file_so rules _ why = absurd why

      none_so : (refusal : Refusal) → IsNoSpan m inside at size refusal → Answers (meaning_of (λ _. []) refusal)
      none_so refusal why = ⊎_elim (λ (isnt : OpenCause m inside refusal). no_file_so why.0 refusal isnt)
          (λ (isnt : (file : OpenFile) × IsOpened m.catalog.tables inside file × SpanCause m at size file refusal). spans_so isnt.0 isnt.1 refusal isnt.2) why.1

    -- ---- all of it

    refused_so : (refusal : Refusal) → IsLinesCause session name inside at size refusal → IsDone (Refused [] (meaning_of (λ _. []) refusal))
    refused_so refusal (out why) = out_refused refusal why
    refused_so refusal (none why) = refused_on (meaning_of (λ _. []) refusal) (λ known stands. none_so why.group why.is_group known stands refusal why.caused)
    refused_so refusal (failed there fails) = refused_on (meaning_of (λ _. []) refusal) (λ known stands. reads_so there.group there.is_group known stands there.caused.0 there.caused.1.opened there.caused.1.span (meaning_of (λ _. []) refusal) fails)

    pub read_served : (result : Result (List Bytes) Refusal) → IfOk result (ReadsLines session name inside at size s t) → IfErr result (IsLinesCause session name inside at size) → IsDone (reply_of result)
    read_served (Ok lines) read why = by_disks (Done lines) (λ known stands. did read.found.group read.found.is_group known stands lines read read.found.caused)
    read_served (Err refusal) read why = refused_so refusal why
