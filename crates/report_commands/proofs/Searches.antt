-- Reports on a directory in a group, as the world's.
use Rattle.std.proofs.Common.{◌≡◌, ◌⊎◌, ⊎_elim, ℕ, true, List, [], ◌∷◌, Option, Some, None, Result, Ok, Err, refl, sym, ◌∙◌, ap, subst}
use Rattle.std.specs.Prelude.{IfErr, IfOk, is_some}
use Rattle.std.proofs.lemmas.Bool.{false≢true}
use Rattle.std.proofs.lemmas.Option.{same_Some}
use Rattle.bay.specs.State.{BayState}
use Rattle.refusal_lines.specs.Refusals.{meaning_of}
use Rattle.refusal_lines.specs.declared.refusal.Refusal.{Refusal}
use Rattle.refusal_lines.specs.declared.refusal.Refusal.TheVariants as cause
use Rattle.asm_group.specs.Group.{Group}
use Rattle.asm_group.specs.Names.{Bytes, Path}
use Rattle.asm_group.specs.Refusal as r
use Rattle.asm_world.specs.Below.{Below, GroupBelow}
use Rattle.asm_world.specs.Between.{group_name_of, groups_named}
use Rattle.asm_world.specs.Causes.{Cause, HasCause, IsCaused, causes, decided, dir_causes, searching_causes}
use Rattle.asm_world.specs.Command.{Command}
use Rattle.asm_world.specs.Paths.{parts_of}
use Rattle.asm_world.specs.Reply.{Done, Refused}
use Rattle.asm_world.specs.Step.{HasMountedGroup, IsDismounted, Step}
use Rattle.asm_world.specs.Waits.{HasLines}
use Rattle.asm_world.specs.World.{World, mounted_group}
use Rattle.catalog_tables.specs.Rules.{KeepsRules}
use Rattle.session.specs.mounted_groups.Found.{Counts, counts_of}
use Rattle.session.specs.group_engine.Mounts.{MountedGroup}
use Rattle.group_reports.specs.Places.{directory_at}
use Rattle.report_laws.proofs.Places.{directories_are_worlds, no_directories_are_worlds}
use Rattle.session.specs.Effects.{IsServed, below_with}
use Rattle.session.specs.Families.{IsRefused, shows_group}
use Rattle.session.specs.Listing.{IsInGroup, IsPathCause}
use Rattle.session.specs.Meaning.{meaning}
use Rattle.session.specs.Naming.{IsGroupOf}
use Rattle.session.specs.OnDisks.{DiskWork, NoWork, ReplyWork, work_of}
use Rattle.session.specs.Proved.{HasOwnGroups}
use Rattle.session.specs.Sessions.{AreReady, Knows, Roster, SessionView, roster_of}
use Rattle.session.proofs.AnsweredLines.{reply_of}
use Rattle.session.proofs.Outcomes as outcomes
use Rattle.session.proofs.Outcomes.{unread}
use Rattle.report_commands.specs.Told.{IsToldAt}
use Rattle.report_commands.proofs.Gone.{are_tables, either_cause}
use Rattle.report_commands.proofs.ShownGroups.{IsThere, IsUncounted, ShowsIn, causes_inside, is_there, out_refused, refused, served_in, uncounted}

-- the parts from the top of a path in a group
led_by : (o : Option (List Bytes)) (name : Bytes) (inside : Path) → parts_of o ≡ Some (name, inside) → o ≡ Some (name ∷ inside)
led_by None name inside e = absurd cc
led_by (Some []) name inside e = absurd cc
led_by (Some (first ∷ rest)) name inside e = ap (λ (p : Bytes × Path). Some (p.0 ∷ p.1)) (same_Some {A = Bytes × Path} (first, rest) (name, inside) e)

-- The command is a report on the directory to which its path leads, of which the world has these lines.
pub record IsSearch (paths : List Bytes) (below : Below) (w : World) (command : Command) (leads : Option (List Bytes)) (lines_of : ℕ → Group → Path → List Bytes) : Type 0 where
  pub somewhere : is_some leads ≡ true
  pub causes_are : causes below w command ≡ searching_causes w leads
  pub named : groups_named w command ≡ group_name_of (parts_of leads)
  pub absent : Step below w command (Refused [] r.NoGroup) w
  pub no_name : Step below w command (Refused [] r.NoName) w
  pub no_directory : Step below w command (Refused [] r.NotDirectory) w
  pub dismounted : (disk : Bytes) → IsDismounted below w command disk w → Step below w command (Refused [] (r.Dismounted disk)) w
  pub lines : (cause : r.Refusal) → HasLines below w command (Refused [] cause)
  pub done : (name : Bytes) (inside : Path) (id : ℕ) (g : Group) (lines : List Bytes) → leads ≡ Some (name ∷ inside) → HasMountedGroup w name id g → mounted_group w name ≡ Some g → lines ≡ lines_of id g inside → Step below w command (Done lines) w
  pub has_lines : (lines : List Bytes) → HasLines below w command (Done lines)
  pub no_work : work_of command w below.group ≡ NoWork
  pub in_family : shows_group command ≡ true
  pub free : (c : r.Refusal) (s t : Counts) → IsRefused paths command c s t

module _ (paths : List Bytes) (text : Bytes) (command : Command) (says : meaning text ≡ command) (session : SessionView) (s : BayState) (ready : AreReady session.groups s) (w : World) (below : ℕ → GroupBelow) (knows : Knows session w below)
    (leads : Option (List Bytes)) (lines_of : ℕ → Group → Path → List Bytes) (is : IsSearch paths (below_with below unread) w command leads lines_of) where
  abbrev was : Roster
  was = roster_of session

  counts : IsUncounted paths text
  counts = uncounted paths text command says is.free

  abbrev Told : r.Refusal → Type 0
  Told c = IsServed paths unread text (Refused [] c) was was s s below w w

  -- ---- the path leads to no group

  nowhere_by : (o : Option (List Bytes)) → leads ≡ o → parts_of o ≡ None → Told r.NoGroup
  nowhere_by None to none = absurd (false≢true (sym (ap (λ (o : Option (List Bytes)). is_some o) to) ∙ is.somewhere))
  nowhere_by (Some []) to none =
      let due : causes (below_with below unread) w command ≡ searching_causes w (Some []) = is.causes_are ∙ ap (λ (o : Option (List Bytes)). searching_causes w o) to in
      refused paths text command says counts was s w r.NoGroup is.absent (subst (λ (l : List Cause). IsCaused l r.NoGroup) (sym due) refl) (is.lines r.NoGroup)
  nowhere_by (Some (name ∷ inside)) to none = absurd cc

  no_group : meaning_of (λ _. []) cause.NoGroup ≡ r.NoGroup
  unfolding meaning_of
  no_group = refl

  pub told_nowhere : parts_of leads ≡ None → Told (meaning_of (λ _. []) cause.NoGroup)
  told_nowhere none = subst (λ (c : r.Refusal). Told c) (sym no_group) (nowhere_by leads refl none)

  -- ---- it leads into one

  module _ (name : Bytes) (inside : Path) (target : parts_of leads ≡ Some (name, inside)) where
    leads_in : leads ≡ Some (name ∷ inside)
    leads_in = led_by leads name inside target

    shows : ShowsIn (below_with below unread) w command name (λ g. dir_causes g inside)
    shows = record {
      causes_are = is.causes_are ∙ ap (λ (o : Option (List Bytes)). searching_causes w o) leads_in;
      named = ([], [], is.named ∙ ap (λ (o : Option (Bytes × Path)). group_name_of o) target);
      absent = is.absent;
      dismounted = is.dismounted;
      lines = is.lines;
    }

    -- what is told of a directory by the tables
    module _ (what : MountedGroup → List Bytes) (as_world : (m : MountedGroup) → KeepsRules m.catalog.shape m.catalog.tables → (there : IsThere w below name m) → what m ≡ lines_of there.id there.group inside) where
      module _ (m : MountedGroup) (group : IsGroupOf session name m) (lines : List Bytes) (told : IsToldAt m inside (what m) lines) (own : HasOwnGroups w) where
        abbrev there : IsThere w below name m
        there = is_there session name m group w below knows own

        uncaused : decided (dir_causes there.group inside) ≡ None
        uncaused = ap (λ (g : Group). decided (dir_causes g inside)) there.told.is
            ∙ (directories_are_worlds m.name m.catalog.shape m.catalog.tables there.told.cells inside told.node (are_tables session name m ready group) told.leads).uncaused

        step : Step (below_with below unread) w command (Done lines) w
        step = is.done name inside there.id there.group lines leads_in there.has there.found (told.is ∙ as_world m told.rules there)

        cause_is : HasCause (below_with below unread) w command (Done lines)
        cause_is = ap decided (causes_inside paths text command says counts was s w name (λ g. dir_causes g inside) shows m there) ∙ uncaused

        work : ReplyWork paths (work_of command w below) (Done lines) (counts_of s) (counts_of s)
        work = subst (λ (d : DiskWork). ReplyWork paths d (Done lines) (counts_of s) (counts_of s)) (sym is.no_work) tt

        listed : IsServed paths unread text (Done lines) was was s s below w w
        listed = outcomes.told paths text lines was s w
            (subst (λ (c : Command). Step (below_with below unread) w c (Done lines) w) (sym says) step)
            (subst (λ (c : Command). HasCause (below_with below unread) w c (Done lines)) (sym says) cause_is)
            (subst (λ (c : Command). HasLines (below_with below unread) w c (Done lines)) (sym says) (is.has_lines lines))
            (subst (λ (c : Command). ReplyWork paths (work_of c w below) (Done lines) (counts_of s) (counts_of s)) (sym says) work)

    -- there is none
    module _ (m : MountedGroup) (group : IsGroupOf session name m) (refusal : Refusal) (none : directory_at m.catalog.tables inside ≡ Err refusal) (own : HasOwnGroups w) where
      abbrev there_none : IsThere w below name m
      there_none = is_there session name m group w below knows own

      caused : IsCaused (dir_causes there_none.group inside) (meaning_of (λ _. []) refusal)
      caused = subst (λ (g : Group). IsCaused (dir_causes g inside) (meaning_of (λ _. []) refusal)) (sym there_none.told.is)
          (no_directories_are_worlds m.name m.catalog.shape m.catalog.tables there_none.told.cells inside refusal (are_tables session name m ready group) none)

      abbrev Caused : r.Refusal → Type 0
      Caused c = IsCaused (causes (below_with below unread) w command) c

      whole : Caused (meaning_of (λ _. []) refusal)
      whole = subst (λ (l : List Cause). IsCaused l (meaning_of (λ _. []) refusal)) (sym (causes_inside paths text command says counts was s w name (λ g. dir_causes g inside) shows m there_none)) caused

      by_cause : (c : r.Refusal) → Caused c → (c ≡ r.NoName) ⊎ (c ≡ r.NotDirectory) → Told c
      by_cause c due which = ⊎_elim
          (λ (name_is : c ≡ r.NoName). subst (λ (x : r.Refusal). Told x) (sym name_is) (refused paths text command says counts was s w r.NoName is.no_name (subst Caused name_is due) (is.lines r.NoName)))
          (λ (directory_is : c ≡ r.NotDirectory). subst (λ (x : r.Refusal). Told x) (sym directory_is)
          (refused paths text command says counts was s w r.NotDirectory is.no_directory (subst Caused directory_is due) (is.lines r.NotDirectory)))
          which

      stayed : Told (meaning_of (λ _. []) refusal)
      stayed = by_cause (meaning_of (λ _. []) refusal) whole (either_cause _ _ (meaning_of (λ _. []) refusal) caused)

    -- ---- all of it

    family : shows_group (meaning text) ≡ true
    family = ap shows_group says ∙ is.in_family

    pub search_served : (what : MountedGroup → List Bytes) → ((m : MountedGroup) → KeepsRules m.catalog.shape m.catalog.tables → (there : IsThere w below name m) → what m ≡ lines_of there.id there.group inside)
        → (result : Result (List Bytes) Refusal) → IfOk result (λ lines. IsInGroup session name (λ m. IsToldAt m inside (what m) lines)) → IfErr result (IsPathCause session name inside) → IsServed paths unread text (reply_of result) was was s s below w w
    search_served what as_world (Ok lines) told out = served_in paths text (Done lines) was s w w family (λ own. listed what as_world told.group told.is_group lines told.caused own)
    search_served what as_world (Err refusal) told out = ⊎_elim
        (λ absent. out_refused paths text command says counts was s w name (λ g. dir_causes g inside) shows refusal (rw knows.entries_are absent))
        (λ none. served_in paths text (Refused [] (meaning_of (λ _. []) refusal)) was s w w family (λ own. stayed none.group none.is_group refusal none.caused own))
        out
