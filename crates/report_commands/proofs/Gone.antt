-- cd, as the world's.
use Rattle.std.proofs.Common.{◌≡◌, ◌⊎◌, ⊎_elim, inl, inr, ℕ, Bool, true, false, List, [], ◌∷◌, Option, Some, None, Err, refl, sym, ◌∙◌, ap, subst}
use Rattle.std.specs.Prelude.{is_some, not}
use Rattle.std.specs.Cmp.Lexicographic.{bytes_decides}
use Rattle.std.proofs.lemmas.Bool.{cases_Bool, false≢true}
use Rattle.bay.specs.State.{BayState}
use Rattle.refusal_lines.specs.Refusals.{meaning_of}
use Rattle.refusal_lines.specs.declared.refusal.Refusal.{Refusal}
use Rattle.refusal_lines.specs.declared.refusal.Refusal.TheVariants as cause
use Rattle.asm_group.specs.Group.{Group}
use Rattle.asm_group.specs.Names.{Bytes, Path}
use Rattle.asm_group.specs.Refusal as r
use Rattle.asm_world.specs.Below.{GroupBelow}
use Rattle.asm_world.specs.Causes.{Cause, HasCause, IsCaused, When, causes, decided, dir_causes}
use Rattle.asm_world.specs.Command.{Command, Asked, Cd}
use Rattle.asm_world.specs.Language.{command_of}
use Rattle.asm_world.specs.Paths.{resolved}
use Rattle.asm_world.specs.Reply.{Done, Refused}
use Rattle.asm_world.specs.Step.{GoesTo, Step}
use Rattle.asm_world.specs.World.{World}
use Rattle.catalog_tables.specs.Tables.{AreTables}
use Rattle.session.specs.mounted_groups.Found.{Counts}
use Rattle.session.specs.group_engine.Mounts.{MountedGroup}
use Rattle.group_reports.specs.Places.{directory_at}
use Rattle.report_laws.specs.Places.{IsDirectory, spelt_by}
use Rattle.report_laws.proofs.Places.{directories_are_worlds, no_directories_are_worlds}
use Rattle.report_laws.proofs.VerbPaths.{paths_lead}
use Rattle.session.specs.Counts.{ReplyCause}
use Rattle.session.specs.Effects.{IsServed, below_with}
use Rattle.session.specs.Families.{shows_group}
use Rattle.report_commands.specs.Going.{IsDirectoryOf, IsGoingCause, IsGoingCauseBy, IsLed, IsLedBy}
use Rattle.session.specs.Meaning.{meaning}
use Rattle.session.specs.Naming.{IsGroupOf}
use Rattle.session.specs.Places.{is_top}
use Rattle.session.specs.Proved.{HasOwnGroups}
use Rattle.session.specs.Sessions.{AreReady, Knows, Roster, SessionView, roster_of}
use Rattle.session.proofs.Outcomes as outcomes
use Rattle.session.proofs.Outcomes.{moved, unread}
use Rattle.session.proofs.Ready.{taken}
use Rattle.report_commands.proofs.ShownGroups.{IsThere, ShowsIn, causes_inside, is_there, out_refused, refused, served_in}

-- the tables of a mounted group are tables
pub are_tables : (session : SessionView) (name : Bytes) (m : MountedGroup) {s : BayState} → AreReady session.groups s → IsGroupOf session name m → AreTables m.catalog.tables
are_tables session name m ready is = (taken session name m ready is is.mounted).0.are_tables

-- of the causes of a directory one is given
pub either_cause : (a b : Bool) (c : r.Refusal) → IsCaused (When a r.NoName ∷ When b r.NotDirectory ∷ []) c → (c ≡ r.NoName) ⊎ (c ≡ r.NotDirectory)
either_cause true b c is = inl is
either_cause false true c is = inr is
either_cause false false c is = absurd is

module _ (paths : List Bytes) (text path : Bytes) (says : meaning text ≡ Asked (Cd path)) (asked : command_of text ≡ Asked (Cd path)) (session : SessionView) (s : BayState) (ready : AreReady session.groups s) where
  abbrev was : Roster
  was = roster_of session

  counts : (c : r.Refusal) (before after : Counts) → ReplyCause paths text (Refused [] c) before after
  counts r.NoMemory before after = tt
  counts other before after = rw says tt

  -- a path that leads into a group isn't `+`
  goes_in : (place : List Bytes) (name : Bytes) (inside : Path) → resolved place path ≡ Some (name ∷ inside) → shows_group (meaning text) ≡ true
  goes_in place name inside leads = ⊎_elim
      (λ (top : is_top path ≡ true).
      let plus : path ≡ 43 ∷ [] = (bytes_decides path (43 ∷ [])).0 top in
      let none : Some [] ≡ Some (name ∷ inside) = sym (ap (resolved place) plus) ∙ leads in
      absurd cc)
      (λ (other : is_top path ≡ false). rw says (ap not other))
      (cases_Bool (is_top path))

  module _ (w : World) (below : ℕ → GroupBelow) (knows : Knows session w below) where
    at_place : (o : Option (List Bytes)) → resolved session.place path ≡ o → resolved w.place path ≡ o
    at_place o is = ap (λ (p : List Bytes). resolved p path) knows.place_is ∙ is

    module _ (name : Bytes) (inside : Path) (leads : resolved w.place path ≡ Some (name ∷ inside)) where
      shows : ShowsIn (below_with below unread) w (Asked (Cd path)) name (λ g. dir_causes g inside)
      shows = record {
        causes_are = rw leads refl;
        named = ([], [], rw leads refl);
        absent = refl;
        dismounted = λ disk is. is;
        lines = λ c. refl;
      }

      -- ---- it went to a directory

      module _ (m : MountedGroup) (group : IsGroupOf session name m) (place : List Bytes) (directory : IsDirectoryOf m inside place) (own : HasOwnGroups w) where
        abbrev there : IsThere w below name m
        there = is_there session name m group w below knows own

        is_directory : IsDirectory there.group inside place
        is_directory =
            let d = directories_are_worlds m.name m.catalog.shape m.catalog.tables there.told.cells inside directory.node (are_tables session name m ready group) directory.leads in
            subst (λ (p : List Bytes). IsDirectory there.group inside p) (sym directory.is) (subst (λ (g : Group). IsDirectory g inside (m.name ∷ spelt_by m.catalog.tables directory.node)) (sym there.told.is) d)

        goes : GoesTo w (Some (name ∷ inside)) (record w { place = place })
        goes = (there.id, there.group, there.has, is_directory.there, ap (λ (p : List Bytes). record w { place = p }) (sym is_directory.spelt))

        step : Step (below_with below unread) w (Asked (Cd path)) (Done []) (record w { place = place })
        step = (subst (λ (o : Option (List Bytes)). GoesTo w o (record w { place = place })) (sym leads) goes, refl)

        uncaused : HasCause (below_with below unread) w (Asked (Cd path)) (Done [])
        uncaused = ap decided (causes_inside paths text (Asked (Cd path)) says counts was s w name (λ g. dir_causes g inside) shows m there) ∙ is_directory.uncaused

        went : IsServed paths unread text (Done []) was was s s below w (record w { place = place })
        went = moved paths text [] was s w place
            (subst (λ (c : Command). Step (below_with below unread) w c (Done []) (record w { place = place })) (sym says) step)
            (subst (λ (c : Command). HasCause (below_with below unread) w c (Done [])) (sym says) uncaused)
            (rw says tt) (rw says tt)

      -- ---- there is none

      module _ (m : MountedGroup) (group : IsGroupOf session name m) (refusal : Refusal) (none : directory_at m.catalog.tables inside ≡ Err refusal) (own : HasOwnGroups w) where
        abbrev there_none : IsThere w below name m
        there_none = is_there session name m group w below knows own

        caused : IsCaused (dir_causes there_none.group inside) (meaning_of (λ _. []) refusal)
        caused = subst (λ (g : Group). IsCaused (dir_causes g inside) (meaning_of (λ _. []) refusal)) (sym there_none.told.is)
            (no_directories_are_worlds m.name m.catalog.shape m.catalog.tables there_none.told.cells inside refusal (are_tables session name m ready group) none)

        abbrev Caused : r.Refusal → Type 0
        Caused c = IsCaused (causes (below_with below unread) w (Asked (Cd path))) c

        whole : Caused (meaning_of (λ _. []) refusal)
        whole = subst (λ (l : List Cause). IsCaused l (meaning_of (λ _. []) refusal)) (sym (causes_inside paths text (Asked (Cd path)) says counts was s w name (λ g. dir_causes g inside) shows m there_none)) caused

        by_cause : (c : r.Refusal) → Caused c → (c ≡ r.NoName) ⊎ (c ≡ r.NotDirectory) → IsServed paths unread text (Refused [] c) was was s s below w w
        by_cause c is which = ⊎_elim
            (λ (name_is : c ≡ r.NoName). subst (λ (x : r.Refusal). IsServed paths unread text (Refused [] x) was was s s below w w) (sym name_is)
            (refused paths text (Asked (Cd path)) says counts was s w r.NoName refl (subst Caused name_is is) refl))
            (λ (directory_is : c ≡ r.NotDirectory). subst (λ (x : r.Refusal). IsServed paths unread text (Refused [] x) was was s s below w w) (sym directory_is)
            (refused paths text (Asked (Cd path)) says counts was s w r.NotDirectory refl (subst Caused directory_is is) refl))
            which

        stayed : IsServed paths unread text (Refused [] (meaning_of (λ _. []) refusal)) was was s s below w w
        stayed = by_cause (meaning_of (λ _. []) refusal) whole (either_cause _ _ (meaning_of (λ _. []) refusal) caused)

    -- ---- all of it

    done_by : (place : List Bytes) (o : Option (List Bytes)) → resolved w.place path ≡ o → IsLedBy session o place → IsServed paths unread text (Done []) was was s s below w (record w { place = place })
    done_by place None leads led = absurd led
    done_by place (Some []) leads led =
        subst (λ (p : List Bytes). IsServed paths unread text (Done []) was was s s below w (record w { place = p })) (sym led)
        (moved paths text [] was s w [] (rw (says, leads) (refl, refl)) (rw (says, leads) refl) (rw says tt) (rw says tt))
    done_by place (Some (name ∷ inside)) leads led =
        served_in paths text (Done []) was s w (record w { place = place }) (goes_in w.place name inside leads) (λ own. went name inside leads led.0 led.1 place led.2 own)

    pub gone : (place : List Bytes) → IsLed session path place → IsServed paths unread text (Done []) was was s s below w (record w { place = place })
    gone place led = done_by place (resolved session.place path) (at_place (resolved session.place path) refl) led

    short : (refusal : Refusal) → refusal ≡ cause.NoMemory → IsServed paths unread text (Refused [] (meaning_of (λ _. []) refusal)) was was s s below w w
    unfolding meaning_of
    short refusal want = subst (λ (x : Refusal). IsServed paths unread text (Refused [] (meaning_of (λ _. []) x)) was was s s below w w) (sym want) (outcomes.no_memory paths text was s w)

    refused_by : (refusal : Refusal) (o : Option (List Bytes)) → resolved w.place path ≡ o → IsGoingCauseBy session o refusal → IsServed paths unread text (Refused [] (meaning_of (λ _. []) refusal)) was was s s below w w
    refused_by refusal None leads why = absurd (false≢true (sym (ap (λ (o : Option (List Bytes)). is_some o) leads) ∙ paths_lead.cd text path w.place asked))
    refused_by refusal (Some []) leads why = absurd why
    refused_by refusal (Some (name ∷ inside)) leads why = ⊎_elim
        (λ out. out_refused paths text (Asked (Cd path)) says counts was s w name (λ g. dir_causes g inside) (shows name inside leads) refusal (rw knows.entries_are out))
        (λ none. served_in paths text (Refused [] (meaning_of (λ _. []) refusal)) was s w w (goes_in w.place name inside leads) (λ own. stayed name inside leads none.group none.is_group refusal none.caused own))
        why

    pub not_gone : (refusal : Refusal) → IsGoingCause session path refusal → IsServed paths unread text (Refused [] (meaning_of (λ _. []) refusal)) was was s s below w w
    not_gone refusal why = ⊎_elim
        (λ want. short refusal want)
        (λ other. refused_by refusal (resolved session.place path) (at_place (resolved session.place path) refl) other)
        why
