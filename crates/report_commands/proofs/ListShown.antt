-- ls, as the world's.
use Rattle.std.proofs.Common.{◌≡◌, ◌⊎◌, ⊎_elim, inl, ℕ, Bool, true, false, List, [], ◌∷◌, map, Option, Some, None, Result, Ok, Err, refl, sym, ◌∙◌, ap, subst}
use Rattle.std.specs.Prelude.{IfErr, IfOk, is_some, if◌then◌else◌}
use Rattle.std.specs.Option.{option_map}
use Rattle.std.proofs.lemmas.Bool.{cases_Bool, false≢true}
use Rattle.bay.specs.State.{BayState}
use Rattle.refusal_lines.specs.Refusals.{meaning_of}
use Rattle.refusal_lines.specs.declared.refusal.Refusal.{Refusal}
use Rattle.refusal_lines.specs.declared.refusal.Refusal.TheVariants as cause
use Rattle.asm_group.specs.Group.{Group}
use Rattle.asm_group.specs.Names.{Bytes, Path}
use Rattle.asm_group.specs.Refusal as r
use Rattle.asm_world.specs.Below.{GroupBelow}
use Rattle.asm_world.specs.Causes.{Cause, HasCause, IsCaused, When, causes, decided, in_group, list_causes, listing_causes}
use Rattle.asm_world.specs.Command.{Command, Asked, Ls}
use Rattle.asm_world.specs.Language.{command_of}
use Rattle.asm_world.specs.Listings as world
use Rattle.asm_world.specs.Listings.{has_star}
use Rattle.asm_world.specs.Paths.{last_part, resolved_pattern}
use Rattle.asm_world.specs.Reply.{Done, Refused}
use Rattle.asm_world.specs.Reports as reports
use Rattle.asm_world.specs.Reports.{Directory, Listed}
use Rattle.asm_world.specs.Step.{Step}
use Rattle.asm_world.specs.World.{SessionEntry, World, mounted_group}
use Rattle.asmcmd.proofs.Shown.{rows_are_lines}
use Rattle.asmcmd.specs.Texts as texts
use Rattle.asmcmd.specs.declared.rows.LsRow.{LsRow}
use Rattle.session.specs.group_engine.Mounts.{MountedGroup}
use Rattle.group_reports.specs.Listing.{list_refusal, star}
use Rattle.report_laws.proofs.InOrder.{all_match_star, groups_are_worlds}
use Rattle.report_laws.proofs.ListCauses.{lists_are_refused, lists_are_uncaused}
use Rattle.report_laws.proofs.Lists.{rows_are_worlds}
use Rattle.report_laws.proofs.VerbPaths.{paths_lead}
use Rattle.session.specs.Effects.{IsServed, below_with}
use Rattle.session.specs.Families.{shows_group}
use Rattle.session.specs.Meaning.{meaning}
use Rattle.session.specs.Naming.{IsGroupOf}
use Rattle.session.specs.Proved.{HasOwnGroups}
use Rattle.session.specs.Sessions.{AreReady, Knows, Roster, SessionView, roster_of}
use Rattle.session.proofs.AnsweredLines.{reply_of}
use Rattle.session.proofs.Outcomes as outcomes
use Rattle.session.proofs.Outcomes.{unread}
use Rattle.report_commands.specs.Listed.{AreListLines, AreRowsOfGroup, IsUnlisted, IsUnlistedAt, IsRefusedIn, names_matching, rows_of_names}
use Rattle.report_commands.proofs.Gone.{are_tables, either_cause}
use Rattle.report_commands.proofs.ShownGroups.{IsThere, IsUncounted, ShowsIn, causes_inside, is_there, out_refused, refused, served_in, uncounted}

-- the path of ls leads somewhere
pub never_nowhere : (text : Bytes) (long : Bool) (path : Option Bytes) (place : List Bytes) → command_of text ≡ Asked (Ls long path) → resolved_pattern place path ≡ None → ⊥
never_nowhere text long None place asked none = absurd cc
never_nowhere text long (Some path) place asked none = false≢true (sym (ap (λ (o : Option (List Bytes)). is_some o) none) ∙ paths_lead.ls text path long place asked)

-- of the causes of a path of ls one is given
either_of : (b p q a : Bool) (c : r.Refusal) → IsCaused (if b then When p r.NoName ∷ When q r.NotDirectory ∷ [] else When a r.NoName ∷ []) c → (c ≡ r.NoName) ⊎ (c ≡ r.NotDirectory)
either_of true p q a c is = either_cause p q c is
either_of false p q true c is = inl is
either_of false p q false c is = absurd is

named_rows : (names : List Bytes) → rows_of_names names ≡ map texts.listed_row (world.rows_of_groups names)
named_rows [] = refl
named_rows (name ∷ names) = ap (λ (l : List LsRow). texts.listed_row (Directory name) ∷ l) (named_rows names)

module _ (paths : List Bytes) (text : Bytes) (long : Bool) (path : Option Bytes) (says : meaning text ≡ Asked (Ls long path)) (in_family : shows_group (meaning text) ≡ true) (session : SessionView) (s : BayState) (ready : AreReady session.groups s)
    (w : World) (below : ℕ → GroupBelow) (knows : Knows session w below) where
  abbrev was : Roster
  was = roster_of session

  abbrev command : Command
  command = Asked (Ls long path)

  counts : IsUncounted paths text
  counts = uncounted paths text command says (λ c before after. tt)

  abbrev Told : r.Refusal → Type 0
  Told c = IsServed paths unread text (Refused [] c) was was s s below w w

  short : Told (meaning_of (λ _. []) cause.NoMemory)
  unfolding meaning_of
  short = outcomes.no_memory paths text was s w

  -- the mounted groups that match are the world's
  matching_are : (pattern : Bytes) → names_matching pattern session.entries ≡ world.matching_groups w pattern
  matching_are pattern = ap (λ (es : List SessionEntry). names_matching pattern es) (sym knows.entries_are) ∙ groups_are_worlds w pattern

  -- what is told where the world has these rows, and no cause
  module _ (parts : List Bytes) (leads : resolved_pattern w.place path ≡ Some parts) where
    listed : (rows : List LsRow) (shown : List Listed) (lines : List Bytes) → world.rows_listed w (Some parts) ≡ Some shown → rows ≡ map texts.listed_row shown → lines ≡ texts.ls_row_lines long rows → decided (listing_causes w (Some parts)) ≡ None
        → IsServed paths unread text (Done lines) was was s s below w w
    listed rows shown lines has are is uncaused =
        let as_world : lines ≡ reports.ls_lines long shown = is ∙ (ap (texts.ls_row_lines long) are ∙ rows_are_lines.listed long shown) in
        let told : option_map (λ (rows : List Listed). reports.ls_lines long rows) (world.rows_listed w (resolved_pattern w.place path)) ≡ Some lines =
        ap (λ (o : Option (List Bytes)). option_map (λ (rows : List Listed). reports.ls_lines long rows) (world.rows_listed w o)) leads
        ∙ (ap (option_map (λ (rows : List Listed). reports.ls_lines long rows)) has ∙ ap (λ (l : List Bytes). Some l) (sym as_world)) in
        let step : Step (below_with below unread) w command (Done lines) w = (refl, told) in
        let cause : HasCause (below_with below unread) w command (Done lines) = ap (λ (o : Option (List Bytes)). decided (listing_causes w o)) leads ∙ uncaused in
        outcomes.told paths text lines was s w
        (subst (λ (c : Command). Step (below_with below unread) w c (Done lines) w) (sym says) step)
        (subst (λ (c : Command). HasCause (below_with below unread) w c (Done lines)) (sym says) cause)
        (rw says tt) (rw says tt)

  -- ---- in a group

  module _ (name : Bytes) (parts : Path) (inside : Group → List Cause) (leads : resolved_pattern w.place path ≡ Some (name ∷ parts)) (caused_so : listing_causes w (Some (name ∷ parts)) ≡ in_group w name inside)
      (rows_so : world.rows_listed w (Some (name ∷ parts)) ≡ world.rows_in (mounted_group w name) parts) where
    shows : ShowsIn (below_with below unread) w command name inside
    shows = record {
      causes_are = ap (λ (o : Option (List Bytes)). listing_causes w o) leads ∙ caused_so;
      named = ([], [], rw leads refl);
      absent = refl;
      dismounted = λ disk is. is;
      lines = λ c. refl;
    }

    -- what is told by the tables has no cause there
    in_tables : (uncaused : (g : Group) → decided (list_causes g parts) ≡ None → decided (inside g) ≡ None) (rows : List LsRow) (lines : List Bytes) → AreRowsOfGroup session name parts rows → lines ≡ texts.ls_row_lines long rows → HasOwnGroups w
        → IsServed paths unread text (Done lines) was was s s below w w
    in_tables uncaused rows lines are is own =
        let m = are.group in
        let there : IsThere w below name m = is_there session name m are.is_group w below knows own in
        let same : rows ≡ map texts.listed_row (world.rows_at there.group parts) =
        rows_are_worlds m.name m.catalog.shape m.catalog.tables there.told.cells parts rows are.rules are.are ∙ ap (λ (g : Group). map texts.listed_row (world.rows_at g parts)) (sym there.told.is) in
        let none : decided (list_causes there.group parts) ≡ None =
        ap (λ (g : Group). decided (list_causes g parts)) there.told.is
        ∙ lists_are_uncaused m.name m.catalog.shape m.catalog.tables there.told.cells parts rows (are_tables session name m ready are.is_group) are.are in
        let inside_none : decided (listing_causes w (Some (name ∷ parts))) ≡ None =
        ap decided (sym (ap (λ (o : Option (List Bytes)). listing_causes w o) leads)) ∙ (ap decided (causes_inside paths text command says counts was s w name inside shows m there) ∙ uncaused there.group none) in
        listed (name ∷ parts) leads rows (world.rows_at there.group parts) lines (rows_so ∙ ap (λ (o : Option Group). world.rows_in o parts) there.found) same is inside_none

    -- what the tables refuse, the world does
    module _ (m : MountedGroup) (group : IsGroupOf session name m) (refusal : Refusal) (due : list_refusal m.catalog.tables parts ≡ Some refusal) (own : HasOwnGroups w) where
      abbrev there_none : IsThere w below name m
      there_none = is_there session name m group w below knows own

      caused : IsCaused (list_causes there_none.group parts) (meaning_of (λ _. []) refusal)
      caused = subst (λ (g : Group). IsCaused (list_causes g parts) (meaning_of (λ _. []) refusal)) (sym there_none.told.is)
          (lists_are_refused m.name m.catalog.shape m.catalog.tables there_none.told.cells parts refusal (are_tables session name m ready group) due)

      by_cause : (c : r.Refusal) → IsCaused (inside there_none.group) c → (c ≡ r.NoName) ⊎ (c ≡ r.NotDirectory) → Told c
      by_cause c is which =
          let whole : IsCaused (causes (below_with below unread) w command) c =
          subst (λ (l : List Cause). IsCaused l c) (sym (causes_inside paths text command says counts was s w name inside shows m there_none)) is in
          ⊎_elim
          (λ (name_is : c ≡ r.NoName). subst (λ (x : r.Refusal). Told x) (sym name_is)
          (refused paths text command says counts was s w r.NoName refl (subst (λ (x : r.Refusal). IsCaused (causes (below_with below unread) w command) x) name_is whole) refl))
          (λ (directory_is : c ≡ r.NotDirectory). subst (λ (x : r.Refusal). Told x) (sym directory_is)
          (refused paths text command says counts was s w r.NotDirectory refl (subst (λ (x : r.Refusal). IsCaused (causes (below_with below unread) w command) x) directory_is whole) refl))
          which

    out : (refusal : Refusal) → IsRefusedIn session name parts refusal → ((m : MountedGroup) → IsGroupOf session name m → list_refusal m.catalog.tables parts ≡ Some refusal → HasOwnGroups w → Told (meaning_of (λ _. []) refusal)) → Told (meaning_of (λ _. []) refusal)
    out refusal why within = ⊎_elim
        (λ absent. out_refused paths text command says counts was s w name inside shows refusal (rw knows.entries_are absent))
        (λ none. served_in paths text (Refused [] (meaning_of (λ _. []) refusal)) was s w w in_family (λ own. within none.group none.is_group none.caused own))
        why

  -- ---- by the parts

  starred : (name : Bytes) → has_star name ≡ true → world.rows_listed w (Some (name ∷ [])) ≡ Some (world.rows_of_groups (world.matching_groups w name))
  starred name is = ap (λ (t : Bool). if t then Some (world.rows_of_groups (world.matching_groups w name)) else world.rows_in (mounted_group w name) []) is

  done_at : (parts : List Bytes) (lines : List Bytes) → resolved_pattern w.place path ≡ Some parts → AreListLines session long parts lines → IsServed paths unread text (Done lines) was was s s below w w
  done_at [] lines leads told =
      let all : names_matching star session.entries ≡ world.mounted_names w = matching_are star ∙ all_match_star (world.mounted_names w) in
      listed [] leads told.0 (world.rows_of_groups (world.mounted_names w)) lines refl (told.1 ∙ (ap rows_of_names all ∙ named_rows (world.mounted_names w))) told.2 refl
  done_at (name ∷ []) lines leads told = ⊎_elim
      (λ (is : has_star name ≡ true).
      let rows : told.0 ≡ rows_of_names (names_matching name session.entries) = rw is at told.1 in
      listed (name ∷ []) leads told.0 (world.rows_of_groups (world.matching_groups w name)) lines (starred name is)
      (rows ∙ (ap rows_of_names (matching_are name) ∙ named_rows (world.matching_groups w name))) told.2
      (ap (λ (t : Bool). decided (if t then [] else in_group w name (λ g. []))) is))
      (λ (is : has_star name ≡ false).
      let rows : AreRowsOfGroup session name [] told.0 = rw is at told.1 in
      served_in paths text (Done lines) was s w w in_family (λ own.
      in_tables name [] (λ g. []) leads (ap (λ (t : Bool). if t then [] else in_group w name (λ g. [])) is)
      (ap (λ (t : Bool). if t then Some (world.rows_of_groups (world.matching_groups w name)) else world.rows_in (mounted_group w name) []) is) (λ g none. refl) told.0 lines rows told.2 own))
      (cases_Bool (has_star name))
  done_at (name ∷ part ∷ parts) lines leads told =
      served_in paths text (Done lines) was s w w in_family (λ own. in_tables name (part ∷ parts) (λ g. list_causes g (part ∷ parts)) leads refl refl (λ g none. none) told.0 lines told.1 told.2 own)

  refused_at : (parts : List Bytes) (refusal : Refusal) → resolved_pattern w.place path ≡ Some parts → IsUnlistedAt session parts refusal → Told (meaning_of (λ _. []) refusal)
  refused_at [] refusal leads why = absurd why
  refused_at (name ∷ []) refusal leads why =
      let causes_so : listing_causes w (Some (name ∷ [])) ≡ in_group w name (λ g. []) = ap (λ (t : Bool). if t then [] else in_group w name (λ g. [])) why.0 in
      let rows_so : world.rows_listed w (Some (name ∷ [])) ≡ world.rows_in (mounted_group w name) [] =
      ap (λ (t : Bool). if t then Some (world.rows_of_groups (world.matching_groups w name)) else world.rows_in (mounted_group w name) []) why.0 in
      out name [] (λ g. []) leads causes_so rows_so refusal why.1 (λ m group due own. absurd (caused name [] (λ g. []) leads causes_so rows_so m group refusal due own))
  refused_at (name ∷ part ∷ parts) refusal leads why =
      out name (part ∷ parts) (λ g. list_causes g (part ∷ parts)) leads refl refl refusal why (λ m group due own.
      let is = caused name (part ∷ parts) (λ g. list_causes g (part ∷ parts)) leads refl refl m group refusal due own in
      by_cause name (part ∷ parts) (λ g. list_causes g (part ∷ parts)) leads refl refl m group refusal due own (meaning_of (λ _. []) refusal) is
      (either_of (has_star (last_part (part ∷ parts))) _ _ _ (meaning_of (λ _. []) refusal) is))

  pub list_served : (parts : List Bytes) (result : Result (List Bytes) Refusal) → resolved_pattern session.place path ≡ Some parts → IfOk result (AreListLines session long parts) → IfErr result (IsUnlisted session parts)
      → IsServed paths unread text (reply_of result) was was s s below w w
  list_served parts (Ok lines) leads told out_of = done_at parts lines (ap (λ (p : List Bytes). resolved_pattern p path) knows.place_is ∙ leads) told
  list_served parts (Err refusal) leads told out_of = ⊎_elim
      (λ (want : refusal ≡ cause.NoMemory). subst (λ (x : Refusal). Told (meaning_of (λ _. []) x)) (sym want) short)
      (λ why. refused_at parts refusal (ap (λ (p : List Bytes). resolved_pattern p path) knows.place_is ∙ leads) why)
      out_of
