-- The reports on one mounted group, as the world's.
use Rattle.std.proofs.Common.{◌≡◌, ℕ, true, List, [], ◌∷◌, Result, Ok, Err, refl, sym, ◌∙◌, ap, subst}
use Rattle.std.specs.Prelude.{IfErr, IfOk}
use Rattle.bay.specs.State.{BayState}
use Rattle.refusal_lines.specs.declared.refusal.Refusal.{Refusal}
use Rattle.asm_group.specs.Group.{Group}
use Rattle.asm_group.specs.Names.{Bytes}
use Rattle.asm_group.specs.Refusal as r
use Rattle.asm_world.specs.Below.{Below, GroupBelow}
use Rattle.asm_world.specs.Causes.{HasCause, decided}
use Rattle.asm_world.specs.Command.{Command, Asked, Said, ListAttributes, ListDisks, ListTemplates}
use Rattle.asm_world.specs.Listings.{template_rows}
use Rattle.asm_world.specs.Reply.{Done}
use Rattle.asm_world.specs.Reports as world
use Rattle.asm_world.specs.Statement.{Alter, Check}
use Rattle.asm_world.specs.Step.{Shows, Step}
use Rattle.asm_world.specs.Waits.{HasLines}
use Rattle.asm_world.specs.World.{World}
use Rattle.asmcmd.proofs.Shown.{rows_are_lines}
use Rattle.session.specs.mounted_groups.Found.{Counts, counts_of}
use Rattle.session.specs.group_engine.Mounts.{MountedGroup}
use Rattle.group_reports.specs.Disks.{disk_rows}
use Rattle.report_laws.proofs.Rows.{attributes_are_worlds, templates_are_worlds}
use Rattle.session.specs.Effects.{IsServed, below_with}
use Rattle.session.specs.Families.{IsRefused, shows_group}
use Rattle.session.specs.Listing.{IsInGroup}
use Rattle.session.specs.Meaning.{meaning}
use Rattle.session.specs.Naming.{IsGroupOf, IsOutCause}
use Rattle.session.specs.OnDisks.{DiskWork, NoWork, ReplyWork, work_of}
use Rattle.session.specs.Proved.{HasOwnGroups}
use Rattle.session.specs.Sessions.{AreReady, Knows, Roster, SessionView, roster_of}
use Rattle.session.proofs.AnsweredLines.{reply_of}
use Rattle.session.proofs.Below.{disks_below, extents_below, not_full_below}
use Rattle.session.proofs.Languages.{meaning_is}
use Rattle.session.proofs.Outcomes.{unread}
use Rattle.session.proofs.Outcomes as outcomes
use Rattle.report_commands.specs.Told.{AsksForReport, attributes_told, checked_told, disks_told, templates_told, report_lines}
use Rattle.report_commands.specs.declared.shown.Report.{Report}
use Rattle.report_commands.specs.declared.shown.Report.TheVariants as report
use Rattle.report_commands.proofs.Gone.{are_tables}
use Rattle.report_commands.proofs.ShownGroups.{IsThere, IsUncounted, ShowsIn, causes_inside, is_there, out_refused, served_in, uncounted}

-- ---- any report

-- The command is a report on a group, of which the world has these lines.
pub record IsReport (paths : List Bytes) (below : Below) (w : World) (command : Command) (name : Bytes) (lines_of : ℕ → Group → List Bytes) : Type 0 where
  pub shows : ShowsIn below w command name (λ g. [])
  pub done : (lines : List Bytes) → Shows w name (λ id g. lines ≡ lines_of id g) w → Step below w command (Done lines) w
  pub has_lines : (lines : List Bytes) → HasLines below w command (Done lines)
  pub no_work : work_of command w below.group ≡ NoWork
  pub in_family : shows_group command ≡ true
  pub free : (c : r.Refusal) (s t : Counts) → IsRefused paths command c s t

module _ (paths : List Bytes) (text name : Bytes) (session : SessionView) (s : BayState) (w : World) (below : ℕ → GroupBelow) (knows : Knows session w below) where
  abbrev was : Roster
  was = roster_of session

  module _ (command : Command) (says : meaning text ≡ command) (lines_of : ℕ → Group → List Bytes) (is : IsReport paths (below_with below unread) w command name lines_of) where
    counts : IsUncounted paths text
    counts = uncounted paths text command says is.free

    there_told : (m : MountedGroup) (group : IsGroupOf session name m) (lines : List Bytes) → ((there : IsThere w below name m) → lines ≡ lines_of there.id there.group) → HasOwnGroups w → IsServed paths unread text (Done lines) was was s s below w w
    there_told m group lines as_world own =
        let there = is_there session name m group w below knows own in
        let step : Step (below_with below unread) w command (Done lines) w = is.done lines (record { id = there.id; g = there.group; has = there.has; holds_is = as_world there; is = refl }) in
        let cause : HasCause (below_with below unread) w command (Done lines) = ap decided (causes_inside paths text command says counts was s w name (λ g. []) is.shows m there) in
        let work : ReplyWork paths (work_of command w below) (Done lines) (counts_of s) (counts_of s) =
        subst (λ (d : DiskWork). ReplyWork paths d (Done lines) (counts_of s) (counts_of s)) (sym is.no_work) tt in
        outcomes.told paths text lines was s w
        (subst (λ (c : Command). Step (below_with below unread) w c (Done lines) w) (sym says) step)
        (subst (λ (c : Command). HasCause (below_with below unread) w c (Done lines)) (sym says) cause)
        (subst (λ (c : Command). HasLines (below_with below unread) w c (Done lines)) (sym says) (is.has_lines lines))
        (subst (λ (c : Command). ReplyWork paths (work_of c w below) (Done lines) (counts_of s) (counts_of s)) (sym says) work)

    -- the lines of it are the world's
    module _ (what : MountedGroup → List Bytes) (as_world : (m : MountedGroup) → IsGroupOf session name m → (there : IsThere w below name m) → what m ≡ lines_of there.id there.group) where
      report_served : (result : Result (List Bytes) Refusal) → IfOk result (λ lines. IsInGroup session name (λ m. lines ≡ what m)) → IfErr result (IsOutCause session.entries name)
          → IsServed paths unread text (reply_of result) was was s s below w w
      report_served (Ok lines) shown out = served_in paths text (Done lines) was s w w (ap shows_group says ∙ is.in_family)
          (λ own. there_told shown.group shown.is_group lines (λ there. shown.caused ∙ as_world shown.group shown.is_group there) own)
      report_served (Err refusal) shown out = out_refused paths text command says counts was s w name (λ g. []) is.shows refusal (rw knows.entries_are out)

-- ---- each report

module _ (paths : List Bytes) (text name : Bytes) (session : SessionView) (s : BayState) (ready : AreReady session.groups s) (w : World) (below : ℕ → GroupBelow) (knows : Knows session w below) where
  disks_is : IsReport paths (below_with below unread) w (Asked (ListDisks name)) name (λ id g. world.disk_lines (below id).disks)
  disks_is = record {
    shows = record { causes_are = refl; named = ([], [], refl); absent = refl; dismounted = λ disk is. is; lines = λ c. refl };
    done = λ lines shows. shows;
    has_lines = λ lines. tt;
    no_work = refl;
    in_family = refl;
    free = λ c before after. tt;
  }

  disks_as_world : (m : MountedGroup) → IsGroupOf session name m → (there : IsThere w below name m) → disks_told m ≡ world.disk_lines (below there.id).disks
  disks_as_world m group there =
      rows_are_lines.disks (disk_rows m.catalog m.register.value.entries) ∙ ap world.disk_lines (sym (ap (λ (b : GroupBelow). b.disks) there.lies ∙ disks_below m))

  check_is : IsReport paths (below_with below unread) w (Said (Alter name Check)) name (λ id g. world.check_line (below id).extents (below id).not_full ∷ [])
  check_is = record {
    shows = record { causes_are = refl; named = ([], [], refl); absent = refl; dismounted = λ disk is. is; lines = λ c. refl };
    done = λ lines shows. shows;
    has_lines = λ lines. tt;
    no_work = refl;
    in_family = refl;
    free = λ c before after. tt;
  }

  check_as_world : (m : MountedGroup) → IsGroupOf session name m → (there : IsThere w below name m) → checked_told m ≡ world.check_line (below there.id).extents (below there.id).not_full ∷ []
  check_as_world m group there =
      let extents = sym (ap (λ (b : GroupBelow). b.extents) there.lies ∙ extents_below m) in
      let not_full = sym (ap (λ (b : GroupBelow). b.not_full) there.lies ∙ not_full_below m) in
      λ i. world.check_line (extents i) (not_full i) ∷ []

  templates_is : IsReport paths (below_with below unread) w (Asked (ListTemplates name)) name (λ id g. world.template_lines (template_rows g))
  templates_is = record {
    shows = record { causes_are = refl; named = ([], [], refl); absent = refl; dismounted = λ disk is. is; lines = λ c. refl };
    done = λ lines shows. shows;
    has_lines = λ lines. tt;
    no_work = refl;
    in_family = refl;
    free = λ c before after. tt;
  }

  templates_as_world : (m : MountedGroup) → IsGroupOf session name m → (there : IsThere w below name m) → templates_told m ≡ world.template_lines (template_rows there.group)
  templates_as_world m group there = templates_are_worlds m.name m.catalog.shape m.catalog.tables there.told.cells (are_tables session name m ready group)
      ∙ ap (λ (g : Group). world.template_lines (template_rows g)) (sym there.told.is)

  attributes_is : IsReport paths (below_with below unread) w (Asked (ListAttributes name)) name (λ id g. world.attribute_lines g.shape g.attributes)
  attributes_is = record {
    shows = record { causes_are = refl; named = ([], [], refl); absent = refl; dismounted = λ disk is. is; lines = λ c. refl };
    done = λ lines shows. shows;
    has_lines = λ lines. tt;
    no_work = refl;
    in_family = refl;
    free = λ c before after. tt;
  }

  attributes_as_world : (m : MountedGroup) → IsGroupOf session name m → (there : IsThere w below name m) → attributes_told m ≡ world.attribute_lines there.group.shape there.group.attributes
  attributes_as_world m group there = attributes_are_worlds m.name m.catalog.shape m.catalog.tables there.told.cells ∙ ap (λ (g : Group). world.attribute_lines g.shape g.attributes) (sym there.told.is)

  -- the report that is asked for
  pub told_served : (what : Report) (result : Result (List Bytes) Refusal) → AsksForReport text name what → IfOk result (λ lines. IsInGroup session name (λ m. lines ≡ report_lines what m)) → IfErr result (IsOutCause session.entries name)
      → IsServed paths unread text (reply_of result) (roster_of session) (roster_of session) s s below w w
  told_served report.Disks result asked shown out =
      report_served paths text name session s w below knows (Asked (ListDisks name)) (meaning_is text (Asked (ListDisks name)) asked) (λ id g. world.disk_lines (below id).disks) disks_is disks_told disks_as_world result shown out
  told_served report.Check result asked shown out =
      report_served paths text name session s w below knows (Said (Alter name Check)) (meaning_is text (Said (Alter name Check)) asked) (λ id g. world.check_line (below id).extents (below id).not_full ∷ []) check_is checked_told check_as_world result shown out
  told_served report.Templates result asked shown out =
      report_served paths text name session s w below knows (Asked (ListTemplates name)) (meaning_is text (Asked (ListTemplates name)) asked) (λ id g. world.template_lines (template_rows g)) templates_is templates_told templates_as_world result shown out
  told_served report.Attributes result asked shown out =
      report_served paths text name session s w below knows (Asked (ListAttributes name)) (meaning_is text (Asked (ListAttributes name)) asked) (λ id g. world.attribute_lines g.shape g.attributes) attributes_is attributes_told attributes_as_world result shown out
