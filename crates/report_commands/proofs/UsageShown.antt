-- du, as the world's.
use Rattle.std.proofs.Common.{◌≡◌, ℕ, List, ◌∷◌, [], Option, Some, None, Result, refl, sym, ◌∙◌, ap}
use Rattle.std.specs.Prelude.{IfErr, IfOk}
use Rattle.bay.specs.State.{BayState}
use Rattle.refusal_lines.specs.Refusals.{meaning_of}
use Rattle.refusal_lines.specs.declared.refusal.Refusal.{Refusal}
use Rattle.refusal_lines.specs.declared.refusal.Refusal.TheVariants as cause
use Rattle.asm_group.specs.Group.{Group}
use Rattle.asm_group.specs.Names.{Bytes, Path}
use Rattle.asm_world.specs.Below.{Below, GroupBelow}
use Rattle.asm_world.specs.Between.{group_name_of, groups_named}
use Rattle.asm_world.specs.Command.{Command, Asked, Usage}
use Rattle.asm_world.specs.Language.{command_of}
use Rattle.asm_world.specs.Listings as world
use Rattle.asm_world.specs.Paths.{parts_of, resolved_or_here}
use Rattle.asm_world.specs.Reply.{Refused}
use Rattle.asm_world.specs.Step.{HasMountedGroup}
use Rattle.asm_world.specs.World.{World, entry_in, mounted_group}
use Rattle.catalog_tables.specs.Rules.{KeepsRules}
use Rattle.session.specs.group_engine.Mounts.{MountedGroup}
use Rattle.group_reports.specs.Extents.{file_units}
use Rattle.report_laws.proofs.Usage.{usage_is_worlds}
use Rattle.report_laws.proofs.VerbPaths.{paths_lead}
use Rattle.session.specs.Effects.{IsServed, below_with}
use Rattle.session.specs.Listing.{IsInGroup, IsPathCause}
use Rattle.session.specs.Meaning.{meaning}
use Rattle.session.specs.Sessions.{AreReady, Knows, Roster, SessionView, roster_of}
use Rattle.session.proofs.AnsweredLines.{reply_of}
use Rattle.session.proofs.Below.{units_below}
use Rattle.session.proofs.Outcomes.{unread}
use Rattle.report_commands.specs.Told.{IsUsageIn, usage_told}
use Rattle.report_commands.proofs.Searches.{IsSearch, search_served, told_nowhere}
use Rattle.report_commands.proofs.ShownGroups.{IsThere}

names_group : (w : World) (path : Option Bytes) → groups_named w (Asked (Usage path)) ≡ group_name_of (parts_of (resolved_or_here w.place path))
names_group w None = refl
names_group w (Some path) = refl

module _ (paths : List Bytes) (text : Bytes) (path : Option Bytes) (says : meaning text ≡ Asked (Usage path)) (asked : command_of text ≡ Asked (Usage path)) (session : SessionView) (s : BayState) (ready : AreReady session.groups s)
    (w : World) (below : ℕ → GroupBelow) (knows : Knows session w below) where
  abbrev was : Roster
  was = roster_of session

  abbrev command : Command
  command = Asked (Usage path)

  abbrev found : Below
  found = below_with below unread

  abbrev leads : Option (List Bytes)
  leads = resolved_or_here w.place path

  abbrev lines_of : ℕ → Group → Path → List Bytes
  lines_of id g inside = world.usage_of (below id) g inside

  shown : (name : Bytes) (inside : Path) (id : ℕ) (g : Group) (lines : List Bytes) → leads ≡ Some (name ∷ inside) → HasMountedGroup w name id g → mounted_group w name ≡ Some g → lines ≡ world.usage_of (below id) g inside → world.usage_lines found w path ≡ Some lines
  shown name inside id g lines to has mounted is =
      let there : world.usage_in found (entry_in w name) (mounted_group w name) inside ≡ Some (world.usage_of (below has.entry.id) g inside) = λ i. world.usage_in found (has.named i) (mounted i) inside in
      ap (λ (o : Option (List Bytes)). world.usage_at found w o) to
      ∙ (there ∙ (ap (λ (k : ℕ). Some (world.usage_of (below k) g inside)) has.is ∙ ap (λ (l : List Bytes). Some l) (sym is)))

  search : IsSearch paths found w command leads lines_of
  search = record {
    somewhere = paths_lead.usage text path w.place asked;
    causes_are = refl;
    named = names_group w path;
    absent = refl;
    no_name = refl;
    no_directory = refl;
    dismounted = λ disk is. is;
    lines = λ c. refl;
    done = λ name inside id g lines to has mounted is. (refl, shown name inside id g lines to has mounted is);
    has_lines = λ lines. tt;
    no_work = refl;
    in_family = refl;
    free = λ c before after. tt;
  }

  at_place : (o : Option (Bytes × Path)) → parts_of (resolved_or_here session.place path) ≡ o → parts_of leads ≡ o
  at_place o is = ap (λ (p : List Bytes). parts_of (resolved_or_here p path)) knows.place_is ∙ is

  pub used_nowhere : parts_of (resolved_or_here session.place path) ≡ None → IsServed paths unread text (Refused [] (meaning_of (λ _. []) cause.NoGroup)) was was s s below w w
  used_nowhere none = told_nowhere paths text command says session s ready w below knows leads lines_of search (at_place None none)

  module _ (name : Bytes) (inside : Path) (target : parts_of (resolved_or_here session.place path) ≡ Some (name, inside)) where
    as_world : (m : MountedGroup) → KeepsRules m.catalog.shape m.catalog.tables → (there : IsThere w below name m) → usage_told m inside ≡ world.usage_of (below there.id) there.group inside
    as_world m rules there =
        let units : (below there.id).units ≡ file_units m.catalog = ap (λ (b : GroupBelow). b.units) there.lies ∙ units_below m in
        usage_is_worlds m.name m.catalog there.told.cells (below there.id) inside rules there.told.has units ∙ ap (λ (g : Group). world.usage_of (below there.id) g inside) (sym there.told.is)

    pub used_served : (result : Result (List Bytes) Refusal) → IfOk result (λ lines. IsInGroup session name (λ m. IsUsageIn m inside lines)) → IfErr result (IsPathCause session name inside) → IsServed paths unread text (reply_of result) was was s s below w w
    used_served result used out =
        search_served paths text command says session s ready w below knows leads lines_of search name inside (at_place (Some (name, inside)) target) (λ m. usage_told m inside) as_world result used out
