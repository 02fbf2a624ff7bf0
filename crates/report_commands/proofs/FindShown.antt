-- find, as the world's.
use Rattle.std.proofs.Common.{◌≡◌, ℕ, List, ◌∷◌, [], Option, Some, None, Result, refl, sym, ◌∙◌, ap}
use Rattle.std.specs.Prelude.{IfErr, IfOk}
use Rattle.std.specs.Option.{option_map}
use Rattle.bay.specs.State.{BayState}
use Rattle.refusal_lines.specs.Refusals.{meaning_of}
use Rattle.refusal_lines.specs.declared.refusal.Refusal.{Refusal}
use Rattle.refusal_lines.specs.declared.refusal.Refusal.TheVariants as cause
use Rattle.asm_group.specs.Group.{Group}
use Rattle.asm_group.specs.Names.{Bytes, Path}
use Rattle.asm_world.specs.Below.{GroupBelow}
use Rattle.asm_world.specs.Command.{Command, Asked, Find}
use Rattle.asm_world.specs.Language.{command_of}
use Rattle.asm_world.specs.Listings as world
use Rattle.asm_world.specs.Paths.{resolved, target_from}
use Rattle.asm_world.specs.Reply.{Refused}
use Rattle.asm_world.specs.World.{World, mounted_group}
use Rattle.catalog_tables.specs.Rules.{KeepsRules}
use Rattle.session.specs.group_engine.Mounts.{MountedGroup}
use Rattle.report_laws.proofs.Finds.{found_are_worlds}
use Rattle.report_laws.proofs.VerbPaths.{paths_lead}
use Rattle.session.specs.Effects.{IsServed, below_with}
use Rattle.session.specs.Listing.{IsInGroup, IsPathCause}
use Rattle.session.specs.Meaning.{meaning}
use Rattle.session.specs.Sessions.{AreReady, Knows, Roster, SessionView, roster_of}
use Rattle.session.proofs.AnsweredLines.{reply_of}
use Rattle.session.proofs.Outcomes.{unread}
use Rattle.report_commands.specs.Told.{AreFoundLines, found_told}
use Rattle.report_commands.proofs.Searches.{IsSearch, search_served, told_nowhere}
use Rattle.report_commands.proofs.ShownGroups.{IsThere}

module _ (paths : List Bytes) (text path pattern : Bytes) (says : meaning text ≡ Asked (Find path pattern)) (asked : command_of text ≡ Asked (Find path pattern)) (session : SessionView) (s : BayState) (ready : AreReady session.groups s)
    (w : World) (below : ℕ → GroupBelow) (knows : Knows session w below) where
  abbrev was : Roster
  was = roster_of session

  abbrev command : Command
  command = Asked (Find path pattern)

  abbrev leads : Option (List Bytes)
  leads = resolved w.place path

  abbrev lines_of : ℕ → Group → Path → List Bytes
  lines_of id g inside = world.found_in g inside pattern

  shown : (name : Bytes) (inside : Path) (g : Group) (lines : List Bytes) → leads ≡ Some (name ∷ inside) → mounted_group w name ≡ Some g → lines ≡ world.found_in g inside pattern → world.find_lines w path pattern ≡ Some lines
  shown name inside g lines to found is =
      ap (λ (o : Option (List Bytes)). world.found_at w o pattern) to
      ∙ (ap (option_map (λ (h : Group). world.found_in h inside pattern)) found ∙ ap (λ (l : List Bytes). Some l) (sym is))

  search : IsSearch paths (below_with below unread) w command leads lines_of
  search = record {
    somewhere = paths_lead.find text path pattern w.place asked;
    causes_are = refl;
    named = refl;
    absent = refl;
    no_name = refl;
    no_directory = refl;
    dismounted = λ disk is. is;
    lines = λ c. refl;
    done = λ name inside id g lines to has found is. (refl, shown name inside g lines to found is);
    has_lines = λ lines. tt;
    no_work = refl;
    in_family = refl;
    free = λ c before after. tt;
  }

  at_place : (o : Option (Bytes × Path)) → target_from session.place path ≡ o → target_from w.place path ≡ o
  at_place o is = ap (λ (p : List Bytes). target_from p path) knows.place_is ∙ is

  pub found_nowhere : target_from session.place path ≡ None → IsServed paths unread text (Refused [] (meaning_of (λ _. []) cause.NoGroup)) was was s s below w w
  found_nowhere none = told_nowhere paths text command says session s ready w below knows leads lines_of search (at_place None none)

  module _ (name : Bytes) (inside : Path) (target : target_from session.place path ≡ Some (name, inside)) where
    as_world : (m : MountedGroup) → KeepsRules m.catalog.shape m.catalog.tables → (there : IsThere w below name m) → found_told m inside pattern ≡ world.found_in there.group inside pattern
    as_world m rules there = found_are_worlds m.name m.catalog.shape m.catalog.tables there.told.cells inside pattern rules ∙ ap (λ (g : Group). world.found_in g inside pattern) (sym there.told.is)

    pub found_served : (result : Result (List Bytes) Refusal) → IfOk result (λ lines. IsInGroup session name (λ m. AreFoundLines m inside pattern lines)) → IfErr result (IsPathCause session name inside) → IsServed paths unread text (reply_of result) was was s s below w w
    found_served result found out =
        search_served paths text command says session s ready w below knows leads lines_of search name inside (at_place (Some (name, inside)) target) (λ m. found_told m inside pattern) as_world result found out
