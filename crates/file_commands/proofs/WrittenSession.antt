-- A write of bytes on the session and on the desk.
use Rattle.std.proofs.Common.{◌≡◌, ℕ, List, [], length, Some, Result, Ok, Err, refl, sym, ◌∙◌, ap, subst}
use Rattle.std.specs.Prelude.{IfErr, OnOk, replicate}
use Rattle.std.proofs.lemmas.Option.{same_Some}
use Rattle.bay.specs.State.{BayState, IsSound}
use Rattle.bay.specs.declared.disk.Bay as Bay
use Rattle.bay.specs.declared.host.Host as Host
use Rattle.refusal_lines.specs.Refusals.{meaning_of}
use Rattle.refusal_lines.specs.declared.refusal.Refusal.{Refusal}
use Rattle.asm_group.specs.Names.{Bytes, Path}
use Rattle.asm_world.specs.Below.{GroupBelow}
use Rattle.asm_world.specs.Command.{Asked, Command, DbFill, DbWrite}
use Rattle.asm_world.specs.Language.{command_of}
use Rattle.asm_world.specs.Paths.{target_from}
use Rattle.asm_world.specs.Reply.{Refused}
use Rattle.asm_world.specs.World.{SessionEntry, World, Mounted}
use Rattle.catalog_tables.specs.Rules.{KeepsRules}
use Rattle.session.specs.group_contents.Works.{WorkDoes}
use Rattle.session.specs.group_contents.Writing.{WritesFile}
use Rattle.session.specs.group_contents.declared.work.FileWork.{FileWork}
use Rattle.session.specs.group_contents.declared.work.FileWork.TheVariants as work
use Rattle.session.specs.group_engine.Making.{dismounted_by}
use Rattle.session.specs.group_engine.Mounts.{MountedGroup}
use Rattle.session.specs.group_engine.Own.{KeepsGroup}
use Rattle.session.specs.group_engine.declared.access.Access.{Access}
use Rattle.session.specs.declared.answer.Answer.{Answer}
use Rattle.session.specs.declared.desk.Desk.{Desk}
use Rattle.session.specs.declared.reply.Reply as code
use Rattle.session.specs.declared.reply.Reply.TheVariants as replies
use Rattle.session.specs.Desks.{IsAnswered, paths_on}
use Rattle.session.specs.Effects.{IsServed}
use Rattle.session.specs.Entries.{by_disk}
use Rattle.session.specs.Meaning.{meaning}
use Rattle.session.specs.Naming.{CarriesOn, IsGroupOf, IsOutCause}
use Rattle.session.specs.Sessions.{AreReady, Knows, SessionView, groups_below, roster_of}
use Rattle.session.specs.Views.{found_view, nothing_found, reply_view}
use Rattle.session.specs.Works.{DoesWork}
use Rattle.session.proofs.Languages.{meaning_is}
use Rattle.session.proofs.Outcomes.{unread}
use Rattle.session.proofs.Ready.{taken}
use Rattle.file_commands.specs.Writing.{AsksWrite}
use Rattle.file_commands.proofs.ReplacedGroups.{IsWorkedOn}
use Rattle.file_commands.proofs.WriteRefusals as refusals
use Rattle.file_commands.proofs.Writes.{IsWrite, dbfill_is, dbwrite_is}
use Rattle.file_commands.proofs.WrittenGroups.{CallOn, WriteTo, ends, reply_of}

-- the command that a text asks for
written_by : (text : Bytes) (command : Command) (path : Bytes) (at : ℕ) (bytes : Bytes) → command_of text ≡ command → IsWrite command path at bytes → IsWrite (meaning text) path at bytes
written_by text command path at bytes asked write = subst (λ (c : Command). IsWrite c path at bytes) (sym (meaning_is text command asked)) write

pub dbwrite_of : (text path : Bytes) (at : ℕ) (bytes : Bytes) → command_of text ≡ Asked (DbWrite path at bytes) → IsWrite (meaning text) path at bytes
dbwrite_of text path at bytes asked = written_by text (Asked (DbWrite path at bytes)) path at bytes asked (dbwrite_is path at bytes)

pub dbfill_of : (text path : Bytes) (at size byte : ℕ) → command_of text ≡ Asked (DbFill path at size byte) → IsWrite (meaning text) path at (replicate size byte)
dbfill_of text path at size byte asked = written_by text (Asked (DbFill path at size byte)) path at (replicate size byte) asked (dbfill_is path at size byte)

-- ---- on the session

-- The work was answered on a mounted group of the session whose tables keep the rules.
pub record Answered (name : Bytes) (old new : SessionView) (s t : BayState) : Type 0 where
  pub ready : AreReady old.groups s
  pub carries : CarriesOn old new s t
  pub m : MountedGroup
  pub is : IsGroupOf old name m
  pub rules : KeepsRules m.catalog.shape m.catalog.tables

module _ (paths : List Bytes) (text name : Bytes) (old new : SessionView) (s t : BayState) (sound : IsSound s) (later : IsSound t) (call : Answered name old new s t)
    (result : Result (Unit {0}) Refusal) (w : World) (below : ℕ → GroupBelow) (knows : Knows old w below) where
  -- a world that the session knows now, in which the command is served
  abbrev pub IsKnown : Type 0
  IsKnown = (w' : World) × (below' : ℕ → GroupBelow) × Knows new w' below' × IsServed paths unread text (reply_of result) (roster_of old) (roster_of new) s t below w w'

  by_bytes : (verb : Bytes) (inside : Path) (at : ℕ) (bytes : Bytes) → IsWrite (meaning text) verb at bytes → target_from old.place verb ≡ Some (name, inside)
      → DoesWork name (λ before answer after u v. KeepsGroup before after u v × WritesFile before inside at bytes answer after u v) result old new s t → IsKnown
  by_bytes verb inside at bytes write leads done =
      let same : call.m ≡ done.before = same_Some call.m done.before (sym call.is.named ∙ done.is.named) in
      let on : done.entry.state ≡ Mounted = done.state ∙ ap (λ (a : Access). by_disk done.before (dismounted_by a)) done.is.mounted in
      let worked : IsWorkedOn w.session new.entries old.groups new.groups name done.before done.after done.entry =
      subst (λ (es : List SessionEntry). IsWorkedOn es new.entries old.groups new.groups name done.before done.after done.entry) (sym knows.entries_are) (record {
        named = done.named;
        found = done.is.named;
        apart = done.apart;
        lengths = done.is.paired;
        groups_are = done.groups;
        entries_are = done.entries;
        on = on;
      }) in
      let it : CallOn w new.entries (roster_of old) (roster_of new) s t name done.before done.after done.entry = record {
        given = call.carries.given;
        calls = call.carries.calls;
        past = call.carries.past;
        told = knows.told (done.is.paired ∙ ap (λ (l : List SessionEntry). length l) (sym knows.entries_are));
        worked = worked;
        mounted = done.is.mounted;
        keeps = done.does.0;
        shape = (taken old name done.before call.ready done.is done.is.mounted).0.shape;
        rules = subst (λ (m : MountedGroup). KeepsRules m.catalog.shape m.catalog.tables) same call.rules;
      } in
      let to : WriteTo text w name inside at bytes = record { path = verb; write = write; leads = ap (λ (p : List Bytes). target_from p verb) knows.place_is ∙ leads } in
      let x = ends paths text name inside at bytes w below to new.entries (roster_of old) (roster_of new) s t sound later done.before done.after done.entry it done.answer result done.spelt done.does.1 in
      (x.0, groups_below new.entries new.groups, record { entries_are = x.1; place_is = x.2 ∙ knows.place_is ∙ sym call.carries.place; below_is = refl; told = λ lengths. x.3 }, x.4)

  pub written_session : (file_work : FileWork) → AsksWrite text old.place name file_work
      → DoesWork name (λ before answer after u v. KeepsGroup before after u v × WorkDoes before file_work answer after u v) result old new s t → IsKnown
  written_session (work.Write path at bytes) asks done =
      by_bytes asks.1.0 path.parts at bytes (dbwrite_of text asks.1.0 at bytes asks.1.1) (asks.1.2 ∙ ap (λ (n : Bytes). Some (n, path.parts)) (sym asks.0)) done
  written_session (work.Fill path at len byte) asks done =
      by_bytes asks.1.0 path.parts at (replicate len byte) (dbfill_of text asks.1.0 at len byte asks.1.1) (asks.1.2 ∙ ap (λ (n : Bytes). Some (n, path.parts)) (sym asks.0)) done
  written_session other asks done = absurd asks

-- ---- refused before any call

module _ (paths : List Bytes) (text name : Bytes) (session : SessionView) (s : BayState) (w : World) (below : ℕ → GroupBelow) (knows : Knows session w below) (refusal : Refusal) (why : IsOutCause session.entries name refusal) where
  pub out_of : (file_work : FileWork) → AsksWrite text session.place name file_work → IsServed paths unread text (Refused [] (meaning_of (λ _. []) refusal)) (roster_of session) (roster_of session) s s below w w
  out_of (work.Write path at bytes) asks =
      refusals.out_refused paths text asks.1.0 at bytes (dbwrite_of text asks.1.0 at bytes asks.1.1) session s w below knows name path.parts (asks.1.2 ∙ ap (λ (n : Bytes). Some (n, path.parts)) (sym asks.0)) refusal why
  out_of (work.Fill path at len byte) asks =
      refusals.out_refused paths text asks.1.0 at (replicate len byte) (dbfill_of text asks.1.0 at len byte asks.1.1) session s w below knows name path.parts (asks.1.2 ∙ ap (λ (n : Bytes). Some (n, path.parts)) (sym asks.0)) refusal why
  out_of other asks = absurd asks

-- a command that was refused, and nothing was done
pub answered_refused : {B H : Type 0} {bay : Bay.Ghosts B} {host : Host.Ghosts H} (text : Bytes) (answer : Answer) (desk new : Desk B H bay host) (refusal : Refusal) → paths_on new ≡ paths_on desk → new.host ≡ desk.host → new.session ≡ desk.session
    → new.bay ≡ desk.bay → answer.reply ≡ replies.Refused refusal → found_view answer.found ≡ nothing_found → AreReady desk.session.groups (bay.state desk.bay)
    → ((w : World) (below : ℕ → GroupBelow) → Knows desk.session w below → IsServed (paths_on desk) unread text (Refused [] (meaning_of (λ _. []) refusal)) (roster_of desk.session) (roster_of desk.session) (bay.state desk.bay) (bay.state desk.bay) below w w)
    → IsAnswered text answer desk new
answered_refused text answer desk new refusal paths host session disks reply found ready served = record {
  paths = paths;
  host_stays = λ is. host;
  ready = rw (session, disks) ready;
  served = λ w below knows. (w, below, rw session knows, rw (reply, found, session, disks) (served w below knows));
}

pub reply_is : (done : Result (Unit {0}) Refusal) (reply : code.Reply) → OnOk done (reply ≡ replies.Done []) → IfErr done (λ refusal. reply ≡ replies.Refused refusal) → reply_view reply ≡ reply_of done
reply_is (Ok given) reply ok err = ap reply_view ok
reply_is (Err refusal) reply ok err = ap reply_view err
