-- MOUNT is answered on the desk.
use Rattle.std.proofs.Common.{◌≡◌, ⊎_elim, ℕ, Bool, true, false, List, [], length, Result, Ok, Err, refl, sym, ◌∙◌, ap, subst}
use Rattle.std.specs.Prelude.{nat_le}
use Rattle.std.specs.FinMap as maps
use Rattle.std.specs.String.{string_bytes}
use Rattle.std.proofs.lemmas.Bool.{false≢true}
use Rattle.std.proofs.lemmas.List.{length-map}
use Rattle.bay.specs.State.{BayState, IsSound}
use Rattle.bay.specs.declared.disk.Bay as Bay
use Rattle.bay.specs.declared.host.Host as Host
use Rattle.refusal_lines.specs.Refusals.{meaning_of}
use Rattle.refusal_lines.specs.declared.refusal.Refusal.{Refusal}
use Rattle.refusal_lines.specs.declared.refusal.Refusal.TheVariants as cause
use Rattle.asm_group.specs.Names.{Bytes}
use Rattle.asm_group.specs.Refusal as r
use Rattle.asm_world.specs.Below.{Found, GroupBelow}
use Rattle.asm_world.specs.Causes.{is_mounted_as, mounted_count}
use Rattle.asm_world.specs.Command.{Command, Said}
use Rattle.asm_world.specs.Language.{command_of}
use Rattle.asm_world.specs.Reply.{Reply, Refused}
use Rattle.asm_world.specs.Statement.{Alter, Mount}
use Rattle.asm_world.specs.World.{SessionEntry, World, entry_among, entry_in}
use Rattle.session.specs.mounted_groups.Leaving.{LeavesRefused, WasMounted}
use Rattle.session.specs.mounted_groups.Mounting.{IsMountCause}
use Rattle.group_recovery.specs.declared.quorum.MountOption.{MountOption}
use Rattle.session.specs.declared.answer.Answer.{Answer}
use Rattle.session.specs.declared.desk.Desk.{Desk}
use Rattle.session.specs.declared.reply.Reply.TheVariants as replies
use Rattle.session.specs.Desks.{IsAnswered, paths_on}
use Rattle.session.specs.Entries.{AreAlike}
use Rattle.session.specs.Naming.{AreNamesApart}
use Rattle.session.specs.Effects.{IsProvedOn, IsServed, anywhere, on_disks}
use Rattle.session.specs.Meaning.{meaning}
use Rattle.session.specs.Proved.{is_proved_as, is_proved_on_disks_as}
use Rattle.session.specs.Sessions.{Knows, SessionView, groups_below, held_by, roster_of}
use Rattle.session.specs.Views.{found_view, nothing_found, reply_view}
use Rattle.session.proofs.Knowing.{none_told}
use Rattle.session.proofs.Languages.{meaning_is}
use Rattle.group_commands.specs.Mounting.{Enters, IsMountRefusal, MountsInto, option_of}
use Rattle.group_commands.proofs.MountAnswers.{done_served, refused_served}
use Rattle.group_commands.proofs.MountWorld.{knows_after, mounted_world}

says_short : Refused [] (meaning_of (λ _. []) cause.NoMemory) ≡ Refused [] r.NoMemory
unfolding meaning_of
says_short = refl

module _ {B H : Type 0} {bay : Bay.Ghosts B} {host : Host.Ghosts H} (text name : Bytes) (force : Bool) (asked : command_of text ≡ Said (Alter name (Mount force)))
    (option : MountOption) (option_is : option ≡ option_of force) (old new : Desk B H bay host) (answer : Answer) (found : found_view answer.found ≡ nothing_found) where
  abbrev s : BayState
  s = bay.state old.bay

  abbrev t : BayState
  t = bay.state new.bay

  says : meaning text ≡ Said (Alter name (Mount force))
  says = meaning_is text (Said (Alter name (Mount force))) asked

  -- ---- want of memory, of which nothing is proved

  module _ (short : reply_view answer.reply ≡ Refused [] r.NoMemory) where
    unproved : (w : World) → IsProvedOn (paths_on old) (roster_of old.session) s w (meaning text) (reply_view answer.reply) → ⊥
    unproved w (anywhere is) =
        false≢true (subst (λ (c : Command). is_proved_as c (Refused [] r.NoMemory) ≡ true) says (subst (λ (reply : Reply). is_proved_as (meaning text) reply ≡ true) short is))
    unproved w (on_disks known is stands one) =
        false≢true (subst (λ (c : Command). is_proved_on_disks_as c (Refused [] r.NoMemory) ≡ true) says (subst (λ (reply : Reply). is_proved_on_disks_as (meaning text) reply ≡ true) short is))

    pub short_answers : (result : Result (Unit {0}) Refusal) → MountsInto name option result old new → IsAnswered text answer old new
    short_answers result into = record {
      paths = into.paths;
      host_stays = λ is. into.host_stays;
      ready = into.ready;
      served = λ w below knows.
          let w' : World = record w { groups = maps.empty; session = new.session.entries; place = new.session.place } in (
            w',
            groups_below new.session.entries new.session.groups,
            record { entries_are = refl; place_is = refl; below_is = refl; told = λ lengths. none_told w' refl new.session.groups },
            record { calls = into.calls; past = into.past; effect = λ proved met. absurd (unproved w proved) },
          );
    }

  -- ---- the others

  module _ (apart : AreNamesApart old.session.entries) (alike : AreAlike old.session.entries old.session.groups) (paired : length old.session.groups ≡ length old.session.entries) (off : is_mounted_as (entry_among old.session.entries name) ≡ false)
      (room : (w : World) → w.session ≡ old.session.entries → nat_le 8 (mounted_count w) ≡ false) (sounds : (b : B) → IsSound (bay.state b)) where
    many : length (paths_on old) ≡ length old.paths.items
    many = length-map old.paths.items string_bytes

    isnt : (w : World) (below : ℕ → GroupBelow) → Knows old.session w below → is_mounted_as (entry_in w name) ≡ false
    isnt w below knows = ap (λ (es : List SessionEntry). is_mounted_as (entry_among es name)) knows.entries_are ∙ off

    refused_answers : (refusal : Refusal) → answer.reply ≡ replies.Refused refusal → MountsInto name option (Err refusal) old new → new.session ≡ old.session
        → IsMountRefusal name option old new refusal → IsAnswered text answer old new
    refused_answers refusal reply into session why = record {
      paths = into.paths;
      host_stays = λ is. into.host_stays;
      ready = into.ready;
      served = λ w below knows. (
        w,
        below,
        subst (λ (v : SessionView). Knows v w below) (sym session) knows,
        subst (λ (v : SessionView). IsServed (paths_on old) (found_view answer.found) text (reply_view answer.reply) (roster_of old.session) (roster_of v) s t below w w) (sym session)
            (subst (λ (f : Found). IsServed (paths_on old) f text (reply_view answer.reply) (roster_of old.session) (roster_of old.session) s t below w w) (sym found)
            (subst (λ (a : Reply). IsServed (paths_on old) nothing_found text a (roster_of old.session) (roster_of old.session) s t below w w)
            (sym (ap reply_view reply ∙ ap (λ (c : r.Refusal). Refused [] c) why.says))
            (refused_served (paths_on old) text name force says old.session w below knows bay.state (held_by old.session.groups) option s t sounds (sounds old.bay)
            into.attached into.calls into.past apart (isnt w below knows) (room w knows.entries_are) why.error_is option_is refl alike (sounds new.bay)
            (subst (λ (k : ℕ). IsMountCause bay.state name k (held_by old.session.groups) option s t why.error_is) (sym many) why.cause_is)
            (subst (λ (k : ℕ). LeavesRefused bay.state name k (held_by old.session.groups) option s t why.error_is) (sym many) why.leaves)))),
      );
    }

    pub any_refused_answers : (refusal : Refusal) → answer.reply ≡ replies.Refused refusal → MountsInto name option (Err refusal) old new → IsAnswered text answer old new
    any_refused_answers refusal reply into = ⊎_elim
        (λ why. refused_answers refusal reply into why.0 why.1)
        (λ (memory : refusal ≡ cause.NoMemory). short_answers (ap reply_view reply ∙ ap (λ (c : Refusal). Refused [] (meaning_of (λ _. []) c)) memory ∙ says_short) (Err refusal) into)
        into.refused

    pub done_answers : answer.reply ≡ replies.Done [] → MountsInto name option (Ok tt) old new → IsAnswered text answer old new
    done_answers reply into =
        let entered : Enters name option old new = into.entered in
        let m = entered.group in
        record {
          paths = into.paths;
          host_stays = λ is. into.host_stays;
          ready = into.ready;
          served = λ w below knows. (
            mounted_world w m,
            groups_below new.session.entries new.session.groups,
            knows_after old.session new.session w below knows m paired into.place entered.entries entered.groups,
            subst (λ (f : Found). IsServed (paths_on old) f text (reply_view answer.reply) (roster_of old.session) (roster_of new.session) s t below w (mounted_world w m)) (sym found)
                (subst (λ (a : Reply). IsServed (paths_on old) nothing_found text a (roster_of old.session) (roster_of new.session) s t below w (mounted_world w m)) (sym (ap reply_view reply))
                (done_served (paths_on old) text name force says old.session w below knows bay.state (held_by old.session.groups) option s t sounds (sounds old.bay)
                into.attached into.calls into.past apart (isnt w below knows) (room w knows.entries_are) new.session m entered.is
                (subst (λ (k : ℕ). WasMounted bay.state name k (held_by old.session.groups) option m s t) (sym many) entered.mounts) paired into.place entered.given entered.entries entered.groups)),
          );
        }
