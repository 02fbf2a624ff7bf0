-- Commands on the desk.
use Rattle.std.proofs.Common.{◌≡◌, ◌≤◌, false, true, refl, sym, ◌∙◌, subst, arith}
use Rattle.std.specs.FinMap as maps
use Rattle.bay.specs.declared.disk.Bay as Bay
use Rattle.bay.specs.declared.host.Host as Host
use Rattle.asm_group.specs.Names.{Bytes}
use Rattle.asm_world.specs.Language.{command_of}
use Rattle.session.specs.declared.answer.Answer.{Answer}
use Rattle.session.specs.declared.desk.Desk.{Desk}
use Rattle.session.specs.Desks.{paths_on, is_copy_command, IsAnswered}
use Rattle.session.specs.Effects.{IsServed, Past}
use Rattle.session.specs.Families.{is_proved_on_disks}
use Rattle.session.specs.Meaning.{meaning}
use Rattle.session.specs.Naming.{CarriesOn}
use Rattle.session.specs.Sessions.{AreReady, SessionView, Knows, groups_below, roster_of}
use Rattle.session.specs.Views.{found_view, reply_view}
use Rattle.session.proofs.Knowing.{none_told}
use Rattle.session.proofs.Languages.{never_proved, unproved_meaning}

-- a command was answered from a desk that is the same to all that counts
pub from-same : {B H : Type 0} {bay : Bay.Ghosts B} {host : Host.Ghosts H} (text : Bytes) (answer : Answer) (old mid new : Desk B H bay host) → paths_on mid ≡ paths_on old → mid.host ≡ old.host → mid.session ≡ old.session
    → bay.state mid.bay ≡ bay.state old.bay → IsAnswered text answer mid new → IsAnswered text answer old new
from-same {bay = bay} text answer old mid new paths stays session disks a = record {
  paths = a.paths ∙ paths;
  host_stays = λ is. a.host_stays is ∙ stays;
  ready = a.ready;
  served = λ w below knows.
      let known : Knows mid.session w below = let P : SessionView → Type 0 = λ s. Knows s w below in subst P (sym session) knows in
      let d = a.served w below known in
      (d.0, d.1, d.2, rw (sym paths, sym disks) (subst (λ (s : SessionView). IsServed (paths_on mid) (found_view answer.found) text (reply_view answer.reply) (roster_of s) (roster_of new.session) (bay.state mid.bay) (bay.state new.bay) below w d.0) session d.3));
}

-- A command that is served, and of which nothing is proved but that its calls say nothing new of moments that have ended. Nothing is
-- known of any group behind it.
pub answered-only : {B H : Type 0} {bay : Bay.Ghosts B} {host : Host.Ghosts H} (text : Bytes) (answer : Answer) (old new : Desk B H bay host) → is_proved_on_disks (command_of text) ≡ false → paths_on new ≡ paths_on old
    → (is_copy_command (command_of text) ≡ false → new.host ≡ old.host) → AreReady new.session.groups (bay.state new.bay)
    → (bay.state old.bay).calls ≤ (bay.state new.bay).calls → Past (bay.state old.bay) (bay.state new.bay) → IsAnswered text answer old new
answered-only text answer old new none paths stays ready calls past = record {
  paths = paths;
  host_stays = stays;
  ready = ready;
  served = λ w below knows. (
    record w { groups = maps.empty; session = new.session.entries; place = new.session.place },
    groups_below new.session.entries new.session.groups,
    record { entries_are = refl; place_is = refl; below_is = refl; told = λ lengths. none_told (record w { groups = maps.empty; session = new.session.entries; place = new.session.place }) refl new.session.groups },
    record { calls = calls; past = past; effect = λ proved met. absurd (never_proved _ _ _ w (meaning text) (reply_view answer.reply) (unproved_meaning text none) proved) },
  );
}

-- the same where no call was made on the disks
pub answered-still : {B H : Type 0} {bay : Bay.Ghosts B} {host : Host.Ghosts H} (text : Bytes) (answer : Answer) (old new : Desk B H bay host) → is_proved_on_disks (command_of text) ≡ false → paths_on new ≡ paths_on old
    → new.host ≡ old.host → new.bay ≡ old.bay → AreReady new.session.groups (bay.state old.bay) → IsAnswered text answer old new
answered-still {bay = bay} text answer old new none paths stays same ready =
    answered-only text answer old new none paths (λ is. stays) (rw same ready) (rw same (omega arith)) (λ m image before left. rw (← same) left)

-- a command after which all groups of the session stay and take the next call
pub answered-carried : {B H : Type 0} {bay : Bay.Ghosts B} {host : Host.Ghosts H} (text : Bytes) (answer : Answer) (old new : Desk B H bay host) → is_proved_on_disks (command_of text) ≡ false → paths_on new ≡ paths_on old
    → (is_copy_command (command_of text) ≡ false → new.host ≡ old.host) → CarriesOn old.session new.session (bay.state old.bay) (bay.state new.bay) → IsAnswered text answer old new
answered-carried text answer old new none paths stays carries = answered-only text answer old new none paths stays carries.ready carries.calls carries.past
