-- The creation of a group on the desk: what its calls say, as an answer.
use Rattle.std.proofs.Common.{◌≡◌, ℕ, List, [], ◌++◌, Option, refl, sym, subst}
use Rattle.bay.specs.State.{BayState}
use Rattle.bay.specs.declared.disk.Bay as Bay
use Rattle.bay.specs.declared.host.Host as Host
use Rattle.refusal_lines.specs.Refusals.{meaning_of}
use Rattle.refusal_lines.specs.declared.refusal.Refusal.TheVariants as cause
use Rattle.asm_group.specs.Names.{Bytes}
use Rattle.asm_group.specs.Refusal as r
use Rattle.asm_world.specs.Below.{GroupBelow}
use Rattle.asm_world.specs.Reply.{Reply}
use Rattle.asm_world.specs.Reply as world
use Rattle.asm_world.specs.World.{World}
use Rattle.session.specs.mounted_groups.FirstParts.{IsNewlyMounted}
use Rattle.session.specs.mounted_groups.Holding.{SparesHeld}
use Rattle.session.specs.group_engine.Frames.{StaysAttached}
use Rattle.session.specs.group_engine.Mounts.{MountedGroup}
use Rattle.session.specs.declared.answer.Answer.{Answer}
use Rattle.session.specs.declared.desk.Desk.{Desk}
use Rattle.session.specs.declared.reply.Reply.TheVariants.{Refused}
use Rattle.session.specs.Desks.{IsAnswered, paths_on}
use Rattle.session.specs.Sessions.{AreReady, Knows, new_group_if_any, held_by}
use Rattle.session.specs.Views.{found_view, reply_view}
use Rattle.group_commands.proofs.Named.{Answered}
use Rattle.session.proofs.Ready.{held_covers, joined_ready, spared_ready}

module _ (groups : List MountedGroup) (held : List ℕ) (n : ℕ) (s t : BayState) (is : held ≡ held_by groups) (ready : AreReady groups s) (attached : StaysAttached s t) (spares : SparesHeld held n s t) where
  -- the groups that were there take the next call
  others_ready : AreReady groups t
  others_ready = spared_ready groups held n (held_covers groups held is ready) ready (λ slot size by at. attached.stays slot size at) spares

  pub still_ready : (after : List MountedGroup) → after ≡ groups → AreReady after t
  still_ready after same = subst (λ (l : List MountedGroup). AreReady l t) (sym same) others_ready

  -- and so does the new one
  pub formed_ready : (after : List MountedGroup) (name : Bytes) (made : Option ℕ) (m : MountedGroup) → IsNewlyMounted held name made m t → after ≡ groups ++ new_group_if_any made m → AreReady after t
  formed_ready after name made m new same =
      rw (same, new.id_is) (joined_ready groups m held (held_covers groups held is ready) others_ready (λ on. (new.whole, new.ready)) new.own)

-- a command was answered so, for whatever world the session knew
pub answered-found : {B H : Type 0} {bay : Bay.Ghosts B} {host : Host.Ghosts H} (text : Bytes) (answer : Answer) (old new : Desk B H bay host) (ids : List ℕ) (made : Option ℕ) (seen : List Bytes) (reply : Reply)
    → paths_on new ≡ paths_on old → new.host ≡ old.host → AreReady new.session.groups (bay.state new.bay) → seen ≡ paths_on old → found_view answer.found ≡ record { ids = ids; made = made } → reply_view answer.reply ≡ reply
    → ((w : World) (below : ℕ → GroupBelow) → Knows old.session w below → Answered seen ids made text reply old.session new.session (bay.state old.bay) (bay.state new.bay) below w) → IsAnswered text answer old new
answered-found text answer old new ids made seen reply paths stays ready are found told each = record {
  paths = paths;
  host_stays = λ is. stays;
  ready = ready;
  served = λ w below knows. let d = each w below knows in (d.0, d.1, d.2, rw (found, told, sym are) d.3);
}

pub short_told : reply_view (Refused cause.NoMemory) ≡ world.Refused [] r.NoMemory
unfolding meaning_of
short_told = refl
