-- A command that is answered by lines or by a refusal, and leaves the desk as it is.
use Rattle.std.proofs.Common.{◌≡◌, ℕ, List, [], Result, Ok, Err, refl, sym, ap, subst}
use Rattle.std.specs.Prelude.{IfErr, IfOk}
use Rattle.bay.specs.declared.disk.Bay as Bay
use Rattle.bay.specs.declared.host.Host as Host
use Rattle.refusal_lines.specs.Refusals.{meaning_of}
use Rattle.refusal_lines.specs.declared.refusal.Refusal.{Refusal}
use Rattle.asm_group.specs.Names.{Bytes}
use Rattle.asm_world.specs.Below.{Found, GroupBelow}
use Rattle.asm_world.specs.Reply.{Reply, Done, Refused}
use Rattle.asm_world.specs.World.{World}
use Rattle.session.specs.declared.answer.Answer.{Answer}
use Rattle.session.specs.declared.desk.Desk.{Desk}
use Rattle.session.specs.declared.reply.Reply as code
use Rattle.session.specs.declared.reply.Reply.TheVariants as replies
use Rattle.session.specs.Desks.{IsAnswered, paths_on}
use Rattle.session.specs.Effects.{IsServed}
use Rattle.session.specs.Sessions.{AreReady, Knows, roster_of}
use Rattle.session.specs.Views.{found_view, nothing_found, reply_view}
use Rattle.session.proofs.Outcomes.{unread}

abbrev pub reply_of : Result (List Bytes) Refusal → Reply
reply_of (Ok lines) = Done lines
reply_of (Err refusal) = Refused [] (meaning_of (λ _. []) refusal)

reply_is : (told : Result (List Bytes) Refusal) (reply : code.Reply) → IfOk told (λ lines. reply ≡ replies.Done lines) → IfErr told (λ refusal. reply ≡ replies.Refused refusal) → reply_view reply ≡ reply_of told
reply_is (Ok lines) reply ok err = ap reply_view ok
reply_is (Err refusal) reply ok err = ap reply_view err

pub answered-lines : {B H : Type 0} {bay : Bay.Ghosts B} {host : Host.Ghosts H} (text : Bytes) (answer : Answer) (desk : Desk B H bay host) (told : Result (List Bytes) Refusal) → AreReady desk.session.groups (bay.state desk.bay)
    → IfOk told (λ lines. answer.reply ≡ replies.Done lines) → IfErr told (λ refusal. answer.reply ≡ replies.Refused refusal) → found_view answer.found ≡ nothing_found
    → ((w : World) (below : ℕ → GroupBelow) → Knows desk.session w below
    → IsServed (paths_on desk) unread text (reply_of told) (roster_of desk.session) (roster_of desk.session) (bay.state desk.bay) (bay.state desk.bay) below w w)
    → IsAnswered text answer desk desk
answered-lines {bay = bay} text answer desk told ready ok err found serves = record {
  paths = refl;
  host_stays = λ is. refl;
  ready = ready;
  served = λ w below knows.
      let at : Found → Reply → Type 0 = λ f r. IsServed (paths_on desk) f text r (roster_of desk.session) (roster_of desk.session) (bay.state desk.bay) (bay.state desk.bay) below w w in
      (w, below, knows, subst (λ (r : Reply). at (found_view answer.found) r) (sym (reply_is told answer.reply ok err)) (subst (λ (f : Found). at f (reply_of told)) (sym found) (serves w below knows)));
}
