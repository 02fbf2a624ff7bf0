-- A command that is answered by lines or by a refusal.
use Rattle.std.proofs.Common.{◌≡◌, ℕ, List, Result, Ok, Err, sym, ap, subst}
use Rattle.std.specs.Prelude.{IfErr, IfOk}
use Rattle.bay.specs.State.{BayState}
use Rattle.refusal_lines.specs.declared.refusal.Refusal.{Refusal}
use Rattle.asm_group.specs.Names.{Bytes}
use Rattle.asm_world.specs.Below.{Found, GroupBelow}
use Rattle.asm_world.specs.Reply.{Reply}
use Rattle.asm_world.specs.World.{World}
use Rattle.session.specs.declared.answer.Answer.{Answer}
use Rattle.session.specs.declared.reply.Reply as code
use Rattle.session.specs.declared.reply.Reply.TheVariants as replies
use Rattle.session.specs.Effects.{IsServed}
use Rattle.session.specs.Sessions.{Roster}
use Rattle.session.specs.Views.{found_view, nothing_found, reply_view}
use Rattle.session.proofs.AnsweredLines.{reply_of}
use Rattle.session.proofs.Outcomes.{unread}

reply_is : (told : Result (List Bytes) Refusal) (reply : code.Reply) → IfOk told (λ lines. reply ≡ replies.Done lines) → IfErr told (λ refusal. reply ≡ replies.Refused refusal) → reply_view reply ≡ reply_of told
reply_is (Ok lines) reply ok err = ap reply_view ok
reply_is (Err refusal) reply ok err = ap reply_view err

-- what is told is what is answered
pub served_as : (paths : List Bytes) (text : Bytes) (answer : Answer) (told : Result (List Bytes) Refusal) (was : Roster) (s t : BayState) (below : ℕ → GroupBelow) (w : World) → IfOk told (λ lines. answer.reply ≡ replies.Done lines)
    → IfErr told (λ refusal. answer.reply ≡ replies.Refused refusal) → found_view answer.found ≡ nothing_found → IsServed paths unread text (reply_of told) was was s t below w w
    → IsServed paths (found_view answer.found) text (reply_view answer.reply) was was s t below w w
served_as paths text answer told was s t below w ok err found serves =
    subst (λ (r : Reply). IsServed paths (found_view answer.found) text r was was s t below w w) (sym (reply_is told answer.reply ok err))
    (subst (λ (f : Found). IsServed paths f text (reply_of told) was was s t below w w) (sym found) serves)
