-- Want of memory ends the session, and no other refusal does.
use Rattle.std.proofs.Common.{◌≡◌, ◌≢◌, Bool, true, false, MatchBool, List, [], refl, ◌∙◌, ap}
use Rattle.asm_group.specs.Names.{Bytes}
use Rattle.asm_group.specs.Refusal as r
use Rattle.refusal_lines.specs.Refusals.{meaning_of}
use Rattle.refusal_lines.specs.declared.refusal.Refusal.{Refusal}
use Rattle.refusal_lines.specs.declared.refusal.Refusal.TheVariants as cause
use Rattle.asm_world.specs.Reply.{Refused}
use Rattle.asm_world.specs.Run.{Slicing, slices_of, mounted_groups, phase_after}
use Rattle.asm_world.specs.World.{World}
use Rattle.disk_commands.specs.session.declared.reply.Reply.{Reply}
use Rattle.serving.specs.Stops.{IsWantOfMemory}
use Rattle.disk_commands.specs.session.Views.{reply_view}

pub said_other : (refusal : Refusal) → refusal ≢ cause.NoMemory → meaning_of (λ _. []) refusal ≢ r.NoMemory
unfolding meaning_of
said_other cause.NoMemory other is = absurd (other refl)
said_other another other is = absurd cc

-- a refusal for another cause doesn't end the session
pub goes_on : (lines : List Bytes) (cause : r.Refusal) → cause ≢ r.NoMemory → (w : World) → phase_after (Refused lines cause) w ≡ Slicing (slices_of (mounted_groups w.session))
goes_on lines r.NoMemory other w = absurd (other refl)
goes_on lines another other w = refl

pub by_refusal : (given : Reply) (lines : List Bytes) (refusal : Refusal) (short : Bool) → reply_view given ≡ Refused lines (meaning_of (λ _. []) refusal) → MatchBool short (meaning_of (λ _. []) refusal ≡ r.NoMemory) (meaning_of (λ _. []) refusal ≢ r.NoMemory)
    → MatchBool short (IsWantOfMemory (reply_view given)) ((w : World) → phase_after (reply_view given) w ≡ Slicing (slices_of (mounted_groups w.session)))
by_refusal given lines refusal true is same = (lines, is ∙ ap (λ cause. Refused lines cause) same)
by_refusal given lines refusal false is other = rw is (goes_on lines (meaning_of (λ _. []) refusal) other)
