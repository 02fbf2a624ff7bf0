-- Writes of bytes that are refused before any call.
use Rattle.std.proofs.Common.{◌≡◌, ⊎_elim, ℕ, List, [], Option, Some, None, refl, sym, ◌∙◌, ap, subst}
use Rattle.bay.specs.State.{BayState}
use Rattle.refusal_lines.specs.Refusals.{meaning_of}
use Rattle.refusal_lines.specs.declared.refusal.Refusal.{Refusal}
use Rattle.asm_group.specs.Names.{Bytes, Path}
use Rattle.asm_group.specs.Refusal as r
use Rattle.asm_world.specs.Below.{GroupBelow}
use Rattle.asm_world.specs.Paths.{target_from}
use Rattle.asm_world.specs.Reply.{Refused}
use Rattle.asm_world.specs.World.{SessionEntry, SessionState, World, Mounted, DismountedBy, entry_among, entry_in}
use Rattle.session.specs.mounted_groups.Found.{Counts, counts_of}
use Rattle.session.specs.Counts.{ReplyCause}
use Rattle.session.specs.Effects.{IsServed, below_with}
use Rattle.session.specs.Files.{IsWriteRefused}
use Rattle.session.specs.Leading.{IsNoTarget}
use Rattle.session.specs.Meaning.{meaning}
use Rattle.session.specs.Naming.{IsOutCause, in_state, of_entry}
use Rattle.session.specs.Sessions.{Knows, SessionView, roster_of}
use Rattle.session.proofs.Outcomes as outcomes
use Rattle.session.proofs.Outcomes.{unread}
use Rattle.world_steps.specs.Steps.{MayAnswer}
use Rattle.file_commands.proofs.Writes as writes
use Rattle.file_commands.proofs.Writes.{IsWrite}

module _ (paths : List Bytes) (text path : Bytes) (at : ℕ) (bytes : Bytes) (write : IsWrite (meaning text) path at bytes) where
  -- the cause of a refusal, by what is counted
  pub counts : (c : r.Refusal) (s t : Counts) → IsWriteRefused c s t → ReplyCause paths text (Refused [] c) s t
  counts r.NoMemory s t why = tt
  counts other s t why = write.counted paths other s t why

  module _ (session : SessionView) (s : BayState) (w : World) (below : ℕ → GroupBelow) (knows : Knows session w below) where
    abbrev pub IsRefusedSo : r.Refusal → Type 0
    IsRefusedSo c = IsServed paths unread text (Refused [] c) (roster_of session) (roster_of session) s s below w w

    still : (c : r.Refusal) → IsWriteRefused c (counts_of s) (counts_of s) → MayAnswer (below_with below unread) w (meaning text) (Refused [] c) w → IsRefusedSo c
    still c why may = outcomes.still paths text c (roster_of session) s w may.step may.cause may.lines (counts c (counts_of s) (counts_of s) why)

    short : (c : r.Refusal) → c ≡ r.NoMemory → IsRefusedSo c
    short c is = subst (λ (x : r.Refusal). IsRefusedSo x) (sym is) (outcomes.no_memory paths text (roster_of session) s w)

    at_place : (o : Option (Bytes × Path)) → target_from session.place path ≡ o → target_from w.place path ≡ o
    at_place o is = ap (λ (p : List Bytes). target_from p path) knows.place_is ∙ is

    -- the path leads into no group
    pub no_target : (refusal : Refusal) → IsNoTarget session.place path refusal → IsRefusedSo (meaning_of (λ _. []) refusal)
    unfolding meaning_of
    no_target refusal why = ⊎_elim
        (λ none. short (meaning_of (λ _. []) refusal) (ap (meaning_of (λ _. [])) none))
        (λ none. subst (λ (x : Refusal). IsRefusedSo (meaning_of (λ _. []) x)) (sym none.0)
        (still r.NoGroup tt (writes.nowhere (meaning text) path at bytes write (below_with below unread) w (at_place None none.1))))
        why

    -- the group isn't in the session, or is dismounted
    module _ (name : Bytes) (inside : Path) (leads : target_from session.place path ≡ Some (name, inside)) where
      by_entry : (o : Option SessionEntry) → entry_in w name ≡ o → (c : r.Refusal) → of_entry o c → IsRefusedSo c
      by_entry None named c why = subst (λ (x : r.Refusal). IsRefusedSo x) (sym why)
          (still r.NoGroup tt (writes.absent (meaning text) path at bytes write (below_with below unread) w name inside (at_place (Some (name, inside)) leads) named))
      by_entry (Some entry) named c why = by_state entry.state refl why
        where
          by_state : (x : SessionState) → entry.state ≡ x → in_state x c → IsRefusedSo c
          by_state Mounted is out = absurd out
          by_state (DismountedBy disk) is out = subst (λ (x : r.Refusal). IsRefusedSo x) (sym out)
              (still (r.Dismounted disk) tt (writes.out (meaning text) path at bytes write (below_with below unread) w name inside (at_place (Some (name, inside)) leads) entry disk named is))

      pub out_refused : (refusal : Refusal) → IsOutCause session.entries name refusal → IsRefusedSo (meaning_of (λ _. []) refusal)
      out_refused refusal why = ⊎_elim
          (λ (gone : of_entry (entry_among session.entries name) (meaning_of (λ _. []) refusal)).
          by_entry (entry_in w name) refl (meaning_of (λ _. []) refusal) (subst (λ (es : List SessionEntry). of_entry (entry_among es name) (meaning_of (λ _. []) refusal)) (sym knows.entries_are) gone))
          (λ (none : meaning_of (λ _. []) refusal ≡ r.NoMemory). short (meaning_of (λ _. []) refusal) none)
          why
