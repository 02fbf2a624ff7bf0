-- A group that leaves the session.
use Rattle.std.proofs.Common.{◌≡◌, ℕ, Bool, true, false, List, [], Option, Some, None, is_some, refl}
use Rattle.std.specs.Prelude.{is_none}
use Rattle.bay.specs.State.{BayState}
use Rattle.asm_group.specs.Names.{Bytes}
use Rattle.asm_group.specs.Refusal as r
use Rattle.asm_world.specs.Below.{GroupBelow}
use Rattle.asm_world.specs.Command.{Said}
use Rattle.asm_world.specs.Reply.{Done, Refused}
use Rattle.asm_world.specs.Statement.{Alter, Dismount}
use Rattle.asm_world.specs.World.{World, SessionEntry, entry_in, without_entry}
use Rattle.world_steps.proofs.Told.{fewer_apart}
use Rattle.session.specs.Effects.{IsServed}
use Rattle.session.specs.Meaning.{meaning}
use Rattle.session.specs.Sessions.{Roster, roster, without_groups}
use Rattle.session.proofs.Knowing.{left_length, paired_left}
use Rattle.session.proofs.Outcomes.{unread, done, still}

-- ---- DISMOUNT

not_there : (o : Option SessionEntry) → is_some o ≡ false → is_none o ≡ true
not_there None e = refl
not_there (Some x) e = absurd cc

is_there : (o : Option SessionEntry) → is_some o ≡ true → is_none o ≡ false
is_there None e = absurd cc
is_there (Some x) e = refl

module _ (paths : List Bytes) (text name : Bytes) (force : Bool) (says : meaning text ≡ Said (Alter name (Dismount force))) (was : Roster) (old : BayState) {below : ℕ → GroupBelow} (w : World) where
  pub absent : is_some (entry_in w name) ≡ false → IsServed paths unread text (Refused [] r.NoGroup) was was old old below w w
  absent none =
      let test = not_there (entry_in w name) none in
      still paths text r.NoGroup was old w (rw says refl) (rw (says, test) refl) (rw says refl) (rw says tt)

  pub left : is_some (entry_in w name) ≡ true → IsServed paths unread text (Done []) was (roster (without_groups w.session was.groups name) was.given) old old below w (record w { session = without_entry w.session name })
  left some =
      let test = is_there (entry_in w name) some in
      done paths text [] was (roster (without_groups w.session was.groups name) was.given) old w (record w { session = without_entry w.session name }) (rw says (some, refl, refl)) (rw (says, test) refl) (rw says refl) (rw says tt) refl
      (λ known stands. record {
        entries = left_length w.session was.groups name stands.entries;
        ids = fewer_apart w.session name stands.ids;
        pairs = λ e m pair is. paired_left w.session was.groups name e m pair;
        lists = λ id. refl;
      })
