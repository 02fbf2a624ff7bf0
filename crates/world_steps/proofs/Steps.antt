-- What an edit of a group's names or settings is answered, by the world's edit: once for all commands that are such edits.
use Rattle.std.proofs.Common.{◌≡◌, inl, inr, ℕ, zero, suc, Bool, true, cond, List, [], ◌∷◌, ◌++◌, Option, Some, None, Result, Ok, Err, refl, sym, ◌∙◌, ap, subst, arith}
use Rattle.std.specs.Prelude.{All, unwrap_or}
use Rattle.std.specs.FinMap as maps
use Rattle.std.specs.Cmp.{unsigned_tied}
use Rattle.std.proofs.lemmas.Bool.{eq-eqb, false≢true}
use Rattle.std.proofs.lemmas.Cmp.{nat_cmp_total}
use Rattle.std.proofs.lemmas.Option.{none-some}
use Rattle.asm_group.specs.Causes.{Causes as Tests, first_cause}
use Rattle.asm_group.specs.Group.{Group}
use Rattle.asm_group.specs.Names.{Bytes, Path}
use Rattle.asm_group.specs.Refusal as r
use Rattle.asm_world.specs.Below.{Below}
use Rattle.asm_world.specs.Between.{Between, MayStandFor}
use Rattle.asm_world.specs.Causes.{Cause, When, HasCause, IsCaused, causes, decided, group_causes, session_causes, state_causes, tested_causes}
use Rattle.asm_world.specs.Command as c
use Rattle.asm_world.specs.Edits as e
use Rattle.asm_world.specs.Paths.{target_from}
use Rattle.asm_world.specs.Reply.{Done, Refused}
use Rattle.asm_world.specs.Statement as s
use Rattle.asm_world.specs.Step.{IsTorn}
use Rattle.asm_world.specs.World.{SessionEntry, World, DismountedBy, NotTold, entry_in, groups_of, mounted_group, with_dismounted, with_group}
use Rattle.world_steps.specs.Steps.{AnswersEdits, AnswersNone, EditAt, MayAnswer, TellsNoDisk, asks_edit, at_led, by_alias, by_clause, change_of, edited_in, makes_name, torn_world}
use Rattle.world_steps.proofs.Tests.{behind_tests, decided_tests, fails, first_is, first_plain, has_cause, left_by, left_plain, passes, plain, plain_tells}
use Rattle.world_steps.proofs.EditCommands.{Edit, Parts, commit, commit_dismounts, commit_full, decided_commit, edit_at}

-- ---- in a mounted group

-- the group that an id has alone
group_after : (w : World) (id : ℕ) (h : Group) → groups_of (with_group w id h) id ≡ h ∷ []
group_after w id h = ap (λ (o : Option (List Group)). unwrap_or o [])
    (maps.get-insert nat_cmp_total w.groups id (h ∷ []) id ∙ ap (λ (b : Bool). cond b (Some (h ∷ [])) (maps.get w.groups id)) (unsigned_tied id id ∙ eq-eqb id id refl))

-- both of two
two : {A : Type 0} (P : A → Type 0) (a b : A) → P a → P b → All P (a ∷ b ∷ [])
two P a b p q zero d below = p
two P a b p q (suc zero) d below = q
two P a b p q (suc (suc k)) d below = absurd (omega (arith, below))

abbrev of_entry : Option SessionEntry → List Cause
of_entry o = elim o [ None ↦ When true r.NoGroup ∷ [] | Some entry ↦ state_causes entry.state ]

module _ (w : World) (command : c.Command) (at : EditAt w command) where
  edit : Edit w command (at.name, at.change)
  edit = edit_at w command (at.name, at.change) at.is_edit at.asks

  abbrev ts : Tests
  ts = edit.tests_of at.group

  abbrev parts : Parts (makes_name command) (edit.list_of at.group) ts
  parts = edit.parts at.group

  group_there : mounted_group w at.name ≡ Some at.group
  group_there = rw (at.has.named, at.has.mounted, at.has.is, at.has.only) refl

  none_of_session : session_causes w at.name ≡ []
  none_of_session = ap of_entry at.has.named ∙ ap state_causes at.has.mounted

  causes_are : (below : Below) → causes below w command ≡ tested_causes ts ++ parts.rest
  causes_are below = edit.causes_are below ∙ rw (none_of_session, group_there) refl ∙ parts.split

  no_test : (h : Group) → edited_in at ≡ Ok h → first_cause ts ≡ None
  no_test h is = (passes (first_cause ts) (edit.changed at.group) h (sym (edit.change_is at.group) ∙ is)).0

  module _ (below : Below) where
    done : (h : Group) → edited_in at ≡ Ok h → MayAnswer below w command (Done []) (with_group w at.id h)
    done h is = record {
      step = edit.done below at.id at.group h at.has is;
      cause = ap decided (causes_are below) ∙ decided_tests ts parts.rest (no_test h is) (ap decided (parts.commits (no_test h is)) ∙ decided_commit (makes_name command));
      lines = (edit.lines below).0;
    }

    refused : (cause : r.Refusal) → edited_in at ≡ Err cause → MayAnswer below w command (Refused [] cause) w
    refused cause is =
        let first = fails (first_cause ts) (edit.changed at.group) cause (sym (edit.change_is at.group) ∙ is) in
        record {
          step = left_by below w command cause w at.is_edit (left_plain below w command cause (first_plain ts cause (edit.all_are at.group) first));
          cause = has_cause below w command cause (subst (λ (l : List Cause). IsCaused l cause) (sym (causes_are below)) (first_is ts parts.rest cause first));
          lines = (edit.lines below).1 cause;
        }

    -- behind the tests
    of_commit : (h : Group) (cause : r.Refusal) → edited_in at ≡ Ok h → IsCaused (commit (makes_name command)) cause → HasCause below w command (Refused [] cause)
    of_commit h cause is caused = has_cause below w command cause
        (subst (λ (l : List Cause). IsCaused l cause) (sym (causes_are below))
        (behind_tests ts parts.rest cause (no_test h is) (subst (λ (l : List Cause). IsCaused l cause) (sym (parts.commits (no_test h is))) caused)))

    full : (h : Group) (need free : ℕ) → makes_name command ≡ true → edited_in at ≡ Ok h → MayAnswer below w command (Refused [] (r.DirectoryFull need free)) w
    full h need free makes is = record {
      step = left_by below w command (r.DirectoryFull need free) w at.is_edit refl;
      cause = of_commit h (r.DirectoryFull need free) is (commit_full (makes_name command) need free makes);
      lines = (edit.lines below).1 (r.DirectoryFull need free);
    }

    list_of : groups_of w at.id ≡ at.group ∷ []
    list_of = ap (λ (o : Option (List Group)). unwrap_or o []) at.has.only

    abbrev entry : SessionEntry
    entry = at.has.entry

    torn : (h : Group) (disk : Bytes) → edited_in at ≡ Ok h → IsTorn below w command at.name entry (with_dismounted w.session at.name disk) (torn_world w at.id at.name at.group h disk)
    torn h disk is = record {
      done = with_group w at.id h;
      done_is = inl ([], (done h is).step);
      may = at.group ∷ h ∷ [];
      one = λ same. absurd cc;
      each = two (λ (g : Group). (x : World) × Between w command (with_group w at.id h) x × MayStandFor x entry.id g) at.group h before after;
      is = ap (λ (i : ℕ). record w { groups = maps.insert w.groups i (at.group ∷ h ∷ []); session = with_dismounted w.session at.name disk }) (sym at.has.is);
    }
      where
        before : (x : World) × Between w command (with_group w at.id h) x × MayStandFor x entry.id at.group
        before = (w, ([], with_group w at.id h ∷ _, refl), ([], [], ap (λ (i : ℕ). groups_of w i) at.has.is ∙ list_of))

        after : (x : World) × Between w command (with_group w at.id h) x × MayStandFor x entry.id h
        after = (with_group w at.id h, (w ∷ [], _, refl), ([], [], ap (λ (i : ℕ). groups_of (with_group w at.id h) i) at.has.is ∙ group_after w at.id h))

    dismounted : (h : Group) (disk : Bytes) → edited_in at ≡ Ok h → MayAnswer below w command (Refused [] (r.Dismounted disk)) (torn_world w at.id at.name at.group h disk)
    dismounted h disk is = record {
      step = left_by below w command (r.Dismounted disk) (torn_world w at.id at.name at.group h disk) at.is_edit
          (inr (record { name = at.name; entry = entry; names = record { among = ([], [], edit.named); there = at.has.named }; state = at.has.mounted; torn = torn h disk is }));
      cause = of_commit h (r.Dismounted disk) is (commit_dismounts (makes_name command) disk);
      lines = (edit.lines below).1 (r.Dismounted disk);
    }

pub answers_edits : AnswersEdits
answers_edits = record {
  done = λ below w command at h is. done w command at below h is;
  refused = λ below w command at cause is. refused w command at below cause is;
  full = λ below w command at h need free makes is. full w command at below h need free makes is;
  dismounted = λ below w command at h disk is. dismounted w command at below h disk is;
}

-- ---- where no mounted group is there to edit

-- at `+`
nowhere_led : (o : Option (Bytes × Path)) (change : Path → Group → Result Group r.Refusal) → at_led o change ≡ None → o ≡ None
nowhere_led None change is = refl
nowhere_led (Some (name, path)) change is = absurd cc

nowhere : (below : Below) (w : World) (command : c.Command) → asks_edit command ≡ true → change_of w.place command ≡ None → MayAnswer below w command (Refused [] r.NoGroup) w
nowhere below w (c.Asked (c.MakeDirectory path)) edits none =
    let at = nowhere_led (target_from w.place path) (λ p g. e.edited_group g (e.MakeDir p)) none in
    record { step = refl; cause = rw at refl; lines = refl }
nowhere below w (c.Asked (c.RemoveAlias path)) edits none =
    let at = nowhere_led (target_from w.place path) (λ p g. e.edited_group g (e.DropAliasEntry p)) none in
    record { step = refl; cause = rw at refl; lines = refl }
nowhere below w (c.Asked (c.MakeAlias path alias)) edits none =
    let at = nowhere_led (target_from w.place alias) (λ p g. by_alias (target_from w.place path) p g) none in
    record { step = refl; cause = rw at refl; lines = refl }
nowhere below w (c.Asked other) edits none = absurd (false≢true edits)
nowhere below w (c.Said (s.Alter name clause)) edits none = absurd (none-some (name, by_clause name clause) (sym none))
nowhere below w other edits none = absurd (false≢true edits)

module _ (below : Below) (w : World) (command : c.Command) (name : Bytes) (change : Group → Result Group r.Refusal) (edits : asks_edit command ≡ true) (asks : change_of w.place command ≡ Some (name, change)) where
  asked : Edit w command (name, change)
  asked = edit_at w command (name, change) edits asks

  -- by the session alone
  of_session : (list : List Cause) (cause : r.Refusal) → session_causes w name ≡ list → IsCaused (list ++ group_causes (mounted_group w name) asked.list_of) cause → HasCause below w command (Refused [] cause)
  of_session list cause is caused = has_cause below w command cause
      (subst (λ (l : List Cause). IsCaused l cause) (sym (asked.causes_are below ∙ ap (λ (l : List Cause). l ++ group_causes (mounted_group w name) asked.list_of) is)) caused)

  absent : entry_in w name ≡ None → MayAnswer below w command (Refused [] r.NoGroup) w
  absent none = record {
    step = left_by below w command r.NoGroup w edits refl;
    cause = of_session (When true r.NoGroup ∷ []) r.NoGroup (ap of_entry none) refl;
    lines = (asked.lines below).1 r.NoGroup;
  }

  out : (found : SessionEntry) (disk : Bytes) → entry_in w name ≡ Some found → found.state ≡ DismountedBy disk → MayAnswer below w command (Refused [] (r.Dismounted disk)) w
  out found disk there state = record {
    step = left_by below w command (r.Dismounted disk) w edits
        (inl (record { name = name; entry = found; names = record { among = ([], [], asked.named); there = there }; state = state; is = refl }));
    cause = of_session (When true (r.Dismounted disk) ∷ []) (r.Dismounted disk) (ap of_entry there ∙ ap state_causes state) refl;
    lines = (asked.lines below).1 (r.Dismounted disk);
  }

pub answers_none : AnswersNone
answers_none = record {
  nowhere = λ below w command edits none. nowhere below w command edits none;
  absent = λ below w command name change edits asks none. absent below w command name change edits asks none;
  out = λ below w command name change entry disk edits asks there state. out below w command name change edits asks entry disk there state;
}

-- ---- refusals of an edit

-- a world with this place
abbrev placed : List Bytes → World
placed place = record { groups = maps.empty; session = []; place = place; host = λ path. NotTold }

pub refusal_plain : (place : List Bytes) (command : c.Command) (name : Bytes) (change : Group → Result Group r.Refusal) (g : Group) (cause : r.Refusal) → asks_edit command ≡ true → change_of place command ≡ Some (name, change)
    → change g ≡ Err cause → plain cause ≡ true
refusal_plain place command name change g cause edits asks is =
    let edit = edit_at (placed place) command (name, change) edits asks in
    first_plain (edit.tests_of g) cause (edit.all_are g) (fails (first_cause (edit.tests_of g)) (edit.changed g) cause (sym (edit.change_is g) ∙ is))

pub tells_no_disk : TellsNoDisk
tells_no_disk place command name change g cause edits asks is = plain_tells cause (refusal_plain place command name change g cause edits asks is)
