-- A write of a span of a file as the world's, of dbwrite and dbfill alike.
use Rattle.std.proofs.Common.{◌≡◌, inl, inr, ℕ, zero, suc, Bool, true, cond, List, [], ◌∷◌, ◌++◌, length, replicate, Option, Some, None, Result, Ok, refl, sym, ◌∙◌, ap, subst, arith}
use Rattle.std.specs.Prelude.{All, unwrap_or}
use Rattle.std.specs.FinMap as maps
use Rattle.std.specs.List.{flat_map}
use Rattle.std.specs.Cmp.{unsigned_tied}
use Rattle.std.proofs.lemmas.Bool.{eq-eqb}
use Rattle.std.proofs.lemmas.Cmp.{nat_cmp_total}
use Rattle.std.proofs.lemmas.List.{length-replicate}
use Rattle.asm_group.specs.Group.{Cell, Free, Group, Known}
use Rattle.asm_group.specs.Names.{Bytes, Path}
use Rattle.asm_group.specs.Refusal as r
use Rattle.asm_formats.specs.Among.{IsAmong}
use Rattle.asm_placement.proofs.Membership.{among_left, among_right}
use Rattle.asm_world.specs.Below.{Below, GroupBelow}
use Rattle.asm_world.specs.Between.{Between, MayStandFor, also, changed_or_none, groups_named, group_at, group_name_of, groups_between, with_free_at, with_free_in, with_free_of, with_span_free}
use Rattle.asm_world.specs.Causes.{Cause, When, HasCause, IsCaused, at_path, at_target, causes, decided, group_causes, in_group, state_causes}
use Rattle.asm_world.specs.Command.{Command, Asked, DbFill, DbWrite}
use Rattle.asm_world.specs.Files as f
use Rattle.asm_world.specs.Numbers as code
use Rattle.asm_world.specs.Paths.{target_from}
use Rattle.asm_world.specs.Reply.{Done, Refused}
use Rattle.asm_world.specs.Step.{ChangesAt, DoneCommand, HasMountedGroup, IsDismounted, IsTorn, MayStopTorn, RefusedCommand}
use Rattle.asm_world.specs.Waits.{HasLines}
use Rattle.asm_world.specs.World.{SessionEntry, World, DismountedBy, entry_in, groups_of, mounted_group, only_group, with_dismounted, with_group}
use Rattle.session.specs.mounted_groups.Found.{Counts}
use Rattle.session.specs.Families.{IsRefused, changes_group}
use Rattle.session.specs.Files.{IsWriteRefused}
use Rattle.session.specs.OnDisks.{NoWork, work_of}
use Rattle.file_commands.proofs.SpanCauses.{causes_of_span}
use Rattle.world_steps.specs.Steps.{MayAnswer}
use Rattle.world_steps.proofs.Tests.{has_cause}

-- ---- a command that writes bytes

-- what a write of a span may be refused by
abbrev pub write_causes : ℕ → ℕ → Path → Group → List Cause
write_causes at len path g = causes_of_span code.write_fault at len path g

-- what a refusal leaves, by the cause alone
abbrev pub Left : Below → World → Command → r.Refusal → World → Type 0
Left below w command (r.WriteFault disk) new = with_span_free w command ≡ Some new
Left below w command (r.Dismounted disk) new = IsDismounted below w command disk new
Left below w command r.NoMemory new = MayStopTorn below w command new
Left below w command cause new = new ≡ w

-- The command writes these bytes of the file at a path, from byte `at` on.
pub record IsWrite (command : Command) (path : Bytes) (at : ℕ) (bytes : Bytes) : Type 0 where
  pub named : (w : World) → groups_named w command ≡ group_at w path
  pub freed : (w : World) → with_span_free w command ≡ with_free_at w (target_from w.place path) at (length bytes)
  pub causes_are : (below : Below) (w : World) → causes below w command ≡ at_path w path (write_causes at (length bytes))
  pub done : (below : Below) (w new : World) → ChangesAt w path (λ id p old changed. f.group_after_write old p at (f.known bytes) ≡ Ok changed) new
      → DoneCommand below w command [] new
  pub left : (below : Below) (w : World) (cause : r.Refusal) (new : World) → Left below w command cause new → RefusedCommand below w command cause new
  pub lines : (below : Below) (w : World) → HasLines below w command (Done []) × ((cause : r.Refusal) → HasLines below w command (Refused [] cause))
  pub changes : changes_group command ≡ true
  pub counted : (paths : List Bytes) (cause : r.Refusal) (s t : Counts) → IsWriteRefused cause s t → IsRefused paths command cause s t
  pub works : (w : World) (below : ℕ → GroupBelow) → work_of command w below ≡ NoWork

left_write : (path : Bytes) (at : ℕ) (bytes : Bytes) (below : Below) (w : World) (cause : r.Refusal) (new : World)
    → Left below w (Asked (DbWrite path at bytes)) cause new → RefusedCommand below w (Asked (DbWrite path at bytes)) cause new
left_write path at bytes below w (r.WriteFault disk) new left = left
left_write path at bytes below w (r.Dismounted disk) new left = left
left_write path at bytes below w r.NoMemory new left = left
left_write path at bytes below w cause new left = left

left_fill : (path : Bytes) (at size byte : ℕ) (below : Below) (w : World) (cause : r.Refusal) (new : World)
    → Left below w (Asked (DbFill path at size byte)) cause new → RefusedCommand below w (Asked (DbFill path at size byte)) cause new
left_fill path at size byte below w (r.WriteFault disk) new left = left
left_fill path at size byte below w (r.Dismounted disk) new left = left
left_fill path at size byte below w r.NoMemory new left = left
left_fill path at size byte below w cause new left = left

pub dbwrite_is : (path : Bytes) (at : ℕ) (bytes : Bytes) → IsWrite (Asked (DbWrite path at bytes)) path at bytes
dbwrite_is path at bytes = record {
  named = λ w. refl;
  freed = λ w. refl;
  causes_are = λ below w. refl;
  done = λ below w new changes. (changes, refl);
  left = λ below w cause new left. left_write path at bytes below w cause new left;
  lines = λ below w. (tt, λ cause. refl);
  changes = refl;
  counted = λ paths cause s t is. is;
  works = λ w below. refl;
}

-- a byte again and again is known so often
known_again : (size byte : ℕ) → f.known (replicate size byte) ≡ replicate size (Known byte)
known_again zero byte = refl
known_again (suc n) byte = ap (λ (l : List Cell). Known byte ∷ l) (known_again n byte)

pub dbfill_is : (path : Bytes) (at size byte : ℕ) → IsWrite (Asked (DbFill path at size byte)) path at (replicate size byte)
dbfill_is path at size byte = record {
  named = λ w. refl;
  freed = λ w. ap (λ (n : ℕ). with_free_at w (target_from w.place path) at n) (sym (length-replicate size byte));
  causes_are = λ below w. ap (λ (n : ℕ). at_path w path (write_causes at n)) (sym (length-replicate size byte));
  done = λ below w new changes.
      (subst (λ (cells : List Cell). ChangesAt w path (λ id p old changed. f.group_after_write old p at cells ≡ Ok changed) new) (known_again size byte) changes, refl);
  left = λ below w cause new left. left_fill path at size byte below w cause new left;
  lines = λ below w. (tt, λ cause. refl);
  changes = refl;
  counted = λ paths cause s t is. is;
  works = λ w below. refl;
}

-- ---- its answers

-- the group that an id has alone
group_after : (w : World) (id : ℕ) (h : Group) → groups_of (with_group w id h) id ≡ h ∷ []
group_after w id h = ap (λ (o : Option (List Group)). unwrap_or o [])
    (maps.get-insert nat_cmp_total w.groups id (h ∷ []) id ∙ ap (λ (b : Bool). cond b (Some (h ∷ [])) (maps.get w.groups id)) (unsigned_tied id id ∙ eq-eqb id id refl))

one_of : {A : Type 0} (P : A → Type 0) (a : A) → P a → All P (a ∷ [])
one_of P a p zero d below = p
one_of P a p (suc k) d below = absurd (omega (arith, below))

abbrev of_entry : Option SessionEntry → List Cause
of_entry o = elim o [ None ↦ When true r.NoGroup ∷ [] | Some entry ↦ state_causes entry.state ]

module _ (command : Command) (path : Bytes) (at : ℕ) (bytes : Bytes) (write : IsWrite command path at bytes) (below : Below) (w : World) where
  -- the path comes to `+`
  pub nowhere : target_from w.place path ≡ None → MayAnswer below w command (Refused [] r.NoGroup) w
  nowhere none = record {
    step = write.left below w r.NoGroup w refl;
    cause = has_cause below w command r.NoGroup (subst (λ (l : List Cause). IsCaused l r.NoGroup)
        (sym (write.causes_are below w ∙ ap (λ (o : Option (Bytes × Path)). at_target w o (write_causes at (length bytes))) none)) refl);
    lines = (write.lines below w).1 r.NoGroup;
  }

  module _ (name : Bytes) (inside : Path) (leads : target_from w.place path ≡ Some (name, inside)) where
    abbrev len : ℕ
    len = length bytes

    in_named : causes below w command ≡ in_group w name (write_causes at len inside)
    in_named = write.causes_are below w ∙ ap (λ (o : Option (Bytes × Path)). at_target w o (write_causes at len)) leads

    names : groups_named w command ≡ name ∷ []
    names = write.named w ∙ ap group_name_of leads

    -- ---- the group isn't in the session, or is dismounted

    pub absent : entry_in w name ≡ None → MayAnswer below w command (Refused [] r.NoGroup) w
    absent none = record {
      step = write.left below w r.NoGroup w refl;
      cause = has_cause below w command r.NoGroup (subst (λ (l : List Cause). IsCaused l r.NoGroup) (sym in_named)
          (subst (λ (l : List Cause). IsCaused (l ++ group_causes (mounted_group w name) (write_causes at len inside)) r.NoGroup) (sym (ap of_entry none)) refl));
      lines = (write.lines below w).1 r.NoGroup;
    }

    pub out : (entry : SessionEntry) (disk : Bytes) → entry_in w name ≡ Some entry → entry.state ≡ DismountedBy disk
        → MayAnswer below w command (Refused [] (r.Dismounted disk)) w
    out entry disk there is = record {
      step = write.left below w (r.Dismounted disk) w
          (inl (record { name = name; entry = entry; names = record { among = ([], [], names); there = there }; state = is; is = refl }));
      cause = has_cause below w command (r.Dismounted disk) (subst (λ (l : List Cause). IsCaused l (r.Dismounted disk)) (sym in_named)
          (subst (λ (l : List Cause). IsCaused (l ++ group_causes (mounted_group w name) (write_causes at len inside)) (r.Dismounted disk))
          (sym (ap of_entry there ∙ ap state_causes is)) refl));
      lines = (write.lines below w).1 (r.Dismounted disk);
    }

    -- ---- the group is mounted

    module _ (id : ℕ) (g : Group) (has : HasMountedGroup w name id g) where
      there : mounted_group w name ≡ Some g
      there = rw (has.named, has.mounted, has.is, has.only) refl

      -- the causes are those of the group
      pub causes_in : causes below w command ≡ write_causes at len inside g
      causes_in = in_named ∙ rw (ap of_entry has.named ∙ ap state_causes has.mounted, there) refl

      caused : (cause : r.Refusal) → IsCaused (write_causes at len inside g) cause → HasCause below w command (Refused [] cause)
      caused cause is = has_cause below w command cause (subst (λ (l : List Cause). IsCaused l cause) (sym causes_in) is)

      -- it was done
      pub done : (h : Group) → decided (write_causes at len inside g) ≡ None → f.group_after_write g inside at (f.known bytes) ≡ Ok h
          → MayAnswer below w command (Done []) (with_group w id h)
      done h none is = record {
        step = write.done below w (with_group w id h) (record {
          name = name;
          inside = inside;
          leads = leads;
          changes = record { id = id; old = g; changed = h; has = has; step_is = is; is = refl };
        });
        cause = ap decided causes_in ∙ none;
        lines = (write.lines below w).0;
      }

      -- nothing was
      pub refused : (cause : r.Refusal) → Left below w command cause w → IsCaused (write_causes at len inside g) cause
          → MayAnswer below w command (Refused [] cause) w
      refused cause left is = record { step = write.left below w cause w left; cause = caused cause is; lines = (write.lines below w).1 cause }

      -- ---- the world with the span Free

      module _ (free : Group) (free_is : f.group_after_write g inside at (replicate len Free) ≡ Ok free) where
        list_of : groups_of w has.entry.id ≡ g ∷ []
        list_of = ap (λ (i : ℕ). groups_of w i) has.is ∙ ap (λ (o : Option (List Group)). unwrap_or o []) has.only

        pub freed : with_span_free w command ≡ Some (with_group w id free)
        freed = write.freed w ∙ ap (λ (o : Option (Bytes × Path)). with_free_at w o at len) leads
            ∙ ap (λ (o : Option SessionEntry). with_free_of w o inside at len) has.named
            ∙ ap (λ (l : List Group). with_free_in w has.entry.id (only_group l) inside at len) list_of
            ∙ ap (λ (o : Result Group r.Refusal). changed_or_none w has.entry.id o) free_is
            ∙ ap (λ (i : ℕ). Some (with_group w i free)) has.is

        -- no copy of an extent took the bytes
        pub fault : (disk : Bytes) → IsCaused (write_causes at len inside g) (r.WriteFault disk)
            → MayAnswer below w command (Refused [] (r.WriteFault disk)) (with_group w id free)
        fault disk is = record {
          step = write.left below w (r.WriteFault disk) (with_group w id free) freed;
          cause = caused (r.WriteFault disk) is;
          lines = (write.lines below w).1 (r.WriteFault disk);
        }

        -- the id has the group with the span Free, which is dismounted by a disk
        abbrev pub torn_world : Bytes → World
        torn_world disk = record w { groups = maps.insert w.groups id (free ∷ []); session = with_dismounted w.session name disk }

        torn : (disk : Bytes) → IsTorn below w command name has.entry (with_dismounted w.session name disk) (torn_world disk)
        torn disk = record {
          done = w;
          done_is = inr refl;
          may = free ∷ [];
          one = λ same. absurd cc;
          each = one_of (λ (x : Group). (v : World) × Between w command w v × MayStandFor v has.entry.id x) free (
            with_group w id free,
            (w ∷ w ∷ [], [], ap (λ (o : Option World). w ∷ w ∷ also o) freed),
            ([], [], ap (λ (i : ℕ). groups_of (with_group w id free) i) has.is ∙ group_after w id free),
          );
          is = ap (λ (i : ℕ). record w { groups = maps.insert w.groups i (free ∷ []); session = with_dismounted w.session name disk }) (sym has.is);
        }

        -- a mark or a record dismounted the group
        pub dismounted : (disk : Bytes) → IsCaused (write_causes at len inside g) (r.Dismounted disk)
            → MayAnswer below w command (Refused [] (r.Dismounted disk)) (torn_world disk)
        dismounted disk is = record {
          step = write.left below w (r.Dismounted disk) (torn_world disk)
              (inr (record { name = name; entry = has.entry; names = record { among = ([], [], names); there = has.named }; state = has.mounted; torn = torn disk }));
          cause = caused (r.Dismounted disk) is;
          lines = (write.lines below w).1 (r.Dismounted disk);
        }

        -- the group with the span Free is between the worlds
        pub between : (new : World) → IsAmong (groups_between w command new id) free
        between new =
            among_right (groups_of w id) _ free (among_right (groups_of new id) _ free
            (subst (λ (o : Option World). IsAmong (flat_map (λ (x : World). groups_of x id) (also o)) free) (sym freed)
            (among_left (groups_of (with_group w id free) id) [] free (subst (λ (l : List Group). IsAmong l free) (sym (group_after w id free)) (inl refl)))))
