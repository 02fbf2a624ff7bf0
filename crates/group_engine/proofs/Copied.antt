-- The directories are stored on a disk more, and the record names it.
use Rattle.std.proofs.Common.{◌≡◌, ◌≢◌, ◌⊎◌, inl, inr, ⊎_elim, ℕ, ◌+◌, ◌*◌, ◌<◌, ◌≤◌, true, false, List, [], ◌∷◌, ◌++◌, length, length-append, get_or, refl, sym, ap, subst, ◌∙◌, Option, Some, None, Result, Ok, Err, arith}
use Rattle.std.specs.Prelude.{IsSome, OnOk, unwrap_or}
use Rattle.std.specs.List.{slice_get}
use Rattle.std.specs.Option.{is_some, option_map}
use Rattle.std.proofs.lemmas.Bool.{false≢true}
use Rattle.std.proofs.lemmas.Option.{same_Some, none-some}
use Rattle.bay.specs.Image as bay
use Rattle.bay.specs.State.{BayState, IsSlot, IsSound, KeepsAttached}
use Rattle.bay.specs.Counts.{Rose}
use Rattle.bay.specs.Moments.{Runs}
use Rattle.bay.proofs.Calls.{attached-trans, leaves_begin, leaves_less, leaves_on}
use Rattle.asm_group.specs.Group.{Group}
use Rattle.refusal_lines.specs.declared.refusal.Refusal.{Refusal}
use Rattle.refusal_lines.specs.declared.refusal.DiskRef.TheVariants.{Number}
use Rattle.refusal_lines.specs.declared.refusal.Refusal.TheVariants as cause
use Rattle.asm_base.specs.Records.{record_at}
use Rattle.asm_formats.specs.Bytes.{block_size}
use Rattle.asm_formats.specs.Regions.{region_end}
use Rattle.asm_formats.specs.Sets.{elements, has_bit}
use Rattle.asm_formats.specs.Status.{Entry, Status, entry_of, has_entry}
use Rattle.asm_formats.specs.Among.{IsAmong}
use Rattle.asm_images.specs.Kept.{Kept}
use Rattle.asm_placement.proofs.Membership.{among_left, among_right, among_split}
use Rattle.directory_store.specs.change_directory.Places.{IsCopy}
use Rattle.directory_store.specs.change_directory.declared.copy.DirCopy.{DirCopy}
use Rattle.directory_store.specs.Contents.{HasCopyRecords}
use Rattle.directory_store.specs.Copies.{IsCopyApart}
use Rattle.directory_store.specs.Copying.{MayBringUp}
use Rattle.directory_store.specs.Stores.{Stored}
use Rattle.directory_store.specs.Stores as stores
use Rattle.directory_store.proofs.Storing.{kept_have_records}
use Rattle.directory_store.specs.page_map.Tables.{PageTable}
use Rattle.status_register.specs.Holders.{is_of, next_turn, with_next_number}
use Rattle.status_register.specs.Reaching.{Reaches}
use Rattle.status_register.specs.Registered.{Registered, is_same_birth}
use Rattle.status_register.specs.Writes.{after_write}
use Rattle.status_register.specs.declared.error.Dead.{Dead}
use Rattle.status_register.specs.declared.member.Member.{Member}
use Rattle.group_engine.specs.Commits.{IsDismountedBy, IsLostIn, turns_at_most}
use Rattle.group_engine.specs.Copying.{CopiesTo, DirectoryCopyCause, IsNotCopied, IsOneMore, LeavesGroup, MountsStill, StandThrough, WritesMore}
use Rattle.group_engine.specs.Mounts.{AreCopiesOf, IsCopyOf, IsMounted, IsOwn, IsReady, IsWhole, MayRecord, MountedGroup, Takes, slot_at}
use Rattle.group_engine.specs.Making.{IsShut}
use Rattle.group_engine.specs.Own.{IsSameGroup, OnOwnDisks}
use Rattle.group_engine.specs.Recorded.{MayGet}
use Rattle.group_engine.specs.declared.access.Access.{Access}
use Rattle.group_engine.specs.declared.access.Access.TheVariants.{Mounted, Dismounted, Closed}
use Rattle.group_engine.specs.declared.attached.Attached.{Attached}
use Rattle.group_engine.proofs.BroughtUp.{copied_moments, copied_mounts, may_name}
use Rattle.group_engine.proofs.Causes.{dead_lost, nothing_kept, run_less, written_own}
use Rattle.group_engine.proofs.Commits.{keeps_over_row}
use Rattle.group_engine.proofs.Ends.{id_same, keeps_dismounted, members_same, out_of_calls}
use Rattle.group_engine.proofs.Including.{element_of, own_bit, which, with_element}
use Rattle.group_engine.proofs.Mounting.{shaped_copy, still_ready}
use Rattle.group_engine.proofs.Sets.{element_bit}
use Rattle.group_engine.proofs.Standings.{stands_at_rest}
use Rattle.group_engine.proofs.Statuses.{status_done, status_moments}

-- ---- the copy

module _ (m : MountedGroup) (whole : IsWhole m) (s : BayState) (ready : IsReady m s) (d : ℕ) (c : DirCopy) (one : IsOneMore m d c) where
  like : stores.Keeps m.store s
  like = ready.store

  attached_slot : s.attached c.slot ≡ Some one.image.size
  attached_slot =
      let at : Some one.image.slot ≡ Some one.member.slot = ap (option_map (λ (a : Attached). a.slot)) (sym one.at) ∙ whole.disks d ∙ ap (option_map (λ (y : Member). y.slot)) one.attached in
      ap s.attached (one.slot ∙ sym (same_Some one.image.slot one.member.slot at)) ∙ ready.sizes d one.image one.at

  pub copy_is : IsCopy s c
  copy_is =
      let was = (like.named one.first one.stored).copy_is in
      record {
        attached = subst (λ (o : Option ℕ). IsSome o) (sym attached_slot) refl;
        sector_size = subst (λ (n : ℕ). (n ≡ 512) ⊎ (n ≡ 4096)) (sym one.sector) was.sector_size;
        least = subst (λ (n : ℕ). 128 ≤ n) (sym one.pages) was.least;
        most = subst (λ (n : ℕ). n ≤ 16384) (sym one.pages) was.most;
        inside = subst (λ (o : Option ℕ). region_end c.dir_blocks * block_size ≤ unwrap_or o 0) (sym attached_slot) one.room;
      }

  pub copy_pages : c.dir_blocks ≡ m.store.table.free.units
  copy_pages = one.pages ∙ like.pages one.first one.stored

  pub copy_small : c.number < 64
  copy_small = subst (λ (n : ℕ). n < 64) (sym one.number) one.small

  module _ (unnamed : has_bit m.register.value.directories d ≡ false) where
    not_stored : (k : DirCopy) → IsAmong m.store.copies k → k.number ≢ d
    not_stored k among same = false≢true (sym unnamed ∙ ap (has_bit m.register.value.directories) (sym same) ∙ element_bit m.register.value.directories k.number (whole.copies.each k among).named)

    pub copy_apart : IsCopyApart c m.store.copies
    copy_apart k among =
        let is = whole.copies.each k among in (
          (λ same. not_stored k among (sym (ready.register.apart d k.number one.member is.member one.attached is.attached (sym one.slot ∙ same ∙ sym is.slot)))),
          (λ same. not_stored k among (sym same ∙ one.number)),
        )

    -- ---- over the calls

    own_slot : (slot : ℕ) → slot ≡ c.slot → IsOwn m slot
    own_slot slot is = (d, one.member, one.attached, is ∙ one.slot)

    module _ (sound : IsSound s) (t : BayState) (new : Stored) (run : Runs (IsSlot c.slot) (MayBringUp m.store.table m.store.number c) s t) (keeps : stores.Keeps new t) (attached : KeepsAttached s t) where
      pub copy_runs : Runs (IsOwn m) (OnOwnDisks m) s t
      copy_runs = run_less own_slot
          (λ x y change. record { size = change.elsewhere.size; byte = λ slot k out. change.elsewhere.byte slot k (λ region. out (own_slot slot region.0)) }) run

      -- each image stands for the group, which is mounted still
      up_moments : StandThrough m s t
      up_moments n g kept may = leaves_less (λ x is. stands_at_rest n m.register.id (g ∷ []) kept x may.mounts.begun is)
          (copied_moments n m s sound g kept may.mounts d c one copy_is copy_small copy_pages copy_apart t run attached)

      up_mounts : MountsStill m m s t
      up_mounts n g kept mounts = copied_mounts n m s sound g kept mounts d c one copy_is copy_small copy_pages copy_apart t run attached

      -- nothing came of it
      pub ends_uncopied : (refusal : Refusal) → new ≡ m.store → LeavesGroup m (record m { store = new }) refusal → DirectoryCopyCause m d (record m { store = new }) s t refusal
          → CopiesTo m d (Err refusal) (record m { store = new }) s t
      ends_uncopied refusal same leaves why = record {
        keeps = record {
          same = record { name = refl; id = refl; shape = refl; members = refl; disks = refl; flight = inl refl };
          attached = attached;
          runs = copy_runs;
          whole = λ takes. subst (λ (x : Stored). IsWhole (record m { store = x })) (sym same) whole_again;
          ready = λ takes. still_ready m (record m { store = new }) s t refl refl keeps attached ready;
        };
        flight = refl;
        tables = refl;
        mounted = tt;
        named = tt;
        cause = why;
        refused = leaves;
        moments = up_moments;
        done = tt;
        stays = λ takes. subst (λ (x : Stored). MountsStill m (record m { store = x }) s t) (sym same) up_mounts;
        turns = subst (λ (x : Stored). turns_at_most (record m { store = x }) ≤ turns_at_most m + 2) (sym same) (omega arith);
      }
        where
          whole_again : IsWhole (record m { store = m.store })
          whole_again = record {
            are_tables = whole.are_tables;
            tables = whole.tables;
            shape = whole.shape;
            units = whole.units;
            status = whole.status;
            alive = whole.alive;
            written = whole.written;
            group = whole.group;
            reached = whole.reached;
            numbers = whole.numbers;
            births = whole.births;
            copies = whole.copies;
            disks = whole.disks;
          }

      -- the slot failed
      pub why_uncopied : Rose (s.faults c.slot) (t.faults c.slot) → IsNotCopied m d s t
      why_uncopied rose = inr (c.slot, whole.disks d ∙ ap (option_map (λ (y : Member). y.slot)) one.attached ∙ ap (λ (k : ℕ). Some k) (sym one.slot), rose)

      -- a record with the copy was written
      module _ (table : new.table ≡ m.store.table) (number : new.number ≡ m.store.number) (copies : new.copies ≡ m.store.copies ++ c ∷ []) (then : IsSound t) (w : BayState) (answer : Result ℕ Dead) (reg : Registered) (writes : WritesMore m.register d answer reg t w) where
        abbrev next : Status
        next = record m.register.value { directories = writes.more }

        abbrev later : Registered
        later = record m.register { value = with_next_number m.register next; turn = next_turn m.register.turn; is_fresh = false }

        abbrev now : MountedGroup
        now = record m { store = new; register = reg }

        more_copies : AreCopiesOf (with_next_number m.register next) m.register.members m.catalog.shape new.copies
        more_copies = record {
          each = λ k among. ⊎_elim
              (λ was.
              let is = whole.copies.each k was in
              shaped_copy refl refl (with_element writes.more m.register.value.directories d writes.with k.number is.named) is)
              (λ put. ⊎_elim
              (λ (same : k ≡ c). subst (λ (x : DirCopy). IsCopyOf (with_next_number m.register next) m.register.members m.catalog.shape x) (sym same) own_copy)
              (λ none. absurd none)
              put)
              (among_split m.store.copies (c ∷ []) k (subst (λ (l : List DirCopy). IsAmong l k) copies among));
          all = λ k h. ⊎_elim
              (λ same. (c, subst (λ (l : List DirCopy). IsAmong l c) (sym copies) (among_right m.store.copies (c ∷ []) c (inl refl)), one.number ∙ sym same))
              (λ in_all.
              let was = whole.copies.all k in_all in
              (was.0, subst (λ (l : List DirCopy). IsAmong l was.0) (sym copies) (among_left m.store.copies (c ∷ []) was.0 was.1), was.2))
              (which writes.more m.register.value.directories d writes.with k h);
        }
          where
            own_copy : IsCopyOf (with_next_number m.register next) m.register.members m.catalog.shape c
            own_copy = record {
              named = subst (λ (k : ℕ). IsAmong (elements writes.more) k) (sym one.number) (element_of writes.more d one.small (own_bit writes.more m.register.value.directories d writes.with one.small));
              member = one.member;
              attached = ap (λ (k : ℕ). get_or m.register.members k None) one.number ∙ one.attached;
              slot = sym one.slot;
              entry = one.entry;
              pages = one.pages ∙ (whole.copies.each one.first one.stored).pages;
              sector = one.sector ∙ (whole.copies.each one.first one.stored).sector;
            }

        more_whole : (taken : ℕ) → answer ≡ Ok taken → IsWhole now
        more_whole taken ok =
            let is : reg ≡ later = writes.written.register ∙ ap (λ (a : Result ℕ Dead). after_write m.register next a) ok in
            let reaches : Reaches reg.members reg.value = subst (λ (a : Result ℕ Dead). OnOk a (Reaches reg.members reg.value)) ok writes.written.reaches in
            subst (λ (x : Registered). IsWhole (record m { store = new; register = x })) (sym is) (record {
              are_tables = whole.are_tables;
              tables = λ k. whole.tables k ∙ sym (ap (λ (x : PageTable). record_at x.records k) table);
              shape = whole.shape;
              units = whole.units;
              status = writes.written.allowed;
              alive = whole.alive;
              written = refl;
              group = whole.group;
              reached = subst (λ (x : Registered). Reaches x.members x.value) is reaches;
              numbers = whole.numbers;
              births = whole.births;
              copies = more_copies;
              disks = whole.disks;
            })

        same_group : IsSameGroup m now
        same_group = record {
          name = refl;
          id = id_same m.register reg next answer writes.written.register;
          shape = refl;
          members = members_same m.register reg next answer writes.written.register;
          disks = refl;
          flight = inl refl;
        }

        runs : Runs (IsOwn m) (OnOwnDisks m) s w
        runs = written_own m whole next answer reg copy_runs writes.written

        both : KeepsAttached s w
        both = attached-trans attached writes.written.calls.attached

        -- the record may be written
        has_records : (y : bay.Image) → t.leaves t.calls y → HasCopyRecords m.store.table m.store.number c y
        has_records y left = subst (λ (k : ℕ). HasCopyRecords m.store.table k c y) number
            (subst (λ (x : PageTable). HasCopyRecords x new.number c y) table
            ((kept_have_records new t keeps).now y left c (subst (λ (l : List DirCopy). IsAmong l c) (sym copies) (among_right m.store.copies (c ∷ []) c (inl refl)))))

        gets : (n : ℕ) (g : Group) (kept : Kept) → MayRecord n m s g kept → MayGet n m next t g kept
        gets n g kept may = may_name n m s sound g kept may.mounts d c one copy_is copy_small copy_pages copy_apart t run attached has_records writes.more writes.with may.turns

        both_moments : StandThrough m s w
        both_moments n g kept may = leaves_on (up_moments n g kept may) (status_moments n m next t w then g kept (gets n g kept may) answer reg writes.written)

        one_turn : (a : Result ℕ Dead) → (after_write m.register next a).turn ≤ m.register.turn + 1
        one_turn (Ok taken) = omega arith
        one_turn (Err dead) = omega arith

        turn_taken : turns_at_most now ≤ turns_at_most m + 2
        turn_taken =
            let turn : reg.turn ≤ m.register.turn + 1 = subst (λ (x : Registered). x.turn ≤ m.register.turn + 1) (sym writes.written.register) (one_turn answer) in
            let some : length new.copies ≡ length m.store.copies + 1 = ap length copies ∙ length-append m.store.copies (c ∷ []) in
            omega (arith, turn, some)

        pub ends_copied : IsMounted m → (taken : ℕ) → answer ≡ Ok taken → CopiesTo m d (Ok tt) now s w
        ends_copied mounted taken ok =
            let is : reg ≡ later = writes.written.register ∙ ap (λ (a : Result ℕ Dead). after_write m.register next a) ok in
            let kept_now : stores.Keeps new w = keeps_over_row m new next t w answer reg writes.written keeps in
            record {
              keeps = record {
                same = same_group;
                attached = both;
                runs = runs;
                whole = λ takes. more_whole taken ok;
                ready = λ takes. still_ready m now s w same_group.members refl kept_now both ready;
              };
              flight = refl;
              tables = refl;
              mounted = mounted;
              named = ap (λ (x : Registered). has_bit x.value.directories d) is ∙ own_bit writes.more m.register.value.directories d writes.with one.small;
              cause = tt;
              refused = tt;
              moments = both_moments;
              done = λ n g kept may. status_done n m next t w then g kept (gets n g kept may) answer reg writes.written taken ok m.catalog refl refl new kept_now (more_whole taken ok);
              stays = λ takes. tt;
              turns = turn_taken;
            }

        -- a majority was lost at it
        pub ends_unnamed : (dead : Dead) (refusal : Refusal) (after : MountedGroup) → answer ≡ Err dead → IsDismountedBy now dead.slot refusal after → CopiesTo m d (Err refusal) after s w
        ends_unnamed dead refusal after is by =
            let lost : IsLostIn m after.register.value by.number s w = dead_lost m whole after.register.value s t w next answer dead by.number run.faults is writes.written.answer by.found in
            record {
              keeps = keeps_dismounted m now after s w dead.slot refusal same_group by both runs;
              flight = ap (λ (v : MountedGroup). v.flight) by.new_is;
              tables = ap (λ (v : MountedGroup). v.catalog) by.new_is;
              mounted = tt;
              named = tt;
              cause = subst (λ (x : Refusal). DirectoryCopyCause m d after s w x) (sym by.refusal_is) (inr (ap (λ (v : MountedGroup). v.access) by.new_is, lost));
              refused = subst (λ (x : Refusal). LeavesGroup m after x) (sym by.refusal_is)
                  (ap (λ (v : MountedGroup). v.register.value) by.new_is ∙ ap (λ (x : Registered). x.value) (writes.written.register ∙ ap (λ (a : Result ℕ Dead). after_write m.register next a) is));
              moments = both_moments;
              done = tt;
              stays = λ takes. absurd (out_of_calls now after dead.slot refusal by takes);
              turns = subst (λ (v : MountedGroup). turns_at_most v ≤ turns_at_most m + 2) (sym by.new_is) turn_taken;
            }

-- ---- the entry of an attached disk

pub entry_there : (entries : List Entry) (y : Member) (d : ℕ) → y.number ≡ d → is_of entries y ≡ true → has_entry entries d ≡ true
entry_there entries y d number is = ap (has_entry entries) (sym number) ∙ go (entry_of entries y.number) is
  where
    go : (o : Option Entry) → is_same_birth (option_map (λ (e : Entry). e.birth) o) y.birth ≡ true → is_some o ≡ true
    go None none = absurd (false≢true none)
    go (Some e) birth = refl

-- ---- no copy was tried

stands_still : (m : MountedGroup) (s : BayState) → StandThrough m s s
stands_still m s n g kept may = leaves_begin (record { now = λ image left. stands_at_rest n m.register.id (g ∷ []) kept image may.mounts.begun (may.mounts.now.now image left) })

pub copied_before : (m : MountedGroup) (s : BayState) (d : ℕ) → IsMounted m → Takes m s → has_bit m.register.value.directories d ≡ true → CopiesTo m d (Ok tt) m s s
copied_before m s d mounted takes named = record {
  keeps = nothing_kept m s (λ t. (takes t).0) (λ t. (takes t).1);
  flight = refl;
  tables = refl;
  mounted = mounted;
  named = named;
  cause = tt;
  refused = tt;
  moments = stands_still m s;
  done = λ n g kept may. (kept, refl, may.mounts);
  stays = λ takes. tt;
  turns = omega arith;
}

pub leaves_itself : (m : MountedGroup) (refusal : Refusal) → LeavesGroup m m refusal
leaves_itself m (cause.Dismounted by) = refl
leaves_itself m _ = refl

pub copied_not : (m : MountedGroup) (s : BayState) (d : ℕ) (refusal : Refusal) → Takes m s → DirectoryCopyCause m d m s s refusal → CopiesTo m d (Err refusal) m s s
copied_not m s d refusal takes why = record {
  keeps = nothing_kept m s (λ t. (takes t).0) (λ t. (takes t).1);
  flight = refl;
  tables = refl;
  mounted = tt;
  named = tt;
  cause = why;
  refused = leaves_itself m refusal;
  moments = stands_still m s;
  done = tt;
  stays = λ takes n g kept mounts. mounts;
  turns = omega arith;
}

-- no image is attached as the disk
pub copied_nowhere : (m : MountedGroup) (s : BayState) (d : ℕ) (refusal : Refusal) → Takes m s → refusal ≡ cause.WriteFault (Number d) → slot_at m.disks d ≡ None → CopiesTo m d (Err refusal) m s s
copied_nowhere m s d refusal takes is none = copied_not m s d refusal takes (subst (DirectoryCopyCause m d m s s) (sym is) (refl, inl none))

pub shut_copy : (m : MountedGroup) (s : BayState) (d : ℕ) (refusal : Refusal) (x : Access) → m.access ≡ x → IsShut x refusal → DirectoryCopyCause m d m s s refusal
shut_copy m s d refusal Mounted is shut = absurd shut
shut_copy m s d refusal (Dismounted k) is shut = subst (DirectoryCopyCause m d m s s) (sym shut) (inl is)
shut_copy m s d refusal Closed is shut = subst (DirectoryCopyCause m d m s s) (sym shut) tt

-- ---- the copy that is tried

pub first_among : (xs : List DirCopy) (x : DirCopy) → Some x ≡ slice_get xs 0 → IsAmong xs x
first_among [] x is = absurd (none-some x (sym is))
first_among (y ∷ ys) x is = inl (same_Some x y is)
