-- A mounted group over the calls of a commit.
use Rattle.std.proofs.Common.{◌≡◌, ◌≢◌, ◌⊎◌, inl, inr, ⊎_elim, ℕ, ◌+◌, true, List, [], ◌∷◌, sym, subst, Some, arith}
use Rattle.bay.specs.Image as bay
use Rattle.bay.specs.Image.{ChangesOnly}
use Rattle.bay.specs.State.{BayState}
use Rattle.bay.specs.Moments.{Runs, NowOnly, LeavesOnly}
use Rattle.asm_group.specs.Group.{Group}
use Rattle.asm_formats.specs.Items.{Item, Key}
use Rattle.asm_formats.specs.Sets.{has_bit, elements}
use Rattle.asm_formats.specs.Status.{Status}
use Rattle.asm_base.specs.Records.{record_at}
use Rattle.asm_formats.specs.Among.{IsAmong}
use Rattle.asm_images.specs.Kept.{Kept, IsHeld}
use Rattle.rebalance.specs.catalog_tables.Items.{AreItemsOf}
use Rattle.rebalance.specs.catalog_tables.Tables.{AreTables, Tables, records_of}
use Rattle.rebalance.proofs.catalog_laws.HavingItems.{have_items}
use Rattle.directory_store.specs.change_directory.declared.copy.DirCopy.{DirCopy}
use Rattle.directory_store.specs.change_directory.Changes.{content_in}
use Rattle.directory_store.specs.Contents.{HasCopyRecords}
use Rattle.directory_store.specs.Copies.{RegionsOf}
use Rattle.directory_store.specs.Stores.{Stored, HaveRecords, HaveEitherRecords}
use Rattle.directory_store.proofs.Storing.{kept_have_records}
use Rattle.status_register.specs.Holders.{with_next_number}
use Rattle.group_engine.specs.Becoming.{HoldsIn, LeadsToGroup}
use Rattle.group_engine.specs.CommitSteps.{content_of_items}
use Rattle.group_engine.specs.Mounts.{MountedGroup, Mounts}
use Rattle.group_engine.proofs.Images.{IsImageOf, on_its_way, come, both_may, one_may}
use Rattle.group_engine.proofs.Items.{content_is}
use Rattle.group_engine.proofs.Recording.{MayBeWritten}

-- what the record leaves of a commit that was tried: the tables after it, in the store
pub record IsTried (m : MountedGroup) (new : Stored) (u : Tables) : Type 0 where
  pub are : AreTables u
  pub tables : (k : Key) → records_of u k ≡ record_at new.table.records k
  pub number : new.number ≡ m.store.number + 1

module _ (n : ℕ) (m : MountedGroup) (s : BayState) (g : Group) (kept : Kept) (mounts : Mounts n m s g kept) where
  abbrev r : Status
  r = m.register.value

  abbrev id : ℕ
  id = m.register.id

  pub kept_is : record { completed = r; begun = []; slots = kept.slots } ≡ kept
  kept_is = λ i. record { completed = sym mounts.completed i; begun = sym mounts.begun i; slots = kept.slots }

  pub image_of : (x : bay.Image) → s.leaves s.calls x → IsImageOf n m g kept x
  image_of x left = record {
    is_held = subst (λ (k : Kept). IsHeld n id (g ∷ []) k x) (sym kept_is) (mounts.now.now x left);
    own = λ slot own. (mounts.own slot).1 own;
    members = λ i k at. (mounts.register.now.now x left).members i k at;
  }

  -- the items of the tables now
  pub items : (i : List Item) × AreItemsOf m.catalog.tables i
  items = have_items m.catalog.tables mounts.whole.are_tables

  pub was : (x : bay.Image) → s.leaves s.calls x → (c : DirCopy) → IsAmong m.store.copies c → content_in c x ≡ Some (content_of_items m.store.number items.0)
  was x left c among = content_is m.store.table m.store.number m.catalog.tables items.0 c x mounts.whole.are_tables mounts.whole.tables items.1
      ((kept_have_records m.store s mounts.ready.store).now x left c among)

  module _ (t : BayState) {on : ℕ → Type 0} (run : Runs on (ChangesOnly (RegionsOf m.store.copies)) s t) (new : Stored) (either : LeavesOnly s t (HaveEitherRecords m.store new))
      (u : Tables) (tried : IsTried m new u) (h : Group) (leads : LeadsToGroup r u g h) (holds : NowOnly s (HoldsIn id r u h)) where
    later : (i : List Item) × AreItemsOf u i
    later = have_items u tried.are

    differ : m.store.number ≢ new.number
    differ same = omega (arith, same, tried.number)

    after_content : (c : DirCopy) (y : bay.Image) → HasCopyRecords new.table new.number c y → content_in c y ≡ Some (content_of_items new.number later.0)
    after_content c y has = content_is new.table new.number u later.0 c y tried.are tried.tables later.1 has

    either_content : (y : bay.Image) → HaveEitherRecords m.store new y → (c : DirCopy) → IsAmong m.store.copies c
        → (content_in c y ≡ Some (content_of_items m.store.number items.0)) ⊎ (content_in c y ≡ Some (content_of_items new.number later.0))
    either_content y has c among = ⊎_elim
        (λ b. inl (content_is m.store.table m.store.number m.catalog.tables items.0 c y mounts.whole.are_tables mounts.whole.tables items.1 b))
        (λ a. inr (after_content c y a)) (has c among)

    -- Over the store's calls each image stands for the group before or the one after.
    pub store_moments : LeavesOnly s t (IsHeld n id (g ∷ h ∷ []) kept)
    store_moments = record {
      later = run.later;
      ended = run.ended;
      each = λ k y low high left.
          let from = run.moments k y low high left in
          subst (λ (kk : Kept). IsHeld n id (g ∷ h ∷ []) kk y) kept_is
          (on_its_way n m mounts.whole g mounts.represents.shape kept from.0 (image_of from.0 from.1) y from.2 m.store.number new.number items.0 later.0 (was from.0 from.1)
          (either_content y (either.each k y low high left)) differ u h leads (holds.now from.0 from.1) later.1);
    }

    -- Where each copy took the change, they stand for the one after.
    pub store_done : ((c : DirCopy) → IsAmong m.store.copies c → IsAmong new.copies c) → NowOnly t (HaveRecords new) → NowOnly t (IsHeld n id (h ∷ []) kept)
    store_done all have = record {
      now = λ y left.
          let from = run.moments t.calls y run.later (omega arith) left in
          subst (λ (kk : Kept). IsHeld n id (h ∷ []) kk y) kept_is
          (come n m mounts.whole g mounts.represents.shape kept from.0 (image_of from.0 from.1) y from.2 m.store.number new.number items.0 later.0 (was from.0 from.1)
          (either_content y (either.each t.calls y run.later (omega arith) left)) differ u h leads (holds.now from.0 from.1) later.1
          (λ c among. after_content c y (have.now y left c (all c among))));
    }

    -- A record without the copies that didn't take it may be written.
    module _ (have : NowOnly t (HaveRecords new)) (fewer : ℕ) (less : (d : ℕ) → has_bit fewer d ≡ true → has_bit r.directories d ≡ true)
        (left_are : (c : DirCopy) → IsAmong m.store.copies c → IsAmong (elements fewer) c.number → IsAmong new.copies c)
        (some : (c : DirCopy) × IsAmong m.store.copies c × IsAmong (elements fewer) c.number) where
      abbrev without : Status
      without = with_next_number m.register (record r { directories = fewer })

      abbrev first : Kept
      first = record { completed = r; begun = []; slots = kept.slots }

      pub both_now : NowOnly t (MayBeWritten n id (g ∷ h ∷ []) first without)
      both_now = record {
        now = λ y left.
            let from = run.moments t.calls y run.later (omega arith) left in
            both_may n m mounts.whole g mounts.represents.shape kept from.0 (image_of from.0 from.1) y from.2 m.store.number new.number items.0 later.0 (was from.0 from.1)
            (either_content y (either.each t.calls y run.later (omega arith) left)) differ u h leads (holds.now from.0 from.1) later.1
            fewer without.epoch without.turn less (λ c among in_fewer. after_content c y (have.now y left c (left_are c among in_fewer))) some;
      }

      pub one_now : NowOnly t (MayBeWritten n id (h ∷ []) first without)
      one_now = record {
        now = λ y left.
            let from = run.moments t.calls y run.later (omega arith) left in
            one_may n m mounts.whole g mounts.represents.shape kept from.0 (image_of from.0 from.1) y from.2 m.store.number new.number items.0 later.0 (was from.0 from.1)
            (either_content y (either.each t.calls y run.later (omega arith) left)) differ u h leads (holds.now from.0 from.1) later.1
            fewer without.epoch without.turn less (λ c among in_fewer. after_content c y (have.now y left c (left_are c among in_fewer))) some;
      }
