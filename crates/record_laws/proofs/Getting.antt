-- A mounted group may get a record: what has to be shown of it on each image.
use Rattle.std.proofs.Common.{◌≡◌, ◌⊎◌, inl, ⊎_elim, ℕ, ◌+◌, ◌<◌, ◌≤◌, ◌^◌, true, List, [], ◌∷◌, refl, sym, subst, Some, arith, IsTrue}
use Rattle.std.specs.Option.{is_some}
use Rattle.bay.specs.Image as bay
use Rattle.bay.specs.State.{BayState}
use Rattle.asm_group.specs.Group.{Group}
use Rattle.asm_formats.specs.Among.{IsAmong}
use Rattle.asm_formats.specs.Header.{Header}
use Rattle.asm_formats.specs.Items.{Item}
use Rattle.asm_formats.specs.Sets.{elements}
use Rattle.asm_formats.specs.Status.{Entry, Status, entry_of}
use Rattle.asm_images.specs.Bridge.{disks_in}
use Rattle.asm_images.specs.Copies.{is_kept}
use Rattle.asm_images.specs.Describing.{DescribesGroup}
use Rattle.asm_images.specs.Kept.{Kept, IsHeld}
use Rattle.asm_images.specs.Members.{Member, all_members, within}
use Rattle.asm_images.specs.Sound.{IsCovered}
use Rattle.asm_images.specs.Stands.{HasEntryUnits}
use Rattle.asm_images.proofs.OneContent.{found_is_held}
use Rattle.group_engine.specs.catalog_tables.Items.{AreItemsOf}
use Rattle.status_register.specs.Holders.{with_next_number}
use Rattle.group_engine.specs.Mounts.{MountedGroup, Mounts}
use Rattle.group_engine.specs.Recorded.{IsThere, MayBeWritten, MayGet}
use Rattle.group_engine.specs.Statuses.{IsNextOf}
use Rattle.group_engine.proofs.Calls.{items, kept_is}
use Rattle.group_engine.proofs.Mounting.{entries_describe}
use Rattle.group_engine.proofs.Standings.{completed_held, there_by}
use Rattle.record_laws.proofs.Covered.{IsAlike, alike_is_covered}
use Rattle.record_laws.proofs.Images.{found_all, have, is_there, was_named}

-- an entry of r has the birth
pub record HasBirth (r : Status) (birth : ℕ) : Type 0 where
  pub entry : Entry
  pub among : IsAmong r.entries entry
  pub same : entry.birth ≡ birth

-- each member that has the units of its entry in r has those of its entry in q
abbrev pub KeepsUnits : ℕ → bay.Image → Group → Status → Status → Type 0
KeepsUnits id x g r q = (slots : ℕ) (k : Member) → IsAmong (all_members id (disks_in slots x)) k → k.header.shape ≡ g.shape → HasEntryUnits r k → HasEntryUnits q k

module _ (n : ℕ) (m : MountedGroup) (s : BayState) (g : Group) (kept : Kept) (mounts : Mounts n m s g kept) where
  abbrev r : Status
  r = m.register.value

  abbrev id : ℕ
  id = m.register.id

  abbrev first : Kept
  first = record { completed = r; begun = []; slots = kept.slots }

  -- the record that holds, on an image
  module _ (x : bay.Image) (left : s.leaves s.calls x) where
    pub is_held : IsHeld n id (g ∷ []) first x
    is_held = subst (λ (k : Kept). IsHeld n id (g ∷ []) k x) (sym (kept_is n m s g kept mounts)) (mounts.now.now x left)

    r_there : IsThere (within kept.slots (all_members id (disks_in n x))) r
    r_there = there_by id (disks_in n x) kept.slots r (is_held.sound n).fits is_held.standing

    pub covers_now : (slots : ℕ) → IsCovered id (disks_in slots x) (all_members id (disks_in slots x)) (g ∷ []) r
    covers_now slots = (is_held.sound slots).covered r (inl refl) mounts.whole.alive

    -- the births of its entries were given
    pub births_now : (e : Entry) → IsAmong r.entries e → e.birth ≤ r.births
    births_now e h = (covers_now n).entry_births r e (completed_held id (disks_in n x) kept.slots r (is_held.sound n).fits r_there) h

    -- it names a copy
    pub some_copy : (d : ℕ) × IsAmong (elements r.directories) d
    some_copy = let f = found_is_held r (within kept.slots (all_members id (disks_in n x))) r_there.content r_there.found in (f.0.header.number, f.2.named)

  module _ (next : Status) (is_next : IsNextOf m next) (turns : m.register.turn + 1 < 2 ^ 64) where
    abbrev q : Status
    q = with_next_number m.register next

    -- a record that names a copy
    module _ (births : r.births ≤ next.births)
        (given : (e : Entry) → IsAmong next.entries e → (e.birth ≤ r.births) ⊎ HasBirth r e.birth)
        (units : (x : bay.Image) → s.leaves s.calls x → KeepsUnits id x g r next)
        (still : (d : ℕ) (h : Header) → is_some (entry_of r.entries d) ≡ true → IsTrue (is_kept next d h) → IsTrue (is_kept r d h))
        (some : (d : ℕ) → IsAmong (elements r.directories) d → (k : ℕ) × IsAmong (elements next.directories) k)
        (describes : (l : List Item) → AreItemsOf m.catalog.tables l → DescribesGroup next l g) where
      alike : (x : bay.Image) (left : s.leaves s.calls x) (slots : ℕ) → IsAlike id (disks_in slots x) g r q (record { commit = m.store.number; items = Some (items n m s g kept mounts).0 }) (items n m s g kept mounts).0
      unfolding is_kept
      alike x left slots = record {
        decodes = refl;
        have = have n m s g kept mounts x left slots;
        found = found_all n m s g kept mounts x left slots;
        named = was_named n m s g kept mounts x left next is_next;
        births = births;
        units = λ k among shape had. units x left slots k among shape had;
        kept = λ d h some is. still d h some is;
        describes = let l = items n m s g kept mounts in entries_describe next q l.0 g refl (describes l.0 l.1);
      }

      births_given : (x : bay.Image) → s.leaves s.calls x → (e : Entry) → IsAmong next.entries e → e.birth ≤ r.births
      births_given x left e h = ⊎_elim (λ le. le) (λ was. omega (arith, births_now x left was.entry was.among, was.same)) (given e h)

      written : (x : bay.Image) → s.leaves s.calls x → MayBeWritten n id (g ∷ []) first q x
      written x left = record {
        births = births_given x left;
        own_births = λ e h. omega (arith, births_given x left e h, births);
        covers = λ slots. alike_is_covered id (disks_in slots x) g r q (record { commit = m.store.number; items = Some (items n m s g kept mounts).0 }) (items n m s g kept mounts).0 (alike x left slots) (covers_now x left slots);
        there = let c = some_copy x left in let k = some c.0 c.1 in is_there n m s g kept mounts x left next is_next k.0 k.1;
      }

      pub may_be_got : MayGet n m next s g kept
      may_be_got = record {
        mounts = mounts;
        may = record { now = λ x left. subst (λ (k : Kept). MayBeWritten n id (g ∷ []) k q x) (kept_is n m s g kept mounts) (written x left) };
        describes = describes;
        turns = turns;
      }
