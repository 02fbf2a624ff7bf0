-- The lists of a new group's disks.
use Rattle.std.proofs.Common.{◌≡◌, ◌⊎◌, inl, inr, ⊎_elim, ℕ, zero, suc, ◌<◌, ◌≤◌, true, ◌&&◌, leb, ◌==◌, List, [], ◌∷◌, length, get_or, replicate, refl, sym, ap, subst, ◌∙◌, Option, Some, None, IsSome, IsTrue, unwrap_or, arith}
use Rattle.std.specs.Option.{option_map}
use Rattle.std.proofs.lemmas.Bool.{and_from, and_parts, cond_both, cond-true, eq-eqb, leb-true, or_left, or_right}
use Rattle.std.proofs.lemmas.Option.{same_Some}
use Rattle.bay.specs.State.{BayState}
use Rattle.asm_formats.specs.Following.{Holder, disks_of}
use Rattle.asm_formats.specs.Sets.{has_bit}
use Rattle.asm_formats.specs.Status.{Entry, entry_of}
use Rattle.asm_group.specs.Shape.{Shape, is_dir_blocks, is_sector, is_shape, is_step, is_unit_size}
use Rattle.asm_images.proofs.Members.{member_shape}
use Rattle.asm_formats.specs.Among.{IsAmong}
use Rattle.directory_store.specs.change_directory.Places.{IsCopy}
use Rattle.directory_store.specs.change_directory.declared.copy.DirCopy.{DirCopy}
use Rattle.directory_store.specs.Copies as copies
use Rattle.directory_store.specs.Stores.{HaveOneSize}
use Rattle.mounted_groups.specs.group_recovery.NamedCopies.{directory_copy_of}
use Rattle.mounted_groups.specs.group_recovery.Recovering.{AreDisksOf}
use Rattle.mounted_groups.specs.group_recovery.Verdicts.{IsSlotIn, member_of}
use Rattle.mounted_groups.specs.group_recovery.declared.finding.Headed.{Headed}
use Rattle.mounted_groups.proofs.group_recovery.NextRecords.{element_bit, element_small, in_elements}
use Rattle.mounted_groups.proofs.group_recovery.Searches.{sector_of}
use Rattle.mounted_groups.proofs.group_recovery.Surveyed.{header_number}
use Rattle.status_register.specs.Holders.{is_of}
use Rattle.status_register.specs.Places.{HasSlots}
use Rattle.status_register.specs.Registered.{AreNumbered, all_placed}
use Rattle.status_register.specs.Rows as rows
use Rattle.status_register.specs.Surveys.{is_holder_there}
use Rattle.status_register.specs.Tallies.{HaveSlots}
use Rattle.status_register.specs.Writes.{first_register}
use Rattle.status_register.specs.declared.member.Member.{Member}
use Rattle.status_register.proofs.Holding.{Apart, apart_list, disk_is, entry_birth}
use Rattle.status_register.proofs.Placing.{placed_good, placed_is, placed_of}
use Rattle.mounted_groups.specs.group_engine.Mounts.{AreCopiesOf, IsCopyOf}
use Rattle.new_groups.specs.Drafts.{HasAgreeingParts, AreDisksApart, copy_list, disk_list, holder_list, member_list}
use Rattle.new_groups.specs.Forming.{AreDisks}
use Rattle.new_groups.specs.declared.draft.Draft.{Draft}

-- ---- from the disks, and back

pub among_at : (hs : List Headed) (i : ℕ) (d : Headed) → i < length hs → IsAmong hs (get_or hs i d)
among_at [] i d lt = absurd (omega arith)
among_at (h ∷ hs) zero d lt = inl refl
among_at (h ∷ hs) (suc i) d lt = inr (among_at hs i d (omega arith))

-- the disk that was read at an index
pub item_among : (hs : List Headed) (i : ℕ) (d : Headed) → i < length hs → d ≡ get_or hs i d → IsAmong hs d
item_among hs i d lt is = subst (λ (x : Headed). IsAmong hs x) (sym is) (among_at hs i d lt)

pub from_members : (hs : List Headed) (m : Member) → IsAmong (member_list hs) m → (h : Headed) × IsAmong hs h × (m ≡ member_of h)
from_members [] m among = absurd among
from_members (h ∷ hs) m (inl e) = (h, inl refl, e)
from_members (h ∷ hs) m (inr later) = let k = from_members hs m later in (k.0, inr k.1, k.2)

pub in_members : (hs : List Headed) (h : Headed) → IsAmong hs h → IsAmong (member_list hs) (member_of h)
in_members [] h among = absurd among
in_members (k ∷ ks) h (inl e) = inl (ap member_of e)
in_members (k ∷ ks) h (inr later) = inr (in_members ks h later)

pub from_holders : (set : ℕ) (hs : List Headed) (m : Member) → IsAmong (holder_list set hs) m → (h : Headed) × IsAmong hs h × (m ≡ member_of h)
from_holders set [] m among = absurd among
from_holders set (h ∷ hs) m among =
    let later : IsAmong (holder_list set hs) m → (k : Headed) × IsAmong (h ∷ hs) k × (m ≡ member_of k) = λ a. let k = from_holders set hs m a in (k.0, inr k.1, k.2) in
    cond_both (has_bit set h.header.number) (member_of h ∷ holder_list set hs) (holder_list set hs)
    (λ (l : List Member). IsAmong l m → (k : Headed) × IsAmong (h ∷ hs) k × (m ≡ member_of k))
    (λ is a. ⊎_elim (λ e. (h, inl refl, e)) later a) (λ no. later) among

pub from_copies : (set : ℕ) (hs : List Headed) (c : DirCopy) → IsAmong (copy_list set hs) c → (h : Headed) × IsAmong hs h × (c ≡ directory_copy_of h) × (has_bit set h.header.number ≡ true)
from_copies set [] c among = absurd among
from_copies set (h ∷ hs) c among =
    let later : IsAmong (copy_list set hs) c → (k : Headed) × IsAmong (h ∷ hs) k × (c ≡ directory_copy_of k) × (has_bit set k.header.number ≡ true) = λ a. let k = from_copies set hs c a in (k.0, inr k.1, k.2, k.3) in
    cond_both (has_bit set h.header.number) (directory_copy_of h ∷ copy_list set hs) (copy_list set hs)
    (λ (l : List DirCopy). IsAmong l c → (k : Headed) × IsAmong (h ∷ hs) k × (c ≡ directory_copy_of k) × (has_bit set k.header.number ≡ true))
    (λ is a. ⊎_elim (λ e. (h, inl refl, e, is)) later a) (λ no. later) among

pub in_copies : (set : ℕ) (hs : List Headed) (h : Headed) → IsAmong hs h → has_bit set h.header.number ≡ true → IsAmong (copy_list set hs) (directory_copy_of h)
in_copies set [] h among bit = absurd among
in_copies set (k ∷ ks) h (inl e) bit =
    subst (λ (l : List DirCopy). IsAmong l (directory_copy_of h))
    (sym (cond-true (has_bit set k.header.number) (directory_copy_of k ∷ copy_list set ks) (copy_list set ks) (ap (λ (x : Headed). has_bit set x.header.number) (sym e) ∙ bit)))
    (inl (ap directory_copy_of e))
in_copies set (k ∷ ks) h (inr later) bit =
    let there = in_copies set ks h later bit in
    cond_both (has_bit set k.header.number) (directory_copy_of k ∷ copy_list set ks) (copy_list set ks) (λ (l : List DirCopy). IsAmong l (directory_copy_of h)) (λ is. inr there) (λ no. there)

from_disks : (hs : List Headed) (x : Member × ℕ) → IsAmong (disk_list hs) x → (h : Headed) × IsAmong hs h × (x ≡ (member_of h, h.size))
from_disks [] x among = absurd among
from_disks (h ∷ hs) x (inl e) = (h, inl refl, e)
from_disks (h ∷ hs) x (inr later) = let k = from_disks hs x later in (k.0, inr k.1, k.2)

in_disks : (hs : List Headed) (h : Headed) → IsAmong hs h → IsAmong (disk_list hs) (member_of h, h.size)
in_disks [] h among = absurd among
in_disks (k ∷ ks) h (inl e) = inl (ap (λ (x : Headed). (member_of x, x.size)) e)
in_disks (k ∷ ks) h (inr later) = inr (in_disks ks h later)

-- ---- apart

members_apart : (hs : List Headed) → AreDisksApart hs → Apart (member_list hs)
members_apart [] apart = tt
members_apart (h ∷ hs) apart = (
  (λ n among same. let k = from_members hs n among in (apart.0 k.0 k.1).0 (ap (λ (x : Member). x.slot) (sym k.2) ∙ same)),
  members_apart hs apart.1,
)

holders_apart : (set : ℕ) (hs : List Headed) → AreDisksApart hs → Apart (holder_list set hs)
holders_apart set [] apart = tt
holders_apart set (h ∷ hs) apart =
    let later : Apart (holder_list set hs) = holders_apart set hs apart.1 in
    cond_both (has_bit set h.header.number) (member_of h ∷ holder_list set hs) (holder_list set hs) Apart
    (λ is. ((λ n among same. let k = from_holders set hs n among in (apart.0 k.0 k.1).0 (ap (λ (x : Member). x.slot) (sym k.2) ∙ same)), later)) (λ no. later)

copies_apart : (set : ℕ) (hs : List Headed) → AreDisksApart hs → copies.AreCopiesApart (copy_list set hs)
copies_apart set [] apart = tt
copies_apart set (h ∷ hs) apart =
    let later : copies.AreCopiesApart (copy_list set hs) = copies_apart set hs apart.1 in
    cond_both (has_bit set h.header.number) (directory_copy_of h ∷ copy_list set hs) (copy_list set hs) copies.AreCopiesApart
    (λ is. (
      (λ c among. let k = from_copies set hs c among in (
        (λ same. (apart.0 k.0 k.1).0 (ap (λ (x : DirCopy). x.slot) (sym k.2) ∙ sym same)),
        (λ same. (apart.0 k.0 k.1).1 (ap (λ (x : DirCopy). x.number) (sym k.2) ∙ sym same)),
      )),
      later,
    )) (λ no. later)

-- a number is that of one disk
one_number : (hs : List Headed) → AreDisksApart hs → (h k : Headed) → IsAmong hs h → IsAmong hs k → h.header.number ≡ k.header.number → h ≡ k
one_number [] apart h k in_h in_k same = absurd in_h
one_number (x ∷ xs) apart h k (inl e) (inl f) same = e ∙ sym f
one_number (x ∷ xs) apart h k (inl e) (inr b) same = absurd ((apart.0 k b).1 (sym same ∙ ap (λ (y : Headed). y.header.number) e))
one_number (x ∷ xs) apart h k (inr a) (inl f) same = absurd ((apart.0 h a).1 (same ∙ ap (λ (y : Headed). y.header.number) f))
one_number (x ∷ xs) apart h k (inr a) (inr b) same = one_number xs apart.1 h k a b same

few_holders : (set : ℕ) (hs : List Headed) → length (holder_list set hs) ≤ length hs
few_holders set [] = omega arith
few_holders set (h ∷ hs) =
    let later = few_holders set hs in
    cond_both (has_bit set h.header.number) (member_of h ∷ holder_list set hs) (holder_list set hs) (λ (l : List Member). length l ≤ suc (length hs)) (λ is. omega (arith, later)) (λ no. omega (arith, later))

-- ---- what the calls ask for

pub pages_of : (s : Shape) → is_shape s ≡ true → (128 ≤ s.dir_blocks) × (s.dir_blocks ≤ 16384)
unfolding is_shape
pages_of s ok =
    let p = and_parts (is_unit_size s.au) _ ok in
    let q = and_parts (is_step s.step) _ p.1 in
    let r = and_parts (is_sector s.sector s.au) (is_dir_blocks s.dir_blocks) q.1 in
    let b = and_parts (leb 128 s.dir_blocks) (leb s.dir_blocks 16384) r.1 in
    (leb-true 128 s.dir_blocks b.0, leb-true s.dir_blocks 16384 b.1)

module _ (d : Draft) (agrees : HasAgreeingParts d) where
  abbrev hs : List Headed
  hs = d.disks.items

  abbrev entries : List Entry
  entries = d.status.entries

  header_of : (h : Headed) → IsAmong hs h → h.header.number < 64
  header_of h among = header_number h.header (agrees.right h among).header

  sector_is : (h : Headed) → IsAmong hs h → (h.header.shape.sector ≡ 512) ⊎ (h.header.shape.sector ≡ 4096)
  sector_is h among = sector_of h.header.shape (member_shape h.header (agrees.right h among).header)

  pub numbers_small : (h : Headed) → IsAmong hs h → h.header.number < 64
  numbers_small = header_of

  pub members_numbered : AreNumbered (member_list hs)
  members_numbered m among = let k = from_members hs m among in omega (arith, ap (λ (x : Member). x.number) k.2, header_of k.0 k.1)

  pub members_are_apart : rows.HaveOwnSlots (member_list hs)
  members_are_apart = apart_list (member_list hs) (members_apart hs agrees.apart)

  pub holders_are_apart : rows.HaveOwnSlots (holder_list d.status.holders hs)
  holders_are_apart = apart_list (holder_list d.status.holders hs) (holders_apart d.status.holders hs agrees.apart)

  pub holders_few : length (holder_list d.status.holders hs) ≤ 512
  holders_few = omega (arith, few_holders d.status.holders hs, agrees.few)

  module _ (state : BayState) (disks : AreDisks hs state) where
    size_at : (h : Headed) → IsAmong hs h → unwrap_or (state.attached h.slot) 0 ≡ h.size
    size_at h among = ap (λ (o : Option ℕ). unwrap_or o 0) (disks h among).attached

    slots_of : (h : Headed) → IsAmong hs h → HasSlots state h.slot h.header.shape.sector
    slots_of h among = record {
      attached = subst IsSome (sym (disks h among).attached) refl;
      sector_size = sector_is h among;
      long = omega (arith, size_at h among, (disks h among).long, (pages_of h.header.shape (member_shape h.header (agrees.right h among).header)).0);
    }

    pub members_slots : HaveSlots state (member_list hs)
    members_slots m among = let k = from_members hs m among in subst (λ (x : Member). HasSlots state x.slot x.sector) (sym k.2) (slots_of k.0 k.1)

    pub holders_slots : HaveSlots state (holder_list d.status.holders hs)
    holders_slots m among = let k = from_holders d.status.holders hs m among in subst (λ (x : Member). HasSlots state x.slot x.sector) (sym k.2) (slots_of k.0 k.1)

    copy_at : (h : Headed) → IsAmong hs h → IsCopy state (directory_copy_of h)
    copy_at h among =
        let pages = pages_of h.header.shape (member_shape h.header (agrees.right h among).header) in
        record {
          attached = subst IsSome (sym (disks h among).attached) refl;
          sector_size = sector_is h among;
          least = pages.0;
          most = pages.1;
          inside = omega (arith, size_at h among, (disks h among).long);
        }

    pub copies_named : copies.AreNamedCopies (copy_list d.status.directories hs) [] state
    copies_named c among =
        let k = from_copies d.status.directories hs c among in
        subst (λ (x : DirCopy). copies.IsNamedCopy [] state x) (sym k.2) (record { copy_is = copy_at k.0 k.1; number = header_of k.0 k.1; due = refl })

  pub copies_are_apart : copies.AreCopiesApart (copy_list d.status.directories hs)
  copies_are_apart = copies_apart d.status.directories hs agrees.apart

  pub one_size : HaveOneSize (copy_list d.status.directories hs)
  one_size b c in_b in_c =
      let h = from_copies d.status.directories hs b in_b in
      let k = from_copies d.status.directories hs c in_c in
      ap (λ (x : DirCopy). x.dir_blocks) h.2 ∙ (agrees.right h.0 h.1).pages ∙ sym (ap (λ (x : DirCopy). x.dir_blocks) k.2 ∙ (agrees.right k.0 k.1).pages)

  -- ---- the register

  abbrev places : List (Option Member)
  places = all_placed entries (replicate 64 None) (member_list hs)

  -- a disk is in the place of its number
  at_place : (h : Headed) → IsAmong hs h → get_or places h.header.number None ≡ Some (member_of h)
  at_place h among =
      let good = placed_good entries (member_list hs) (member_of h) members_numbered (in_members hs h among) (agrees.right h among).entry in
      let is = placed_is entries (member_list hs) h.header.number good.0 members_numbered good.1 in
      let k = from_members hs good.0 is.0 in
      let same : k.0 ≡ h = one_number hs agrees.apart k.0 h k.1 among (ap (λ (x : Member). x.number) (sym k.2) ∙ good.2) in
      good.1 ∙ ap (λ (x : Member). Some x) (k.2 ∙ ap member_of same)

  there_by : (ms : List Member) (h : Holder) (m : Member) → IsAmong ms m → m.number ≡ h.0 → m.birth ≡ h.1 → is_holder_there ms h ≡ true
  there_by [] h m among number birth = absurd among
  there_by (x ∷ xs) h m (inl e) number birth =
      or_left ((x.number == h.0) && (x.birth == h.1)) (is_holder_there xs h)
      (and_from (x.number == h.0) (x.birth == h.1) (eq-eqb x.number h.0 (ap (λ (y : Member). y.number) (sym e) ∙ number)) (eq-eqb x.birth h.1 (ap (λ (y : Member). y.birth) (sym e) ∙ birth)))
  there_by (x ∷ xs) h m (inr later) number birth = or_right ((x.number == h.0) && (x.birth == h.1)) (is_holder_there xs h) (there_by xs h m later number birth)

  -- each holder is there
  pub all_there : (h : Holder) → IsAmong (disks_of entries d.status.holders) h → IsTrue (is_holder_there (member_list hs) h)
  all_there h among =
      let disk = disk_is entries d.status.holders h among in
      let k = agrees.holders h.0 disk.small disk.bit in
      let birth : k.0.header.birth ≡ h.1 = same_Some k.0.header.birth h.1
      (sym (entry_birth entries (member_of k.0) (agrees.right k.0 k.1).entry) ∙ ap (λ (n : ℕ). option_map (λ (e : Entry). e.birth) (entry_of entries n)) k.2 ∙ disk.birth) in
      there_by (member_list hs) h (member_of k.0) (in_members hs k.0 k.1) k.2 birth

  -- ---- the parts of the mounted group

  pub copies_are : AreCopiesOf d.status places d.shape (copy_list d.status.directories hs)
  copies_are = record {
    each = λ c among.
        let k = from_copies d.status.directories hs c among in
        let right = agrees.right k.0 k.1 in
        subst (λ (x : DirCopy). IsCopyOf d.status places d.shape x) (sym k.2) (record {
          named = in_elements d.status.directories k.0.header.number (header_of k.0 k.1) k.3;
          member = member_of k.0;
          attached = at_place k.0 k.1;
          slot = refl;
          entry = right.entry;
          pages = right.pages;
          sector = right.sector;
        });
    all = λ n named.
        let k = agrees.directories n (element_small d.status.directories n named) (element_bit d.status.directories n named) in
        (directory_copy_of k.0, in_copies d.status.directories hs k.0 k.1 (ap (has_bit d.status.directories) k.2 ∙ element_bit d.status.directories n named), k.2);
  }

  pub placed_number : (i : ℕ) (m : Member) → get_or places i None ≡ Some m → m.number ≡ i
  placed_number i m there = (placed_is entries (member_list hs) i m members_numbered there).1

  pub placed_entry : (i : ℕ) (m : Member) → get_or places i None ≡ Some m → is_of entries m ≡ true
  placed_entry i m there = placed_of entries (member_list hs) i m members_numbered there

  pub placed_disk : (i : ℕ) (m : Member) → get_or places i None ≡ Some m → IsSlotIn hs m.slot
  placed_disk i m there =
      let k = from_members hs m (placed_is entries (member_list hs) i m members_numbered there).0 in
      (k.0, k.1, ap (λ (x : Member). x.slot) k.2)

  pub disks_are : (state : BayState) → ((h : Headed) → IsAmong hs h → state.attached h.slot ≡ Some h.size) → AreDisksOf (first_register d.status (member_list hs)) (disk_list hs) state
  disks_are state attached = record {
    each = λ x among. let k = from_disks hs x among in subst (λ (y : Member × ℕ). get_or places y.0.number None ≡ Some y.0) (sym k.2) (at_place k.0 k.1);
    small = λ x among. let k = from_disks hs x among in subst (λ (y : Member × ℕ). y.0.number < 64) (sym k.2) (header_of k.0 k.1);
    sizes = λ x among. let k = from_disks hs x among in subst (λ (y : Member × ℕ). state.attached y.0.slot ≡ Some y.1) (sym k.2) (attached k.0 k.1);
    all = λ i m there.
        let k = from_members hs m (placed_is entries (member_list hs) i m members_numbered there).0 in
        (k.0.size, subst (λ (x : Member). IsAmong (disk_list hs) (x, k.0.size)) (sym k.2) (in_disks hs k.0 k.1));
  }
