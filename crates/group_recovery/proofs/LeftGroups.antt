-- What a mount leaves on the disks: the premises of its claim and record anew are those of what was read.
use Rattle.std.proofs.Common.{◌≡◌, ◌⊎◌, inl, inr, ⊎_elim, ℕ, ◌+◌, ◌^◌, ◌<◌, ◌≤◌, Bool, true, false, cond, ◌||◌, ◌==◌, List, [], ◌∷◌, length, map, refl, sym, ap, subst, ◌∙◌, Option, Some, None, arith, IsTrue}
use Rattle.std.specs.List.{list_any, range_with_len}
use Rattle.std.specs.Option.{option_map}
use Rattle.std.proofs.lemmas.Bool.{cond_both, eq-eqb, eqb-true, true≢false}
use Rattle.std.proofs.lemmas.Option.{same_Some}
use Rattle.bay.specs.Image.{ChangesOnly, Image, SameDisk}
use Rattle.bay.specs.Moments.{LeavesOnly, NowOnly, Runs}
use Rattle.bay.specs.State.{BayState, IsSound, KeepsAttached}
use Rattle.bay.proofs.Calls.{stops}
use Rattle.asm_group.specs.Group.{Group}
use Rattle.asm_group.specs.Names.{Bytes}
use Rattle.asm_formats.specs.Among.{IsAmong}
use Rattle.asm_formats.specs.Content.{Content, records_in}
use Rattle.asm_formats.specs.Header.{Header}
use Rattle.asm_formats.specs.Metadata.{Metadata, metadata}
use Rattle.asm_formats.specs.Metadata.{content_of as said_content}
use Rattle.asm_formats.specs.Pages.{copy_content}
use Rattle.asm_formats.specs.Sets.{elements, has_bit}
use Rattle.asm_formats.specs.Status.{Entry, Status, entry_of, is_status}
use Rattle.asm_images.specs.Bridge.{disk_bytes, disks_in}
use Rattle.asm_images.specs.Kept.{Kept, header_in, IsHeld, IsMemberIn}
use Rattle.asm_images.specs.Members as images
use Rattle.asm_images.specs.Members.{all_members, within}
use Rattle.asm_images.specs.Sound.{SoundBy}
use Rattle.asm_images.specs.Directories.{IsNamed}
use Rattle.asm_images.specs.Stands.{Describes, Standing}
use Rattle.asm_images.proofs.Held.{complete_stands}
use Rattle.asm_images.proofs.Membership.{among_filtered}
use Rattle.directory_store.specs.change_directory.declared.copy.DirCopy.{DirCopy}
use Rattle.directory_store.specs.change_directory.Changes.{content_in}
use Rattle.directory_store.proofs.Present.{disk_has, has_of_disk}
use Rattle.status_register.specs.Holders.{is_of, with_next_number}
use Rattle.status_register.specs.Keeping as registers
use Rattle.status_register.specs.Registered.{Registered, register_of}
use Rattle.status_register.specs.SurveyLaws.{IsMemberOn, slots_of}
use Rattle.status_register.specs.Surveys.{disk_in, missing}
use Rattle.status_register.specs.Tallies.{IsSlotOf}
use Rattle.status_register.specs.Writes.{first_register}
use Rattle.status_register.specs.declared.member.Member.{Member}
use Rattle.status_register.proofs.Holding.{entry_birth}
use Rattle.status_register.proofs.Meeting.{any_among, enough_there, found}
use Rattle.status_register.proofs.Placing.{placed_is}
use Rattle.status_register.proofs.RowFits.{next_claim_allowed}
use Rattle.status_table.proofs.Allowed.{parts_are, parts_of}
use Rattle.group_recovery.specs.Finding.{AreInOwnSlots}
use Rattle.group_recovery.specs.Mounting.{Allows, AllTaken, DescribesIn, HasTakenContent, IsMount, MeansOne, MountReading, NamesCopy}
use Rattle.group_recovery.specs.NamedCopies.{directory_copy_of}
use Rattle.group_recovery.specs.NextRecord.{IsNextRecord}
use Rattle.group_recovery.specs.Quorum.{IsQuorum}
use Rattle.group_recovery.specs.Recovered.{ChangesMembers, IsMeant, LeavesOneGroup, StoodFor, is_own_slot}
use Rattle.group_recovery.specs.Recovering.{IsAnew, disks_with, is_own, name_in, own_members}
use Rattle.group_recovery.specs.Renewing.{Renews}
use Rattle.group_recovery.specs.Verdicts.{member_of, members_with}
use Rattle.group_recovery.specs.Writing.{AreMembersOn, FrontOf, HoldsOneGroup, IsReadNow, KeepsAnyRegister, KeepsGroups, mount_of}
use Rattle.group_recovery.specs.declared.finding.Headed.{Headed}
use Rattle.group_recovery.specs.declared.quorum.Quorate.{Quorate}
use Rattle.group_recovery.specs.declared.recovering.Anew.{Anew}
use Rattle.group_recovery.proofs.Alikes.{once, shape_from}
use Rattle.group_recovery.proofs.Leaving.{header_stays}
use Rattle.group_recovery.proofs.Mounting.{in_slots, is_named, is_there, one_is_meant}
use Rattle.group_recovery.proofs.NextRecords.{element_bit, element_small, from, in_elements, next_renews}
use Rattle.group_recovery.proofs.Owns.{is_owned, own_from, own_with, owned, same_is_of, same_own}
use Rattle.group_recovery.proofs.Recovered.{keeps, numbered_renews, numbers, own_among, own_of}
use Rattle.group_recovery.proofs.Surveyed.{header_number, member_on, surveyed_is_read}
use Rattle.group_recovery.proofs.Taking.{at_slot, found_alone}

-- ---- records and copies

-- a record of the formats is one under other numbers
numbered_allowed : (r : Status) (epoch turn : ℕ) → epoch < 2 ^ 64 → turn < 2 ^ 64 → IsTrue (is_status r) → IsTrue (is_status (record r { epoch = epoch; turn = turn }))
numbered_allowed r epoch turn small few ok =
    let p = parts_of r ok in
    parts_are (record r { epoch = epoch; turn = turn }) (record {
      id = p.id;
      epoch = small;
      turn = few;
      births = p.births;
      holders = p.holders;
      next_holders = p.next_holders;
      directories = p.directories;
      all = p.all;
      up = p.up;
      of_holders = p.of_holders;
      of_next = p.of_next;
      of_directories = p.of_directories;
    })

only_one : (g h : Group) → IsAmong (h ∷ []) g → g ≡ h
only_one g h (inl same) = same
only_one g h (inr none) = absurd none

-- where one group is held by a record, the content of a copy that it names describes that group
one_described : (id : ℕ) (image : images.ImageBytes) (r : Status) (g : Group) (m : images.Member) (c : Content) → SoundBy id image (g ∷ []) (Some r) [] → r.gone ≡ false
    → IsAmong (all_members id image) m → IsNamed r m.header → m.disk.content ≡ Some c → Describes image (all_members id image) (all_members id image) r c g
one_described id image r g m c sound alive among named is =
    let d = (sound.covered r (inl refl) alive).described (at_slot m.slot) c (found_alone id image r m c among named is) in
    subst (λ (k : Group). Describes image (all_members id image) (all_members id image) r c k) (only_one d.0 g d.1) d.2

some_copy : (copies : List DirCopy) → 0 < length copies → (c : DirCopy) × IsAmong copies c
some_copy [] some = absurd (omega (arith, some))
some_copy (c ∷ copies) some = (c, inl refl)

-- the disks are in slots of their own
one_slot : (hs : List Headed) → AreInOwnSlots hs → (h k : Headed) → IsAmong hs h → IsAmong hs k → h.slot ≡ k.slot → h ≡ k
one_slot [] apart h k one two same = absurd one
one_slot (x ∷ xs) (here, rest) h k (inl a) (inl b) same = a ∙ sym b
one_slot (x ∷ xs) (here, rest) h k (inl a) (inr b) same = absurd (here k b (sym same ∙ ap (λ (y : Headed). y.slot) a))
one_slot (x ∷ xs) (here, rest) h k (inr a) (inl b) same = absurd (here h a (same ∙ ap (λ (y : Headed). y.slot) b))
one_slot (x ∷ xs) (here, rest) h k (inr a) (inr b) same = one_slot xs rest h k a b same

-- what a disk says of its copy is the content of that copy
content_here : (x : Image) (slot : ℕ) (h : Header) → header_in x slot ≡ Some h → (disk_in x slot).content ≡ copy_content h.shape.dir_blocks (disk_bytes x slot)
unfolding metadata
content_here x slot h is = ap (λ (o : Option Header). said_content o (disk_bytes x slot)) is

copy_here : (x : Image) (k : Headed) (c : DirCopy) → c ≡ directory_copy_of k → header_in x k.slot ≡ Some k.header → (disk_in x k.slot).content ≡ content_in c x
copy_here x k c copy is = content_here x k.slot k.header is ∙ (λ i. copy_content (sym copy i).dir_blocks (disk_bytes x (sym copy i).slot))

-- the slots of the attached disks, with the sizes of their images or without
same_slots : (id : ℕ) (entries : List Entry) (hs : List Headed) (slot : ℕ) → is_own_slot (disks_with id entries hs) slot ≡ slots_of (own_members id entries hs) slot
same_slots id entries [] slot = refl
same_slots id entries (h ∷ hs) slot = go (is_own id entries h) (same_slots id entries hs slot)
  where
    go : (b : Bool) → is_own_slot (disks_with id entries hs) slot ≡ slots_of (own_members id entries hs) slot
        → is_own_slot (cond b ((member_of h, h.size) ∷ disks_with id entries hs) (disks_with id entries hs)) slot
        ≡ slots_of (cond b (member_of h ∷ own_members id entries hs) (own_members id entries hs)) slot
    go true same = ap (λ (rest : Bool). (h.slot == slot) || rest) same
    go false same = same

-- the disk that gives the group its name
name_from : (id : ℕ) (hs : List Headed) (name : Bytes) → name_in id hs ≡ Some name → (h : Headed) × IsAmong hs h × (h.header.id ≡ id) × (h.header.group ≡ name)
name_from id [] name e = absurd cc
name_from id (h ∷ hs) name e = cond_both (h.header.id == id) (Some h.header.group) (name_in id hs) (λ (o : Option Bytes). o ≡ Some name → (k : Headed) × IsAmong (h ∷ hs) k × (k.header.id ≡ id) × (k.header.group ≡ name))
    (λ is same. (h, inl refl, eqb-true h.header.id id is, same_Some h.header.group name same))
    (λ no later. let k = name_from id hs name later in (k.0, inr k.1, k.2, k.3)) e

-- ---- what was read

module _ (q : Quorate) (s : BayState) (quorum : IsQuorum q s) where
  abbrev hs : List Headed
  hs = q.headed.items

  -- the content of the store's copies
  abbrev taken : Content
  taken = record { commit = q.store.number; items = records_in (map quorum.kept.page (range_with_len 0 q.store.table.free.units)) }

  copy_has : (c : DirCopy) → IsAmong q.store.copies c → (x : Image) → s.leaves s.calls x → content_in c x ≡ Some taken
  copy_has c among x left = (quorum.kept.now.now x left c among).content.content
      ∙ (λ i. Some (record { commit = q.store.number; items = records_in (map quorum.kept.page (range_with_len 0 (quorum.kept.pages c among i))) }))

  -- each copy is on a disk that was surveyed
  surveyed : (c : DirCopy) (among : IsAmong q.store.copies c) → IsAmong q.survey.members (member_of (from q s quorum c among).disk)
  surveyed c among =
      let f = from q s quorum c among in
      let m = found (λ (k : Member). k.slot == f.disk.slot) q.survey.read f.seen in
      let inside = quorum.survey.well.among m.0 m.1 in
      let k = own_of q.id hs m.0 (quorum.among m.0 inside) in
      let same : k.0 ≡ f.disk = one_slot hs quorum.there.apart k.0 f.disk k.1 f.among (ap (λ (x : Member). x.slot) (sym k.2) ∙ eqb-true m.0.slot f.disk.slot m.2) in
      subst (λ (x : Member). IsAmong q.survey.members x) (k.2 ∙ ap member_of same) inside

  -- a group that an image means has the name and the shape of each member
  member_named : (x : Image) → s.leaves s.calls x → (g : Group) → IsMeant q q.survey.value g x → (k : Headed) → IsAmong hs k → k.header.id ≡ q.id
      → (g.name ≡ k.header.group) × (g.shape ≡ k.header.shape)
  member_named x left g meant k among own =
      let c = some_copy q.store.copies quorum.some in
      let described = meant q.slots c.0 taken (omega arith) c.1 (copy_has c.0 c.1 x left) in
      let i = is_there q.slots q.id x (member_of k) (member_on q.slots q.id hs s quorum.there (member_of k) (own_among q.id hs k among own) x left) in
      let header : i.member.header ≡ k.header = same_Some i.member.header k.header (sym i.header_is ∙ (quorum.there.now k among).now x left) in
      let disk = described.disks i.member i.among in
      (sym disk.name ∙ ap (λ (h : Header). h.group) header, sym disk.shape ∙ ap (λ (h : Header). h.shape) header)

  named_here : (name : Bytes) → name_in q.id hs ≡ Some name → (x : Image) → s.leaves s.calls x → (g : Group) → IsMeant q q.survey.value g x → (g.name ≡ name) × (g.shape ≡ q.shape)
  named_here name is x left g meant =
      let k = name_from q.id hs name is in
      let l = shape_from q.id hs q.shape quorum.shape in
      ((member_named x left g meant k.0 k.1 k.2).0 ∙ k.3, (member_named x left g meant l.0 l.1 l.2).1 ∙ l.3)

  module _ (now : ℕ) (next : Status) (made : IsNextRecord q now next) (ok : IsTrue (is_status next)) (groups : List Group) (may : StoodFor q groups s) where
    abbrev v : Status
    v = with_next_number (register_of q.survey) next

    abbrev mount : MountReading
    mount = mount_of q.survey next taken

    renews : Renews q.survey.value next
    renews = next_renews q s quorum now next made

    -- the copy of each disk that the record names
    named_copy : (d : ℕ) → IsAmong (elements next.directories) d → (c : DirCopy) × IsAmong q.store.copies c × (c.number ≡ d)
    named_copy d h = has_of_disk d q.store.copies (sym (made.copies d (element_small next.directories d h))
        ∙ sym (ap (λ (x : Status). has_bit x.directories d) made.next_is) ∙ element_bit next.directories d h)

    -- the disk of a copy is that of its number's entry
    entry_still : (c : DirCopy) (among : IsAmong q.store.copies c) → is_of next.entries (member_of (from q s quorum c among).disk) ≡ true
    entry_still c among =
        let f = from q s quorum c among in
        same_is_of next.entries q.survey.value.entries (member_of f.disk) renews.entries ∙ f.entry

    names_copy : (c : DirCopy) (among : IsAmong q.store.copies c) → IsAmong (elements next.directories) c.number → NamesCopy mount.next (member_of (from q s quorum c among).disk)
    names_copy c among named =
        let f = from q s quorum c among in
        (subst (λ (k : ℕ). IsAmong (elements next.directories) k) (ap (λ (x : DirCopy). x.number) f.copy) named, entry_still c among)

    is_mount : IsMount mount
    is_mount = record {
      renews = numbered_renews q.survey.value next v.epoch v.turn renews;
      not_gone = quorum.survey.not_gone;
      group = ap (λ (x : Status). x.id) made.next_is ∙ quorum.survey.well.group;
      is_record = numbered_allowed next v.epoch v.turn (omega arith) (omega arith) ok;
      is_a_claim = next_claim_allowed q.survey.id q.survey.epoch (omega (arith, quorum.survey.well.group, (parts_of q.survey.value quorum.survey.well.allowed).id));
      on_attached = λ d h.
          let c = named_copy d h in
          let f = from q s quorum c.0 c.1 in (
            member_of f.disk,
            surveyed c.0 c.1,
            names_copy c.0 c.1 (subst (λ (k : ℕ). IsAmong (elements next.directories) k) (sym c.2) h),
            sym (ap (λ (x : DirCopy). x.number) f.copy) ∙ c.2,
          );
      numbers = quorum.survey.numbers;
    }

    -- ---- on each image that a stop may leave before

    module _ (x : Image) (left : s.leaves s.calls x) where
      disk_has_taken : (c : DirCopy) (among : IsAmong q.store.copies c) → HasTakenContent mount (member_of (from q s quorum c among).disk) x
      disk_has_taken c among =
          let f = from q s quorum c among in
          copy_here x f.disk c f.copy ((quorum.there.now f.disk f.among).now x left) ∙ copy_has c among x left

      -- so has each surveyed disk whose copy the record names
      all_taken : AllTaken mount x
      all_taken m inside names =
          let c = named_copy m.number names.0 in
          let f = from q s quorum c.0 c.1 in
          let k = own_of q.id hs m (quorum.among m inside) in
          let number : k.0.header.number ≡ f.disk.header.number = ap (λ (y : Member). y.number) (sym k.2) ∙ sym c.2 ∙ ap (λ (y : DirCopy). y.number) f.copy in
          let of : is_of next.entries (member_of k.0) ≡ true = subst (λ (y : Member). is_of next.entries y ≡ true) k.2 names.1 in
          let birth : k.0.header.birth ≡ f.disk.header.birth = same_Some k.0.header.birth f.disk.header.birth
          (sym (entry_birth next.entries (member_of k.0) of) ∙ ap (λ (d : ℕ). option_map (λ (e : Entry). e.birth) (entry_of next.entries d)) number
          ∙ entry_birth next.entries (member_of f.disk) (entry_still c.0 c.1)) in
          let same : k.0 ≡ f.disk = once q.id hs quorum.alike k.0 f.disk k.1 f.among k.3 f.own number birth in
          subst (λ (y : Member). HasTakenContent mount y x) (sym (k.2 ∙ ap member_of same)) (disk_has_taken c.0 c.1)

      means : (g : Group) → IsMeant q q.survey.value g x → MeansOne q.slots mount g x
      means g is slots many =
          let c = some_copy q.store.copies quorum.some in
          subst (λ (id : ℕ). DescribesIn slots id x q.survey.value taken g) (sym quorum.survey.id_is) (is slots c.0 taken many c.1 (copy_has c.0 c.1 x left))

      is_meant : (g : Group) → MeansOne q.slots mount g x → IsMeant q q.survey.value g x
      is_meant g is slots c content many among has =
          let same : content ≡ taken = same_Some content taken (sym has ∙ copy_has c among x left) in
          subst (λ (id : ℕ). DescribesIn slots id x q.survey.value content g) quorum.survey.id_is
          (subst (λ (k : Content). DescribesIn slots q.survey.id x q.survey.value k g) (sym same) (is slots many))

    -- the disk of the first copy
    first : (c : DirCopy) × IsAmong q.store.copies c
    first = some_copy q.store.copies quorum.some

    abbrev source : Member
    source = member_of (from q s quorum first.0 first.1).disk

    named_number : (c : DirCopy) → IsAmong q.store.copies c → IsAmong (elements next.directories) c.number
    named_number c among =
        let f = from q s quorum c among in
        let small : c.number < 64 = omega (arith, ap (λ (x : DirCopy). x.number) f.copy, header_number f.disk.header (quorum.there.allowed f.disk f.among).header) in
        in_elements next.directories c.number small
        (ap (λ (x : Status). has_bit x.directories c.number) made.next_is ∙ made.copies c.number small ∙ disk_has c.number q.store.copies c among refl)

    read_now : IsReadNow q.slots mount source groups s
    read_now = record {
      read = record { now = λ image left. surveyed_is_read q.slots q.survey next taken image (quorum.survey.members.now image left) (quorum.survey.now.now image left) may.epochs };
      source_ = record {
        now = λ image left. record {
          among = surveyed first.0 first.1;
          named = names_copy first.0 first.1 (named_number first.0 first.1);
          taken = disk_has_taken image left first.0 first.1;
        };
      };
      allows = subst (λ (id : ℕ). NowOnly s (Allows id groups)) (sym quorum.survey.id_is) may.allows;
    }

    -- each moment stands for the groups before
    pub moments_are : (t : BayState) → ((content : Content) → KeepsGroups (mount_of q.survey next content) s t) → LeavesOnly s t (Allows q.id groups)
    moments_are t kept = subst (λ (id : ℕ). LeavesOnly s t (Allows id groups)) quorum.survey.id_is (kept taken q.slots source groups is_mount read_now)

    only_is_meant : (g : Group) → groups ≡ g ∷ [] → NowOnly s (IsMeant q q.survey.value g)
    only_is_meant g only = record {
      now = λ image left. is_meant image left g (one_is_meant q.slots mount source g image is_mount (read_now.read.now image left) (read_now.source_.now image left)
          (subst (λ (l : List Group). Allows mount.id l image) only (read_now.allows.now image left)));
    }

    -- ---- on each image once the record is complete

    module _ (enough : missing (own_members q.id next.entries q.headed.items) (Some next) ≡ None) (t : BayState) (attached : KeepsAttached s t)
        (run : Runs (IsSlotOf q.survey.members) (ChangesOnly (FrontOf q.survey.members)) s t) where
      abbrev own : List Member
      own = own_members q.id next.entries q.headed.items

      abbrev register : Registered
      register = first_register v own

      abbrev kept : Kept
      kept = record { completed = v; begun = []; slots = slots_of own }

      module _ (y : Image) (left : t.leaves t.calls y) where
        header_there : (h : Headed) → IsAmong hs h → header_in y h.slot ≡ Some h.header
        header_there h among =
            let k = (stops run).now y left in
            header_stays k.0 y h.slot (k.2.size h.slot) (λ at lt. k.2.byte h.slot at (λ inside. omega (arith, inside.1, lt))) ∙ (quorum.there.now h among).now k.0 k.1

        on : (slots : ℕ) → q.slots ≤ slots → (m : Member) → IsAmong own m → IsMemberOn slots q.id y m
        on slots many m h =
            let k = own_from q.id next.entries hs m h in
            subst (λ (x : Member). IsMemberOn slots q.id y x) (sym k.2) (record {
              inside = omega (arith, many, quorum.there.inside k.0 k.1);
              header = k.0.header;
              header_is = header_there k.0 k.1;
              group = (owned q.id next.entries k.0 k.3).id_is;
              number = refl;
              birth = refl;
            })

        register_on : (slots : ℕ) → q.slots ≤ slots → AreMembersOn slots q.id register y
        register_on slots many i m at = on slots many m (placed_is next.entries own i m (numbers q s quorum next) at).0

        disks_there : (slot : ℕ) → slots_of own slot ≡ true → IsMemberIn q.id y slot
        disks_there slot has =
            let m = found (λ (k : Member). k.slot == slot) own has in
            let k = on q.slots (omega arith) m.0 m.1 in
            subst (λ (d : ℕ). IsMemberIn q.id y d) (eqb-true m.0.slot slot m.2) (k.header, k.header_is, k.group)

        -- the disk of each copy is attached
        copy_own : (c : DirCopy) (among : IsAmong q.store.copies c) → IsAmong own (member_of (from q s quorum c among).disk)
        copy_own c among =
            let f = from q s quorum c among in
            own_with q.id next.entries hs f.disk f.among
            (same_own q.id next.entries q.survey.value.entries f.disk renews.entries ∙ is_owned q.id q.survey.value.entries f.disk f.own f.entry f.units)

        source_own : IsAmong own source
        source_own = copy_own first.0 first.1

        -- that of the first one has a content
        source_content : (c : Content) × ((disk_in y source.slot).content ≡ Some c)
        source_content =
            let f = from q s quorum first.0 first.1 in
            let still = keeps q s quorum now next made t attached run in (
              record { commit = q.store.number; items = records_in (map still.page (range_with_len 0 first.0.dir_blocks)) },
              copy_here y f.disk first.0 f.copy (header_there f.disk f.among) ∙ (still.now.now y left first.0 first.1).content.content,
            )

        stands : (g : Group) → SoundBy q.id (disks_in q.slots y) (g ∷ []) (Some v) [] → Standing q.id (disks_in q.slots y) (slots_of own)
        unfolding within
        stands g sound =
            let i = is_there q.slots q.id y source (on q.slots (omega arith) source source_own) in
            let content = source_content in
            complete_stands q.id (disks_in q.slots y) (g ∷ []) v (slots_of own) i.member content.0 sound (is_mount.renews.gone ∙ is_mount.not_gone)
            (enough_there q.slots q.id y own (on q.slots (omega arith)) v enough)
            (among_filtered (λ (k : images.Member). slots_of own k.slot) (all_members q.id (disks_in q.slots y)) i.member i.among (ap (slots_of own) i.slot ∙ in_slots own source source_own))
            (is_named v source i.member.header (names_copy first.0 first.1 (named_number first.0 first.1)) i.number i.birth)
            (ap (λ (d : Metadata). d.content) i.disk ∙ content.1)

        still_here : (g : Group) → ((slots : ℕ) → SoundBy q.id (disks_in slots y) (g ∷ []) (Some v) []) → IsMeant q v g y
        still_here g sound slots c content many among has =
            let f = from q s quorum c among in
            let m = member_of f.disk in
            let i = is_there slots q.id y m (on slots many m (copy_own c among)) in
            one_described q.id (disks_in slots y) v g i.member content (sound slots) (is_mount.renews.gone ∙ is_mount.not_gone) i.among
            (is_named v m i.member.header (names_copy c among (named_number c among)) i.number i.birth)
            (ap (λ (d : Metadata). d.content) i.disk ∙ copy_here y f.disk c f.copy (header_there f.disk f.among) ∙ has)

        held_here : (g : Group) → ((slots : ℕ) → SoundBy q.id (disks_in slots y) (g ∷ []) (Some v) []) → IsHeld q.slots q.id (g ∷ []) kept y
        held_here g sound = record { sound = sound; standing = stands g (sound q.slots); there = disks_there }

      -- one group is held with the attached disks, and the register keeps its history
      module _ (one : (content : Content) → HoldsOneGroup (mount_of q.survey next content) s t) (g : Group) (among : IsAmong groups g) (meant : NowOnly s (IsMeant q q.survey.value g)) where
        sound_now : (y : Image) → t.leaves t.calls y → (slots : ℕ) → SoundBy q.id (disks_in slots y) (g ∷ []) (Some v) []
        sound_now y left slots =
            let held = one taken q.slots source groups g is_mount read_now (record { now = all_taken }) among (record { now = λ image at. means image at g (meant.now image at) }) in
            subst (λ (id : ℕ). SoundBy id (disks_in slots y) (g ∷ []) (Some v) []) quorum.survey.id_is ((held.now y left).sound slots)

        pub held_now : NowOnly t (IsHeld q.slots q.id (g ∷ []) kept)
        held_now = record { now = λ y left. held_here y left g (sound_now y left) }

        pub still_now : NowOnly t (IsMeant q v g)
        still_now = record { now = λ y left. still_here y left g (sound_now y left) }

      pub history_now : ((content : Content) → KeepsAnyRegister (mount_of q.survey next content) register s t) → (slots : ℕ) → q.slots ≤ slots → registers.FitsRegister slots register (Some v) [] t
      history_now kept slots many =
          kept taken q.slots slots source groups is_mount read_now many
          (record { now = λ y left. subst (λ (id : ℕ). AreMembersOn slots id register y) (sym quorum.survey.id_is) (register_on y left slots many) })

  -- ---- all of it

  pub leaves_one : (now : ℕ) (a : Anew) → IsAnew q now a → (groups : List Group) → StoodFor q groups s → (register : Registered)
      → register ≡ first_register (with_next_number (register_of q.survey) a.next) (own_members q.id a.next.entries q.headed.items) → (t : BayState) → KeepsAttached s t
      → Runs (IsSlotOf q.survey.members) (ChangesOnly (FrontOf q.survey.members)) s t
      → ((content : Content) → HoldsOneGroup (mount_of q.survey a.next content) s t) → ((content : Content) → KeepsAnyRegister (mount_of q.survey a.next content) register s t)
      → LeavesOneGroup q groups (record { name = a.name; id = q.id; shape = q.shape; catalog = q.catalog; store = q.store; register = register; disks = a.disks }) s t
  leaves_one now a is groups may register same t attached run one kept =
      let own = own_members q.id a.next.entries q.headed.items in
      let enough : missing own (Some a.next) ≡ None = subst (λ (l : List Member). missing l (Some a.next) ≡ None) is.members is.enough in
      let value : register.value ≡ with_next_number (register_of q.survey) a.next = ap (λ (x : Registered). x.value) same in
      let slots : is_own_slot a.disks.items ≡ slots_of own =
      λ i slot. (ap (λ (l : List (Member × ℕ)). is_own_slot l slot) is.disks ∙ same_slots q.id a.next.entries q.headed.items slot) i in
      record {
        held = λ g among meant. subst (λ (k : Kept). NowOnly t (IsHeld q.slots q.id (g ∷ []) k)) (λ i. record { completed = sym value i; begun = []; slots = sym slots i })
            (held_now now a.next is.next is.status groups may enough t attached run one g among meant);
        still = λ g among meant. subst (λ (r : Status). NowOnly t (IsMeant q r g)) (sym value)
            (still_now now a.next is.next is.status groups may enough t attached run one g among meant);
        only = only_is_meant now a.next is.next is.status groups may;
        named = λ g. record { now = λ x left meant. named_here a.name is.name x left g meant };
        turn = ap (λ (x : Registered). x.turn) same ∙ omega arith;
        history = λ n many. subst (λ (x : Registered). registers.FitsRegister n x (Some x.value) [] t) (sym same)
            (history_now now a.next is.next is.status groups may enough t attached run
            (subst (λ (x : Registered). (content : Content) → KeepsAnyRegister (mount_of q.survey a.next content) x s t) same kept) n many);
      }

  pub left_moments : (now : ℕ) (a : Anew) → IsAnew q now a → (groups : List Group) → StoodFor q groups s → (t : BayState)
      → ((content : Content) → KeepsGroups (mount_of q.survey a.next content) s t) → LeavesOnly s t (Allows q.id groups)
  left_moments now a is groups may t kept = moments_are now a.next is.next is.status groups may t kept

-- ---- other ids

either : (b : Bool) → (b ≡ true) ⊎ (b ≡ false)
either true = inl refl
either false = inr refl

-- the disks of other slots than those of some members stay
stays_but : (ms : List Member) (slot : ℕ) (x y : Image) → ChangesOnly (FrontOf ms) x y → slots_of ms slot ≡ false → SameDisk slot x y
stays_but ms slot x y step out = record {
  size = step.size slot;
  byte = λ k. step.byte slot k (λ inside.
      let m = inside.0 in
      true≢false (sym (any_among (λ (n : Member). n.slot == slot) ms m.0 m.1 (eq-eqb m.0.slot slot (sym m.2))) ∙ out));
}

module _ (q : Quorate) (s : BayState) (sound : IsSound s) (quorum : IsQuorum q s) where
  members_change : (x y : Image) → s.leaves s.calls x → ChangesOnly (FrontOf (members_with q.id q.headed.items)) x y → ChangesMembers q.id x y
  members_change x y left step slot = ⊎_elim
      (λ has.
      let m = found (λ (n : Member). n.slot == slot) (members_with q.id q.headed.items) has in
      let k = own_of q.id q.headed.items m.0 m.1 in
      let at : k.0.slot ≡ slot = ap (λ (n : Member). n.slot) (sym k.2) ∙ eqb-true m.0.slot slot m.2 in
      let before : header_in x k.0.slot ≡ Some k.0.header = (quorum.there.now k.0 k.1).now x left in
      let after : header_in y k.0.slot ≡ Some k.0.header =
      header_stays x y k.0.slot (step.size k.0.slot) (λ b lt. step.byte k.0.slot b (λ inside. omega (arith, inside.1, lt))) ∙ before in
      inr (subst (λ (d : ℕ). IsMemberIn q.id x d × IsMemberIn q.id y d) at ((k.0.header, before, k.3), (k.0.header, after, k.3))))
      (λ out. inl (stays_but (members_with q.id q.headed.items) slot x y step out))
      (either (slots_of (members_with q.id q.headed.items) slot))

  pub members_run : (t : BayState) {on : ℕ → Type 0} → Runs on (ChangesOnly (FrontOf (members_with q.id q.headed.items))) s t → Runs on (ChangesMembers q.id) s t
  members_run t {on} run = record {
    later = run.later;
    faults = run.faults;
    other_faults = run.other_faults;
    other_written = run.other_written;
    tells = run.tells;
    held = λ image is. let x = run.held image is in (x.0, x.1, members_change x.0 image (sound.held x.0 x.1) x.2);
    ended = run.ended;
    moments = λ m image low high left. let x = run.moments m image low high left in (x.0, x.1, members_change x.0 image x.1 x.2);
  }

pub none_change : (id : ℕ) (x : Image) → ChangesMembers id x x
none_change id x slot = inl (record { size = refl; byte = λ k. refl })
