-- A directory copy that the record doesn't name is brought up: each image stands for what it did, and a record may then name the copy.
use Rattle.std.proofs.Common.{◌≡◌, ◌⊎◌, inl, inr, ⊎_elim, ℕ, suc, ◌+◌, ◌-◌, ◌*◌, ◌<◌, ◌≤◌, ◌^◌, true, List, [], ◌∷◌, length, get_or, slice_index, refl, sym, ap, subst, ◌∙◌, Some, None, arith, IsTrue}
use Rattle.std.specs.Option.{is_some, option_map}
use Rattle.std.proofs.lemmas.Bool.{cases_eq, le-leb}
use Rattle.std.proofs.lemmas.Option.{same_Some}
use Rattle.bay.specs.Image as bay
use Rattle.bay.specs.Image.{ChangesOnly}
use Rattle.bay.specs.State.{BayState, IsSlot, IsSound, KeepsAttached}
use Rattle.bay.specs.Moments.{Runs, NowOnly, LeavesOnly}
use Rattle.bay.proofs.Calls.{now_of, widened}
use Rattle.asm_group.specs.Group.{Group}
use Rattle.asm_group.specs.Shape.{Shape}
use Rattle.asm_formats.specs.Bytes.{block_size}
use Rattle.asm_formats.specs.Regions.{region_start, region_end}
use Rattle.asm_formats.specs.Damage.{directory_damage}
use Rattle.asm_formats.specs.Header.{Header}
use Rattle.asm_formats.specs.Content.{Content}
use Rattle.asm_formats.specs.Items.{Item}
use Rattle.asm_formats.specs.Logs.{logs_decode}
use Rattle.asm_formats.specs.Metadata.{Metadata, metadata}
use Rattle.asm_formats.specs.Pages.{decodes_in}
use Rattle.asm_formats.specs.Sets.{elements}
use Rattle.asm_formats.specs.Status.{Status, Entry, entry_of}
use Rattle.asm_formats.specs.Among.{IsAmong}
use Rattle.asm_formats.proofs.Checkpoints.{open_logs_decode}
use Rattle.asm_formats.proofs.Damaging.{damage_is_seen}
use Rattle.asm_images.specs.Bridge.{disk_bytes, disks_in}
use Rattle.asm_images.specs.Copies.{is_kept}
use Rattle.asm_images.specs.Describing.{DescribesGroup}
use Rattle.asm_images.specs.Directories.{IsNamed}
use Rattle.asm_images.specs.Kept.{Kept, header_in, IsHeld}
use Rattle.asm_images.specs.Members.{Member, all_members, within, disk_of}
use Rattle.asm_images.specs.PutLaws.{bytes_of}
use Rattle.asm_images.specs.Register.{is_enough}
use Rattle.asm_images.specs.Sound.{IsCovered, SoundBy}
use Rattle.asm_images.specs.Stands.{Describes}
use Rattle.asm_images.proofs.Bridges.{bytes_are_listed, disks_are_listed, listed, same_disk}
use Rattle.asm_images.proofs.Membership.{among_within}
use Rattle.asm_images.proofs.OneContent.{one_content_is_covered}
use Rattle.asm_images.proofs.Spans.{widen_keeps}
use Rattle.directory_store.specs.change_directory.Places.{IsCopy}
use Rattle.directory_store.specs.change_directory.declared.copy.DirCopy.{DirCopy}
use Rattle.directory_store.specs.change_directory.Changes.{content_in}
use Rattle.directory_store.specs.change_directory.StoreLaws.{HasRegion, RegionOf}
use Rattle.rebalance.specs.catalog_tables.Items.{AreItemsOf}
use Rattle.rebalance.proofs.catalog_tables.TableItems.{from_map}
use Rattle.directory_store.specs.Contents.{HasCopyRecords}
use Rattle.directory_store.specs.Copies.{IsCopyApart}
use Rattle.directory_store.specs.Copying.{IsReadable, MayBringUp, MayTakeRecords}
use Rattle.directory_store.proofs.Joining.{still_keeps}
use Rattle.directory_store.proofs.Renewing.{sized_now}
use Rattle.status_register.specs.Elsewhere.{LeavesRegister}
use Rattle.status_register.specs.Holders.{with_next_number}
use Rattle.status_register.specs.SurveyLaws.{IsMemberOn}
use Rattle.status_register.specs.Surveys.{disk_in}
use Rattle.status_register.proofs.Elsewhere as register_proofs
use Rattle.status_register.proofs.Holding.{entry_birth}
use Rattle.group_engine.specs.Becoming.{HoldsIn}
use Rattle.group_engine.specs.CommitSteps.{content_of_items, ChangesRegion, IsCommitting, Becomes}
use Rattle.group_engine.specs.Copying.{IsOneMore, IsWith}
use Rattle.group_engine.specs.Mounts.{MountedGroup, IsWhole, Mounts}
use Rattle.group_engine.specs.Recorded.{MayBeWritten, MayGet}
use Rattle.group_engine.proofs.Bytes.{mounted_holds}
use Rattle.group_engine.proofs.Calls.{image_of, items, kept_is, was}
use Rattle.group_engine.proofs.Committing.{region_change, committing_is_sound, committing_is_standing}
use Rattle.group_engine.proofs.Images.{IsImageOf, disk_is, named_slot, shape_is, slot_content}
use Rattle.group_engine.proofs.Including.{element_of, own_bit, which}
use Rattle.group_engine.proofs.Items.{content_is}
use Rattle.group_engine.proofs.Mounting.{entries_describe, still_ready}
use Rattle.group_engine.proofs.Renewing.{among_some, content_found, some_found}
use Rattle.group_engine.proofs.Slots.{IsSeen, member_there, member_seen, decodes_here, same_index}
use Rattle.group_engine.proofs.Standings.{IsThere, completed_held, there_by}

-- ---- views of an image

-- a member among the first slots is one among more
in_more : (id a b : ℕ) (x : bay.Image) (k : Member) → a ≤ b → IsAmong (all_members id (disks_in a x)) k → IsAmong (all_members id (disks_in b x)) k
in_more id a b x k le among =
    let seen = member_seen id a x k among in
    subst (λ (d : Metadata). IsAmong (all_members id (disks_in b x)) (record { slot = k.slot; header = k.header; disk = d })) (sym seen.disk)
    (member_there id b k.slot x k.header (omega (arith, le, seen.slot)) seen.header seen.group)

-- what more slots hold, the first of them hold
fewer_describe : (id a b : ℕ) (x : bay.Image) (r : Status) (c : Content) (g : Group) → a ≤ b
    → Describes (disks_in b x) (all_members id (disks_in b x)) (all_members id (disks_in b x)) r c g → Describes (disks_in a x) (all_members id (disks_in a x)) (all_members id (disks_in a x)) r c g
fewer_describe id a b x r c g le d = record {
  distinct = λ k l hk hl number birth. d.distinct k l (in_more id a b x k le hk) (in_more id a b x l le hl) number birth;
  disks = λ k h. d.disks k (in_more id a b x k le h);
  items = d.items;
  decodes = d.decodes;
  describes = d.describes;
  bytes = λ f o v i inner copy file home k is_file cell lies among current.
      let seen = member_seen id a x k among in
      let bytes : get_or (disks_in a x) k.slot [] ≡ get_or (disks_in b x) k.slot [] = (disks_are_listed a k.slot x seen.slot).1 ∙ sym (disks_are_listed b k.slot x (omega (arith, le, seen.slot))).1 in
      ap (λ (l : List ℕ). slice_index l (home.unit * g.shape.au + inner)) bytes ∙ d.bytes f o v i inner copy file home k is_file cell lies (in_more id a b x k le among) current;
}

-- ---- one image

module _ (n : ℕ) (m : MountedGroup) (whole : IsWhole m) (g : Group) (shape : g.shape ≡ m.catalog.shape) (kept : Kept) (x : bay.Image) (of : IsImageOf n m g kept x)
    (d : ℕ) (c : DirCopy) (one : IsOneMore m d c) (apart : IsCopyApart c m.store.copies) (long : HasRegion c x)
    (y : bay.Image) (up : MayBringUp m.store.table m.store.number c x y) where
  abbrev r : Status
  r = m.register.value

  abbrev id : ℕ
  id = m.register.id

  sound : (slots : ℕ) → SoundBy id (disks_in slots x) (g ∷ []) (Some r) []
  sound slots = of.is_held.sound slots

  -- ---- the copy's disk

  on : IsMemberOn n id x one.member
  on = of.members d one.member one.attached

  inside : c.slot < n
  inside = omega (arith, one.slot, on.inside)

  own_header : header_in x c.slot ≡ Some on.header
  own_header = ap (λ (s : ℕ). header_in x s) one.slot ∙ on.header_is

  own_pages : on.header.shape.dir_blocks ≡ c.dir_blocks
  own_pages = ap (λ (s : Shape). s.dir_blocks) (shape_is n m whole g shape kept x of c.slot on.header inside own_header on.group)
      ∙ sym (one.pages ∙ (whole.copies.each one.first one.stored).pages)

  own_change : ChangesRegion (disk_bytes x c.slot) (disk_bytes y c.slot)
  own_change =
      let size = up.elsewhere.size c.slot in
      let lengths : length (disk_bytes y c.slot) ≡ length (disk_bytes x c.slot) = (bytes_are_listed y c.slot).0 ∙ size ∙ sym (bytes_are_listed x c.slot).0 in
      record {
        len = (region_end c.dir_blocks - region_start) * block_size;
        same = record {
          size = lengths;
          before = λ k lt. same_index x y c.slot k size (up.elsewhere.byte c.slot k (λ region. omega (arith, lt, region.1)));
          behind = λ k le. same_index x y c.slot k size (up.elsewhere.byte c.slot k (λ region. omega (arith, le, region.2)));
        };
        inside = λ h is.
            let same : h ≡ on.header = same_Some h on.header (sym is ∙ own_header) in
            let pages : h.shape.dir_blocks ≡ c.dir_blocks = ap (λ (k : Header). k.shape.dir_blocks) same ∙ own_pages in
            omega (arith, pages);
      }

  other_disk : (slot : ℕ) → (slot ≡ c.slot → ⊥) → disk_bytes y slot ≡ disk_bytes x slot
  other_disk slot none = same_disk x y slot (up.elsewhere.size slot) (λ k. up.elsewhere.byte slot k (λ region. none region.0))

  slot_change : (slot : ℕ) → ChangesRegion (disk_bytes x slot) (disk_bytes y slot)
  slot_change slot = ⊎_elim
      (λ (here : slot ≡ c.slot). subst (λ (s : ℕ). ChangesRegion (disk_bytes x s) (disk_bytes y s)) (sym here) own_change)
      (λ none. subst (λ (bytes : List ℕ). ChangesRegion (disk_bytes x slot) bytes) (sym (other_disk slot none))
      (record { len = 0; same = record { size = refl; before = λ k lt. refl; behind = λ k le. refl }; inside = λ h is. omega arith }))
      (cases_eq slot c.slot)

  same_header : (slot : ℕ) → header_in y slot ≡ header_in x slot
  unfolding metadata
  same_header slot = ap (λ (d : Metadata). d.header) (region_change (disk_bytes x slot) (disk_bytes y slot) (slot_change slot))

  -- the copy can be read, so its content stays, is gone, or is that of the records
  own_decodes : IsTrue (disk_in x c.slot).decodes
  own_decodes = (disk_is n m whole g shape kept x of c.slot on.header inside own_header on.group).directories

  readable : IsReadable c x
  readable = record {
    decodes = subst (λ (k : ℕ). IsTrue (logs_decode k (disk_bytes x c.slot))) own_pages
        (open_logs_decode on.header (disk_bytes x c.slot) own_header
        (le-leb (region_end on.header.shape.dir_blocks * block_size) (length (disk_bytes x c.slot)) (omega (arith, own_pages, long, (bytes_are_listed x c.slot).0))) own_decodes);
    whole = inl (subst (λ (k : ℕ). directory_damage k (disk_bytes x c.slot) ≡ None) own_pages (damage_is_seen on.header (disk_bytes x c.slot) own_header own_decodes));
  }

  decodes_then : MayTakeRecords m.store.table m.store.number c x y → decodes_in (content_in c y) ≡ true
  decodes_then (inl same) =
      ap decodes_in same ∙ sym (ap decodes_in (slot_content n m whole g shape kept x of x c.slot on.header c own_header refl own_pages)) ∙ sym (decodes_here x c.slot) ∙ own_decodes
  decodes_then (inr (inl gone)) = ap decodes_in gone
  decodes_then (inr (inr has)) = ap decodes_in has.is ∙ ap (λ (o : _). is_some o) has.has.decoded

  decodes_now : IsTrue (disk_in y c.slot).decodes
  decodes_now = decodes_here y c.slot ∙ ap decodes_in (slot_content n m whole g shape kept x of y c.slot on.header c (same_header c.slot ∙ own_header) refl own_pages) ∙ decodes_then (up.content readable)

  -- ---- what the image stands for

  module _ (items : List Item) (are : AreItemsOf m.catalog.tables items) (describes : DescribesGroup r items g) (holds : HoldsIn id r m.catalog.tables g x)
      (had : (q : DirCopy) → IsAmong m.store.copies q → content_in q x ≡ Some (content_of_items m.store.number items)) where
    abbrev content : Content
    content = content_of_items m.store.number items

    -- each copy that the record names has the content still
    old_have : (slots : ℕ) (k : Member) → IsAmong (all_members id (disks_in slots y)) k → IsNamed r k.header → k.disk.content ≡ Some content
    old_have slots k among named =
        let seen = member_seen id slots y k among in
        let header : header_in x k.slot ≡ Some k.header = sym (same_header k.slot) ∙ seen.header in
        let placed = named_slot n m whole g shape kept x of k.slot k.header header seen.group named in
        let same : disk_bytes y k.slot ≡ disk_bytes x k.slot = other_disk k.slot (λ here. (apart placed.copy placed.among).0 (sym here ∙ placed.slot_is)) in
        ap (λ (t : Metadata). t.content) seen.disk ∙ ap (λ (bytes : List ℕ). (metadata bytes).content) same
        ∙ slot_content n m whole g shape kept x of x k.slot k.header placed.copy header placed.slot_is placed.pages ∙ had placed.copy placed.among

    is_bringing : (slots : ℕ) → IsCommitting id r content (content_of_items (suc m.store.number) items) (disks_in slots x) (disks_in slots y)
    is_bringing slots = record {
      size = listed slots y ∙ sym (listed slots x);
      disks = λ slot lt.
          let in_view : slot < slots = omega (arith, lt, listed slots x) in
          subst (λ (bytes : List ℕ). ChangesRegion bytes (bytes_of (disks_in slots y) slot)) (sym (disks_are_listed slots slot x in_view).1)
          (subst (λ (bytes : List ℕ). ChangesRegion (disk_bytes x slot) bytes) (sym (disks_are_listed slots slot y in_view).1) (slot_change slot));
      decode = λ slot lt before.
          let in_view : slot < slots = omega (arith, lt, listed slots x) in
          let old_disk : disk_of (disks_in slots x) slot ≡ disk_in x slot = ap metadata (disks_are_listed slots slot x in_view).1 in
          let new_disk : disk_of (disks_in slots y) slot ≡ disk_in y slot = ap metadata (disks_are_listed slots slot y in_view).1 in
          subst (λ (t : Metadata). IsTrue t.decodes) (sym new_disk) (⊎_elim
          (λ (here : slot ≡ c.slot). subst (λ (s : ℕ). IsTrue (disk_in y s).decodes) (sym here) decodes_now)
          (λ none. subst (λ (t : Metadata). IsTrue t.decodes) (old_disk ∙ sym (ap metadata (other_disk slot none))) before) (cases_eq slot c.slot));
      was = λ k among named.
          let seen = member_seen id slots x k among in
          let placed = named_slot n m whole g shape kept x of k.slot k.header seen.header seen.group named in
          ap (λ (t : Metadata). t.content) seen.disk ∙ slot_content n m whole g shape kept x of x k.slot k.header placed.copy seen.header placed.slot_is placed.pages ∙ had placed.copy placed.among;
      either = λ k among named. inl (old_have slots k among named);
    }

    becomes : (slots : ℕ) → Becomes id r g items g (disks_in slots x)
    becomes slots = record { name = refl; shape = refl; describes = describes; bytes = holds slots items are }

    abbrev first : Kept
    first = record { completed = r; begun = []; slots = kept.slots }

    -- It is held for the group as before.
    pub up_held : IsHeld n id (g ∷ []) first y
    up_held = record {
      sound = λ slots. widen_keeps id (disks_in slots y) (g ∷ g ∷ []) (g ∷ []) (Some r) []
          (committing_is_sound id m.store.number (suc m.store.number) r g g items items (disks_in slots x) (disks_in slots y) (λ same. omega (arith, same)) (sound slots) (becomes slots) (is_bringing slots))
          (λ k among. ⊎_elim (λ e. inl e) (λ other. other) among);
      standing = committing_is_standing id kept.slots r (g ∷ []) content (content_of_items (suc m.store.number) items) (disks_in n x) (disks_in n y) (sound n) (is_bringing n) of.is_held.standing;
      there = λ slot has. let is = of.is_held.there slot has in (is.0, same_header slot ∙ is.1, is.2);
    }

    -- ---- a record that names the copy too

    module _ (has : content_in c y ≡ Some content) (more epoch turn : ℕ) (with : IsWith more r.directories d) where
      abbrev later : Status
      later = record r { directories = more; epoch = epoch; turn = turn }

      -- a copy that it names is the new one, or named by the record before
      split : (h : Header) → IsNamed later h → (h.number ≡ d) ⊎ IsNamed r h
      split h named = ⊎_elim (λ same. inl same) (λ old. inr (record { named = old; entry = named.entry; entry_is = named.entry_is; birth = named.birth }))
          (which more r.directories d with h.number named.named)

      member_number : one.member.number ≡ d
      member_number = whole.numbers d one.member one.attached

      -- the new one is on the copy's disk
      own_slot : (k : Member) (slots : ℕ) → IsSeen id slots y k → IsNamed later k.header → k.header.number ≡ d → k.slot ≡ c.slot
      own_slot k slots seen named number =
          let same_number : one.member.number ≡ k.header.number = member_number ∙ sym number in
          let births : Some one.member.birth ≡ Some k.header.birth = sym (entry_birth r.entries one.member one.entry) ∙ ap (λ (j : ℕ). option_map (λ (e : Entry). e.birth) (entry_of r.entries j)) same_number
          ∙ ap (option_map (λ (e : Entry). e.birth)) named.entry_is ∙ ap (λ (b : ℕ). Some b) named.birth in
          let birth : one.member.birth ≡ k.header.birth = same_Some one.member.birth k.header.birth births in
          let b = suc k.slot + n in
          let header : header_in x k.slot ≡ Some k.header = sym (same_header k.slot) ∙ seen.header in
          let mine = member_there id b k.slot x k.header (omega arith) header seen.group in
          let other = member_there id b c.slot x on.header (omega (arith, inside)) own_header on.group in
          (sound b).fits.distinct (record { slot = k.slot; header = k.header; disk = disk_in x k.slot }) (record { slot = c.slot; header = on.header; disk = disk_in x c.slot }) mine other
          (sym (on.number ∙ same_number)) (sym (on.birth ∙ birth))

      own_have : (slots : ℕ) (k : Member) → IsAmong (all_members id (disks_in slots y)) k → k.slot ≡ c.slot → k.disk.content ≡ Some content
      own_have slots k among here =
          let seen = member_seen id slots y k among in
          let header : k.header ≡ on.header = same_Some k.header on.header (sym seen.header ∙ same_header k.slot ∙ ap (λ (s : ℕ). header_in x s) here ∙ own_header) in
          ap (λ (t : Metadata). t.content) seen.disk ∙ slot_content n m whole g shape kept x of y k.slot k.header c seen.header here (ap (λ (h : Header). h.shape.dir_blocks) header ∙ own_pages) ∙ has

      all_have : (slots : ℕ) (k : Member) → IsAmong (all_members id (disks_in slots y)) k → IsNamed later k.header → k.disk.content ≡ Some content
      all_have slots k among named = ⊎_elim
          (λ (number : k.header.number ≡ d). own_have slots k among (own_slot k slots (member_seen id slots y k among) named number))
          (λ old. old_have slots k among old)
          (split k.header named)

      held_there : IsThere (within kept.slots (all_members id (disks_in n y))) r
      held_there = there_by id (disks_in n y) kept.slots r (up_held.sound n).fits up_held.standing

      births_below : (e : Entry) → IsAmong r.entries e → e.birth ≤ r.births
      births_below e h = ((up_held.sound n).covered r (inl refl) whole.alive).entry_births r e (completed_held id (disks_in n y) kept.slots r (up_held.sound n).fits held_there) h

      -- the disk of a copy that the record names
      first_named : (b : ℕ) → n ≤ b → (k : Member) × IsAmong (all_members id (disks_in b y)) k × IsNamed r k.header
      first_named b le =
          let q = one.first in
          let of_q = whole.copies.each q one.stored in
          let on_q = of.members q.number of_q.member of_q.attached in
          let is : header_in y of_q.member.slot ≡ Some on_q.header = same_header of_q.member.slot ∙ on_q.header_is in
          let number : on_q.header.number ≡ q.number = on_q.number ∙ whole.numbers q.number of_q.member of_q.attached in
          let entry = from_map (λ (e : Entry). e.birth) (entry_of r.entries of_q.member.number) of_q.member.birth (entry_birth r.entries of_q.member of_q.entry) in (
            record { slot = of_q.member.slot; header = on_q.header; disk = disk_in y of_q.member.slot },
            member_there id b of_q.member.slot y on_q.header (omega (arith, le, on_q.inside)) is on_q.group,
            record {
              named = subst (λ (j : ℕ). IsAmong (elements r.directories) j) (sym number) of_q.named;
              entry = entry.0;
              entry_is = ap (entry_of r.entries) on_q.number ∙ entry.1;
              birth = entry.2 ∙ sym on_q.birth;
            },
          )

      -- with the content, the disks hold the group
      describes_now : (slots : ℕ) → Describes (disks_in slots y) (all_members id (disks_in slots y)) (all_members id (disks_in slots y)) r content g
      describes_now slots =
          let b = slots + n in
          let ms = all_members id (disks_in b y) in
          let k = first_named b (omega arith) in
          let found = content_found r ms k.0 k.1 k.2 content (λ z z_among z_named. old_have b z z_among z_named) in
          let it = ((up_held.sound b).covered r (inl refl) whole.alive).described (λ any. true) content found in
          let is_g : it.0 ≡ g = ⊎_elim (λ e. e) (λ none. absurd none) it.1 in
          fewer_describe id slots b y r content g (omega arith) (subst (λ (z : Group). Describes (disks_in b y) ms ms r content z) is_g it.2)

      describes_later : (slots : ℕ) → Describes (disks_in slots y) (all_members id (disks_in slots y)) (all_members id (disks_in slots y)) later content g
      unfolding is_kept
      describes_later slots =
          let it = describes_now slots in
          record {
            distinct = it.distinct;
            disks = λ a h. let e = it.disks a h in record { claims = e.claims; statuses = e.statuses; directories = e.directories; name = e.name; shape = e.shape; units = λ f is birth. e.units f is birth };
            items = it.items;
            decodes = it.decodes;
            describes = entries_describe r later it.items g refl it.describes;
            bytes = λ f o b i inner copy file home a is_file cell lies h current. it.bytes f o b i inner copy file home a is_file cell lies h (record { home = current.home; kept = current.kept; fresh = current.fresh });
          }

      later_covers : (slots : ℕ) → IsCovered id (disks_in slots y) (all_members id (disks_in slots y)) (g ∷ []) later
      later_covers slots =
          let before = (up_held.sound slots).covered r (inl refl) whole.alive in
          one_content_is_covered id (disks_in slots y) (g ∷ []) later content g (λ k e among named is. same_Some e content (sym is ∙ all_have slots k among named))
          before.member_births before.entry_births (inl refl) (describes_later slots)

      later_there : IsThere (within kept.slots (all_members id (disks_in n y))) later
      unfolding is_enough
      later_there =
          let is : header_in y c.slot ≡ Some on.header = same_header c.slot ∙ own_header in
          let a : Member = record { slot = c.slot; header = on.header; disk = disk_in y c.slot } in
          let attached : kept.slots c.slot ≡ true = of.own c.slot (d, one.member, one.attached, one.slot) in
          let among : IsAmong (within kept.slots (all_members id (disks_in n y))) a = among_some kept.slots (all_members id (disks_in n y)) a (member_there id n c.slot y on.header inside is on.group) attached in
          let number : on.header.number ≡ d = on.number ∙ member_number in
          let entry = from_map (λ (e : Entry). e.birth) (entry_of r.entries one.member.number) one.member.birth (entry_birth r.entries one.member one.entry) in
          let named : IsNamed later on.header = record {
            named = subst (λ (j : ℕ). IsAmong (elements more) j) (sym number) (element_of more d one.small (own_bit more r.directories d with one.small));
            entry = entry.0;
            entry_is = ap (entry_of r.entries) on.number ∙ entry.1;
            birth = entry.2 ∙ sym on.birth;
          } in
          let found = some_found later (within kept.slots (all_members id (disks_in n y))) a among named
          (λ z z_among z_named. (content, all_have n z (among_within kept.slots (all_members id (disks_in n y)) z z_among) z_named)) in
          record { enough = held_there.enough; alive = whole.alive; content = found.0; found = found.1 }

      -- The record may be written.
      pub up_may : MayBeWritten n id (g ∷ []) first later y
      up_may = record { births = births_below; own_births = births_below; covers = later_covers; there = later_there }

-- ---- the calls

module _ (n : ℕ) (m : MountedGroup) (s : BayState) (sound : IsSound s) (g : Group) (kept : Kept) (mounts : Mounts n m s g kept)
    (d : ℕ) (c : DirCopy) (one : IsOneMore m d c) (copy_is : IsCopy s c) (small : c.number < 64) (size : c.dir_blocks ≡ m.store.table.free.units) (apart : IsCopyApart c m.store.copies)
    (t : BayState) (run : Runs (IsSlot c.slot) (MayBringUp m.store.table m.store.number c) s t) (attached : KeepsAttached s t) where
  abbrev the_record : Status
  the_record = m.register.value

  abbrev the_id : ℕ
  the_id = m.register.id

  abbrev its : (i : List Item) × AreItemsOf m.catalog.tables i
  its = items n m s g kept mounts

  long : NowOnly s (HasRegion c)
  long = sized_now sound copy_is

  -- At each moment each image is held for the group.
  pub copied_moments : LeavesOnly s t (IsHeld n the_id (g ∷ []) kept)
  copied_moments = record {
    later = run.later;
    ended = run.ended;
    each = λ k y low high left.
        let from = run.moments k y low high left in
        subst (λ (kk : Kept). IsHeld n the_id (g ∷ []) kk y) (kept_is n m s g kept mounts)
        (up_held n m mounts.whole g mounts.represents.shape kept from.0 (image_of n m s g kept mounts from.0 from.1) d c one apart (long.now from.0 from.1) y from.2 its.0 its.1
        (mounts.represents.describes its.0 its.1) ((mounted_holds n m s g kept mounts).now from.0 from.1) (was n m s g kept mounts from.0 from.1));
  }

  -- The group is mounted still, without the copy.
  pub copied_mounts : Mounts n m t g kept
  copied_mounts = record {
    whole = mounts.whole;
    ready = still_ready m m s t refl refl
        (still_keeps m.store c s t mounts.ready.store copy_is small size apart attached (widened {step = MayBringUp m.store.table m.store.number c} {whole = ChangesOnly (RegionOf c)} (λ x y up. up.elsewhere) run))
        attached mounts.ready;
    represents = mounts.represents;
    own = mounts.own;
    completed = mounts.completed;
    begun = mounts.begun;
    register = register_proofs.keeps_elsewhere n m.register (Some the_record) [] front_stays run mounts.register;
    now = now_of copied_moments;
  }
    where
      front_stays : (x y : bay.Image) → MayBringUp m.store.table m.store.number c x y → LeavesRegister n the_id x y
      front_stays x y up slot lt = inl (record { size = up.elsewhere.size slot; byte = λ k below. up.elsewhere.byte slot k (λ region. omega (arith, region.1, below)) })

  -- Once the copy has the records, a record may name it.
  pub may_name : ((y : bay.Image) → t.leaves t.calls y → HasCopyRecords m.store.table m.store.number c y) → (more : ℕ) → IsWith more the_record.directories d → m.register.turn + 1 < 2 ^ 64
      → MayGet n m (record the_record { directories = more }) t g kept
  may_name has more with turns =
      let next : Status = record the_record { directories = more } in
      let later : Status = with_next_number m.register next in
      record {
        mounts = copied_mounts;
        may = record {
          now = λ y left.
              let from = run.moments t.calls y run.later (omega arith) left in
              subst (λ (kk : Kept). MayBeWritten n the_id (g ∷ []) kk later y) (kept_is n m s g kept mounts)
              (up_may n m mounts.whole g mounts.represents.shape kept from.0 (image_of n m s g kept mounts from.0 from.1) d c one apart (long.now from.0 from.1) y from.2 its.0 its.1
              (mounts.represents.describes its.0 its.1) ((mounted_holds n m s g kept mounts).now from.0 from.1) (was n m s g kept mounts from.0 from.1)
              (content_is m.store.table m.store.number m.catalog.tables its.0 c y mounts.whole.are_tables mounts.whole.tables its.1 (has y left)) more later.epoch later.turn with);
        };
        describes = λ items are. entries_describe the_record next items g refl (mounts.represents.describes items are);
        turns = turns;
      }
