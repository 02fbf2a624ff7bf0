-- A mounted group on one image: which slots its copies are in, and what a commit leaves there.
use Rattle.std.proofs.Common.{◌≡◌, ◌≢◌, ◌⊎◌, inl, inr, ⊎_elim, ℕ, suc, ◌+◌, ◌-◌, ◌*◌, ◌<◌, ◌≤◌, true, List, [], ◌∷◌, length, get_or, refl, sym, ap, subst, ◌∙◌, Some, None, arith, IsTrue}
use Rattle.std.specs.Option.{option_map}
use Rattle.std.proofs.lemmas.Bool.{cases_eq}
use Rattle.std.proofs.lemmas.Option.{same_Some}
use Rattle.bay.specs.Image as bay
use Rattle.bay.specs.Image.{ChangesOnly}
use Rattle.asm_group.specs.Group.{Group}
use Rattle.asm_group.specs.Shape.{Shape}
use Rattle.asm_formats.specs.Bytes.{block_size}
use Rattle.asm_formats.specs.Regions.{region_start, region_end}
use Rattle.asm_formats.specs.Header.{Header}
use Rattle.asm_formats.specs.Content.{Content}
use Rattle.asm_formats.specs.Items.{Item}
use Rattle.asm_formats.specs.Metadata.{Metadata, metadata}
use Rattle.asm_formats.specs.Pages.{copy_content, decodes_in}
use Rattle.asm_formats.specs.Status.{Status, Entry, entry_of}
use Rattle.asm_formats.specs.Among.{IsAmong}
use Rattle.asm_images.specs.Bridge.{disk_bytes, disks_in}
use Rattle.asm_images.specs.Directories.{directories, IsNamed}
use Rattle.asm_images.specs.Kept.{Kept, header_in, IsHeld}
use Rattle.asm_images.specs.Members.{Member, all_members, within, disk_of}
use Rattle.asm_images.specs.PutLaws.{bytes_of}
use Rattle.asm_images.specs.Sound.{SoundBy}
use Rattle.asm_images.specs.Stands.{Describes, IsDiskOf}
use Rattle.asm_images.proofs.Bridges.{bytes_are_listed, disks_are_listed, listed, same_disk}
use Rattle.asm_images.proofs.History.{status_counts}
use Rattle.directory_store.specs.change_directory.declared.copy.DirCopy.{DirCopy}
use Rattle.directory_store.specs.change_directory.Changes.{content_in}
use Rattle.rebalance.specs.catalog_tables.Items.{AreItemsOf}
use Rattle.rebalance.specs.catalog_tables.Tables.{Tables}
use Rattle.directory_store.specs.Copies.{RegionsOf}
use Rattle.status_register.specs.SurveyLaws.{IsMemberOn}
use Rattle.status_register.specs.Surveys.{disk_in}
use Rattle.status_register.specs.declared.member.Member.{Member as Disk}
use Rattle.status_register.proofs.Holding.{entry_birth}
use Rattle.group_engine.specs.Becoming.{HoldsIn, LeadsToGroup}
use Rattle.group_engine.specs.CommitSteps.{content_of_items, ChangesRegion, IsCommitting, AllHave, Becomes}
use Rattle.group_engine.specs.Mounts.{MountedGroup, IsOwn, IsWhole}
use Rattle.std.specs.List.{range_with_len}
use Rattle.asm_formats.specs.Sets.{has_bit, elements, most_disks}
use Rattle.asm_images.specs.Copies.{is_kept}
use Rattle.asm_images.specs.Register.{is_enough}
use Rattle.asm_images.specs.Sound.{IsCovered}
use Rattle.asm_images.proofs.Covers.{fewer_copies_are_covered}
use Rattle.asm_images.proofs.Membership.{among_filter, among_filtered, among_within, filter_out}
use Rattle.asm_images.proofs.Mounts.{renumbered_is_covered}
use Rattle.asm_images.proofs.OneContent.{found_is_held}
use Rattle.rebalance.proofs.catalog_tables.TableItems.{from_map}
use Rattle.group_engine.proofs.Recording.{MayBeWritten}
use Rattle.group_engine.proofs.Renewing.{among_some, some_found}
use Rattle.group_engine.proofs.Standings.{IsThere, completed_held, there_by}
use Rattle.group_engine.proofs.Committing.{region_change, committing_is_sound, committed_is_sound, committing_is_standing, after_holds_now}
use Rattle.group_engine.proofs.Slots.{IsSeen, member_there, member_seen, content_here, decodes_here, same_index}

-- What one image of a mounted group has: it is held for the group by the register's record, and the attached disks are members.
pub record IsImageOf (n : ℕ) (m : MountedGroup) (g : Group) (kept : Kept) (image : bay.Image) : Type 0 where
  pub is_held : IsHeld n m.register.id (g ∷ []) (record { completed = m.register.value; begun = []; slots = kept.slots }) image
  pub own : (slot : ℕ) → IsOwn m slot → kept.slots slot ≡ true
  pub members : (i : ℕ) (k : Disk) → get_or m.register.members i None ≡ Some k → IsMemberOn n m.register.id image k

-- the slot is that of a copy, or of none
find_copy : (copies : List DirCopy) (slot : ℕ) → ((c : DirCopy) × IsAmong copies c × (slot ≡ c.slot)) ⊎ ((c : DirCopy) → IsAmong copies c → slot ≡ c.slot → ⊥)
find_copy [] slot = inr (λ c h is. absurd h)
find_copy (d ∷ copies) slot =
    let rest : ((c : DirCopy) × IsAmong copies c × (slot ≡ c.slot)) ⊎ ((c : DirCopy) → IsAmong copies c → slot ≡ c.slot → ⊥) = find_copy copies slot in
    ⊎_elim (λ here. inl (d, inl refl, here))
    (λ differ. ⊎_elim (λ later. inl (later.0, inr later.1, later.2))
    (λ none. inr (λ c h is. ⊎_elim (λ (same : c ≡ d). differ (is ∙ ap (λ (k : DirCopy). k.slot) same)) (λ there. none c there is) h)) rest)
    (cases_eq slot d.slot)

module _ (n : ℕ) (m : MountedGroup) (whole : IsWhole m) (g : Group) (shape : g.shape ≡ m.catalog.shape) (kept : Kept) (x : bay.Image) (of : IsImageOf n m g kept x) where
  abbrev r : Status
  r = m.register.value

  abbrev id : ℕ
  id = m.register.id

  sound : (slots : ℕ) → SoundBy id (disks_in slots x) (g ∷ []) (Some r) []
  sound slots = of.is_held.sound slots

  -- a member among the first slots is a disk of the group
  pub disk_is : (slot : ℕ) (h : Header) → slot < n → header_in x slot ≡ Some h → h.id ≡ id → IsDiskOf g r (record { slot = slot; header = h; disk = disk_in x slot })
  disk_is slot h lt is group =
      let ms = all_members id (disks_in n x) in
      let s = of.is_held.standing in
      let same : s.record_ ≡ r = ⊎_elim (λ e. e) (λ none. absurd none) (status_counts id ms (Some r) [] kept.slots s.record_ (sound n).fits s.status_is) in
      let found : directories r (within kept.slots ms) ≡ Some s.content = ap (λ (t : Status). directories t (within kept.slots ms)) (sym same) ∙ s.directories_is in
      let d = ((sound n).covered r (inl refl) whole.alive).described kept.slots s.content found in
      let is_g : d.0 ≡ g = ⊎_elim (λ e. e) (λ none. absurd none) d.1 in
      let seen : Member = record { slot = slot; header = h; disk = disk_in x slot } in
      subst (λ (k : Group). IsDiskOf k r seen) is_g (d.2.disks seen (member_there id n slot x h lt is group))

  -- the shape in the header
  pub shape_is : (slot : ℕ) (h : Header) → slot < n → header_in x slot ≡ Some h → h.id ≡ id → h.shape ≡ m.catalog.shape
  shape_is slot h lt is group = (disk_is slot h lt is group).shape ∙ shape

  -- the slot and the pages of a copy, by the header that its record names
  pub record Placed (slot : ℕ) (h : Header) : Type 0 where
    pub copy : DirCopy
    pub among : IsAmong m.store.copies copy
    pub slot_is : slot ≡ copy.slot
    pub pages : h.shape.dir_blocks ≡ copy.dir_blocks

  pub named_slot : (slot : ℕ) (h : Header) → header_in x slot ≡ Some h → h.id ≡ id → IsNamed r h → Placed slot h
  named_slot slot h is group named =
      let c = whole.copies.all h.number named.named in
      let copy = c.0 in
      let k = whole.copies.each copy c.1 in
      let on = of.members copy.number k.member k.attached in
      let number : k.member.number ≡ h.number = whole.numbers copy.number k.member k.attached ∙ c.2 in
      let births : Some k.member.birth ≡ Some h.birth = sym (entry_birth r.entries k.member k.entry) ∙ ap (λ (d : ℕ). option_map (λ (e : Entry). e.birth) (entry_of r.entries d)) number
      ∙ ap (option_map (λ (e : Entry). e.birth)) named.entry_is ∙ ap (λ (b : ℕ). Some b) named.birth in
      let birth : k.member.birth ≡ h.birth = same_Some k.member.birth h.birth births in
      let b = suc slot + n in
      let one = member_there id b slot x h (omega arith) is group in
      let other = member_there id b k.member.slot x on.header (omega (arith, on.inside)) on.header_is on.group in
      let same : slot ≡ k.member.slot = (sound b).fits.distinct (record { slot = slot; header = h; disk = disk_in x slot }) (record { slot = k.member.slot; header = on.header; disk = disk_in x k.member.slot }) one other
      (sym (on.number ∙ number)) (sym (on.birth ∙ birth)) in
      record {
        copy = copy;
        among = c.1;
        slot_is = same ∙ k.slot;
        pages = ap (λ (s : Shape). s.dir_blocks) (shape_is slot h (omega (arith, same, on.inside)) is group) ∙ sym k.pages;
      }

  -- the header on a copy's disk
  copy_header : (c : DirCopy) → IsAmong m.store.copies c → (h : Header) × (header_in x c.slot ≡ Some h) × (h.id ≡ id) × (h.shape.dir_blocks ≡ c.dir_blocks)
  copy_header c among =
      let k = whole.copies.each c among in
      let on = of.members c.number k.member k.attached in
      let is : header_in x c.slot ≡ Some on.header = ap (λ (s : ℕ). header_in x s) (sym k.slot) ∙ on.header_is in
      (on.header, is, on.group, ap (λ (s : Shape). s.dir_blocks) (shape_is c.slot on.header (omega (arith, k.slot, on.inside)) is on.group) ∙ sym k.pages)

  -- the content of a copy that is on the disk in a slot
  pub slot_content : (y : bay.Image) (slot : ℕ) (h : Header) (c : DirCopy) → header_in y slot ≡ Some h → slot ≡ c.slot → h.shape.dir_blocks ≡ c.dir_blocks → (disk_in y slot).content ≡ content_in c y
  slot_content y slot h c is at pages = content_here y slot h is ∙ (λ i. copy_content (pages i) (disk_bytes y (at i)))

  -- ---- over a change of the directory regions

  module _ (y : bay.Image) (change : ChangesOnly (RegionsOf m.store.copies) x y) where
    -- on a copy's disk
    copy_change : (c : DirCopy) → IsAmong m.store.copies c → (slot : ℕ) → slot ≡ c.slot → ChangesRegion (disk_bytes x slot) (disk_bytes y slot)
    copy_change c among slot at =
        let size = change.size slot in
        let lengths : length (disk_bytes y slot) ≡ length (disk_bytes x slot) = (bytes_are_listed y slot).0 ∙ size ∙ sym (bytes_are_listed x slot).0 in
        record {
          len = (region_end c.dir_blocks - region_start) * block_size;
          same = record {
            size = lengths;
            before = λ k lt. same_index x y slot k size (change.byte slot k (λ region. omega (arith, lt, region.2.1)));
            behind = λ k le. same_index x y slot k size (change.byte slot k (λ region. out_of region.0 region.1 k le region.2.2));
          };
          inside = λ h is.
              let own = copy_header c among in
              let same : h ≡ own.0 = same_Some h own.0 (sym is ∙ ap (λ (s : ℕ). header_in x s) at ∙ own.1) in
              let pages : h.shape.dir_blocks ≡ c.dir_blocks = ap (λ (k : Header). k.shape.dir_blocks) same ∙ own.3 in
              omega (arith, pages);
        }
      where
        out_of : (d : DirCopy) → IsAmong m.store.copies d → (k : ℕ) → region_start * block_size + (region_end c.dir_blocks - region_start) * block_size ≤ k
            → k < region_start * block_size + (region_end d.dir_blocks - region_start) * block_size → ⊥
        out_of d other k le lt =
            let same : d.dir_blocks ≡ c.dir_blocks = (whole.copies.each d other).pages ∙ sym (whole.copies.each c among).pages in
            omega (arith, same, le, lt)

    -- on any other
    other_disk : (slot : ℕ) → ((c : DirCopy) → IsAmong m.store.copies c → slot ≡ c.slot → ⊥) → disk_bytes y slot ≡ disk_bytes x slot
    other_disk slot none = same_disk x y slot (change.size slot) (λ k. change.byte slot k (λ region. none region.0 region.1 region.2.0))

    pub slot_change : (slot : ℕ) → ChangesRegion (disk_bytes x slot) (disk_bytes y slot)
    slot_change slot = ⊎_elim (λ c. copy_change c.0 c.1 slot c.2)
        (λ none. subst (λ (bytes : List ℕ). ChangesRegion (disk_bytes x slot) bytes) (sym (other_disk slot none))
        (record { len = 0; same = record { size = refl; before = λ k lt. refl; behind = λ k le. refl }; inside = λ h is. omega arith }))
        (find_copy m.store.copies slot)

    pub same_header : (slot : ℕ) → header_in y slot ≡ header_in x slot
    unfolding metadata
    same_header slot = ap (λ (d : Metadata). d.header) (region_change (disk_bytes x slot) (disk_bytes y slot) (slot_change slot))

    -- each copy has the content before or the one after
    module _ (number next : ℕ) (items later : List Item) (was : (c : DirCopy) → IsAmong m.store.copies c → content_in c x ≡ Some (content_of_items number items))
        (either : (c : DirCopy) → IsAmong m.store.copies c → (content_in c y ≡ Some (content_of_items number items)) ⊎ (content_in c y ≡ Some (content_of_items next later))) where
      decode_now : (c : DirCopy) → IsAmong m.store.copies c → (slot : ℕ) → slot ≡ c.slot → IsTrue (disk_in y slot).decodes
      decode_now c among slot at =
          let own = copy_header c among in
          let is : header_in y slot ≡ Some own.0 = same_header slot ∙ ap (λ (s : ℕ). header_in x s) at ∙ own.1 in
          let content = slot_content y slot own.0 c is at own.3 in
          decodes_here y slot ∙ ap decodes_in content ∙ ⊎_elim (λ (b : content_in c y ≡ Some (content_of_items number items)). ap decodes_in b) (λ a. ap decodes_in a) (either c among)

      pub is_committing : (slots : ℕ) → IsCommitting id r (content_of_items number items) (content_of_items next later) (disks_in slots x) (disks_in slots y)
      is_committing slots = record {
        size = listed slots y ∙ sym (listed slots x);
        disks = λ slot lt.
            let in_view : slot < slots = omega (arith, lt, listed slots x) in
            subst (λ (bytes : List ℕ). ChangesRegion bytes (bytes_of (disks_in slots y) slot)) (sym (disks_are_listed slots slot x in_view).1)
            (subst (λ (bytes : List ℕ). ChangesRegion (disk_bytes x slot) bytes) (sym (disks_are_listed slots slot y in_view).1) (slot_change slot));
        decode = λ slot lt before.
            let in_view : slot < slots = omega (arith, lt, listed slots x) in
            let old_disk : disk_of (disks_in slots x) slot ≡ disk_in x slot = ap metadata (disks_are_listed slots slot x in_view).1 in
            let new_disk : disk_of (disks_in slots y) slot ≡ disk_in y slot = ap metadata (disks_are_listed slots slot y in_view).1 in
            subst (λ (d : Metadata). IsTrue d.decodes) (sym new_disk) (⊎_elim (λ c. decode_now c.0 c.1 slot c.2)
            (λ none. subst (λ (d : Metadata). IsTrue d.decodes) (old_disk ∙ sym (ap metadata (other_disk slot none))) before) (find_copy m.store.copies slot));
        was = λ k among named.
            let seen = member_seen id slots x k among in
            let placed = named_slot k.slot k.header seen.header seen.group named in
            ap (λ (d : Metadata). d.content) seen.disk ∙ slot_content x k.slot k.header placed.copy seen.header placed.slot_is placed.pages ∙ was placed.copy placed.among;
        either = λ k among named.
            let seen = member_seen id slots y k among in
            let placed = named_slot k.slot k.header (sym (same_header k.slot) ∙ seen.header) seen.group named in
            let content = ap (λ (d : Metadata). d.content) seen.disk ∙ slot_content y k.slot k.header placed.copy seen.header placed.slot_is placed.pages in
            ⊎_elim (λ b. inl (content ∙ b)) (λ a. inr (content ∙ a)) (either placed.copy placed.among);
      }

      -- each named copy has the one after
      all_have : ((c : DirCopy) → IsAmong m.store.copies c → content_in c y ≡ Some (content_of_items next later)) → (slots : ℕ) → AllHave id r (content_of_items next later) (disks_in slots y)
      all_have now slots k among named =
          let seen = member_seen id slots y k among in
          let placed = named_slot k.slot k.header (sym (same_header k.slot) ∙ seen.header) seen.group named in
          ap (λ (d : Metadata). d.content) seen.disk ∙ slot_content y k.slot k.header placed.copy seen.header placed.slot_is placed.pages ∙ now placed.copy placed.among

      keeps_with : (groups : List Group) → ((slots : ℕ) → SoundBy id (disks_in slots y) groups (Some r) []) → IsHeld n id groups (record { completed = r; begun = []; slots = kept.slots }) y
      keeps_with groups now = record {
        sound = now;
        standing = committing_is_standing id kept.slots r (g ∷ []) (content_of_items number items) (content_of_items next later) (disks_in n x) (disks_in n y) (sound n) (is_committing n) of.is_held.standing;
        there = λ slot has. let is = of.is_held.there slot has in (is.0, same_header slot ∙ is.1, is.2);
      }

      module _ (differ : number ≢ next) (t : Tables) (h : Group) (leads : LeadsToGroup r t g h) (holds : HoldsIn id r t h x) (are : AreItemsOf t later) where
        becomes : (slots : ℕ) → Becomes id r g later h (disks_in slots x)
        becomes slots = record { name = leads.name; shape = leads.shape; describes = leads.describes later are; bytes = holds slots later are }

        -- While the commit is on its way, the image is held for the group before or the one after.
        pub on_its_way : IsHeld n id (g ∷ h ∷ []) (record { completed = r; begun = []; slots = kept.slots }) y
        on_its_way = keeps_with (g ∷ h ∷ [])
            (λ slots. committing_is_sound id number next r g h items later (disks_in slots x) (disks_in slots y) differ (sound slots) (becomes slots) (is_committing slots))

        -- Once each copy has the content after, it is held for the one after.
        pub come : ((c : DirCopy) → IsAmong m.store.copies c → content_in c y ≡ Some (content_of_items next later)) → IsHeld n id (h ∷ []) (record { completed = r; begun = []; slots = kept.slots }) y
        come now = keeps_with (h ∷ [])
            (λ slots. committed_is_sound id number next r g h items later (disks_in slots x) (disks_in slots y) differ (sound slots) (becomes slots) (is_committing slots) (all_have now slots))

        -- With the content after, the disks hold the group after.
        pub held_now : (slots : ℕ) (k : Member) → IsAmong (all_members id (disks_in slots y)) k → IsNamed r k.header
            → Describes (disks_in slots y) (all_members id (disks_in slots y)) (all_members id (disks_in slots y)) r (content_of_items next later) h
        held_now slots k among named = after_holds_now id number next r g h items later (disks_in slots x) (disks_in slots y) differ (sound slots) (becomes slots) (is_committing slots) whole.alive k among named

        -- ---- a record without some of the copies

        module _ (fewer epoch turn : ℕ) (less : (d : ℕ) → has_bit fewer d ≡ true → has_bit r.directories d ≡ true)
            (left : (c : DirCopy) → IsAmong m.store.copies c → IsAmong (elements fewer) c.number → content_in c y ≡ Some (content_of_items next later))
            (some : (c : DirCopy) × IsAmong m.store.copies c × IsAmong (elements fewer) c.number) where
          abbrev without : Status
          without = record r { directories = fewer; epoch = epoch; turn = turn }

          also_named : (x : Header) → IsNamed without x → IsNamed r x
          unfolding elements
          also_named x named = record {
            named = among_filtered (has_bit r.directories) (range_with_len 0 most_disks) x.number (among_filter (has_bit fewer) (range_with_len 0 most_disks) x.number named.named)
                (less x.number (filter_out (has_bit fewer) (range_with_len 0 most_disks) x.number named.named));
            entry = named.entry;
            entry_is = named.entry_is;
            birth = named.birth;
          }

          r_there : IsThere (within kept.slots (all_members id (disks_in n y))) r
          r_there = there_by id (disks_in n y) kept.slots r (on_its_way.sound n).fits on_its_way.standing

          r_births : (e : Entry) → IsAmong r.entries e → e.birth ≤ r.births
          r_births e h = ((on_its_way.sound n).covered r (inl refl) whole.alive).entry_births r e (completed_held id (disks_in n y) kept.slots r (on_its_way.sound n).fits r_there) h

          -- each copy that it names has the content after
          without_have : (slots : ℕ) (k : Member) (d : Content) → IsAmong (all_members id (disks_in slots y)) k → IsNamed without k.header → k.disk.content ≡ Some d → d ≡ content_of_items next later
          without_have slots k d among named is =
              let seen = member_seen id slots y k among in
              let placed = named_slot k.slot k.header (sym (same_header k.slot) ∙ seen.header) seen.group (also_named k.header named) in
              let number : k.header.number ≡ placed.copy.number = placed_number k slots seen placed in
              let content = ap (λ (x : Metadata). x.content) seen.disk ∙ slot_content y k.slot k.header placed.copy seen.header placed.slot_is placed.pages in
              same_Some d (content_of_items next later) (sym is ∙ content ∙ left placed.copy placed.among (subst (λ (j : ℕ). IsAmong (elements fewer) j) number named.named))
            where
              placed_number : (k : Member) (slots : ℕ) → IsSeen id slots y k → (p : Placed k.slot k.header) → k.header.number ≡ p.copy.number
              placed_number k slots seen p =
                  let c = whole.copies.each p.copy p.among in
                  let on = of.members p.copy.number c.member c.attached in
                  let is : header_in x k.slot ≡ Some on.header = ap (λ (s : ℕ). header_in x s) (p.slot_is ∙ sym c.slot) ∙ on.header_is in
                  let same : k.header ≡ on.header = same_Some k.header on.header (sym seen.header ∙ same_header k.slot ∙ is) in
                  ap (λ (z : Header). z.number) same ∙ on.number ∙ whole.numbers p.copy.number c.member c.attached

          -- what the disks hold under the record they hold under this one
          under_without : (slots : ℕ) (c : Content) (k : Group)
              → Describes (disks_in slots y) (all_members id (disks_in slots y)) (all_members id (disks_in slots y)) r c k → Describes (disks_in slots y) (all_members id (disks_in slots y)) (all_members id (disks_in slots y)) without c k
          unfolding is_kept
          under_without slots c k d = record {
            distinct = d.distinct;
            disks = λ a h. let e = d.disks a h in record { claims = e.claims; statuses = e.statuses; directories = e.directories; name = e.name; shape = e.shape; units = λ f is birth. e.units f is birth };
            items = d.items;
            decodes = d.decodes;
            describes = let e = d.describes in record {
              tree = e.tree;
              tree_rules = e.tree_rules;
              files = e.files;
              extents = e.extents;
              extent_rules = e.extent_rules;
              owned = e.owned;
              places = e.places;
              regular = e.regular;
              templates = e.templates;
              attributes = e.attributes;
              next = e.next;
              disks = e.disks;
              partners = e.partners;
              room = e.room;
            };
            bytes = λ f o b i inner copy file home a is_file cell lies h current. d.bytes f o b i inner copy file home a is_file cell lies h (record { home = current.home; kept = current.kept; fresh = current.fresh });
          }

          without_there : IsThere (within kept.slots (all_members id (disks_in n y))) without
          unfolding is_enough copy_header
          without_there =
              let c = some in
              let k = whole.copies.each c.0 c.1 in
              let own = copy_header c.0 c.1 in
              let on = of.members c.0.number k.member k.attached in
              let is : header_in y c.0.slot ≡ Some own.0 = same_header c.0.slot ∙ own.1 in
              let lt : c.0.slot < n = omega (arith, k.slot, on.inside) in
              let a : Member = record { slot = c.0.slot; header = own.0; disk = disk_in y c.0.slot } in
              let attached : kept.slots c.0.slot ≡ true = of.own c.0.slot (c.0.number, k.member, k.attached, sym k.slot) in
              let among : IsAmong (within kept.slots (all_members id (disks_in n y))) a = among_some kept.slots (all_members id (disks_in n y)) a (member_there id n c.0.slot y own.0 lt is own.2) attached in
              let number : own.0.number ≡ c.0.number = on.number ∙ whole.numbers c.0.number k.member k.attached in
              let births = entry_birth r.entries k.member k.entry in
              let entry = from_map (λ (e : Entry). e.birth) (entry_of r.entries k.member.number) k.member.birth births in
              let named : IsNamed without own.0 = record {
                named = subst (λ (j : ℕ). IsAmong (elements fewer) j) (sym number) c.2;
                entry = entry.0;
                entry_is = ap (entry_of r.entries) (on.number) ∙ entry.1;
                birth = entry.2 ∙ sym on.birth;
              } in
              let found = some_found without (within kept.slots (all_members id (disks_in n y))) a among named (λ z z_among z_named. some_content n z (among_within kept.slots (all_members id (disks_in n y)) z z_among) z_named) in
              record { enough = r_there.enough; alive = whole.alive; content = found.0; found = found.1 }
            where
              some_content : (slots : ℕ) (z : Member) → IsAmong (all_members id (disks_in slots y)) z → IsNamed without z.header → (d : Content) × (z.disk.content ≡ Some d)
              some_content slots z among named =
                  let e = (is_committing slots).either z among (also_named z.header named) in
                  ⊎_elim (λ b. (content_of_items number items, b)) (λ a. (content_of_items next later, a)) e

          without_covers : (slots : ℕ) → IsCovered id (disks_in slots y) (all_members id (disks_in slots y)) (h ∷ []) without
          without_covers slots =
              let ms = all_members id (disks_in slots y) in
              let before = (on_its_way.sound slots).covered r (inl refl) whole.alive in
              record {
                one_content = λ a b c d ha hb named_a named_b is_c is_d e. without_have slots a c ha named_a is_c ∙ sym (without_have slots b d hb named_b is_d);
                member_births = before.member_births;
                entry_births = before.entry_births;
                described = λ P c found.
                    let held = found_is_held without (within P ms) c found in
                    let among : IsAmong ms held.0 = among_within P ms held.0 held.1 in
                    let is : c ≡ content_of_items next later = without_have slots held.0 c among held.2 held.3 in (
                      h,
                      inl refl,
                      subst (λ (d : Content). Describes (disks_in slots y) ms ms without d h) (sym is)
                          (under_without slots (content_of_items next later) h (held_now slots held.0 among (also_named held.0.header held.2))),
                    );
              }

          -- The record may be written, with the group before and after, and then with the one after.
          pub both_may : MayBeWritten n id (g ∷ h ∷ []) (record { completed = r; begun = []; slots = kept.slots }) without y
          both_may = record {
            births = r_births;
            own_births = r_births;
            covers = λ slots. renumbered_is_covered id (disks_in slots y) (g ∷ h ∷ []) (record r { directories = fewer }) epoch turn r.holders r.next_holders
                (fewer_copies_are_covered id (disks_in slots y) (g ∷ h ∷ []) r fewer less ((on_its_way.sound slots).covered r (inl refl) whole.alive));
            there = without_there;
          }

          pub one_may : MayBeWritten n id (h ∷ []) (record { completed = r; begun = []; slots = kept.slots }) without y
          one_may = record { births = r_births; own_births = r_births; covers = without_covers; there = without_there }
