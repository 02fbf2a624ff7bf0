-- A record that may come next, on one image of a mounted group: its copies have the content of the tables, and with the attached disks it
-- is there.
use Rattle.std.proofs.Common.{◌≡◌, inl, ℕ, ◌==◌, true, List, refl, sym, ap, subst, ◌∙◌, Some, IsTrue}
use Rattle.std.specs.Option.{option_map}
use Rattle.std.proofs.lemmas.Bool.{eqb-true}
use Rattle.std.proofs.lemmas.Option.{same_Some}
use Rattle.bay.specs.Image as bay
use Rattle.bay.specs.Image.{ChangesOnly}
use Rattle.bay.specs.State.{BayState}
use Rattle.asm_group.specs.Group.{Group}
use Rattle.asm_formats.specs.Among.{IsAmong}
use Rattle.asm_formats.specs.Content.{Content}
use Rattle.asm_formats.specs.Header.{Header}
use Rattle.asm_formats.specs.Items.{Item}
use Rattle.asm_formats.specs.Sets.{elements}
use Rattle.asm_formats.specs.Status.{Entry, Status, entry_of}
use Rattle.asm_images.specs.Bridge.{disks_in}
use Rattle.asm_images.specs.Directories.{directories, IsNamed}
use Rattle.asm_images.specs.Kept.{Kept}
use Rattle.asm_images.specs.Members.{Member, all_members, within}
use Rattle.asm_images.specs.Register.{is_enough}
use Rattle.asm_images.proofs.Enough.{more_enough}
use Rattle.asm_images.proofs.Membership.{among_within}
use Rattle.group_engine.proofs.catalog_tables.TableItems.{from_map}
use Rattle.group_engine.specs.directory_store.Copies.{RegionsOf}
use Rattle.status_register.specs.Holders.{attached_to, with_next_number}
use Rattle.status_register.specs.SurveyLaws.{IsMemberOn, slots_of}
use Rattle.status_register.specs.Surveys.{disk_in}
use Rattle.status_register.specs.declared.member.Member.{Member as Disk}
use Rattle.status_register.proofs.Holding.{among_below, entry_birth}
use Rattle.status_register.proofs.Meeting.{enough_there, found}
use Rattle.group_engine.specs.CommitSteps.{content_of_items}
use Rattle.group_engine.specs.Mounts.{MountedGroup, Mounts}
use Rattle.group_engine.specs.Recorded.{IsThere}
use Rattle.group_engine.specs.Statuses.{IsNextOf}
use Rattle.group_engine.proofs.Calls.{image_of, items, was}
use Rattle.group_engine.proofs.Images.{IsImageOf, is_committing}
use Rattle.group_engine.proofs.Renewing.{among_some, content_found, some_found}
use Rattle.group_engine.proofs.Slots.{member_there}

module _ (n : ℕ) (m : MountedGroup) (s : BayState) (g : Group) (kept : Kept) (mounts : Mounts n m s g kept) (x : bay.Image) (left : s.leaves s.calls x) where
  abbrev r : Status
  r = m.register.value

  abbrev id : ℕ
  id = m.register.id

  of : IsImageOf n m g kept x
  of = image_of n m s g kept mounts x left

  -- the items of the tables, and what the copies say
  abbrev pub said : List Item
  said = (items n m s g kept mounts).0

  abbrev pub content : Content
  content = content_of_items m.store.number said

  no_change : ChangesOnly (RegionsOf m.store.copies) x x
  no_change = record { size = λ slot. refl; byte = λ slot k out. refl }

  -- each copy that the record names has the content
  pub have : (slots : ℕ) (k : Member) → IsAmong (all_members id (disks_in slots x)) k → IsNamed r k.header → k.disk.content ≡ Some content
  have slots k among named =
      let w = was n m s g kept mounts x left in
      (is_committing n m mounts.whole g mounts.represents.shape kept x of x no_change m.store.number m.store.number said said w (λ c h. inl (w c h)) slots).was k among named

  -- so it is found, where one is there
  pub found_all : (slots : ℕ) (k : Member) → IsAmong (all_members id (disks_in slots x)) k → IsNamed r k.header
      → directories r (within (λ any. true) (all_members id (disks_in slots x))) ≡ Some content
  found_all slots k among named = content_found r (all_members id (disks_in slots x)) k among named content (λ z z_among z_named. have slots z z_among z_named)

  module _ (next : Status) (is_next : IsNextOf m next) where
    abbrev q : Status
    q = with_next_number m.register next

    -- a copy that the next record names this one names
    pub was_named : (h : Header) → IsNamed q h → IsNamed r h
    was_named h named =
        let c = is_next.copies.all h.number named.named in
        let old = mounts.whole.copies.each c.0 c.1 in
        let new = is_next.copies.each c.0 c.1 (subst (λ (d : ℕ). IsAmong (elements next.directories) d) (sym c.2) named.named) in
        let same : new.member ≡ old.member = same_Some new.member old.member (sym new.attached ∙ old.attached) in
        let number : old.member.number ≡ h.number = mounts.whole.numbers c.0.number old.member old.attached ∙ c.2 in
        let then = entry_birth r.entries old.member old.entry in
        let now = entry_birth next.entries new.member new.entry in
        let number_now : new.member.number ≡ h.number = ap (λ (k : Disk). k.number) same ∙ number in
        let birth_now : Some named.entry.birth ≡ Some new.member.birth =
        sym (ap (option_map (λ (e : Entry). e.birth)) named.entry_is) ∙ ap (λ (d : ℕ). option_map (λ (e : Entry). e.birth) (entry_of next.entries d)) (sym number_now) ∙ now in
        let entry = from_map (λ (e : Entry). e.birth) (entry_of r.entries h.number) old.member.birth (ap (λ (d : ℕ). option_map (λ (e : Entry). e.birth) (entry_of r.entries d)) (sym number) ∙ then) in
        record {
          named = subst (λ (d : ℕ). IsAmong (elements r.directories) d) c.2 old.named;
          entry = entry.0;
          entry_is = entry.1;
          birth = entry.2 ∙ ap (λ (k : Disk). k.birth) (sym same) ∙ sym (same_Some named.entry.birth new.member.birth birth_now) ∙ named.birth;
        }

    on_image : (k : Disk) → IsAmong (attached_to m.register.members next) k → IsMemberOn n id x k
    on_image k h = let f = among_below m.register.members next 64 k h in of.members f.0 k f.2.there

    own_slots : (slot : ℕ) → slots_of (attached_to m.register.members next) slot ≡ true → kept.slots slot ≡ true
    own_slots slot is =
        let k = found (λ (j : Disk). j.slot == slot) (attached_to m.register.members next) is in
        let f = among_below m.register.members next 64 k.0 k.1 in
        of.own slot (f.0, k.0, f.2.there, sym (eqb-true k.0.slot slot k.2))

    enough : IsTrue (is_enough q (within kept.slots (all_members id (disks_in n x))))
    unfolding is_enough
    enough = more_enough next (slots_of (attached_to m.register.members next)) kept.slots (all_members id (disks_in n x)) own_slots
        (enough_there n id x (attached_to m.register.members next) on_image next is_next.reached)

    -- with the attached disks the record is there, where it names a copy
    pub is_there : (d : ℕ) → IsAmong (elements next.directories) d → IsThere (within kept.slots (all_members id (disks_in n x))) q
    is_there d listed =
        let all = all_members id (disks_in n x) in
        let c = is_next.copies.all d listed in
        let k = is_next.copies.each c.0 c.1 (subst (λ (j : ℕ). IsAmong (elements next.directories) j) (sym c.2) listed) in
        let on = of.members c.0.number k.member k.attached in
        let a : Member = record { slot = k.member.slot; header = on.header; disk = disk_in x k.member.slot } in
        let among : IsAmong (within kept.slots all) a = among_some kept.slots all a (member_there id n k.member.slot x on.header on.inside on.header_is on.group)
        (of.own k.member.slot (c.0.number, k.member, k.attached, refl)) in
        let number : on.header.number ≡ d = on.number ∙ mounts.whole.numbers c.0.number k.member k.attached ∙ c.2 in
        let entry = from_map (λ (e : Entry). e.birth) (entry_of next.entries k.member.number) k.member.birth (entry_birth next.entries k.member k.entry) in
        let named : IsNamed q on.header = record {
          named = subst (λ (j : ℕ). IsAmong (elements next.directories) j) (sym number) listed;
          entry = entry.0;
          entry_is = ap (entry_of next.entries) on.number ∙ entry.1;
          birth = entry.2 ∙ sym on.birth;
        } in
        let f = some_found q (within kept.slots all) a among named (λ z z_among z_named. (content, have n z (among_within kept.slots all z z_among) (was_named z.header z_named))) in
        record { enough = enough; alive = is_next.alive; content = f.0; found = f.1 }
