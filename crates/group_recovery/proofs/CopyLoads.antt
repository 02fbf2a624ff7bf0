-- The directory copies that a mount loads.
use Rattle.std.proofs.Common.{◌≡◌, inl, inr, ⊎_elim, ℕ, ◌*◌, ◌≤◌, true, ◌&&◌, List, [], ◌∷◌, refl, sym, ap, subst, ◌∙◌, Option, None, unwrap_or, arith, ◌==◌}
use Rattle.std.specs.Prelude.{nat_le}
use Rattle.std.proofs.lemmas.Bool.{cond_both, and_parts, eqb-true, leb-true}
use Rattle.std.proofs.lemmas.Option.{same_Some}
use Rattle.std.specs.Option.{option_map}
use Rattle.bay.specs.State.{BayState}
use Rattle.bay.specs.Moments.{Durable}
use Rattle.asm_group.specs.Shape.{Shape, is_shape, is_unit_size, is_step, is_sector, is_dir_blocks}
use Rattle.asm_formats.specs.Bytes.{block_size}
use Rattle.asm_formats.specs.Regions.{has_region, region_end}
use Rattle.asm_formats.specs.Sets.{has_bit}
use Rattle.asm_formats.specs.Status.{Status, Entry, entry_of}
use Rattle.asm_formats.specs.Among.{IsAmong}
use Rattle.asm_images.proofs.Members.{member_shape}
use Rattle.directory_store.specs.change_directory.declared.copy.DirCopy.{DirCopy}
use Rattle.directory_store.specs.Copies.{AreCopiesApart, AreNamedCopies, IsNamedCopy, IsSlotOfCopy}
use Rattle.directory_store.specs.Loading.{AreDurable as AreSettled}
use Rattle.directory_store.specs.Stores.{HaveOneSize}
use Rattle.status_register.specs.Holders.{is_of}
use Rattle.status_register.specs.declared.member.Member.{Member}
use Rattle.status_register.proofs.Holding.{entry_birth}
use Rattle.status_register.proofs.Meeting.{found}
use Rattle.group_recovery.specs.Alike.{first_stranger}
use Rattle.group_recovery.specs.Finding.{AreInOwnSlots as AreApartDisks, AreThere}
use Rattle.group_recovery.specs.Missing.{has_units}
use Rattle.group_recovery.specs.NamedCopies.{directory_copy_of, is_named_copy, named_copies}
use Rattle.group_recovery.specs.Syncing.{AreMembersDurable}
use Rattle.group_recovery.specs.Verdicts.{IsSlotIn, has_slot, member_of}
use Rattle.group_recovery.specs.declared.finding.Headed.{Headed}
use Rattle.group_recovery.proofs.Alikes.{alike_rest, further_in, one_shape}
use Rattle.group_recovery.proofs.Searches.{there_attached}
use Rattle.group_recovery.proofs.Surveyed.{header_number}

blocks_of : (s : Shape) → is_shape s ≡ true → (128 ≤ s.dir_blocks) × (s.dir_blocks ≤ 16384)
unfolding is_shape
blocks_of s ok =
    let a = and_parts (is_unit_size s.au) _ ok in
    let b = and_parts (is_step s.step) _ a.1 in
    let c = and_parts (is_sector s.sector s.au) (is_dir_blocks s.dir_blocks) b.1 in
    let d = and_parts (nat_le 128 s.dir_blocks) (nat_le s.dir_blocks 16384) c.1 in
    (leb-true 128 s.dir_blocks d.0, leb-true s.dir_blocks 16384 d.1)

module _ (id : ℕ) (read : List Member) (r : Status) where
  pub record IsFrom (hs : List Headed) (c : DirCopy) : Type 0 where
    pub disk : Headed
    pub among : IsAmong hs disk
    pub copy : c ≡ directory_copy_of disk
    pub own : disk.header.id ≡ id
    pub seen : has_slot read disk.slot ≡ true
    pub named : has_bit r.directories disk.header.number ≡ true
    pub entry : is_of r.entries (member_of disk) ≡ true
    pub units : has_units r.entries disk ≡ true
    pub long : has_region disk.header.shape.dir_blocks disk.size ≡ true

  parts : (h : Headed) (hs : List Headed) (c : DirCopy) → c ≡ directory_copy_of h → IsAmong hs h → is_named_copy id read r h ≡ true → IsFrom hs c
  parts h hs c same among named =
      let region = has_region h.header.shape.dir_blocks h.size in
      let a = and_parts (h.header.id == id) (has_slot read h.slot && (has_bit r.directories h.header.number && (is_of r.entries (member_of h) && (has_units r.entries h && region)))) named in
      let b = and_parts (has_slot read h.slot) (has_bit r.directories h.header.number && (is_of r.entries (member_of h) && (has_units r.entries h && region))) a.1 in
      let d = and_parts (has_bit r.directories h.header.number) (is_of r.entries (member_of h) && (has_units r.entries h && region)) b.1 in
      let e = and_parts (is_of r.entries (member_of h)) (has_units r.entries h && region) d.1 in
      let f = and_parts (has_units r.entries h) region e.1 in
      record { disk = h; among = among; copy = same; own = eqb-true h.header.id id a.0; seen = b.0; named = d.0; entry = e.0; units = f.0; long = f.1 }

  pub copy_from : (hs : List Headed) (c : DirCopy) → IsAmong (named_copies id read r hs) c → IsFrom hs c
  copy_from [] c h = absurd h
  copy_from (x ∷ xs) c h =
      let later : IsAmong (named_copies id read r xs) c → IsFrom (x ∷ xs) c =
      λ k. let f = copy_from xs c k in record { disk = f.disk; among = inr f.among; copy = f.copy; own = f.own; seen = f.seen; named = f.named; entry = f.entry; units = f.units; long = f.long } in
      cond_both (is_named_copy id read r x) (directory_copy_of x ∷ named_copies id read r xs) (named_copies id read r xs) (λ (l : List DirCopy). IsAmong l c → IsFrom (x ∷ xs) c)
      (λ is a. ⊎_elim (λ same. parts x (x ∷ xs) c same (inl refl) is) later a) (λ no a. later a) h

  -- one disk's number is that of one member
  one_birth : (h k : Headed) → is_of r.entries (member_of h) ≡ true → is_of r.entries (member_of k) ≡ true → k.header.number ≡ h.header.number → k.header.birth ≡ h.header.birth
  one_birth h k one two number = same_Some k.header.birth h.header.birth
      (sym (entry_birth r.entries (member_of k) two) ∙ ap (λ (d : ℕ). option_map (λ (e : Entry). e.birth) (entry_of r.entries d)) number ∙ entry_birth r.entries (member_of h) one)

  pub copies_apart : (hs : List Headed) → AreApartDisks hs → first_stranger id hs ≡ None → AreCopiesApart (named_copies id read r hs)
  unfolding parts
  copies_apart [] apart alike = tt
  copies_apart (x ∷ xs) (here, rest) alike =
      let later : AreCopiesApart (named_copies id read r xs) = copies_apart xs rest (alike_rest id x xs alike) in
      cond_both (is_named_copy id read r x) (directory_copy_of x ∷ named_copies id read r xs) (named_copies id read r xs) AreCopiesApart
      (λ is.
      let mine = parts x (x ∷ xs) (directory_copy_of x) refl (inl refl) is in (
        (λ c among.
            let f = copy_from xs c among in (
              (λ same. here f.disk f.among (sym (same ∙ ap (λ (d : DirCopy). d.slot) f.copy))),
              (λ same. let number : f.disk.header.number ≡ x.header.number = sym (same ∙ ap (λ (d : DirCopy). d.number) f.copy) in
                  (further_in id x xs alike mine.own f.disk f.among f.own).differs number (one_birth x f.disk mine.entry f.entry number)),
            )),
        later,
      ))
      (λ no. later)

  pub one_size : (hs : List Headed) → first_stranger id hs ≡ None → HaveOneSize (named_copies id read r hs)
  one_size hs alike c d one two =
      let f = copy_from hs c one in
      let k = copy_from hs d two in
      ap (λ (x : DirCopy). x.dir_blocks) f.copy ∙ ap (λ (s : Shape). s.dir_blocks) (one_shape id hs alike f.disk k.disk f.among k.among f.own k.own) ∙ ap (λ (x : DirCopy). x.dir_blocks) (sym k.copy)

  pub copies_named : (n : ℕ) (hs : List Headed) (state : BayState) → AreThere n hs state → AreNamedCopies (named_copies id read r hs) [] state
  copies_named n hs state there c among =
      let f = copy_from hs c among in
      let h = f.disk in
      let ok = (there.allowed h f.among).header in
      let blocks = blocks_of h.header.shape (member_shape h.header ok) in
      let slots = there_attached n hs state there h f.among in
      let mine : IsNamedCopy [] state (directory_copy_of h) = record {
        copy_is = record {
          attached = slots.attached;
          sector_size = slots.sector_size;
          least = blocks.0;
          most = blocks.1;
          inside = omega (arith, leb-true (region_end h.header.shape.dir_blocks * block_size) h.size f.long, ap (λ (o : Option ℕ). unwrap_or o 0) (there.attached h f.among));
        };
        number = header_number h.header ok;
        due = refl;
      } in
      subst (IsNamedCopy [] state) (sym f.copy) mine

  pub copies_in : (hs : List Headed) (slot : ℕ) → IsSlotOfCopy (named_copies id read r hs) slot → IsSlotIn hs slot
  copies_in hs slot of =
      let f = copy_from hs of.0 of.1 in
      (f.disk, f.among, of.2 ∙ ap (λ (x : DirCopy). x.slot) f.copy)

  pub copies_settled : (hs : List Headed) (ms : List Member) (state : BayState) → ((m : Member) → IsAmong read m → IsAmong ms m) → AreMembersDurable ms state → AreSettled (named_copies id read r hs) state
  copies_settled hs ms state among durable c h =
      let f = copy_from hs c h in
      let m = found (λ (k : Member). k.slot == f.disk.slot) read f.seen in
      subst (λ (s : ℕ). Durable s state) (eqb-true m.0.slot f.disk.slot m.2 ∙ ap (λ (x : DirCopy). x.slot) (sym f.copy)) (durable m.0 (among m.0 m.1))
