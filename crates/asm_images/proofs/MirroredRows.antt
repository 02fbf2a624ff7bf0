-- The worked group of two disks, computed.
use Rattle.std.proofs.Common.{◌≡◌, ◌⊎◌, inl, inr, ⊎_elim, ℕ, zero, suc, ◌+◌, ◌*◌, Bool, true, false, cond, List, [], ◌∷◌, ◌++◌, replicate, get_or, refl, sym, ap, subst, ◌∙◌, Some, arith}
use Rattle.std.proofs.lemmas.Bool.{both_ways, false≢true}
use Rattle.std.proofs.lemmas.Option.{same_Some, none-some}
use Rattle.std.proofs.lemmas.List.{length-replicate, get_or-append-add}
use Rattle.asm_group.specs.Group.{Cell, Known, Free, File, Group}
use Rattle.asm_group.specs.Shape.{is_shape}
use Rattle.asm_group.specs.declared.Stripe.TheVariants.{Coarse}
use Rattle.asm_formats.specs.Items.{Item, Home}
use Rattle.asm_formats.specs.Sets.{has_bit, elements}
use Rattle.asm_formats.specs.Content.{Content}
use Rattle.asm_formats.specs.Status.{Entry, entry_of}
use Rattle.asm_formats.specs.Among.{IsAmong}
use Rattle.asm_placement.specs.Layout.{start, units_of}
use Rattle.asm_placement.specs.Tables.{homes_in, marks_in, home_of, is_stale}
use Rattle.asm_images.specs.Copies.{IsCurrent, is_kept}
use Rattle.asm_images.specs.Describing.{LiesIn}
use Rattle.asm_images.specs.Directories.{copies, directories}
use Rattle.asm_images.specs.Members.{Member, within, byte}
use Rattle.asm_images.specs.Stands.{HoldsBytes, Describes, IsDiskOf}
use Rattle.asm_images.specs.Mirrored.{mirrored_shape, mirrored_file, mirrored_group, mirrored_items, mirrored_entry, mirrored_entries, mirrored_record, mirrored_content, mirrored_disk, mirrored_disks, mirrored_image, torn_disks, MirroredBytesAre, MirroredRules, MirroredCopies, MirroredIsDescribed, MirroredIsOneOfTwo}
use Rattle.asm_placement.proofs.Places.{one_place_of}
use Rattle.asm_images.proofs.Spans.{layout_of}
use Rattle.asm_images.proofs.MirroredGroup.{file_is, the_file, mirrored_describes}

-- ---- the file's bytes

known_cell : (o b : ℕ) → get_or (Known 7 ∷ Free ∷ []) o Free ≡ Known b → (o ≡ 0) × (7 ≡ b)
known_cell zero b e = (refl, ap value e)
  where
    value : Cell → ℕ
    value (Known n) = n
    value Free = 0
known_cell (suc zero) b e = absurd cc
known_cell (suc (suc o)) b e = absurd cc

first_byte : LiesIn mirrored_shape Coarse 0 0 0
unfolding start units_of
first_byte = record { inside = omega arith; byte = refl }

-- the one place of byte 0
the_place : (i inner : ℕ) → LiesIn mirrored_shape Coarse 0 i inner → (i ≡ 0) × (inner ≡ 0)
unfolding is_shape
the_place i inner lies = one_place_of Coarse 4096 20000 0 i inner 0 0 (layout_of mirrored_shape refl) lies first_byte

-- ---- its bytes

module _ (front : ℕ) (is : front ≡ 300 * 4096) (a b marks next : ℕ) (first second : Content) where
  behind : (xs : List ℕ) → get_or (replicate front 0 ++ xs) (300 * 4096 + 0) 0 ≡ get_or xs 0 0
  behind xs = ap (λ (n : ℕ). get_or (replicate front 0 ++ xs) n 0) (omega (arith, is, length-replicate {A = ℕ} front 0)) ∙ get_or-append-add (replicate front 0) xs 0 0

  on_first : byte (mirrored_image front a b) 0 (300 * 4096 + 0) ≡ a
  on_first = behind (a ∷ 0 ∷ [])

  on_second : byte (mirrored_image front a b) 1 (300 * 4096 + 0) ≡ b
  on_second = behind (b ∷ 0 ∷ [])

  abbrev disks : List Member
  disks = mirrored_disks first second

  abbrev items : List Item
  items = mirrored_items marks next

  abbrev home_on : ℕ → Home
  home_on d = record { disk = d; unit = 300 }

  copy_byte : (a ≡ 7) ⊎ (has_bit marks 0 ≡ true) → (b ≡ 7) ⊎ (has_bit marks 1 ≡ true) → (copy : ℕ) (h : Home) (m : Member) → IsAmong disks m
      → IsCurrent mirrored_record items 256 0 copy h m → byte (mirrored_image front a b) m.slot (h.unit * 4096 + 0) ≡ 7
  unfolding home_of homes_in is_stale marks_in is_kept entry_of
  copy_byte left right zero h m (inl m0) c =
      let he : home_on 0 ≡ h = same_Some (home_on 0) h c.home in
      (λ i. byte (mirrored_image front a b) (m0 i).slot ((sym he i).unit * 4096 + 0)) ∙ on_first ∙ ⊎_elim (λ same. same) (λ bit. absurd (both_ways (has_bit marks 0) c.fresh bit)) left
  copy_byte left right zero h m (inr (inl m1)) c =
      let he : home_on 0 ≡ h = same_Some (home_on 0) h c.home in
      absurd (false≢true ((λ i. is_kept mirrored_record (he i).disk (sym m1 i).header) ∙ c.kept))
  copy_byte left right zero h m (inr (inr none)) c = absurd none
  copy_byte left right (suc zero) h m (inl m0) c =
      let he : home_on 1 ≡ h = same_Some (home_on 1) h c.home in
      absurd (false≢true ((λ i. is_kept mirrored_record (he i).disk (sym m0 i).header) ∙ c.kept))
  copy_byte left right (suc zero) h m (inr (inl m1)) c =
      let he : home_on 1 ≡ h = same_Some (home_on 1) h c.home in
      (λ i. byte (mirrored_image front a b) (m1 i).slot ((sym he i).unit * 4096 + 0)) ∙ on_second ∙ ⊎_elim (λ same. same) (λ bit. absurd (both_ways (has_bit marks 1) c.fresh bit)) right
  copy_byte left right (suc zero) h m (inr (inr none)) c = absurd none
  copy_byte left right (suc (suc zero)) h m hm c = absurd (none-some h c.home)
  copy_byte left right (suc (suc (suc k))) h m hm c = absurd (none-some h c.home)

  holds : (a ≡ 7) ⊎ (has_bit marks 0 ≡ true) → (b ≡ 7) ⊎ (has_bit marks 1 ≡ true) → HoldsBytes (mirrored_image front a b) disks mirrored_record items (mirrored_group next)
  holds left right f o value i inner copy file h m is_file cell lies hm current =
      let one = the_file next f file is_file in
      let known = known_cell o value (ap (λ (x : File). get_or x.cells o Free) (sym one.1) ∙ cell) in
      let here : LiesIn mirrored_shape Coarse 0 i inner = subst (λ (n : ℕ). LiesIn mirrored_shape Coarse n i inner) known.0 (subst (λ (x : File). LiesIn mirrored_shape x.stripe o i inner) one.1 lies) in
      let place = the_place i inner here in
      let now : IsCurrent mirrored_record items 256 0 copy h m =
      subst (λ (j : ℕ). IsCurrent mirrored_record items 256 j copy h m) place.0 (subst (λ (n : ℕ). IsCurrent mirrored_record items n i copy h m) one.0 current) in
      ap (λ (k : ℕ). byte (mirrored_image front a b) m.slot (h.unit * 4096 + k)) place.1 ∙ copy_byte left right copy h m hm now ∙ known.1

  -- the second copy, where it isn't marked
  second_is : has_bit marks 1 ≡ false → HoldsBytes (mirrored_image front a b) disks mirrored_record items (mirrored_group next) → b ≡ 7
  unfolding home_of homes_in is_stale marks_in is_kept entry_of
  second_is fresh all = sym on_second ∙ all 256 0 7 0 0 1 mirrored_file (record { disk = 1; unit = 300 }) (mirrored_disk 1 second)
      (file_is next 256) refl first_byte (inr (inl refl)) (record { home = refl; kept = refl; fresh = fresh })

pub mirrored_bytes_are : MirroredBytesAre
unfolding has_bit
mirrored_bytes_are = λ front is. record {
  both = holds front is 7 7 0 1 (mirrored_content 0 1) (mirrored_content 0 1) (inl refl) (inl refl);
  one_changed = λ all. absurd (omega (arith, second_is front is 7 9 0 1 (mirrored_content 0 1) (mirrored_content 0 1) refl all));
  it_is_marked = holds front is 7 9 2 1 (mirrored_content 2 1) (mirrored_content 2 1) (inl refl) (inr refl);
  other_is_marked = λ all. absurd (omega (arith, second_is front is 7 9 1 1 (mirrored_content 1 1) (mirrored_content 1 1) refl all));
  unread = λ d. absurd (omega (
    arith,
    second_is front is 7 9 0 1 (mirrored_content 0 1) (mirrored_content 0 1) refl
        (subst (λ (items : List Item). HoldsBytes (mirrored_image front 7 9) (mirrored_disks (mirrored_content 0 1) (mirrored_content 0 1)) mirrored_record items (mirrored_group 1)) (sym (same_Some (mirrored_items 0 1) d.items d.decodes)) d.bytes),
  ));
}

-- ---- the rules

pub mirrored_rules : MirroredRules
unfolding home_of homes_in is_stale marks_in has_bit entry_of
mirrored_rules = record {
  third_copy_marked = λ k. false≢true (k.stale 256 0 2 refl);
  next_extent_marked = λ k. false≢true (k.stale 256 1 0 refl);
  quorum_home = λ k. false≢true (k 256 0 1 (record { disk = 1; unit = 300 }) refl);
}

pub mirrored_copies : MirroredCopies
unfolding copies entry_of elements has_bit
mirrored_copies = record { equal = refl; second_lags = refl; first_lags = refl }

-- ---- a commit that stands on one copy alone

slot_is : (a b : Content) (m : Member) → IsAmong (mirrored_disks a b) m → m.slot ≡ m.header.number
slot_is a b m (inl e) = (λ i. (e i).slot) ∙ sym (λ i. (e i).header.number)
slot_is a b m (inr (inl e)) = (λ i. (e i).slot) ∙ sym (λ i. (e i).header.number)
slot_is a b m (inr (inr none)) = absurd none

one : (next : ℕ) (c : Content) (d : ℕ) → (e : Entry) → entry_of mirrored_entries d ≡ Some e → e.units ≡ 1024 → IsDiskOf (mirrored_group next) mirrored_record (mirrored_disk d c)
one next c d e is units = record {
  claims = refl;
  statuses = refl;
  directories = refl;
  name = refl;
  shape = refl;
  units = λ x found birth. omega (arith, ap (λ (y : Entry). y.units) (same_Some e x (sym is ∙ found)), units);
}

disk_is : (next : ℕ) (a b : Content) (m : Member) → IsAmong (mirrored_disks a b) m → IsDiskOf (mirrored_group next) mirrored_record m
unfolding entry_of
disk_is next a b m (inl e) = subst (λ (x : Member). IsDiskOf (mirrored_group next) mirrored_record x) (sym e) (one next a 0 (mirrored_entry 0 false 2) refl refl)
disk_is next a b m (inr (inl e)) = subst (λ (x : Member). IsDiskOf (mirrored_group next) mirrored_record x) (sym e) (one next b 1 (mirrored_entry 1 false 1) refl refl)
disk_is next a b m (inr (inr none)) = absurd none

stands_by : (front : ℕ) → front ≡ 300 * 4096 → (next : ℕ) (a b : Content) → Describes (mirrored_image front 7 7) (mirrored_disks a b) (mirrored_disks a b) mirrored_record (mirrored_content 0 next) (mirrored_group next)
stands_by front is next a b = record {
  distinct = λ m n hm hn number birth. slot_is a b m hm ∙ number ∙ sym (slot_is a b n hn);
  disks = disk_is next a b;
  items = mirrored_items 0 next;
  decodes = refl;
  describes = mirrored_describes 0 next (omega arith);
  bytes = holds front is 7 7 0 next a b (inl refl) (inl refl);
}

module _ (front : ℕ) (is : front ≡ 300 * 4096) where
  -- one of the two groups stands by the content
  abbrev OneOfTwo : Content → Type 0
  OneOfTwo c = (g : Group) × IsAmong (mirrored_group 1 ∷ mirrored_group 2 ∷ []) g × Describes (mirrored_image front 7 7) torn_disks torn_disks mirrored_record c g

  by_first : OneOfTwo (mirrored_content 0 1)
  by_first = (mirrored_group 1, inl refl, stands_by front is 1 (mirrored_content 0 1) (mirrored_content 0 2))

  by_second : OneOfTwo (mirrored_content 0 2)
  by_second = (mirrored_group 2, inr (inl refl), stands_by front is 2 (mirrored_content 0 1) (mirrored_content 0 2))

  by : (a b : Bool) (c : Content) → directories mirrored_record (cond a (mirrored_disk 0 (mirrored_content 0 1) ∷ cond b (mirrored_disk 1 (mirrored_content 0 2) ∷ []) []) (cond b (mirrored_disk 1 (mirrored_content 0 2) ∷ []) []))
      ≡ Some c → OneOfTwo c
  unfolding copies entry_of elements has_bit
  by true true c e = subst (λ (x : Content). OneOfTwo x) (same_Some (mirrored_content 0 2) c e) by_second
  by true false c e = subst (λ (x : Content). OneOfTwo x) (same_Some (mirrored_content 0 1) c e) by_first
  by false true c e = subst (λ (x : Content). OneOfTwo x) (same_Some (mirrored_content 0 2) c e) by_second
  by false false c e = absurd (none-some c e)

pub mirrored_is_one_of_two : MirroredIsOneOfTwo
unfolding within
mirrored_is_one_of_two = λ front P c is found. by front is (P 0) (P 1) c found

pub mirrored_is_described : MirroredIsDescribed
mirrored_is_described = λ marks next less. mirrored_describes marks next less
