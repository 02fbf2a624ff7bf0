-- What a write to users' bytes does.
use Rattle.std.proofs.Common.{◌≡◌, ◌⊎◌, inl, inr, ⊎_elim, ℕ, zero, suc, ◌+◌, ◌*◌, ◌/◌, ◌%◌, ◌<◌, ◌≤◌, true, false, ◌&&◌, ◌||◌, not, List, [], ◌∷◌, ◌++◌, get_or, slice_index, refl, sym, ap, subst, ◌∙◌, Option, Some, None, arith, IsTrue, ◌==◌, mul-le-mul_right, add-mul}
use Rattle.std.specs.Prelude.{nat_le}
use Rattle.std.specs.List.{list_all}
use Rattle.std.specs.Option.{option_or, unwrap_or}
use Rattle.std.proofs.lemmas.Bool.{cond_both, and_parts, or_cases, eqb-true, eq-eqb, leb-true, cases_eq, cases_lt, false≢true, and_from, le-leb, lt-ltb}
use Rattle.std.proofs.lemmas.Nat.{div-add-mod'}
use Rattle.std.proofs.lemmas.Option.{same_Some, none-some}
use Rattle.std.proofs.lemmas.List.{get_or-set_same, get_or-set_other}
use Rattle.asm_group.specs.Shape.{Shape}
use Rattle.asm_group.specs.Group.{Group}
use Rattle.asm_formats.specs.Bytes.{block_size}
use Rattle.asm_formats.specs.Regions.{region_end, reserved_units}
use Rattle.asm_formats.specs.Header.{Header}
use Rattle.asm_formats.specs.Metadata.{header_of}
use Rattle.asm_placement.specs.Modes.{is_forced}
use Rattle.asm_formats.specs.Status.{Status, Entry}
use Rattle.asm_formats.specs.Items.{Item, file_item, chunk_item, disk_item, rebalance_item, pending_item, templates_item, node_item, settings_item, marks_item, Home, Homes, chunk_len}
use Rattle.asm_formats.specs.Places.{SameElsewhere}
use Rattle.asm_formats.specs.Among.{IsAmong}
use Rattle.asm_placement.specs.Layout.{units_of}
use Rattle.asm_placement.specs.Tables.{homes_in, home_of}
use Rattle.asm_placement.specs.Placed.{Placed, placed_copies, placed_extents, placed, are_apart, is_inside, all_apart, places_fit}
use Rattle.asm_images.specs.Members.{ImageBytes, Member, byte, written, metadata_of, all_members}
use Rattle.asm_images.specs.Copies.{is_kept, is_disk_in}
use Rattle.asm_images.specs.Sound.{SoundBy}
use Rattle.asm_images.specs.Steps.{IsOpen, IsSpare}
use Rattle.asm_images.specs.Spans.{Span, FitsIn, IsPiece}
use Rattle.asm_images.specs.Spans as spans
use Rattle.asm_images.specs.PutLaws.{bytes_of}
use Rattle.asm_images.specs.WriteLaws.{AreApart, AreFreeUnits, HasOwnUnits}
use Rattle.asm_images.proofs.Membership.{among_left, among_right}
use Rattle.asm_images.proofs.Members.{member_is, member_shape}
use Rattle.asm_images.proofs.UserBytes.{reserved_cover, shape_au, all_of_list}
use Rattle.asm_images.proofs.PutKeeps.{user_write_keeps_metadata}

-- ---- a home among the placed ones, with its extent

record IsPlacedAs (ps : List Placed) (step f i : ℕ) (h : Home) : Type 0 where
  place : Placed
  among : IsAmong ps place
  file : place.file ≡ f
  index : place.index ≡ i
  home : place.home ≡ h
  len : place.len ≡ units_of step i

onward : (xs ys : List Placed) (step f i : ℕ) (h : Home) → IsPlacedAs ys step f i h → IsPlacedAs (xs ++ ys) step f i h
onward xs ys step f i h p = record { place = p.place; among = among_right xs ys p.place p.among; file = p.file; index = p.index; home = p.home; len = p.len }

in_front : (xs ys : List Placed) (step f i : ℕ) (h : Home) → IsPlacedAs xs step f i h → IsPlacedAs (xs ++ ys) step f i h
in_front xs ys step f i h p = record { place = p.place; among = among_left xs ys p.place p.among; file = p.file; index = p.index; home = p.home; len = p.len }

in_copies : (step f i copy : ℕ) (hs : Homes) (h : Home) → get_or hs copy None ≡ Some h → IsPlacedAs (placed_copies f i (units_of step i) hs) step f i h
in_copies step f i copy [] h e = absurd (none-some h e)
in_copies step f i zero (None ∷ hs) h e = absurd (none-some h e)
in_copies step f i zero (Some x ∷ hs) h e =
    record { place = record { file = f; index = i; home = x; len = units_of step i }; among = inl refl; file = refl; index = refl; home = same_Some x h e; len = refl }
in_copies step f i (suc copy) (None ∷ hs) h e = in_copies step f i copy hs h e
in_copies step f i (suc copy) (Some x ∷ hs) h e =
    let p = in_copies step f i copy hs h e in
    record { place = p.place; among = inr p.among; file = p.file; index = p.index; home = p.home; len = p.len }

in_extents : (step f i j k copy : ℕ) (all : List Homes) (h : Home) → j ≡ i + k → get_or (get_or all k []) copy None ≡ Some h → IsPlacedAs (placed_extents step f i all) step f j h
in_extents step f i j k copy [] h at e = absurd (none-some h e)
in_extents step f i j zero copy (hs ∷ all) h at e =
    let same : i ≡ j = omega arith in
    in_front (placed_copies f i (units_of step i) hs) (placed_extents step f (suc i) all) step f j h (subst (λ (n : ℕ). IsPlacedAs (placed_copies f i (units_of step i) hs) step f n h) same (in_copies step f i copy hs h e))
in_extents step f i j (suc k) copy (hs ∷ all) h at e =
    onward (placed_copies f i (units_of step i) hs) (placed_extents step f (suc i) all) step f j h (in_extents step f (suc i) j k copy all h (omega arith) e)

in_chunk : (step : ℕ) (items : List Item) (f c j k copy : ℕ) (h : Home) → j ≡ c * chunk_len + k → get_or (get_or (unwrap_or (homes_in items f c) []) k []) copy None ≡ Some h → IsPlacedAs (placed step items) step f j h
unfolding homes_in placed
in_chunk step [] f c j k copy h at e = absurd (none-some h e)
in_chunk step (chunk_item g d homes ∷ items) f c j k copy h at e =
    let later : get_or (get_or (unwrap_or (homes_in items f c) []) k []) copy None ≡ Some h → IsPlacedAs (placed step items) step f j h = in_chunk step items f c j k copy h at in
    cond_both ((g == f) && (d == c)) (Some homes) None
    (λ (o : Option (List Homes)). get_or (get_or (unwrap_or (option_or o (homes_in items f c)) []) k []) copy None ≡ Some h → IsPlacedAs (placed_extents step g (d * chunk_len) homes ++ placed step items) step f j h)
    (λ yes is.
    let p = and_parts (g == f) (d == c) yes in
    let file : g ≡ f = eqb-true g f p.0 in
    let chunk : d ≡ c = eqb-true d c p.1 in
    in_front (placed_extents step g (d * chunk_len) homes) (placed step items) step f j h
    (subst (λ (n : ℕ). IsPlacedAs (placed_extents step g (d * chunk_len) homes) step n j h) file (in_extents step g (d * chunk_len) j k copy homes h (at ∙ ap (λ (n : ℕ). n * chunk_len + k) (sym chunk)) is)))
    (λ out is. onward (placed_extents step g (d * chunk_len) homes) (placed step items) step f j h (later is)) e
in_chunk step (file_item g head ∷ items) f c j k copy h at e = in_chunk step items f c j k copy h at e
in_chunk step (disk_item d info ∷ items) f c j k copy h at e = in_chunk step items f c j k copy h at e
in_chunk step (rebalance_item power ∷ items) f c j k copy h at e = in_chunk step items f c j k copy h at e
in_chunk step (pending_item op ∷ items) f c j k copy h at e = in_chunk step items f c j k copy h at e
in_chunk step (templates_item ts ∷ items) f c j k copy h at e = in_chunk step items f c j k copy h at e
in_chunk step (node_item n node ∷ items) f c j k copy h at e = in_chunk step items f c j k copy h at e
in_chunk step (settings_item s ∷ items) f c j k copy h at e = in_chunk step items f c j k copy h at e
in_chunk step (marks_item g d marks ∷ items) f c j k copy h at e = in_chunk step items f c j k copy h at e

placed_as : (step : ℕ) (items : List Item) (f i copy : ℕ) (h : Home) → home_of items f i copy ≡ Some h → IsPlacedAs (placed step items) step f i h
unfolding home_of
placed_as step items f i copy h e = in_chunk step items f (i / chunk_len) i (i % chunk_len) copy h (omega (arith, div-add-mod' i chunk_len)) e

-- two of the placed ones are one, or apart
one_or_apart : (ps : List Placed) (p q : Placed) → all_apart ps ≡ true → IsAmong ps p → IsAmong ps q → (p ≡ q) ⊎ ((are_apart p q ≡ true) ⊎ (are_apart q p ≡ true))
one_or_apart [] p q all hp hq = absurd hp
one_or_apart (x ∷ ps) p q all hp hq =
    let parts = and_parts (list_all (are_apart x) ps) (all_apart ps) all in
    let with_first : (y : Placed) → IsAmong ps y → are_apart x y ≡ true = λ y h. all_of_list (are_apart x) ps y parts.0 h in
    ⊎_elim
    (λ (first_p : p ≡ x). ⊎_elim
    (λ (first_q : q ≡ x). inl (first_p ∙ sym first_q))
    (λ later_q. inr (inl (ap (λ (y : Placed). are_apart y q) first_p ∙ with_first q later_q))) hq)
    (λ later_p. ⊎_elim
    (λ (first_q : q ≡ x). inr (inr (ap (λ (y : Placed). are_apart y p) first_q ∙ with_first p later_p)))
    (λ later_q. one_or_apart ps p q parts.1 later_p later_q) hq) hp

-- apart on one disk: their units are
units_apart : (p q : Placed) → are_apart p q ≡ true → p.home.disk ≡ q.home.disk → AreApart p.home.unit p.len q.home.unit q.len
units_apart p q h same = ⊎_elim
    (λ other. absurd (false≢true (sym (ap not (eq-eqb p.home.disk q.home.disk same)) ∙ other)))
    (λ both. ⊎_elim (λ low. inl (leb-true (p.home.unit + p.len) q.home.unit low)) (λ high. inr (leb-true (q.home.unit + q.len) p.home.unit high))
    (or_cases (nat_le (p.home.unit + p.len) q.home.unit) (nat_le (q.home.unit + q.len) p.home.unit)
    (and_parts (nat_le (p.home.unit + p.len) q.home.unit || nat_le (q.home.unit + q.len) p.home.unit) (not ((p.file == q.file) && (p.index == q.index))) both).0))
    (or_cases (not (p.home.disk == q.home.disk)) _ h)

other_way : (a b c d : ℕ) → AreApart a b c d → AreApart c d a b
other_way a b c d (inl le) = inr le
other_way a b c d (inr le) = inl le

pub homes_are_apart : (s : Shape) (entries : List Entry) (items : List Item) (x : Span) (copy : ℕ) (h : Home) → IsTrue (places_fit s entries items)
    → home_of items x.file x.index copy ≡ Some h → HasOwnUnits items s.step x h
homes_are_apart s entries items x copy h fit own f i other k home disk =
    let p = placed_as s.step items x.file x.index copy h own in
    let q = placed_as s.step items f i other k home in
    let all = (and_parts (list_all (is_inside s entries) (placed s.step items)) (all_apart (placed s.step items)) fit).1 in
    let disks : p.place.home.disk ≡ q.place.home.disk = ap (λ (y : Home). y.disk) p.home ∙ sym disk ∙ sym (ap (λ (y : Home). y.disk) q.home) in
    let told : AreApart p.place.home.unit p.place.len q.place.home.unit q.place.len → AreApart h.unit (units_of s.step x.index) k.unit (units_of s.step i) =
    λ a. subst (λ (u : ℕ). AreApart u (units_of s.step x.index) k.unit (units_of s.step i)) (ap (λ (y : Home). y.unit) p.home)
    (subst (λ (n : ℕ). AreApart p.place.home.unit n k.unit (units_of s.step i)) p.len
    (subst (λ (u : ℕ). AreApart p.place.home.unit p.place.len u (units_of s.step i)) (ap (λ (y : Home). y.unit) q.home)
    (subst (λ (n : ℕ). AreApart p.place.home.unit p.place.len q.place.home.unit n) q.len a))) in
    ⊎_elim
    (λ (one : p.place ≡ q.place). inl (
      sym q.file ∙ sym (ap (λ (y : Placed). y.file) one) ∙ p.file,
      sym q.index ∙ sym (ap (λ (y : Placed). y.index) one) ∙ p.index,
      sym q.home ∙ sym (ap (λ (y : Placed). y.home) one) ∙ p.home,
    ))
    (λ apart. inr (⊎_elim
    (λ a. told (units_apart p.place q.place a disks))
    (λ b. told (other_way q.place.home.unit q.place.len p.place.home.unit p.place.len (units_apart q.place p.place b (sym disks)))) apart))
    (one_or_apart (placed s.step items) p.place q.place all p.among q.among)

-- ---- writes

-- a kept disk has the home's number
kept_number : (r : Status) (h : Home) (m : Member) → IsTrue (is_kept r h.disk m.header) → m.header.number ≡ h.disk
unfolding is_kept
kept_number r h m k = go _ k
  where
    go : (o : Option Entry) → is_disk_in (λ mode. not (is_forced mode)) h.disk m.header o ≡ true → m.header.number ≡ h.disk
    go None e = absurd (false≢true e)
    go (Some e) k = eqb-true m.header.number h.disk (and_parts (m.header.number == h.disk) (m.header.birth == e.birth) (and_parts _ _ k).1).0

-- bytes of runs of units that are apart
bytes_apart : (au unit len other other_len inner : ℕ) → AreApart unit len other other_len → inner < other_len * au → ((unit + len) * au ≤ other * au + inner) ⊎ (other * au + inner < unit * au)
bytes_apart au unit len other other_len inner (inl le) lt = inl (omega (arith, mul-le-mul_right au le))
bytes_apart au unit len other other_len inner (inr le) lt = inr (omega (arith, mul-le-mul_right au le, lt))

module _ (id : ℕ) (old : ImageBytes) (m : Member) (bytes : List ℕ) (at n : ℕ) (is_member : IsAmong (all_members id old) m) (same : SameElsewhere (bytes_of old m.slot) bytes at n) where
  -- a byte outside the range
  byte_kept : (k : Member) (place : ℕ) → ((k.slot ≡ m.slot) → (place < at) ⊎ (at + n ≤ place)) → byte (written old m.slot bytes) k.slot place ≡ byte old k.slot place
  byte_kept k place out = ⊎_elim
      (λ (here : k.slot ≡ m.slot).
      let new_bytes : get_or (written old m.slot bytes) k.slot [] ≡ bytes = ap (λ (j : ℕ). get_or (written old m.slot bytes) j []) here ∙ get_or-set_same old m.slot bytes [] (member_is id old m is_member).slot in
      let old_bytes : get_or old k.slot [] ≡ get_or old m.slot [] = ap (λ (j : ℕ). get_or old j []) here in
      ap (λ (l : List ℕ). slice_index l place) new_bytes ∙ ⊎_elim (λ low. same.before place low) (λ high. same.behind place high) (out here) ∙ ap (λ (l : List ℕ). slice_index l place) (sym old_bytes))
      (λ differ. ap (λ (l : List ℕ). slice_index l place) (get_or-set_other old m.slot k.slot bytes [] differ))
      (cases_eq k.slot m.slot)

  -- members of one slot have one header
  one_header : (k : Member) → IsAmong (all_members id old) k → k.slot ≡ m.slot → k.header ≡ m.header
  one_header k hk here = same_Some k.header m.header
      (sym (member_is id old k hk).header ∙ ap (λ (j : ℕ). header_of (get_or old j [])) here ∙ (member_is id old m is_member).header)

  behind : reserved_units m.header.shape * m.header.shape.au ≤ at → region_end m.header.shape.dir_blocks * block_size ≤ at
  behind le = omega (arith, le, reserved_cover m.header.shape (shape_au m.header.shape (member_shape m.header (member_is id old m is_member).allowed)))

  metadata_kept : reserved_units m.header.shape * m.header.shape.au ≤ at → metadata_of (written old m.slot bytes) ≡ metadata_of old
  metadata_kept le = user_write_keeps_metadata old m.slot bytes m.header at n (member_is id old m is_member).slot same (member_is id old m is_member).header (behind le)

pub free_write_is_spare : (id : ℕ) (old : ImageBytes) (groups : List Group) (completed : Option Status) (begun : List Status) → SoundBy id old groups completed begun
    → (m : Member) (bytes : List ℕ) (unit len at n : ℕ) → IsAmong (all_members id old) m → reserved_units m.header.shape ≤ unit
    → unit * m.header.shape.au ≤ at → at + n ≤ (unit + len) * m.header.shape.au
    → ((r : Status) (items : List Item) → IsOpen id old completed begun r items → AreFreeUnits items m.header.shape.step m.header.number unit len)
    → SameElsewhere (bytes_of old m.slot) bytes at n → IsSpare id old (written old m.slot bytes) completed begun
free_write_is_spare id old groups completed begun sound m bytes unit len at n is_member reserved low high free same = record {
  metadata = metadata_kept id old m bytes at n is_member same (omega (arith, low, mul-le-mul_right m.header.shape.au reserved));
  bytes = λ r items f i copy inner h k is_open k_member current lt.
      byte_kept id old m bytes at n is_member same k (h.unit * k.header.shape.au + inner) (λ here.
      let header = one_header id old m bytes at n is_member same k k_member here in
      let disk : h.disk ≡ m.header.number = sym (kept_number r h k current.kept) ∙ ap (λ (x : Header). x.number) header in
      let apart = free r items is_open f i copy h current.home disk in
      let au : k.header.shape.au ≡ m.header.shape.au = ap (λ (x : Header). x.shape.au) header in
      let inside : inner < units_of m.header.shape.step i * m.header.shape.au = subst (λ (x : Header). inner < units_of x.shape.step i * x.shape.au) header lt in
      subst (λ (a : ℕ). (h.unit * a + inner < at) ⊎ (at + n ≤ h.unit * a + inner)) (sym au)
      (⊎_elim (λ above. inr (omega (arith, above, high))) (λ below. inl (omega (arith, below, low))) (bytes_apart m.header.shape.au unit len h.unit (units_of m.header.shape.step i) inner apart inside)));
}

-- an inner byte of the span's own extent that isn't in the span
outside_span : (x : Span) (inner : ℕ) → spans.is_inside_span x x.file x.index inner ≡ false → (inner < x.from) ⊎ (x.from + x.len ≤ inner)
outside_span x inner out = ⊎_elim (λ low. inl low)
    (λ from. ⊎_elim
    (λ lt. absurd (false≢true (sym out ∙ and_from _ _ (and_from _ _ (and_from _ _ (eq-eqb x.file x.file refl) (eq-eqb x.index x.index refl)) (le-leb x.from inner from)) (lt-ltb inner (x.from + x.len) lt))))
    (λ le. inr le) (cases_lt inner (x.from + x.len))) (cases_lt inner x.from)

pub copy_write_is_piece : (id : ℕ) (old : ImageBytes) (groups : List Group) (completed : Option Status) (begun : List Status) → SoundBy id old groups completed begun
    → (x : Span) (h : Home) (m : Member) (bytes : List ℕ) → IsAmong (all_members id old) m → h.disk ≡ m.header.number → reserved_units m.header.shape ≤ h.unit
    → FitsIn groups x → x.from + x.len ≤ units_of m.header.shape.step x.index * m.header.shape.au
    → ((r : Status) (items : List Item) → IsOpen id old completed begun r items → HasOwnUnits items m.header.shape.step x h)
    → SameElsewhere (bytes_of old m.slot) bytes (h.unit * m.header.shape.au + x.from) x.len → IsPiece id old (written old m.slot bytes) groups completed begun x
copy_write_is_piece id old groups completed begun sound x h m bytes is_member number reserved fits short own same = record {
  fits = fits;
  metadata = metadata_kept id old m bytes (h.unit * m.header.shape.au + x.from) x.len is_member same (omega (arith, mul-le-mul_right m.header.shape.au reserved));
  bytes = λ r items f i copy inner k_home k is_open k_member current lt out.
      byte_kept id old m bytes (h.unit * m.header.shape.au + x.from) x.len is_member same k (k_home.unit * k.header.shape.au + inner) (λ here.
      let header = one_header id old m bytes (h.unit * m.header.shape.au + x.from) x.len is_member same k k_member here in
      let disk : k_home.disk ≡ h.disk = sym (kept_number r k_home k current.kept) ∙ ap (λ (y : Header). y.number) header ∙ sym number in
      let au : k.header.shape.au ≡ m.header.shape.au = ap (λ (y : Header). y.shape.au) header in
      let inside : inner < units_of m.header.shape.step i * m.header.shape.au = subst (λ (y : Header). inner < units_of y.shape.step i * y.shape.au) header lt in
      subst (λ (a : ℕ). (k_home.unit * a + inner < h.unit * m.header.shape.au + x.from) ⊎ (h.unit * m.header.shape.au + x.from + x.len ≤ k_home.unit * a + inner)) (sym au)
      (⊎_elim
      (λ one.
      let unit : k_home.unit ≡ h.unit = ap (λ (y : Home). y.unit) one.2 in
      let out_here : spans.is_inside_span x x.file x.index inner ≡ false = subst (λ (j : ℕ). spans.is_inside_span x x.file j inner ≡ false) one.1 (subst (λ (g : ℕ). spans.is_inside_span x g i inner ≡ false) one.0 out) in
      let bytes_same : k_home.unit * m.header.shape.au ≡ h.unit * m.header.shape.au = ap (λ (u : ℕ). u * m.header.shape.au) unit in
      ⊎_elim (λ low. inl (omega (arith, low, bytes_same))) (λ high. inr (omega (arith, high, bytes_same))) (outside_span x inner out_here))
      (λ apart.
      let whole : (h.unit + units_of m.header.shape.step x.index) * m.header.shape.au ≡ h.unit * m.header.shape.au + units_of m.header.shape.step x.index * m.header.shape.au = add-mul h.unit (units_of m.header.shape.step x.index) m.header.shape.au in
      ⊎_elim (λ above. inr (omega (arith, above, short, whole))) (λ below. inl (omega (arith, below)))
      (bytes_apart m.header.shape.au h.unit (units_of m.header.shape.step x.index) k_home.unit (units_of m.header.shape.step i) inner apart inside))
      (own r items is_open f i copy k_home current.home disk)));
}
