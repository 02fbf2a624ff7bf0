-- The chunk that a copy comes from, and its mark after a move.
use Rattle.std.proofs.Common.{◌≡◌, ◌⊎◌, inl, inr, ⊎_elim, ℕ, zero, suc, ◌+◌, ◌-◌, ◌*◌, ◌/◌, ◌%◌, ◌^◌, ◌<◌, ◌≤◌, Bool, true, false, not, ◌&&◌, List, [], ◌∷◌, map, length, get_or, set, refl, sym, ap, ◌∙◌, subst, Option, Some, None, arith, ◌==◌, leb}
use Rattle.std.specs.Prelude.{if◌then◌else◌, nat_lt, slice_index, bit_xor}
use Rattle.std.specs.List.{list_all}
use Rattle.std.specs.Option.{option_or, option_map, unwrap_or}
use Rattle.std.specs.Int.{bit_at}
use Rattle.std.proofs.lemmas.Bool.{cond_both, and_parts, not-true, and_from, eq-eqb, ne_eqb, eqb-true, both_ways, leb-true, cases_eq, cases_lt}
use Rattle.std.proofs.lemmas.Option.{same_Some, none-some}
use Rattle.std.proofs.lemmas.List.{get_or-set_same, get_or-set_other, get_or_past, length-set}
use Rattle.std.proofs.lemmas.Nat.{div-add-mod', mod_below}
use Rattle.std.proofs.lemmas.Nat.Bits.{bit_at_xor, bit_at-pow_same, bit_at-pow_other, bit_at-lt, bit_at-zero}
use Rattle.asm_formats.specs.Sets.{has_bit}
use Rattle.asm_formats.specs.Items.{Item, file_item, chunk_item, marks_item, FileHead, Home, Homes, chunk_len, is_item, is_homes, is_redundancy, item_key, is_same_key}
use Rattle.asm_formats.specs.Among.{IsAmong}
use Rattle.asm_placement.specs.Tables.{head_of, marks_in, is_stale, if_is}
use Rattle.asm_placement.specs.Copies.{Copy, has_any_home, copies_from, file_copies, item_copies, all_copies}
use Rattle.asm_placement.specs.Moves.{moved_item, unmarked_item, without_bit, with_current, with_home}
use Rattle.asm_placement.specs.Work.{keys_differ}
use Rattle.asm_placement.proofs.Membership.{among_flat_map}
use Rattle.asm_placement.proofs.MovedCopies.{from_place, in_chunk, HasExtent}

all_of : {A : Type 0} (t : A → Bool) (xs : List A) (x : A) → list_all t xs ≡ true → IsAmong xs x → t x ≡ true
all_of t [] x all h = absurd h
all_of t (y ∷ xs) x all (inl e) = ap t e ∙ (and_parts (t y) (list_all t xs) all).0
all_of t (y ∷ xs) x all (inr h) = all_of t xs x (and_parts (t y) (list_all t xs) all).1 h

all_at : (t : Homes → Bool) (xs : List Homes) (k : ℕ) → list_all t xs ≡ true → k < length xs → t (get_or xs k []) ≡ true
all_at t [] k all lt = absurd (omega arith)
all_at t (y ∷ xs) zero all lt = (and_parts (t y) (list_all t xs) all).0
all_at t (y ∷ xs) (suc k) all lt = all_at t xs k (and_parts (t y) (list_all t xs) all).1 (omega arith)

-- ---- heads have at most three copies

head_among : (items : List Item) (f : ℕ) (head : FileHead) → head_of items f ≡ Some head → (g : ℕ) × IsAmong items (file_item g head)
unfolding head_of
head_among [] f head e = absurd (none-some head e)
head_among (file_item g found ∷ items) f head e =
    cond_both (g == f) (Some found) None (λ (o : Option FileHead). option_or o (head_of items f) ≡ Some head → (d : ℕ) × IsAmong (file_item g found ∷ items) (file_item d head))
    (λ yes k. (g, inl (ap (λ (x : FileHead). file_item g x) (sym (same_Some found head k)))))
    (λ out k. let p = head_among items f head k in (p.0, inr p.1)) e
head_among (j ∷ items) f head e = let p = head_among items f head e in (p.0, inr p.1)

few_copies : (g : ℕ) (head : FileHead) → is_item (file_item g head) ≡ true → head.copies ≤ 3
unfolding is_item
few_copies g head e =
    let a = and_parts (nat_lt g (2 ^ 32)) _ e in
    let b = and_parts (is_redundancy head.copies) _ a.1 in
    leb-true head.copies 3 (and_parts (leb 1 head.copies) (leb head.copies 3) b.0).1

chunk_parts : (g c : ℕ) (homes : List Homes) → is_item (chunk_item g c homes) ≡ true → (length homes ≡ 256) × (list_all is_homes homes ≡ true)
unfolding is_item
chunk_parts g c homes e =
    let a = and_parts (nat_lt g (2 ^ 32)) _ e in
    let b = and_parts (nat_lt (c + 1) (2 ^ 32)) _ a.1 in
    let d = and_parts (length homes == chunk_len) (list_all is_homes homes) b.1 in
    (eqb-true (length homes) chunk_len d.0, d.1)

-- ---- where a copy comes from

pub record IsOf (items : List Item) (x : Copy) : Type 0 where
  pub chunk : List Homes
  pub among : IsAmong items (chunk_item x.file (x.index / 256) chunk)
  pub size : length chunk ≡ 256
  pub homes : x.homes ≡ get_or chunk (x.index % 256) []
  pub some : has_any_home x.homes ≡ true
  pub three : length x.homes ≡ 3
  pub copy : x.copy < 3

of_chunk : (items : List Item) (g c : ℕ) (homes : List Homes) (head : FileHead) (x : Copy) → IsAmong items (chunk_item g c homes) → is_item (chunk_item g c homes) ≡ true → head.copies ≤ 3
    → IsAmong (copies_from g (c * 256) head.copies homes) x → IsOf items x
of_chunk items g c homes head x among ok few h =
    let p = from_place g (c * 256) head.copies homes x h in
    let parts = chunk_parts g c homes ok in
    let chunk : x.index / 256 ≡ c = in_chunk c x.index p.low (omega (arith, p.high, parts.0)) in
    let at : x.index % 256 ≡ x.index - c * 256 = omega (arith, div-add-mod' x.index 256, chunk, p.low) in
    let homes_are : x.homes ≡ get_or homes (x.index % 256) [] = p.homes ∙ ap (λ (k : ℕ). get_or homes k []) (sym at) in
    let three = all_at is_homes homes (x.index % 256) parts.1 (omega (arith, parts.0, mod_below x.index 256 (omega arith))) in
    record {
      chunk = homes;
      among = subst (λ (f : ℕ). IsAmong items (chunk_item f (x.index / 256) homes)) (sym p.file) (subst (λ (d : ℕ). IsAmong items (chunk_item g d homes)) (sym chunk) among);
      size = parts.0;
      homes = homes_are;
      some = p.some;
      three = ap (λ (l : Homes). length l) homes_are ∙ eqb-true (length (get_or homes (x.index % 256) [])) 3 (and_parts (length (get_or homes (x.index % 256) []) == 3) _ three).0;
      copy = omega (arith, p.copy, few);
    }

pub copy_of : (items : List Item) (x : Copy) → list_all is_item items ≡ true → IsAmong (all_copies items) x → IsOf items x
unfolding all_copies
copy_of items x ok h = let p = among_flat_map (item_copies (head_of items)) items x h in by p.0 p.1 p.2
  where
    with_head : (g c : ℕ) (homes : List Homes) (o : Option FileHead) → head_of items g ≡ o → IsAmong items (chunk_item g c homes) → IsAmong (file_copies g (c * 256) homes o) x → IsOf items x
    with_head g c homes None is among k = absurd k
    with_head g c homes (Some head) is among k =
        let found = head_among items g head is in
        of_chunk items g c homes head x among (all_of is_item items (chunk_item g c homes) ok among) (few_copies found.0 head (all_of is_item items (file_item found.0 head) ok found.1)) k

    by : (j : Item) → IsAmong items j → IsAmong (item_copies (head_of items) j) x → IsOf items x
    by (chunk_item g c homes) among k = with_head g c homes (head_of items g) refl among k
    by _ among k = absurd k

-- ---- one chunk a key

same_key : (f c : ℕ) (hs bs : List Homes) → is_same_key (item_key (chunk_item f c hs)) (item_key (chunk_item f c bs)) ≡ true
same_key f c hs bs = rw (eq-eqb f f refl, eq-eqb (c + 1) (c + 1) refl) refl

pub one_chunk : (items : List Item) (f c : ℕ) (hs bs : List Homes) → keys_differ items ≡ true → IsAmong items (chunk_item f c hs) → IsAmong items (chunk_item f c bs) → hs ≡ bs
one_chunk [] f c hs bs differ a b = absurd a
one_chunk (j ∷ items) f c hs bs differ (inl a) (inl b) = chunk_same (a ∙ sym b)
  where
    chunk_same : chunk_item f c hs ≡ chunk_item f c bs → hs ≡ bs
    chunk_same e = cc
one_chunk (j ∷ items) f c hs bs differ (inl a) (inr b) =
    let all = (and_parts (list_all (λ k. not (is_same_key (item_key j) (item_key k))) items) (keys_differ items) differ).0 in
    let apart = all_of (λ k. not (is_same_key (item_key j) (item_key k))) items (chunk_item f c bs) all b in
    absurd (both_ways (is_same_key (item_key j) (item_key (chunk_item f c bs))) (not-true (is_same_key (item_key j) (item_key (chunk_item f c bs))) apart)
    (ap (λ (k : Item). is_same_key (item_key k) (item_key (chunk_item f c bs))) (sym a) ∙ same_key f c hs bs))
one_chunk (j ∷ items) f c hs bs differ (inr a) (inl b) =
    let all = (and_parts (list_all (λ k. not (is_same_key (item_key j) (item_key k))) items) (keys_differ items) differ).0 in
    let apart = all_of (λ k. not (is_same_key (item_key j) (item_key k))) items (chunk_item f c hs) all a in
    absurd (both_ways (is_same_key (item_key j) (item_key (chunk_item f c hs))) (not-true (is_same_key (item_key j) (item_key (chunk_item f c hs))) apart)
    (ap (λ (k : Item). is_same_key (item_key k) (item_key (chunk_item f c hs))) (sym b) ∙ same_key f c bs hs))
one_chunk (j ∷ items) f c hs bs differ (inr a) (inr b) = one_chunk items f c hs bs (and_parts (list_all (λ k. not (is_same_key (item_key j) (item_key k))) items) (keys_differ items) differ).1 a b

pub has_extent_of : (items : List Item) (x : Copy) → keys_differ items ≡ true → IsOf items x → HasExtent x.file x.index items
has_extent_of items x differ of homes among =
    ap (λ (l : List Homes). has_any_home (get_or l (x.index % 256) [])) (one_chunk items x.file (x.index / 256) homes of.chunk differ among of.among) ∙ ap has_any_home (sym of.homes) ∙ of.some

-- ---- marks

either : (b : Bool) → (b ≡ true) ⊎ (b ≡ false)
either true = inl refl
either false = inr refl

zero_bit : (k : ℕ) → has_bit 0 k ≡ false
unfolding has_bit
zero_bit k = ne_eqb (bit_at 0 k) 1 (λ e. omega (arith, e, bit_at-zero k))

without_same : (set n : ℕ) → has_bit (without_bit set n) n ≡ false
unfolding has_bit without_bit
without_same set n = by (bit_at set n == 1) refl
  where
    by : (b : Bool) → (bit_at set n == 1) ≡ b → (bit_at (if b then bit_xor set (2 ^ n) else set) n == 1) ≡ false
    by true e = ne_eqb _ 1 (λ k. omega (arith, k, bit_at_xor set (2 ^ n) n, bit_at-pow_same n, eqb-true (bit_at set n) 1 e))
    by false e = e

without_less : (set n k : ℕ) → has_bit (without_bit set n) k ≡ true → has_bit set k ≡ true
unfolding has_bit without_bit
without_less set n k = by (bit_at set n == 1) refl
  where
    by : (b : Bool) → (bit_at set n == 1) ≡ b → (bit_at (if b then bit_xor set (2 ^ n) else set) k == 1) ≡ true → (bit_at set k == 1) ≡ true
    by true was e = elim (cases_eq k n) [
      | inl same ↦ ap (λ (m : ℕ). bit_at set m == 1) same ∙ was
      | inr other ↦ eq-eqb (bit_at set k) 1 (omega (arith, eqb-true (bit_at (bit_xor set (2 ^ n)) k) 1 e, bit_at_xor set (2 ^ n) k, bit_at-pow_other n k other, bit_at-lt set k))
    ]
    by false was e = e

-- the marks of a chunk, after a move of a copy of extent i of file f
marks_moved : (f i copy : ℕ) (h : Home) (items : List Item) (g c : ℕ) → marks_in (map (moved_item f i copy h) items) g c ≡ marks_in items g c
unfolding marks_in
marks_moved f i copy h [] g c = refl
marks_moved f i copy h (marks_item d e marks ∷ items) g c = ap (λ (o : Option (List ℕ)). option_or (if_is ((d == g) && (e == c)) marks) o) (marks_moved f i copy h items g c)
marks_moved f i copy h (chunk_item d e homes ∷ items) g c =
    cond_both ((d == f) && (e == i / chunk_len)) (chunk_item d e (set homes (i % chunk_len) (set (get_or homes (i % chunk_len) []) copy (Some h)))) (chunk_item d e homes)
    (λ (j : Item). marks_in (j ∷ map (moved_item f i copy h) items) g c ≡ marks_in items g c) (λ yes. marks_moved f i copy h items g c) (λ out. marks_moved f i copy h items g c)
marks_moved f i copy h (j ∷ items) g c = marks_moved f i copy h items g c

-- a list of marks without one
abbrev cleared : ℕ → ℕ → List ℕ → List ℕ
cleared k copy marks = set marks k (without_bit (slice_index marks k) copy)

-- what a chunk's marks may be afterwards: the same, or without the copy's mark
record Cleared (k copy : ℕ) (is_same : Bool) (old new : Option (List ℕ)) : Type 0 where
  here : is_same ≡ true → new ≡ option_map (cleared k copy) old
  other : is_same ≡ false → new ≡ old

marks_cleared : (f i copy : ℕ) (items : List Item) (g c : ℕ) → Cleared (i % 256) copy ((g == f) && (c == i / 256)) (marks_in items g c) (marks_in (map (unmarked_item f i copy) items) g c)
unfolding marks_in
marks_cleared f i copy [] g c = record { here = λ e. refl; other = λ e. refl }
marks_cleared f i copy (marks_item d e marks ∷ items) g c = ⊎_elim
    (λ (yes : ((d == g) && (e == c)) ≡ true).
    let parts = and_parts (d == g) (e == c) yes in
    let file : d ≡ g = eqb-true d g parts.0 in
    let chunk : e ≡ c = eqb-true e c parts.1 in
    record {
      here = λ same. rw (ap (λ (n : ℕ). (n == f) && (e == i / 256)) file ∙ ap (λ (n : ℕ). (g == f) && (n == i / 256)) chunk ∙ same) (rw yes refl);
      other = λ differ. rw (ap (λ (n : ℕ). (n == f) && (e == i / 256)) file ∙ ap (λ (n : ℕ). (g == f) && (n == i / 256)) chunk ∙ differ) (rw yes refl);
    })
    (λ (out : ((d == g) && (e == c)) ≡ false).
    let later = marks_cleared f i copy items g c in
    cond_both ((d == f) && (e == i / 256)) (marks_item d e (cleared (i % 256) copy marks)) (marks_item d e marks)
    (λ (j : Item). Cleared (i % 256) copy ((g == f) && (c == i / 256)) (marks_in (marks_item d e marks ∷ items) g c) (marks_in (j ∷ map (unmarked_item f i copy) items) g c))
    (λ yes. rw out later) (λ no. rw out later))
    (either ((d == g) && (e == c)))
marks_cleared f i copy (j ∷ items) g c = marks_cleared f i copy items g c

-- a mark after it was cleared
bit_cleared : (k copy : ℕ) (old : Option (List ℕ)) → has_bit (slice_index (unwrap_or (option_map (cleared k copy) old) []) k) copy ≡ false
bit_cleared k copy None = zero_bit copy
bit_cleared k copy (Some marks) = elim (cases_lt k (length marks)) [
  | inl inside ↦ ap (λ (n : ℕ). has_bit n copy) (get_or-set_same marks k (without_bit (slice_index marks k) copy) 0 inside) ∙ without_same (slice_index marks k) copy
  | inr past ↦ ap (λ (n : ℕ). has_bit n copy) (get_or_past (cleared k copy marks) k 0 (omega (arith, length-set marks k (without_bit (slice_index marks k) copy)))) ∙ zero_bit copy
]

-- and each that is left was there
bit_less : (k copy q n : ℕ) (old : Option (List ℕ)) → has_bit (slice_index (unwrap_or (option_map (cleared k copy) old) []) q) n ≡ true → has_bit (slice_index (unwrap_or old []) q) n ≡ true
bit_less k copy q n None e = e
bit_less k copy q n (Some marks) e = elim (cases_eq q k) [
  | inr other ↦ ap (λ (m : ℕ). has_bit m n) (sym (get_or-set_other marks k q (without_bit (slice_index marks k) copy) 0 other)) ∙ e
  | inl same ↦ elim (cases_lt k (length marks)) [
    | inl inside ↦
        let at : slice_index (cleared k copy marks) q ≡ without_bit (slice_index marks k) copy = ap (λ (m : ℕ). slice_index (cleared k copy marks) m) same ∙ get_or-set_same marks k (without_bit (slice_index marks k) copy) 0 inside in
        ap (λ (m : ℕ). has_bit (slice_index marks m) n) same ∙ without_less (slice_index marks k) copy n (ap (λ (m : ℕ). has_bit m n) (sym at) ∙ e)
    | inr past ↦
        let at : slice_index (cleared k copy marks) q ≡ 0 = get_or_past (cleared k copy marks) q 0 (omega (arith, length-set marks k (without_bit (slice_index marks k) copy))) in
        absurd (both_ways (has_bit 0 n) (zero_bit n) (ap (λ (m : ℕ). has_bit m n) (sym at) ∙ e))
  ]
]

pub stale_cleared : (f i copy : ℕ) (items : List Item) → is_stale (with_current f i copy items) f i copy ≡ false
unfolding is_stale with_current
stale_cleared f i copy items =
    let marks = (marks_cleared f i copy items f (i / 256)).here (and_from (f == f) (i / 256 == i / 256) (eq-eqb f f refl) (eq-eqb (i / 256) (i / 256) refl)) in
    ap (λ (o : Option (List ℕ)). has_bit (slice_index (unwrap_or o []) (i % 256)) copy) marks ∙ bit_cleared (i % 256) copy (marks_in items f (i / 256))

pub stale_less : (f i copy : ℕ) (items : List Item) (g k n : ℕ) → is_stale (with_current f i copy items) g k n ≡ true → is_stale items g k n ≡ true
unfolding is_stale with_current
stale_less f i copy items g k n e = ⊎_elim
    (λ (same : ((g == f) && (k / 256 == i / 256)) ≡ true).
    let marks = (marks_cleared f i copy items g (k / 256)).here same in
    bit_less (i % 256) copy (k % 256) n (marks_in items g (k / 256)) (ap (λ (o : Option (List ℕ)). has_bit (slice_index (unwrap_or o []) (k % 256)) n) (sym marks) ∙ e))
    (λ (other : ((g == f) && (k / 256 == i / 256)) ≡ false).
    ap (λ (o : Option (List ℕ)). has_bit (slice_index (unwrap_or o []) (k % 256)) n) (sym ((marks_cleared f i copy items g (k / 256)).other other)) ∙ e)
    (either ((g == f) && (k / 256 == i / 256)))

stale_moved : (f i copy : ℕ) (h : Home) (items : List Item) (g k n : ℕ) → is_stale (map (moved_item f i copy h) items) g k n ≡ is_stale items g k n
unfolding is_stale
stale_moved f i copy h items g k n = ap (λ (o : Option (List ℕ)). has_bit (slice_index (unwrap_or o []) (k % 256)) n) (marks_moved f i copy h items g (k / 256))

pub home_cleared : (f i copy : ℕ) (h : Home) (items : List Item) → is_stale (with_home f i copy h items) f i copy ≡ false
unfolding with_home
home_cleared f i copy h items = stale_cleared f i copy (map (moved_item f i copy h) items)

pub home_less : (f i copy : ℕ) (h : Home) (items : List Item) (g k n : ℕ) → is_stale (with_home f i copy h items) g k n ≡ true → is_stale items g k n ≡ true
unfolding with_home
home_less f i copy h items g k n e = sym (stale_moved f i copy h items g k n) ∙ stale_less f i copy (map (moved_item f i copy h) items) g k n e
