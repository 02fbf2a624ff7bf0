-- The copies of an extent among all copies of files.
use Rattle.std.proofs.Common.{◌≡◌, ℕ, zero, suc, ◌+◌, ◌*◌, ◌/◌, ◌%◌, ◌<◌, ◌≤◌, Bool, true, false, not, ◌&&◌, List, [], ◌∷◌, ◌++◌, length, get_or, filter, refl, sym, ap, subst, ◌∙◌, Option, Some, None, arith, eqb}
use Rattle.std.specs.Prelude.{flat_map}
use Rattle.std.specs.List.{list_all}
use Rattle.std.specs.Option.{option_or, unwrap_or}
use Rattle.std.proofs.lemmas.Bool.{cond_both, and_parts, and_from, and_right, eq-eqb, eqb-true, ne_eqb, both_ways, false_from_ne_true, not-true}
use Rattle.std.proofs.lemmas.List.{append-nil}
use Rattle.std.proofs.lemmas.List.Elements.{filter-append}
use Rattle.std.proofs.lemmas.Nat.{div-add-mod', mod_below}
use Rattle.std.proofs.lemmas.Option.{same_Some, none-some}
use Rattle.asm_formats.specs.Items.{Item, chunk_item, FileHead, Homes, is_item, is_homes, item_key, is_same_key}
use Rattle.asm_placement.specs.Tables.{head_of, homes_in, if_is}
use Rattle.asm_placement.specs.Copies.{Copy, copies_at, copies_from, file_copies, item_copies, all_copies, has_any_home, same_extent}
use Rattle.asm_placement.specs.Work.{keys_differ}
use Rattle.asm_placement.proofs.MovedCopies.{in_chunk}
use Rattle.extent_copies.specs.declared.extent.Extent.{Extent}
use Rattle.extent_copies.specs.Extents.{copy_of, copies_of_extent}
use Rattle.rebalance.specs.Extents.{IsInRecords}

abbrev is_its : ℕ → ℕ → Copy → Bool
is_its f i y = eqb f y.file && eqb i y.index

-- ---- copies of one extent, and of extents in a row

none_at : (f i g k : ℕ) (hs : Homes) (c n : ℕ) → (eqb f g && eqb i k) ≡ false → filter (is_its f i) (copies_at g k hs c n) ≡ []
none_at f i g k hs c zero other = refl
none_at f i g k hs c (suc n) other = rw other (none_at f i g k hs (suc c) n other)

all_at : (f i : ℕ) (hs : Homes) (c n : ℕ) → filter (is_its f i) (copies_at f i hs c n) ≡ copies_at f i hs c n
all_at f i hs c zero = refl
all_at f i hs c (suc n) = rw (eq-eqb f f refl, eq-eqb i i refl, all_at f i hs (suc c) n) refl

none_from : (f i g n k : ℕ) (homes : List Homes) → ((j : ℕ) → k ≤ j → j < k + length homes → (eqb f g && eqb i j) ≡ false) → filter (is_its f i) (copies_from g k n homes) ≡ []
none_from f i g n k [] other = refl
none_from f i g n k (hs ∷ more) other =
    let later : filter (is_its f i) (copies_from g (suc k) n more) ≡ [] = none_from f i g n (suc k) more (λ j low high. other j (omega arith) (omega arith)) in
    cond_both (has_any_home hs) (copies_at g k hs 0 n ++ copies_from g (suc k) n more) (copies_from g (suc k) n more) (λ (l : List Copy). filter (is_its f i) l ≡ [])
    (λ there. filter-append (is_its f i) (copies_at g k hs 0 n) (copies_from g (suc k) n more) ∙ rw (none_at f i g k hs 0 n (other k (omega arith) (omega arith)), later) refl)
    (λ gone. later)

one_from : (f i n k q : ℕ) (homes : List Homes) → i ≡ k + q → q < length homes → has_any_home (get_or homes q []) ≡ true → filter (is_its f i) (copies_from f k n homes) ≡ copies_at f i (get_or homes q []) 0 n
one_from f i n k q [] at less there = absurd (omega arith)
one_from f i n k zero (hs ∷ more) at less there =
    let here : i ≡ k = omega arith in
    let rest : filter (is_its f i) (copies_from f (suc k) n more) ≡ [] = none_from f i f n (suc k) more (λ j low high. and_right (eqb f f) (eqb i j) (ne_eqb i j (λ e. omega arith))) in
    let own : filter (is_its f i) (copies_at f k hs 0 n) ≡ copies_at f i hs 0 n = subst (λ (m : ℕ). filter (is_its f i) (copies_at f m hs 0 n) ≡ copies_at f i hs 0 n) here (all_at f i hs 0 n) in
    rw there (filter-append (is_its f i) (copies_at f k hs 0 n) (copies_from f (suc k) n more) ∙ rw (own, rest) (append-nil (copies_at f i hs 0 n)))
one_from f i n k (suc q) (hs ∷ more) at less there =
    let later : filter (is_its f i) (copies_from f (suc k) n more) ≡ copies_at f i (get_or more q []) 0 n = one_from f i n (suc k) q more (omega arith) (omega arith) there in
    cond_both (has_any_home hs) (copies_at f k hs 0 n ++ copies_from f (suc k) n more) (copies_from f (suc k) n more) (λ (l : List Copy). filter (is_its f i) l ≡ copies_at f i (get_or more q []) 0 n)
    (λ first. filter-append (is_its f i) (copies_at f k hs 0 n) (copies_from f (suc k) n more) ∙ rw (none_at f i f k hs 0 n (and_right (eqb f f) (eqb i k) (ne_eqb i k (λ e. omega arith)))) later)
    (λ gone. later)

-- ---- chunks

abbrev is_its_chunk : ℕ → ℕ → ℕ → ℕ → Bool
is_its_chunk f i g c = eqb g f && eqb c (i / 256)

chunk_size : (g c : ℕ) (homes : List Homes) → is_item (chunk_item g c homes) ≡ true → length homes ≡ 256
unfolding is_item
chunk_size g c homes ok =
    let a = and_parts _ _ ok in
    let b = and_parts _ _ a.1 in
    let d = and_parts (eqb (length homes) 256) (list_all is_homes homes) b.1 in
    eqb-true (length homes) 256 d.0

apart : (f i g c j : ℕ) → is_its_chunk f i g c ≡ false → c * 256 ≤ j → j < c * 256 + 256 → (eqb f g && eqb i j) ≡ false
apart f i g c j other low high = false_from_ne_true (eqb f g && eqb i j) (λ same.
    let parts = and_parts (eqb f g) (eqb i j) same in
    let file : f ≡ g = eqb-true f g parts.0 in
    let index : i ≡ j = eqb-true i j parts.1 in
    let chunk : c ≡ i / 256 = sym (ap (λ (k : ℕ). k / 256) index ∙ in_chunk c j low high) in
    both_ways (is_its_chunk f i g c) other (and_from (eqb g f) (eqb c (i / 256)) (eq-eqb g f (sym file)) (eq-eqb c (i / 256) chunk)))

-- another chunk has none of them
none_in : (look : ℕ → Option FileHead) (f i g c : ℕ) (homes : List Homes) → is_item (chunk_item g c homes) ≡ true → is_its_chunk f i g c ≡ false → filter (is_its f i) (file_copies g (c * 256) homes (look g)) ≡ []
none_in look f i g c homes ok other = by (look g)
  where
    by : (o : Option FileHead) → filter (is_its f i) (file_copies g (c * 256) homes o) ≡ []
    by None = refl
    by (Some head) = none_from f i g head.copies (c * 256) homes (λ j low high. apart f i g c j other low (omega (arith, chunk_size g c homes ok, high)))

other_key : (f i g c : ℕ) (homes bs : List Homes) → not (is_same_key (item_key (chunk_item f (i / 256) bs)) (item_key (chunk_item g c homes))) ≡ true → is_its_chunk f i g c ≡ false
other_key f i g c homes bs differ = false_from_ne_true (is_its_chunk f i g c) (λ same.
    let parts = and_parts (eqb g f) (eqb c (i / 256)) same in
    let file : f ≡ g = sym (eqb-true g f parts.0) in
    let chunk : i / 256 + 1 ≡ c + 1 = omega (arith, eqb-true c (i / 256) parts.1) in
    both_ways (eqb f g && eqb (i / 256 + 1) (c + 1)) (not-true (eqb f g && eqb (i / 256 + 1) (c + 1)) differ) (and_from (eqb f g) (eqb (i / 256 + 1) (c + 1)) (eq-eqb f g file) (eq-eqb (i / 256 + 1) (c + 1) chunk)))

-- items of other keys have none of them
none_rest : (look : ℕ → Option FileHead) (f i : ℕ) (bs : List Homes) (items : List Item) → list_all is_item items ≡ true → list_all (λ j. not (is_same_key (item_key (chunk_item f (i / 256) bs)) (item_key j))) items ≡ true
    → filter (is_its f i) (flat_map (item_copies look) items) ≡ []
none_rest look f i bs [] ok differ = refl
none_rest look f i bs (chunk_item g c homes ∷ items) ok differ =
    let a = and_parts (is_item (chunk_item g c homes)) (list_all is_item items) ok in
    let d = and_parts (not (is_same_key (item_key (chunk_item f (i / 256) bs)) (item_key (chunk_item g c homes)))) (list_all (λ j. not (is_same_key (item_key (chunk_item f (i / 256) bs)) (item_key j))) items) differ in
    filter-append (is_its f i) (file_copies g (c * 256) homes (look g)) (flat_map (item_copies look) items)
    ∙ rw (none_in look f i g c homes a.0 (other_key f i g c homes bs d.0), none_rest look f i bs items a.1 d.1) refl
none_rest look f i bs (item ∷ items) ok differ =
    none_rest look f i bs items (and_parts (is_item item) (list_all is_item items) ok).1
    (and_parts (not (is_same_key (item_key (chunk_item f (i / 256) bs)) (item_key item))) (list_all (λ j. not (is_same_key (item_key (chunk_item f (i / 256) bs)) (item_key j))) items) differ).1

own_chunk : (look : ℕ → Option FileHead) (f i g c : ℕ) (head : FileHead) (homes : List Homes) → is_item (chunk_item g c homes) ≡ true → g ≡ f → c ≡ i / 256 → look f ≡ Some head → has_any_home (get_or homes (i % 256) []) ≡ true
    → filter (is_its f i) (file_copies g (c * 256) homes (look g)) ≡ copies_at f i (get_or homes (i % 256) []) 0 head.copies
own_chunk look f i g c head homes ok file chunk has there =
    let found : look g ≡ Some head = ap look file ∙ has in
    let size : length homes ≡ 256 = chunk_size g c homes ok in
    let place : i % 256 < 256 = mod_below i 256 (omega arith) in
    let index : i ≡ c * 256 + i % 256 = omega (arith, div-add-mod' i 256, chunk) in
    rw found (subst (λ (h : ℕ). filter (is_its f i) (copies_from h (c * 256) head.copies homes) ≡ copies_at f i (get_or homes (i % 256) []) 0 head.copies) (sym file)
    (one_from f i head.copies (c * 256) (i % 256) homes index (omega arith) there))

own : (look : ℕ → Option FileHead) (f i : ℕ) (head : FileHead) (hs : List Homes) (items : List Item) → list_all is_item items ≡ true → keys_differ items ≡ true → look f ≡ Some head → homes_in items f (i / 256) ≡ Some hs → has_any_home (get_or hs (i % 256) []) ≡ true
    → filter (is_its f i) (flat_map (item_copies look) items) ≡ copies_at f i (get_or hs (i % 256) []) 0 head.copies
unfolding homes_in
own look f i head hs [] ok differ has found there = absurd (none-some hs found)
own look f i head hs (chunk_item g c homes ∷ items) ok differ has found there =
    let a = and_parts (is_item (chunk_item g c homes)) (list_all is_item items) ok in
    let d = and_parts (list_all (λ j. not (is_same_key (item_key (chunk_item g c homes)) (item_key j))) items) (keys_differ items) differ in
    filter-append (is_its f i) (file_copies g (c * 256) homes (look g)) (flat_map (item_copies look) items)
    ∙ by (is_its_chunk f i g c) refl a.0 a.1 d.0 found (λ later. own look f i head hs items a.1 d.1 has later there)
  where
    by : (b : Bool) → is_its_chunk f i g c ≡ b → is_item (chunk_item g c homes) ≡ true → list_all is_item items ≡ true → list_all (λ j. not (is_same_key (item_key (chunk_item g c homes)) (item_key j))) items ≡ true
        → option_or (if_is b homes) (homes_in items f (i / 256)) ≡ Some hs
        → (homes_in items f (i / 256) ≡ Some hs → filter (is_its f i) (flat_map (item_copies look) items) ≡ copies_at f i (get_or hs (i % 256) []) 0 head.copies)
        → filter (is_its f i) (file_copies g (c * 256) homes (look g)) ++ filter (is_its f i) (flat_map (item_copies look) items) ≡ copies_at f i (get_or hs (i % 256) []) 0 head.copies
    by true is one all others at later =
        let same : homes ≡ hs = same_Some homes hs at in
        let parts = and_parts (eqb g f) (eqb c (i / 256)) is in
        let file : g ≡ f = eqb-true g f parts.0 in
        let chunk : c ≡ i / 256 = eqb-true c (i / 256) parts.1 in
        let there_here : has_any_home (get_or homes (i % 256) []) ≡ true = subst (λ (l : List Homes). has_any_home (get_or l (i % 256) []) ≡ true) (sym same) there in
        let keys : list_all (λ j. not (is_same_key (item_key (chunk_item f (i / 256) homes)) (item_key j))) items ≡ true = subst (λ (h : ℕ). list_all (λ j. not (is_same_key (item_key (chunk_item h (i / 256) homes)) (item_key j))) items ≡ true) file
        (subst (λ (k : ℕ). list_all (λ j. not (is_same_key (item_key (chunk_item g k homes)) (item_key j))) items ≡ true) chunk others) in
        rw (own_chunk look f i g c head homes one file chunk has there_here, none_rest look f i homes items all keys)
        (append-nil (copies_at f i (get_or homes (i % 256) []) 0 head.copies) ∙ ap (λ (l : List Homes). copies_at f i (get_or l (i % 256) []) 0 head.copies) same)
    by false is one all others at later = rw (none_in look f i g c homes one is) (later at)
own look f i head hs (item ∷ items) ok differ has found there =
    own look f i head hs items (and_parts (is_item item) (list_all is_item items) ok).1 (and_parts (list_all (λ j. not (is_same_key (item_key item) (item_key j))) items) (keys_differ items) differ).1 has found there

-- the copies of an extent among all are its own
pub own_copies : (items : List Item) (x : Extent) → list_all is_item items ≡ true → keys_differ items ≡ true → IsInRecords items x → filter (same_extent (copy_of x 0)) (all_copies items) ≡ copies_of_extent x
unfolding all_copies
own_copies items x ok differ is = by (homes_in items x.id.file (x.id.index / 256)) refl
  where
    by : (o : Option (List Homes)) → homes_in items x.id.file (x.id.index / 256) ≡ o → filter (same_extent (copy_of x 0)) (flat_map (item_copies (head_of items)) items) ≡ copies_of_extent x
    by None none =
        let homes : x.homes ≡ [] = is.homes ∙ ap (λ (p : Option (List Homes)). get_or (unwrap_or p []) (x.id.index % 256) []) none in
        let gone : has_any_home [] ≡ true = subst (λ (h : Homes). has_any_home h ≡ true) homes is.there in
        absurd cc
    by (Some hs) found =
        let homes : x.homes ≡ get_or hs (x.id.index % 256) [] = is.homes ∙ ap (λ (p : Option (List Homes)). get_or (unwrap_or p []) (x.id.index % 256) []) found in
        let there : has_any_home (get_or hs (x.id.index % 256) []) ≡ true = subst (λ (h : Homes). has_any_home h ≡ true) homes is.there in
        own (head_of items) x.id.file x.id.index is.head hs items ok differ is.has_head found there
        ∙ sym (ap (λ (h : Homes). copies_at x.id.file x.id.index h 0 x.copies) homes ∙ ap (λ (n : ℕ). copies_at x.id.file x.id.index (get_or hs (x.id.index % 256) []) 0 n) is.copies)
