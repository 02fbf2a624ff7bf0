-- The copies of files after a copy got a new home.
use Rattle.std.proofs.Common.{◌≡◌, inl, inr, ⊎_elim, ℕ, zero, suc, ◌+◌, ◌-◌, ◌*◌, ◌/◌, ◌%◌, ◌^◌, ◌<◌, ◌≤◌, Bool, true, false, ◌&&◌, List, [], ◌∷◌, ◌++◌, map, length, get_or, set, refl, sym, ap, ◌∙◌, subst, Option, Some, None, arith, ◌==◌}
use Rattle.std.specs.Prelude.{if◌then◌else◌, nat_lt}
use Rattle.std.specs.List.{list_all, flat_map}
use Rattle.std.specs.Option.{option_or}
use Rattle.std.proofs.lemmas.Bool.{cond_both, and_parts, and_from, eq-eqb, ne_eqb, eqb-true, both_ways, cases_eq, false≢true}
use Rattle.std.proofs.lemmas.Nat.{div-add-mod', div-mul-add}
use Rattle.asm_formats.specs.Items.{Item, file_item, chunk_item, marks_item, FileHead, Home, Homes, chunk_len, is_item, is_homes}
use Rattle.asm_formats.specs.Among.{IsAmong}
use Rattle.asm_placement.specs.Tables.{head_of, if_is}
use Rattle.asm_placement.specs.Copies.{Copy, copies_at, has_any_home, copies_from, file_copies, item_copies, all_copies}
use Rattle.asm_placement.specs.Moves.{moved_item, unmarked_item, with_current, with_home}
use Rattle.asm_placement.proofs.Membership.{among_split}

-- a copy of the records before as it is afterwards
abbrev pub moved : ℕ → ℕ → ℕ → Home → Copy → Copy
moved f i copy h y = if (y.file == f) && (y.index == i) then record y { homes = set y.homes copy (Some h) } else y

map_append : {A B : Type 0} (g : A → B) (xs ys : List A) → map g (xs ++ ys) ≡ map g xs ++ map g ys
map_append g [] ys = refl
map_append g (x ∷ xs) ys = ap (λ l. g x ∷ l) (map_append g xs ys)

-- ---- heads

pub head_moved : (f i copy : ℕ) (h : Home) (items : List Item) (d : ℕ) → head_of (map (moved_item f i copy h) items) d ≡ head_of items d
unfolding head_of
head_moved f i copy h [] d = refl
head_moved f i copy h (file_item g head ∷ items) d = ap (λ (o : Option FileHead). option_or (if_is (g == d) head) o) (head_moved f i copy h items d)
head_moved f i copy h (chunk_item g c homes ∷ items) d = by ((g == f) && (c == i / chunk_len)) (head_moved f i copy h items d)
  where
    by : (b : Bool) → head_of (map (moved_item f i copy h) items) d ≡ head_of items d
        → head_of ((if b then chunk_item g c (set homes (i % chunk_len) (set (get_or homes (i % chunk_len) []) copy (Some h))) else chunk_item g c homes) ∷ map (moved_item f i copy h) items) d ≡ head_of (chunk_item g c homes ∷ items) d
    by true later = later
    by false later = later
head_moved f i copy h (j ∷ items) d = head_moved f i copy h items d

pub head_unmarked : (f i copy : ℕ) (items : List Item) (d : ℕ) → head_of (map (unmarked_item f i copy) items) d ≡ head_of items d
unfolding head_of
head_unmarked f i copy [] d = refl
head_unmarked f i copy (file_item g head ∷ items) d = ap (λ (o : Option FileHead). option_or (if_is (g == d) head) o) (head_unmarked f i copy items d)
head_unmarked f i copy (marks_item g c marks ∷ items) d =
    cond_both ((g == f) && (c == i / chunk_len)) _ _ (λ (j : Item). head_of (j ∷ map (unmarked_item f i copy) items) d ≡ head_of items d) (λ yes. head_unmarked f i copy items d) (λ no. head_unmarked f i copy items d)
head_unmarked f i copy (j ∷ items) d = head_unmarked f i copy items d

-- ---- where copies come from

pub record AtPlace (f i : ℕ) (hs : Homes) (n : ℕ) (y : Copy) : Type 0 where
  pub file : y.file ≡ f
  pub index : y.index ≡ i
  pub homes : y.homes ≡ hs
  pub copy : y.copy < n

pub at_place : (f i : ℕ) (hs : Homes) (c n : ℕ) (y : Copy) → IsAmong (copies_at f i hs c n) y → AtPlace f i hs (c + n) y
at_place f i hs c zero y h = absurd h
at_place f i hs c (suc n) y (inl e) = record { file = ap (λ (z : Copy). z.file) e; index = ap (λ (z : Copy). z.index) e; homes = ap (λ (z : Copy). z.homes) e; copy = omega (arith, ap (λ (z : Copy). z.copy) e) }
at_place f i hs c (suc n) y (inr k) = let p = at_place f i hs (suc c) n y k in record { file = p.file; index = p.index; homes = p.homes; copy = omega (arith, p.copy) }

pub record FromPlace (f i : ℕ) (chunk : List Homes) (n : ℕ) (y : Copy) : Type 0 where
  pub file : y.file ≡ f
  pub low : i ≤ y.index
  pub high : y.index < i + length chunk
  pub homes : y.homes ≡ get_or chunk (y.index - i) []
  pub some : has_any_home y.homes ≡ true
  pub copy : y.copy < n

pub from_place : (f i n : ℕ) (homes : List Homes) (y : Copy) → IsAmong (copies_from f i n homes) y → FromPlace f i homes n y
from_place f i n [] y h = absurd h
from_place f i n (hs ∷ more) y h = by (from_place f (suc i) n more y) (has_any_home hs) refl h
  where
    later : FromPlace f (suc i) more n y → FromPlace f i (hs ∷ more) n y
    later p =
        let e : y.index - i ≡ suc (y.index - suc i) = omega (arith, p.low) in
        record { file = p.file; low = omega (arith, p.low); high = omega (arith, p.high); homes = rw e p.homes; some = p.some; copy = p.copy }

    by : (IsAmong (copies_from f (suc i) n more) y → FromPlace f (suc i) more n y) → (b : Bool) → has_any_home hs ≡ b
        → IsAmong (if b then copies_at f i hs 0 n ++ copies_from f (suc i) n more else copies_from f (suc i) n more) y → FromPlace f i (hs ∷ more) n y
    by go true some k = ⊎_elim
        (λ here.
        let p = at_place f i hs 0 n y here in
        let e : y.index - i ≡ 0 = omega (arith, p.index) in
        record { file = p.file; low = omega (arith, p.index); high = omega (arith, p.index); homes = rw e p.homes; some = ap has_any_home p.homes ∙ some; copy = omega (arith, p.copy) })
        (λ there. later (go there)) (among_split (copies_at f i hs 0 n) (copies_from f (suc i) n more) y k)
    by go false some k = later (go k)

-- ---- copies that aren't of the extent stay

stay : (f i copy : ℕ) (h : Home) (xs : List Copy) → ((y : Copy) → IsAmong xs y → ((y.file == f) && (y.index == i)) ≡ false) → map (moved f i copy h) xs ≡ xs
stay f i copy h [] out = refl
stay f i copy h (x ∷ xs) out = rw (out x (inl refl)) (ap (λ (l : List Copy). x ∷ l) (stay f i copy h xs (λ y k. out y (inr k))))

other_file : (f i : ℕ) (y : Copy) → (y.file ≡ f → ⊥) → ((y.file == f) && (y.index == i)) ≡ false
other_file f i y other = rw (ne_eqb y.file f other) refl

other_index : (f i : ℕ) (y : Copy) → (y.index ≡ i → ⊥) → ((y.file == f) && (y.index == i)) ≡ false
other_index f i y other = rw (ne_eqb y.index i other) (by (y.file == f))
  where
    by : (b : Bool) → (b && false) ≡ false
    by true = refl
    by false = refl

-- ---- the extent's copies

at_moved : (f i copy : ℕ) (h : Home) (hs : Homes) (c n : ℕ) → copies_at f i (set hs copy (Some h)) c n ≡ map (moved f i copy h) (copies_at f i hs c n)
at_moved f i copy h hs c zero = refl
at_moved f i copy h hs c (suc n) = rw (eq-eqb f f refl, eq-eqb i i refl) (ap (λ (l : List Copy). record { file = f; index = i; copy = c; homes = set hs copy (Some h) } ∷ l) (at_moved f i copy h hs (suc c) n))

home_stays : (hs : Homes) (copy : ℕ) (h : Home) → has_any_home hs ≡ true → has_any_home (set hs copy (Some h)) ≡ true
home_stays [] copy h e = e
home_stays (x ∷ hs) zero h e = refl
home_stays (None ∷ hs) (suc copy) h e = home_stays hs copy h e
home_stays (Some x ∷ hs) (suc copy) h e = refl

from_moved : (f i copy : ℕ) (h : Home) (n i0 k : ℕ) (homes : List Homes) → i ≡ i0 + k → has_any_home (get_or homes k []) ≡ true
    → copies_from f i0 n (set homes k (set (get_or homes k []) copy (Some h))) ≡ map (moved f i copy h) (copies_from f i0 n homes)
from_moved f i copy h n i0 k [] is some = absurd (false≢true some)
from_moved f i copy h n i0 zero (hs ∷ more) is some =
    let at : i ≡ i0 = omega arith in
    let new : has_any_home (set hs copy (Some h)) ≡ true = home_stays hs copy h some in
    let rest : map (moved f i copy h) (copies_from f (suc i0) n more) ≡ copies_from f (suc i0) n more =
    stay f i copy h (copies_from f (suc i0) n more) (λ y k. other_index f i y (λ e. omega (arith, (from_place f (suc i0) n more y k).low, e))) in
    let here : copies_at f i0 (set hs copy (Some h)) 0 n ≡ map (moved f i copy h) (copies_at f i0 hs 0 n) = subst (λ (j : ℕ). copies_at f j (set hs copy (Some h)) 0 n ≡ map (moved f i copy h) (copies_at f j hs 0 n)) at (at_moved f i copy h hs 0 n) in
    rw (new, some) (rw (map_append (moved f i copy h) (copies_at f i0 hs 0 n) (copies_from f (suc i0) n more), here, rest) refl)
from_moved f i copy h n i0 (suc k) (hs ∷ more) is some =
    let later = from_moved f i copy h n (suc i0) k more (omega arith) some in
    let here : map (moved f i copy h) (copies_at f i0 hs 0 n) ≡ copies_at f i0 hs 0 n =
    stay f i copy h (copies_at f i0 hs 0 n) (λ y j. other_index f i y (λ e. omega (arith, (at_place f i0 hs 0 n y j).index, e))) in
    cond_both (has_any_home hs) (copies_at f i0 hs 0 n ++ copies_from f (suc i0) n more) (copies_from f (suc i0) n more)
    (λ (l : List Copy). (if has_any_home hs then copies_at f i0 hs 0 n ++ copies_from f (suc i0) n (set more k (set (get_or more k []) copy (Some h))) else copies_from f (suc i0) n (set more k (set (get_or more k []) copy (Some h)))) ≡ map (moved f i copy h) l)
    (λ yes. rw (yes, map_append (moved f i copy h) (copies_at f i0 hs 0 n) (copies_from f (suc i0) n more), here, later) refl)
    (λ no. rw no later)

-- ---- an item's copies

pub in_chunk : (c i : ℕ) → c * 256 ≤ i → i < c * 256 + 256 → i / 256 ≡ c
in_chunk c i low high = let e : i ≡ c * 256 + (i - c * 256) = omega arith in ap (λ (n : ℕ). n / 256) e ∙ div-mul-add c 256 (i - c * 256) (omega arith)

-- a chunk of the extent has it
abbrev pub HasExtent : ℕ → ℕ → List Item → Type 0
HasExtent f i items = (homes : List Homes) → IsAmong items (chunk_item f (i / chunk_len) homes) → has_any_home (get_or homes (i % chunk_len) []) ≡ true

chunk_size : (g c : ℕ) (homes : List Homes) → is_item (chunk_item g c homes) ≡ true → length homes ≡ 256
unfolding is_item
chunk_size g c homes e =
    let a = and_parts (nat_lt g (2 ^ 32)) _ e in
    let b = and_parts (nat_lt (c + 1) (2 ^ 32)) _ a.1 in
    eqb-true (length homes) chunk_len (and_parts (length homes == chunk_len) (list_all is_homes homes) b.1).0

chunk_moved : (look : ℕ → Option FileHead) (f i copy : ℕ) (h : Home) (g c : ℕ) (homes : List Homes) → is_item (chunk_item g c homes) ≡ true
    → ((hs : List Homes) → chunk_item f (i / chunk_len) hs ≡ chunk_item g c homes → has_any_home (get_or hs (i % chunk_len) []) ≡ true)
    → item_copies look (moved_item f i copy h (chunk_item g c homes)) ≡ map (moved f i copy h) (item_copies look (chunk_item g c homes))
chunk_moved look f i copy h g c homes ok has =
    cond_both ((g == f) && (c == i / chunk_len)) (chunk_item g c (set homes (i % chunk_len) (set (get_or homes (i % chunk_len) []) copy (Some h)))) (chunk_item g c homes)
    (λ (j : Item). item_copies look j ≡ map (moved f i copy h) (item_copies look (chunk_item g c homes)))
    (λ yes.
    let parts = and_parts (g == f) (c == i / chunk_len) yes in
    let file : g ≡ f = eqb-true g f parts.0 in
    let at : c ≡ i / chunk_len = eqb-true c (i / chunk_len) parts.1 in
    let some = has homes (λ n. chunk_item (sym file n) (sym at n) homes) in
    let index : i ≡ c * chunk_len + i % chunk_len = omega (arith, at, div-add-mod' i 256) in
    subst (λ (d : ℕ). file_copies g (c * chunk_len) (set homes (i % chunk_len) (set (get_or homes (i % chunk_len) []) copy (Some h))) (look g) ≡ map (moved d i copy h) (file_copies g (c * chunk_len) homes (look g))) file (here (look g) index some))
    (λ no. elsewhere (look g) no)
  where
    here : (head : Option FileHead) → i ≡ c * chunk_len + i % chunk_len → has_any_home (get_or homes (i % chunk_len) []) ≡ true
        → file_copies g (c * chunk_len) (set homes (i % chunk_len) (set (get_or homes (i % chunk_len) []) copy (Some h))) head ≡ map (moved g i copy h) (file_copies g (c * chunk_len) homes head)
    here None index some = refl
    here (Some head) index some = from_moved g i copy h head.copies (c * chunk_len) (i % chunk_len) homes index some

    elsewhere : (head : Option FileHead) → ((g == f) && (c == i / chunk_len)) ≡ false → file_copies g (c * chunk_len) homes head ≡ map (moved f i copy h) (file_copies g (c * chunk_len) homes head)
    elsewhere None out = refl
    elsewhere (Some head) out = sym (stay f i copy h (copies_from g (c * chunk_len) head.copies homes) (λ y k.
        let p = from_place g (c * chunk_len) head.copies homes y k in
        ⊎_elim
        (λ (same : g ≡ f). other_index f i y (λ e.
        let chunk : i / chunk_len ≡ c = in_chunk c i (omega (arith, e, p.low)) (omega (arith, e, p.high, chunk_size g c homes ok)) in
        both_ways ((g == f) && (c == i / chunk_len)) out (and_from (g == f) (c == i / chunk_len) (eq-eqb g f same) (eq-eqb c (i / chunk_len) (sym chunk)))))
        (λ differ. other_file f i y (λ e. differ (sym p.file ∙ e)))
        (cases_eq g f)))

items_moved : (look : ℕ → Option FileHead) (f i copy : ℕ) (h : Home) (items : List Item) → list_all is_item items ≡ true → HasExtent f i items
    → flat_map (item_copies look) (map (moved_item f i copy h) items) ≡ map (moved f i copy h) (flat_map (item_copies look) items)
items_moved look f i copy h [] ok has = refl
items_moved look f i copy h (chunk_item g c homes ∷ items) ok has =
    let parts = and_parts (is_item (chunk_item g c homes)) (list_all is_item items) ok in
    let later = items_moved look f i copy h items parts.1 (λ hs k. has hs (inr k)) in
    let here = chunk_moved look f i copy h g c homes parts.0 (λ hs e. has hs (inl e)) in
    ap (λ (l : List Copy). l ++ flat_map (item_copies look) (map (moved_item f i copy h) items)) here
    ∙ ap (λ (l : List Copy). map (moved f i copy h) (item_copies look (chunk_item g c homes)) ++ l) later
    ∙ sym (map_append (moved f i copy h) (item_copies look (chunk_item g c homes)) (flat_map (item_copies look) items))
items_moved look f i copy h (j ∷ items) ok has = items_moved look f i copy h items (and_parts (is_item j) (list_all is_item items) ok).1 (λ hs k. has hs (inr k))

items_unmarked : (look : ℕ → Option FileHead) (f i copy : ℕ) (items : List Item) → flat_map (item_copies look) (map (unmarked_item f i copy) items) ≡ flat_map (item_copies look) items
items_unmarked look f i copy [] = refl
items_unmarked look f i copy (chunk_item g c homes ∷ items) = ap (λ (l : List Copy). item_copies look (chunk_item g c homes) ++ l) (items_unmarked look f i copy items)
items_unmarked look f i copy (marks_item g c marks ∷ items) =
    cond_both ((g == f) && (c == i / chunk_len)) _ _ (λ (j : Item). item_copies look j ++ flat_map (item_copies look) (map (unmarked_item f i copy) items) ≡ flat_map (item_copies look) items)
    (λ yes. items_unmarked look f i copy items) (λ no. items_unmarked look f i copy items)
items_unmarked look f i copy (j ∷ items) = items_unmarked look f i copy items

-- ---- all copies

pub copies_unmarked : (f i copy : ℕ) (items : List Item) → all_copies (with_current f i copy items) ≡ all_copies items
unfolding all_copies with_current
copies_unmarked f i copy items =
    let heads : head_of (map (unmarked_item f i copy) items) ≡ head_of items = λ n d. head_unmarked f i copy items d n in
    ap (λ (look : ℕ → Option FileHead). flat_map (item_copies look) (map (unmarked_item f i copy) items)) heads ∙ items_unmarked (head_of items) f i copy items

pub copies_moved : (f i copy : ℕ) (h : Home) (items : List Item) → list_all is_item items ≡ true → HasExtent f i items → all_copies (with_home f i copy h items) ≡ map (moved f i copy h) (all_copies items)
unfolding all_copies with_home
copies_moved f i copy h items ok has =
    let heads : head_of (map (moved_item f i copy h) items) ≡ head_of items = λ n d. head_moved f i copy h items d n in
    copies_unmarked f i copy (map (moved_item f i copy h) items)
    ∙ ap (λ (look : ℕ → Option FileHead). flat_map (item_copies look) (map (moved_item f i copy h) items)) heads
    ∙ items_moved (head_of items) f i copy h items ok has
