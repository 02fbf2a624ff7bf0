-- The chunks of a change, and the units of the others.
use Rattle.std.proofs.Common.{◌≡◌, ℕ, zero, suc, ◌+◌, ◌-◌, ◌<◌, ◌≤◌, Bool, true, false, cond, List, [], ◌∷◌, length, take, get_or, Option, Some, None, refl, sym, ap, subst, ◌∙◌, arith, inl, inr, ◌⊎◌, Ordering}
use Rattle.std.specs.Prelude.{◌&&◌, ◌||◌, not, flat_map}
use Rattle.std.specs.BTreeMap.{is_at}
use Rattle.std.specs.Option.{option_and_then}
use Rattle.std.specs.Ordering.{is_lt}
use Rattle.std.specs.declared.cmp.Ordering.TheVariants.{Less, Equal, Greater}
use Rattle.std.proofs.lemmas.Bool.{true≢false}
use Rattle.catalog_tables.proofs.asm_base.Exact.{bind_some, some_is}
use Rattle.catalog_tables.specs.asm_base.Records.{Ascend, DirectoryRecord, is_key}
use Rattle.asm_formats.specs.Items.{Homes, Key, chunk_item}
use Rattle.catalog_tables.specs.page_map.Changes.{is_gone, is_put, last_put, value_after}
use Rattle.catalog_tables.proofs.page_map.Changing.{last_put_none}
use Rattle.catalog_tables.proofs.page_map.Keys.{same_key}
use Rattle.catalog_tables.specs.allocator.UnitMaps.{UnitMap}
use Rattle.catalog_tables.specs.extent_map.Extents.{Chunked, chunk_at, chunk_key}
use Rattle.catalog_tables.specs.asm_base.Chunks.{Chunk, chunk_cmp, is_chunk_before}
use Rattle.catalog_tables.proofs.extent_map.Laws.{chunk_total, same_chunk}
use Rattle.catalog_tables.proofs.extent_map.Numbering.{is_same, tail_up}
use Rattle.catalog_tables.specs.extent_map.Changing.{chunk_value_at}
use Rattle.catalog_tables.specs.Changing.{IsAfter}
use Rattle.catalog_tables.specs.Tables.{AreTables, Tables, records_of}
use Rattle.catalog_units.specs.Giving.{AreUnitsOfKept, IsNewKey, IsOld, but, chunks_kept, changed_keys, is_chunk_kept}
use Rattle.catalog_tables.specs.Placing.{after_chunks, after_homes, homes_of}
use Rattle.catalog_tables.proofs.HomeUnits.{chunks_are_homes}
use Rattle.catalog_tables.proofs.SameTables.{chunk_record, looked, same_found, same_lookups}
use Rattle.catalog_tables.proofs.SetLaws.{by_chunk}
use Rattle.catalog_units.proofs.UnitOrder.{front_last}
use Rattle.catalog_units.proofs.ChunkUnits.{kept_alike, kept_all}

either : (b : Bool) → (b ≡ true) ⊎ (b ≡ false)
either true = inl refl
either false = inr refl

-- ---- the keys of a change

or_false : (b : Bool) → (b || false) ≡ b
or_false true = refl
or_false false = refl

or_true : (b : Bool) → (b || true) ≡ true
or_true true = refl
or_true false = refl

or_or : (a b c : Bool) → (a || (b || c)) ≡ ((a || b) || c)
or_or true b c = refl
or_or false b c = refl

one_taken : (ks : List Key) (i : ℕ) (k : Key) → i < length ks → k ≡ get_or ks i k → (j : Key) → is_gone (take (suc i) ks) j ≡ (is_gone (take i ks) j || is_key k j)
one_taken [] i k less is j = absurd (omega (arith, less))
one_taken (x ∷ ks) zero k less is j = or_false (is_key x j) ∙ ap (λ (y : Key). is_key y j) (sym is)
one_taken (x ∷ ks) (suc i) k less is j = ap (λ (b : Bool). is_key x j || b) (one_taken ks i k (omega (arith, less)) is j) ∙ or_or (is_key x j) (is_gone (take i ks) j) (is_key k j)

pub key_taken : (ks : List Key) (i : ℕ) (k : Key) → i < length ks → k ≡ get_or ks i k → (j : Key) → is_gone (take (i + 1) ks) j ≡ (is_gone (take i ks) j || is_key k j)
key_taken ks i k less is j = ap (λ (n : ℕ). is_gone (take n ks) j) (next i) ∙ one_taken ks i k less is j where
  next : (n : ℕ) → n + 1 ≡ suc n
  next n = omega arith

pub taken_later : (ks : List Key) (i n : ℕ) (j : Key) → i ≤ n → is_gone (take i ks) j ≡ true → is_gone (take n ks) j ≡ true
taken_later [] zero n j le e = absurd cc
taken_later [] (suc i) n j le e = absurd cc
taken_later (x ∷ ks) zero n j le e = absurd cc
taken_later (x ∷ ks) (suc i) zero j le e = absurd (omega (arith, le))
taken_later (x ∷ ks) (suc i) (suc n) j le e = by (is_key x j) (taken_later ks i n j (omega (arith, le))) e where
  by : (b : Bool) → (is_gone (take i ks) j ≡ true → is_gone (take n ks) j ≡ true) → (b || is_gone (take i ks) j) ≡ true → (b || is_gone (take n ks) j) ≡ true
  by true more e = refl
  by false more e = more e

-- ---- the chunks whose records stay

both_not : (a b : Bool) → not (a || b) ≡ (not a && not b)
both_not true b = refl
both_not false b = refl

at_chunk : (key : Key) (c : Chunk) → key.kind ≡ 1 → 0 < key.b → is_key key (chunk_key c.0 c.1) ≡ is_at (chunk_cmp (key.a, key.b - 1)) c
at_chunk key c kind some =
    let back : c.1 + 1 - 1 ≡ c.1 = omega arith in
    let whole : key.b - 1 + 1 ≡ key.b = omega (arith, some) in
    let its : is_key (record { kind = 1; a = key.a; b = key.b - 1 + 1 }) (chunk_key c.0 c.1) ≡ is_at (chunk_cmp (key.a, key.b - 1)) (c.0, c.1 + 1 - 1) =
    by_chunk key.a (key.b - 1) (chunk_key c.0 c.1) refl (omega arith) in
    ap (λ (n : ℕ). is_key (record { kind = n; a = key.a; b = key.b }) (chunk_key c.0 c.1)) kind
    ∙ ap (λ (n : ℕ). is_key (record { kind = 1; a = key.a; b = n }) (chunk_key c.0 c.1)) (sym whole)
    ∙ its ∙ ap (λ (n : ℕ). is_at (chunk_cmp (key.a, key.b - 1)) (c.0, n)) back

-- with the key of a chunk more, that chunk doesn't stay
pub stays_but : (ks : List Key) (i : ℕ) (k : Key) → i < length ks → k ≡ get_or ks i k → k.kind ≡ 1 → 0 < k.b → (c : Chunk) → is_chunk_kept (take (i + 1) ks) c ≡ but (is_chunk_kept (take i ks)) (k.a, k.b - 1) c
stays_but ks i k less is kind some c =
    ap not (key_taken ks i k less is (chunk_key c.0 c.1)) ∙ both_not (is_gone (take i ks) (chunk_key c.0 c.1)) (is_key k (chunk_key c.0 c.1)) ∙ ap (λ (b : Bool). is_chunk_kept (take i ks) c && not b) (at_chunk k c kind some)

-- with the key of no chunk more, or with one that is there already, the same chunks stay
pub stays_same : (ks : List Key) (i : ℕ) (k : Key) → i < length ks → k ≡ get_or ks i k → (k.kind ≡ 1 → 0 < k.b → is_gone (take i ks) k ≡ true) → (c : Chunk) → is_chunk_kept (take (i + 1) ks) c ≡ is_chunk_kept (take i ks) c
stays_same ks i k less is old c = ap not (key_taken ks i k less is (chunk_key c.0 c.1) ∙ by (is_key k (chunk_key c.0 c.1)) refl) where
  by : (b : Bool) → is_key k (chunk_key c.0 c.1) ≡ b → (is_gone (take i ks) (chunk_key c.0 c.1) || b) ≡ is_gone (take i ks) (chunk_key c.0 c.1)
  by false e = or_false (is_gone (take i ks) (chunk_key c.0 c.1))
  by true e =
      let same : k ≡ chunk_key c.0 c.1 = same_key k (chunk_key c.0 c.1) e in
      let some : 0 < k.b = subst (λ (j : Key). 0 < j.b) (sym same) (positive c.1) in
      let there : is_gone (take i ks) (chunk_key c.0 c.1) ≡ true = subst (λ (j : Key). is_gone (take i ks) j ≡ true) same (old (ap (λ (j : Key). j.kind) same) some) in
      or_true (is_gone (take i ks) (chunk_key c.0 c.1)) ∙ sym there
    where
      positive : (n : ℕ) → 0 < n + 1
      positive n = omega arith

pub stays_here : (ks : List Key) (i : ℕ) (k : Key) → k.kind ≡ 1 → 0 < k.b → is_gone (take i ks) k ≡ false → is_chunk_kept (take i ks) (k.a, k.b - 1) ≡ true
stays_here ks i k kind some none =
    let whole : k.b - 1 + 1 ≡ k.b = omega (arith, some) in
    ap not (ap (λ (n : ℕ). is_gone (take i ks) (record { kind = 1; a = k.a; b = n })) whole ∙ ap (λ (n : ℕ). is_gone (take i ks) (record { kind = n; a = k.a; b = k.b })) (sym kind) ∙ none)

-- ---- the units of chunks that are meant alike

pub units_alike : (step : ℕ) (first ms : List UnitMap) (keep other : Chunk → Bool) (t : List Chunked) → ((c : Chunk) → keep c ≡ other c) → AreUnitsOfKept step first keep t ms → AreUnitsOfKept step first other t ms
units_alike step first ms keep other t same e = ap (after_chunks step first) (sym (kept_alike keep other t same)) ∙ e

pub units_all : (step : ℕ) (first ms : List UnitMap) (ks : List Key) (t : List Chunked) → after_chunks step first t ≡ Some ms → AreUnitsOfKept step first (is_chunk_kept (take 0 ks)) t ms
units_all step first ms ks t e = ap (after_chunks step first) (kept_all (is_chunk_kept (take 0 ks)) t (λ c. refl)) ∙ e

pub all_units : (step : ℕ) (first ms : List UnitMap) (ks : List Key) (t : List Chunked) → AreUnitsOfKept step first (is_chunk_kept (take 0 ks)) t ms → after_chunks step first t ≡ Some ms
all_units step first ms ks t e = ap (after_chunks step first) (sym (kept_all (is_chunk_kept (take 0 ks)) t (λ c. refl))) ∙ e

-- where all chunks find their units free, some of them do
pub kept_there : (step : ℕ) (ms z : List UnitMap) (keep : Chunk → Bool) (t : List Chunked) → after_chunks step ms t ≡ Some z → (y : List UnitMap) × AreUnitsOfKept step ms keep t y
unfolding after_chunks
kept_there step ms z keep [] e = (ms, refl)
kept_there step ms z keep (x ∷ t) e = elim (either (keep x.0)) [
  | inl meant ↦
      let p = bind_some (λ (next : List UnitMap). after_chunks step next t) (after_homes ms (homes_of step x)) z e in
      let r = kept_there step p.0 z keep t p.2 in
      let kept : chunks_kept keep (x ∷ t) ≡ x ∷ chunks_kept keep t = rw meant refl in
      (r.0, ap (after_chunks step ms) kept ∙ ap (λ (o : Option (List UnitMap)). option_and_then (λ next. after_chunks step next (chunks_kept keep t)) o) p.1 ∙ r.1)
  | inr other ↦
      let all : after_homes ms (flat_map (homes_of step) (x ∷ t)) ≡ Some z = sym (chunks_are_homes step (x ∷ t) ms) ∙ e in
      let f = front_last ms z (homes_of step x) (flat_map (homes_of step) t) all in
      let r = kept_there step ms f.0 keep t (chunks_are_homes step t ms ∙ f.1) in
      let kept : chunks_kept keep (x ∷ t) ≡ chunks_kept keep t = rw other refl in
      (r.0, ap (after_chunks step ms) kept ∙ r.1)
]

-- ---- tables that differ in some chunks

kept_below : (keep : Chunk → Bool) (x y : Chunked) (t : List Chunked) → is_chunk_before x.0 y.0 ≡ true → Ascend is_chunk_before (y ∷ t) → Ascend is_chunk_before (x ∷ t)
kept_below keep x y [] less up = tt
kept_below keep x y (z ∷ t) less up = (ap is_lt (chunk_total.trans x.0 y.0 z.0 (less_is (chunk_cmp x.0 y.0) less) (less_is (chunk_cmp y.0 z.0) up.0)), up.1) where
  less_is : (r : Ordering) → is_lt r ≡ true → r ≡ Less
  less_is Less e = refl
  less_is Equal e = absurd cc
  less_is Greater e = absurd cc

mutual_up : (keep : Chunk → Bool) (x : Chunked) (t : List Chunked) → Ascend is_chunk_before (x ∷ t) → Ascend is_chunk_before (x ∷ chunks_kept keep t)
mutual_up keep x [] up = tt
mutual_up keep x (y ∷ t) up = elim (either (keep y.0)) [
  | inl meant ↦ rw meant (up.0, mutual_up keep y t up.1)
  | inr other ↦ rw other (mutual_up keep x t (kept_below keep x y t up.0 up.1))
]

kept_up : (keep : Chunk → Bool) (t : List Chunked) → Ascend is_chunk_before t → Ascend is_chunk_before (chunks_kept keep t)
kept_up keep [] up = tt
kept_up keep (x ∷ t) up = elim (either (keep x.0)) [
  | inl meant ↦ rw meant (mutual_up keep x t up)
  | inr other ↦ rw other (kept_up keep t (tail_up x t up))
]

kept_at : (keep : Chunk → Bool) (t : List Chunked) (q : Chunk) → chunk_at (chunks_kept keep t) q ≡ cond (keep q) (chunk_at t q) None
kept_at keep [] q = by (keep q) where
  by : (b : Bool) → chunk_at (chunks_kept keep []) q ≡ cond b (chunk_at [] q) None
  by true = refl
  by false = refl
kept_at keep (x ∷ t) q = by (kept_at keep t q) (keep x.0) refl (is_at (chunk_cmp q) x.0) refl where
  none : (b : Bool) (o : Option (List Homes)) → b ≡ false → cond b o None ≡ cond b (chunk_at t q) None
  none true o e = absurd cc
  none false o e = refl

  by : chunk_at (chunks_kept keep t) q ≡ cond (keep q) (chunk_at t q) None → (b : Bool) → keep x.0 ≡ b → (h : Bool) → is_at (chunk_cmp q) x.0 ≡ h → chunk_at (chunks_kept keep (x ∷ t)) q ≡ cond (keep q) (chunk_at (x ∷ t) q) None
  by later true meant true here =
      let same : q ≡ x.0 = same_chunk q x.0 (is_same (chunk_cmp q x.0) here) in
      let its : keep q ≡ true = ap keep same ∙ meant in
      rw (meant, its, here) refl
  by later true meant false apart = rw (meant, apart) later
  by later false other true here =
      let same : q ≡ x.0 = same_chunk q x.0 (is_same (chunk_cmp q x.0) here) in
      let its : keep q ≡ false = ap keep same ∙ other in
      rw (other, here) (later ∙ sym (none (keep q) (Some x.1) its))
  by later false other false apart = rw (other, apart) later

-- tables that agree on the chunks that are meant
pub kept_same : (keep : Chunk → Bool) (t u : List Chunked) → Ascend is_chunk_before t → Ascend is_chunk_before u → ((c : Chunk) → keep c ≡ true → chunk_at t c ≡ chunk_at u c) → chunks_kept keep t ≡ chunks_kept keep u
kept_same keep t u up too same = same_lookups chunk_cmp chunk_total same_chunk (chunks_kept keep t) (chunks_kept keep u) (kept_up keep t up) (kept_up keep u too) (λ q.
    kept_at keep t q ∙ by (keep q) q (same q) ∙ sym (kept_at keep u q)) where
      by : (b : Bool) (q : Chunk) → (b ≡ true → chunk_at t q ≡ chunk_at u q) → cond b (chunk_at t q) None ≡ cond b (chunk_at u q) None
      by true q e = e refl
      by false q e = refl

-- ---- one key after the other

pub earlier_is : (ks : List Key) (i n : ℕ) (k key : Key) → i < length ks → i < n → k ≡ get_or ks i k → is_key k key ≡ true → is_gone (take n ks) key ≡ true
earlier_is ks i n k key less within is same = taken_later ks (i + 1) n key (omega (arith, within)) (key_taken ks i k less is key ∙ ap (λ (b : Bool). is_gone (take i ks) key || b) same ∙ or_true (is_gone (take i ks) key))

pub not_yet : (ks : List Key) (i : ℕ) (k key : Key) → i < length ks → k ≡ get_or ks i k → is_key k key ≡ false → is_gone (take i ks) key ≡ false → is_gone (take (i + 1) ks) key ≡ false
not_yet ks i k key less is apart before = key_taken ks i k less is key ∙ rw (before, apart) refl

pub length_keys : (put : List DirectoryRecord) (gone : List Key) → length (changed_keys put gone) ≡ length put + length gone
length_keys [] gone = omega arith
length_keys (e ∷ put) gone = omega (arith, length_keys put gone)

-- a chunk whose key is new is given back, and another changes nothing
pub given_new : (step : ℕ) (ks : List Key) (i : ℕ) (k : Key) (t : List Chunked) (old new : List UnitMap) → i < length ks → k ≡ get_or ks i k → IsNewKey ks i k
    → ((keep : Chunk → Bool) (first : List UnitMap) → keep (k.a, k.b - 1) ≡ true → AreUnitsOfKept step first keep t old → AreUnitsOfKept step first (but keep (k.a, k.b - 1)) t new)
    → (first : List UnitMap) → AreUnitsOfKept step first (is_chunk_kept (take i ks)) t old → AreUnitsOfKept step first (is_chunk_kept (take (i + 1) ks)) t new
given_new step ks i k t old new less is n given first e =
    units_alike step first new (but (is_chunk_kept (take i ks)) (k.a, k.b - 1)) (is_chunk_kept (take (i + 1) ks)) t (λ c. sym (stays_but ks i k less is n.kind n.some c)) (given (is_chunk_kept (take i ks)) first (stays_here ks i k n.kind n.some n.first) e)

pub given_old : (step : ℕ) (ks : List Key) (i : ℕ) (k : Key) (t : List Chunked) (old : List UnitMap) → i < length ks → k ≡ get_or ks i k → IsOld ks i k
    → (first : List UnitMap) → AreUnitsOfKept step first (is_chunk_kept (take i ks)) t old → AreUnitsOfKept step first (is_chunk_kept (take (i + 1) ks)) t old
given_old step ks i k t old less is o first e = units_alike step first old (is_chunk_kept (take i ks)) (is_chunk_kept (take (i + 1) ks)) t (λ c. sym (stays_same ks i k less is o c)) e

-- a chunk whose key is new is put, and another changes nothing
pub marked_new : (step : ℕ) (ks : List Key) (i : ℕ) (k : Key) (t : List Chunked) (old new : List UnitMap) → i < length ks → k ≡ get_or ks i k → IsNewKey ks i k
    → ((keep : Chunk → Bool) (first after : List UnitMap) → keep (k.a, k.b - 1) ≡ true → AreUnitsOfKept step first (but keep (k.a, k.b - 1)) t old → AreUnitsOfKept step first keep t after → after ≡ new)
    → (first after : List UnitMap) → AreUnitsOfKept step first (is_chunk_kept (take (i + 1) ks)) t old → AreUnitsOfKept step first (is_chunk_kept (take i ks)) t after → after ≡ new
marked_new step ks i k t old new less is n marked first after e f =
    marked (is_chunk_kept (take i ks)) first after (stays_here ks i k n.kind n.some n.first) (units_alike step first old (is_chunk_kept (take (i + 1) ks)) (but (is_chunk_kept (take i ks)) (k.a, k.b - 1)) t (stays_but ks i k less is n.kind n.some) e) f

pub marked_old : (step : ℕ) (ks : List Key) (i : ℕ) (k : Key) (t : List Chunked) (old : List UnitMap) → i < length ks → k ≡ get_or ks i k → IsOld ks i k
    → (first after : List UnitMap) → AreUnitsOfKept step first (is_chunk_kept (take (i + 1) ks)) t old → AreUnitsOfKept step first (is_chunk_kept (take i ks)) t after → after ≡ old
marked_old step ks i k t old less is o first after e f =
    some_is after old (sym f ∙ units_alike step first old (is_chunk_kept (take (i + 1) ks)) (is_chunk_kept (take i ks)) t (stays_same ks i k less is o) e)

-- the same where the key is read field by field
pub given_view : (step : ℕ) (ks : List Key) (i kind a b : ℕ) (k : Key) (t : List Chunked) (old new : List UnitMap) → record { kind = kind; a = a; b = b } ≡ k → i < length ks → k ≡ get_or ks i k → IsNewKey ks i k
    → ((keep : Chunk → Bool) (first : List UnitMap) → keep (a, b - 1) ≡ true → AreUnitsOfKept step first keep t old → AreUnitsOfKept step first (but keep (a, b - 1)) t new)
    → (first : List UnitMap) → AreUnitsOfKept step first (is_chunk_kept (take i ks)) t old → AreUnitsOfKept step first (is_chunk_kept (take (i + 1) ks)) t new
given_view step ks i kind a b k t old new view less is n =
    given_new step ks i (record { kind = kind; a = a; b = b }) t old new less (subst (λ (j : Key). j ≡ get_or ks i j) (sym view) is) (subst (λ (j : Key). IsNewKey ks i j) (sym view) n)

pub marked_view : (step : ℕ) (ks : List Key) (i kind a b : ℕ) (k : Key) (t : List Chunked) (old new : List UnitMap) → record { kind = kind; a = a; b = b } ≡ k → i < length ks → k ≡ get_or ks i k → IsNewKey ks i k
    → ((keep : Chunk → Bool) (first after : List UnitMap) → keep (a, b - 1) ≡ true → AreUnitsOfKept step first (but keep (a, b - 1)) t old → AreUnitsOfKept step first keep t after → after ≡ new)
    → (first after : List UnitMap) → AreUnitsOfKept step first (is_chunk_kept (take (i + 1) ks)) t old → AreUnitsOfKept step first (is_chunk_kept (take i ks)) t after → after ≡ new
marked_view step ks i kind a b k t old new view less is n =
    marked_new step ks i (record { kind = kind; a = a; b = b }) t old new less (subst (λ (j : Key). j ≡ get_or ks i j) (sym view) is) (subst (λ (j : Key). IsNewKey ks i j) (sym view) n)

-- ---- all keys

pub all_taken : (ks : List Key) (n : ℕ) → length ks ≤ n → take n ks ≡ ks
all_taken [] zero le = refl
all_taken [] (suc n) le = refl
all_taken (x ∷ ks) zero le = absurd (omega (arith, le))
all_taken (x ∷ ks) (suc n) le = ap (λ (js : List Key). x ∷ js) (all_taken ks n (omega (arith, le)))

pub units_end : (step : ℕ) (first ms : List UnitMap) (ks : List Key) (n : ℕ) (t : List Chunked) → length ks ≤ n → AreUnitsOfKept step first (is_chunk_kept (take n ks)) t ms → AreUnitsOfKept step first (is_chunk_kept ks) t ms
units_end step first ms ks n t past e = ap (λ (js : List Key). after_chunks step first (chunks_kept (is_chunk_kept js) t)) (sym (all_taken ks n past)) ∙ e

pub units_start : (step : ℕ) (first ms : List UnitMap) (ks : List Key) (n : ℕ) (t : List Chunked) → length ks ≤ n → AreUnitsOfKept step first (is_chunk_kept ks) t ms → AreUnitsOfKept step first (is_chunk_kept (take n ks)) t ms
units_start step first ms ks n t past e = ap (λ (js : List Key). after_chunks step first (chunks_kept (is_chunk_kept js) t)) (all_taken ks n past) ∙ e

-- one chunk more is put, where all of them find their units free
pub marked_more : (step : ℕ) (ks : List Key) (i n j : ℕ) (t : List Chunked) (old new first z : List UnitMap) → i + 1 ≡ n → i ≡ j
    → ((f after : List UnitMap) → AreUnitsOfKept step f (is_chunk_kept (take (i + 1) ks)) t old → AreUnitsOfKept step f (is_chunk_kept (take i ks)) t after → after ≡ new)
    → after_chunks step first t ≡ Some z → AreUnitsOfKept step first (is_chunk_kept (take n ks)) t old → AreUnitsOfKept step first (is_chunk_kept (take j ks)) t new
marked_more step ks i n j t old new first z next here marked all e =
    let y = kept_there step first z (is_chunk_kept (take i ks)) t all in
    let same = marked first y.0 (subst (λ (m : ℕ). AreUnitsOfKept step first (is_chunk_kept (take m ks)) t old) (sym next) e) y.1 in
    subst (λ (m : ℕ). AreUnitsOfKept step first (is_chunk_kept (take m ks)) t new) here (y.1 ∙ ap (λ (xs : List UnitMap). Some xs) same)

pub marked_all : (step : ℕ) (ks : List Key) (n : ℕ) (t : List Chunked) (new first z : List UnitMap) → n ≡ 0 → after_chunks step first t ≡ Some z → AreUnitsOfKept step first (is_chunk_kept (take n ks)) t new → z ≡ new
marked_all step ks n t new first z none all e =
    some_is z new (sym all ∙ all_units step first new ks t (subst (λ (m : ℕ). AreUnitsOfKept step first (is_chunk_kept (take m ks)) t new) none e))

-- what stays in the one table stays in the other
pub units_other : (step : ℕ) (ks : List Key) (t u : List Chunked) (first ms : List UnitMap) → Ascend is_chunk_before t → Ascend is_chunk_before u → ((c : Chunk) → is_chunk_kept ks c ≡ true → chunk_at t c ≡ chunk_at u c)
    → AreUnitsOfKept step first (is_chunk_kept ks) t ms → AreUnitsOfKept step first (is_chunk_kept ks) u ms
units_other step ks t u first ms up too same e = ap (after_chunks step first) (sym (kept_same (is_chunk_kept ks) t u up too same)) ∙ e

-- ---- tables after a change

not_true : (b : Bool) → not b ≡ true → b ≡ false
not_true true e = absurd cc
not_true false e = refl

in_neither : (put : List DirectoryRecord) (gone : List Key) (k : Key) → not (is_gone (changed_keys put gone) k) ≡ true → (is_put put k ≡ false) × (is_gone gone k ≡ false)
in_neither [] gone k e = (refl, not_true (is_gone gone k) e)
in_neither (p ∷ put) gone k e = elim (either (is_key p.0 k)) [
  | inl here ↦ absurd (true≢false (sym (rw here at e)))
  | inr other ↦
      let later = in_neither put gone k (rw other at e) in
      (rw other later.0, later.1)
]

-- the chunks whose records stay are the same after a change
pub chunks_stay : (t u : Tables) (put : List DirectoryRecord) (gone : List Key) → AreTables t → IsAfter t put gone u → (c : Chunk) → is_chunk_kept (changed_keys put gone) c ≡ true → chunk_at t.extents c ≡ chunk_at u.extents c
chunks_stay t u put gone tables after c e =
    let k = chunk_key c.0 c.1 in
    let p = in_neither put gone (chunk_key c.0 c.1) e in
    let kept : value_after put gone (chunk_key c.0 c.1) (records_of t (chunk_key c.0 c.1)) ≡ records_of t (chunk_key c.0 c.1) =
    ap (λ (b : Bool). cond b None (last_put put (chunk_key c.0 c.1) (records_of t (chunk_key c.0 c.1)))) p.1 ∙ last_put_none put (chunk_key c.0 c.1) (records_of t (chunk_key c.0 c.1)) p.0 in
    let same : chunk_value_at t.extents c ≡ chunk_value_at u.extents c = sym (chunk_record t c) ∙ sym (after.records (chunk_key c.0 c.1) ∙ kept) ∙ chunk_record u c in
    same_found chunk_cmp chunk_total same_chunk (λ (d : Chunk) (h : List Homes). chunk_item d.0 d.1 h) (λ d v w. refl) (λ d v w f. cc) c (chunk_at t.extents c) (chunk_at u.extents c)
    (λ v f. looked chunk_cmp chunk_total same_chunk (λ (d : Chunk) (h : List Homes). chunk_item d.0 d.1 h) (λ d v w. refl) (λ d v w g. cc) t.extents tables.extents.0.1 c v f)
    (λ v f. looked chunk_cmp chunk_total same_chunk (λ (d : Chunk) (h : List Homes). chunk_item d.0 d.1 h) (λ d v w. refl) (λ d v w g. cc) u.extents after.tables.extents.0.1 c v f)
    same
