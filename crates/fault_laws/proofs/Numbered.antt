-- A table of chunks in which each file's extents are numbered from 0 on has no gap.
use Rattle.std.proofs.Common.{◌≡◌, ◌⊎◌, ℕ, zero, suc, ◌+◌, ◌-◌, ◌*◌, ◌<◌, Bool, true, false, cond, eqb, get_or, List, [], ◌∷◌, length, Ordering, Option, Some, None, refl, sym, ap, subst, ◌∙◌, arith, inl, inr}
use Rattle.std.specs.Prelude.{◌&&◌, ◌||◌, ◌/◌, ◌%◌, not}
use Rattle.std.specs.Option.{unwrap_or}
use Rattle.std.specs.Ordering.{nat_cmp, ordering_then}
use Rattle.std.specs.declared.cmp.Ordering.TheVariants.{Less, Equal, Greater}
use Rattle.std.proofs.lemmas.Bool.{and_from, cases_lt, eq-eqb}
use Rattle.std.proofs.lemmas.Option.{none-some}
use Rattle.asm_formats.specs.Among.{IsAmong}
use Rattle.asm_formats.specs.Items.{Homes}
use Rattle.asm_base.specs.Records.{Ascend}
use Rattle.asm_base.specs.Tables.{IsItemTable}
use Rattle.asm_base.specs.Chunks.{Chunk, chunk_cmp, is_chunk_before}
use Rattle.asm_base.proofs.Exact.{test_some}
use Rattle.extent_map.specs.Extents.{Chunked, chunk_at, has_extent, has_home, has_no_gap, is_behind, is_blank, is_full, item_of_chunk, full_chunk, stand_first, stands_at}
use Rattle.extent_map.proofs.Laws.{chunk_total}
use Rattle.extent_map.proofs.Numbering.{size_of, the_chunk}
use Rattle.catalog_tables.proofs.TableItems.{among_found, below, chunks_exact, found_is, numbers_exact, tail_up}
use Rattle.group_of.proofs.Extents.{past}
use Rattle.fault_laws.proofs.Lists.{all_at}

clash : {A : Type 0} (b : Bool) → b ≡ true → b ≡ false → A
clash true e f = absurd cc
clash false e f = absurd cc

not_true : (b : Bool) → (b ≡ true → ⊥) → b ≡ false
not_true true none = absurd (none refl)
not_true false none = refl

-- ---- inside a chunk

-- behind each extent that is there, the one before it is there
abbrev Steps : List Homes → Type 0
Steps homes = (p : ℕ) → has_home (get_or homes (suc p) []) ≡ true → has_home (get_or homes p []) ≡ true

down_to : (homes : List Homes) → Steps homes → (p n : ℕ) → has_home (get_or homes (p + n) []) ≡ true → has_home (get_or homes p []) ≡ true
down_to homes steps p zero e = let same : p + 0 ≡ p = omega arith in subst (λ (k : ℕ). has_home (get_or homes k []) ≡ true) same e
down_to homes steps p (suc n) e =
    let same : p + suc n ≡ suc (p + n) = omega arith in
    down_to homes steps p n (steps (p + n) (subst (λ (k : ℕ). has_home (get_or homes k []) ≡ true) same e))

full_from : (homes : List Homes) (n : ℕ) → Steps homes → length homes ≡ suc n → has_home (get_or homes n []) ≡ true → is_full homes ≡ true
full_from homes n steps long last = all_at has_home homes [] (λ p lt.
    let same : p + (n - p) ≡ n = omega (arith, lt, long) in
    down_to homes steps p (n - p) (subst (λ (k : ℕ). has_home (get_or homes k []) ≡ true) (sym same) last))

first_there : (homes : List Homes) → Steps homes → is_blank homes ≡ false → has_home (get_or homes 0 []) ≡ true
first_there [] steps e = absurd cc
first_there (h ∷ homes) steps e = by (has_home h) refl (first_there homes (λ p. steps (suc p))) where
  by : (b : Bool) → has_home h ≡ b → (is_blank homes ≡ false → has_home (get_or homes 0 []) ≡ true) → has_home h ≡ true
  by true is rest = is
  by false is rest = steps 0 (rest (rw is at e))

stands_from : (homes : List Homes) (ended : Bool) → Steps homes → (ended ≡ true → has_home (get_or homes 0 []) ≡ false) → stand_first ended homes ≡ true
stands_from [] ended steps none = refl
stands_from (h ∷ homes) ended steps none = by ended none (stands_from homes (not (has_home h)) (λ p. steps (suc p)) (λ e. not_true (has_home (get_or homes 0 [])) (λ there. never (has_home h) e (steps 0 there)))) where
  never : (b : Bool) → not b ≡ true → b ≡ true → ⊥
  never true e f = absurd cc
  never false e f = absurd cc

  by : (b : Bool) → (b ≡ true → has_home h ≡ false) → stand_first (not (has_home h)) homes ≡ true → cond (b && has_home h) false (stand_first (not (has_home h)) homes) ≡ true
  by true e rest = ap (λ (c : Bool). cond c false (stand_first (not (has_home h)) homes)) (e refl) ∙ rest
  by false e rest = rest

-- ---- the order of chunks

less_parts : (x y : Chunk) → chunk_cmp x y ≡ Less → (x.0 < y.0) ⊎ ((x.0 ≡ y.0) × (x.1 < y.1))
less_parts x y e = by (nat_cmp x.0 y.0) refl e where
  number_less : (m n : ℕ) → nat_cmp m n ≡ Less → m < n
  number_less m n e = grind (arith, e)

  by : (o : Ordering) → nat_cmp x.0 y.0 ≡ o → ordering_then o (nat_cmp x.1 y.1) ≡ Less → (x.0 < y.0) ⊎ ((x.0 ≡ y.0) × (x.1 < y.1))
  by Less is e = inl (number_less x.0 y.0 is)
  by Equal is e = inr (numbers_exact x.0 y.0 is, number_less x.1 y.1 e)
  by Greater is e = absurd cc

-- nothing lies between a chunk and the next one
none_between : (f c : ℕ) (x y : Chunk) → y.0 ≡ f → y.1 ≡ suc c → chunk_cmp (f, c) x ≡ Less → chunk_cmp x y ≡ Less → ⊥
none_between f c x y file number a b = elim (less_parts (f, c) x a) [
  | inl p ↦ elim (less_parts x y b) [
    | inl q ↦ absurd (omega (arith, p, q, file))
    | inr q ↦ absurd (omega (arith, p, q.0, file))
  ]
  | inr p ↦ elim (less_parts x y b) [
    | inl q ↦ absurd (omega (arith, p.0, q, file))
    | inr q ↦ absurd (omega (arith, p.1, q.1, number))
  ]
]

not_below : (x y : Chunk) → y.0 ≡ x.0 → y.1 < x.1 → chunk_cmp x y ≡ Less → ⊥
not_below x y file number a = elim (less_parts x y a) [
  | inl p ↦ absurd (omega (arith, p, file))
  | inr p ↦ absurd (omega (arith, p.1, number))
]

-- ---- one chunk after the other

-- Of chunks behind a full one, if any: before each with extents, its file's one before it is full.
record AreBehind (before : Option Chunk) (t : List Chunked) : Type 0 where
  filled : (x : Chunked) → IsAmong t x → (c : ℕ) → x.0.1 ≡ suc c → is_blank x.1 ≡ false
      → (before ≡ Some (x.0.0, c)) ⊎ ((y : Chunked) × IsAmong t y × (y.0 ≡ (x.0.0, c)) × (is_full y.1 ≡ true))
  later : (k : Chunk) → before ≡ Some k → (x : Chunked) → IsAmong t x → chunk_cmp k x.0 ≡ Less

module _ (before : Option Chunk) (x : Chunked) (t : List Chunked) (up : Ascend is_chunk_before (x ∷ t)) (b : AreBehind before (x ∷ t)) where
  behind_first : (y : Chunked) → IsAmong t y → chunk_cmp x.0 y.0 ≡ Less
  behind_first y h = below chunk_cmp chunk_total chunks_exact x t y up h

  place : is_blank x.1 ≡ false → (c : ℕ) → x.0.1 ≡ suc c → is_behind before x.0 ≡ true
  place blank c number = elim (b.filled x (inl refl) c number blank) [
    | inl at ↦ ap (λ (o : Option Chunk). is_behind o x.0) at ∙ and_from (eqb x.0.0 x.0.0) (eqb (c + 1) x.0.1) (eq-eqb x.0.0 x.0.0 refl) (eq-eqb (c + 1) x.0.1 (omega (arith, number)))
    | inr (y, among, at, full) ↦ elim among [
      | inl same ↦ absurd (omega (arith, number, ap (λ (z : Chunked). z.0.1) same, ap (λ (k : Chunk). k.1) at))
      | inr h ↦ absurd (not_below x.0 y.0 (ap (λ (k : Chunk). k.0) at) (omega (arith, ap (λ (k : Chunk). k.1) at, number)) (behind_first y h))
    ]
  ]

  stands : stand_first false x.1 ≡ true → stands_at before x ≡ true
  stands first = and_from (stand_first false x.1) (is_blank x.1 || (eqb x.0.1 0 || is_behind before x.0)) first (by (is_blank x.1) refl x.0.1 refl) where
    or_true : (c : Bool) → (c || true) ≡ true
    or_true true = refl
    or_true false = refl

    by : (c : Bool) → is_blank x.1 ≡ c → (n : ℕ) → x.0.1 ≡ n → (is_blank x.1 || (eqb x.0.1 0 || is_behind before x.0)) ≡ true
    by true e n at = rw e refl
    by false e zero at = rw (e, eq-eqb x.0.1 0 at) refl
    by false e (suc c) at = rw (e, place e c at) (or_true (eqb x.0.1 0))

  next : AreBehind (full_chunk x) t
  next = record { filled = filled; later = later } where
    later : (k : Chunk) → full_chunk x ≡ Some k → (y : Chunked) → IsAmong t y → chunk_cmp k y.0 ≡ Less
    later k e y h = let o = test_some (is_full x.1) x.0 k e in subst (λ (j : Chunk). chunk_cmp j y.0 ≡ Less) o.1 (behind_first y h)

    filled : (y : Chunked) → IsAmong t y → (c : ℕ) → y.0.1 ≡ suc c → is_blank y.1 ≡ false
        → (full_chunk x ≡ Some (y.0.0, c)) ⊎ ((z : Chunked) × IsAmong t z × (z.0 ≡ (y.0.0, c)) × (is_full z.1 ≡ true))
    filled y h c number blank = elim (b.filled y (inr h) c number blank) [
      | inl at ↦ absurd (none_between y.0.0 c x.0 y.0 refl number (b.later (y.0.0, c) at x (inl refl)) (behind_first y h))
      | inr (z, among, at, full) ↦ elim among [
        | inl same ↦
            let here : is_full x.1 ≡ true = ap (λ (w : Chunked). is_full w.1) (sym same) ∙ full in
            inl (ap (λ (o : Bool). cond o (Some x.0) None) here ∙ ap (λ (k : Chunk). Some k) (ap (λ (w : Chunked). w.0) (sym same) ∙ at))
        | inr more ↦ inr (z, more, at, full)
      ]
    ]

none_by : (t : List Chunked) (before : Option Chunk) → Ascend is_chunk_before t → AreBehind before t → ((x : Chunked) → IsAmong t x → stand_first false x.1 ≡ true) → has_no_gap before t ≡ true
none_by [] before up b first = refl
none_by (x ∷ t) before up b first =
    rw (stands before x t up b (first x (inl refl)))
    (none_by t (full_chunk x) (tail_up chunk_cmp chunk_total chunks_exact x t up) (next before x t up b) (λ y h. first y (inr h)))

-- ---- a table whose extents are numbered

module _ (table : List Chunked) (fits : IsItemTable is_chunk_before item_of_chunk table) (numbered : (f i : ℕ) → has_extent table f (suc i) ≡ true → has_extent table f i ≡ true) where
  found : (x : Chunked) → IsAmong table x → chunk_at table x.0 ≡ Some x.1
  found x h = among_found chunk_cmp chunk_total chunks_exact table x fits.0 h

  long : (x : Chunked) → IsAmong table x → length x.1 ≡ 256
  long x h = size_of table x.0 x.1 fits.1 (found x h)

  at_place : (x : Chunked) → IsAmong table x → (p : ℕ) → p < 256 → has_extent table x.0.0 (x.0.1 * 256 + p) ≡ has_home (get_or x.1 p [])
  at_place x h p lt =
      let chunk : (x.0.1 * 256 + p) / 256 ≡ x.0.1 = omega (arith, lt) in
      let place : (x.0.1 * 256 + p) % 256 ≡ p = omega (arith, lt) in
      ap (λ (c : ℕ). has_home (get_or (unwrap_or (chunk_at table (x.0.0, c)) []) ((x.0.1 * 256 + p) % 256) [])) chunk
      ∙ ap (λ (k : ℕ). has_home (get_or (unwrap_or (chunk_at table x.0) []) k [])) place
      ∙ ap (λ (o : Option (List Homes)). has_home (get_or (unwrap_or o []) p [])) (found x h)

  steps : (x : Chunked) → IsAmong table x → Steps x.1
  steps x h p e = elim (cases_lt (suc p) 256) [
    | inr le ↦ clash (has_home (get_or x.1 (suc p) [])) e (ap has_home (past x.1 (suc p) [] (omega (arith, le, long x h))))
    | inl lt ↦
        let same : suc (x.0.1 * 256 + p) ≡ x.0.1 * 256 + suc p = omega arith in
        let less : p < 256 = omega (arith, lt) in
        sym (at_place x h p less) ∙ numbered x.0.0 (x.0.1 * 256 + p) (ap (has_extent table x.0.0) same ∙ at_place x h (suc p) lt ∙ e)
  ]

  -- before a chunk with extents, its file's one before it is full
  filled : (x : Chunked) → IsAmong table x → (c : ℕ) → x.0.1 ≡ suc c → is_blank x.1 ≡ false → (y : Chunked) × IsAmong table y × (y.0 ≡ (x.0.0, c)) × (is_full y.1 ≡ true)
  filled x h c number blank =
      let here : has_extent table x.0.0 (x.0.1 * 256 + 0) ≡ true = at_place x h 0 (omega arith) ∙ first_there x.1 (steps x h) blank in
      let same : suc (c * 256 + 255) ≡ x.0.1 * 256 + 0 = omega (arith, number) in
      let last : has_extent table x.0.0 (c * 256 + 255) ≡ true = numbered x.0.0 (c * 256 + 255) (ap (has_extent table x.0.0) same ∙ here) in
      let chunk : (c * 256 + 255) / 256 ≡ c = omega arith in
      let place : (c * 256 + 255) % 256 ≡ 255 = omega arith in
      let there : has_home (get_or (unwrap_or (chunk_at table (x.0.0, c)) []) 255 []) ≡ true =
      ap (λ (k : ℕ). has_home (get_or (unwrap_or (chunk_at table (x.0.0, c)) []) k [])) (sym place)
      ∙ ap (λ (k : ℕ). has_home (get_or (unwrap_or (chunk_at table (x.0.0, k)) []) ((c * 256 + 255) % 256) [])) (sym chunk) ∙ last in
      let homes = the_chunk (chunk_at table (x.0.0, c)) 255 there in
      let y : Chunked = ((x.0.0, c), homes.0) in
      let among : IsAmong table y = found_is chunk_cmp chunk_total chunks_exact (x.0.0, c) table homes.0 homes.1 in
      (y, among, refl, full_from homes.0 255 (steps y among) (long y among) homes.2)

  pub numbered_has_no_gap : has_no_gap None table ≡ true
  numbered_has_no_gap = none_by table None fits.0
      (record { filled = λ x h c number blank. inr (filled x h c number blank); later = λ k e. absurd (none-some k e) })
      (λ x h. stands_from x.1 false (steps x h) (λ e. absurd cc))
