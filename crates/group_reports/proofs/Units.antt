-- The units of a file, chunk by chunk.
use Rattle.std.proofs.Common.{◌≡◌, ℕ, suc, ◌+◌, ◌*◌, ◌<◌, ◌≤◌, Bool, true, false, cond, eqb, List, [], ◌∷◌, ◌++◌, length, get_or, drop, Option, Some, None, refl, sym, ap, subst, ◌∙◌, arith, add-one, zero-add}
use Rattle.std.specs.Prelude.{flat_map}
use Rattle.std.specs.Ordering.{nat_cmp}
use Rattle.std.proofs.lemmas.Bool.{eq-eqb, ne_eqb}
use Rattle.std.proofs.Math.Arith.{lt_of_le-ne}
use Rattle.std.proofs.lemmas.List.{drop_more, drop_all}
use Rattle.std.proofs.lemmas.List.Sums.{sum_by-append, sum_by-cons}
use Rattle.asm_formats.specs.Items.{Home, Homes, Item}
use Rattle.asm_placement.specs.Layout.{units_of}
use Rattle.asm_placement.specs.Placed.{Placed, placed, placed_copies, placed_extents}
use Rattle.catalog_laws.specs.extent_map.Extents.{Chunked, chunks_from}
use Rattle.catalog_laws.specs.catalog_tables.Items.{AreItemsOf}
use Rattle.catalog_laws.specs.catalog_tables.Placing.{homes_of}
use Rattle.catalog_laws.specs.catalog_tables.Tables.{AreTables, Catalogued}
use Rattle.catalog_laws.proofs.ItemLists.{items_say}
use Rattle.catalog_laws.proofs.extent_map.FileOrder.{AreFrom, Rise, keeps, kept_from, le_is, not_le, rises, starts}
use Rattle.group_reports.specs.Extents.{file_units, file_units_in, units_at, units_of_file}

-- the units of one home of a file
abbrev one : ℕ → Placed → ℕ
one f p = cond (eqb p.file f) p.len 0

pub both : (f : ℕ) (ps qs : List Placed) → units_of_file f (ps ++ qs) ≡ units_of_file f ps + units_of_file f qs
both f ps qs = sum_by-append (one f) ps qs

next_home : (f i len : ℕ) (h : Option Home) (hs : Homes) → units_of_file f (placed_copies f i len (h ∷ hs)) ≡ units_at len h + units_of_file f (placed_copies f i len hs)
next_home f i len None hs = sym (zero-add (units_of_file f (placed_copies f i len hs)))
next_home f i len (Some h) hs =
    sum_by-cons (one f) (record { file = f; index = i; home = h; len = len }) (placed_copies f i len hs)
    ∙ ap (λ (b : Bool). cond b len 0 + units_of_file f (placed_copies f i len hs)) (eq-eqb f f refl)

pub three_homes : (n f i len : ℕ) (a b c : Option Home) → n ≡ units_at len a + units_at len b + units_at len c → n ≡ units_of_file f (placed_copies f i len (a ∷ b ∷ c ∷ []))
three_homes n f i len a b c is =
    let p = next_home f i len a (b ∷ c ∷ []) in
    let q = next_home f i len b (c ∷ []) in
    let r : units_of_file f (placed_copies f i len (c ∷ [])) ≡ units_at len c + 0 = next_home f i len c [] in
    omega (arith, is, p, q, r)

-- ---- one extent after the other

pub row_more : (step f i k n : ℕ) (xs : List Homes) (homes : Homes) (t u all : ℕ) → k < length xs → homes ≡ get_or xs k homes → n ≡ units_of step i → u ≡ units_of_file f (placed_copies f i n homes)
    → t + units_of_file f (placed_extents step f i (drop k xs)) ≡ all → (t + u) + units_of_file f (placed_extents step f (i + 1) (drop (k + 1) xs)) ≡ all
row_more step f i k n xs homes t u all within is len units so_far =
    let next : drop k xs ≡ homes ∷ drop (k + 1) xs = drop_more xs k homes within ∙ ap (λ (h : Homes). h ∷ drop (k + 1) xs) (sym is) in
    let parts : units_of_file f (placed_extents step f i (drop k xs)) ≡ units_of_file f (placed_copies f i (units_of step i) homes) + units_of_file f (placed_extents step f (i + 1) (drop (k + 1) xs)) =
    ap (λ (hs : List Homes). units_of_file f (placed_extents step f i hs)) next
    ∙ both f (placed_copies f i (units_of step i) homes) (placed_extents step f (suc i) (drop (k + 1) xs))
    ∙ ap (λ (j : ℕ). units_of_file f (placed_copies f i (units_of step i) homes) + units_of_file f (placed_extents step f j (drop (k + 1) xs))) (sym (add-one i)) in
    let here : u ≡ units_of_file f (placed_copies f i (units_of step i) homes) = units ∙ ap (λ (m : ℕ). units_of_file f (placed_copies f i m homes)) len in
    omega (arith, so_far, parts, here)

pub row_end : (step f i k t : ℕ) (xs : List Homes) (all : ℕ) → length xs ≤ k → t + units_of_file f (placed_extents step f i (drop k xs)) ≡ all → t ≡ all
row_end step f i k t xs all past so_far =
    let none : units_of_file f (placed_extents step f i (drop k xs)) ≡ 0 = ap (λ (hs : List Homes). units_of_file f (placed_extents step f i hs)) (drop_all k xs past) in
    omega (arith, so_far, none)

-- ---- other files

other_homes : (f g i len : ℕ) (hs : Homes) → eqb g f ≡ false → units_of_file f (placed_copies g i len hs) ≡ 0
other_homes f g i len [] not = refl
other_homes f g i len (None ∷ hs) not = other_homes f g i len hs not
other_homes f g i len (Some h ∷ hs) not =
    sum_by-cons (one f) (record { file = g; index = i; home = h; len = len }) (placed_copies g i len hs)
    ∙ ap (λ (b : Bool). cond b len 0 + units_of_file f (placed_copies g i len hs)) not
    ∙ zero-add (units_of_file f (placed_copies g i len hs))
    ∙ other_homes f g i len hs not

other_extents : (f g step i : ℕ) (xs : List Homes) → eqb g f ≡ false → units_of_file f (placed_extents step g i xs) ≡ 0
other_extents f g step i [] not = refl
other_extents f g step i (hs ∷ xs) not =
    let here = other_homes f g i (units_of step i) hs not in
    let later = other_extents f g step (suc i) xs not in
    let parts = both f (placed_copies g i (units_of step i) hs) (placed_extents step g (suc i) xs) in
    parts ∙ omega (arith, here, later)

other : (f step : ℕ) (x : Chunked) → (x.0.0 ≡ f → ⊥) → units_of_file f (homes_of step x) ≡ 0
other f step x not = other_extents f x.0.0 step (x.0.1 * 256) x.1 (ne_eqb x.0.0 f not)

-- ---- the chunks of a file

abbrev pub units_in : ℕ → ℕ → List Chunked → ℕ
units_in f step xs = units_of_file f (flat_map (homes_of step) xs)

chunk_parts : (f step : ℕ) (x : Chunked) (xs : List Chunked) → units_in f step (x ∷ xs) ≡ units_of_file f (homes_of step x) + units_in f step xs
chunk_parts f step x xs = both f (homes_of step x) (flat_map (homes_of step) xs)

-- the chunks from the file's first on, where f is the file
pub record AreTheRest (f step all : ℕ) (xs : List Chunked) : Type 0 where
  pub units : units_in f step xs ≡ all
  pub from : AreFrom f xs
  pub rise : Rise xs

starts_right : (f step : ℕ) (xs : List Chunked) → Rise xs → AreTheRest f step (units_in f step xs) (starts f xs)
starts_right f step [] rise = record { units = refl; from = tt; rise = tt }
starts_right f step (x ∷ xs) rise = by (keeps f x) refl (starts_right f step xs rise.1)
  where
    by : (b : Bool) → keeps f x ≡ b → AreTheRest f step (units_in f step xs) (starts f xs) → AreTheRest f step (units_in f step (x ∷ xs)) (starts f (x ∷ xs))
    by true is later =
        let units : units_in f step (x ∷ starts f xs) ≡ units_in f step (x ∷ xs) =
        chunk_parts f step x (starts f xs) ∙ ap (λ (n : ℕ). units_of_file f (homes_of step x) + n) later.units ∙ sym (chunk_parts f step x xs) in
        let first : f ≤ x.0.0 = le_is f x.0.0 (nat_cmp 0 x.0.1) is in
        let kept : starts f (x ∷ xs) ≡ x ∷ starts f xs = rw is refl in
        subst (AreTheRest f step (units_in f step (x ∷ xs))) (sym kept) (record { units = units; from = (first, later.from); rise = (kept_from f xs x.0.0 rise.0, later.rise) })
    by false is later =
        let none : units_of_file f (homes_of step x) ≡ 0 = other f step x (not_le f x.0.0 x.0.1 is) in
        let parts : units_in f step (x ∷ xs) ≡ units_in f step xs = chunk_parts f step x xs ∙ (ap (λ (n : ℕ). n + units_in f step xs) none ∙ zero-add (units_in f step xs)) in
        let dropped : starts f (x ∷ xs) ≡ starts f xs = rw is refl in
        subst (AreTheRest f step (units_in f step (x ∷ xs))) (sym dropped) (record { units = later.units ∙ sym parts; from = later.from; rise = later.rise })

none_above : (f step n : ℕ) (xs : List Chunked) → f < n → AreFrom n xs → units_in f step xs ≡ 0
none_above f step n [] less from = refl
none_above f step n (x ∷ xs) less from =
    let here = other f step x (λ same. omega (arith, less, from.0, same)) in
    let later = none_above f step n xs less from.1 in
    chunk_parts f step x xs ∙ omega (arith, here, later)

-- ---- the loop

-- so many units so far, and at most 12288 in each chunk that is left
pub record AreSoFar (f step units : ℕ) (all left : List Chunked) : Type 0 where
  pub sum : units + units_in f step left ≡ units_in f step all
  pub from : AreFrom f left
  pub rise : Rise left
  pub few : units + 12288 * length left ≤ 12288 * length all

short : (f : ℕ) (xs : List Chunked) → length (starts f xs) ≤ length xs
short f [] = omega arith
short f (x ∷ xs) = by (keeps f x) refl (short f xs)
  where
    by : (b : Bool) → keeps f x ≡ b → length (starts f xs) ≤ length xs → length (starts f (x ∷ xs)) ≤ length (x ∷ xs)
    by true is le = rw is (omega (arith, le))
    by false is le = rw is (omega (arith, le))

pub at_start : (f step : ℕ) (c : Catalogued) (left : List Chunked) → AreTables c.tables → left ≡ chunks_from c.tables.extents (f, 0) → AreSoFar f step 0 c.tables.extents left
at_start f step c left tables is =
    let r = starts_right f step c.tables.extents (rises c.tables.extents tables.extents.0.0) in
    let long = short f c.tables.extents in
    subst (AreSoFar f step 0 c.tables.extents) (sym is) (record { sum = omega (arith, r.units); from = r.from; rise = r.rise; few = omega (arith, long) })

pub one_more : (f step units more : ℕ) (all left next : List Chunked) (x : Chunked) (homes : List Homes) → homes ≡ x.1 → left ≡ x ∷ next → f ≡ x.0.0 → more ≤ 12288
    → more ≡ units_of_file f (placed_extents step f (x.0.1 * 256) homes) → AreSoFar f step units all left → AreSoFar f step (units + more) all next
one_more f step units more all left next x homes same split file few is so_far =
    let s : AreSoFar f step units all (x ∷ next) = subst (AreSoFar f step units all) split so_far in
    let here : more ≡ units_of_file f (homes_of step x) = is ∙ ap (λ (hs : List Homes). units_of_file f (placed_extents step f (x.0.1 * 256) hs)) same ∙ ap (λ (g : ℕ). units_of_file f (placed_extents step g (x.0.1 * 256) x.1)) file in
    let parts = chunk_parts f step x next in
    record {
      sum = omega (arith, s.sum, here, parts);
      from = s.from.1;
      rise = s.rise.1;
      few = omega (arith, s.few, few);
    }

pub stopped : (f step units : ℕ) (all left next : List Chunked) (x : Chunked) → left ≡ x ∷ next → (x.0.0 ≡ f → ⊥) → AreSoFar f step units all left → units ≡ units_in f step all
stopped f step units all left next x split not so_far =
    let s : AreSoFar f step units all (x ∷ next) = subst (AreSoFar f step units all) split so_far in
    let above : f < x.0.0 = lt_of_le-ne s.from.0 (λ same. not (sym same)) in
    let none = none_above f step x.0.0 (x ∷ next) above (omega arith, s.rise.0) in
    omega (arith, s.sum, none)

pub ended : (f step units : ℕ) (all left : List Chunked) → left ≡ [] → AreSoFar f step units all left → units ≡ units_in f step all
ended f step units all left none so_far =
    let s : AreSoFar f step units all [] = subst (AreSoFar f step units all) none so_far in
    omega (arith, s.sum)

-- ---- by the records

pub units_by_items : (c : Catalogued) (f n : ℕ) (items : List Item) → AreTables c.tables → n ≡ file_units c f → AreItemsOf c.tables items → n ≡ file_units_in c.shape.step items f
units_by_items c f n items tables is are = is ∙ ap (units_of_file f) (sym ((items_say c.tables items tables are).placed c.shape.step))
