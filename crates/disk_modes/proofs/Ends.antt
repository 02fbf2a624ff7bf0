-- The last ends of disks, copy by copy.
use Rattle.std.proofs.Common.{◌≡◌, ◌⊎◌, ⊎_elim, inl, inr, zero, suc, ℕ, ◌+◌, ◌-◌, ◌*◌, ◌/◌, ◌<◌, ◌≤◌, List, [], ◌∷◌, ◌++◌, length, max, get_or, set, replicate, Option, Some, None, refl, sym, ap, subst, ◌∙◌, arith}
use Rattle.std.proofs.lemmas.Bool.{cases_eq, cases_lt}
use Rattle.std.proofs.lemmas.List.{append_assoc, append-nil, get_or-replicate, get_or-set_same, get_or-set_other, get_or_past, length-replicate, length-set}
use Rattle.asm_base.specs.Chunks.{Chunk}
use Rattle.asm_group.specs.Shape.{Shape}
use Rattle.asm_formats.specs.Items.{Home, Homes}
use Rattle.disk_sizes.specs.Sizes.{least_units}
use Rattle.asm_placement.specs.Layout.{units_of}
use Rattle.asm_placement.proofs.Membership.{among_left, among_right, among_split}
use Rattle.group_reports.specs.catalog_tables.Tables.{Catalogued}
use Rattle.group_reports.specs.extent_map.Extents.{Chunked}
use Rattle.disk_modes.specs.Ends.{AreUsedTo, HasEnds, IsChunkEnd, IsCopyEnd, IsEndIn, IsHomeEnd, IsUsedTo, NeedsUnits}

-- ---- some ends more

pub no_more : {P : ℕ → ℕ → Type 0} (ends : List ℕ) → ((d end : ℕ) → P d end → ⊥) → HasEnds P ends ends
no_more ends none = record { places = refl; no_less = λ d. omega arith; covers = λ d end lt is. absurd (none d end is); one = λ d. inl refl }

pub and_more : {P Q : ℕ → ℕ → Type 0} {a b c : List ℕ} → HasEnds P a b → HasEnds Q b c → HasEnds (λ d end. P d end ⊎ Q d end) a c
and_more {P} {Q} {a} {b} {c} one two = record {
  places = two.places ∙ one.places;
  no_less = λ d. omega (arith, one.no_less d, two.no_less d);
  covers = λ d end lt is. ⊎_elim
      (λ before. omega (arith, one.covers d end lt before, two.no_less d))
      (λ now. two.covers d end (omega (arith, lt, one.places)) now)
      is;
  one = λ d. ⊎_elim
      (λ same. ⊎_elim (λ old. inl (same ∙ old)) (λ is. inr (inl (subst (P d) (sym same) is))) (one.one d))
      (λ is. inr (inr is))
      (two.one d);
}

-- the same ends in other words
pub same_ends : {P Q : ℕ → ℕ → Type 0} {a b : List ℕ} → ((d end : ℕ) → P d end → Q d end) → ((d end : ℕ) → Q d end → P d end) → HasEnds P a b → HasEnds Q a b
same_ends {P} {Q} {a} {b} to from ends = record {
  places = ends.places;
  no_less = ends.no_less;
  covers = λ d end lt is. ends.covers d end lt (from d end is);
  one = λ d. ⊎_elim (λ old. inl old) (λ is. inr (to d (get_or b d 0) is)) (ends.one d);
}

-- ---- one copy

pub one_end : (ends : List ℕ) (units : ℕ) (h : Home) → h.disk < length ends → HasEnds (IsHomeEnd units (Some h)) ends (set ends h.disk (max (get_or ends h.disk 0) (h.unit + units)))
one_end ends units h lt = record { places = length-set ends h.disk greatest; no_less = no_less; covers = covers; one = one }
  where
    greatest : ℕ
    greatest = max (get_or ends h.disk 0) (h.unit + units)

    new : List ℕ
    new = set ends h.disk greatest

    here : (d : ℕ) → d ≡ h.disk → get_or new d 0 ≡ greatest
    here d same = ap (λ (k : ℕ). get_or new k 0) same ∙ get_or-set_same ends h.disk greatest 0 lt

    no_less : (d : ℕ) → get_or ends d 0 ≤ get_or new d 0
    no_less d = ⊎_elim
        (λ same. omega (arith, here d same, ap (λ (k : ℕ). get_or ends k 0) same))
        (λ differ. omega (arith, get_or-set_other ends h.disk d greatest 0 differ))
        (cases_eq d h.disk)

    covers : (d end : ℕ) → d < length ends → IsHomeEnd units (Some h) d end → end ≤ get_or new d 0
    covers d end below is = omega (arith, here d (sym is.0), is.1)

    one : (d : ℕ) → (get_or new d 0 ≡ get_or ends d 0) ⊎ IsHomeEnd units (Some h) d (get_or new d 0)
    one d = ⊎_elim
        (λ same. ⊎_elim
        (λ (less : get_or ends h.disk 0 < h.unit + units). inr (sym same, omega (arith, here d same, less)))
        (λ (more : h.unit + units ≤ get_or ends h.disk 0). inl (omega (arith, here d same, more, ap (λ (k : ℕ). get_or ends k 0) same)))
        (cases_lt (get_or ends h.disk 0) (h.unit + units)))
        (λ differ. inl (get_or-set_other ends h.disk d greatest 0 differ))
        (cases_eq d h.disk)

-- ---- the copies of an extent

pub three_ends : {a b c d : List ℕ} (units : ℕ) (x y z : Option Home) (homes : Homes) → x ∷ y ∷ z ∷ [] ≡ homes → HasEnds (IsHomeEnd units x) a b → HasEnds (IsHomeEnd units y) b c → HasEnds (IsHomeEnd units z) c d
    → HasEnds (IsCopyEnd units homes) a d
three_ends {a} {b} {c} {d} units x y z homes is one two three =
    subst (λ (hs : Homes). HasEnds (IsCopyEnd units hs) a d) is (same_ends to (λ k end copy. from k end copy.0 copy.1) (and_more (and_more one two) three))
  where
    to : (k end : ℕ) → (IsHomeEnd units x k end ⊎ IsHomeEnd units y k end) ⊎ IsHomeEnd units z k end → IsCopyEnd units (x ∷ y ∷ z ∷ []) k end
    to k end some = ⊎_elim (λ first. ⊎_elim (λ e. (0, e)) (λ e. (1, e)) first) (λ e. (2, e)) some

    from : (k end copy : ℕ) → IsHomeEnd units (get_or (x ∷ y ∷ z ∷ []) copy None) k end → (IsHomeEnd units x k end ⊎ IsHomeEnd units y k end) ⊎ IsHomeEnd units z k end
    from k end zero e = inl (inl e)
    from k end (suc zero) e = inl (inr e)
    from k end (suc (suc zero)) e = inr e
    from k end (suc (suc (suc n))) e = absurd e

-- ---- the extents of a chunk

-- the first of them
abbrev pub IsEndBefore : ℕ → Chunked → ℕ → ℕ → ℕ → Type 0
IsEndBefore step x i d end = (place : ℕ) × (place < i) × IsCopyEnd (units_of step (x.0.1 * 256 + place)) (get_or x.1 place []) d end

pub none_before : (step : ℕ) (x : Chunked) (ends : List ℕ) → HasEnds (IsEndBefore step x 0) ends ends
none_before step x ends = no_more ends (λ d end is. absurd (omega (arith, is.1)))

pub one_before : {a b c : List ℕ} (step i index : ℕ) (x : Chunked) (homes : Homes) → index ≡ x.0.1 * 256 + i → homes ≡ get_or x.1 i [] → HasEnds (IsEndBefore step x i) a b → HasEnds (IsCopyEnd (units_of step index) homes) b c
    → HasEnds (IsEndBefore step x (i + 1)) a c
one_before {a} {b} {c} step i index x homes number is so_far here = same_ends to from (and_more so_far here)
  where
    to : (d end : ℕ) → IsEndBefore step x i d end ⊎ IsCopyEnd (units_of step index) homes d end → IsEndBefore step x (i + 1) d end
    to d end some = ⊎_elim
        (λ before. (before.0, omega (arith, before.1), before.2))
        (λ now. (i, omega arith, subst (λ (hs : Homes). IsCopyEnd (units_of step (x.0.1 * 256 + i)) hs d end) is (subst (λ (n : ℕ). IsCopyEnd (units_of step n) homes d end) number now)))
        some

    from : (d end : ℕ) → IsEndBefore step x (i + 1) d end → IsEndBefore step x i d end ⊎ IsCopyEnd (units_of step index) homes d end
    from d end some = ⊎_elim
        (λ same. inr (subst (λ (n : ℕ). IsCopyEnd (units_of step n) homes d end) (sym number) (subst (λ (hs : Homes). IsCopyEnd (units_of step (x.0.1 * 256 + i)) hs d end) (sym is)
        (subst (λ (k : ℕ). IsCopyEnd (units_of step (x.0.1 * 256 + k)) (get_or x.1 k []) d end) same some.2))))
        (λ differ. inl (some.0, omega (arith, some.1, differ), some.2))
        (cases_eq some.0 i)

pub all_before : {a b : List ℕ} (step i : ℕ) (x : Chunked) → length x.1 ≤ i → HasEnds (IsEndBefore step x i) a b → HasEnds (IsChunkEnd step x) a b
all_before step i x le = same_ends (λ d end is. (is.0, is.2)) from
  where
    -- behind the last extent no copy has a home
    past : (k d end copy units : ℕ) → length x.1 ≤ k → IsHomeEnd units (get_or (get_or x.1 k []) copy None) d end → ⊥
    past k d end copy units over is = subst (λ (hs : Homes). IsHomeEnd units (get_or hs copy None) d end) (get_or_past x.1 k [] over) is

    from : (d end : ℕ) → IsChunkEnd step x d end → IsEndBefore step x i d end
    from d end is = ⊎_elim
        (λ lt. (is.0, lt, is.1))
        (λ over. absurd (past is.0 d end is.1.0 (units_of step (x.0.1 * 256 + is.0)) (omega (arith, le, over)) is.1.1))
        (cases_lt is.0 i)

-- ---- the chunks

-- the ends in those that were walked, and the rest comes behind them
abbrev pub HasWalked : Catalogued → List Chunked → List ℕ → Type 0
HasWalked c rest ends = (walked : List Chunked) × (walked ++ rest ≡ c.tables.extents) × HasEnds (IsEndIn c.shape.step walked) (replicate 64 0) ends

pub none_walked : (c : Catalogued) (rest : List Chunked) → rest ≡ c.tables.extents → HasWalked c rest (replicate 64 0)
none_walked c rest is = ([], is, no_more (replicate 64 0) (λ d end some. absurd some.1))

pub one_walked : {a b : List ℕ} (c : Catalogued) (iter rest : List Chunked) (at : Chunk) (chunk homes : List Homes) → iter ≡ (at, chunk) ∷ rest → homes ≡ chunk → HasWalked c iter a → HasEnds (IsChunkEnd c.shape.step (at, homes)) a b
    → HasWalked c rest b
one_walked {a} {b} c iter rest at chunk homes steps same (walked, all, so_far) here = (
  walked ++ (x ∷ []),
  append_assoc walked (x ∷ []) rest ∙ ap (λ (l : List Chunked). walked ++ l) (ap (λ (hs : List Homes). (at, hs) ∷ rest) same ∙ sym steps) ∙ all,
  same_ends to from (and_more so_far here),
)
  where
    x : Chunked
    x = (at, homes)

    to : (d end : ℕ) → IsEndIn c.shape.step walked d end ⊎ IsChunkEnd c.shape.step x d end → IsEndIn c.shape.step (walked ++ (x ∷ [])) d end
    to d end some = ⊎_elim
        (λ before. (before.0, among_left walked (x ∷ []) before.0 before.1, before.2))
        (λ now. (x, among_right walked (x ∷ []) x (inl refl), now))
        some

    from : (d end : ℕ) → IsEndIn c.shape.step (walked ++ (x ∷ [])) d end → IsEndIn c.shape.step walked d end ⊎ IsChunkEnd c.shape.step x d end
    from d end some = ⊎_elim
        (λ before. inl (some.0, before, some.2))
        (λ last. ⊎_elim (λ is. inr (subst (λ (y : Chunked). IsChunkEnd c.shape.step y d end) is some.2)) (λ none. absurd none) last)
        (among_split walked (x ∷ []) some.0 some.1)

pub all_walked : {ends : List ℕ} (c : Catalogued) → HasWalked c [] ends → AreUsedTo c ends
all_walked {ends} c (walked, all, has) d lt = record {
  one = ⊎_elim (λ none. inl (none ∙ get_or-replicate 64 d 0 0 lt)) (λ some. inr (subst (λ (l : List Chunked). IsEndIn c.shape.step l d (get_or ends d 0)) is some)) (has.one d);
  last = λ end some. has.covers d end (omega (arith, lt, length-replicate {A = ℕ} 64 0)) (subst (λ (l : List Chunked). IsEndIn c.shape.step l d end) (sym is) some);
}
  where
    is : walked ≡ c.tables.extents
    is = sym (append-nil walked) ∙ all

-- ---- the units that a disk needs

less : (c : Catalogued) (d a b : ℕ) → IsUsedTo c d a → IsUsedTo c d b → a ≤ b
less c d a b one other = ⊎_elim (λ none. omega (arith, none)) (λ some. other.last a some) one.one

-- they are the same, whatever the end that they are counted from
pub needs_same : (c : Catalogued) (d used need other : ℕ) → IsUsedTo c d used → need ≡ max (least_units c.shape) used → NeedsUnits c d other → other ≡ need
needs_same c d used need other to is needs = omega (arith, is, needs.is, less c d used needs.used to needs.to, less c d needs.used used needs.to to)
