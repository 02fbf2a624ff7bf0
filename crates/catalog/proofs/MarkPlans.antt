-- Plans of stale marks.
use Rattle.std.proofs.Common.{◌≡◌, ◌<◌, ◌+◌, ◌-◌, ◌/◌, ◌%◌, ◌^◌, ℕ, zero, suc, Bool, true, false, eqb, ltb, List, [], ◌∷◌, length, get_or, replicate, Option, Some, None, refl, sym, ap, subst, ◌∙◌, arith}
use Rattle.std.specs.Prelude.{◌&&◌, ◌||◌, not, bit_and, slice_set}
use Rattle.std.specs.Int.{bit_at}
use Rattle.std.specs.List.{list_all, zip}
use Rattle.std.specs.Option.{is_some, unwrap_or}
use Rattle.std.proofs.lemmas.Bool.{and_parts, eq-eqb, eqb-false, eqb-true, lt-ltb, ltb-true, ne_eqb}
use Rattle.std.proofs.lemmas.List.{length-set}
use Rattle.std.proofs.lemmas.Nat.{and_le_l, or_lt}
use Rattle.std.proofs.lemmas.Nat.Bits.{bit_at-lt, bit_at_and, bit_at_or}
use Rattle.asm_formats.specs.Items.{Homes, Key, is_item, marks_item}
use Rattle.asm_formats.specs.Sets.{has_bit}
use Rattle.asm_base.specs.Records.{DirectoryRecord}
use Rattle.asm_base.proofs.Exact.{some_is}
use Rattle.plan_records.specs.extent_map.Extents.{chunk_at}
use Rattle.asm_base.specs.Chunks.{Chunk, chunk_cmp}
use Rattle.plan_records.proofs.extent_map.Laws.{chunk_total, same_chunk}
use Rattle.plan_records.proofs.extent_map.Lookups.{put_here, put_other, there_as_long}
use Rattle.plan_records.proofs.extent_map.Numbering.{found_self, size_of}
use Rattle.plan_records.specs.staleness_directory.Marks.{Marked, item_of_marks, marks_at, record_of_marks, with_marks}
use Rattle.plan_records.proofs.staleness_directory.Laws as stale_laws
use Rattle.catalog.specs.ExtentPlans.{MayMark, marks_changed, marks_or_none, with_marks_changed}
use Rattle.plan_records.specs.catalog_tables.Changing.{IsAfter}
use Rattle.plan_records.specs.catalog_tables.Faults.{IsCatalog}
use Rattle.catalog.specs.Plans.{IsPlan}
use Rattle.plan_records.specs.catalog_tables.Rules.{are_marks_of, is_mark_of, marks_of, homes_at}
use Rattle.plan_records.specs.catalog_tables.Tables.{AreTables, Catalogued, Tables}
use Rattle.catalog.proofs.EditLaws.{IsEdited, IsRightChunk, changed, chunk_right, edited_plan, marks_set}
use Rattle.plan_records.proofs.catalog_tables.NewRecords.{marks_there, old_room}
use Rattle.plan_records.proofs.catalog_tables.EntryLaws.{both, holds_at, three_true}
use Rattle.catalog.proofs.PlanLaws.{after_put}

-- ---- marks of a chunk

pub marks_small : (m : List ℕ) (p : ℕ) → list_all (λ (b : ℕ). ltb b 8) m ≡ true → get_or m p 0 < 8
marks_small [] p all = omega arith
marks_small (b ∷ m) zero all = ltb-true b 8 (and_parts (ltb b 8) (list_all (λ (b : ℕ). ltb b 8) m) all).0
marks_small (b ∷ m) (suc p) all = marks_small m p (and_parts (ltb b 8) (list_all (λ (b : ℕ). ltb b 8) m) all).1

set_small : (m : List ℕ) (p v : ℕ) → v < 8 → list_all (λ (b : ℕ). ltb b 8) m ≡ true → list_all (λ (b : ℕ). ltb b 8) (slice_set m p v) ≡ true
set_small [] p v few all = refl
set_small (b ∷ m) zero v few all = rw (lt-ltb v 8 few) (and_parts (ltb b 8) (list_all (λ (b : ℕ). ltb b 8) m) all).1
set_small (b ∷ m) (suc p) v few all =
    let a = and_parts (ltb b 8) (list_all (λ (b : ℕ). ltb b 8) m) all in
    rw a.0 (set_small m p v few a.1)

pub record AreMarks (m : List ℕ) : Type 0 where
  pub size : length m ≡ 256
  pub small : list_all (λ (b : ℕ). ltb b 8) m ≡ true

pub are_marks : (f c : ℕ) (m : List ℕ) → is_item (marks_item f c m) ≡ true → AreMarks m
unfolding is_item
are_marks f c m ok =
    let a = and_parts (ltb f (2 ^ 32)) _ ok in
    let b = and_parts (ltb (c + 1) (2 ^ 32)) _ a.1 in
    let d = and_parts (eqb (length m) 256) (list_all (λ (b : ℕ). ltb b 8) m) b.1 in
    record { size = eqb-true (length m) 256 d.0; small = d.1 }

pub set_allowed : (f c : ℕ) (m : List ℕ) (p v : ℕ) → v < 8 → is_item (marks_item f c m) ≡ true → is_item (marks_item f c (slice_set m p v)) ≡ true
unfolding is_item
set_allowed f c m p v few ok =
    let a = and_parts (ltb f (2 ^ 32)) _ ok in
    let b = and_parts (ltb (c + 1) (2 ^ 32)) _ a.1 in
    let d = and_parts (eqb (length m) 256) (list_all (λ (b : ℕ). ltb b 8) m) b.1 in
    rw (a.0, b.0, eq-eqb (length (slice_set m p v)) 256 (length-set m p v ∙ eqb-true (length m) 256 d.0)) (set_small m p v few d.1)

-- the marks of an extent are those of copies that are there
pub zip_at : (m : List ℕ) (w : List Homes) (p : ℕ) → list_all are_marks_of (zip m w) ≡ true → p < length m → p < length w → are_marks_of (get_or m p 0, get_or w p []) ≡ true
zip_at [] w p all inside within = absurd (omega (arith, inside))
zip_at (b ∷ m) [] p all inside within = absurd (omega (arith, within))
zip_at (b ∷ m) (h ∷ w) zero all inside within = (and_parts (are_marks_of (b, h)) (list_all are_marks_of (zip m w)) all).0
zip_at (b ∷ m) (h ∷ w) (suc p) all inside within = zip_at m w p (and_parts (are_marks_of (b, h)) (list_all are_marks_of (zip m w)) all).1 (omega (arith, inside)) (omega (arith, within))

pub zip_set : (m : List ℕ) (w : List Homes) (p v : ℕ) → are_marks_of (v, get_or w p []) ≡ true → list_all are_marks_of (zip m w) ≡ true → list_all are_marks_of (zip (slice_set m p v) w) ≡ true
zip_set [] w p v right all = refl
zip_set (b ∷ m) [] zero v right all = refl
zip_set (b ∷ m) [] (suc p) v right all = refl
zip_set (b ∷ m) (h ∷ w) zero v right all = both (are_marks_of (v, h)) (list_all are_marks_of (zip m w)) right (and_parts (are_marks_of (b, h)) (list_all are_marks_of (zip m w)) all).1
zip_set (b ∷ m) (h ∷ w) (suc p) v right all =
    let a = and_parts (are_marks_of (b, h)) (list_all are_marks_of (zip m w)) all in
    both (are_marks_of (b, h)) (list_all are_marks_of (zip (slice_set m p v) w)) a.0 (zip_set m w p v right a.1)

-- ---- tables with other marks of a chunk

-- a chunk that is there, its extents and its marks
pub record Stands (t : Tables) (k : Chunk) (w : List Homes) (m : List ℕ) : Type 0 where
  pub homes : chunk_at t.extents k ≡ Some w
  pub marks : marks_at t.stale k ≡ Some m
  pub long : length w ≡ 256
  pub item : is_item (item_of_marks (k, m)) ≡ true
  pub are : AreMarks m

pub some_of : {A : Type 0} (o : Option A) → is_some o ≡ true → (x : A) × (o ≡ Some x)
some_of None e = absurd cc
some_of (Some x) e = (x, refl)

pub stands : (c : Catalogued) (k : Chunk) → IsCatalog c → is_some (chunk_at c.tables.extents k) ≡ true → (w : List Homes) × (m : List ℕ) × Stands c.tables k w m
stands c k is there =
    let w = some_of (chunk_at c.tables.extents k) there in
    let m = some_of (marks_at c.tables.stale k) (chunk_right c.shape c.tables k w.0 is.rules w.1).marked in
    let item = holds_at chunk_cmp same_chunk chunk_total (λ (x : Marked). is_item (item_of_marks x) ≡ true) c.tables.stale k m.0 is.rules.tables.stale.1 m.1 in
    (w.0, m.0, record { homes = w.1; marks = m.1; long = size_of c.tables.extents k w.0 is.rules.tables.extents.0.1 w.1; item = item; are = are_marks k.0 k.1 m.0 item })

pub marks_edited : (c : Catalogued) (k : Chunk) (w : List Homes) (m : List ℕ) (p v : ℕ) → IsCatalog c → Stands c.tables k w m → v < 8 → are_marks_of (v, get_or w p []) ≡ true
    → IsEdited c.shape c.tables k c.tables.extents (with_marks c.tables.stale k (slice_set m p v))
marks_edited c k w m p v is s few right = record {
  extents = is.rules.tables.extents;
  stale = stale_laws.put_keeps_table c.tables.stale k (slice_set m p v) (set_allowed k.0 k.1 m p v few s.item) is.rules.tables.stale;
  homes = λ q miss. refl;
  marks = λ q miss. put_other chunk_cmp same_chunk k (slice_set m p v) q miss c.tables.stale;
  right = chunk_is;
  chunked = λ n has. ap is_some s.homes;
  due = λ f head there all. all;
  room = omega (arith, as_long, is.rules.room);
} where
  here : marks_at (with_marks c.tables.stale k (slice_set m p v)) k ≡ Some (slice_set m p v)
  here = put_here chunk_cmp same_chunk k (slice_set m p v) (found_self k.0 k.1) c.tables.stale

  as_long : length (with_marks c.tables.stale k (slice_set m p v)) ≡ length c.tables.stale
  as_long = there_as_long chunk_cmp same_chunk chunk_total k (slice_set m p v) m c.tables.stale is.rules.tables.stale.0 s.marks

  chunk_is : (x : List Homes) → chunk_at c.tables.extents k ≡ Some x → IsRightChunk c.tables (with_marks c.tables.stale k (slice_set m p v)) k x
  chunk_is x there =
      let same : w ≡ x = some_is w x (sym s.homes ∙ there) in
      let old = chunk_right c.shape c.tables k x is.rules there in
      record {
        marked = ap is_some here;
        owned = old.owned;
        copies = old.copies;
        apart = old.apart;
        stale = λ n has.
            let its : slice_set m p v ≡ n = some_is (slice_set m p v) n (sym here ∙ has) in
            subst (λ (y : List ℕ). list_all are_marks_of (zip y x) ≡ true) its (zip_set m x p v (subst (λ (y : List Homes). are_marks_of (v, get_or y p []) ≡ true) same right) (old.stale m s.marks));
      }

-- ---- bits

bit_changed : (old set clear k : ℕ) → has_bit old k ≡ false → has_bit set k ≡ false → has_bit (marks_changed old set clear) k ≡ false
unfolding has_bit
bit_changed old set clear k o s =
    let one : bit_at old k ≡ 0 = omega (arith, bit_at-lt old k, eqb-false (bit_at old k) 1 o) in
    let two : bit_at set k ≡ 0 = omega (arith, bit_at-lt set k, eqb-false (bit_at set k) 1 s) in
    ne_eqb (bit_at (marks_changed old set clear) k) 1 (λ e. omega (arith, e, bit_at_or (bit_and old (255 - clear)) set k, bit_at_and old (255 - clear) k, one, two))

marks_few : (old set clear : ℕ) → old < 8 → set < 8 → marks_changed old set clear < 8
marks_few old set clear few more = or_lt 3 (bit_and old (255 - clear)) set (omega (arith, and_le_l old (255 - clear), few)) more

mark_changed : (old set clear : ℕ) (homes : Homes) (k : ℕ) → is_mark_of old homes k ≡ true → is_mark_of set homes k ≡ true → is_mark_of (marks_changed old set clear) homes k ≡ true
mark_changed old set clear homes k o s = by (is_some (get_or homes k None)) refl where
  or_true : (b : Bool) → (b || true) ≡ true
  or_true true = refl
  or_true false = refl

  no_mark : (b : Bool) → (not b || false) ≡ true → b ≡ false
  no_mark true e = absurd cc
  no_mark false e = refl

  by : (b : Bool) → is_some (get_or homes k None) ≡ b → is_mark_of (marks_changed old set clear) homes k ≡ true
  by true there = ap (λ (b : Bool). not (has_bit (marks_changed old set clear) k) || b) there ∙ or_true (not (has_bit (marks_changed old set clear) k))
  by false none =
      let a = no_mark (has_bit old k) (ap (λ (b : Bool). not (has_bit old k) || b) (sym none) ∙ o) in
      let b = no_mark (has_bit set k) (ap (λ (b : Bool). not (has_bit set k) || b) (sym none) ∙ s) in
      ap (λ (d : Bool). not (has_bit (marks_changed old set clear) k) || d) none ∙ ap (λ (d : Bool). not d || false) (bit_changed old set clear k a b)

marks_right : (old set clear : ℕ) (homes : Homes) → are_marks_of (old, homes) ≡ true → are_marks_of (set, homes) ≡ true → are_marks_of (marks_changed old set clear, homes) ≡ true
marks_right old set clear homes o s =
    let a = and_parts (is_mark_of old homes 0) (is_mark_of old homes 1 && is_mark_of old homes 2) o in
    let b = and_parts (is_mark_of old homes 1) (is_mark_of old homes 2) a.1 in
    let d = and_parts (is_mark_of set homes 0) (is_mark_of set homes 1 && is_mark_of set homes 2) s in
    let e = and_parts (is_mark_of set homes 1) (is_mark_of set homes 2) d.1 in
    let new = marks_changed old set clear in
    three_true (is_mark_of new homes 0) (is_mark_of new homes 1) (is_mark_of new homes 2) (mark_changed old set clear homes 0 a.0 d.0) (mark_changed old set clear homes 1 b.0 e.0) (mark_changed old set clear homes 2 b.1 e.1)

-- ---- the plan

module _ (c : Catalogued) (is : IsCatalog c) (f i set clear : ℕ) (may : MayMark c.tables f i set) where
  abbrev k : Chunk
  k = (f, i / 256)

  abbrev new : ℕ
  new = marks_changed (marks_of c.tables f i) set clear

  module _ (w : List Homes) (m : List ℕ) (s : Stands c.tables (f, i / 256) w m) where
    abbrev ms : List Marked
    ms = with_marks c.tables.stale k (slice_set m (i % 256) new)

    abbrev entry : DirectoryRecord
    entry = record_of_marks (k, slice_set m (i % 256) new)

    old : marks_of c.tables f i ≡ get_or m (i % 256) 0
    old = ap (λ (o : Option (List ℕ)). get_or (unwrap_or o []) (i % 256) 0) s.marks

    homes : homes_at c.tables f i ≡ get_or w (i % 256) []
    homes = ap (λ (o : Option (List Homes)). get_or (unwrap_or o []) (i % 256) []) s.homes

    few : new < 8
    few = marks_few (marks_of c.tables f i) set clear (omega (arith, old, marks_small m (i % 256) s.are.small)) may.few

    right : are_marks_of (new, get_or w (i % 256) []) ≡ true
    right = marks_right (marks_of c.tables f i) set clear (get_or w (i % 256) [])
        (ap (λ (n : ℕ). are_marks_of (n, get_or w (i % 256) [])) old ∙ zip_at m w (i % 256) ((chunk_right c.shape c.tables k w is.rules s.homes).stale m s.marks) (omega (arith, s.are.size)) (omega (arith, s.long)))
        (ap (λ (h : Homes). are_marks_of (set, h)) (sym homes) ∙ may.copies)

    edit : IsEdited c.shape c.tables k c.tables.extents ms
    edit = marks_edited c k w m (i % 256) new is s few right

    after : AreTables (changed c.tables c.tables.extents ms) → IsAfter c.tables (entry ∷ []) [] (changed c.tables c.tables.extents ms)
    after are = after_put c.tables (changed c.tables c.tables.extents ms) entry are
        (marks_set c.tables f (i / 256) ms (Some (slice_set m (i % 256) new)) (put_here chunk_cmp same_chunk k (slice_set m (i % 256) new) (found_self f (i / 256)) c.tables.stale) edit.marks)

    plan_at : (put : List DirectoryRecord) (gone : List Key) → put ≡ entry ∷ [] → gone ≡ [] → IsPlan c put gone (changed c.tables c.tables.extents ms)
    plan_at put gone p g = rw (p, g) (edited_plan c k c.tables.extents ms (entry ∷ []) [] is edit after (λ es has. (c.units, has)) (omega arith) refl (old_room c entry is (marks_there c.tables k m s.marks)))

  pub marks_planned : (put : List DirectoryRecord) (gone : List Key) → put ≡ record_of_marks ((f, i / 256), slice_set (marks_or_none c.tables.stale (f, i / 256)) (i % 256) new) ∷ [] → gone ≡ []
      → IsPlan c put gone (with_marks_changed c.tables f i set clear)
  marks_planned put gone p g =
      let s = stands c k is may.chunk in
      let its : marks_or_none c.tables.stale k ≡ s.1 = ap (λ (o : Option (List ℕ)). unwrap_or o (replicate 256 0)) s.2.marks in
      subst (λ (m : List ℕ). put ≡ record_of_marks (k, slice_set m (i % 256) new) ∷ [] → IsPlan c put gone (changed c.tables c.tables.extents (with_marks c.tables.stale k (slice_set m (i % 256) new)))) (sym its)
      (λ q. plan_at s.0 s.1 s.2 put gone q g) p
