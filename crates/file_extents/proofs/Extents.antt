-- Extents that may be put behind those of a file, and files that have all of theirs.
use Rattle.std.proofs.Common.{◌≡◌, ◌⊎◌, inl, inr, ℕ, zero, suc, ◌+◌, ◌*◌, ◌/◌, ◌<◌, ◌≤◌, Bool, true, false, List, [], ◌∷◌, get_or, Option, Some, None, refl, sym, ap, subst, ◌∙◌, arith}
use Rattle.std.specs.Bool.{OnTrue}
use Rattle.std.specs.Prelude.{◌||◌, IsTrue, is_some, nat_lt, not, unwrap_or}
use Rattle.std.specs.List.{list_all, prefix_len}
use Rattle.std.proofs.Math.Nat.{eq-or-lt_of_le}
use Rattle.std.proofs.lemmas.Bool.{and_parts, lt-ltb, true≢false}
use Rattle.asm_formats.specs.Items.{FileHead, Homes, Pending}
use Rattle.asm_formats.specs.Status.{ascends_from}
use Rattle.asm_placement.specs.DiskSets.{numbers}
use Rattle.asm_placement.specs.Naming.{is_pending}
use Rattle.asm_placement.specs.Placed.{placed_extents}
use Rattle.catalog_tables.specs.file_directory.Files.{head_at, is_file_number}
use Rattle.catalog_tables.specs.extent_map.Extents.{Chunked, chunk_at, chunk_or_blank, count_in, has_extent, has_home, extent_at}
use Rattle.catalog_tables.proofs.extent_map.FileEnds.{same_place}
use Rattle.group_pieces.specs.catalog.ExtentPlans.{MayAppend}
use Rattle.catalog_tables.specs.Placing.{after_homes}
use Rattle.group_pieces.specs.catalog.Plans.{AreOwned}
use Rattle.group_pieces.proofs.catalog.NumberedEntries.{passes_where}
use Rattle.catalog_tables.specs.Rules.{are_marks_of, are_on_disks, are_within, are_within_head, first_wrong, has_copies, is_owned}
use Rattle.catalog_tables.specs.Tables.{Catalogued, Tables}
use Rattle.group_pieces.specs.group_engine.Mounts.{IsWhole, MountedGroup}
use Rattle.group_pieces.proofs.group_engine.Records.{record_parts}
use Rattle.file_extents.specs.Appending.{AreMarks, HasAllExtents, MayStand, are_copies, has_owner}
use Rattle.file_extents.specs.declared.appending.Part.{Part}

-- ---- the entries of a status record

pub entries_ascend : (m : MountedGroup) → IsWhole m → IsTrue (ascends_from 0 (numbers m.register.value.entries))
entries_ascend m whole = (record_parts m.register.value whole.status).order

-- ---- how many extents a chunk has

front_is : (xs : List Homes) (n : ℕ) → ((k : ℕ) → k < n → has_home (get_or xs k []) ≡ true) → has_home (get_or xs n []) ≡ false → prefix_len has_home xs ≡ n
front_is [] zero each none = refl
front_is [] (suc n) each none = absurd (true≢false (sym (each 0 (omega arith))))
front_is (x ∷ xs) zero each none = rw none refl
front_is (x ∷ xs) (suc n) each none =
    let rest : prefix_len has_home xs ≡ n = front_is xs n (λ k lt. each (suc k) (omega (arith, lt))) none in
    rw (each 0 (omega arith)) (omega (arith, rest))

blank_count : prefix_len has_home (chunk_or_blank [] (0, 0)) ≡ 0
blank_count = refl

pub so_many : (t : List Chunked) (f c n : ℕ) → n < 256 → ((k : ℕ) → k < n → has_extent t f (c * 256 + k) ≡ true) → has_extent t f (c * 256 + n) ≡ false → count_in (chunk_or_blank t (f, c)) ≡ n
so_many t f c n few each none = go (chunk_at t (f, c)) refl
  where
    at : (k : ℕ) → k < 256 → (o : Option (List Homes)) → chunk_at t (f, c) ≡ o → has_extent t f (c * 256 + k) ≡ has_home (get_or (unwrap_or o []) k [])
    at k lt o is = same_place t f c k lt ∙ ap (λ (w : Option (List Homes)). has_home (get_or (unwrap_or w []) k [])) is

    go : (o : Option (List Homes)) → chunk_at t (f, c) ≡ o → count_in (chunk_or_blank t (f, c)) ≡ n
    go (Some w) is = ap (λ (o : Option (List Homes)). count_in (unwrap_or o (chunk_or_blank [] (0, 0)))) is
        ∙ front_is w n (λ k lt. sym (at k (omega (arith, lt, few)) (Some w) is) ∙ each k lt) (sym (at n few (Some w) is) ∙ none)
    go None is = ap (λ (o : Option (List Homes)). count_in (unwrap_or o (chunk_or_blank [] (0, 0)))) is
        ∙ blank_count ∙ zero_is n (λ lt. sym (at 0 (omega arith) None is) ∙ each 0 lt)
      where
        zero_is : (k : ℕ) → (0 < k → has_home (get_or [] 0 []) ≡ true) → 0 ≡ k
        zero_is zero h = refl
        zero_is (suc k) h = absurd (true≢false (sym (h (omega arith))))

-- the same where a test says whether the next one is there
pub so_many_where : (t : List Chunked) (f c n : ℕ) (next : Bool) → n < 256 → ((k : ℕ) → k < n → has_extent t f (c * 256 + k) ≡ true) → next ≡ has_extent t f (c * 256 + n)
    → OnTrue (not next) (count_in (chunk_or_blank t (f, c)) ≡ n)
so_many_where t f c n true few each is = tt
so_many_where t f c n false few each is = so_many t f c n few each (sym is)

-- ---- rows of extents

all_where : {A : Type 0} (p q : A → Bool) (xs : List A) → ((x : A) → p x ≡ true → q x ≡ true) → list_all p xs ≡ true → list_all q xs ≡ true
all_where p q [] each all = refl
all_where p q (x ∷ xs) each all = let both = and_parts (p x) (list_all p xs) all in rw (each x both.0) (all_where p q xs each both.1)

-- an extent with a copy has a home
copies_home : (copies : ℕ) (homes : Homes) → 0 < copies → are_copies copies homes ≡ true → has_home homes ≡ true
copies_home copies homes some is = rw here refl
  where
    first : (not (nat_lt 0 copies) || is_some (get_or homes 0 None)) ≡ true
    first = (and_parts (not (nat_lt 0 copies) || is_some (get_or homes 0 None)) _ (and_parts (has_copies copies (Some homes)) _ is).0).0

    here : is_some (get_or homes 0 None) ≡ true
    here = ap (λ (b : Bool). not b || is_some (get_or homes 0 None)) (sym (lt-ltb 0 copies some)) ∙ first

within_head : (o : Option FileHead) (pending : Bool) (copies : ℕ) (row : List Homes) → has_owner o pending copies → list_all (are_within copies) row ≡ true → are_within_head o row ≡ true
within_head None pending copies row owner all = refl
within_head (Some head) pending copies row owner all = ap (λ (n : ℕ). list_all (are_within n) row) owner ∙ all

owned_by : (o : Option FileHead) (pending : Bool) (copies : ℕ) → has_owner o pending copies → (is_some o || pending) ≡ true
owned_by None pending copies owner = owner
owned_by (Some head) pending copies owner = refl

-- what may stand in the tables, and has free homes, may be appended
pub appends : (c : Catalogued) (part : Part) (row : List Homes) (marks : List ℕ) → MayStand c.tables part row marks
    → is_some (after_homes c.units (placed_extents c.shape.step part.file part.first row)) ≡ true → MayAppend c part.file (part.first / 256) row marks
appends c part row marks may free = record {
  number = omega (arith, may.number);
  room = omega (arith, may.place, may.room);
  behind = may.behind;
  there = all_where (are_copies part.copies) has_home row (λ x is. copies_home part.copies x may.some is) may.copies;
  owned = owned_by (head_at c.tables.files part.file) (is_pending part.file c.tables.operations.pending) part.copies may.owner;
  copies = within_head (head_at c.tables.files part.file) (is_pending part.file c.tables.operations.pending) part.copies row may.owner
      (all_where (are_copies part.copies) (are_within part.copies) row (λ x is. (and_parts (are_within part.copies x) _ (and_parts (has_copies part.copies (Some x)) _ is).1).0) may.copies);
  apart = all_where (are_copies part.copies) are_on_disks row (λ x is. (and_parts (are_within part.copies x) _ (and_parts (has_copies part.copies (Some x)) _ is).1).1) may.copies;
  free =
      let first : part.first / 256 * 256 + count_in (chunk_or_blank c.tables.extents (part.file, part.first / 256)) ≡ part.first = omega (arith, may.place) in
      subst (λ (i : ℕ). is_some (after_homes c.units (placed_extents c.shape.step part.file i row)) ≡ true) (sym first) free;
  marked = may.marked.marked;
  three = may.marked.three;
  stale = may.marked.stale;
}

-- no extent has no marks
pub no_marks : (marks : List ℕ) → marks ≡ [] → AreMarks [] marks
no_marks marks none = subst (AreMarks []) (sym none) (record { marked = refl; three = refl; stale = refl })

-- one more extent in front, with its marks
pub marks_more : (homes : Homes) (row : List Homes) (m : ℕ) (marks : List ℕ) → m < 8 → are_marks_of (m, homes) ≡ true → AreMarks row marks → AreMarks (homes ∷ row) (m ∷ marks)
marks_more homes row m marks few right rest = record {
  marked = omega (arith, rest.marked);
  three = rw (lt-ltb m 8 few, rest.three) refl;
  stale = rw (right, rest.stale) refl;
}

-- one more extent of a file
pub all_more : (t : Tables) (f copies n : ℕ) → HasAllExtents t f copies n → has_copies copies (extent_at t.extents f n) ≡ true → HasAllExtents t f copies (n + 1)
all_more t f copies n all one i lt = elim (within (omega (arith, lt))) [
  | inl same ↦ ap (λ (k : ℕ). has_copies copies (extent_at t.extents f k)) same ∙ one
  | inr below ↦ all i below
]
  where
    within : i ≤ n → (i ≡ n) ⊎ (i < n)
    within le = eq-or-lt_of_le le

-- ---- the pending operation

file_alone : (b : Bool) → (b || false) ≡ true → b ≡ true
file_alone true is = refl
file_alone false is = is

or_left : (a b : Bool) → a ≡ true → (a || b) ≡ true
or_left true b is = refl
or_left false b is = absurd (true≢false (sym is))

-- where none is pending, each chunk is one of a file
pub owned_with : (t : Tables) (op : Pending) → first_wrong (is_owned t) t.extents ≡ None → t.operations.pending ≡ None
    → AreOwned (record t { operations = record t.operations { pending = Some op } })
owned_with t op owned none = passes_where (is_owned t) (is_owned (record t { operations = record t.operations { pending = Some op } })) t.extents
    (λ x h ok. or_left (is_file_number t.files x.0.0) (is_pending x.0.0 (Some op))
    (file_alone (is_file_number t.files x.0.0) (ap (λ (o : Option Pending). is_file_number t.files x.0.0 || is_pending x.0.0 o) (sym none) ∙ ok)))
    owned
