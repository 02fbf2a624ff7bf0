-- Tables in which a chunk has other extents and other stale marks, or goes with its marks.
use Rattle.std.proofs.Common.{◌≡◌, ◌≤◌, ◌<◌, ◌+◌, ◌/◌, ◌%◌, ℕ, Bool, true, false, cond, get_or, List, [], ◌∷◌, length, Option, Some, None, refl, sym, ap, ◌∙◌, arith, inl, inr}
use Rattle.std.specs.Prelude.{◌||◌}
use Rattle.std.specs.List.{AllByRecursion, list_all, zip}
use Rattle.std.specs.Option.{is_some, option_and_then, option_map}
use Rattle.std.specs.BTreeMap.{is_at}
use Rattle.std.specs.FinMap.{nat_cmp-IsAntisymmetric}
use Rattle.std.specs.Ordering.{nat_cmp}
use Rattle.std.proofs.lemmas.Cmp.{nat_cmp_total}
use Rattle.asm_group.specs.Shape.{Shape}
use Rattle.asm_formats.specs.Items.{FileHead, Homes, Key, chunk_item, marks_item}
use Rattle.asm_formats.specs.Status as status
use Rattle.asm_formats.specs.Values.{value}
use Rattle.asm_base.specs.Records.{DirectoryRecord, is_key}
use Rattle.plan_records.specs.allocator.UnitMaps.{UnitMap}
use Rattle.plan_records.specs.file_directory.Files.{head_at, is_file_number}
use Rattle.plan_records.specs.extent_map.Changing as extents
use Rattle.plan_records.specs.extent_map.Extents.{Chunked, chunk_at, chunk_key, has_home}
use Rattle.asm_base.specs.Chunks.{Chunk, chunk_cmp}
use Rattle.plan_records.specs.extent_map.Extents as extent_map
use Rattle.plan_records.proofs.extent_map.Laws.{chunk_total, same_chunk}
use Rattle.plan_records.proofs.extent_map.Lookups.{both_ways, key_is}
use Rattle.plan_records.specs.staleness_directory.Changing as stale
use Rattle.plan_records.specs.staleness_directory.Marks.{Marked, marks_at}
use Rattle.plan_records.specs.staleness_directory.Marks as stale_map
use Rattle.plan_records.specs.catalog_tables.Changing.{IsAfter, Sets}
use Rattle.plan_records.specs.catalog_tables.Faults.{IsCatalog, key_of_marks}
use Rattle.plan_records.specs.catalog_tables.Placing.{HasUnits}
use Rattle.catalog.specs.Plans.{IsPlan}
use Rattle.asm_placement.specs.Naming.{is_pending}
use Rattle.plan_records.specs.catalog_tables.Rules.{HasExtents, KeepsRules, are_chunk_marks, are_marks_of, are_on_disks, are_within_head, blocks_used, has_chunk, has_copies, has_marks, is_marked_right, is_on_disks, is_owned, keeps_copies}
use Rattle.plan_records.specs.catalog_tables.Tables.{AreTables, Catalogued, Tables, records_of}
use Rattle.plan_records.proofs.catalog_tables.EntryLaws.{edited, either, holds_all, holds_at, right_at}
use Rattle.plan_records.proofs.catalog_tables.NewRecords.{HasRoom}
use Rattle.plan_records.proofs.catalog_tables.SetLaws.{extents_set, stale_set}
use Rattle.catalog.proofs.PutItems.{is_once, plan_is}

-- the tables with these extents and marks
abbrev pub changed : Tables → List Chunked → List Marked → Tables
changed t xs ms = record t { extents = xs; stale = ms }

-- ---- the rules

-- the chunk with these extents keeps the rules, where the marks are these
pub record IsRightChunk (t : Tables) (ms : List Marked) (k : Chunk) (w : List Homes) : Type 0 where
  pub marked : is_some (marks_at ms k) ≡ true
  pub owned : (is_file_number t.files k.0 || is_pending k.0 t.operations.pending) ≡ true
  pub copies : are_within_head (head_at t.files k.0) w ≡ true
  pub apart : list_all are_on_disks w ≡ true
  pub stale : (m : List ℕ) → marks_at ms k ≡ Some m → list_all are_marks_of (zip m w) ≡ true

-- the tables differ in the extents and the marks of one chunk, and that is right
pub record IsEdited (s : Shape) (t : Tables) (k : Chunk) (xs : List Chunked) (ms : List Marked) : Type 0 where
  pub extents : extent_map.IsExtentTable xs
  pub stale : stale_map.IsMarkTable ms
  pub homes : (q : Chunk) → is_at (chunk_cmp q) k ≡ false → chunk_at xs q ≡ chunk_at t.extents q
  pub marks : (q : Chunk) → is_at (chunk_cmp q) k ≡ false → marks_at ms q ≡ marks_at t.stale q
  pub right : (w : List Homes) → chunk_at xs k ≡ Some w → IsRightChunk t ms k w
  pub chunked : (m : List ℕ) → marks_at ms k ≡ Some m → is_some (chunk_at xs k) ≡ true
  pub due : (f : ℕ) (head : FileHead) → head_at t.files f ≡ Some head → HasExtents t s (f, head) → HasExtents (changed t xs ms) s (f, head)
  pub room : blocks_used (changed t xs ms) + 2 ≤ s.dir_blocks

-- a chunk that is there is right
pub chunk_right : (s : Shape) (t : Tables) (k : Chunk) (w : List Homes) → KeepsRules s t → chunk_at t.extents k ≡ Some w → IsRightChunk t t.stale k w
chunk_right s t k w r there = record {
  marked = right_at chunk_cmp same_chunk chunk_total (has_marks t) t.extents k w r.marked there;
  owned = right_at chunk_cmp same_chunk chunk_total (is_owned t) t.extents k w r.owned there;
  copies = right_at chunk_cmp same_chunk chunk_total (keeps_copies t) t.extents k w r.redundancy there;
  apart = right_at chunk_cmp same_chunk chunk_total is_on_disks t.extents k w r.apart there;
  stale = λ m has.
      ap (λ (o : Option (List Homes)). are_chunk_marks o m) (sym there) ∙ right_at chunk_cmp same_chunk chunk_total (is_marked_right t) t.stale k m r.stale has;
}

edited_tables : (s : Shape) (t : Tables) (k : Chunk) (xs : List Chunked) (ms : List Marked) → AreTables t → IsEdited s t k xs ms → AreTables (changed t xs ms)
edited_tables s t k xs ms a e = record { files = a.files; extents = e.extents; nodes = a.nodes; templates = a.templates; stale = e.stale; operations = a.operations; disks = a.disks }

marked_right : (t : Tables) (k : Chunk) (xs : List Chunked) (ms : List Marked) (m : List ℕ) → ((w : List Homes) → chunk_at xs k ≡ Some w → IsRightChunk t ms k w) → marks_at ms k ≡ Some m → are_chunk_marks (chunk_at xs k) m ≡ true
marked_right t k xs ms m right has = by (chunk_at xs k) refl where
  by : (o : Option (List Homes)) → chunk_at xs k ≡ o → are_chunk_marks o m ≡ true
  by None e = refl
  by (Some w) e = (right w e).stale m has

all_due : (s : Shape) (t : Tables) (k : Chunk) (xs : List Chunked) (ms : List Marked) → AreTables t → AllByRecursion (HasExtents t s) t.files → IsEdited s t k xs ms → AllByRecursion (HasExtents (changed t xs ms) s) t.files
all_due s t k xs ms a all e =
    holds_all nat_cmp nat_cmp-IsAntisymmetric nat_cmp_total (HasExtents (changed t xs ms) s) t.files a.files.0
    (λ f head there. e.due f head there (holds_at nat_cmp nat_cmp-IsAntisymmetric nat_cmp_total (HasExtents t s) t.files f head all there))

pub edited_rules : (s : Shape) (t : Tables) (k : Chunk) (xs : List Chunked) (ms : List Marked) → KeepsRules s t → IsEdited s t k xs ms → KeepsRules s (changed t xs ms)
edited_rules s t k xs ms r e = record {
  tables = edited_tables s t k xs ms r.tables e;
  marked = edited chunk_cmp same_chunk chunk_total (has_marks t) (has_marks (changed t xs ms)) t.extents xs k r.marked e.extents.0.0 e.homes (λ w there. (e.right w there).marked) (λ q w miss ok. ap is_some (e.marks q miss) ∙ ok);
  chunks = edited chunk_cmp same_chunk chunk_total (has_chunk t) (has_chunk (changed t xs ms)) t.stale ms k r.chunks e.stale.0 e.marks e.chunked (λ q m miss ok. ap is_some (e.homes q miss) ∙ ok);
  owned = edited chunk_cmp same_chunk chunk_total (is_owned t) (is_owned (changed t xs ms)) t.extents xs k r.owned e.extents.0.0 e.homes (λ w there. (e.right w there).owned) (λ q w miss ok. ok);
  redundancy = edited chunk_cmp same_chunk chunk_total (keeps_copies t) (keeps_copies (changed t xs ms)) t.extents xs k r.redundancy e.extents.0.0 e.homes (λ w there. (e.right w there).copies) (λ q w miss ok. ok);
  apart = edited chunk_cmp same_chunk chunk_total is_on_disks is_on_disks t.extents xs k r.apart e.extents.0.0 e.homes (λ w there. (e.right w there).apart) (λ q w miss ok. ok);
  stale = edited chunk_cmp same_chunk chunk_total (is_marked_right t) (is_marked_right (changed t xs ms)) t.stale ms k r.stale e.stale.0 e.marks (λ m has. marked_right t k xs ms m e.right has)
      (λ q m miss ok. ap (λ (o : Option (List Homes)). are_chunk_marks o m) (e.homes q miss) ∙ ok);
  nodes = r.nodes;
  names = r.names;
  extents = all_due s t k xs ms r.tables r.extents e;
  room = e.room;
}

-- ---- what files have by their sizes

-- the extent at a place of a chunk that may be there
abbrev pub extent_in : Option (List Homes) → ℕ → Option Homes
extent_in chunk p = option_and_then (λ xs. cond (has_home (get_or xs p [])) (Some (get_or xs p [])) None) chunk

-- where the extents of the chunk keep the copies that they have, files have what they had
pub due_by : (s : Shape) (t : Tables) (k : Chunk) (xs : List Chunked) (ms : List Marked) → ((q : Chunk) → is_at (chunk_cmp q) k ≡ false → chunk_at xs q ≡ chunk_at t.extents q)
    → ((copies p : ℕ) → p < 256 → has_copies copies (extent_in (chunk_at t.extents k) p) ≡ true → has_copies copies (extent_in (chunk_at xs k) p) ≡ true)
    → (f : ℕ) (head : FileHead) → HasExtents t s (f, head) → HasExtents (changed t xs ms) s (f, head)
due_by s t k xs ms others keeps f head all i due = elim (either (is_at (chunk_cmp (f, i / 256)) k)) [
  | inl hit ↦
      let same : (f, i / 256) ≡ k = key_is chunk_cmp same_chunk chunk_total (f, i / 256) k hit in
      ap (λ (q : Chunk). has_copies head.copies (extent_in (chunk_at xs q) (i % 256))) same
      ∙ keeps head.copies (i % 256) (omega arith) (ap (λ (q : Chunk). has_copies head.copies (extent_in (chunk_at t.extents q) (i % 256))) (sym same) ∙ all i due)
  | inr miss ↦ ap (λ (o : Option (List Homes)). has_copies head.copies (extent_in o (i % 256))) (others (f, i / 256) miss) ∙ all i due
]

-- ---- the records

-- what stands at each key where one key has this value, or none
by_key : {X : Type 0} (old new : Chunk → Option X) (k : Chunk) (v : Option X) → new k ≡ v → ((q : Chunk) → is_at (chunk_cmp q) k ≡ false → new q ≡ old q) → (q : Chunk) → new q ≡ cond (is_at (chunk_cmp k) q) v (old q)
by_key {X} old new k v here others q = elim (either (is_at (chunk_cmp k) q)) [
  | inl hit ↦ rw hit (ap new (sym (key_is chunk_cmp same_chunk chunk_total k q hit)) ∙ here)
  | inr miss ↦ rw miss (others q (both_ways chunk_cmp same_chunk chunk_total q k ∙ miss))
]

pub homes_set : (t : Tables) (f c : ℕ) (xs : List Chunked) (v : Option (List Homes)) → chunk_at xs (f, c) ≡ v → ((q : Chunk) → is_at (chunk_cmp q) (f, c) ≡ false → chunk_at xs q ≡ chunk_at t.extents q)
    → Sets t (record t { extents = xs }) (chunk_key f c) (option_map value (option_map (chunk_item f c) v))
homes_set t f c xs v here others =
    extents_set t xs f c (option_map value (option_map (chunk_item f c) v)) (by_key (extents.chunk_value_at t.extents) (extents.chunk_value_at xs) (f, c) (option_map value (option_map (chunk_item f c) v))
    (ap (λ (o : Option (List Homes)). option_map value (option_map (chunk_item f c) o)) here)
    (λ q miss. ap (λ (o : Option (List Homes)). option_map value (option_map (chunk_item q.0 q.1) o)) (others q miss)))

pub marks_set : (t : Tables) (f c : ℕ) (ms : List Marked) (v : Option (List ℕ)) → marks_at ms (f, c) ≡ v → ((q : Chunk) → is_at (chunk_cmp q) (f, c) ≡ false → marks_at ms q ≡ marks_at t.stale q)
    → Sets t (record t { stale = ms }) (key_of_marks (f, c)) (option_map value (option_map (marks_item f c) v))
marks_set t f c ms v here others =
    stale_set t ms (key_of_marks (f, c)) (option_map value (option_map (marks_item f c) v)) refl (by_key (stale.marks_value_at t.stale) (stale.marks_value_at ms) (f, c) (option_map value (option_map (marks_item f c) v))
    (ap (λ (o : Option (List ℕ)). option_map value (option_map (marks_item f c) o)) here)
    (λ q miss. ap (λ (o : Option (List ℕ)). option_map value (option_map (marks_item q.0 q.1) o)) (others q miss)))

-- two records that are put, and two that go
pub after_two : (t mid u : Tables) (e g : DirectoryRecord) → AreTables u → Sets t mid e.0 (Some e.1) → Sets mid u g.0 (Some g.1) → IsAfter t (e ∷ g ∷ []) [] u
after_two t mid u e g are first second = record { tables = are; records = λ k. second k ∙ ap (λ (r : Option (List ℕ)). cond (is_key g.0 k) (Some g.1) r) (first k) }

both_gone : (a b : Bool) (r : Option (List ℕ)) → cond b None (cond a None r) ≡ cond (a || (b || false)) None r
both_gone true true r = refl
both_gone true false r = refl
both_gone false true r = refl
both_gone false false r = refl

pub after_two_gone : (t mid u : Tables) (j l : Key) → AreTables u → Sets t mid j None → Sets mid u l None → IsAfter t [] (j ∷ l ∷ []) u
after_two_gone t mid u j l are first second = record { tables = are; records = λ k. second k ∙ ap (λ (r : Option (List ℕ)). cond (is_key l k) None r) (first k) ∙ both_gone (is_key j k) (is_key l k) (records_of t k) }

-- ---- plans

pub edited_plan : (c : Catalogued) (k : Chunk) (xs : List Chunked) (ms : List Marked) (put : List DirectoryRecord) (gone : List Key) → IsCatalog c → IsEdited c.shape c.tables k xs ms
    → (AreTables (changed c.tables xs ms) → IsAfter c.tables put gone (changed c.tables xs ms))
    → ((entries : List status.Entry) → HasUnits c.shape entries c.tables c.units → (us : List UnitMap) × HasUnits c.shape entries (changed c.tables xs ms) us)
    → length put + length gone ≤ 64 → is_once put gone ≡ true → HasRoom c put → IsPlan c put gone (changed c.tables xs ms)
edited_plan c k xs ms put gone is e after units few once room =
    plan_is c put gone (changed c.tables xs ms) (after (edited_tables c.shape c.tables k xs ms is.rules.tables e)) (edited_rules c.shape c.tables k xs ms is.rules e) units few once room
