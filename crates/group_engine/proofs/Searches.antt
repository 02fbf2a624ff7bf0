-- What is known of the search for the next move, after a change of one chunk.
use Rattle.std.proofs.Common.{◌≡◌, ◌∙◌, inl, inr, Bool, true, false, ◌&&◌, List, [], ◌∷◌, refl, sym, subst, Option, Some, None}
use Rattle.std.specs.Bool.{OnTrue}
use Rattle.std.specs.BTreeMap.{is_at}
use Rattle.std.specs.Ordering.{is_eq}
use Rattle.std.specs.declared.cmp.Ordering.{Ordering}
use Rattle.std.specs.declared.cmp.Ordering.TheVariants.{Less, Equal, Greater}
use Rattle.asm_formats.specs.Among.{IsAmong}
use Rattle.asm_formats.specs.Items.{Homes, Key}
use Rattle.asm_formats.specs.Status.{Entry, Status}
use Rattle.asm_base.specs.Records as records
use Rattle.rebalance.specs.extent_map.Extents.{Chunked, chunk_at}
use Rattle.asm_base.specs.Chunks.{Chunk, chunk_cmp}
use Rattle.rebalance.proofs.extent_map.Laws.{chunk_total}
use Rattle.rebalance.specs.catalog_tables.Changing.{IsAfter}
use Rattle.rebalance.specs.catalog_tables.Rules.{AreOnRegular, first_wrong, is_regular_chunk}
use Rattle.rebalance.specs.catalog_tables.Tables.{AreTables, Catalogued, Tables}
use Rattle.rebalance.proofs.catalog_tables.AfterLaws.{one_after}
use Rattle.rebalance.proofs.catalog.NumberedEntries.{passes_each, passes_more}
use Rattle.rebalance.proofs.catalog_tables.TableItems.{among_found, chunks_exact, found_is}
use Rattle.rebalance.specs.Cursors.{IsFollowed, IsSameBut, SearchPlaces, passes_at, passes_found}
use Rattle.group_engine.specs.Searches.{IsPlanIn, IsSearchOf, SearchState, WasSearchOf}

-- ---- homes on regular disks

all_pass : (test : Chunked → Bool) (xs : List Chunked) → ((x : Chunked) → IsAmong xs x → test x ≡ true) → first_wrong test xs ≡ None
all_pass test [] each = refl
all_pass test (x ∷ xs) each = passes_more test x xs (each x (inl refl)) (all_pass test xs (λ y h. each y (inr h)))

equal_is : (o : Ordering) → is_eq o ≡ true → o ≡ Equal
equal_is Less e = absurd cc
equal_is Equal e = refl
equal_is Greater e = absurd cc

-- where they were before a change of one chunk, and are in it
pub regular_on : (es : List Entry) (at : Chunk) (t u : Tables) → AreTables u → IsSameBut at t u → AreOnRegular es t → passes_at (is_regular_chunk es) u.extents at ≡ true → AreOnRegular es u
regular_on es at t u tables is regular there = all_pass (is_regular_chunk es) u.extents each where
  each : (x : Chunked) → IsAmong u.extents x → is_regular_chunk es x ≡ true
  each x among = by (is_at (chunk_cmp x.0) at) refl where
    found : chunk_at u.extents x.0 ≡ Some x.1
    found = among_found chunk_cmp chunk_total chunks_exact u.extents x tables.extents.0.0 among

    by : (b : Bool) → is_at (chunk_cmp x.0) at ≡ b → is_regular_chunk es x ≡ true
    by true here =
        let same : x.0 ≡ at = chunks_exact x.0 at (equal_is (chunk_cmp x.0 at) here) in
        subst (λ (o : Option (List Homes)). passes_found (is_regular_chunk es) at o ≡ true) (subst (λ (k : Chunk). chunk_at u.extents k ≡ Some x.1) same found) there
    by false other = passes_each (is_regular_chunk es) t.extents regular x (found_is chunk_cmp chunk_total chunks_exact x.0 t.extents x.1 (sym (is.chunks x.0 other) ∙ found))

-- ---- the search

pub followed_search : (at : Chunk) (c : Catalogued) (r : Status) (s : SearchState) (k : SearchPlaces) (b : Bool) → AreTables c.tables → WasSearchOf at c r s → IsFollowed at s.cursor c r k → b ≡ (s.is_regular && passes_at (is_regular_chunk r.entries) c.tables.extents at)
    → IsSearchOf c r (record { cursor = k; is_regular = b })
followed_search at c r s k b tables was follows is = record {
  cursor = follows was.old was.status was.search.cursor was.shape was.entries was.same;
  regular = subst (λ (x : Bool). OnTrue x (AreOnRegular r.entries c.tables)) (sym is) (by s.is_regular (passes_at (is_regular_chunk r.entries) c.tables.extents at) refl was.search.regular);
}
  where
    by : (old new : Bool) → new ≡ passes_at (is_regular_chunk r.entries) c.tables.extents at → OnTrue old (AreOnRegular was.status.entries was.old.tables) → OnTrue (old && new) (AreOnRegular r.entries c.tables)
    by true true there regular = regular_on r.entries at was.old.tables c.tables tables was.same (subst (λ (es : List Entry). AreOnRegular es was.old.tables) (sym was.entries) regular) (sym there)
    by true false there regular = tt
    by false new there regular = tt

-- a plan's change of one chunk was committed
pub plan_search : (at : Chunk) (old new : Catalogued) (r q : Status) (s : SearchState) (put : List records.DirectoryRecord) (gone : List Key) → IsPlanIn at old put gone → IsAfter old.tables put gone new.tables → IsSearchOf old r s → new.shape ≡ old.shape → q.entries ≡ r.entries
    → WasSearchOf at new q s
plan_search at old new r q s put gone plan after search shape entries = record {
  old = old;
  status = r;
  search = search;
  shape = shape;
  entries = entries;
  same = subst (λ (t : Tables). IsSameBut at old.tables t) (sym (one_after old.tables new.tables plan.tables put gone after plan.plan.after)) plan.same;
}
