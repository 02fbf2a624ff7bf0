-- The homes of a group's tables: on different disks, and behind the reserved units.
use Rattle.std.proofs.Common.{◌≡◌, ⊎_elim, ℕ, ◌+◌, ◌*◌, ◌/◌, ◌%◌, ◌<◌, ◌≤◌, true, cond, List, [], ◌∷◌, length, get_or, refl, sym, ap, subst, ◌∙◌, Option, Some, None, arith}
use Rattle.std.specs.Prelude.{nat_le, slice_set}
use Rattle.std.specs.List.{list_all, slice_get}
use Rattle.std.specs.Option.{option_and_then, unwrap_or}
use Rattle.std.proofs.lemmas.Bool.{and_parts, cases_Bool, cases_eq, cases_lt, cond_both, false≢true, leb-true}
use Rattle.std.proofs.lemmas.List.{get_or_past}
use Rattle.std.proofs.lemmas.List.Folds.{list_all_at}
use Rattle.std.proofs.lemmas.Option.{same_Some}
use Rattle.asm_group.specs.Shape.{Shape}
use Rattle.asm_formats.specs.Items.{Home, Homes, Item, chunk_item, chunk_len, disk_item, file_item, marks_item, node_item, pending_item, rebalance_item, settings_item, templates_item}
use Rattle.asm_formats.specs.Regions.{reserved_units}
use Rattle.asm_formats.specs.Status.{Entry}
use Rattle.asm_formats.specs.Among.{IsAmong}
use Rattle.asm_placement.specs.Layout.{units_of}
use Rattle.asm_placement.specs.Placed.{Placed, placed, placed_copies, placed_extents}
use Rattle.asm_placement.specs.Tables.{home_of}
use Rattle.asm_placement.proofs.Membership.{among_split}
use Rattle.asm_placement.proofs.Starts.{units_some}
use Rattle.asm_images.proofs.UserBytes.{home_is_placed}
use Rattle.record_laws.specs.allocator.UnitMaps.{UnitMap, unused, with_run}
use Rattle.asm_base.proofs.Exact.{bind_some}
use Rattle.record_laws.specs.extent_map.Extents.{absent_homes, chunk_at, extent_at, has_home}
use Rattle.asm_base.specs.Chunks.{chunk_cmp}
use Rattle.record_laws.proofs.extent_map.Laws.{chunk_total, same_chunk}
use Rattle.record_laws.specs.catalog_tables.Items.{AreItemsOf}
use Rattle.record_laws.specs.catalog_tables.Placing.{HasUnits, after_homes, disk_units, home_taken, is_run_free, unused_maps}
use Rattle.record_laws.specs.catalog_tables.Rules.{are_on_disks, first_wrong, is_on_disks}
use Rattle.record_laws.specs.catalog_tables.Tables.{AreTables, Tables}
use Rattle.record_laws.proofs.catalog_tables.EntryLaws.{right_at}
use Rattle.record_laws.proofs.catalog_tables.HomeUnits.{chunks_are_homes, set_here, set_other, takes, unused_at}
use Rattle.record_laws.proofs.catalog_laws.ItemLists.{items_say}
use Rattle.record_laws.proofs.catalog_tables.PlacingLaws.{run_is}

-- ---- on different disks

chunk_apart : (w : List Homes) (k : ℕ) → list_all are_on_disks w ≡ true → are_on_disks (get_or w k []) ≡ true
chunk_apart w k all = ⊎_elim
    (λ lt. ⊎_elim (λ (yes : are_on_disks (get_or w k []) ≡ true). yes) (λ no. absurd (false≢true (sym (list_all_at are_on_disks w k [] lt no) ∙ all))) (cases_Bool (are_on_disks (get_or w k []))))
    (λ le. ap are_on_disks (get_or_past w k [] le))
    (cases_lt k (length w))

pub homes_apart : (t : Tables) (f i : ℕ) → first_wrong is_on_disks t.extents ≡ None → are_on_disks (unwrap_or (extent_at t.extents f i) absent_homes) ≡ true
homes_apart t f i right = go (chunk_at t.extents (f, i / chunk_len)) refl
  where
    here : (h : Homes) → are_on_disks h ≡ true → are_on_disks (unwrap_or (cond (has_home h) (Some h) None) absent_homes) ≡ true
    here h ok = cond_both (has_home h) (Some h) None (λ (o : Option Homes). are_on_disks (unwrap_or o absent_homes) ≡ true) (λ yes. ok) (λ no. refl)

    go : (o : Option (List Homes)) → chunk_at t.extents (f, i / chunk_len) ≡ o
        → are_on_disks (unwrap_or (option_and_then (λ chunk. cond (has_home (get_or chunk (i % chunk_len) [])) (Some (get_or chunk (i % chunk_len) [])) None) o) absent_homes) ≡ true
    go None is = refl
    go (Some w) is = here (get_or w (i % chunk_len) []) (chunk_apart w (i % chunk_len) (right_at chunk_cmp same_chunk chunk_total is_on_disks t.extents (f, i / chunk_len) w right is))

-- ---- behind the reserved units

-- placed homes have units
len_copies : (f i len : ℕ) (hs : Homes) (p : Placed) → IsAmong (placed_copies f i len hs) p → p.len ≡ len
len_copies f i len [] p h = absurd h
len_copies f i len (None ∷ hs) p h = len_copies f i len hs p h
len_copies f i len (Some x ∷ hs) p h = ⊎_elim (λ (same : p ≡ record { file = f; index = i; home = x; len = len }). ap (λ (q : Placed). q.len) same) (λ later. len_copies f i len hs p later) h

len_extents : (step f i : ℕ) (all : List Homes) (p : Placed) → IsAmong (placed_extents step f i all) p → 1 ≤ p.len
len_extents step f i [] p h = absurd h
len_extents step f i (hs ∷ all) p h = ⊎_elim
    (λ here. omega (arith, len_copies f i (units_of step i) hs p here, units_some step i))
    (λ later. len_extents step f (i + 1) all p (subst (λ (k : ℕ). IsAmong (placed_extents step f k all) p) (omega arith) later))
    (among_split (placed_copies f i (units_of step i) hs) _ p h)

len_placed : (step : ℕ) (items : List Item) (p : Placed) → IsAmong (placed step items) p → 1 ≤ p.len
unfolding placed
len_placed step [] p h = absurd h
len_placed step (chunk_item g d homes ∷ items) p h = ⊎_elim (λ here. len_extents step g (d * chunk_len) homes p here) (λ later. len_placed step items p later) (among_split (placed_extents step g (d * chunk_len) homes) (placed step items) p h)
len_placed step (file_item g head ∷ items) p h = len_placed step items p h
len_placed step (disk_item d info ∷ items) p h = len_placed step items p h
len_placed step (rebalance_item power ∷ items) p h = len_placed step items p h
len_placed step (pending_item op ∷ items) p h = len_placed step items p h
len_placed step (templates_item ts ∷ items) p h = len_placed step items p h
len_placed step (node_item n node ∷ items) p h = len_placed step items p h
len_placed step (settings_item s ∷ items) p h = len_placed step items p h
len_placed step (marks_item g d marks ∷ items) p h = len_placed step items p h

-- a unit that is free lies behind the reserved ones
free_behind : (m : UnitMap) (at n : ℕ) → 1 ≤ n → is_run_free m at n ≡ true → m.first ≤ at
free_behind m at n some free = leb-true m.first at (and_parts (nat_le m.first at) _ (and_parts _ _ (run_is m at n free at (omega arith) (omega (arith, some)))).0).0

-- homes that are taken one after the other lie behind the first user unit of their disk
taken_behind : (ps : List Placed) (ms next : List UnitMap) (d first : ℕ) (m : UnitMap) (p : Placed) → m.first ≡ first → slice_get ms d ≡ Some m → after_homes ms ps ≡ Some next
    → IsAmong ps p → p.home.disk ≡ d → 1 ≤ p.len → first ≤ p.home.unit
unfolding after_homes
taken_behind [] ms next d first m p is there e among on some = absurd among
taken_behind (q ∷ ps) ms next d first m p is there e among on some =
    let b = bind_some (λ (mid : List UnitMap). after_homes mid ps) (home_taken ms q.home q.len) next e in
    let t = takes ms b.0 q.home q.len b.1 in
    ⊎_elim
    (λ (same : p ≡ q).
    let at : q.home.disk ≡ d = ap (λ (x : Placed). x.home.disk) (sym same) ∙ on in
    let old : t.map_before ≡ m = same_Some t.map_before m (sym t.there ∙ ap (slice_get ms) at ∙ there) in
    let long : 1 ≤ q.len = subst (λ (x : Placed). 1 ≤ x.len) same some in
    let low = free_behind t.map_before q.home.unit q.len long t.free in
    omega (arith, low, ap (λ (x : UnitMap). x.first) old, is, ap (λ (x : Placed). x.home.unit) same))
    (λ later. ⊎_elim
    (λ (at : d ≡ q.home.disk).
    let old : t.map_before ≡ m = same_Some t.map_before m (sym t.there ∙ ap (slice_get ms) (sym at) ∙ there) in
    let new = with_run t.map_before q.home.unit q.len true in
    let now : slice_get b.0 d ≡ Some new = ap (λ (xs : List UnitMap). slice_get xs d) t.put ∙ ap (λ (k : ℕ). slice_get (slice_set ms q.home.disk new) k) at ∙ set_here ms q.home.disk t.map_before new t.there in
    taken_behind ps b.0 next d first new p (ap (λ (x : UnitMap). x.first) old ∙ is) now b.2 later on some)
    (λ apart.
    let new = with_run t.map_before q.home.unit q.len true in
    let now : slice_get b.0 d ≡ Some m = ap (λ (xs : List UnitMap). slice_get xs d) t.put ∙ set_other ms d q.home.disk m new apart there in
    taken_behind ps b.0 next d first m p is now b.2 later on some)
    (cases_eq d q.home.disk)) among

-- a home that the records name lies behind the reserved units of its disk
pub homes_behind : (s : Shape) (entries : List Entry) (t : Tables) (ms : List UnitMap) (items : List Item) (f i copy : ℕ) (h : Home) → AreTables t → AreItemsOf t items → HasUnits s entries t ms
    → home_of items f i copy ≡ Some h → h.disk < 64 → reserved_units s ≤ h.unit
homes_behind s entries t ms items f i copy h tables of has home small =
    let p = home_is_placed s.step items f i copy h home in
    let after : after_homes (unused_maps s entries) (placed s.step items) ≡ Some ms =
    ap (after_homes (unused_maps s entries)) ((items_say t items tables of).placed s.step) ∙ sym (chunks_are_homes s.step t.extents (unused_maps s entries)) ∙ has in
    let on : p.0.home.disk ≡ h.disk = ap (λ (x : Home). x.disk) p.2 in
    let le = taken_behind (placed s.step items) (unused_maps s entries) ms h.disk (reserved_units s) (unused (reserved_units s) (disk_units entries h.disk)) p.0 refl
    (unused_at s entries h.disk small) after p.1 on (len_placed s.step items p.0 p.1) in
    omega (arith, le, ap (λ (x : Home). x.unit) p.2)
