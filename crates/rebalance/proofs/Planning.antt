-- The next move may be planned, and what its plan leads to.
use Rattle.std.proofs.Common.{◌≡◌, ◌⊎◌, inl, inr, ⊎_elim, ℕ, zero, suc, ◌+◌, ◌-◌, ◌*◌, ◌/◌, ◌%◌, ◌^◌, ◌<◌, ◌≤◌, Bool, true, false, cond, not, ◌&&◌, ◌||◌, List, [], ◌∷◌, length, get_or, eqb, refl, sym, ap, ◌∙◌, subst, Option, Some, None, arith}
use Rattle.std.specs.Prelude.{IsSomeAnd, IsTrue, nat_le, nat_lt, slice_index_or, slice_set, filter}
use Rattle.std.specs.List.{find, list_all, range_with_len, slice_get}
use Rattle.std.specs.Option.{is_some, is_none, option_map, option_or, unwrap_or}
use Rattle.std.proofs.lemmas.Bool.{and_parts, both_ways, eqb-true, lt-ltb, ltb-true, ne_eqb}
use Rattle.std.proofs.lemmas.Nat.{div-add-mod', mod_below}
use Rattle.std.proofs.lemmas.Option.{same_Some, none-some}
use Rattle.asm_group.specs.Shape.{Shape}
use Rattle.asm_formats.specs.Among.{IsAmong}
use Rattle.asm_formats.specs.Status.{Entry, Status, entry_of, is_entry}
use Rattle.asm_formats.specs.Items.{FileHead, Home, Homes, Item, is_homes, is_item, item_key}
use Rattle.asm_formats.proofs.Among.{all_among}
use Rattle.asm_placement.specs.Choices.{holds_copy, home_on, is_eligible, replacement, replacement_on}
use Rattle.asm_placement.specs.Copies.{Copy, all_copies, entry_at_home, file_copies, has_other_source, has_source, home, is_marked, is_on, units, wants_fill, wants_shift}
use Rattle.asm_placement.specs.Modes.{is_online}
use Rattle.asm_placement.specs.Moves.{items_after, record_after}
use Rattle.asm_placement.specs.Rebalancing.{Move, Next, above_or_none, balancing, directory, done, fill, first_of, lost_extent, move, new_home, next, next_balancing, next_directory, next_fill, next_lost, next_no_space, next_recopy, next_shift, next_tables, lacks_space, recopy, shift, tables, option_when}
use Rattle.asm_placement.specs.Space.{has_room, is_above, is_below, lowest_run, tried_first}
use Rattle.asm_placement.specs.TableDisks.{directory_target, status_target}
use Rattle.asm_placement.specs.Tables.{is_stale}
use Rattle.asm_placement.specs.Work.{IsLess, is_marked_online, is_regular, work}
use Rattle.asm_placement.proofs.Chosen.{choice, entry_found, holds_at, tried_among}
use Rattle.asm_placement.proofs.Counting.{followed, mapped, said_by, when_said}
use Rattle.asm_placement.proofs.Falling.{work_falls}
use Rattle.asm_placement.proofs.Membership.{among_filter, among_flat_map}
use Rattle.asm_placement.proofs.MovedCopies.{from_place, in_chunk}
use Rattle.asm_formats.proofs.RecordLists.{one_list}
use Rattle.allocator.specs.UnitMaps.{UnitMap, is_free}
use Rattle.partnership.specs.Candidates.{is_free_from, lowest}
use Rattle.partnership.specs.UnitsOf.{AreUnits, AreUnitsOf}
use Rattle.partnership.proofs.Runs.{lowest_of_disk}
use Rattle.catalog_laws.specs.extent_map.Extents.{Chunked, chunk_at, has_home, item_of_chunk}
use Rattle.asm_base.specs.Chunks.{chunk_cmp}
use Rattle.catalog_laws.proofs.extent_map.Laws.{chunk_total}
use Rattle.catalog_laws.specs.file_directory.Files.{head_at}
use Rattle.catalog_laws.specs.catalog.ExtentPlans.{MayMove, home_at, is_copy_of}
use Rattle.catalog_laws.specs.catalog_tables.Faults.{IsCatalog}
use Rattle.catalog_laws.specs.catalog_tables.Items.{AreItemsOf, chunk_copies}
use Rattle.catalog_laws.specs.catalog_tables.Placing.{home_taken}
use Rattle.catalog_laws.specs.catalog_tables.Rules.{AreOnRegular, are_on_disks, are_on_two, is_on_regular, homes_at}
use Rattle.catalog_laws.specs.catalog_tables.Tables.{Catalogued, Tables}
use Rattle.catalog_laws.proofs.catalog.EditLaws.{chunk_right}
use Rattle.catalog_laws.proofs.catalog.ExtentCounts.{few_copies}
use Rattle.catalog_laws.proofs.ItemLists.{items_say}
use Rattle.catalog_laws.proofs.catalog.MarkPlans.{some_of}
use Rattle.catalog_laws.proofs.MoveItems.{moves_items}
use Rattle.catalog_laws.proofs.catalog.MovePlans.{all_at}
use Rattle.catalog_laws.proofs.catalog_tables.PlacingLaws.{all_in, units_some}
use Rattle.catalog_laws.proofs.RegularHomes.{moving_keeps}
use Rattle.catalog_laws.proofs.RecopyItems.{clears_items, may_clear}
use Rattle.catalog_laws.proofs.catalog_tables.TableItems.{among_found, chunks_exact, each_of}
use Rattle.catalog_laws.proofs.UnitLaws.{units_are}
use Rattle.partnership.proofs.status_table.Allowed.{entry_fits, parts_of}
use Rattle.rebalance.specs.Falling.{MayBePlanned, NextMayBePlanned, PlannedMovesAreRegular, PlannedWorkFalls, tables_after_move}
use Rattle.rebalance.specs.Searching.{IsStatusOf}
use Rattle.rebalance.proofs.Falling.{records_are}
use Rattle.rebalance.proofs.Searching.{chunk_parts, same_home}

-- ---- a copy of a file, by the tables

-- its extent is there, with these homes, and its file has so many copies
record IsCopyOf (t : Tables) (x : Copy) : Type 0 where
  chunk : List Homes
  found : chunk_at t.extents (x.file, x.index / 256) ≡ Some chunk
  size : length chunk ≡ 256
  homes : x.homes ≡ get_or chunk (x.index % 256) []
  three : length x.homes ≡ 3
  some : has_home x.homes ≡ true
  head : FileHead
  has : head_at t.files x.file ≡ Some head
  below : x.copy < head.copies
  few : head.copies ≤ 3

copy_in : (c : Catalogued) (items : List Item) (x : Copy) → IsCatalog c → AreItemsOf c.tables items → IsAmong (all_copies items) x → IsCopyOf c.tables x
copy_in c items x cat is among =
    let p = among_flat_map (chunk_copies c.tables) c.tables.extents x (subst (λ (xs : List Copy). IsAmong xs x) (items_say c.tables items cat.rules.tables is).copies among) in
    by p.0 p.1 (head_at c.tables.files p.0.0.0) refl p.2
  where
    by : (y : Chunked) → IsAmong c.tables.extents y → (o : Option FileHead) → head_at c.tables.files y.0.0 ≡ o → IsAmong (file_copies y.0.0 (y.0.1 * 256) y.1 o) x → IsCopyOf c.tables x
    by y there None has h = absurd h
    by y there (Some head) has h =
        let p = from_place y.0.0 (y.0.1 * 256) head.copies y.1 x h in
        let parts = chunk_parts y.0.0 y.0.1 y.1 (each_of (λ (z : Chunked). is_item (item_of_chunk z) ≡ true) c.tables.extents y cat.rules.tables.extents.0.1 there) in
        let chunk : x.index / 256 ≡ y.0.1 = in_chunk y.0.1 x.index p.low (omega (arith, p.high, parts.size)) in
        let at : x.index % 256 ≡ x.index - y.0.1 * 256 = omega (arith, div-add-mod' x.index 256, chunk, p.low) in
        let found : chunk_at c.tables.extents (x.file, x.index / 256) ≡ Some y.1 =
        ap (λ (k : ℕ). chunk_at c.tables.extents (x.file, k)) chunk ∙ ap (λ (k : ℕ). chunk_at c.tables.extents (k, y.0.1)) p.file ∙ among_found chunk_cmp chunk_total chunks_exact c.tables.extents y cat.rules.tables.extents.0.0 there in
        let homes : x.homes ≡ get_or y.1 (x.index % 256) [] = p.homes ∙ ap (λ (k : ℕ). get_or y.1 k []) (sym at) in
        let ok : is_homes (get_or y.1 (x.index % 256) []) ≡ true = all_at is_homes y.1 (x.index % 256) [] parts.homes (omega (arith, parts.size, mod_below x.index 256 (omega arith))) in
        let three : length x.homes ≡ 3 = ap (λ (l : Homes). length l) homes ∙ eqb-true (length (get_or y.1 (x.index % 256) [])) 3 (and_parts (eqb (length (get_or y.1 (x.index % 256) [])) 3) _ ok).0 in
        record {
          chunk = y.1;
          found = found;
          size = parts.size;
          homes = homes;
          three = three;
          some = sym (same_home x.homes three) ∙ p.some;
          head = head;
          has = ap (λ (k : ℕ). head_at c.tables.files k) p.file ∙ has;
          below = p.copy;
          few = few_copies c.tables.files y.0.0 refl cat.rules.tables.files (sym has);
        }

-- its homes are those that the tables have at its place
homes_are : (c : Catalogued) (x : Copy) → IsCopyOf c.tables x → homes_at c.tables x.file x.index ≡ x.homes
homes_are c x of = ap (λ (o : Option (List Homes)). get_or (unwrap_or o []) (x.index % 256) []) of.found ∙ sym of.homes

-- ---- another home

-- a home on another disk than that of this one
off : (h : Home) (o : Option Home) → ((g : Home) → o ≡ Some g → g.disk ≡ h.disk → ⊥) → (are_on_two (Some h) o ≡ true) × (are_on_two o (Some h) ≡ true)
off h None other = (refl, refl)
off h (Some g) other = (ap not (ne_eqb h.disk g.disk (λ e. other g refl (sym e))), ap not (ne_eqb g.disk h.disk (λ e. other g refl e)))

moved_apart : (hs : Homes) (copy : ℕ) (h : Home) → length hs ≡ 3 → copy < 3 → holds_copy hs h.disk ≡ false → are_on_disks hs ≡ true → are_on_disks (slice_set hs copy (Some h)) ≡ true
moved_apart (a ∷ b ∷ d ∷ []) copy h three lt new all = by copy lt where
  others : (k : ℕ) → (are_on_two (Some h) (get_or (a ∷ b ∷ d ∷ []) k None) ≡ true) × (are_on_two (get_or (a ∷ b ∷ d ∷ []) k None) (Some h) ≡ true)
  others k = off h (get_or (a ∷ b ∷ d ∷ []) k None) (λ g at same. both_ways (holds_copy (a ∷ b ∷ d ∷ []) h.disk) new (ap (holds_copy (a ∷ b ∷ d ∷ [])) (sym same) ∙ holds_at (a ∷ b ∷ d ∷ []) k g at))

  old : (are_on_two a b ≡ true) × ((are_on_two a d && are_on_two b d) ≡ true)
  old = and_parts (are_on_two a b) (are_on_two a d && are_on_two b d) all

  rest : (are_on_two a d ≡ true) × (are_on_two b d ≡ true)
  rest = and_parts (are_on_two a d) (are_on_two b d) old.1

  by : (k : ℕ) → k < 3 → are_on_disks (slice_set (a ∷ b ∷ d ∷ []) k (Some h)) ≡ true
  by zero less = rw ((others 1).0, (others 2).0, rest.1) refl
  by (suc zero) less = rw ((others 0).1, (others 2).0, rest.0) refl
  by (suc (suc zero)) less = rw ((others 0).1, (others 1).1, old.0) refl
  by (suc (suc (suc k))) less = absurd (omega (arith, less))
moved_apart [] copy h three lt new all = absurd (omega (arith, three))
moved_apart (a ∷ []) copy h three lt new all = absurd (omega (arith, three))
moved_apart (a ∷ b ∷ []) copy h three lt new all = absurd (omega (arith, three))
moved_apart (a ∷ b ∷ d ∷ e ∷ hs) copy h three lt new all = absurd (omega (arith, three))

-- what is found passes
passes : (p : ℕ → Bool) (xs : List ℕ) (u : ℕ) → find p xs ≡ Some u → p u ≡ true
passes p [] u e = absurd (none-some u e)
passes p (x ∷ xs) u e = by (p x) refl (passes p xs u) e where
  by : (b : Bool) → p x ≡ b → (find p xs ≡ Some u → p u ≡ true) → cond b (Some x) (find p xs) ≡ Some u → p u ≡ true
  by true is rest k = ap p (sym (same_Some x u k)) ∙ is
  by false is rest k = rest k

-- a run of free user units of a disk
record IsRun (ms : List UnitMap) (d u n : ℕ) : Type 0 where
  map : UnitMap
  there : slice_get ms d ≡ Some map
  free : list_all (is_free map) (range_with_len u n) ≡ true
  small : u < 2 ^ 32

lowest_is_free : (m : UnitMap) (n u : ℕ) → lowest n m ≡ Some u → is_free_from m n u ≡ true
unfolding lowest
lowest_is_free m n u e = passes (is_free_from m n) (range_with_len m.first (m.units + 1 - (m.first + n))) u e

lowest_is_run : (s : Shape) (items : List Item) (e : Entry) (ms : List UnitMap) (n u : ℕ) → 0 < n → e.units ≤ 16777216 → IsSomeAnd (slice_get ms e.number) (AreUnits s items e) → lowest_run s items n e ≡ Some u → IsRun ms e.number u n
lowest_is_run s items e ms n u some small are is = by (slice_get ms e.number) refl are where
  by : (o : Option UnitMap) → slice_get ms e.number ≡ o → IsSomeAnd o (AreUnits s items e) → IsRun ms e.number u n
  by None at its = absurd its
  by (Some m) at its =
      let free : is_free_from m n u ≡ true = lowest_is_free m n u (lowest_of_disk s items e m n some its ∙ is) in
      let here : is_free m u ≡ true = all_in (is_free m) u n free u (omega arith) (omega (arith, some)) in
      let low = and_parts (nat_le m.first u && nat_lt u m.units) (not (slice_index_or m.used u true)) here in
      let inside = and_parts (nat_le m.first u) (nat_lt u m.units) low.0 in
      record { map = m; there = at; free = free; small = omega (arith, ltb-true u m.units inside.1, its.units, small) }

-- ---- a copy that gets a home in place of its own

module _ (c : Catalogued) (r : Status) (items : List Item) (cat : IsCatalog c) (of : IsStatusOf c r) (is : AreItemsOf c.tables items) where
  maps : AreUnitsOf c.shape items r.entries c.units
  maps = let p = parts_of r of.status in units_are c.shape r.entries c.tables c.units items cat.rules.tables is p.all p.up of.units

  -- its units are free, by the maps of the catalog
  home_is_free : (e : Entry) (h : Home) (n : ℕ) → IsAmong r.entries e → 0 < n → home_on c.shape items n e ≡ Some h → IsTrue (is_some (home_taken c.units h n)) × (h.unit < 2 ^ 32)
  home_is_free e h n among some at =
      let u = mapped (λ (u : ℕ). record { disk = e.number; unit = u }) (lowest_run c.shape items n e) h at in
      let small = entry_fits e (all_among is_entry r.entries e (parts_of r of.status).all among) in
      let run = lowest_is_run c.shape items e c.units n u.0 some small.units (each_of (λ e. IsSomeAnd (slice_get c.units e.number) (AreUnits c.shape items e)) r.entries e maps among) u.1 in
      subst (λ (k : Home). IsTrue (is_some (home_taken c.units k n)) × (k.unit < 2 ^ 32)) u.2 (taken e.number u.0 run, run.small)
    where
      taken : (d u : ℕ) → IsRun c.units d u n → is_some (home_taken c.units (record { disk = d; unit = u }) n) ≡ true
      taken d u run = rw (run.there, run.free) refl

  -- what holds of the home that takes the place of a copy's
  record IsMove (x : Copy) (h : Home) : Type 0 where
    may : MayMove c x.file x.index x.copy h
    unit : h.unit < 2 ^ 32
    regular : is_on_regular r.entries (Some h) ≡ true

  may_move : (test : Entry → Bool) (x : Copy) (h : Home) → IsAmong (all_copies items) x → replacement_on test c.shape r.entries items (units c.shape x) x.copy x.homes ≡ Some h → IsMove x h
  may_move test x h among e =
      let good = λ (e : Entry). is_eligible r.entries x.copy x.homes e && has_room c.shape items (units c.shape x) e && test e in
      let its = copy_in c items x cat is among in
      let three : x.copy < 3 = omega (arith, its.below, its.few) in
      let kept = choice test c.shape r.entries items (units c.shape x) x.copy x.homes h e in
      let new : holds_copy x.homes h.disk ≡ false = ap (holds_copy x.homes) kept.is ∙ kept.new in
      let first = followed (home_on c.shape items (units c.shape x)) (tried_first c.shape items (filter good r.entries)) h e in
      let entry : IsAmong r.entries first.0 = among_filter good r.entries first.0 (tried_among c.shape items (filter good r.entries) first.0 first.1) in
      let free = home_is_free first.0 h (units c.shape x) entry (units_some c.shape.step x.index (units c.shape x) refl) first.2 in
      let at = homes_are c x its in
      let right = chunk_right c.shape c.tables (x.file, x.index / 256) its.chunk cat.rules its.found in
      let apart : are_on_disks x.homes ≡ true = ap are_on_disks its.homes ∙ all_at are_on_disks its.chunk (x.index % 256) [] right.apart (omega (arith, its.size, mod_below x.index 256 (omega arith))) in
      record {
        may = record {
          there = ap has_home at ∙ its.some;
          three = three;
          below = ap (λ (o : Option FileHead). is_copy_of o x.copy) its.has ∙ lt-ltb x.copy its.head.copies its.below;
          apart = ap (λ (y : Homes). are_on_disks (slice_set y x.copy (Some h))) at ∙ moved_apart x.homes x.copy h its.three three new apart;
          free = inr free.0;
        };
        unit = free.1;
        regular =
            ap (λ (d : ℕ). is_regular (entry_of r.entries d)) kept.is ∙ ap is_regular (entry_found 0 r.entries kept.disk (parts_of r of.status).up kept.among)
            ∙ (and_parts (is_online kept.disk.mode) (not kept.disk.quorum) kept.target).1;
      }

  -- what a move is that may be planned: the items after it are those of the tables that its plan leads to
  record IsReady (m : Move) : Type 0 where
    may : MayBePlanned c m
    after : AreItemsOf (tables_after_move m c.tables) (items_after m items)
    regular : AreOnRegular r.entries (tables_after_move m c.tables)

  fill_ready : (x : Copy) (h : Home) → IsMove x h → IsReady (fill x.file x.index x.copy h)
  fill_ready x h its = record { may = its.may; after = moves_items c x.file x.index x.copy h items cat its.may its.unit is; regular = moving_keeps r.entries c.tables x.file x.index x.copy h of.regular its.regular }

  shift_ready : (x : Copy) (h : Home) → IsMove x h → IsReady (shift x.file x.index x.copy h)
  shift_ready x h its = record { may = its.may; after = moves_items c x.file x.index x.copy h items cat its.may its.unit is; regular = moving_keeps r.entries c.tables x.file x.index x.copy h of.regular its.regular }

  recopy_ready : (x : Copy) → IsAmong (all_copies items) x → is_some (home x) ≡ true → IsReady (recopy x.file x.index x.copy)
  recopy_ready x among there =
      let has : is_some (home_at c.tables x.file x.index x.copy) ≡ true = ap (λ (y : Homes). is_some (get_or y x.copy None)) (homes_are c x (copy_in c items x cat is among)) ∙ there in
      let h = some_of (home_at c.tables x.file x.index x.copy) has in
      record { may = may_clear c x.file x.index x.copy h.0 cat h.1; after = clears_items c x.file x.index x.copy items cat has is; regular = of.regular }

  -- ---- stage by stage

  move_is : (a b : Move) → move a ≡ move b → a ≡ b
  move_is a b e = cc

  by_recopy : (m : Move) → next_recopy r.entries items (all_copies items) ≡ Some (move m) → IsReady m
  by_recopy m e =
      let p = said_by _ (all_copies items) (move m) e in
      let x : Copy = p.0 in
      let w = when_said (is_marked items x && is_on is_online r.entries x && has_other_source r.entries items (all_copies items) x) _ (move m) p.2 in
      let a = and_parts (is_marked_online r.entries items x) (has_other_source r.entries items (all_copies items) x) w.0 in
      let b = and_parts (is_marked items x) (is_on is_online r.entries x) a.0 in
      let there = and_parts (is_some (home x)) (is_stale items x.file x.index x.copy) b.0 in
      subst IsReady (move_is (recopy x.file x.index x.copy) m (same_Some _ (move m) w.1)) (recopy_ready x p.1 there.0)

  -- what gives a copy another home
  by_home : (test : Copy → Bool) (to : Copy → Home → Move) (m : Move) → ((x : Copy) (h : Home) → IsMove x h → IsReady (to x h))
      → first_of (λ x. option_when (test x) (option_map (λ h. move (to x h)) (new_home c.shape r.entries items x))) (all_copies items) ≡ Some (move m) → IsReady m
  unfolding replacement
  by_home test to m ready e =
      let p = said_by (λ x. option_when (test x) (option_map (λ h. move (to x h)) (new_home c.shape r.entries items x))) (all_copies items) (move m) e in
      let x : Copy = p.0 in
      let w = when_said (test x) _ (move m) p.2 in
      let h = mapped (λ h. move (to x h)) (new_home c.shape r.entries items x) (move m) w.1 in
      subst IsReady (move_is (to x h.0) m h.2) (ready x h.0 (may_move (λ e. true) x h.0 p.1 h.1))

  by_fill : (m : Move) → next_fill c.shape r.entries items (all_copies items) ≡ Some (move m) → IsReady m
  by_fill m e = by_home (λ x. wants_fill r.entries x && has_source r.entries items (all_copies items) x) (λ x h. fill x.file x.index x.copy h) m fill_ready e

  by_shift : (m : Move) → next_shift c.shape r.entries items (all_copies items) ≡ Some (move m) → IsReady m
  by_shift m e = by_home (λ x. wants_shift r.entries x && has_source r.entries items (all_copies items) x) (λ x h. shift x.file x.index x.copy h) m shift_ready e

  by_directory : (m : Move) → next_directory c.shape r ≡ Some (move m) → IsReady m
  by_directory m e =
      let d = mapped (λ d. move (directory d)) (directory_target c.shape.kind r) (move m) e in
      subst IsReady (move_is (directory d.0) m d.2) (record { may = tt; after = is; regular = of.regular })

  by_tables : (m : Move) → next_tables c.shape r ≡ Some (move m) → IsReady m
  by_tables m e =
      let d = mapped (λ d. move (tables d)) (status_target c.shape.kind r) (move m) e in
      subst IsReady (move_is (tables d.0) m d.2) (record { may = tt; after = is; regular = of.regular })

  -- what ends a rebalance is no move
  by_end : (test : Copy → Bool) (end : Copy → Next) (m : Move) → ((x : Copy) → end x ≡ move m → ⊥) → first_of (λ x. option_when (test x) (Some (end x))) (all_copies items) ≡ Some (move m) → IsReady m
  by_end test end m differ e =
      let p = said_by (λ x. option_when (test x) (Some (end x))) (all_copies items) (move m) e in
      let w = when_said (test p.0) _ (move m) p.2 in
      absurd (differ p.0 (same_Some (end p.0) (move m) w.1))

  by_lost : (m : Move) → next_lost r.entries items (all_copies items) ≡ Some (move m) → IsReady m
  by_lost m e = by_end (λ x. not (has_source r.entries items (all_copies items) x)) (λ x. lost_extent x.file x.index) m (λ x k. cc) e

  by_space : (m : Move) → next_no_space c.shape r.entries items (all_copies items) ≡ Some (move m) → IsReady m
  by_space m e =
      by_end (λ x. (wants_fill r.entries x || wants_shift r.entries x) && is_none (new_home c.shape r.entries items x)) (λ x. lacks_space x.file x.index) m (λ x k. cc) e

  by_balancing : (m : Move) → next_balancing c.shape r.entries items (all_copies items) ≡ Some (move m) → IsReady m
  unfolding balancing
  by_balancing m e =
      let p = said_by _ (all_copies items) (move m) e in
      let x : Copy = p.0 in
      let h = mapped (λ h. move (shift x.file x.index x.copy h)) (balancing c.shape r.entries items x) (move m) p.2 in
      subst IsReady (move_is (shift x.file x.index x.copy h.0) m h.2) (shift_ready x h.0 (by x h.0 p.1 (entry_at_home r.entries (home x)) h.1))
    where
      by : (x : Copy) (h : Home) → IsAmong (all_copies items) x → (o : Option Entry) → above_or_none c.shape r.entries items x o ≡ Some h → IsMove x h
      by x h among None k = absurd (none-some h k)
      by x h among (Some from) k =
          let w = when_said (is_above c.shape items r.entries (units c.shape x) from) _ h k in
          may_move (is_below c.shape items r.entries (units c.shape x)) x h among w.1

  -- ---- all stages

  pick : (m : Move) (o rest : Option Next) → unwrap_or (option_or o rest) done ≡ move m → (o ≡ Some (move m)) ⊎ (unwrap_or rest done ≡ move m)
  pick m None rest e = inr e
  pick m (Some n) rest e = inl (ap (λ (k : Next). Some k) e)

  last : (m : Move) (o : Option Next) → unwrap_or o done ≡ move m → o ≡ Some (move m)
  last m None e = absurd cc
  last m (Some n) e = ap (λ (k : Next). Some k) e

  next_ready : (m : Move) → next c.shape r items ≡ move m → IsReady m
  unfolding next
  next_ready m e =
      let es = r.entries in
      let all = all_copies items in
      ⊎_elim (by_recopy m) (λ e1. ⊎_elim (by_fill m) (λ e2. ⊎_elim (by_shift m) (λ e3. ⊎_elim (by_directory m) (λ e4. ⊎_elim (by_tables m) (λ e5. ⊎_elim (by_lost m) (λ e6. ⊎_elim (by_space m)
      (λ e7. by_balancing m (last m (next_balancing c.shape es items all) e7))
      (pick m (next_no_space c.shape es items all) (next_balancing c.shape es items all) e6)) (pick m (next_lost es items all) _ e5)) (pick m (next_tables c.shape r) _ e4)) (pick m (next_directory c.shape r) _ e3))
      (pick m (next_shift c.shape es items all) _ e2)) (pick m (next_fill c.shape es items all) _ e1)) (pick m (next_recopy es items all) _ e)

-- ---- the laws

pub may_be_planned : NextMayBePlanned
may_be_planned c r m items cat of is e = (next_ready c r items cat of is m e).may

pub planned_regular : PlannedMovesAreRegular
planned_regular c r m items cat of is e = (next_ready c r items cat of is m e).regular

-- tables have one list of items
one_items : (t : Tables) (xs ys : List Item) → AreItemsOf t xs → AreItemsOf t ys → xs ≡ ys
one_items t xs ys a b = one_list xs ys 0 a.in_order b.in_order (λ i h. b.from_table (item_key i) i (a.to_table i h)) (λ i h. a.from_table (item_key i) i (b.to_table i h))

pub planned_falls : PlannedWorkFalls
planned_falls c r m items later cat of is e after =
    let ready = next_ready c r items cat of is m e in
    subst (λ (xs : List Item). IsLess (work c.shape (record_after m r) xs) (work c.shape r items)) (one_items (tables_after_move m c.tables) (items_after m items) later ready.after after)
    (work_falls c.shape r items m (records_are c r items cat of is) e)
