-- Why a rebalance ends before all is done: from its next move, and on to the group that is left.
use Rattle.std.proofs.Common.{◌≡◌, ◌∙◌, ◌⊎◌, inl, inr, ⊎_elim, ℕ, ◌+◌, ◌-◌, Bool, true, false, not, ◌&&◌, ◌||◌, List, [], ◌∷◌, filter, refl, sym, ap, subst, Option, Some, None, Result, Ok, Err, eqb, ◌==◌}
use Rattle.std.specs.Prelude.{OnOk, IsTrue}
use Rattle.std.specs.List.{find, list_any, range_with_len}
use Rattle.std.specs.Option.{is_none, is_some, option_and_then, option_map, option_or, unwrap_or}
use Rattle.std.proofs.lemmas.Bool.{and_from, and_parts, both_ways, cases_Bool, eq-eqb, not-true, or_parts}
use Rattle.std.proofs.lemmas.Option.{none-some, same_Some}
use Rattle.asm_base.specs.Records as records
use Rattle.asm_base.specs.declared.kinds.ExtentId.{ExtentId}
use Rattle.refusal_lines.specs.declared.refusal.Refusal.{Refusal}
use Rattle.asm_group.specs.Shape.{Shape}
use Rattle.asm_formats.specs.Among.{IsAmong}
use Rattle.asm_formats.specs.Items.{Home, Homes, Item, Key}
use Rattle.asm_formats.specs.Regions.{reserved_units}
use Rattle.asm_formats.specs.Sets.{has_bit}
use Rattle.asm_formats.specs.Status.{Entry, Status}
use Rattle.asm_placement.specs.Choices.{home_on, is_eligible, replacement, replacement_on}
use Rattle.asm_placement.specs.Copies.{Copy, all_copies, can_be_read, entry_at_home, has_other_source, has_source, home, is_marked, is_on, same_extent, siblings, units, wants_fill, wants_shift}
use Rattle.asm_placement.specs.Modes.{is_online, serves}
use Rattle.asm_placement.specs.Placed.{Placed, placed}
use Rattle.asm_placement.specs.Rebalancing.{Next, above_or_none, balancing, directory, done, fill, lost_extent, move, new_home, next, next_balancing, next_directory, next_fill, next_lost, next_no_space, next_recopy, next_shift, next_tables, lacks_space, recopy, shift, tables, Move}
use Rattle.asm_placement.specs.Space.{has_room, is_free_run, lowest_run, tried_first}
use Rattle.asm_placement.specs.TableDisks.{directory_target, status_target}
use Rattle.asm_placement.specs.Tables.{is_stale}
use Rattle.asm_placement.proofs.Apart.{some_first}
use Rattle.asm_placement.proofs.Chosen.{tried_among}
use Rattle.asm_placement.proofs.Counting.{mapped, said_by, when_said}
use Rattle.asm_placement.proofs.Membership.{among_filtered, filter_out}
use Rattle.resync.specs.catalog_tables.Items.{AreItemsOf, ItemsSayTables, SayTables, TablesHaveItems}
use Rattle.resync.specs.catalog_tables.Changing.{IsAfter}
use Rattle.resync.specs.catalog_tables.Tables.{AreTables, Tables}
use Rattle.resync.proofs.catalog_tables.AfterLaws.{one_after}
use Rattle.resync.specs.group_engine.Commits.{KeepsRecord}
use Rattle.resync.specs.group_engine.Mounts.{MountedGroup}
use Rattle.resync.specs.group_engine.Searches.{IsNextMove}
use Rattle.resync.specs.rebalance.Moves.{next_meant}
use Rattle.resync.specs.rebalance.declared.moves.Next.TheVariants as code
use Rattle.relocation.specs.declared.asking.Asked.{Asked}
use Rattle.relocation.specs.declared.asking.Asked.TheVariants as asked
use Rattle.relocation.specs.declared.asking.Slice.{Slice}
use Rattle.relocation.specs.declared.asking.Slice.TheVariants as slice
use Rattle.relocation.specs.Shortfalls.{EndCause, EndsActive, HasNoDiskFor, HasNoSource, IsCopyOfExtent, IsNoEnd, IsSliceShort, LacksPlace, LacksSource, OnEnd, without_rebalance}

-- ---- what is not said in a list

none_passes : {A : Type 0} (test : A → Bool) (xs : List A) (y : A) → list_any test xs ≡ false → IsAmong xs y → test y ≡ false
none_passes test [] y none among = absurd among
none_passes test (x ∷ xs) y none among =
    let p = or_parts (test x) (list_any test xs) none in
    ⊎_elim (λ same. ap test same ∙ p.0) (λ more. none_passes test xs y p.1 more) among

-- a disk that may take a copy has no room for it, where none is tried
not_there : {A : Type 0} (o : Option A) → is_none o ≡ true → o ≡ None
not_there None e = refl
not_there (Some a) e = absurd cc

there : {A : Type 0} (o : Option A) → is_some o ≡ true → (a : A) × (o ≡ Some a)
there None e = absurd cc
there (Some a) e = (a, refl)

all_full : (s : Shape) (es : List Entry) (items : List Item) (n replaced : ℕ) (homes : Homes) → replacement s es items n replaced homes ≡ None
    → (e : Entry) → IsAmong es e → is_eligible es replaced homes e ≡ true → has_room s items n e ≡ false
unfolding replacement
all_full s es items n replaced homes none e among eligible = ⊎_elim
    (λ roomy.
    let good = λ (f : Entry). is_eligible es replaced homes f && has_room s items n f && true in
    let passes : good e ≡ true = and_from (is_eligible es replaced homes e && has_room s items n e) true (and_from (is_eligible es replaced homes e) (has_room s items n e) eligible roomy) refl in
    let first = some_first s items (filter good es) e (among_filtered good es e among passes) in
    let passed = filter_out good es first.0 (tried_among s items (filter good es) first.0 first.1) in
    let a = and_parts (is_eligible es replaced homes first.0 && has_room s items n first.0) true passed in
    let b = and_parts (is_eligible es replaced homes first.0) (has_room s items n first.0) a.0 in
    let run = there (lowest_run s items n first.0) b.1 in
    let at : ℕ → Home = λ u. record { disk = first.0.number; unit = u } in
    let found : home_on s items n first.0 ≡ Some (at run.0) = ap (option_map at) run.1 in
    let tried : option_and_then (home_on s items n) (tried_first s items (filter good es)) ≡ Some (at run.0) = ap (option_and_then (home_on s items n)) first.1 ∙ found in
    absurd (none-some (at run.0) (sym none ∙ tried)))
    (λ full. full)
    (cases_Bool (has_room s items n e))

-- ---- the next move is an end

-- it is no move, and something is left to do
abbrev is_end : Next → Bool
is_end (move m) = false
is_end done = false
is_end (lacks_space f i) = true
is_end (lost_extent f i) = true

abbrev file_of : Next → ℕ
file_of (move m) = 0
file_of done = 0
file_of (lacks_space f i) = f
file_of (lost_extent f i) = f

abbrev index_of : Next → ℕ
index_of (move m) = 0
index_of done = 0
index_of (lacks_space f i) = i
index_of (lost_extent f i) = i

differ : (f i g j : ℕ) → lacks_space f i ≡ lost_extent g j → ⊥
differ f i g j e = cc

module _ (s : Shape) (r : Status) (items : List Item) where
  abbrev es : List Entry
  es = r.entries

  abbrev all : List Copy
  all = all_copies items

  module _ (n : Next) (ends : is_end n ≡ true) where
    never : (m : Move) → move m ≡ n → ⊥
    never m e = both_ways (is_end n) (sym (ap is_end e)) ends

    by_recopy : next_recopy es items all ≡ Some n → ⊥
    by_recopy e =
        let p = said_by _ all n e in
        let x : Copy = p.0 in
        let w = when_said (is_marked items x && is_on is_online es x && has_other_source es items all x) _ n p.2 in
        never (recopy x.file x.index x.copy) (same_Some _ n w.1)

    by_fill : next_fill s es items all ≡ Some n → ⊥
    by_fill e =
        let p = said_by _ all n e in
        let x : Copy = p.0 in
        let w = when_said (wants_fill es x && has_source es items all x) _ n p.2 in
        let h = mapped (λ h. move (fill x.file x.index x.copy h)) (new_home s es items x) n w.1 in
        never (fill x.file x.index x.copy h.0) h.2

    by_shift : next_shift s es items all ≡ Some n → ⊥
    by_shift e =
        let p = said_by _ all n e in
        let x : Copy = p.0 in
        let w = when_said (wants_shift es x && has_source es items all x) _ n p.2 in
        let h = mapped (λ h. move (shift x.file x.index x.copy h)) (new_home s es items x) n w.1 in
        never (shift x.file x.index x.copy h.0) h.2

    by_directory : next_directory s r ≡ Some n → ⊥
    by_directory e = let d = mapped (λ d. move (directory d)) (directory_target s.kind r) n e in never (directory d.0) d.2

    by_tables : next_tables s r ≡ Some n → ⊥
    by_tables e = let d = mapped (λ d. move (tables d)) (status_target s.kind r) n e in never (tables d.0) d.2

    by_balancing : next_balancing s es items all ≡ Some n → ⊥
    by_balancing e =
        let p = said_by _ all n e in
        let x : Copy = p.0 in
        let h = mapped (λ h. move (shift x.file x.index x.copy h)) (balancing s es items x) n p.2 in
        never (shift x.file x.index x.copy h.0) h.2

    pick : (o rest : Option Next) → unwrap_or (option_or o rest) done ≡ n → (o ≡ Some n) ⊎ (unwrap_or rest done ≡ n)
    pick None rest e = inr e
    pick (Some k) rest e = inl (ap (λ (l : Next). Some l) e)

    last : (o : Option Next) → unwrap_or o done ≡ n → o ≡ Some n
    last None e = absurd (both_ways (is_end n) (sym (ap is_end e)) ends)
    last (Some k) e = ap (λ (l : Next). Some l) e

    -- it is one of the two ends
    ends_so : next s r items ≡ n → (next_lost es items all ≡ Some n) ⊎ (next_no_space s es items all ≡ Some n)
    unfolding next
    ends_so e =
        ⊎_elim (λ k. absurd (by_recopy k)) (λ e1. ⊎_elim (λ k. absurd (by_fill k)) (λ e2. ⊎_elim (λ k. absurd (by_shift k)) (λ e3. ⊎_elim (λ k. absurd (by_directory k))
        (λ e4. ⊎_elim (λ k. absurd (by_tables k)) (λ e5. ⊎_elim (λ k. inl k) (λ e6. ⊎_elim (λ k. inr k)
        (λ e7. absurd (by_balancing (last (next_balancing s es items all) e7)))
        (pick (next_no_space s es items all) (next_balancing s es items all) e6)) (pick (next_lost es items all) _ e5)) (pick (next_tables s r) _ e4)) (pick (next_directory s r) _ e3))
        (pick (next_shift s es items all) _ e2)) (pick (next_fill s es items all) _ e1)) (pick (next_recopy es items all) _ e)

  module _ (x : ExtentId) where
    no_source : next_lost es items all ≡ Some (lost_extent x.file x.index) → LacksSource es items x
    no_source e =
        let n = lost_extent x.file x.index in
        let p = said_by _ all n e in
        let c : Copy = p.0 in
        let w = when_said (not (has_source es items all c)) _ n p.2 in
        let is = same_Some (lost_extent c.file c.index) n w.1 in
        let file : c.file ≡ x.file = ap file_of is in
        let index : c.index ≡ x.index = ap index_of is in
        record {
          copy = c;
          is_copy = record { among = p.1; file = file; index = index };
          unread = λ y of. none_passes (can_be_read es items) (siblings all c) y (not-true (has_source es items all c) w.0)
              (among_filtered (same_extent c) all y of.among
              (and_from (c.file == y.file) (c.index == y.index) (eq-eqb c.file y.file (file ∙ sym of.file)) (eq-eqb c.index y.index (index ∙ sym of.index))));
        }

    no_place : next_no_space s es items all ≡ Some (lacks_space x.file x.index) → LacksPlace s es items x
    no_place e =
        let n = lacks_space x.file x.index in
        let p = said_by _ all n e in
        let c : Copy = p.0 in
        let w = when_said ((wants_fill es c || wants_shift es c) && is_none (new_home s es items c)) _ n p.2 in
        let a = and_parts (wants_fill es c || wants_shift es c) (is_none (new_home s es items c)) w.0 in
        let is = same_Some (lacks_space c.file c.index) n w.1 in
        record {
          copy = c;
          is_copy = record { among = p.1; file = ap file_of is; index = ap index_of is };
          wants = a.0;
          full = all_full s es items (units s c) c.copy c.homes (not_there (new_home s es items c) a.1);
        }

    not_space : (f i : ℕ) → next_no_space s es items all ≡ Some (lost_extent f i) → ⊥
    not_space f i e =
        let p = said_by _ all (lost_extent f i) e in
        let c : Copy = p.0 in
        let w = when_said ((wants_fill es c || wants_shift es c) && is_none (new_home s es items c)) _ (lost_extent f i) p.2 in
        differ c.file c.index f i (same_Some (lacks_space c.file c.index) (lost_extent f i) w.1)

    not_lost : (f i : ℕ) → next_lost es items all ≡ Some (lacks_space f i) → ⊥
    not_lost f i e =
        let p = said_by _ all (lacks_space f i) e in
        let c : Copy = p.0 in
        let w = when_said (not (has_source es items all c)) _ (lacks_space f i) p.2 in
        differ f i c.file c.index (sym (same_Some (lost_extent c.file c.index) (lacks_space f i) w.1))

    lost_so : next s r items ≡ lost_extent x.file x.index → LacksSource es items x
    lost_so e = ⊎_elim no_source (λ k. absurd (not_space x.file x.index k)) (ends_so (lost_extent x.file x.index) refl e)

    space_so : next s r items ≡ lacks_space x.file x.index → LacksPlace s es items x
    space_so e = ⊎_elim (λ k. absurd (not_lost x.file x.index k)) no_place (ends_so (lacks_space x.file x.index) refl e)

pub lost_cause : (m : MountedGroup) (x : ExtentId) → IsNextMove m.catalog m.register.value (code.Lost x) → HasNoSource m x
lost_cause m x is items are = lost_so m.catalog.shape m.register.value items x (sym (is.is_next items are))

pub space_cause : (m : MountedGroup) (x : ExtentId) → IsNextMove m.catalog m.register.value (code.NoSpace x) → HasNoDiskFor m x
space_cause m x is items are = space_so m.catalog.shape m.register.value items x (sym (is.is_next items are))

-- what is no end has any cause
pub no_end : (claim : Slice → Type 0) (a : Asked) → IsNoEnd a → OnEnd a claim
no_end claim (asked.Copy flight) none = tt
no_end claim (asked.Directory to) none = tt
no_end claim (asked.Status to) none = tt
no_end claim (asked.End end) none = absurd none
no_end claim asked.Unknown none = tt

-- ---- the rebalance is active no more

pub active_ended : (r : Result (Unit {0}) Refusal) (old new : MountedGroup) (put : List records.DirectoryRecord) (gone : List Key) → new.catalog.shape ≡ old.catalog.shape
    → OnOk r (IsAfter old.catalog.tables put gone new.catalog.tables) → IsAfter old.catalog.tables put gone (without_rebalance old.catalog.tables)
    → KeepsRecord old.register.value new.register.value → OnOk r (EndsActive old new)
active_ended (Ok unit) old new put gone shape applied after keeps = record {
  shape = shape;
  tables = one_after old.catalog.tables new.catalog.tables (without_rebalance old.catalog.tables) put gone applied after;
  entries = keeps.entries;
}
active_ended (Err e) old new put gone shape applied after keeps = tt

module _ (t : Tables) (its items : List Item) (a : SayTables t its) (b : SayTables (without_rebalance t) items) where
  copies_same : all_copies items ≡ all_copies its
  copies_same = b.copies ∙ sym a.copies

  read_same : (es : List Entry) (y : Copy) → can_be_read es items y ≡ can_be_read es its y
  read_same entries y = ap (λ (x : Bool). is_on serves entries y && not x) (b.stale y.file y.index y.copy ∙ sym (a.stale y.file y.index y.copy))

  room_same : (s : Shape) (n : ℕ) (e : Entry) → has_room s items n e ≡ has_room s its n e
  unfolding lowest_run
  room_same s n e =
      ap (λ (ps : List Placed). is_some (find (is_free_run ps e.number n) (range_with_len (reserved_units s) (e.units + 1 - (reserved_units s + n))))) (b.placed s.step ∙ sym (a.placed s.step))

  copy_on : (x : ExtentId) (c : Copy) → IsCopyOfExtent its x c → IsCopyOfExtent items x c
  copy_on x c of = record { among = subst (λ (cs : List Copy). IsAmong cs c) (sym copies_same) of.among; file = of.file; index = of.index }

  copy_back : (x : ExtentId) (c : Copy) → IsCopyOfExtent items x c → IsCopyOfExtent its x c
  copy_back x c of = record { among = subst (λ (cs : List Copy). IsAmong cs c) copies_same of.among; file = of.file; index = of.index }

  source_on : (es : List Entry) (x : ExtentId) → LacksSource es its x → LacksSource es items x
  source_on entries x lacks = record {
    copy = lacks.copy;
    is_copy = copy_on x lacks.copy lacks.is_copy;
    unread = λ y of. read_same entries y ∙ lacks.unread y (copy_back x y of);
  }

  place_on : (s : Shape) (es : List Entry) (x : ExtentId) → LacksPlace s es its x → LacksPlace s es items x
  place_on s entries x lacks = record {
    copy = lacks.copy;
    is_copy = copy_on x lacks.copy lacks.is_copy;
    wants = lacks.wants;
    full = λ e among eligible. room_same s (units s lacks.copy) e ∙ lacks.full e among eligible;
  }

module _ (have : TablesHaveItems) (say : ItemsSayTables) (old new : MountedGroup) (are : AreTables old.catalog.tables) (later : AreTables new.catalog.tables) (ends : EndsActive old new) where
  before : (items : List Item) × AreItemsOf old.catalog.tables items
  before = have old.catalog.tables are

  said_now : (items : List Item) → AreItemsOf new.catalog.tables items → SayTables (without_rebalance old.catalog.tables) items
  said_now items is = subst (λ (u : Tables). SayTables u items) ends.tables (say new.catalog.tables items later is)

  source_stays : (x : ExtentId) → HasNoSource old x → HasNoSource new x
  source_stays x cause items is =
      subst (λ (es : List Entry). LacksSource es items x) (sym ends.entries)
      (source_on old.catalog.tables before.0 items (say old.catalog.tables before.0 are before.1) (said_now items is) old.register.value.entries x (cause before.0 before.1))

  place_stays : (x : ExtentId) → HasNoDiskFor old x → HasNoDiskFor new x
  place_stays x cause items is =
      subst (λ (s : Shape). LacksPlace s new.register.value.entries items x) (sym ends.shape)
      (subst (λ (es : List Entry). LacksPlace old.catalog.shape es items x) (sym ends.entries)
      (place_on old.catalog.tables before.0 items (say old.catalog.tables before.0 are before.1) (said_now items is) old.catalog.shape old.register.value.entries x (cause before.0 before.1)))

-- an end that is short has its cause in the group that is left
pub cause_stays : TablesHaveItems → ItemsSayTables → (old new : MountedGroup) → AreTables old.catalog.tables → AreTables new.catalog.tables → (end : Slice)
    → (IsSliceShort end → EndsActive old new) → EndCause old end → EndCause new end
cause_stays have say old new are later slice.More ends cause = tt
cause_stays have say old new are later slice.Done ends cause = tt
cause_stays have say old new are later (slice.NoSpace x) ends cause = place_stays have say old new are later (ends tt) x cause
cause_stays have say old new are later (slice.Lost x) ends cause = source_stays have say old new are later (ends tt) x cause
