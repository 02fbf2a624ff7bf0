-- What the end of a rebalance says.
use Rattle.std.proofs.Common.{◌≡◌, ◌⊎◌, inl, inr, ⊎_elim, ℕ, ◌+◌, ◌<◌, Bool, true, false, not, ◌&&◌, ◌||◌, List, [], ◌∷◌, ◌++◌, filter, length, refl, sym, ap, ◌∙◌, Option, Some, None, arith, ◌==◌, eqb}
use Rattle.std.specs.List.{list_all, list_any}
use Rattle.std.specs.Option.{is_some, is_none, option_or, option_map, option_and_then, unwrap_or}
use Rattle.std.proofs.lemmas.Bool.{and_parts, not-true, and_from, eq-eqb, ne_eqb, eqb-true, both_ways, or_cases, or_left, or_right}
use Rattle.std.proofs.lemmas.Option.{same_Some, none-some}
use Rattle.asm_formats.specs.asm_group.Shape.{Shape}
use Rattle.asm_formats.specs.Status.{Status, Entry}
use Rattle.asm_formats.specs.Items.{Item, Home}
use Rattle.asm_formats.specs.Among.{IsAmong}
use Rattle.asm_placement.specs.Modes.{is_online, is_dropping, is_forced, leaves, serves, mode_is}
use Rattle.asm_placement.specs.Tables.{is_stale}
use Rattle.asm_placement.specs.DiskSets.{is_among, distinct_failgroups}
use Rattle.asm_placement.specs.TableDisks.{directory_target, status_target}
use Rattle.asm_placement.specs.Space.{lowest_run, has_room}
use Rattle.asm_placement.specs.Choices.{home_on, is_eligible, replacement}
use Rattle.asm_placement.specs.Copies.{Copy, home, units, all_copies, entry_at_home, is_on, is_marked, is_unmarked, can_be_read, same_extent, siblings, has_source, has_other_source, wants_fill, wants_shift, is_doubled, is_whole_copy, disks_of_copies, has_full_redundancy}
use Rattle.asm_placement.specs.Rebalancing.{Move, recopy, fill, shift, directory, tables, Next, move, done, lacks_space, lost_extent, first_of, option_when, next_recopy, new_home, next_fill, next_shift, next_directory, next_tables, next_lost, next_no_space, next_balancing, balancing, next}
use Rattle.asm_placement.specs.Work.{is_absent}
use Rattle.asm_placement.specs.EndLaws.{IsDone, HasNoPlace, IsOutOfSpace, IsLost}
use Rattle.asm_placement.proofs.Membership.{filter_out, among_filtered}
use Rattle.asm_placement.proofs.Bits.{kept_is, left_out}
use Rattle.asm_placement.proofs.Counting.{said_by, when_said, mapped}
use Rattle.asm_placement.proofs.Chosen.{tried_among}
use Rattle.asm_placement.proofs.TablesMoved.{Distinct, groups_distinct, fits, group_from, was_among, any_among}
use Rattle.asm_placement.proofs.Apart.{some_first}

not_so : (b : Bool) → (b ≡ true → ⊥) → b ≡ false
not_so true h = absurd (h refl)
not_so false h = refl

so : (b : Bool) → (b ≡ false → ⊥) → b ≡ true
so true h = refl
so false h = absurd (h refl)

-- ---- where no copy says anything

none_says : {A : Type 0} (says : Copy → Option A) (xs : List Copy) (x : Copy) → first_of says xs ≡ None → IsAmong xs x → says x ≡ None
none_says says [] x e h = absurd h
none_says {A} says (y ∷ xs) x e h = by (says y) refl e h (none_says says xs x)
  where
    by : (o : Option A) → says y ≡ o → option_or o (first_of says xs) ≡ None → (x ≡ y) ⊎ IsAmong xs x → (first_of says xs ≡ None → IsAmong xs x → says x ≡ None) → says x ≡ None
    by None is k (inl same) later = ap says same ∙ is
    by None is k (inr there) later = later k there
    by (Some a) is k _ later = absurd (none-some a (sym k))

when_none : {A : Type 0} (b : Bool) (a : A) → option_when b (Some a) ≡ None → b ≡ false
when_none true a e = absurd (none-some a (sym e))
when_none false a e = refl

when_true : {A : Type 0} (b : Bool) (o : Option A) → option_when b o ≡ None → b ≡ true → o ≡ None
when_true true o e h = e
when_true false o e h = absurd cc

map_none : {A B : Type 0} (f : A → B) (o : Option A) → option_map f o ≡ None → o ≡ None
map_none f None e = refl
map_none f (Some a) e = absurd (none-some (f a) (sym e))

-- ---- the moves that there aren't

abbrev IsNever : Option Next → Next → Type 0
IsNever o end = o ≡ Some end → ⊥

-- what isn't the end says nothing
clear : (o rest : Option Next) (end : Next) → IsNever o end → unwrap_or (option_or o rest) done ≡ end → (o ≡ None) × (unwrap_or rest done ≡ end)
clear None rest end never e = (refl, e)
clear (Some n) rest end never e = absurd (never (ap (λ (k : Next). Some k) e))

-- an end is no move
data IsEnd (n : Next) : Type 0 where
  no_move : ((m : Move) → move m ≡ n → ⊥) → IsEnd n

recopy_never : (es : List Entry) (items : List Item) (all : List Copy) (n : Next) → IsEnd n → IsNever (next_recopy es items all) n
recopy_never es items all n (no_move out) e =
    let p = said_by _ all n e in
    out (recopy p.0.file p.0.index p.0.copy) (same_Some _ n (when_said (is_marked items p.0 && is_on is_online es p.0 && has_other_source es items all p.0) _ n p.2).1)

fill_never : (s : Shape) (es : List Entry) (items : List Item) (all : List Copy) (n : Next) → IsEnd n → IsNever (next_fill s es items all) n
fill_never s es items all n (no_move out) e =
    let p = said_by _ all n e in
    let h = mapped (λ h. move (fill p.0.file p.0.index p.0.copy h)) (new_home s es items p.0) n (when_said (wants_fill es p.0 && has_source es items all p.0) _ n p.2).1 in
    out (fill p.0.file p.0.index p.0.copy h.0) h.2

shift_never : (s : Shape) (es : List Entry) (items : List Item) (all : List Copy) (n : Next) → IsEnd n → IsNever (next_shift s es items all) n
shift_never s es items all n (no_move out) e =
    let p = said_by _ all n e in
    let h = mapped (λ h. move (shift p.0.file p.0.index p.0.copy h)) (new_home s es items p.0) n (when_said (wants_shift es p.0 && has_source es items all p.0) _ n p.2).1 in
    out (shift p.0.file p.0.index p.0.copy h.0) h.2

directory_never : (s : Shape) (r : Status) (n : Next) → IsEnd n → IsNever (next_directory s r) n
directory_never s r n (no_move out) e = let d = mapped (λ d. move (directory d)) (directory_target s.kind r) n e in out (directory d.0) d.2

tables_never : (s : Shape) (r : Status) (n : Next) → IsEnd n → IsNever (next_tables s r) n
tables_never s r n (no_move out) e = let d = mapped (λ d. move (tables d)) (status_target s.kind r) n e in out (tables d.0) d.2

balancing_never : (s : Shape) (es : List Entry) (items : List Item) (all : List Copy) (n : Next) → IsEnd n → IsNever (next_balancing s es items all) n
balancing_never s es items all n (no_move out) e =
    let p = said_by _ all n e in
    let h = mapped (λ h. move (shift p.0.file p.0.index p.0.copy h)) (balancing s es items p.0) n p.2 in
    out (shift p.0.file p.0.index p.0.copy h.0) h.2

-- what comes before an end that is no move says nothing
record NoMoves (s : Shape) (r : Status) (items : List Item) (end : Next) : Type 0 where
  recopies : next_recopy r.entries items (all_copies items) ≡ None
  fills : next_fill s r.entries items (all_copies items) ≡ None
  shifts : next_shift s r.entries items (all_copies items) ≡ None
  directories : next_directory s r ≡ None
  tables : next_tables s r ≡ None
  rest : unwrap_or (option_or (next_lost r.entries items (all_copies items)) (option_or (next_no_space s r.entries items (all_copies items)) (next_balancing s r.entries items (all_copies items)))) done ≡ end

no_moves : (s : Shape) (r : Status) (items : List Item) (end : Next) → IsEnd end → next s r items ≡ end → NoMoves s r items end
unfolding next
no_moves s r items end is e =
    let es = r.entries in
    let all = all_copies items in
    let a = clear (next_recopy es items all) _ end (recopy_never es items all end is) e in
    let b = clear (next_fill s es items all) _ end (fill_never s es items all end is) a.1 in
    let c = clear (next_shift s es items all) _ end (shift_never s es items all end is) b.1 in
    let d = clear (next_directory s r) _ end (directory_never s r end is) c.1 in
    let f = clear (next_tables s r) (option_or (next_lost es items all) (option_or (next_no_space s es items all) (next_balancing s es items all))) end (tables_never s r end is) d.1 in
    record { recopies = a.0; fills = b.0; shifts = c.0; directories = d.0; tables = f.0; rest = f.1 }

-- ---- what each of them says

usable_if : (es : List Entry) (items : List Item) (all : List Copy) → next_lost es items all ≡ None → (x : Copy) → IsAmong all x → has_source es items all x ≡ true
usable_if es items all e x h = so (has_source es items all x) (λ out. both_ways (not (has_source es items all x)) (when_none (not (has_source es items all x)) (lost_extent x.file x.index) (none_says _ all x e h)) (ap not out))

fills_none : (s : Shape) (es : List Entry) (items : List Item) (all : List Copy) → next_fill s es items all ≡ None → (x : Copy) → IsAmong all x → has_source es items all x ≡ true → wants_fill es x ≡ true → new_home s es items x ≡ None
fills_none s es items all e x h source wants =
    map_none (λ h. move (fill x.file x.index x.copy h)) (new_home s es items x) (when_true (wants_fill es x && has_source es items all x) _ (none_says _ all x e h) (and_from (wants_fill es x) (has_source es items all x) wants source))

shifts_none : (s : Shape) (es : List Entry) (items : List Item) (all : List Copy) → next_shift s es items all ≡ None → (x : Copy) → IsAmong all x → has_source es items all x ≡ true → wants_shift es x ≡ true → new_home s es items x ≡ None
shifts_none s es items all e x h source wants =
    map_none (λ h. move (shift x.file x.index x.copy h)) (new_home s es items x) (when_true (wants_shift es x && has_source es items all x) _ (none_says _ all x e h) (and_from (wants_shift es x) (has_source es items all x) wants source))

homeless : (s : Shape) (r : Status) (items : List Item) (end : Next) → NoMoves s r items end → (x : Copy) → IsAmong (all_copies items) x → has_source r.entries items (all_copies items) x ≡ true
    → (wants_fill r.entries x || wants_shift r.entries x) ≡ true → new_home s r.entries items x ≡ None
homeless s r items end none x h source wants = ⊎_elim
    (λ f. fills_none s r.entries items (all_copies items) none.fills x h source f)
    (λ k. shifts_none s r.entries items (all_copies items) none.shifts x h source k) (or_cases (wants_fill r.entries x) (wants_shift r.entries x) wants)

-- a marked copy's extent has its usable copies elsewhere
elsewhere_source : (es : List Entry) (items : List Item) (all : List Copy) (x : Copy) → is_marked items x ≡ true → has_source es items all x ≡ true → has_other_source es items all x ≡ true
elsewhere_source es items all x marked source =
    let p = any_among (can_be_read es items) (siblings all x) source in
    let y : Copy = p.0 in
    let same = and_parts (x.file == y.file) (x.index == y.index) (filter_out (same_extent x) all y p.1) in
    let file : x.file ≡ y.file = eqb-true x.file y.file same.0 in
    let index : x.index ≡ y.index = eqb-true x.index y.index same.1 in
    let readable = and_parts (is_on serves es y) (is_unmarked items y) p.2 in
    let stale : is_stale items x.file x.index x.copy ≡ true = (and_parts (is_some (home x)) (is_stale items x.file x.index x.copy) marked).1 in
    let other : (y.copy == x.copy) ≡ false = ne_eqb y.copy x.copy (λ copy.
    both_ways (is_stale items y.file y.index y.copy) (not-true (is_stale items y.file y.index y.copy) readable.1)
    (ap (λ (f : ℕ). is_stale items f y.index y.copy) (sym file) ∙ ap (λ (i : ℕ). is_stale items x.file i y.copy) (sym index) ∙ ap (λ (c : ℕ). is_stale items x.file x.index c) copy ∙ stale)) in
    any_here (λ (z : Copy). not (z.copy == x.copy) && can_be_read es items z) (siblings all x) y p.1 (and_from (not (y.copy == x.copy)) (can_be_read es items y) (ap not other) p.2)
  where
    any_here : (t : Copy → Bool) (xs : List Copy) (y : Copy) → IsAmong xs y → t y ≡ true → list_any t xs ≡ true
    any_here t [] y h k = absurd h
    any_here t (z ∷ xs) y (inl e) k = or_left (t z) _ (ap t (sym e) ∙ k)
    any_here t (z ∷ xs) y (inr h) k = or_right (t z) _ (any_here t xs y h k)

no_leaving : (o : Option Entry) → mode_is is_dropping o ≡ false → mode_is is_forced o ≡ false → mode_is leaves o ≡ false
no_leaving None d f = refl
no_leaving (Some e) d f = not_so (leaves e.mode) (λ k. ⊎_elim (λ x. both_ways (is_dropping e.mode) d x) (λ x. both_ways (is_forced e.mode) f x) (or_cases (is_dropping e.mode) (is_forced e.mode) k))

done_is_end : IsEnd done
done_is_end = no_move (λ m e. cc)

lost_is_not : (f i : ℕ) (es : List Entry) (items : List Item) (all : List Copy) → IsNever (next_lost es items all) done
lost_is_not f i es items all e = let p = said_by _ all done e in by p.0.file p.0.index (same_Some _ done (when_said (not (has_source es items all p.0)) _ done p.2).1)
  where
    by : (g j : ℕ) → lost_extent g j ≡ done → ⊥
    by g j k = cc

space_is_not : (s : Shape) (es : List Entry) (items : List Item) (all : List Copy) → IsNever (next_no_space s es items all) done
space_is_not s es items all e = let p = said_by _ all done e in by p.0.file p.0.index (same_Some _ done (when_said ((wants_fill es p.0 || wants_shift es p.0) && is_none (new_home s es items p.0)) _ done p.2).1)
  where
    by : (g j : ℕ) → lacks_space g j ≡ done → ⊥
    by g j k = cc

nothing_left : (o : Option Next) (n : Next) → IsNever o n → unwrap_or o done ≡ n → o ≡ None
nothing_left None n never e = refl
nothing_left (Some k) n never e = absurd (never (ap (λ (j : Next). Some j) e))

pub done_means : (s : Shape) (r : Status) (items : List Item) → next s r items ≡ done → IsDone s r items
done_means s r items e =
    let es = r.entries in
    let all = all_copies items in
    let none = no_moves s r items done done_is_end e in
    let a = clear (next_lost es items all) (option_or (next_no_space s es items all) (next_balancing s es items all)) done (lost_is_not 0 0 es items all) none.rest in
    let b = clear (next_no_space s es items all) (next_balancing s es items all) done (space_is_not s es items all) a.1 in
    let usable = usable_if es items all a.0 in
    let placed : (x : Copy) → IsAmong all x → (wants_fill es x || wants_shift es x) ≡ false = λ x h. not_so (wants_fill es x || wants_shift es x) (λ wants.
    let away = homeless s r items done none x h (usable x h) wants in
    both_ways ((wants_fill es x || wants_shift es x) && is_none (new_home s es items x)) (when_none ((wants_fill es x || wants_shift es x) && is_none (new_home s es items x)) (lacks_space x.file x.index) (none_says _ all x b.0 h))
    (and_from (wants_fill es x || wants_shift es x) (is_none (new_home s es items x)) wants (ap (λ (o : Option Home). is_none o) away))) in
    let part : (p q : Bool) → (p || q) ≡ false → (p ≡ false) × (q ≡ false) = λ p q k. (not_so p (λ yes. both_ways (p || q) k (or_left p q yes)), not_so q (λ yes. both_ways (p || q) k (or_right p q yes))) in
    record {
      present = λ x h. (part (is_absent x) (is_on is_forced es x) (part (wants_fill es x) (wants_shift es x) (placed x h)).0).0;
      staying = λ x h.
          let w = part (wants_fill es x) (wants_shift es x) (placed x h) in
          no_leaving (entry_at_home es (home x)) (part (is_on is_dropping es x) (is_doubled es x) w.1).0 (part (is_absent x) (is_on is_forced es x) w.0).1;
      single = λ x h. (part (is_on is_dropping es x) (is_doubled es x) (part (wants_fill es x) (wants_shift es x) (placed x h)).1).1;
      current = λ x h online. not_so (is_marked items x) (λ marked.
          both_ways (is_marked items x && is_on is_online es x && has_other_source es items all x)
          (when_none (is_marked items x && is_on is_online es x && has_other_source es items all x) (move (recopy x.file x.index x.copy)) (none_says _ all x none.recopies h))
          (and_from (is_marked items x && is_on is_online es x) (has_other_source es items all x) (and_from (is_marked items x) (is_on is_online es x) marked online) (elsewhere_source es items all x marked (usable x h))));
      usable = usable;
      balanced = nothing_left (next_balancing s es items all) done (balancing_never s es items all done done_is_end) b.1;
      directories = map_none (λ d. move (directory d)) (directory_target s.kind r) none.directories;
      tables = map_none (λ d. move (tables d)) (status_target s.kind r) none.tables;
    }

-- ---- no space

abbrev home_at : Entry → ℕ → Home
home_at d u = record { disk = d.number; unit = u }

no_place : (s : Shape) (es : List Entry) (items : List Item) (x : Copy) → new_home s es items x ≡ None → HasNoPlace s es items x
unfolding replacement
no_place s es items x away e h = not_so (is_eligible es x.copy x.homes e && has_room s items (units s x) e) (λ good.
    let test = λ (e : Entry). is_eligible es x.copy x.homes e && has_room s items (units s x) e && true in
    let passes : test e ≡ true = and_from (is_eligible es x.copy x.homes e && has_room s items (units s x) e) true good refl in
    let first = some_first s items (filter test es) e (among_filtered test es e h passes) in
    let d : Entry = first.0 in
    let chosen = filter_out test es d (tried_among s items (filter test es) d first.1) in
    let room : has_room s items (units s x) d ≡ true = (and_parts (is_eligible es x.copy x.homes d) (has_room s items (units s x) d) (and_parts (is_eligible es x.copy x.homes d && has_room s items (units s x) d) true chosen).0).1 in
    some_room d (lowest_run s items (units s x) d) room (sym (ap (option_and_then (home_on s items (units s x))) first.1) ∙ away))
  where
    some_room : (d : Entry) (o : Option ℕ) → is_some o ≡ true → option_map (home_at d) o ≡ None → ⊥
    some_room d None some k = both_ways false refl some
    some_room d (Some u) some k = none-some (home_at d u) (sym k)

pub no_space_means : (s : Shape) (r : Status) (items : List Item) (f i : ℕ) → next s r items ≡ lacks_space f i → IsOutOfSpace s r items f i
no_space_means s r items f i e =
    let es = r.entries in
    let all = all_copies items in
    let none = no_moves s r items (lacks_space f i) (no_move (λ m k. cc)) e in
    let a = clear (next_lost es items all) (option_or (next_no_space s es items all) (next_balancing s es items all)) (lacks_space f i) (other es all) none.rest in
    let said = found (next_no_space s es items all) (next_balancing s es items all) (balancing_never s es items all (lacks_space f i) (no_move (λ m k. cc))) a.1 in
    let p = said_by _ all (lacks_space f i) said in
    let x : Copy = p.0 in
    let w = when_said ((wants_fill es x || wants_shift es x) && is_none (new_home s es items x)) _ (lacks_space f i) p.2 in
    let parts = and_parts (wants_fill es x || wants_shift es x) (is_none (new_home s es items x)) w.0 in
    let usable = usable_if es items all a.0 in
    let same = numbers x.file x.index (same_Some (lacks_space x.file x.index) (lacks_space f i) w.1) in
    record {
      copy = x;
      among = p.1;
      file = same.0;
      index = same.1;
      due = parts.0;
      no_place = no_place s es items x (homeless s r items (lacks_space f i) none x p.1 (usable x p.1) parts.0);
      usable = usable;
      others = λ y h wants. no_place s es items y (homeless s r items (lacks_space f i) none y h (usable y h) wants);
    }
  where
    differ : (g j : ℕ) → lost_extent g j ≡ lacks_space f i → ⊥
    differ g j k = cc

    numbers : (g j : ℕ) → lacks_space g j ≡ lacks_space f i → (g ≡ f) × (j ≡ i)
    numbers g j k = (cc, cc)

    other : (es : List Entry) (all : List Copy) → IsNever (next_lost es items all) (lacks_space f i)
    other es all k = let p = said_by _ all (lacks_space f i) k in differ p.0.file p.0.index (same_Some _ (lacks_space f i) (when_said (not (has_source es items all p.0)) _ (lacks_space f i) p.2).1)

    found : (o rest : Option Next) → IsNever rest (lacks_space f i) → unwrap_or (option_or o rest) done ≡ lacks_space f i → o ≡ Some (lacks_space f i)
    found (Some n) rest never k = ap (λ (j : Next). Some j) k
    found None None never k = absurd cc
    found None (Some n) never k = absurd (never (ap (λ (j : Next). Some j) k))

-- ---- lost

pub lost_means : (s : Shape) (r : Status) (items : List Item) (f i : ℕ) → next s r items ≡ lost_extent f i → IsLost r items f i
lost_means s r items f i e =
    let es = r.entries in
    let all = all_copies items in
    let none = no_moves s r items (lost_extent f i) (no_move (λ m k. cc)) e in
    let said = found (next_lost es items all) (option_or (next_no_space s es items all) (next_balancing s es items all)) (other es all) none.rest in
    let p = said_by _ all (lost_extent f i) said in
    let x : Copy = p.0 in
    let w = when_said (not (has_source es items all x)) _ (lost_extent f i) p.2 in
    let same = numbers x.file x.index (same_Some (lost_extent x.file x.index) (lost_extent f i) w.1) in
    record { copy = x; among = p.1; file = same.0; index = same.1; unusable = not-true (has_source es items all x) w.0 }
  where
    differ : (g j : ℕ) → lacks_space g j ≡ lost_extent f i → ⊥
    differ g j k = cc

    numbers : (g j : ℕ) → lost_extent g j ≡ lost_extent f i → (g ≡ f) × (j ≡ i)
    numbers g j k = (cc, cc)

    space : (es : List Entry) (all : List Copy) → IsNever (next_no_space s es items all) (lost_extent f i)
    space es all k = let p = said_by _ all (lost_extent f i) k in differ p.0.file p.0.index (same_Some _ (lost_extent f i) (when_said ((wants_fill es p.0 || wants_shift es p.0) && is_none (new_home s es items p.0)) _ (lost_extent f i) p.2).1)

    either : (o rest : Option Next) → IsNever o (lost_extent f i) → IsNever rest (lost_extent f i) → IsNever (option_or o rest) (lost_extent f i)
    either (Some n) rest a b k = a k
    either None rest a b k = b k

    other : (es : List Entry) (all : List Copy) → IsNever (option_or (next_no_space s es items all) (next_balancing s es items all)) (lost_extent f i)
    other es all = either (next_no_space s es items all) (next_balancing s es items all) (space es all) (balancing_never s es items all (lost_extent f i) (no_move (λ m k. cc)))

    found : (o rest : Option Next) → IsNever rest (lost_extent f i) → unwrap_or (option_or o rest) done ≡ lost_extent f i → o ≡ Some (lost_extent f i)
    found (Some n) rest never k = ap (λ (j : Next). Some j) k
    found None None never k = absurd cc
    found None (Some n) never k = absurd (never (ap (λ (j : Next). Some j) k))

-- ---- full extents

disk_from : (es : List Entry) (xs : List Copy) (e : Entry) → IsAmong (disks_of_copies es xs) e → (x : Copy) × IsAmong xs x × (entry_at_home es (home x) ≡ Some e)
disk_from es [] e h = absurd h
disk_from es (x ∷ xs) e h = by (entry_at_home es (home x)) refl (disk_from es xs e) h
  where
    by : (o : Option Entry) → entry_at_home es (home x) ≡ o → (IsAmong (disks_of_copies es xs) e → (y : Copy) × IsAmong xs y × (entry_at_home es (home y) ≡ Some e)) → IsAmong (disks_of_copies es (x ∷ xs)) e
        → (y : Copy) × IsAmong (x ∷ xs) y × (entry_at_home es (home y) ≡ Some e)
    by None is later k = let p = later (rw is at k) in (p.0, inr p.1, p.2)
    by (Some d) is later k = split (rw is at k)
      where
        split : (e ≡ d) ⊎ IsAmong (disks_of_copies es xs) e → (y : Copy) × IsAmong (x ∷ xs) y × (entry_at_home es (home y) ≡ Some e)
        split (inl same) = (x, inl refl, is ∙ ap (λ (z : Entry). Some z) (sym same))
        split (inr there) = let p = later there in (p.0, inr p.1, p.2)

append_left : (xs ys : List ℕ) (n : ℕ) → is_among xs n ≡ true → is_among (xs ++ ys) n ≡ true
append_left [] ys n h = absurd cc
append_left (x ∷ xs) ys n h = ⊎_elim (λ here. or_left (eqb x n) _ here) (λ there. or_right (eqb x n) _ (append_left xs ys n there)) (or_cases (eqb x n) (is_among xs n) h)

append_right : (xs ys : List ℕ) (n : ℕ) → is_among ys n ≡ true → is_among (xs ++ ys) n ≡ true
append_right [] ys n h = h
append_right (x ∷ xs) ys n h = or_right (eqb x n) _ (append_right xs ys n h)

append_length : (xs ys : List ℕ) → length (xs ++ ys) ≡ length xs + length ys
append_length [] ys = omega arith
append_length (x ∷ xs) ys = omega (arith, append_length xs ys)

-- of distinct numbers that are more than others one isn't among these
one_outside : (ns gs : List ℕ) → Distinct ns → length gs < length ns → (n : ℕ) × (is_among ns n ≡ true) × (is_among gs n ≡ false)
one_outside ns gs d lt =
    let out : List ℕ = filter (λ n. not (is_among gs n)) ns in
    let le = fits ns (gs ++ out) d (λ n h. by n h (is_among gs n) refl) in
    first out refl (omega (arith, le, append_length gs out))
  where
    by : (n : ℕ) → is_among ns n ≡ true → (b : Bool) → is_among gs n ≡ b → is_among (gs ++ filter (λ n. not (is_among gs n)) ns) n ≡ true
    by n h true e = append_left gs (filter (λ n. not (is_among gs n)) ns) n e
    by n h false e = append_right gs (filter (λ n. not (is_among gs n)) ns) n (kept_is (λ n. not (is_among gs n)) ns n (ap not e) ∙ h)

    outside : (n : ℕ) → is_among (filter (λ n. not (is_among gs n)) ns) n ≡ true → is_among gs n ≡ false
    outside n h = not_so (is_among gs n) (λ yes. both_ways (is_among (filter (λ n. not (is_among gs n)) ns) n) (left_out (λ n. not (is_among gs n)) ns n (ap not yes)) h)

    first : (out : List ℕ) → filter (λ n. not (is_among gs n)) ns ≡ out → 0 < length out → (n : ℕ) × (is_among ns n ≡ true) × (is_among gs n ≡ false)
    first [] e some = absurd (omega arith)
    first (n ∷ out) e some =
        let here : is_among (filter (λ n. not (is_among gs n)) ns) n ≡ true = ap (λ (l : List ℕ). is_among l n) e ∙ or_left (eqb n n) _ (eq-eqb n n refl) in
        (n, was_among (λ n. not (is_among gs n)) ns n here, outside n here)

all_of : {A : Type 0} (t : A → Bool) (xs : List A) (x : A) → list_all t xs ≡ true → IsAmong xs x → t x ≡ true
all_of t [] x all h = absurd h
all_of t (y ∷ xs) x all (inl e) = ap t e ∙ (and_parts (t y) (list_all t xs) all).0
all_of t (y ∷ xs) x all (inr h) = all_of t xs x (and_parts (t y) (list_all t xs) all).1 h

pub full_bears : (es : List Entry) (items : List Item) (extent : List Copy) (groups : List ℕ) → has_full_redundancy es items extent ≡ true → length groups < length extent
    → (x : Copy) × IsAmong extent x × (is_whole_copy es items x ≡ true) × ((e : Entry) → entry_at_home es (home x) ≡ Some e → is_among groups e.failgroup ≡ false)
full_bears es items extent groups full lt =
    let a = and_parts (list_all (is_whole_copy es items) extent) (length (distinct_failgroups (disks_of_copies es extent)) == length extent) full in
    let count = eqb-true (length (distinct_failgroups (disks_of_copies es extent))) (length extent) a.1 in
    let g = one_outside (distinct_failgroups (disks_of_copies es extent)) groups (groups_distinct (disks_of_copies es extent)) (omega arith) in
    let e = group_from (disks_of_copies es extent) g.0 g.1 in
    let x = disk_from es extent e.0 e.1 in
    (x.0, x.1, all_of (is_whole_copy es items) extent x.0 a.0 x.1, λ d is. ap (λ (f : Entry). is_among groups f.failgroup) (same_Some d e.0 (sym is ∙ x.2)) ∙ ap (is_among groups) e.2 ∙ g.2)
