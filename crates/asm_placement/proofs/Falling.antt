-- Each move lowers the work that is left.
use Rattle.std.proofs.Common.{◌≡◌, ◌⊎◌, inl, inr, ⊎_elim, ℕ, ◌+◌, ◌%◌, ◌^◌, ◌<◌, ◌≤◌, Bool, true, false, not, ◌&&◌, ◌||◌, List, [], ◌∷◌, get_or, refl, sym, ap, ◌∙◌, subst, Option, Some, None, arith}
use Rattle.std.specs.Prelude.{nat_lt}
use Rattle.std.specs.List.{list_all}
use Rattle.std.specs.Option.{is_some, is_none, option_or, unwrap_or}
use Rattle.std.proofs.lemmas.Bool.{and_parts, and_from, both_ways, cases_lt, or_cases, or_left, or_right}
use Rattle.std.proofs.lemmas.Option.{same_Some, none-some}
use Rattle.asm_formats.specs.asm_group.Shape.{Shape}
use Rattle.asm_formats.specs.Status.{Status, Entry, entry_of, is_entry, is_status, ascends_from}
use Rattle.asm_formats.specs.Items.{Item, Home, Homes, is_item}
use Rattle.asm_formats.specs.Among.{IsAmong}
use Rattle.asm_placement.specs.Modes.{is_online, is_dropping, is_forced, leaves, mode_is}
use Rattle.asm_placement.specs.Tables.{is_stale}
use Rattle.asm_placement.specs.DiskSets.{numbers}
use Rattle.asm_placement.specs.TableDisks.{directory_target, status_target}
use Rattle.asm_placement.specs.Space.{used_units, is_above, is_below}
use Rattle.asm_placement.specs.Choices.{holds_copy, replacement}
use Rattle.asm_placement.specs.Copies.{Copy, home, units, all_copies, entry_at_home, is_on, is_marked, has_source, has_other_source, wants_fill, wants_shift, is_doubled}
use Rattle.asm_placement.specs.Rebalancing.{Move, recopy, fill, shift, directory, tables, Next, move, done, lacks_space, lost_extent, next_recopy, new_home, next_fill, next_shift, next_directory, next_tables, next_lost, next_no_space, above_or_none, balancing, next_balancing, next}
use Rattle.asm_placement.specs.Moves.{with_current, with_home, record_after, items_after}
use Rattle.asm_placement.specs.Work.{count, is_marked_online, is_absent, copies_to_do, elsewhere, unevenness, Work, work, IsLess, keys_differ, is_regular, AreGroupRecords}
use Rattle.asm_placement.proofs.Starts.{units_some}
use Rattle.asm_placement.proofs.Counting.{count_map_le, count_map_lt, count_lt, said_by, when_said, mapped}
use Rattle.asm_placement.proofs.Chosen.{IsChoice, choice, entry_found, entry_among, holds_at}
use Rattle.asm_placement.proofs.MovedCopies.{moved, copies_moved, copies_unmarked}
use Rattle.asm_placement.proofs.CopyPlaces.{copy_of, has_extent_of, stale_cleared, stale_less}
use Rattle.asm_placement.proofs.Lowering.{IsNewHome, Lowers, marked_lowers, absent_lowers, mode_lowers, doubled_lowers, lowered, lowered_new, online_is_here}
use Rattle.asm_placement.proofs.UnitsMoved.{part, used_moved}
use Rattle.asm_placement.proofs.Evening.{IsShift, evener}
use Rattle.asm_placement.proofs.TablesMoved.{directory_lowers, tables_lower}

all_of : {A : Type 0} (t : A → Bool) (xs : List A) (x : A) → list_all t xs ≡ true → IsAmong xs x → t x ≡ true
all_of t [] x all h = absurd h
all_of t (y ∷ xs) x all (inl e) = ap t e ∙ (and_parts (t y) (list_all t xs) all).0
all_of t (y ∷ xs) x all (inr h) = all_of t xs x (and_parts (t y) (list_all t xs) all).1 h

not_so : (b : Bool) → (b ≡ true → ⊥) → b ≡ false
not_so true h = absurd (h refl)
not_so false h = refl

numbers_ascend : (r : Status) → is_status r ≡ true → ascends_from 0 (numbers r.entries) ≡ true
unfolding is_status
numbers_ascend r h =
    let a = (and_parts (nat_lt r.id (2 ^ 64)) _ h).1 in
    let b = (and_parts (nat_lt r.epoch (2 ^ 64)) _ a).1 in
    let c = (and_parts (nat_lt r.turn (2 ^ 64)) _ b).1 in
    let d = (and_parts (nat_lt r.births (2 ^ 64)) _ c).1 in
    let e = (and_parts (nat_lt r.holders (2 ^ 64)) _ d).1 in
    let f = (and_parts (nat_lt r.next_holders (2 ^ 64)) _ e).1 in
    let g = (and_parts (nat_lt r.directories (2 ^ 64)) _ f).1 in
    let i = (and_parts (list_all is_entry r.entries) _ g).1 in
    (and_parts (ascends_from 0 (numbers r.entries)) _ i).0

-- ---- a copy that gets a new home

record IsReplaced (es : List Entry) (items : List Item) (x : Copy) (h : Home) : Type 0 where
  among : IsAmong (all_copies items) x
  allowed : list_all is_item items ≡ true
  keys : keys_differ items ≡ true
  new : IsNewHome es x.copy x.homes h

abbrev after : Copy → Home → List Item → List Item
after x h items = with_home x.file x.index x.copy h items

no_more : (es : List Entry) (items : List Item) (x : Copy) (h : Home) → IsReplaced es items x h → (t u : Copy → Bool) → Lowers x h t u → count u (all_copies (after x h items)) ≤ count t (all_copies items)
no_more es items x h is t u low =
    let of = copy_of items x is.allowed is.among in
    let moves = copies_moved x.file x.index x.copy h items is.allowed (has_extent_of items x is.keys of) in
    rw moves (count_map_le t u (moved x.file x.index x.copy h) (all_copies items) (λ y k. lowered items x h t u low is.keys of y (copy_of items y is.allowed k)))

fewer : (es : List Entry) (items : List Item) (x : Copy) (h : Home) → IsReplaced es items x h → (t u : Copy → Bool) → Lowers x h t u → t x ≡ true → count u (all_copies (after x h items)) < count t (all_copies items)
fewer es items x h is t u low here =
    let of = copy_of items x is.allowed is.among in
    let moves = copies_moved x.file x.index x.copy h items is.allowed (has_extent_of items x is.keys of) in
    rw moves (count_map_lt t u (moved x.file x.index x.copy h) (all_copies items) x (λ y k. lowered items x h t u low is.keys of y (copy_of items y is.allowed k)) is.among here (lowered_new x h t u low))

-- what the copy counted for
abbrev IsDue : List Entry → Copy → Type 0
IsDue es x = (is_absent x ≡ true) ⊎ ((is_doubled es x ≡ true) ⊎ (is_on leaves es x ≡ true))

copies_no_more : (es : List Entry) (items : List Item) (x : Copy) (h : Home) → IsReplaced es items x h → copies_to_do es (after x h items) ≤ copies_to_do es items
unfolding copies_to_do
copies_no_more es items x h is =
    let away = online_is_here is.new.disk.mode is.new.online in
    omega (
      arith,
      no_more es items x h is (is_marked_online es items) (is_marked_online es (after x h items)) (marked_lowers es items x h),
      no_more es items x h is is_absent is_absent (absent_lowers es x h is.new),
      no_more es items x h is (is_doubled es) (is_doubled es) (doubled_lowers es x h is.new),
      no_more es items x h is (is_on leaves es) (is_on leaves es) (mode_lowers leaves es x h is.new away),
    )

copies_fewer : (es : List Entry) (items : List Item) (x : Copy) (h : Home) → IsReplaced es items x h → IsDue es x → copies_to_do es (after x h items) < copies_to_do es items
unfolding copies_to_do
copies_fewer es items x h is due =
    let away = online_is_here is.new.disk.mode is.new.online in
    let a = no_more es items x h is (is_marked_online es items) (is_marked_online es (after x h items)) (marked_lowers es items x h) in
    let b = no_more es items x h is is_absent is_absent (absent_lowers es x h is.new) in
    let c = no_more es items x h is (is_doubled es) (is_doubled es) (doubled_lowers es x h is.new) in
    let d = no_more es items x h is (is_on leaves es) (is_on leaves es) (mode_lowers leaves es x h is.new away) in
    ⊎_elim
    (λ absent. omega (arith, a, c, d, fewer es items x h is is_absent is_absent (absent_lowers es x h is.new) absent))
    (λ present. ⊎_elim
    (λ doubled. omega (arith, a, b, d, fewer es items x h is (is_doubled es) (is_doubled es) (doubled_lowers es x h is.new) doubled))
    (λ leaving. omega (arith, a, b, c, fewer es items x h is (is_on leaves es) (is_on leaves es) (mode_lowers leaves es x h is.new away) leaving)) present) due

-- the home that was chosen
replaced_by : (r : Status) (items : List Item) (x : Copy) (h : Home) (test : Entry → Bool) → AreGroupRecords r items → IsAmong (all_copies items) x → IsChoice r.entries x.copy x.homes test h → IsReplaced r.entries items x h
replaced_by r items x h test records among c =
    let of = copy_of items x records.allowed among in
    let up = numbers_ascend r records.status in
    record {
      among = among;
      allowed = records.allowed;
      keys = records.keys;
      new = record {
        disk = c.disk;
        found = ap (entry_of r.entries) c.is ∙ entry_found 0 r.entries c.disk up c.among;
        online = (and_parts (is_online c.disk.mode) (not c.disk.quorum) c.target).0;
        apart = c.apart;
        inside = omega (arith, of.copy, of.three);
      };
    }

-- ---- filling and shifting

lowered_by : (s : Shape) (r : Status) (items : List Item) (x : Copy) (h : Home) → AreGroupRecords r items → IsAmong (all_copies items) x → new_home s r.entries items x ≡ Some h → IsDue r.entries x
    → IsLess (work s r (after x h items)) (work s r items)
unfolding replacement
lowered_by s r items x h records among new due =
    let c = choice (λ e. true) s r.entries items (units s x) x.copy x.homes h new in
    inl (omega (arith, copies_fewer r.entries items x h (replaced_by r items x h (λ e. true) records among c) due))

leaves_forced : (o : Option Entry) → mode_is is_forced o ≡ true → mode_is leaves o ≡ true
leaves_forced None e = e
leaves_forced (Some x) e = or_right (is_dropping x.mode) (is_forced x.mode) e

leaves_dropping : (o : Option Entry) → mode_is is_dropping o ≡ true → mode_is leaves o ≡ true
leaves_dropping None e = e
leaves_dropping (Some x) e = or_left (is_dropping x.mode) (is_forced x.mode) e

fill_due : (es : List Entry) (x : Copy) → wants_fill es x ≡ true → IsDue es x
fill_due es x w = ⊎_elim (λ absent. inl absent) (λ forced. inr (inr (leaves_forced (entry_at_home es (home x)) forced))) (or_cases (is_none (home x)) (is_on is_forced es x) w)

shift_due : (es : List Entry) (x : Copy) → wants_shift es x ≡ true → IsDue es x
shift_due es x w = ⊎_elim (λ dropping. inr (inr (leaves_dropping (entry_at_home es (home x)) dropping))) (λ doubled. inr (inl doubled)) (or_cases (is_on is_dropping es x) (is_doubled es x) w)

abbrev Falls : Shape → Status → List Item → Move → Type 0
Falls s r items m = IsLess (work s (record_after m r) (items_after m items)) (work s r items)

move_is : (a b : Move) → move a ≡ move b → a ≡ b
move_is a b e = cc

fill_falls : (s : Shape) (r : Status) (items : List Item) (m : Move) → AreGroupRecords r items → next_fill s r.entries items (all_copies items) ≡ Some (move m) → Falls s r items m
fill_falls s r items m records e =
    let p = said_by _ (all_copies items) (move m) e in
    let x : Copy = p.0 in
    let w = when_said (wants_fill r.entries x && has_source r.entries items (all_copies items) x) _ (move m) p.2 in
    let h = mapped (λ h. move (fill x.file x.index x.copy h)) (new_home s r.entries items x) (move m) w.1 in
    subst (λ (k : Move). Falls s r items k) (move_is (fill x.file x.index x.copy h.0) m h.2)
    (lowered_by s r items x h.0 records p.1 h.1 (fill_due r.entries x (and_parts (wants_fill r.entries x) (has_source r.entries items (all_copies items) x) w.0).0))

shift_falls : (s : Shape) (r : Status) (items : List Item) (m : Move) → AreGroupRecords r items → next_shift s r.entries items (all_copies items) ≡ Some (move m) → Falls s r items m
shift_falls s r items m records e =
    let p = said_by _ (all_copies items) (move m) e in
    let x : Copy = p.0 in
    let w = when_said (wants_shift r.entries x && has_source r.entries items (all_copies items) x) _ (move m) p.2 in
    let h = mapped (λ h. move (shift x.file x.index x.copy h)) (new_home s r.entries items x) (move m) w.1 in
    subst (λ (k : Move). Falls s r items k) (move_is (shift x.file x.index x.copy h.0) m h.2)
    (lowered_by s r items x h.0 records p.1 h.1 (shift_due r.entries x (and_parts (wants_shift r.entries x) (has_source r.entries items (all_copies items) x) w.0).0))

-- ---- copying anew

marked_fewer : (es : List Entry) (items : List Item) (x : Copy) → IsAmong (all_copies items) x → is_marked_online es items x ≡ true
    → count (is_marked_online es (with_current x.file x.index x.copy items)) (all_copies items) < count (is_marked_online es items) (all_copies items)
marked_fewer es items x among marked =
    let later = with_current x.file x.index x.copy items in
    count_lt (is_marked_online es items) (is_marked_online es later) (all_copies items) x
    (λ y e.
    let a = and_parts (is_marked later y) (is_on is_online es y) e in
    let b = and_parts (is_some (home y)) (is_stale later y.file y.index y.copy) a.0 in
    and_from (is_marked items y) (is_on is_online es y) (and_from (is_some (home y)) (is_stale items y.file y.index y.copy) b.0 (stale_less x.file x.index x.copy items y.file y.index y.copy b.1)) a.1)
    among marked
    (not_so _ (λ e.
    let a = and_parts (is_marked later x) (is_on is_online es x) e in
    both_ways (is_stale later x.file x.index x.copy) (stale_cleared x.file x.index x.copy items) (and_parts (is_some (home x)) (is_stale later x.file x.index x.copy) a.0).1))

current_fewer : (es : List Entry) (items : List Item) (x : Copy) → IsAmong (all_copies items) x → is_marked_online es items x ≡ true
    → copies_to_do es (with_current x.file x.index x.copy items) < copies_to_do es items
unfolding copies_to_do
current_fewer es items x among marked = rw (copies_unmarked x.file x.index x.copy items) (omega (arith, marked_fewer es items x among marked))

recopy_falls : (s : Shape) (r : Status) (items : List Item) (m : Move) → next_recopy r.entries items (all_copies items) ≡ Some (move m) → Falls s r items m
recopy_falls s r items m e =
    let p = said_by _ (all_copies items) (move m) e in
    let x : Copy = p.0 in
    let w = when_said (is_marked items x && is_on is_online r.entries x && has_other_source r.entries items (all_copies items) x) _ (move m) p.2 in
    let marked = (and_parts (is_marked_online r.entries items x) (has_other_source r.entries items (all_copies items) x) w.0).0 in
    subst (λ (k : Move). Falls s r items k) (move_is (recopy x.file x.index x.copy) m (same_Some _ (move m) w.1))
    (inl (omega (arith, current_fewer r.entries items x p.1 marked)))

-- ---- balancing

record IsBetter (a b : Work) : Type 0 where
  first : a.to_do ≤ b.to_do
  rest : (a.elsewhere < b.elsewhere) ⊎ ((a.elsewhere ≤ b.elsewhere) × (a.unevenness < b.unevenness))

better : (a b : Work) → IsBetter a b → IsLess a b
better a b is = elim (cases_lt a.to_do b.to_do) [
  | inl lt ↦ inl lt
  | inr le ↦ inr (
    omega (arith, is.first),
    ⊎_elim
        (λ fewer. inl fewer)
        (λ p. elim (cases_lt a.elsewhere b.elsewhere) [ inl lt ↦ inl lt | inr ge ↦ inr (omega (arith, p.0), p.1) ]) is.rest,
  )
]

-- the disk that a copy is taken from
record IsSource (r : Status) (items : List Item) (x : Copy) (from : Entry) (old : Home) : Type 0 where
  home_is : home x ≡ Some old
  found : entry_of r.entries old.disk ≡ Some from

part_of : (n a b d : ℕ) → a ≡ b → part n a d ≡ part n b d
part_of n a b d e = ap (λ (k : ℕ). part n k d) e

is_shift : (s : Shape) (r : Status) (items : List Item) (x : Copy) (h : Home) (from : Entry) (old : Home) → AreGroupRecords r items → IsAmong (all_copies items) x → IsSource r items x from old
    → is_online from.mode ≡ true → is_above s items r.entries (units s x) from ≡ true → (c : IsChoice r.entries x.copy x.homes (is_below s items r.entries (units s x)) h)
    → IsShift s r.entries items (after x h items) (units s x) from c.disk
is_shift s r items x h from old records among source online above c =
    let of = copy_of items x records.allowed among in
    let entry = entry_among r.entries old.disk from source.found in
    let regular = all_of (λ (y : Copy). is_regular (entry_at_home r.entries (home y))) (all_copies items) x records.regular among in
    let plain : not from.quorum ≡ true = ap is_regular (sym source.found) ∙ ap (λ (o : Option Home). is_regular (entry_at_home r.entries o)) (sym source.home_is) ∙ regular in
    let at : get_or (get_or of.chunk (x.index % 256) []) x.copy None ≡ Some old = ap (λ (l : Homes). get_or l x.copy None) (sym of.homes) ∙ source.home_is in
    record {
      ascends = numbers_ascend r records.status;
      from_among = entry.0;
      to_among = c.among;
      from_target = and_from (is_online from.mode) (not from.quorum) online plain;
      to_target = c.target;
      differ = λ same. both_ways (holds_copy x.homes c.disk.number) c.new (ap (holds_copy x.homes) (sym same ∙ entry.1) ∙ holds_at x.homes x.copy old source.home_is);
      used = λ d. ap (λ (n : ℕ). used_units s (after x h items) d + n) (part_of (units s x) from.number old.disk d entry.1)
          ∙ used_moved s d x.file x.index x.copy h old of.chunk items records.keys of.among at
          ∙ ap (λ (n : ℕ). used_units s items d + n) (part_of (units s x) h.disk c.disk.number d c.is);
      above = above;
      below = c.passes;
    }

elsewhere_no_more : (es : List Entry) (items : List Item) (x : Copy) (h : Home) → IsReplaced es items x h → elsewhere es (after x h items) ≤ elsewhere es items
unfolding elsewhere
elsewhere_no_more es items x h is = no_more es items x h is _ _ (mode_lowers (λ mode. not (is_online mode)) es x h is.new (ap not is.new.online))

elsewhere_fewer : (es : List Entry) (items : List Item) (x : Copy) (h : Home) → IsReplaced es items x h → is_on (λ mode. not (is_online mode)) es x ≡ true → elsewhere es (after x h items) < elsewhere es items
unfolding elsewhere
elsewhere_fewer es items x h is here = fewer es items x h is _ _ (mode_lowers (λ mode. not (is_online mode)) es x h is.new (ap not is.new.online)) here

balanced_by : (s : Shape) (r : Status) (items : List Item) (x : Copy) (h : Home) (from : Entry) (old : Home) → AreGroupRecords r items → IsAmong (all_copies items) x → IsSource r items x from old
    → is_above s items r.entries (units s x) from ≡ true → IsChoice r.entries x.copy x.homes (is_below s items r.entries (units s x)) h → IsLess (work s r (after x h items)) (work s r items)
balanced_by s r items x h from old records among source above c =
    let is = replaced_by r items x h (is_below s items r.entries (units s x)) records among c in
    let first : copies_to_do r.entries (after x h items) ≤ copies_to_do r.entries items = copies_no_more r.entries items x h is in
    better (work s r (after x h items)) (work s r items) (record { first = omega (arith, first); rest = by is (is_online from.mode) refl })
  where
    by : IsReplaced r.entries items x h → (b : Bool) → is_online from.mode ≡ b
        → (elsewhere r.entries (after x h items) < elsewhere r.entries items) ⊎ ((elsewhere r.entries (after x h items) ≤ elsewhere r.entries items) × (unevenness s r.entries (after x h items) < unevenness s r.entries items))
    by is true online = inr (
      elsewhere_no_more r.entries items x h is,
      evener s r.entries items (after x h items) (units s x) from c.disk (units_some s.step x.index) (is_shift s r items x h from old records among source online above c),
    )
    by is false away = inl (elsewhere_fewer r.entries items x h is (ap (λ (o : Option Home). mode_is (λ mode. not (is_online mode)) (entry_at_home r.entries o)) source.home_is ∙ ap (mode_is (λ mode. not (is_online mode))) source.found ∙ ap not away))

balancing_falls : (s : Shape) (r : Status) (items : List Item) (m : Move) → AreGroupRecords r items → next_balancing s r.entries items (all_copies items) ≡ Some (move m) → Falls s r items m
unfolding balancing
balancing_falls s r items m records e =
    let p = said_by _ (all_copies items) (move m) e in
    let x : Copy = p.0 in
    let h = mapped (λ h. move (shift x.file x.index x.copy h)) (balancing s r.entries items x) (move m) p.2 in
    subst (λ (k : Move). Falls s r items k) (move_is (shift x.file x.index x.copy h.0) m h.2) (by x h.0 p.1 (home x) refl h.1)
  where
    with_entry : (x : Copy) (h old : Home) → IsAmong (all_copies items) x → home x ≡ Some old → (o : Option Entry) → entry_of r.entries old.disk ≡ o → above_or_none s r.entries items x o ≡ Some h → IsLess (work s r (after x h items)) (work s r items)
    with_entry x h old among is None found k = absurd (none-some h k)
    with_entry x h old among is (Some from) found k =
        let w = when_said (is_above s items r.entries (units s x) from) _ h k in
        balanced_by s r items x h from old records among (record { home_is = is; found = found }) w.0 (choice (is_below s items r.entries (units s x)) s r.entries items (units s x) x.copy x.homes h w.1)

    by : (x : Copy) (h : Home) → IsAmong (all_copies items) x → (o : Option Home) → home x ≡ o → above_or_none s r.entries items x (entry_at_home r.entries (home x)) ≡ Some h → IsLess (work s r (after x h items)) (work s r items)
    by x h among None is k = absurd (none-some h (ap (λ (o : Option Home). above_or_none s r.entries items x (entry_at_home r.entries o)) (sym is) ∙ k))
    by x h among (Some old) is k = with_entry x h old among is (entry_of r.entries old.disk) refl (ap (λ (o : Option Home). above_or_none s r.entries items x (entry_at_home r.entries o)) (sym is) ∙ k)

-- ---- directory copies and tables

directory_falls : (s : Shape) (r : Status) (items : List Item) (m : Move) → next_directory s r ≡ Some (move m) → Falls s r items m
directory_falls s r items m e =
    let d = mapped (λ d. move (directory d)) (directory_target s.kind r) (move m) e in
    subst (λ (k : Move). Falls s r items k) (move_is (directory d.0) m d.2) (inl (omega (arith, directory_lowers s r d.0 d.1)))

tables_fall : (s : Shape) (r : Status) (items : List Item) (m : Move) → AreGroupRecords r items → next_tables s r ≡ Some (move m) → Falls s r items m
tables_fall s r items m records e =
    let d = mapped (λ d. move (tables d)) (status_target s.kind r) (move m) e in
    subst (λ (k : Move). Falls s r items k) (move_is (tables d.0) m d.2) (inl (omega (arith, tables_lower s r d.0 (numbers_ascend r records.status) d.1)))

-- ---- all moves

pick : (m : Move) (o rest : Option Next) → unwrap_or (option_or o rest) done ≡ move m → (o ≡ Some (move m)) ⊎ (unwrap_or rest done ≡ move m)
pick m None rest e = inr e
pick m (Some n) rest e = inl (ap (λ (k : Next). Some k) e)

last : (m : Move) (o : Option Next) → unwrap_or o done ≡ move m → o ≡ Some (move m)
last m None e = absurd cc
last m (Some n) e = ap (λ (k : Next). Some k) e

lost_is_no_move : (m : Move) (es : List Entry) (items : List Item) (all : List Copy) → next_lost es items all ≡ Some (move m) → ⊥
lost_is_no_move m es items all e =
    let p = said_by _ all (move m) e in
    let x : Copy = p.0 in
    let w = when_said (not (has_source es items all x)) _ (move m) p.2 in
    differ x.file x.index (same_Some (lost_extent x.file x.index) (move m) w.1)
  where
    differ : (f i : ℕ) → lost_extent f i ≡ move m → ⊥
    differ f i k = cc

space_is_no_move : (m : Move) (s : Shape) (es : List Entry) (items : List Item) (all : List Copy) → next_no_space s es items all ≡ Some (move m) → ⊥
space_is_no_move m s es items all e =
    let p = said_by _ all (move m) e in
    let x : Copy = p.0 in
    let w = when_said ((wants_fill es x || wants_shift es x) && is_none (new_home s es items x)) _ (move m) p.2 in
    differ x.file x.index (same_Some (lacks_space x.file x.index) (move m) w.1)
  where
    differ : (f i : ℕ) → lacks_space f i ≡ move m → ⊥
    differ f i k = cc

pub work_falls : (s : Shape) (r : Status) (items : List Item) (m : Move) → AreGroupRecords r items → next s r items ≡ move m → Falls s r items m
unfolding next
work_falls s r items m records e =
    let es = r.entries in
    let all = all_copies items in
    ⊎_elim (λ a. recopy_falls s r items m a) (λ e1. ⊎_elim (λ a. fill_falls s r items m records a) (λ e2. ⊎_elim (λ a. shift_falls s r items m records a)
    (λ e3. ⊎_elim (λ a. directory_falls s r items m a) (λ e4. ⊎_elim (λ a. tables_fall s r items m records a) (λ e5. ⊎_elim (λ a. absurd (lost_is_no_move m es items all a))
    (λ e6. ⊎_elim (λ a. absurd (space_is_no_move m s es items all a)) (λ e7. balancing_falls s r items m records (last m (next_balancing s es items all) e7))
    (pick m (next_no_space s es items all) (next_balancing s es items all) e6)) (pick m (next_lost es items all) _ e5)) (pick m (next_tables s r) _ e4)) (pick m (next_directory s r) _ e3))
    (pick m (next_shift s es items all) _ e2)) (pick m (next_fill s es items all) _ e1)) (pick m (next_recopy es items all) _ e)
