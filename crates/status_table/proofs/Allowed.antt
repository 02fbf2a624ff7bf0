-- The rules of a record, tested one after the other.
use Rattle.std.proofs.Common.{◌≡◌, ℕ, suc, ◌+◌, ◌-◌, ◌^◌, ◌<◌, ◌≤◌, Bool, true, false, leb, ltb, eqb, List, [], ◌∷◌, length, map, refl, sym, ap, subst, ◌∙◌, arith}
use Rattle.std.specs.Prelude.{◌&&◌, ◌||◌, not, filter}
use Rattle.std.specs.List.{list_all, list_any, range_with_len, AllByRecursion}
use Rattle.std.proofs.lemmas.Bool.{and_parts, leb-true, le-leb, ltb-true, lt-ltb}
use Rattle.asm_formats.specs.Sets.{has_bit, elements}
use Rattle.asm_formats.specs.Status.{Entry, Status, is_entry, ascends_from, entry_of, has_entry, have_entries, is_status}
use Rattle.status_table.specs.Rules.{number_of_entry, passes}

-- ---- an entry

pub entry_by_tests : (e : Entry) → e.birth < 2 ^ 64 → e.failgroup < 256 → e.since < 2 ^ 64 → e.repair < 2 ^ 64 → e.partners < 2 ^ 64 → (ltb e.number 64 && leb e.units 16777216) ≡ is_entry e
unfolding is_entry
entry_by_tests e birth failgroup since repair partners =
    rw (lt-ltb e.birth (2 ^ 64) birth, lt-ltb e.failgroup 256 failgroup, lt-ltb e.since (2 ^ 64) since, lt-ltb e.repair (2 ^ 64) repair, lt-ltb e.partners (2 ^ 64) partners) (ap (λ (b : Bool). ltb e.number 64 && b) (sym (and_true (leb e.units 16777216)))) where
      and_true : (b : Bool) → (b && true) ≡ b
      and_true true = refl
      and_true false = refl

pub record FitsEntry (e : Entry) : Type 0 where
  pub number : e.number < 64
  pub birth : e.birth < 2 ^ 64
  pub failgroup : e.failgroup < 256
  pub units : e.units ≤ 16777216
  pub since : e.since < 2 ^ 64
  pub repair : e.repair < 2 ^ 64
  pub partners : e.partners < 2 ^ 64

pub entry_fits : (e : Entry) → is_entry e ≡ true → FitsEntry e
unfolding is_entry
entry_fits e ok =
    let a = and_parts (ltb e.number 64) (ltb e.birth (2 ^ 64) && (ltb e.failgroup 256 && (leb e.units 16777216 && (ltb e.since (2 ^ 64) && (ltb e.repair (2 ^ 64) && ltb e.partners (2 ^ 64)))))) ok in
    let b = and_parts (ltb e.birth (2 ^ 64)) (ltb e.failgroup 256 && (leb e.units 16777216 && (ltb e.since (2 ^ 64) && (ltb e.repair (2 ^ 64) && ltb e.partners (2 ^ 64))))) a.1 in
    let f = and_parts (ltb e.failgroup 256) (leb e.units 16777216 && (ltb e.since (2 ^ 64) && (ltb e.repair (2 ^ 64) && ltb e.partners (2 ^ 64)))) b.1 in
    let u = and_parts (leb e.units 16777216) (ltb e.since (2 ^ 64) && (ltb e.repair (2 ^ 64) && ltb e.partners (2 ^ 64))) f.1 in
    let s = and_parts (ltb e.since (2 ^ 64)) (ltb e.repair (2 ^ 64) && ltb e.partners (2 ^ 64)) u.1 in
    let r = and_parts (ltb e.repair (2 ^ 64)) (ltb e.partners (2 ^ 64)) s.1 in
    record { number = ltb-true _ _ a.0; birth = ltb-true _ _ b.0; failgroup = ltb-true _ _ f.0; units = leb-true _ _ u.0; since = ltb-true _ _ s.0; repair = ltb-true _ _ r.0; partners = ltb-true _ _ r.1 }

pub entry_is : (e : Entry) → FitsEntry e → is_entry e ≡ true
entry_is e f =
    sym (entry_by_tests e f.birth f.failgroup f.since f.repair f.partners) ∙ (rw (lt-ltb e.number 64 f.number, le-leb e.units 16777216 f.units) refl)

-- ---- the entries

-- entries that ascend below 64 are few
pub few : (es : List Entry) (least : ℕ) → least ≤ 64 → list_all is_entry es ≡ true → ascends_from least (map number_of_entry es) ≡ true → least + length es ≤ 64
few [] least le all up = omega arith
few (e ∷ es) least le all up =
    let a = and_parts (is_entry e) (list_all is_entry es) all in
    let u = and_parts (leb least e.number) (ascends_from (e.number + 1) (map number_of_entry es)) up in
    let low = leb-true least e.number u.0 in
    let high = (entry_fits e a.0).number in
    let rest = few es (e.number + 1) (omega arith) a.1 u.1 in
    omega arith

pub all_fit : (es : List Entry) → list_all is_entry es ≡ true → AllByRecursion FitsEntry es
all_fit [] all = tt
all_fit (e ∷ es) all = let a = and_parts (is_entry e) (list_all is_entry es) all in (entry_fits e a.0, all_fit es a.1)

-- ---- each disk of a set has an entry

-- the test of the disks from one on
abbrev pub left_to_test : List Entry → ℕ → ℕ → Bool
left_to_test es set d = list_all (has_entry es) (filter (has_bit set) (range_with_len d (64 - d)))

pub starts : (es : List Entry) (set : ℕ) → left_to_test es set 0 ≡ have_entries es set
unfolding elements
starts es set = refl

pub ends : (es : List Entry) (set d : ℕ) → 64 ≤ d → left_to_test es set d ≡ have_entries es set → have_entries es set ≡ true
ends es set d le so_far = let none : 64 - d ≡ 0 = omega arith in sym so_far ∙ (rw none refl)

one_more : (es : List Entry) (set d n : ℕ) → list_all (has_entry es) (filter (has_bit set) (range_with_len d (suc n))) ≡ ((not (has_bit set d) || has_entry es d) && list_all (has_entry es) (filter (has_bit set) (range_with_len (d + 1) n)))
one_more es set d n = by (has_bit set d) refl where
  by : (b : Bool) → has_bit set d ≡ b → list_all (has_entry es) (filter (has_bit set) (range_with_len d (suc n))) ≡ ((not (has_bit set d) || has_entry es d) && list_all (has_entry es) (filter (has_bit set) (range_with_len (d + 1) n)))
  by true e = rw e refl
  by false e = rw e refl

pub goes_on : (es : List Entry) (set d : ℕ) → d < 64 → (not (has_bit set d) || has_entry es d) ≡ true → left_to_test es set d ≡ have_entries es set → left_to_test es set (d + 1) ≡ have_entries es set
goes_on es set d lt ok so_far =
    let n : 64 - d ≡ suc (64 - (d + 1)) = omega arith in
    let one : left_to_test es set d ≡ left_to_test es set (d + 1) = rw n (one_more es set d (64 - (d + 1)) ∙ (rw ok refl)) in
    sym one ∙ so_far

pub stops : (es : List Entry) (set d : ℕ) → d < 64 → (not (has_bit set d) || has_entry es d) ≡ false → left_to_test es set d ≡ have_entries es set → have_entries es set ≡ false
stops es set d lt bad so_far =
    let n : 64 - d ≡ suc (64 - (d + 1)) = omega arith in
    let one : left_to_test es set d ≡ false = rw n (one_more es set d (64 - (d + 1)) ∙ (rw bad refl)) in
    sym so_far ∙ one

-- ---- a record

pub record Parts (r : Status) : Type 0 where
  pub id : r.id < 2 ^ 64
  pub epoch : r.epoch < 2 ^ 64
  pub turn : r.turn < 2 ^ 64
  pub births : r.births < 2 ^ 64
  pub holders : r.holders < 2 ^ 64
  pub next_holders : r.next_holders < 2 ^ 64
  pub directories : r.directories < 2 ^ 64
  pub all : list_all is_entry r.entries ≡ true
  pub up : ascends_from 0 (map number_of_entry r.entries) ≡ true
  pub of_holders : have_entries r.entries r.holders ≡ true
  pub of_next : have_entries r.entries r.next_holders ≡ true
  pub of_directories : have_entries r.entries r.directories ≡ true

abbrev pub tests_of : Status → Bool
tests_of r =
    list_all is_entry r.entries && (ascends_from 0 (map number_of_entry r.entries) && (have_entries r.entries r.holders && (have_entries r.entries r.next_holders && have_entries r.entries r.directories)))

-- the numbers of a record are those of its types
pub record InRange (r : Status) : Type 0 where
  pub id : r.id < 2 ^ 64
  pub epoch : r.epoch < 2 ^ 64
  pub turn : r.turn < 2 ^ 64
  pub births : r.births < 2 ^ 64
  pub holders : r.holders < 2 ^ 64
  pub next_holders : r.next_holders < 2 ^ 64
  pub directories : r.directories < 2 ^ 64

pub status_by_tests : (r : Status) → InRange r → tests_of r ≡ is_status r
unfolding is_status
status_by_tests r f =
    rw (lt-ltb r.id (2 ^ 64) f.id, lt-ltb r.epoch (2 ^ 64) f.epoch, lt-ltb r.turn (2 ^ 64) f.turn, lt-ltb r.births (2 ^ 64) f.births, lt-ltb r.holders (2 ^ 64) f.holders, lt-ltb r.next_holders (2 ^ 64) f.next_holders, lt-ltb r.directories (2 ^ 64) f.directories) refl

pub parts_of : (r : Status) → is_status r ≡ true → Parts r
unfolding is_status
parts_of r e =
    let b11 = have_entries r.entries r.next_holders && have_entries r.entries r.directories in
    let b10 = have_entries r.entries r.holders && b11 in
    let b9 = ascends_from 0 (map number_of_entry r.entries) && b10 in
    let b8 = list_all is_entry r.entries && b9 in
    let b7 = ltb r.directories (2 ^ 64) && b8 in
    let b6 = ltb r.next_holders (2 ^ 64) && b7 in
    let b5 = ltb r.holders (2 ^ 64) && b6 in
    let b4 = ltb r.births (2 ^ 64) && b5 in
    let b3 = ltb r.turn (2 ^ 64) && b4 in
    let b2 = ltb r.epoch (2 ^ 64) && b3 in
    let p1 = and_parts (ltb r.id (2 ^ 64)) b2 e in
    let p2 = and_parts (ltb r.epoch (2 ^ 64)) b3 p1.1 in
    let p3 = and_parts (ltb r.turn (2 ^ 64)) b4 p2.1 in
    let p4 = and_parts (ltb r.births (2 ^ 64)) b5 p3.1 in
    let p5 = and_parts (ltb r.holders (2 ^ 64)) b6 p4.1 in
    let p6 = and_parts (ltb r.next_holders (2 ^ 64)) b7 p5.1 in
    let p7 = and_parts (ltb r.directories (2 ^ 64)) b8 p6.1 in
    let p8 = and_parts (list_all is_entry r.entries) b9 p7.1 in
    let p9 = and_parts (ascends_from 0 (map number_of_entry r.entries)) b10 p8.1 in
    let p10 = and_parts (have_entries r.entries r.holders) b11 p9.1 in
    let p11 = and_parts (have_entries r.entries r.next_holders) (have_entries r.entries r.directories) p10.1 in
    record {
      id = ltb-true _ _ p1.0;
      epoch = ltb-true _ _ p2.0;
      turn = ltb-true _ _ p3.0;
      births = ltb-true _ _ p4.0;
      holders = ltb-true _ _ p5.0;
      next_holders = ltb-true _ _ p6.0;
      directories = ltb-true _ _ p7.0;
      all = p8.0;
      up = p9.0;
      of_holders = p10.0;
      of_next = p11.0;
      of_directories = p11.1;
    }

pub parts_are : (r : Status) → Parts r → is_status r ≡ true
parts_are r p =
    sym (status_by_tests r (record { id = p.id; epoch = p.epoch; turn = p.turn; births = p.births; holders = p.holders; next_holders = p.next_holders; directories = p.directories }))
    ∙ (rw (p.all, p.up, p.of_holders, p.of_next, p.of_directories) refl)

pub passes_is : {v r : Status} → v ≡ r → InRange v → passes r.entries v.holders v.next_holders v.directories ≡ is_status r
passes_is {v} {r} same f = subst (λ (x : Status). passes x.entries v.holders v.next_holders v.directories ≡ is_status x) same (status_by_tests v f)

found_first : (e : Entry) (es : List Entry) (d : ℕ) → list_any (λ e. eqb e.number d) es ≡ has_entry es d → list_any (λ e. eqb e.number d) (e ∷ es) ≡ has_entry (e ∷ es) d
unfolding entry_of
found_first e es d rest = by (eqb e.number d) refl where
  by : (b : Bool) → eqb e.number d ≡ b → list_any (λ e. eqb e.number d) (e ∷ es) ≡ has_entry (e ∷ es) d
  by true same = rw same refl
  by false other = rw other rest

pub any_is_found : (es : List Entry) (d : ℕ) → list_any (λ e. eqb e.number d) es ≡ has_entry es d
unfolding entry_of
any_is_found [] d = refl
any_is_found (e ∷ es) d = found_first e es d (any_is_found es d)
