-- The record in which disks have the units that they are to have.
use Rattle.std.proofs.Common.{◌≡◌, ◌≢◌, ⊎_elim, ℕ, ◌+◌, ◌-◌, ◌^◌, ◌≤◌, Bool, true, false, cond, not, ltb, ◌==◌, ◌&&◌, ◌||◌, List, [], ◌∷◌, map, min, Result, Option, Some, None, refl, sym, ap, subst, ◌∙◌, arith, IsTrue}
use Rattle.std.specs.Prelude.{OnOk, nat_lt, nat_le}
use Rattle.std.specs.List.{list_all, list_any}
use Rattle.std.proofs.lemmas.Bool.{and_parts, cases_eq, eq-eqb, eqb-true, ne_eqb, leb-true, lt-ltb, le-ltb, cases_lt}
use Rattle.refusal_lines.specs.declared.refusal.Refusal.{Refusal}
use Rattle.asm_group.specs.Shape.{Shape}
use Rattle.asm_formats.specs.Regions.{most_units}
use Rattle.asm_formats.specs.Sets.{has_bit, most_disks}
use Rattle.asm_formats.specs.Status.{Entry, Status, is_entry, is_status}
use Rattle.record_laws.specs.status_register.Holders.{with_next_number}
use Rattle.status_table.specs.Changes.{entry_with_units}
use Rattle.record_laws.specs.group_engine.declared.attached.Attached.{Attached}
use Rattle.record_laws.specs.group_engine.Mounts.{MountedGroup}
use Rattle.record_laws.specs.group_engine.Own.{IsSameGroup}
use Rattle.record_laws.proofs.group_engine.Records.{record_parts}
use Rattle.disk_modes.specs.declared.sizes.Asked.{Asked}
use Rattle.disk_modes.specs.Effects.{PutsRebalance}
use Rattle.disk_modes.specs.Sizes.{HasAsked, PutsUnits, ResizesDisks, capped_units, entry_capped, entry_resized, is_other, status_resized, units_asked}
use Rattle.disk_modes.proofs.Effects.{on_ok}
use Rattle.disk_modes.proofs.Naming.{each_entry}

-- ---- one disk after the other

-- the disks below a number have their units
abbrev below : MountedGroup → Asked → ℕ → Entry → Entry
below m asked i e = cond (nat_lt e.number i) (entry_capped m.catalog.shape m.disks asked e) e

abbrev pub IsBelow : MountedGroup → Asked → Status → ℕ → Status → Type 0
IsBelow m asked r i s = s ≡ record r { entries = map (below m asked i) r.entries }

same_map : (f g : Entry → Entry) → ((e : Entry) → f e ≡ g e) → (es : List Entry) → map f es ≡ map g es
same_map f g same [] = refl
same_map f g same (e ∷ es) = λ i. same e i ∷ same_map f g same es i

map_map : (f g : Entry → Entry) (es : List Entry) → map f (map g es) ≡ map (λ (e : Entry). f (g e)) es
map_map f g [] = refl
map_map f g (e ∷ es) = λ i. f (g e) ∷ map_map f g es i

map_same : (f : Entry → Entry) → ((e : Entry) → f e ≡ e) → (es : List Entry) → map f es ≡ es
map_same f same [] = refl
map_same f same (e ∷ es) = λ i. same e i ∷ map_same f same es i

pub none_below : (m : MountedGroup) (asked : Asked) (r s : Status) → s ≡ r → IsBelow m asked r 0 s
none_below m asked r s is = is ∙ ap (λ (es : List Entry). record r { entries = es })
    (sym (map_same (below m asked 0) (λ e. ap (λ (b : Bool). cond b (entry_capped m.catalog.shape m.disks asked e) e) (le-ltb e.number 0 (omega arith))) r.entries))

-- a disk of another number
same_side : (n i : ℕ) → n ≢ i → ltb n i ≡ ltb n (i + 1)
same_side n i differ = ⊎_elim (λ lt. lt-ltb n i lt ∙ sym (lt-ltb n (i + 1) (omega arith))) (λ le. le-ltb n i le ∙ sym (le-ltb n (i + 1) (omega (arith, differ)))) (cases_lt n i)

capped_number : (s : Shape) (disks : List (Option Attached)) (asked : Asked) (e : Entry) → (entry_capped s disks asked e).number ≡ e.number
capped_number s disks asked e = go (has_bit asked.disks e.number)
  where
    go : (b : Bool) → (cond b (record e { units = capped_units (units_asked s disks asked.size e.number) }) e).number ≡ e.number
    go true = refl
    go false = refl

below_number : (m : MountedGroup) (asked : Asked) (i : ℕ) (e : Entry) → (below m asked i e).number ≡ e.number
below_number m asked i e = go (nat_lt e.number i)
  where
    go : (b : Bool) → (cond b (entry_capped m.catalog.shape m.disks asked e) e).number ≡ e.number
    go true = capped_number m.catalog.shape m.disks asked e
    go false = refl

-- the disk of the number is asked for
one_asked : (m : MountedGroup) (asked : Asked) (i : ℕ) (e : Entry) → has_bit asked.disks i ≡ true
    → entry_with_units i (capped_units (units_asked m.catalog.shape m.disks asked.size i)) (below m asked i e) ≡ below m asked (i + 1) e
one_asked m asked i e has = ⊎_elim
    (λ (same : e.number ≡ i).
    let now : below m asked i e ≡ e = ap (λ (b : Bool). cond b (entry_capped m.catalog.shape m.disks asked e) e) (le-ltb e.number i (omega (arith, same))) in
    let then : below m asked (i + 1) e ≡ entry_capped m.catalog.shape m.disks asked e = ap (λ (b : Bool). cond b (entry_capped m.catalog.shape m.disks asked e) e) (lt-ltb e.number (i + 1) (omega (arith, same))) in
    let given : entry_capped m.catalog.shape m.disks asked e ≡ record e { units = capped_units (units_asked m.catalog.shape m.disks asked.size e.number) } =
    ap (λ (b : Bool). cond b (record e { units = capped_units (units_asked m.catalog.shape m.disks asked.size e.number) }) e) (ap (has_bit asked.disks) same ∙ has) in
    ap (entry_with_units i (capped_units (units_asked m.catalog.shape m.disks asked.size i))) now
    ∙ ap (λ (b : Bool). cond b (record e { units = capped_units (units_asked m.catalog.shape m.disks asked.size i) }) e) (eq-eqb e.number i same)
    ∙ ap (λ (n : ℕ). record e { units = capped_units (units_asked m.catalog.shape m.disks asked.size n) }) (sym same) ∙ sym given ∙ sym then)
    (λ differ.
    let other : (below m asked i e).number ≢ i = λ same. differ (sym (below_number m asked i e) ∙ same) in
    ap (λ (b : Bool). cond b (record (below m asked i e) { units = capped_units (units_asked m.catalog.shape m.disks asked.size i) }) (below m asked i e)) (ne_eqb (below m asked i e).number i other)
    ∙ ap (λ (b : Bool). cond b (entry_capped m.catalog.shape m.disks asked e) e) (same_side e.number i differ))
    (cases_eq e.number i)

one_not_asked : (m : MountedGroup) (asked : Asked) (i : ℕ) (e : Entry) → has_bit asked.disks i ≡ false → below m asked i e ≡ below m asked (i + 1) e
one_not_asked m asked i e not_in = ⊎_elim
    (λ (same : e.number ≡ i).
    let given : entry_capped m.catalog.shape m.disks asked e ≡ e =
    ap (λ (b : Bool). cond b (record e { units = capped_units (units_asked m.catalog.shape m.disks asked.size e.number) }) e) (ap (has_bit asked.disks) same ∙ not_in) in
    ap (λ (b : Bool). cond b (entry_capped m.catalog.shape m.disks asked e) e) (le-ltb e.number i (omega (arith, same))) ∙ sym given
    ∙ sym (ap (λ (b : Bool). cond b (entry_capped m.catalog.shape m.disks asked e) e) (lt-ltb e.number (i + 1) (omega (arith, same)))))
    (λ differ. ap (λ (b : Bool). cond b (entry_capped m.catalog.shape m.disks asked e) e) (same_side e.number i differ))
    (cases_eq e.number i)

pub one_below : (m : MountedGroup) (asked : Asked) (r s t : Status) (i : ℕ) → IsBelow m asked r i s → t ≡ status_resized m asked i s → IsBelow m asked r (i + 1) t
one_below m asked r s t i so_far is = is ∙ ap (status_resized m asked i) so_far ∙ go (has_bit asked.disks i) refl
  where
    go : (b : Bool) → has_bit asked.disks i ≡ b
        → cond b (record r { entries = map (entry_with_units i (capped_units (units_asked m.catalog.shape m.disks asked.size i))) (map (below m asked i) r.entries) }) (record r { entries = map (below m asked i) r.entries })
        ≡ record r { entries = map (below m asked (i + 1)) r.entries }
    go true has = ap (λ (es : List Entry). record r { entries = es })
        (map_map (entry_with_units i (capped_units (units_asked m.catalog.shape m.disks asked.size i))) (below m asked i) r.entries
        ∙ same_map (λ (e : Entry). entry_with_units i (capped_units (units_asked m.catalog.shape m.disks asked.size i)) (below m asked i e)) (below m asked (i + 1)) (λ e. one_asked m asked i e has) r.entries)
    go false has = ap (λ (es : List Entry). record r { entries = es }) (same_map (below m asked i) (below m asked (i + 1)) (λ e. one_not_asked m asked i e has) r.entries)

pub all_below : (m : MountedGroup) (asked : Asked) (r s : Status) (i : ℕ) → IsTrue (is_status r) → 64 ≤ i → IsBelow m asked r i s
    → s ≡ record r { entries = map (entry_capped m.catalog.shape m.disks asked) r.entries }
all_below m asked r s i allowed le is = is ∙ ap (λ (es : List Entry). record r { entries = es })
    (each_entry (below m asked i) (entry_capped m.catalog.shape m.disks asked)
    (λ e small. ap (λ (b : Bool). cond b (entry_capped m.catalog.shape m.disks asked e) e) (lt-ltb e.number i (omega (arith, small, le)))) r.entries (record_parts r allowed).entries)

-- ---- units that a disk may have are said in 32 bits

few_units : (e : Entry) → is_entry e ≡ true → e.units ≤ most_units
unfolding is_entry
few_units e ok =
    let a = and_parts (nat_lt e.number most_disks) _ ok in
    let b = and_parts (nat_lt e.birth (2 ^ 64)) _ a.1 in
    let c = and_parts (nat_lt e.failgroup 256) _ b.1 in
    leb-true e.units most_units (and_parts (nat_le e.units most_units) _ c.1).0

uncapped : (units : ℕ) → min units (2 ^ 32 - 1) ≤ most_units → capped_units units ≡ units
uncapped units le = omega (arith, le)

pub all_uncapped : (s : Shape) (disks : List (Option Attached)) (asked : Asked) (es : List Entry) → list_all is_entry (map (entry_capped s disks asked) es) ≡ true
    → map (entry_capped s disks asked) es ≡ map (entry_resized s disks asked) es
all_uncapped s disks asked [] ok = refl
all_uncapped s disks asked (e ∷ es) ok =
    let p = and_parts (is_entry (entry_capped s disks asked e)) (list_all is_entry (map (entry_capped s disks asked) es)) ok in
    let rest : map (entry_capped s disks asked) es ≡ map (entry_resized s disks asked) es = all_uncapped s disks asked es p.1 in
    λ i. go (has_bit asked.disks e.number) p.0 i ∷ rest i
  where
    go : (b : Bool) → is_entry (cond b (record e { units = capped_units (units_asked s disks asked.size e.number) }) e) ≡ true
        → cond b (record e { units = capped_units (units_asked s disks asked.size e.number) }) e ≡ cond b (record e { units = units_asked s disks asked.size e.number }) e
    go true good = ap (λ (n : ℕ). record e { units = n }) (uncapped (units_asked s disks asked.size e.number) (few_units (record e { units = capped_units (units_asked s disks asked.size e.number) }) good))
    go false good = refl

-- ---- no disk is to have other units

pub none_other : (s : Shape) (disks : List (Option Attached)) (asked : Asked) (es : List Entry) → list_any (is_other s disks asked) es ≡ false → es ≡ map (entry_resized s disks asked) es
none_other s disks asked [] none = refl
none_other s disks asked (e ∷ es) none =
    let p = neither (is_other s disks asked e) (list_any (is_other s disks asked) es) none in
    let rest : es ≡ map (entry_resized s disks asked) es = none_other s disks asked es p.1 in
    λ i. go (has_bit asked.disks e.number) p.0 i ∷ rest i
  where
    neither : (a b : Bool) → (a || b) ≡ false → (a ≡ false) × (b ≡ false)
    neither true b is = absurd cc
    neither false b is = (refl, is)

    so : (b : Bool) → not b ≡ false → b ≡ true
    so true is = refl
    so false is = absurd cc

    go : (b : Bool) → (b && not (units_asked s disks asked.size e.number == e.units)) ≡ false → e ≡ cond b (record e { units = units_asked s disks asked.size e.number }) e
    go true is = ap (λ (n : ℕ). record e { units = n }) (sym (eqb-true (units_asked s disks asked.size e.number) e.units (so (units_asked s disks asked.size e.number == e.units) is)))
    go false is = refl

pub of_status : (asked : Asked) (m : MountedGroup) (r next : Status) → r ≡ m.register.value → next ≡ record r { entries = map (entry_capped m.catalog.shape m.disks asked) r.entries } → HasAsked asked m next
of_status asked m r next held made = made ∙ ap (λ (s : Status). record s { entries = map (entry_capped m.catalog.shape m.disks asked) s.entries }) held

-- ---- both changes

pub units_put : (asked : Asked) (old new : MountedGroup) (next : Status) (r : Result (Unit {0}) Refusal) → new.catalog.tables ≡ old.catalog.tables → OnOk r (new.register.value ≡ with_next_number old.register next)
    → IsTrue (is_status next) → next ≡ record old.register.value { entries = map (entry_capped old.catalog.shape old.disks asked) old.register.value.entries } → OnOk r (PutsUnits asked old new)
units_put asked old new next r tables written allowed made = on_ok (new.register.value ≡ with_next_number old.register next) (PutsUnits asked old new) r put written
  where
    put : new.register.value ≡ with_next_number old.register next → PutsUnits asked old new
    put is = record {
      tables = tables;
      entries = ap (λ (s : Status). s.entries) is ∙ ap (λ (s : Status). s.entries) made
          ∙ all_uncapped old.catalog.shape old.disks asked old.register.value.entries (subst (λ (s : Status). list_all is_entry s.entries ≡ true) made (record_parts next allowed).entries);
      copies = ap (λ (s : Status). s.directories) is ∙ ap (λ (s : Status). s.directories) made;
    }

pub no_units_put : (asked : Asked) (m : MountedGroup) → list_any (is_other m.catalog.shape m.disks asked) m.register.value.entries ≡ false → PutsUnits asked m m
no_units_put asked m none = record { tables = refl; entries = none_other m.catalog.shape m.disks asked m.register.value.entries none; copies = refl }

pub rebalance_then_units : (power : ℕ) (asked : Asked) (a b c : MountedGroup) → IsSameGroup a b → PutsRebalance (Some power) a b → PutsUnits asked b c → ResizesDisks asked.disks asked.size power a c
rebalance_then_units power asked a b c same one two = record {
  tables = two.tables ∙ one.tables;
  entries = two.entries ∙ (λ i. map (entry_resized (same.shape i) (same.disks i) asked) (one.kept.entries i));
  copies = λ d lt has. one.kept.copies d lt (subst (λ (n : ℕ). has_bit n d ≡ true) two.copies has);
}

pub resized_behind : (disks : ℕ) (size : Option ℕ) (power : ℕ) (a b c : MountedGroup) (r : Result (Unit {0}) Refusal) → b ≡ record a { flight = None } → OnOk r (ResizesDisks disks size power b c)
    → OnOk r (ResizesDisks disks size power a c)
resized_behind disks size power a b c r is done =
    on_ok (ResizesDisks disks size power (record a { flight = None }) c) (ResizesDisks disks size power a c) r (λ done'. record { tables = done'.tables; entries = done'.entries; copies = done'.copies })
    (subst (λ (v : MountedGroup). OnOk r (ResizesDisks disks size power v c)) is done)
