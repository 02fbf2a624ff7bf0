-- A disk that expires leaves a directory copy.
use Rattle.std.proofs.Common.{◌≡◌, ◌≢◌, ⊎_elim, inl, inr, ℕ, zero, suc, ◌+◌, ◌<◌, ◌≤◌, ◌==◌, Bool, true, false, cond, not, ◌&&◌, ◌||◌, List, [], ◌∷◌, find, filter, length, Option, Some, None, refl, sym, ap, subst, ◌∙◌, arith}
use Rattle.std.specs.List.{range_with_len}
use Rattle.std.specs.Option.{is_none, option_map}
use Rattle.std.proofs.lemmas.Bool.{and_parts, cases_Bool, eq-eqb, eqb-true, false≢true, ne_eqb}
use Rattle.std.proofs.lemmas.Option.{same_Some}
use Rattle.asm_formats.specs.Among.{IsAmong}
use Rattle.asm_formats.specs.Sets.{elements, has_bit, most_disks}
use Rattle.asm_formats.specs.Status.{Entry, Status}
use Rattle.asm_images.proofs.Committing.{find_passes}
use Rattle.asm_images.proofs.Replacing.{found_among}
use Rattle.group_reports.specs.catalog_tables.Tables.{Catalogued}
use Rattle.record_laws.specs.group_engine.Mounts.{MountedGroup}
use Rattle.record_laws.proofs.group_engine.Including.{element_of}
use Rattle.record_laws.proofs.group_engine.Sets.{element_bit, element_small}
use Rattle.group_reports.specs.Disks.{expiring, holds_all, is_repair_time_up, may_go}
use Rattle.group_reports.specs.Extents.{first_lost}
use Rattle.disk_modes.specs.declared.records.NewModes.TheVariants as modes
use Rattle.disk_modes.specs.Directories.{IsLeft, LeavesCopy}
use Rattle.disk_modes.specs.Stops.{MayPutModes}
use Rattle.disk_modes.proofs.Checked.{none_passes}

-- ---- a set of which one disk isn't the only one has another

-- none from a number on, where each that is there is a lesser one
none_above : (t : ℕ → Bool) (n from d : ℕ) → d < from → ((k : ℕ) → IsAmong (filter t (range_with_len from n)) k → k ≡ d) → length (filter t (range_with_len from n)) ≤ 0
none_above t zero from d lt all = omega arith
none_above t (suc n) from d lt all = go (t from) all (λ rest. none_above t n (from + 1) d (omega (arith, lt)) rest)
  where
    go : (b : Bool) → ((k : ℕ) → IsAmong (cond b (from ∷ filter t (range_with_len (from + 1) n)) (filter t (range_with_len (from + 1) n))) k → k ≡ d)
        → (((k : ℕ) → IsAmong (filter t (range_with_len (from + 1) n)) k → k ≡ d) → length (filter t (range_with_len (from + 1) n)) ≤ 0)
        → length (cond b (from ∷ filter t (range_with_len (from + 1) n)) (filter t (range_with_len (from + 1) n))) ≤ 0
    go true each later = absurd (omega (arith, lt, each from (inl refl)))
    go false each later = later each

one_at_most : (t : ℕ → Bool) (n from d : ℕ) → ((k : ℕ) → IsAmong (filter t (range_with_len from n)) k → k ≡ d) → length (filter t (range_with_len from n)) ≤ 1
one_at_most t zero from d all = omega arith
one_at_most t (suc n) from d all = go (t from) all (λ rest. one_at_most t n (from + 1) d rest)
  where
    go : (b : Bool) → ((k : ℕ) → IsAmong (cond b (from ∷ filter t (range_with_len (from + 1) n)) (filter t (range_with_len (from + 1) n))) k → k ≡ d)
        → (((k : ℕ) → IsAmong (filter t (range_with_len (from + 1) n)) k → k ≡ d) → length (filter t (range_with_len (from + 1) n)) ≤ 1)
        → length (cond b (from ∷ filter t (range_with_len (from + 1) n)) (filter t (range_with_len (from + 1) n))) ≤ 1
    go true each later =
        let same : from ≡ d = each from (inl refl) in
        omega (arith, none_above t n (from + 1) d (omega (arith, same)) (λ k h. each k (inr h)))
    go false each later = later each

one_element : (set d : ℕ) → ((k : ℕ) → IsAmong (elements set) k → k ≡ d) → length (elements set) ≤ 1
unfolding elements
one_element set d all = one_at_most (has_bit set) most_disks 0 d all

some_element : (xs : List ℕ) (d : ℕ) → IsAmong xs d → 1 ≤ length xs
some_element [] d among = absurd among
some_element (x ∷ xs) d among = omega arith

not_false : (b : Bool) → not b ≡ false → b ≡ true
not_false true is = refl
not_false false is = absurd cc

-- another disk of the set
another : (set d : ℕ) → d < 64 → has_bit set d ≡ true → holds_all set d ≡ false → (k : ℕ) × IsAmong (elements set) k × (k ≢ d)
another set d lt has alone = go (find (λ (k : ℕ). not (k == d)) (elements set)) refl
  where
    go : (o : Option ℕ) → find (λ (k : ℕ). not (k == d)) (elements set) ≡ o → (k : ℕ) × IsAmong (elements set) k × (k ≢ d)
    go (Some k) found = (
      k,
      found_among (λ (j : ℕ). not (j == d)) (elements set) k found,
      λ same. false≢true (ap not (sym (eq-eqb k d same)) ∙ find_passes (λ (j : ℕ). not (j == d)) (elements set) k found),
    )
    go None none =
        let each : (k : ℕ) → IsAmong (elements set) k → k ≡ d = λ k among. eqb-true k d (not_false (k == d) (none_passes (λ (j : ℕ). not (j == d)) (elements set) none k among)) in
        let one : length (elements set) ≡ 1 = omega (arith, one_element set d each, some_element (elements set) d (element_of set d lt has)) in
        absurd (false≢true (sym alone ∙ (λ i. has i && eq-eqb (length (elements set)) 1 one i)))

-- ---- so a copy is left

not_so : (b : Bool) → (b ≡ true → ⊥) → b ≡ false
not_so true f = absurd (f refl)
not_so false f = refl

other_bit : (none forced d k : ℕ) → none ≡ 0 → ((j : ℕ) → has_bit 0 j ≡ false) → ((j : ℕ) → j < 64 → has_bit forced j ≡ (j == d || has_bit none j)) → k < 64 → k ≢ d → has_bit forced k ≡ false
other_bit none forced d k empty clear is lt differ = is k lt ∙ (λ i. ne_eqb k d differ i || has_bit (empty i) k) ∙ clear k

pub copy_left : (c : Catalogued) (r : Status) (none forced d : ℕ) → none ≡ 0 → ((j : ℕ) → has_bit 0 j ≡ false) → ((j : ℕ) → j < 64 → has_bit forced j ≡ (j == d || has_bit none j)) → may_go c r d ≡ true
    → LeavesCopy r.directories forced
copy_left c r none forced d empty clear is goes k lt has = ⊎_elim
    (λ (same : (k == d) ≡ true).
    let at : k ≡ d = eqb-true k d same in
    let free : holds_all r.directories d ≡ false = not_true (holds_all r.directories d) (and_parts (not (holds_all r.directories d)) (is_none (first_lost r.entries c d)) goes).0 in
    let x = another r.directories d (subst (λ (j : ℕ). j < 64) at lt) (ap (has_bit r.directories) (sym at) ∙ has) free in
    left x.0 (element_small r.directories x.0 x.1) (element_bit r.directories x.0 x.1) x.2)
    (λ (differ : (k == d) ≡ false). left k lt has (λ same. false≢true (sym differ ∙ eq-eqb k d same)))
    (cases_Bool (k == d))
  where
    not_true : (b : Bool) → not b ≡ true → b ≡ false
    not_true true is = absurd cc
    not_true false is = refl

    left : (j : ℕ) → j < 64 → has_bit r.directories j ≡ true → j ≢ d → IsLeft r.directories forced
    left j small bit differ = record { disk = j; small = small; has = bit; stays = other_bit none forced d j empty clear is small differ }

-- the disk that expires may go
pub expiring_goes : (c : Catalogued) (r : Status) (now d : ℕ) → expiring c r now ≡ Some d → may_go c r d ≡ true
expiring_goes c r now d is = go (find (λ (e : Entry). is_repair_time_up now e && may_go c r e.number) r.entries) refl is
  where
    go : (o : Option Entry) → find (λ (e : Entry). is_repair_time_up now e && may_go c r e.number) r.entries ≡ o → option_map (λ (e : Entry). e.number) o ≡ Some d → may_go c r d ≡ true
    go None found number = absurd cc
    go (Some e) found number =
        ap (may_go c r) (sym (same_Some e.number d number)) ∙ (and_parts (is_repair_time_up now e) (may_go c r e.number) (find_passes (λ (x : Entry). is_repair_time_up now x && may_go c r x.number) r.entries e found)).1

pub expiring_of : (m : MountedGroup) (c : Catalogued) (r : Status) (now d : ℕ) → c ≡ m.catalog → r ≡ m.register.value → Some d ≡ expiring c r now → may_go m.catalog m.register.value d ≡ true
expiring_of m c r now d same held is = subst (λ (x : Catalogued). may_go x m.register.value d ≡ true) same (subst (λ (x : Status). may_go c x d ≡ true) held (expiring_goes c r now d (sym is)))

pub may_force : (m : MountedGroup) (none dropping forced d : ℕ) → dropping ≡ 0 → none ≡ 0 → ((j : ℕ) → has_bit 0 j ≡ false) → ((j : ℕ) → j < 64 → has_bit forced j ≡ (j == d || has_bit none j))
    → may_go m.catalog m.register.value d ≡ true → MayPutModes (modes.Dropped dropping forced) m.register.value
may_force m none dropping forced d nothing empty clear is goes = record {
  taken = λ e among out has. absurd (false≢true (sym (ap (λ (n : ℕ). has_bit n e.number) nothing ∙ clear e.number) ∙ has));
  left = copy_left m.catalog m.register.value none forced d empty clear is goes;
}
