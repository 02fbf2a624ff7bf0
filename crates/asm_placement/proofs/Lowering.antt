-- What a copy's new home does to the tests that count work.
use Rattle.std.proofs.Common.{◌≡◌, inl, inr, ⊎_elim, ℕ, zero, suc, ◌/◌, ◌%◌, ◌<◌, Bool, true, false, not, ◌&&◌, List, [], ◌∷◌, take, length, get_or, set, refl, sym, ap, ◌∙◌, subst, Option, Some, None, arith, ◌==◌}
use Rattle.std.specs.List.{list_all, list_any}
use Rattle.std.specs.Option.{is_some, is_none}
use Rattle.std.proofs.lemmas.Bool.{cond_both, and_parts, not-true, and_from, eq-eqb, eqb-true, both_ways, cases_eq, or_cases, or_left, or_right}
use Rattle.std.proofs.lemmas.List.{get_or-set_same, get_or-set_other, length-set}
use Rattle.asm_formats.specs.asm_group.declared.Mode.{Mode}
use Rattle.asm_formats.specs.asm_group.declared.Mode.TheVariants.{Online, Offline, Syncing, Dropping, Forced}
use Rattle.asm_formats.specs.Status.{Entry, entry_of}
use Rattle.asm_formats.specs.Items.{Item, chunk_item, Home, Homes}
use Rattle.asm_formats.specs.Among.{IsAmong}
use Rattle.asm_placement.specs.Modes.{is_online, leaves, stays, mode_is}
use Rattle.asm_placement.specs.Tables.{is_stale}
use Rattle.asm_placement.specs.Choices.{staying_disk, kept_disks}
use Rattle.asm_placement.specs.Copies.{Copy, home, entry_at_home, is_on, is_marked, shares_group, is_doubled}
use Rattle.asm_placement.specs.Moves.{with_home}
use Rattle.asm_placement.specs.Work.{keys_differ, is_marked_online, is_absent}
use Rattle.asm_placement.proofs.Chosen.{kept_among}
use Rattle.asm_placement.proofs.CopyPlaces.{IsOf, one_chunk, home_cleared, home_less}
use Rattle.asm_placement.proofs.MovedCopies.{moved}

-- ---- lists

any_take : {A : Type 0} (p : A → Bool) (xs : List A) (n : ℕ) (d : A) → list_any p (take n xs) ≡ true → (j : ℕ) × (j < n) × (j < length xs) × (p (get_or xs j d) ≡ true)
any_take p xs zero d e = absurd cc
any_take p [] (suc n) d e = absurd cc
any_take {A} p (x ∷ xs) (suc n) d e = ⊎_elim
    (λ here. (0, omega arith, omega arith, here))
    (λ there. later (any_take p xs n d there)) (or_cases (p x) (list_any p (take n xs)) e)
  where
    later : (j : ℕ) × (j < n) × (j < length xs) × (p (get_or xs j d) ≡ true) → (j : ℕ) × (j < suc n) × (j < length (x ∷ xs)) × (p (get_or (x ∷ xs) j d) ≡ true)
    later q = (suc q.0, omega (arith, q.1), omega (arith, q.2), q.3)

any_from : {A : Type 0} (p : A → Bool) (xs : List A) (n j : ℕ) (d : A) → j < n → j < length xs → p (get_or xs j d) ≡ true → list_any p (take n xs) ≡ true
any_from p xs zero j d lt in_list e = absurd (omega arith)
any_from p [] (suc n) j d lt in_list e = absurd (omega arith)
any_from p (x ∷ xs) (suc n) zero d lt in_list e = or_left (p x) _ e
any_from p (x ∷ xs) (suc n) (suc j) d lt in_list e = or_right (p x) _ (any_from p xs n j d (omega arith) (omega arith) e)

all_of : {A : Type 0} (t : A → Bool) (xs : List A) (x : A) → list_all t xs ≡ true → IsAmong xs x → t x ≡ true
all_of t [] x all h = absurd h
all_of t (y ∷ xs) x all (inl e) = ap t e ∙ (and_parts (t y) (list_all t xs) all).0
all_of t (y ∷ xs) x all (inr h) = all_of t xs x (and_parts (t y) (list_all t xs) all).1 h

not_so : (b : Bool) → (b ≡ true → ⊥) → b ≡ false
not_so true h = absurd (h refl)
not_so false h = refl

-- ---- the new home, on a disk that is Online and shares no failure group with a kept copy

pub record IsNewHome (es : List Entry) (replaced : ℕ) (old : Homes) (h : Home) : Type 0 where
  pub disk : Entry
  pub found : entry_of es h.disk ≡ Some disk
  pub online : is_online disk.mode ≡ true
  pub apart : list_all (λ (k : Entry). not (k.failgroup == disk.failgroup)) (kept_disks es replaced old) ≡ true
  pub inside : replaced < length old

pub online_stays : (m : Mode) → is_online m ≡ true → stays m ≡ true
online_stays Online e = refl
online_stays Offline e = absurd cc
online_stays Syncing e = absurd cc
online_stays Dropping e = absurd cc
online_stays Forced e = absurd cc

pub online_is_here : (m : Mode) → is_online m ≡ true → leaves m ≡ false
online_is_here Online e = refl
online_is_here Offline e = absurd cc
online_is_here Syncing e = absurd cc
online_is_here Dropping e = absurd cc
online_is_here Forced e = absurd cc

new_stays : (es : List Entry) (c : ℕ) (old : Homes) (h : Home) (n : IsNewHome es c old h) → staying_disk es (Some h) ≡ Some n.disk
new_stays es c old h n = rw (n.found, online_stays n.disk.mode n.online) refl

shares_with : (a : Entry) (o : Option Entry) → shares_group (Some a) o ≡ true → (e : Entry) × (o ≡ Some e) × (a.failgroup ≡ e.failgroup)
shares_with a None e = absurd cc
shares_with a (Some b) e = (b, refl, eqb-true a.failgroup b.failgroup e)

shares_of : (o : Option Entry) (b : Entry) → shares_group o (Some b) ≡ true → (e : Entry) × (o ≡ Some e) × (e.failgroup ≡ b.failgroup)
shares_of None b e = absurd cc
shares_of (Some a) b e = (a, refl, eqb-true a.failgroup b.failgroup e)

-- a copy that stays shares no failure group with the new home's disk
kept_apart : (es : List Entry) (c j : ℕ) (old : Homes) (h : Home) (n : IsNewHome es c old h) (e : Entry) → (j ≡ c → ⊥) → staying_disk es (get_or old j None) ≡ Some e → e.failgroup ≡ n.disk.failgroup → ⊥
kept_apart es c j old h n e other is same =
    let kept = kept_among es c 0 j old e (λ k. other (omega arith)) is in
    let apart = all_of (λ (k : Entry). not (k.failgroup == n.disk.failgroup)) (kept_disks es c old) e n.apart kept in
    both_ways (e.failgroup == n.disk.failgroup) (not-true (e.failgroup == n.disk.failgroup) apart) (eq-eqb e.failgroup n.disk.failgroup same)

-- is a copy number doubled, with these homes
abbrev doubled_at : List Entry → ℕ → Homes → Bool
doubled_at es n homes = list_any (λ h. shares_group (staying_disk es (get_or homes n None)) (staying_disk es h)) (take n homes)

doubled_new : (es : List Entry) (c : ℕ) (old : Homes) (h : Home) → IsNewHome es c old h → doubled_at es c (set old c (Some h)) ≡ false
doubled_new es c old h n = not_so (doubled_at es c (set old c (Some h))) (λ yes.
    let new : get_or (set old c (Some h)) c None ≡ Some h = get_or-set_same old c (Some h) None n.inside in
    let at = any_take (λ k. shares_group (staying_disk es (get_or (set old c (Some h)) c None)) (staying_disk es k)) (set old c (Some h)) c None yes in
    let other : at.0 ≡ c → ⊥ = λ e. omega (arith, at.1, e) in
    let was : get_or (set old c (Some h)) at.0 None ≡ get_or old at.0 None = get_or-set_other old c at.0 (Some h) None other in
    let both : shares_group (Some n.disk) (staying_disk es (get_or old at.0 None)) ≡ true = ap (λ (o : Option Entry). shares_group o (staying_disk es (get_or old at.0 None))) (sym (ap (staying_disk es) new ∙ new_stays es c old h n)) ∙ ap (λ (k : Option Home). shares_group (staying_disk es (get_or (set old c (Some h)) c None)) (staying_disk es k)) (sym was) ∙ at.3 in
    let p = shares_with n.disk (staying_disk es (get_or old at.0 None)) both in
    kept_apart es c at.0 old h n p.0 other p.1 (sym p.2))

doubled_other : (es : List Entry) (c m : ℕ) (old : Homes) (h : Home) → IsNewHome es c old h → (m ≡ c → ⊥) → doubled_at es m (set old c (Some h)) ≡ true → doubled_at es m old ≡ true
doubled_other es c m old h n differ there =
    let mine : get_or (set old c (Some h)) m None ≡ get_or old m None = get_or-set_other old c m (Some h) None differ in
    let at = any_take (λ k. shares_group (staying_disk es (get_or (set old c (Some h)) m None)) (staying_disk es k)) (set old c (Some h)) m None there in
    let still : shares_group (staying_disk es (get_or old m None)) (staying_disk es (get_or (set old c (Some h)) at.0 None)) ≡ true = ap (λ (k : Option Home). shares_group (staying_disk es k) (staying_disk es (get_or (set old c (Some h)) at.0 None))) (sym mine) ∙ at.3 in
    elim (cases_eq at.0 c) [
      | inl same ↦
          let new : get_or (set old c (Some h)) at.0 None ≡ Some h = ap (λ (j : ℕ). get_or (set old c (Some h)) j None) same ∙ get_or-set_same old c (Some h) None n.inside in
          let both : shares_group (staying_disk es (get_or old m None)) (Some n.disk) ≡ true = ap (λ (o : Option Entry). shares_group (staying_disk es (get_or old m None)) o) (sym (ap (staying_disk es) new ∙ new_stays es c old h n)) ∙ still in
          let p = shares_of (staying_disk es (get_or old m None)) n.disk both in
          absurd (kept_apart es c m old h n p.0 differ p.1 p.2)
      | inr other ↦
          let was : get_or (set old c (Some h)) at.0 None ≡ get_or old at.0 None = get_or-set_other old c at.0 (Some h) None other in
          any_from (λ k. shares_group (staying_disk es (get_or old m None)) (staying_disk es k)) old m at.0 None at.1 (omega (arith, at.2, length-set old c (Some h)))
          (ap (λ (k : Option Home). shares_group (staying_disk es (get_or old m None)) (staying_disk es k)) (sym was) ∙ still)
    ]

-- ---- tests before and after

abbrev pub with_new : ℕ → Home → Copy → Copy
with_new c h y = record y { homes = set y.homes c (Some h) }

-- The test afterwards passes only what passed before, and not the copy with the new home.
pub record Lowers (x : Copy) (h : Home) (t u : Copy → Bool) : Type 0 where
  pub same : (y : Copy) → u y ≡ true → t y ≡ true
  pub new : (y : Copy) → y.file ≡ x.file → y.index ≡ x.index → y.copy ≡ x.copy → y.homes ≡ x.homes → u (with_new x.copy h y) ≡ false
  pub other : (y : Copy) → y.homes ≡ x.homes → (y.copy ≡ x.copy → ⊥) → u (with_new x.copy h y) ≡ true → t y ≡ true

home_new : (es : List Entry) (x y : Copy) (h : Home) → IsNewHome es x.copy x.homes h → y.copy ≡ x.copy → y.homes ≡ x.homes → home (with_new x.copy h y) ≡ Some h
home_new es x y h n copy homes =
    ap (λ (c : ℕ). get_or (set y.homes x.copy (Some h)) c None) copy ∙ ap (λ (hs : Homes). get_or (set hs x.copy (Some h)) x.copy None) homes ∙ get_or-set_same x.homes x.copy (Some h) None n.inside

home_other : (x y : Copy) (h : Home) → (y.copy ≡ x.copy → ⊥) → home (with_new x.copy h y) ≡ home y
home_other x y h differ = get_or-set_other y.homes x.copy y.copy (Some h) None differ

pub marked_lowers : (es : List Entry) (items : List Item) (x : Copy) (h : Home) → Lowers x h (is_marked_online es items) (is_marked_online es (with_home x.file x.index x.copy h items))
marked_lowers es items x h =
    let later = with_home x.file x.index x.copy h items in
    record {
      same = λ y e.
          let a = and_parts (is_marked later y) (is_on is_online es y) e in
          let b = and_parts (is_some (home y)) (is_stale later y.file y.index y.copy) a.0 in
          and_from (is_marked items y) (is_on is_online es y) (and_from (is_some (home y)) (is_stale items y.file y.index y.copy) b.0 (home_less x.file x.index x.copy h items y.file y.index y.copy b.1)) a.1;
      new = λ y file index copy homes.
          let stale : is_stale later y.file y.index y.copy ≡ false = ap (λ (f : ℕ). is_stale later f y.index y.copy) file ∙ ap (λ (i : ℕ). is_stale later x.file i y.copy) index ∙ ap (λ (c : ℕ). is_stale later x.file x.index c) copy ∙ home_cleared x.file x.index x.copy h items in
          not_so _ (λ e.
          let a = and_parts (is_marked later (with_new x.copy h y)) (is_on is_online es (with_new x.copy h y)) e in
          both_ways (is_stale later y.file y.index y.copy) stale (and_parts (is_some (home (with_new x.copy h y))) (is_stale later y.file y.index y.copy) a.0).1);
      other = λ y homes differ e.
          let same = home_other x y h differ in
          let a = and_parts (is_marked later (with_new x.copy h y)) (is_on is_online es (with_new x.copy h y)) e in
          let b = and_parts (is_some (home (with_new x.copy h y))) (is_stale later y.file y.index y.copy) a.0 in
          and_from (is_marked items y) (is_on is_online es y)
          (and_from (is_some (home y)) (is_stale items y.file y.index y.copy) (ap (λ (o : Option Home). is_some o) (sym same) ∙ b.0) (home_less x.file x.index x.copy h items y.file y.index y.copy b.1))
          (ap (λ (o : Option Home). mode_is is_online (entry_at_home es o)) (sym same) ∙ a.1);
    }

pub absent_lowers : (es : List Entry) (x : Copy) (h : Home) → IsNewHome es x.copy x.homes h → Lowers x h is_absent is_absent
absent_lowers es x h n = record {
  same = λ y e. e;
  new = λ y file index copy homes. ap (λ (o : Option Home). is_none o) (home_new es x y h n copy homes);
  other = λ y homes differ e. ap (λ (o : Option Home). is_none o) (sym (home_other x y h differ)) ∙ e;
}

pub mode_lowers : (test : Mode → Bool) (es : List Entry) (x : Copy) (h : Home) → (n : IsNewHome es x.copy x.homes h) → test n.disk.mode ≡ false → Lowers x h (is_on test es) (is_on test es)
mode_lowers test es x h n out = record {
  same = λ y e. e;
  new = λ y file index copy homes. ap (λ (o : Option Home). mode_is test (entry_at_home es o)) (home_new es x y h n copy homes) ∙ ap (mode_is test) n.found ∙ out;
  other = λ y homes differ e. ap (λ (o : Option Home). mode_is test (entry_at_home es o)) (sym (home_other x y h differ)) ∙ e;
}

pub doubled_lowers : (es : List Entry) (x : Copy) (h : Home) → IsNewHome es x.copy x.homes h → Lowers x h (is_doubled es) (is_doubled es)
doubled_lowers es x h n = record {
  same = λ y e. e;
  new = λ y file index copy homes.
      ap (λ (c : ℕ). doubled_at es c (set y.homes x.copy (Some h))) copy ∙ ap (λ (hs : Homes). doubled_at es x.copy (set hs x.copy (Some h))) homes ∙ doubled_new es x.copy x.homes h n;
  other = λ y homes differ e.
      ap (doubled_at es y.copy) homes ∙ doubled_other es x.copy y.copy x.homes h n differ (ap (λ (hs : Homes). doubled_at es y.copy (set hs x.copy (Some h))) (sym homes) ∙ e);
}

-- ---- over all copies

same_extent_homes : (items : List Item) (x y : Copy) → keys_differ items ≡ true → IsOf items x → IsOf items y → y.file ≡ x.file → y.index ≡ x.index → y.homes ≡ x.homes
same_extent_homes items x y differ ox oy file index =
    let among = subst (λ (i : ℕ). IsAmong items (chunk_item x.file (i / 256) oy.chunk)) index (subst (λ (f : ℕ). IsAmong items (chunk_item f (y.index / 256) oy.chunk)) file oy.among) in
    let chunk : oy.chunk ≡ ox.chunk = one_chunk items x.file (x.index / 256) oy.chunk ox.chunk differ among ox.among in
    oy.homes ∙ ap (λ (l : List Homes). get_or l (y.index % 256) []) chunk ∙ ap (λ (i : ℕ). get_or ox.chunk (i % 256) []) index ∙ sym ox.homes

pub lowered : (items : List Item) (x : Copy) (h : Home) (t u : Copy → Bool) → Lowers x h t u → keys_differ items ≡ true → IsOf items x → (y : Copy) → IsOf items y
    → u (moved x.file x.index x.copy h y) ≡ true → t y ≡ true
lowered items x h t u low differ ox y oy = cond_both ((y.file == x.file) && (y.index == x.index)) (with_new x.copy h y) y (λ (z : Copy). u z ≡ true → t y ≡ true)
    (λ yes e.
    let parts = and_parts (y.file == x.file) (y.index == x.index) yes in
    let file = eqb-true y.file x.file parts.0 in
    let index = eqb-true y.index x.index parts.1 in
    let homes = same_extent_homes items x y differ ox oy file index in
    elim (cases_eq y.copy x.copy) [
      | inl same ↦ absurd (both_ways (u (with_new x.copy h y)) (low.new y file index same homes) e)
      | inr other ↦ low.other y homes other e
    ])
    (λ out e. low.same y e)

pub lowered_new : (x : Copy) (h : Home) (t u : Copy → Bool) → Lowers x h t u → u (moved x.file x.index x.copy h x) ≡ false
lowered_new x h t u low = rw (and_from (x.file == x.file) (x.index == x.index) (eq-eqb x.file x.file refl) (eq-eqb x.index x.index refl)) (low.new x refl refl refl refl)
