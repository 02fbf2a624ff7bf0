-- A record of the format stays one where one thing of it changes.
use Rattle.std.proofs.Common.{◌≡◌, ℕ, zero, suc, ◌+◌, ◌^◌, ◌<◌, Bool, true, false, cond, eqb, ◌≤◌, List, [], ◌∷◌, ◌++◌, length, map, take, set, get_or, refl, ap, ◌∙◌, arith, inl}
use Rattle.std.specs.List.{list_all}
use Rattle.std.proofs.lemmas.Bool.{and_parts, and_from, cond_both}
use Rattle.std.proofs.lemmas.List.{take_more_set}
use Rattle.asm_formats.specs.asm_group.declared.Mode.{Mode}
use Rattle.asm_formats.specs.asm_group.declared.Mode.TheVariants.{Offline}
use Rattle.asm_formats.specs.Sets.{elements, has_bit}
use Rattle.asm_formats.specs.Status.{Entry, Status, is_entry, is_status, entry_of, has_entry, have_entries, ascends_from}
use Rattle.asm_formats.specs.Following.{sets_of, disks_of, sets, Holder, Follows, FollowsSets}
use Rattle.status_table.specs.Rules.{number_of_entry}
use Rattle.status_table.specs.Changes.{entries_with_partners, status_with_mode, status_with_offline, status_with_partners, status_with_repair, status_with_units}
use Rattle.status_table.specs.EntryChanges.{entry_after_change, entry_with}
use Rattle.status_table.specs.declared.entries.EntryChange.{EntryChange}
use Rattle.status_table.specs.declared.entries.EntryChange.TheVariants.{InMode, OfflineFor, WithUnits, WithRepair}
use Rattle.status_table.proofs.Allowed.{parts_of, parts_are, entry_fits, entry_is}

-- ---- entries of the same numbers

heads : (a : ℕ) (xs : List ℕ) (b : ℕ) (ys : List ℕ) → a ∷ xs ≡ b ∷ ys → (a ≡ b) × (xs ≡ ys)
heads a xs b ys e = (cc, cc)

found_same : (x y : Entry) (es fs : List Entry) (d : ℕ) → x.number ≡ y.number → has_entry es d ≡ has_entry fs d → has_entry (x ∷ es) d ≡ has_entry (y ∷ fs) d
unfolding entry_of
found_same x y es fs d same rest = by (eqb y.number d) refl where
  by : (b : Bool) → eqb y.number d ≡ b → has_entry (x ∷ es) d ≡ has_entry (y ∷ fs) d
  by true here = rw (same, here) refl
  by false other = rw (same, other) rest

same_has : (es fs : List Entry) (d : ℕ) → map number_of_entry es ≡ map number_of_entry fs → has_entry es d ≡ has_entry fs d
unfolding entry_of
same_has [] [] d e = refl
same_has [] (f ∷ fs) d e = absurd cc
same_has (x ∷ es) [] d e = absurd cc
same_has (x ∷ es) (f ∷ fs) d e =
    let both = heads x.number (map number_of_entry es) f.number (map number_of_entry fs) e in
    found_same x f es fs d both.0 (same_has es fs d both.1)

same_have : (es fs : List Entry) (ds : List ℕ) → map number_of_entry es ≡ map number_of_entry fs → list_all (has_entry es) ds ≡ list_all (has_entry fs) ds
same_have es fs [] e = refl
same_have es fs (d ∷ ds) e = rw (same_has es fs d e, same_have es fs ds e) refl

-- a record with other entries of the same numbers
with_entries_kept : (r : Status) (es : List Entry) → map number_of_entry es ≡ map number_of_entry r.entries → list_all is_entry es ≡ true → is_status r ≡ true → is_status (record r { entries = es }) ≡ true
with_entries_kept r es same all ok =
    let p = parts_of r ok in
    parts_are (record r { entries = es }) (record {
      id = p.id;
      epoch = p.epoch;
      turn = p.turn;
      births = p.births;
      holders = p.holders;
      next_holders = p.next_holders;
      directories = p.directories;
      all = all;
      up = ap (ascends_from 0) same ∙ p.up;
      of_holders = same_have es r.entries (elements r.holders) same ∙ p.of_holders;
      of_next = same_have es r.entries (elements r.next_holders) same ∙ p.of_next;
      of_directories = same_have es r.entries (elements r.directories) same ∙ p.of_directories;
    })

-- ---- one disk's entry changed

-- a change of one disk's entry that leaves its number and the format
module _ (disk : ℕ) (change : EntryChange) (number : (e : Entry) → (entry_after_change change e).number ≡ e.number) (fits : (e : Entry) → is_entry e ≡ true → is_entry (entry_after_change change e) ≡ true) where
  change_number : (e : Entry) → (entry_with disk change e).number ≡ e.number
  change_number e = cond_both (eqb e.number disk) (entry_after_change change e) e (λ (x : Entry). x.number ≡ e.number) (λ same. number e) (λ other. refl)

  change_numbers : (es : List Entry) → map number_of_entry (map (entry_with disk change) es) ≡ map number_of_entry es
  change_numbers [] = refl
  change_numbers (e ∷ es) = λ i. change_number e i ∷ change_numbers es i

  change_entry : (e : Entry) → is_entry e ≡ true → is_entry (entry_with disk change e) ≡ true
  change_entry e ok = cond_both (eqb e.number disk) (entry_after_change change e) e (λ (x : Entry). is_entry x ≡ true) (λ same. fits e ok) (λ other. ok)

  change_entries : (es : List Entry) → list_all is_entry es ≡ true → list_all is_entry (map (entry_with disk change) es) ≡ true
  change_entries [] all = refl
  change_entries (e ∷ es) all =
      let a = and_parts (is_entry e) (list_all is_entry es) all in
      and_from (is_entry (entry_with disk change e)) (list_all is_entry (map (entry_with disk change) es)) (change_entry e a.0) (change_entries es a.1)

  change_keeps : (r : Status) → is_status r ≡ true → is_status (record r { entries = map (entry_with disk change) r.entries }) ≡ true
  change_keeps r ok = with_entries_kept r (map (entry_with disk change) r.entries) (change_numbers r.entries) (change_entries r.entries (parts_of r ok).all) ok

pub mode_keeps : (r : Status) (disk : ℕ) (mode : Mode) (since : ℕ) → since < 2 ^ 64 → is_status r ≡ true → is_status (status_with_mode r disk mode since) ≡ true
mode_keeps r disk mode since small ok = change_keeps disk (InMode mode since) (λ e. refl)
    (λ e fit. let f = entry_fits e fit in
    entry_is (record e { mode = mode; since = since }) (record { number = f.number; birth = f.birth; failgroup = f.failgroup; units = f.units; since = small; repair = f.repair; partners = f.partners })) r ok

pub offline_keeps : (r : Status) (disk since repair : ℕ) → since < 2 ^ 64 → repair < 2 ^ 64 → is_status r ≡ true → is_status (status_with_offline r disk since repair) ≡ true
offline_keeps r disk since repair small few ok = change_keeps disk (OfflineFor since repair) (λ e. refl)
    (λ e fit. let f = entry_fits e fit in
    entry_is (record e { mode = Offline; since = since; repair = repair }) (record { number = f.number; birth = f.birth; failgroup = f.failgroup; units = f.units; since = small; repair = few; partners = f.partners })) r ok

pub units_keep : (r : Status) (disk units : ℕ) → units ≤ 16777216 → is_status r ≡ true → is_status (status_with_units r disk units) ≡ true
units_keep r disk units few ok = change_keeps disk (WithUnits units) (λ e. refl)
    (λ e fit. let f = entry_fits e fit in
    entry_is (record e { units = units }) (record { number = f.number; birth = f.birth; failgroup = f.failgroup; units = few; since = f.since; repair = f.repair; partners = f.partners })) r ok

pub repair_keeps : (r : Status) (disk repair : ℕ) → repair < 2 ^ 64 → is_status r ≡ true → is_status (status_with_repair r disk repair) ≡ true
repair_keeps r disk repair few ok = change_keeps disk (WithRepair repair) (λ e. refl)
    (λ e fit. let f = entry_fits e fit in
    entry_is (record e { repair = repair }) (record { number = f.number; birth = f.birth; failgroup = f.failgroup; units = f.units; since = f.since; repair = few; partners = f.partners })) r ok

-- ---- other partners

partner_numbers : (es : List Entry) (sets : List ℕ) → length sets ≡ length es → map number_of_entry (entries_with_partners es sets) ≡ map number_of_entry es
partner_numbers [] [] e = refl
partner_numbers [] (s ∷ sets) e = absurd (omega arith)
partner_numbers (x ∷ es) [] e = absurd (omega arith)
partner_numbers (x ∷ es) (s ∷ sets) e = ap (λ (ns : List ℕ). x.number ∷ ns) (partner_numbers es sets (omega arith))

pub partners_keep : (r : Status) (sets : List ℕ) → length sets ≡ length r.entries → (list_all is_entry r.entries ≡ true → list_all is_entry (entries_with_partners r.entries sets) ≡ true) → is_status r ≡ true → is_status (status_with_partners r sets) ≡ true
partners_keep r sets len fit ok =
    with_entries_kept r (entries_with_partners r.entries sets) (partner_numbers r.entries sets len) (fit (parts_of r ok).all) ok

pub partner_entry : (e : Entry) (s : ℕ) → s < 2 ^ 64 → is_entry e ≡ true → is_entry (record e { partners = s }) ≡ true
partner_entry e s small ok =
    let f = entry_fits e ok in
    entry_is (record e { partners = s }) (record { number = f.number; birth = f.birth; failgroup = f.failgroup; units = f.units; since = f.since; repair = f.repair; partners = small })

pub kept_more : (xs ys : List Entry) (i : ℕ) (x y : Entry) → i < length xs → i < length ys → x ≡ get_or xs i x → (is_entry x ≡ true → is_entry y ≡ true) → (list_all is_entry xs ≡ true → list_all is_entry (take i ys) ≡ true) → list_all is_entry xs ≡ true → list_all is_entry (take (i + 1) (set ys i y)) ≡ true
kept_more xs ys i x y within room read step so_far all =
    rw (take_more_set ys i y room) (all_pushed (take i ys) y (so_far all) (step (rw read (all_at xs i x within all)))) where
      all_at : (xs : List Entry) (i : ℕ) (d : Entry) → i < length xs → list_all is_entry xs ≡ true → is_entry (get_or xs i d) ≡ true
      all_at [] i d lt all = absurd (omega arith)
      all_at (x ∷ xs) zero d lt all = (and_parts (is_entry x) (list_all is_entry xs) all).0
      all_at (x ∷ xs) (suc i) d lt all = all_at xs i d (omega arith) (and_parts (is_entry x) (list_all is_entry xs) all).1

      all_pushed : (xs : List Entry) (y : Entry) → list_all is_entry xs ≡ true → is_entry y ≡ true → list_all is_entry (xs ++ y ∷ []) ≡ true
      all_pushed [] y all ok = rw ok refl
      all_pushed (x ∷ xs) y all ok =
          let a = and_parts (is_entry x) (list_all is_entry xs) all in
          and_from (is_entry x) (list_all is_entry (xs ++ y ∷ [])) a.0 (all_pushed xs y a.1 ok)

-- ---- other sets

pub dirs_keep : (r : Status) (dirs : ℕ) → dirs < 2 ^ 64 → is_status r ≡ true → have_entries r.entries dirs ≡ true → is_status (record r { directories = dirs }) ≡ true
dirs_keep r dirs small ok have =
    let p = parts_of r ok in
    parts_are (record r { directories = dirs }) (record { id = p.id; epoch = p.epoch; turn = p.turn; births = p.births; holders = p.holders; next_holders = p.next_holders; directories = small; all = p.all; up = p.up; of_holders = p.of_holders; of_next = p.of_next; of_directories = have })

pub next_keeps : (r : Status) (next : ℕ) → next < 2 ^ 64 → is_status r ≡ true → have_entries r.entries next ≡ true → is_status (record r { next_holders = next }) ≡ true
next_keeps r next small ok have =
    let p = parts_of r ok in
    parts_are (record r { next_holders = next }) (record { id = p.id; epoch = p.epoch; turn = p.turn; births = p.births; holders = p.holders; next_holders = small; directories = p.directories; all = p.all; up = p.up; of_holders = p.of_holders; of_next = have; of_directories = p.of_directories })

none_have : (es : List Entry) → have_entries es 0 ≡ true
unfolding elements has_bit
none_have es = refl

pub holders_keep : (r : Status) (holders : ℕ) → holders < 2 ^ 64 → is_status r ≡ true → have_entries r.entries holders ≡ true → is_status (record r { holders = holders; next_holders = 0 }) ≡ true
holders_keep r holders small ok have =
    let p = parts_of r ok in
    parts_are (record r { holders = holders; next_holders = 0 }) (record { id = p.id; epoch = p.epoch; turn = p.turn; births = p.births; holders = small; next_holders = omega arith; directories = p.directories; all = p.all; up = p.up; of_holders = have; of_next = none_have r.entries; of_directories = p.of_directories })

-- ---- the greatest birth, and the mark of a dropped group

pub births_keep : (r : Status) (births : ℕ) → births < 2 ^ 64 → is_status r ≡ true → is_status (record r { births = births }) ≡ true
births_keep r births small ok =
    let p = parts_of r ok in
    parts_are (record r { births = births }) (record { id = p.id; epoch = p.epoch; turn = p.turn; births = small; holders = p.holders; next_holders = p.next_holders; directories = p.directories; all = p.all; up = p.up; of_holders = p.of_holders; of_next = p.of_next; of_directories = p.of_directories })

pub gone_keeps : (r : Status) → is_status r ≡ true → is_status (record r { gone = true }) ≡ true
gone_keeps r ok =
    let p = parts_of r ok in
    parts_are (record r { gone = true }) (record { id = p.id; epoch = p.epoch; turn = p.turn; births = p.births; holders = p.holders; next_holders = p.next_holders; directories = p.directories; all = p.all; up = p.up; of_holders = p.of_holders; of_next = p.of_next; of_directories = p.of_directories })

-- ---- the sets of a record

follow : (h n : List Holder) (b : Bool) (later : List (List Holder)) → later ≡ h ∷ cond b [] (n ∷ []) → FollowsSets (h ∷ cond b [] (n ∷ [])) later
follow h n true [] e = absurd cc
follow h n true (l ∷ ls) e = cc
follow h n false later e = inl e

pub same_sets : (v r : Status) → sets r ≡ sets v → Follows v r
unfolding sets_of
same_sets v r e = follow (disks_of v.entries v.holders) (disks_of v.entries v.next_holders) (eqb v.next_holders 0) (sets r) e
