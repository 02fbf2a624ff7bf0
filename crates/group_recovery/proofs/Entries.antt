-- The entries of the record that a mount writes anew.
use Rattle.std.proofs.Common.{◌≡◌, ℕ, ◌+◌, ◌<◌, ◌^◌, Bool, true, false, cond, ◌&&◌, not, List, [], ◌∷◌, length, map, take, set, get_or, refl, sym, ap, subst, ◌∙◌, Option, Some, None}
use Rattle.std.specs.Prelude.{is_some}
use Rattle.std.specs.List.{list_all}
use Rattle.std.specs.Option.{option_map}
use Rattle.std.proofs.lemmas.Bool.{cond_both, false≢true}
use Rattle.std.proofs.lemmas.List.{map_more, take_more_set}
use Rattle.asm_group.specs.declared.Mode.{Mode}
use Rattle.asm_group.specs.declared.Mode.TheVariants.{Online, Offline, Syncing, Dropping, Forced}
use Rattle.asm_formats.specs.Sets.{elements, has_bit}
use Rattle.asm_formats.specs.Status.{Entry, Status, ascends_from, entry_of, has_entry, is_entry, is_status}
use Rattle.asm_placement.specs.Modes.{is_forced, is_online, serves}
use Rattle.asm_placement.specs.Partners.{partner_set}
use Rattle.asm_images.specs.RecordLaws.{bare}
use Rattle.status_table.specs.Rules.{number_of_entry}
use Rattle.status_table.proofs.Allowed.{entry_fits, entry_is, parts_of, parts_are}
use Rattle.status_table.proofs.Kept.{kept_more}
use Rattle.group_recovery.specs.Missing.{has_disk_of_entry, is_missing}
use Rattle.group_recovery.specs.NextRecord.{entry_after_mount, entry_when_mounted}
use Rattle.group_recovery.specs.declared.quorum.Quorate.{Quorate}
use Rattle.asm_images.proofs.Bare.{same_entry}

-- ---- one entry

after_has : (P : Entry → Type 0) (missing marked : Bool) (now repair : ℕ) (e : Entry) → P (record e { mode = Offline; since = now; repair = repair })
    → P (record e { mode = Syncing }) → P e → P (entry_after_mount missing marked now repair e)
after_has P missing marked now repair e one two three = cond_both missing (record e { mode = Offline; since = now; repair = repair })
    (cond (is_online e.mode && marked) (record e { mode = Syncing }) e) P (λ is. one)
    (λ no. cond_both (is_online e.mode && marked) (record e { mode = Syncing }) e P (λ is. two) (λ out. three))

pub offline_fits : (now repair : ℕ) (e : Entry) → now < 2 ^ 64 → repair < 2 ^ 64 → is_entry e ≡ true
    → is_entry (record e { mode = Offline; since = now; repair = repair }) ≡ true
offline_fits now repair e small few ok =
    let f = entry_fits e ok in
    entry_is (record e { mode = Offline; since = now; repair = repair })
    (record { number = f.number; birth = f.birth; failgroup = f.failgroup; units = f.units; since = small; repair = few; partners = f.partners })

pub syncing_fits : (e : Entry) → is_entry e ≡ true → is_entry (record e { mode = Syncing }) ≡ true
syncing_fits e ok =
    let f = entry_fits e ok in
    entry_is (record e { mode = Syncing })
    (record { number = f.number; birth = f.birth; failgroup = f.failgroup; units = f.units; since = f.since; repair = f.repair; partners = f.partners })

forced_serves : (mode : Mode) → is_forced mode ≡ true → (serves mode ≡ false) × (is_online mode ≡ false)
forced_serves Online e = absurd (false≢true e)
forced_serves Offline e = absurd (false≢true e)
forced_serves Syncing e = absurd (false≢true e)
forced_serves Dropping e = absurd (false≢true e)
forced_serves Forced e = (refl, refl)

module _ (q : Quorate) (marked now : ℕ) where
  abbrev repair : ℕ
  repair = q.catalog.tables.templates.settings.attributes.repair

  pub moded_bare : (e : Entry) → bare (entry_when_mounted q marked now e) ≡ bare e
  moded_bare e = after_has (λ (x : Entry). bare x ≡ bare e) (is_missing q.id q.headed.items e) (has_bit marked e.number) now repair e refl refl refl

  pub moded_forced : (e : Entry) → is_forced e.mode ≡ true → is_forced (entry_when_mounted q marked now e).mode ≡ true
  moded_forced e is =
      let no = forced_serves e.mode is in
      (λ i. is_forced (cond (no.0 i && not (has_disk_of_entry q.id q.headed.items e)) (record e { mode = Offline; since = now; repair = repair })
      (cond (no.1 i && has_bit marked e.number) (record e { mode = Syncing }) e)).mode) ∙ is

  -- the loop over the entries
  pub more_moded : (xs ys : List Entry) (i : ℕ) (x y : Entry) → i < length xs → i < length ys → take i ys ≡ map (entry_when_mounted q marked now) (take i xs)
      → x ≡ get_or xs i x → y ≡ entry_when_mounted q marked now x → take (i + 1) (set ys i y) ≡ map (entry_when_mounted q marked now) (take (i + 1) xs)
  more_moded xs ys i x y within room so_far read is =
      take_more_set ys i y room ∙ rw (so_far, is, map_more (entry_when_mounted q marked now) xs i x within, ← read) refl

pub more_kept : (xs ys : List Entry) (i : ℕ) (x y : Entry) → i < length xs → i < length ys → x ≡ get_or xs i x → (is_entry x ≡ true → is_entry y ≡ true)
    → (list_all is_entry xs ≡ true → list_all is_entry (take i ys) ≡ true) → list_all is_entry xs ≡ true → list_all is_entry (take (i + 1) (set ys i y)) ≡ true
more_kept = kept_more

-- ---- a record with entries of the same disks

abbrev Bare : Type 0
Bare = ℕ × ℕ × ℕ × Bool

bare_numbers : (es : List Entry) → map number_of_entry es ≡ map (λ (b : Bare). b.0) (map bare es)
bare_numbers [] = refl
bare_numbers (e ∷ es) = ap (λ (l : List ℕ). e.number ∷ l) (bare_numbers es)

pub same_numbers : (xs ys : List Entry) → map bare xs ≡ map bare ys → map number_of_entry xs ≡ map number_of_entry ys
same_numbers xs ys e = bare_numbers xs ∙ ap (λ (l : List Bare). map (λ (b : Bare). b.0) l) e ∙ sym (bare_numbers ys)

some_same : (o p : Option Entry) → option_map bare o ≡ option_map bare p → is_some o ≡ is_some p
some_same None None e = refl
some_same None (Some y) e = absurd cc
some_same (Some x) None e = absurd cc
some_same (Some x) (Some y) e = refl

pub same_has : (xs ys : List Entry) (d : ℕ) → map bare xs ≡ map bare ys → has_entry xs d ≡ has_entry ys d
same_has xs ys d e = some_same (entry_of xs d) (entry_of ys d) (same_entry xs ys d e)

all_have : (xs ys : List Entry) (ds : List ℕ) → map bare xs ≡ map bare ys → list_all (has_entry xs) ds ≡ list_all (has_entry ys) ds
all_have xs ys [] e = refl
all_have xs ys (d ∷ ds) e = λ i. same_has xs ys d e i && all_have xs ys ds e i

pub with_entries_kept : (r : Status) (es : List Entry) → map bare es ≡ map bare r.entries → list_all is_entry es ≡ true → is_status r ≡ true
    → is_status (record r { entries = es }) ≡ true
with_entries_kept r es same all ok =
    let p = parts_of r ok in
    parts_are (record r { entries = es }) (record {
      id = p.id;
      epoch = p.epoch;
      turn = p.turn;
      births = p.births;
      holders = p.holders;
      next_holders = p.next_holders;
      directories = p.directories;
      all = all;
      up = ap (ascends_from 0) (same_numbers es r.entries same) ∙ p.up;
      of_holders = all_have es r.entries (elements r.holders) same ∙ p.of_holders;
      of_next = all_have es r.entries (elements r.next_holders) same ∙ p.of_next;
      of_directories = all_have es r.entries (elements r.directories) same ∙ p.of_directories;
    })

pub moded_all : (q : Quorate) (marked now : ℕ) (es : List Entry) → map bare (map (entry_when_mounted q marked now) es) ≡ map bare es
moded_all q marked now [] = refl
moded_all q marked now (e ∷ es) = λ i. moded_bare q marked now e i ∷ moded_all q marked now es i

pub partners_all : (all es : List Entry) → map bare (map (λ (e : Entry). record e { partners = partner_set all e.number }) es) ≡ map bare es
partners_all all [] = refl
partners_all all (e ∷ es) = ap (λ (l : List Bare). bare e ∷ l) (partners_all all es)

-- the record with the entries that the loop gives
pub moded_kept : (q : Quorate) (marked now : ℕ) (r : Status) (es made : List Entry) (after : Status) → es ≡ r.entries
    → take (length es) made ≡ map (entry_when_mounted q marked now) es → (list_all is_entry es ≡ true → list_all is_entry (take (length es) made) ≡ true)
    → after ≡ record r { entries = take (length es) made } → is_status r ≡ true → is_status after ≡ true
moded_kept q marked now r es made after same is kept whole ok =
    subst (λ (x : Status). is_status x ≡ true) (sym whole)
    (with_entries_kept r (take (length es) made)
    (ap (map bare) is ∙ moded_all q marked now es ∙ ap (map bare) same)
    (kept (ap (list_all is_entry) same ∙ (parts_of r ok).all)) ok)
