-- The record that a mount writes anew is made from what was read.
use Rattle.std.proofs.Common.{◌≡◌, inl, inr, ⊎_elim, ℕ, zero, suc, ◌+◌, ◌<◌, ◌≤◌, Bool, true, false, cond, ◌||◌, ◌&&◌, ◌==◌, ◌-◌, List, [], ◌∷◌, length, get_or, take, drop, map, refl, sym, ap, subst, ◌∙◌, Some, arith}
use Rattle.std.specs.Prelude.{is_some}
use Rattle.std.specs.List.{list_all, range_with_len}
use Rattle.std.specs.Option.{option_map}
use Rattle.std.proofs.lemmas.Bool.{and_parts, cases_lt, false≢true}
use Rattle.bay.specs.State.{BayState}
use Rattle.asm_base.proofs.Sets.{no_bit}
use Rattle.asm_formats.specs.Sets.{elements, has_bit, most_disks}
use Rattle.asm_formats.specs.Status.{Entry, Status, entry_of, has_entry, have_entries, is_entry}
use Rattle.asm_formats.specs.Among.{IsAmong}
use Rattle.asm_placement.specs.Partners.{HasPartners, partner_set}
use Rattle.asm_placement.proofs.Bits.{set_of_is}
use Rattle.asm_placement.proofs.Membership.{among_filter, among_filtered, filter_out, map_among}
use Rattle.directory_store.specs.change_directory.declared.copy.DirCopy.{DirCopy}
use Rattle.directory_store.specs.Stores.{has_copy_of_disk}
use Rattle.directory_store.proofs.Present.{has_of_disk}
use Rattle.directory_store.proofs.ReadingCopies.{part_among}
use Rattle.status_register.specs.Holders.{is_of}
use Rattle.status_register.specs.Registered.{is_same_birth}
use Rattle.status_register.specs.declared.member.Member.{Member}
use Rattle.status_table.proofs.Allowed.{entry_fits, parts_of}
use Rattle.group_recovery.specs.Loads.{copies_read}
use Rattle.group_recovery.specs.NextRecord.{IsNextRecord, MakesRecord, has_entry_of_disk, entry_when_mounted}
use Rattle.group_recovery.specs.Quorum.{IsQuorum}
use Rattle.group_recovery.specs.Renewing.{Renews}
use Rattle.group_recovery.specs.Verdicts.{member_of}
use Rattle.group_recovery.specs.declared.quorum.Quorate.{Quorate}
use Rattle.group_recovery.proofs.CopyLoads.{IsFrom, copy_from}
use Rattle.group_recovery.proofs.Entries.{moded_all, moded_bare, moded_forced, same_has}
use Rattle.group_recovery.proofs.Modes.{changed_is_renewed}
use Rattle.asm_placement.proofs.PartnersAnew.{has_partners}
use Rattle.group_recovery.proofs.Surveyed.{header_number}

-- ---- sets of disks

in_range : (n from d : ℕ) → from ≤ d → d < from + n → IsAmong (range_with_len from n) d
in_range zero from d le lt = absurd (omega (arith, le, lt))
in_range (suc n) from d le lt = ⊎_elim (λ (more : from < d). inr (in_range n (from + 1) d (omega (arith, more)) (omega (arith, lt)))) (λ (past : d ≤ from). inl (omega (arith, le, past))) (cases_lt from d)

pub in_elements : (set d : ℕ) → d < 64 → has_bit set d ≡ true → IsAmong (elements set) d
unfolding elements
in_elements set d lt bit = among_filtered (has_bit set) (range_with_len 0 most_disks) d (in_range 64 0 d (omega arith) (omega (arith, lt))) bit

pub element_bit : (set d : ℕ) → IsAmong (elements set) d → has_bit set d ≡ true
unfolding elements
element_bit set d h = filter_out (has_bit set) (range_with_len 0 most_disks) d h

pub element_small : (set d : ℕ) → IsAmong (elements set) d → d < 64
unfolding elements
element_small set d h = small 64 0 (among_filter (has_bit set) (range_with_len 0 most_disks) d h)
  where
    small : (n from : ℕ) → IsAmong (range_with_len from n) d → d < from + n
    small zero from h = absurd h
    small (suc n) from h = ⊎_elim (λ (e : d ≡ from). omega (arith, e)) (λ later. omega (arith, small n (from + 1) later)) h

all_from : (t : ℕ → Bool) (xs : List ℕ) → ((d : ℕ) → IsAmong xs d → t d ≡ true) → list_all t xs ≡ true
all_from t [] each = refl
all_from t (x ∷ xs) each = λ i. each x (inl refl) i && all_from t xs (λ d h. each d (inr h)) i

-- ---- entries

birth_has : (es : List Entry) (m : Member) → is_of es m ≡ true → has_entry_of_disk es m.number ≡ true
unfolding entry_of
birth_has [] m is = absurd (false≢true is)
birth_has (e ∷ es) m is = go (e.number == m.number) (birth_has es m) is
  where
    go : (b : Bool) → (is_of es m ≡ true → has_entry_of_disk es m.number ≡ true)
        → is_same_birth (option_map (λ (x : Entry). x.birth) (cond b (Some e) (entry_of es m.number))) m.birth ≡ true → (b || has_entry_of_disk es m.number) ≡ true
    go true rest is = refl
    go false rest is = rest is

number_has : (es : List Entry) (d : ℕ) → has_entry_of_disk es d ≡ true → has_entry es d ≡ true
unfolding entry_of
number_has [] d is = absurd (false≢true is)
number_has (e ∷ es) d is = go (e.number == d) (number_has es d) is
  where
    go : (b : Bool) → (has_entry_of_disk es d ≡ true → has_entry es d ≡ true) → (b || has_entry_of_disk es d) ≡ true → is_some (cond b (Some e) (entry_of es d)) ≡ true
    go true rest is = refl
    go false rest is = rest is

all_small : (es : List Entry) (e : Entry) → list_all is_entry es ≡ true → IsAmong es e → e.number < 64
all_small [] e all h = absurd h
all_small (x ∷ es) e all h =
    let p = and_parts (is_entry x) (list_all is_entry es) all in
    ⊎_elim (λ (same : e ≡ x). omega (arith, ap (λ (y : Entry). y.number) same, (entry_fits x p.0).number)) (λ later. all_small es e p.1 later) h

-- ---- what is read of a group

module _ (q : Quorate) (state : BayState) (quorum : IsQuorum q state) where
  abbrev r : Status
  r = q.survey.value

  pub from : (c : DirCopy) → IsAmong q.store.copies c → IsFrom q.id q.survey.read r q.headed.items c
  from c among = copy_from q.id q.survey.read r q.headed.items c (part_among q.store.copies (copies_read q.id q.headed.items q.survey) quorum.copies c among)

  copy_number : (c : DirCopy) → IsAmong q.store.copies c → c.number < 64
  copy_number c among =
      let f = from c among in
      omega (arith, ap (λ (x : DirCopy). x.number) f.copy, header_number f.disk.header (quorum.there.allowed f.disk f.among).header)

  pub makes : MakesRecord q
  makes = record {
    status = quorum.survey.well.allowed;
    numbers = copy_number;
    entries = λ c among.
        let f = from c among in
        ap (λ (x : DirCopy). has_entry_of_disk r.entries x.number) f.copy ∙ birth_has r.entries (member_of f.disk) f.entry;
  }

-- the disks with copies have entries, also in other modes
pub named_have : (q : Quorate) (marked now dirs : ℕ) → MakesRecord q → ((d : ℕ) → d < 64 → has_bit dirs d ≡ has_copy_of_disk d q.store.copies)
    → have_entries (map (entry_when_mounted q marked now) q.survey.value.entries) dirs ≡ true
named_have q marked now dirs makes copies = all_from (has_entry (map (entry_when_mounted q marked now) q.survey.value.entries)) (elements dirs) (λ d h.
    let is : has_copy_of_disk d q.store.copies ≡ true = sym (copies d (element_small dirs d h)) ∙ element_bit dirs d h in
    let c = has_of_disk d q.store.copies is in
    same_has (map (entry_when_mounted q marked now) q.survey.value.entries) q.survey.value.entries d (moded_all q marked now q.survey.value.entries)
    ∙ number_has q.survey.value.entries d (ap (has_entry_of_disk q.survey.value.entries) (sym c.2) ∙ makes.entries c.0 c.1))

-- the same of the record as the code has it
pub record_has : (q : Quorate) (marked now dirs : ℕ) (status after : Status) (copies : List DirCopy) → MakesRecord q → status ≡ q.survey.value
    → after ≡ record status { entries = map (entry_when_mounted q marked now) status.entries } → copies ≡ q.store.copies
    → ((d : ℕ) → d < 64 → has_bit dirs d ≡ has_copy_of_disk d copies) → have_entries after.entries dirs ≡ true
record_has q marked now dirs status after copies makes same is all bits =
    ap (λ (x : Status). have_entries x.entries dirs) is ∙ ap (λ (x : Status). have_entries (map (entry_when_mounted q marked now) x.entries) dirs) same
    ∙ named_have q marked now dirs makes (λ d lt. bits d lt ∙ ap (has_copy_of_disk d) all)

-- ---- the disks of copies

pub no_disks : (set : ℕ) (copies : List DirCopy) → set ≡ 0 → length copies < 1 → (d : ℕ) → has_bit set d ≡ has_copy_of_disk d copies
no_disks set [] none few d = ap (λ (n : ℕ). has_bit n d) none ∙ set_of_is [] d
no_disks set (c ∷ copies) none few d = absurd (omega (arith, few))

pub no_bits : (set : ℕ) → set ≡ 0 → (d : ℕ) → has_bit set d ≡ false
no_bits set none d = ap (λ (n : ℕ). has_bit n d) none ∙ set_of_is [] d

pub first_copy : (copies : List DirCopy) (none : DirCopy) → 1 ≤ length copies → IsAmong copies (get_or copies 0 none)
first_copy [] none some = absurd (omega (arith, some))
first_copy (c ∷ copies) none some = inl refl

take_among : (n : ℕ) (copies : List DirCopy) (c : DirCopy) → IsAmong (take n copies) c → IsAmong copies c
take_among zero copies c h = absurd h
take_among (suc n) [] c h = absurd h
take_among (suc n) (x ∷ copies) c (inl same) = inl same
take_among (suc n) (x ∷ copies) c (inr h) = inr (take_among n copies c h)

pub rest_copy : (copies : List DirCopy) (c : DirCopy) → IsAmong (take (length copies - 1) (drop 1 copies)) c → IsAmong copies c
rest_copy [] c h = absurd h
rest_copy (x ∷ copies) c h = inr (take_among (length (x ∷ copies) - 1) copies c h)

-- ---- the record anew

module _ (q : Quorate) (state : BayState) (quorum : IsQuorum q state) (now : ℕ) (next : Status) (is : IsNextRecord q now next) where
  abbrev old : Status
  old = q.survey.value

  abbrev f : Entry → Entry
  f = entry_when_mounted q is.marked now

  abbrev moved : List Entry
  moved = map f old.entries

  abbrev change : Entry → Entry
  change e = record (f e) { partners = partner_set moved (f e).number }

  mapped : (es : List Entry) → map change es ≡ map (λ (e : Entry). record e { partners = partner_set moved e.number }) (map f es)
  mapped [] = refl
  mapped (e ∷ es) = ap (λ (l : List Entry). change e ∷ l) (mapped es)

  moved_small : (e : Entry) → IsAmong moved e → e.number < 64
  moved_small e among =
      let x = map_among f old.entries e among in
      omega (
        arith,
        ap (λ (y : Entry). y.number) x.2,
        ap (λ (b : ℕ × ℕ × ℕ × Bool). b.0) (moded_bare q is.marked now x.0),
        all_small old.entries x.0 (parts_of old quorum.survey.well.allowed).all x.1,
      )

  fewer : (d : ℕ) → has_bit is.named d ≡ true → has_bit old.directories d ≡ true
  unfolding has_bit
  fewer d bit = ⊎_elim
      (λ lt.
      let c = has_of_disk d q.store.copies (sym (is.copies d lt) ∙ bit) in
      let k = from q state quorum c.0 c.1 in
      ap (has_bit old.directories) (sym c.2 ∙ ap (λ (x : DirCopy). x.number) k.copy) ∙ k.named)
      (λ past. absurd (false≢true (sym (no_bit is.named d is.small past) ∙ bit)))
      (cases_lt d 64)

  pub next_renews : Renews old next
  next_renews = subst (λ (x : Status). Renews old x) (sym is.next_is)
      (subst (λ (l : List Entry). Renews old (record old { entries = l; directories = is.named })) (mapped old.entries)
      (changed_is_renewed old change is.named (λ e. moded_bare q is.marked now e) (λ e forced. moded_forced q is.marked now e forced)
      (subst (λ (l : List Entry). HasPartners l) (sym (mapped old.entries)) (has_partners moved moved_small)) fewer))
