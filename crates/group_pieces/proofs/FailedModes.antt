-- The record with failed disks Offline changes modes alone.
use Rattle.std.proofs.Common.{◌≡◌, ⊎_elim, ℕ, ◌<◌, Bool, true, false, cond, List, [], ◌∷◌, refl, sym, ap, subst, ◌∙◌, Option}
use Rattle.std.specs.Prelude.{◌&&◌, ◌||◌, nat_lt}
use Rattle.std.specs.List.{list_all, list_any}
use Rattle.std.proofs.lemmas.Bool.{and_parts, false≢true, ltb-true, true≢false}
use Rattle.bay.specs.State.{BayState}
use Rattle.asm_group.specs.declared.Mode.{Mode}
use Rattle.asm_group.specs.declared.Mode.TheVariants.{Online, Offline, Syncing, Dropping, Forced}
use Rattle.asm_base.specs.declared.kinds.ExtentId.{ExtentId}
use Rattle.asm_formats.specs.Among.{IsAmong}
use Rattle.asm_formats.specs.Sets.{has_bit, most_disks}
use Rattle.asm_formats.specs.Items.{Home}
use Rattle.asm_formats.specs.Status.{Entry, Status, entry_of, is_entry, is_status}
use Rattle.asm_placement.specs.Copies.{entry_at_home, is_on}
use Rattle.asm_placement.specs.Modes.{is_dropping, is_forced, mode_is, serves, stays}
use Rattle.asm_placement.proofs.Chosen.{entry_found}
use Rattle.asm_placement.specs.Partners.{HasPartners, partner_set, with_partners}
use Rattle.record_laws.specs.extent_copies.Extents.{copy_of}
use Rattle.record_laws.specs.status_table.Changes.{entries_with_partners, status_with_partners}
use Rattle.record_laws.specs.Changing.{KeepsDisk, KeepsPlace}
use Rattle.record_laws.specs.Getting.{ChangesModesAlone}
use Rattle.record_laws.proofs.Changing.{modes_join, modes_of_each}
use Rattle.record_laws.proofs.Partners.{table_is_made, table_stays}
use Rattle.record_laws.specs.group_engine.Mounts.{MountedGroup}
use Rattle.record_laws.proofs.group_engine.Records.{record_parts}
use Rattle.group_pieces.specs.Failing.{AreServing, FailsModes, entry_failed, is_dropping_in, status_failed, offline_entry}
use Rattle.group_pieces.specs.Copies.{HasOnlyFailedPlaces}
use Rattle.group_pieces.specs.Usable.{extent_of, places_at}
use Rattle.group_pieces.proofs.Failed.{bare_failed}
use Rattle.group_pieces.proofs.Places.{some_place}

-- a disk that serves isn't Forced
serving_unforced : (mode : Mode) → serves mode ≡ true → is_forced mode ≡ true → ⊥
serving_unforced Online is forced = false≢true forced
serving_unforced Offline is forced = false≢true is
serving_unforced Syncing is forced = false≢true forced
serving_unforced Dropping is forced = false≢true forced
serving_unforced Forced is forced = false≢true is

-- it stays in the table of partners, unless it is being dropped
serving_stays : (mode : Mode) → serves mode ≡ true → is_dropping mode ≡ false → stays mode ≡ true
serving_stays Online is none = refl
serving_stays Offline is none = absurd (false≢true is)
serving_stays Syncing is none = refl
serving_stays Dropping is none = absurd (true≢false none)
serving_stays Forced is none = absurd (false≢true is)

none_of : (test : Entry → Bool) (es : List Entry) (e : Entry) → list_any test es ≡ false → IsAmong es e → test e ≡ false
none_of test [] e none among = absurd among
none_of test (x ∷ es) e none among = go (test x) refl none (λ all later. none_of test es e all later)
  where
    go : (b : Bool) → test x ≡ b → (b || list_any test es) ≡ false → (list_any test es ≡ false → IsAmong es e → test e ≡ false) → test e ≡ false
    go true is all rest = absurd (true≢false all)
    go false is all rest = ⊎_elim (λ (same : e ≡ x). ap test same ∙ is) (λ later. rest all later) among

all_of : (test : Entry → Bool) (es : List Entry) (e : Entry) → list_all test es ≡ true → IsAmong es e → test e ≡ true
all_of test [] e all among = absurd among
all_of test (x ∷ es) e all among =
    let p = and_parts (test x) (list_all test es) all in
    ⊎_elim (λ (same : e ≡ x). ap test same ∙ p.0) (λ later. all_of test es e p.1 later) among

-- the numbers of a record's disks are small
small_number : (e : Entry) → is_entry e ≡ true → e.number < 64
unfolding is_entry
small_number e is = ltb-true e.number 64 (and_parts (nat_lt e.number most_disks) _ is).0

pub small_numbers : (r : Status) → is_status r ≡ true → (e : Entry) → IsAmong r.entries e → e.number < 64
small_numbers r is e among = small_number e (all_of is_entry r.entries e (record_parts r is).entries among)

module _ (failed since repair : ℕ) (r : Status) (allowed : is_status r ≡ true) where
  abbrev change : Entry → Entry
  change = entry_failed failed 64 since repair

  abbrev next : Status
  next = status_failed r failed 64 since repair

  -- the entry of a disk of the set serves
  entry_serves : AreServing r.entries failed → (e : Entry) → IsAmong r.entries e → e.number < 64 → has_bit failed e.number ≡ true → serves e.mode ≡ true
  entry_serves serving e among small bit = ap (mode_is serves) (sym (entry_found 0 r.entries e (record_parts r allowed).order among)) ∙ serving e.number small bit

  keeps_disk : AreServing r.entries failed → (e : Entry) → IsAmong r.entries e → KeepsDisk e (change e)
  keeps_disk serving e among = record { disk = bare_failed failed since repair 64 e; forced = go (nat_lt e.number 64 && has_bit failed e.number) refl }
    where
      go : (b : Bool) → (nat_lt e.number 64 && has_bit failed e.number) ≡ b → is_forced e.mode ≡ true → is_forced (cond b (offline_entry since repair e) e).mode ≡ true
      go true is forced = let p = and_parts (nat_lt e.number 64) (has_bit failed e.number) is in absurd (serving_unforced e.mode (entry_serves serving e among (ltb-true e.number 64 p.0) p.1) forced)
      go false is forced = forced

  modes : AreServing r.entries failed → ChangesModesAlone r next
  modes serving = modes_of_each r change (keeps_disk serving)

  keeps_place : AreServing r.entries failed → list_any (is_dropping_in failed) r.entries ≡ false → (e : Entry) → IsAmong r.entries e → KeepsPlace e (change e)
  keeps_place serving none e among = go (nat_lt e.number 64 && has_bit failed e.number) refl
    where
      not_dropping : (b bit : Bool) → (b && bit) ≡ false → bit ≡ true → b ≡ false
      not_dropping true bit both is = absurd (true≢false (sym is ∙ both))
      not_dropping false bit both is = refl

      go : (b : Bool) → (nat_lt e.number 64 && has_bit failed e.number) ≡ b → KeepsPlace e (cond b (offline_entry since repair e) e)
      go true is =
          let p = and_parts (nat_lt e.number 64) (has_bit failed e.number) is in
          let out = not_dropping (is_dropping e.mode) (has_bit failed e.number) (none_of (is_dropping_in failed) r.entries e none among) p.1 in
          record { number = refl; failgroup = refl; quorum = refl; partners = refl; stays = sym (serving_stays e.mode (entry_serves serving e among (ltb-true e.number 64 p.0) p.1) out) }
      go false is = record { number = refl; failgroup = refl; quorum = refl; partners = refl; stays = refl }

  -- none of the disks was being dropped
  pub fails_modes : (q : Status) → q ≡ next → list_any (is_dropping_in failed) r.entries ≡ false → FailsModes r failed q
  fails_modes q is none serving partners =
      subst (λ (z : Status). ChangesModesAlone r z × HasPartners z.entries) (sym is) (modes serving, table_stays r.entries change (keeps_place serving none) partners)

  -- the partners are made anew
  pub fails_partners : (q : Status) (sets : List ℕ) → q ≡ next → is_status q ≡ true → entries_with_partners q.entries sets ≡ with_partners q.entries → FailsModes r failed (status_with_partners q sets)
  fails_partners q sets is after made serving partners =
      let joined : ChangesModesAlone q (record q { entries = with_partners q.entries }) = modes_of_each q (λ (e : Entry). record e { partners = partner_set q.entries e.number }) (λ e among. record { disk = refl; forced = λ forced. forced }) in
      subst (λ (es : List Entry). ChangesModesAlone r (record q { entries = es }) × HasPartners es) (sym made) (
        modes_join r q (record q { entries = with_partners q.entries }) (subst (λ (z : Status). ChangesModesAlone r z) (sym is) (modes serving)) joined,
        table_is_made q.entries (small_numbers q after),
      )

-- ---- disks of places

-- the disks of usable copies serve
pub failed_serve : (m : MountedGroup) (x : ExtentId) (inner failed : ℕ) (s t : BayState) → HasOnlyFailedPlaces (places_at m x inner) failed s t → AreServing m.register.value.entries failed
failed_serve m x inner failed s t alone k small bit =
    let entries = m.register.value.entries in
    let f = alone k small bit in
    let place = some_place m (extent_of m x) inner f.0 f.1 in
    let disk : place.at.home.disk ≡ k = sym place.at.disk ∙ f.2 in
    let served : mode_is serves (entry_of entries place.at.home.disk) ≡ true =
    ap (λ (o : Option Home). mode_is serves (entry_at_home entries o)) (sym place.at.at) ∙ (and_parts (is_on serves entries (copy_of (extent_of m x) place.copy)) _ place.at.readable).0 in
    subst (λ (d : ℕ). mode_is serves (entry_of entries d) ≡ true) disk served
