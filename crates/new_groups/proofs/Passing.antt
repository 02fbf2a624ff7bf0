-- A draft that passes the tests: its parts agree, and its disks are free.
use Rattle.std.proofs.Common.{◌≡◌, ◌≢◌, inl, inr, ⊎_elim, ℕ, zero, suc, ◌*◌, ◌<◌, Bool, true, ◌&&◌, ◌==◌, List, [], ◌∷◌, length, get_or, All, refl, sym, ap, subst, ◌∙◌, Option, Some, arith}
use Rattle.std.specs.Prelude.{◌||◌, not, nat_le, slice_get}
use Rattle.std.proofs.lemmas.Bool.{and_parts, cases_eq, eqb-true, eqb-false, leb-true, not-true, or_cases, true≢false, false≢true}
use Rattle.std.proofs.lemmas.Option.{slice_get_cases, slice_get-get_or, same_Some}
use Rattle.bay.specs.Counts.{last_count}
use Rattle.bay.specs.State.{BayState}
use Rattle.asm_formats.specs.Bytes.{block_size}
use Rattle.asm_formats.specs.Header.{Header, is_header}
use Rattle.asm_formats.specs.Regions.{has_region, region_end}
use Rattle.asm_formats.specs.Sets.{has_bit}
use Rattle.asm_formats.specs.Status.{Entry, is_status}
use Rattle.asm_group.specs.Names.{Bytes}
use Rattle.asm_group.specs.Shape.{Shape, is_shape}
use Rattle.asm_formats.specs.Among.{IsAmong}
use Rattle.directory_store.specs.Contents.{ArePutItems}
use Rattle.disk_images.specs.Looks.{AreLooked, IsLooked}
use Rattle.disk_images.specs.declared.looking.Looked.{Looked}
use Rattle.disk_images.specs.declared.looking.Looked.TheVariants.{Absent, Unread, Read}
use Rattle.mounted_groups.specs.group_recovery.declared.finding.Headed.{Headed}
use Rattle.new_groups.specs.Drafts.{HasAgreeingParts, AreDisksApart, AreFreeDisks, IsFreeDisk, IsRight}
use Rattle.new_groups.specs.Preparing.{IsPrepared}
use Rattle.new_groups.specs.Tests.{are_disks_apart, are_fit, has_disk_number, have_disks, is_apart, is_right_disk, is_image_there, may_form, shows_size}
use Rattle.mounted_groups.specs.group_recovery.Founds.{is_held}
use Rattle.new_groups.specs.declared.draft.Draft.{Draft}
use Rattle.new_groups.specs.declared.preparing.Ready.{Ready}

-- ---- each disk

fit_each : (s : Shape) (entries : List Entry) (looked : List Looked) (held : List ℕ) (hs : List Headed) → are_fit s entries looked held hs ≡ true → (h : Headed) → IsAmong hs h
    → (is_right_disk s entries h ≡ true) × (is_image_there looked held h ≡ true)
fit_each s entries looked held [] passes h among = absurd among
fit_each s entries looked held (k ∷ ks) passes h among =
    let p = and_parts (is_right_disk s entries k) _ passes in
    let q = and_parts (is_image_there looked held k) _ p.1 in
    ⊎_elim
    (λ (e : h ≡ k). (subst (λ (x : Headed). is_right_disk s entries x ≡ true) (sym e) p.0, subst (λ (x : Headed). is_image_there looked held x ≡ true) (sym e) q.0))
    (λ later. fit_each s entries looked held ks q.1 h later) among

right_is : (s : Shape) (entries : List Entry) (h : Headed) → is_right_disk s entries h ≡ true → IsRight s entries h
right_is s entries h passes =
    let a = and_parts (is_header h.header) _ passes in
    let b = and_parts (h.header.shape.sector == s.sector) _ a.1 in
    let c = and_parts (h.header.shape.dir_blocks == s.dir_blocks) _ b.1 in
    record { header = a.0; sector = eqb-true h.header.shape.sector s.sector b.0; pages = eqb-true h.header.shape.dir_blocks s.dir_blocks c.0; entry = c.1 }

shown_size : (x : Looked) (size : ℕ) → shows_size (Some x) size ≡ true → (header : Option Header) × (x ≡ Read size header)
shown_size Absent size passes = absurd (false≢true passes)
shown_size (Unread n) size passes = absurd (false≢true passes)
shown_size (Read n header) size passes = (header, ap (λ (k : ℕ). Read k header) (eqb-true n size passes))

pub shown_in : (looked : List Looked) (slot size : ℕ) → shows_size (slice_get looked slot) size ≡ true → (header : Option Header) × (slot < length looked) × (get_or looked slot Absent ≡ Read size header)
shown_in looked slot size passes = ⊎_elim
    (λ some.
    let there : get_or looked slot Absent ≡ some.0 = same_Some (get_or looked slot Absent) some.0 (sym (slice_get-get_or looked slot Absent some.1) ∙ some.2) in
    let is = shown_size some.0 size (subst (λ (o : Option Looked). shows_size o size ≡ true) some.2 passes) in
    (is.0, some.1, there ∙ is.1))
    (λ none. absurd (false≢true (subst (λ (o : Option Looked). shows_size o size ≡ true) none.1 passes)))
    (slice_get_cases looked slot).1

there_is : (n : ℕ) (looked : List Looked) (held : List ℕ) (h : Headed) (s t : BayState) → length looked ≡ n → AreLooked looked s t → is_image_there looked held h ≡ true → IsFreeDisk n held h t
there_is n looked held h s t count are passes =
    let a = and_parts (shows_size (slice_get looked h.slot) h.size) _ passes in
    let b = and_parts (has_region h.header.shape.dir_blocks h.size) _ a.1 in
    let shown = shown_in looked h.slot h.size a.0 in
    let read = subst (λ (x : Looked). IsLooked h.slot x s t) shown.2 (are.each h.slot shown.1) in
    record {
      inside = omega (arith, shown.1, count);
      attached = read.attached;
      long = leb-true (region_end h.header.shape.dir_blocks * block_size) h.size b.0;
      free = λ is. false≢true (sym (not-true (is_held held h.slot) b.1) ∙ is);
    }

-- ---- apart

apart_one : (h : Headed) (ks : List Headed) → is_apart h ks ≡ true → (k : Headed) → IsAmong ks k → (k.slot ≢ h.slot) × (k.header.number ≢ h.header.number)
apart_one h [] passes k among = absurd among
apart_one h (x ∷ xs) passes k among =
    let p = and_parts (not (x.slot == h.slot)) _ passes in
    let q = and_parts (not (x.header.number == h.header.number)) _ p.1 in
    ⊎_elim
    (λ (e : k ≡ x). (
      (λ same. eqb-false x.slot h.slot (not-true (x.slot == h.slot) p.0) (ap (λ (y : Headed). y.slot) (sym e) ∙ same)),
      (λ same. eqb-false x.header.number h.header.number (not-true (x.header.number == h.header.number) q.0) (ap (λ (y : Headed). y.header.number) (sym e) ∙ same)),
    ))
    (λ later. apart_one h xs q.1 k later) among

pub apart_is : (hs : List Headed) → are_disks_apart hs ≡ true → AreDisksApart hs
apart_is [] passes = tt
apart_is (h ∷ hs) passes =
    let p = and_parts (is_apart h hs) _ passes in
    (apart_one h hs p.0, apart_is hs p.1)

-- ---- the sets

disk_found : (hs : List Headed) (n : ℕ) → has_disk_number hs n ≡ true → (h : Headed) × IsAmong hs h × (h.header.number ≡ n)
disk_found [] n passes = absurd (false≢true passes)
disk_found (h ∷ hs) n passes = ⊎_elim
    (λ here. (h, inl refl, eqb-true h.header.number n here))
    (λ later. let d = disk_found hs n later in (d.0, inr d.1, d.2))
    (or_cases (h.header.number == n) (has_disk_number hs n) passes)

found_below : (hs : List Headed) (set n : ℕ) → have_disks hs set n ≡ true → (d : ℕ) → d < n → has_bit set d ≡ true → (h : Headed) × IsAmong hs h × (h.header.number ≡ d)
found_below hs set zero passes d lt bit = absurd (omega (arith, lt))
found_below hs set (suc n) passes d lt bit =
    let p = and_parts (not (has_bit set n) || has_disk_number hs n) _ passes in
    ⊎_elim
    (λ (same : d ≡ n). ⊎_elim
    (λ out. absurd (true≢false (sym (subst (λ (k : ℕ). has_bit set k ≡ true) same bit) ∙ not-true (has_bit set n) out)))
    (λ has. subst (λ (k : ℕ). (h : Headed) × IsAmong hs h × (h.header.number ≡ k)) (sym same) (disk_found hs n has))
    (or_cases (not (has_bit set n)) (has_disk_number hs n) p.0))
    (λ other. found_below hs set n p.1 d (omega (arith, lt, other)) bit)
    (cases_eq d n)

-- ---- all of it

module _ (d : Draft) (looked : List Looked) (held : List ℕ) where
  -- the tests, from each on
  abbrev have_sets : Bool
  have_sets = have_disks d.disks.items d.status.holders 64 && have_disks d.disks.items d.status.directories 64

  abbrev from_apart : Bool
  from_apart = are_disks_apart d.disks.items && have_sets

  abbrev from_fit : Bool
  from_fit = are_fit d.shape d.status.entries looked held d.disks.items && from_apart

  abbrev from_few : Bool
  from_few = nat_le (length d.disks.items) 64 && from_fit

  abbrev from_shape : Bool
  from_shape = is_shape d.shape && from_few

  abbrev from_alive : Bool
  from_alive = not d.status.gone && from_shape

  module _ (passes : may_form d looked held ≡ true) where
    status_part : (is_status d.status ≡ true) × (from_alive ≡ true)
    status_part = and_parts (is_status d.status) from_alive passes

    alive_part : (not d.status.gone ≡ true) × (from_shape ≡ true)
    alive_part = and_parts (not d.status.gone) from_shape status_part.1

    shape_part : (is_shape d.shape ≡ true) × (from_few ≡ true)
    shape_part = and_parts (is_shape d.shape) from_few alive_part.1

    few_part : (nat_le (length d.disks.items) 64 ≡ true) × (from_fit ≡ true)
    few_part = and_parts (nat_le (length d.disks.items) 64) from_fit shape_part.1

    fit_part : (are_fit d.shape d.status.entries looked held d.disks.items ≡ true) × (from_apart ≡ true)
    fit_part = and_parts (are_fit d.shape d.status.entries looked held d.disks.items) from_apart few_part.1

    apart_part : (are_disks_apart d.disks.items ≡ true) × (have_sets ≡ true)
    apart_part = and_parts (are_disks_apart d.disks.items) have_sets fit_part.1

    sets_part : (have_disks d.disks.items d.status.holders 64 ≡ true) × (have_disks d.disks.items d.status.directories 64 ≡ true)
    sets_part = and_parts (have_disks d.disks.items d.status.holders 64) (have_disks d.disks.items d.status.directories 64) apart_part.1

    pub agrees : ArePutItems d.first.put → HasAgreeingParts d
    agrees items = record {
      status = status_part.0;
      alive = not-true d.status.gone alive_part.0;
      shape = shape_part.0;
      few = leb-true (length d.disks.items) 64 few_part.0;
      right = λ h among. right_is d.shape d.status.entries h (fit_each d.shape d.status.entries looked held d.disks.items fit_part.0 h among).0;
      apart = apart_is d.disks.items apart_part.0;
      holders = found_below d.disks.items d.status.holders 64 sets_part.0;
      directories = found_below d.disks.items d.status.directories 64 sets_part.1;
      items = items;
    }

    pub all_free : (n : ℕ) (s t : BayState) → length looked ≡ n → AreLooked looked s t → AreFreeDisks n held d.disks.items t
    all_free n s t count are h among = there_is n looked held h s t count are (fit_each d.shape d.status.entries looked held d.disks.items fit_part.0 h among).1

-- ---- a group that is ready

pub prepared_agrees : (looked : List Looked) (held : List ℕ) (name : Bytes) (id : ℕ) (r : Ready) → IsPrepared looked held name id r → HasAgreeingParts r.draft
prepared_agrees looked held name id r is = agrees r.draft looked held is.passes is.items

pub prepared_free : (n : ℕ) (found looked : List Looked) (held : List ℕ) (name : Bytes) (id : ℕ) (r : Ready) (s t : BayState) → looked ≡ found → length found ≡ n → AreLooked found s t
    → IsPrepared looked held name id r → AreFreeDisks n held r.draft.disks.items t
prepared_free n found looked held name id r s t same count are is =
    all_free r.draft looked held is.passes n s t (ap length same ∙ count) (subst (λ (l : List Looked). AreLooked l s t) (sym same) are)

pub prepared_above : (looked : List Looked) (held : List ℕ) (name : Bytes) (id : ℕ) (r : Ready) (ids given : List ℕ) → ids ≡ given → (id < last_count → All (λ (other : ℕ). other < id) ids)
    → IsPrepared looked held name id r → r.draft.status.id < last_count → All (λ (other : ℕ). other < r.draft.status.id) given
prepared_above looked held name id r ids given same above is =
    subst (λ (k : ℕ). k < last_count → All (λ (other : ℕ). other < k) given) (sym is.id_is)
    (subst (λ (l : List ℕ). id < last_count → All (λ (other : ℕ). other < id) l) same above)
