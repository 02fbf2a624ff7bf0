-- Where with all disks an image stands for a group, no directory copy that the record names is damaged.
use Rattle.std.proofs.Common.{◌≡◌, ℕ, ◌<◌, true, List, [], ◌∷◌, get_or, map, Option, Some, None, refl, sym, ap, subst, ◌∙◌, arith, inl, inr}
use Rattle.std.specs.Prelude.{is_some}
use Rattle.std.specs.List.{range_with_len}
use Rattle.std.proofs.lemmas.List.FromFn.{get_or-map-range_with_len, length-map-range_with_len}
use Rattle.std.proofs.lemmas.Option.{none-some}
use Rattle.bay.specs.Image.{Image}
use Rattle.bay.specs.State.{BayState, IsSound}
use Rattle.asm_group.specs.Group.{Group}
use Rattle.asm_group.specs.Names.{Bytes}
use Rattle.asm_formats.specs.Among.{IsAmong}
use Rattle.asm_formats.specs.Content.{page_items, records_in}
use Rattle.asm_formats.specs.Header.{Header}
use Rattle.asm_formats.specs.Items.{key_rank}
use Rattle.asm_formats.specs.Metadata.{Metadata, metadata}
use Rattle.asm_formats.specs.Metadata.{content_of as said_content}
use Rattle.asm_formats.specs.Pages.{copy_content, decodes_in}
use Rattle.asm_formats.proofs.Damaging.{damage_is_seen}
use Rattle.asm_formats.proofs.RecordLists.{records_apart}
use Rattle.asm_images.specs.Bridge.{disk_bytes}
use Rattle.asm_images.specs.Kept.{header_in}
use Rattle.catalog_tables.proofs.TableItems.{right_among}
use Rattle.change_directory.specs.declared.copy.DirCopy.{DirCopy}
use Rattle.change_directory.specs.Changes.{content_in}
use Rattle.change_directory.specs.StoreLaws.{HasContent, counting_page}
use Rattle.directory_store.specs.Loading.{HasTwins, LoadCause}
use Rattle.directory_store.specs.Reading.{HasDamage}
use Rattle.directory_store.specs.declared.error.LoadError.{LoadError}
use Rattle.directory_store.specs.declared.error.LoadError.TheVariants as load
use Rattle.status_register.specs.Answers.{Surveyed}
use Rattle.status_register.specs.Surveys.{disk_in}
use Rattle.group_recovery.specs.Finding.{AreThere}
use Rattle.group_recovery.specs.Founds.{FoundDisks}
use Rattle.group_recovery.specs.Loads.{copies_read, refusal_of_load}
use Rattle.group_recovery.specs.Verdicts.{member_of}
use Rattle.group_recovery.specs.declared.error.MountError.TheVariants as error
use Rattle.group_recovery.proofs.CopyLoads.{IsFrom, copy_from}
use Rattle.group_recovery.proofs.Mounting.{is_there}
use Rattle.group_recovery.proofs.Recovered.{own_among}
use Rattle.group_recovery.proofs.Surveyed.{member_on}
use Rattle.fault_laws.specs.Damage.{StandingHasWholeCopies, StandsForOne}
use Rattle.fault_laws.proofs.Bodies.{disk_of}

-- what a disk says of its copy
decodes_here : (x : Image) (slot : ℕ) (h : Header) → header_in x slot ≡ Some h → (disk_in x slot).decodes ≡ decodes_in (copy_content h.shape.dir_blocks (disk_bytes x slot))
unfolding metadata
decodes_here x slot h is = ap (λ (o : Option Header). decodes_in (said_content o (disk_bytes x slot))) is

some_of : {A : Type 0} (o : Option A) → is_some o ≡ true → (x : A) × (o ≡ Some x)
some_of None e = absurd cc
some_of (Some x) e = (x, refl)

-- pages that have records have no key twice
no_twins : (c : DirCopy) (number block : ℕ) (page : ℕ → Bytes) (x : Image) → HasContent c number page x → is_some (records_in (map page (range_with_len 0 c.dir_blocks))) ≡ true → HasTwins c block x → ⊥
no_twins c number block page x has right twins =
    let pages = map page (range_with_len 0 c.dir_blocks) in
    let items = some_of (records_in pages) right in
    let one = ap page_items (at twins.earlier (omega (arith, twins.before, twins.inside))) ∙ twins.reads_first in
    let other = ap page_items (at twins.page twins.inside) ∙ twins.reads_second in
    records_apart pages items.0 items.1 twins.earlier twins.page twins.first twins.second twins.before (omega (arith, length-map-range_with_len page 0 c.dir_blocks, twins.inside)) one other (ap key_rank twins.one_key)
  where
    at : (p : ℕ) → p < c.dir_blocks → get_or (map page (range_with_len 0 c.dir_blocks)) p [] ≡ counting_page c x p
    at p lt = get_or-map-range_with_len page 0 c.dir_blocks p p [] lt (omega arith) ∙ sym (has.pages.pages p lt)

module _ (s t : BayState) (found : FoundDisks) (survey : Surveyed) (groups : List Group) (held later : Image) (there : AreThere found.slots found.headed s) (left : s.leaves s.calls held)
    (now : s.holds ≡ Some held) (then : t.holds ≡ Some later) (one : StandsForOne found.slots found.id groups held) where
  module _ (c : DirCopy) (among : IsAmong (copies_read found.id found.headed survey) c) where
    from : IsFrom found.id survey.read survey.value found.headed c
    from = copy_from found.id survey.read survey.value found.headed c among

    header : header_in held from.disk.slot ≡ Some from.disk.header
    header = (there.now from.disk from.among).now held left

    decodes : (disk_in held from.disk.slot).decodes ≡ true
    decodes =
        let on = member_on found.slots found.id found.headed s there (member_of from.disk) (own_among found.id found.headed from.disk from.among from.own) held left in
        let i = is_there found.slots found.id held (member_of from.disk) on in
        subst (λ (d : Metadata). d.decodes ≡ true) i.disk (disk_of found.slots found.id groups held one i.member i.among).directories

    undamaged : (block : ℕ) → HasDamage c (Some block) held → ⊥
    undamaged block damage =
        let none = damage_is_seen from.disk.header (disk_bytes held from.disk.slot) header decodes in
        none-some block (sym none ∙ subst (λ (d : DirCopy). HasDamage d (Some block) held) from.copy damage)

    content_decodes : decodes_in (content_in c held) ≡ true
    content_decodes = subst (λ (d : DirCopy). decodes_in (content_in d held) ≡ true) (sym from.copy) (sym (decodes_here held from.disk.slot from.disk.header header) ∙ decodes)

    apart : (number block : ℕ) (page : ℕ → Bytes) → HasContent c number page held → HasTwins c block held → ⊥
    apart number block page has twins = no_twins c number block page held has (ap decodes_in (sym has.content) ∙ content_decodes) twins

  none_damaged : (slot block : ℕ) → LoadCause (copies_read found.id found.headed survey) s t (load.Damaged slot block) → ⊥
  none_damaged slot block (inl first) =
      let among = subst (λ (l : List DirCopy). IsAmong l first.copy) (sym first.split) (right_among first.before (first.copy ∷ first.after) first.copy (inl refl)) in
      undamaged first.copy among block (first.damage later then held now)
  none_damaged slot block (inr twins) =
      let has = twins.taken.has later then held now in
      apart twins.copy twins.taken.among twins.number block has.0 has.1 (twins.twins later then held now)

  none_refused : (slot block : ℕ) (l : LoadError) → error.Damaged slot block ≡ refusal_of_load l → LoadCause (copies_read found.id found.headed survey) s t l → ⊥
  none_refused slot block load.DirectoriesLost e cause = absurd cc
  none_refused slot block load.NoMemory e cause = absurd cc
  none_refused slot block (load.Damaged other at) e cause = none_damaged other at cause

  no_memory : (slot block : ℕ) → error.Damaged slot block ≡ error.NoMemory → ⊥
  no_memory slot block e = absurd cc

pub whole_copies : (s t : BayState) → IsSound s → StandingHasWholeCopies s t
whole_copies s t sound found survey groups slot block held later there now then one refusal = elim refusal [
  | inl (l, e, cause) ↦ none_refused s t found survey groups held later there (sound.held held now) now then one slot block l e cause
  | inr e ↦ no_memory s t found survey groups held later there (sound.held held now) now then one slot block e
]
