-- A copy that is brought up: how it is read.
use Rattle.std.proofs.Common.{◌≡◌, inl, inr, ⊎_elim, ℕ, ◌+◌, ◌/◌, ◌≤◌, Bool, true, false, List, [], ◌∷◌, length, map, refl, sym, ap, subst, ◌∙◌, Option, Some, None, arith}
use Rattle.std.specs.Prelude.{◌&&◌, nat_le, nat_lt, IsSome, IsTrue, Ok, Vec}
use Rattle.std.specs.declared.alloc.Global.{Global}
use Rattle.std.specs.List.{flat_map, list_all, range_with_len}
use Rattle.std.proofs.lemmas.Bool.{true≢false, and_parts, leb-true, ltb-true}
use Rattle.std.proofs.lemmas.Option.{none-some}
use Rattle.bay.specs.Image.{Image, Same, ChangesOnly, window}
use Rattle.bay.specs.State.{BayState, IsSound, IsSlot, KeepsAttached}
use Rattle.bay.specs.Moments.{Runs, Ends, Durable, NowOnly}
use Rattle.bay.proofs.Calls.{both_done, goes_on, stops, widened}
use Rattle.bay.proofs.Images.{changes-same, changes-trans, window-same}
use Rattle.asm_group.specs.Names.{Bytes}
use Rattle.asm_base.specs.declared.block.Block.{Block}
use Rattle.asm_formats.specs.Damage.{directory_damage}
use Rattle.asm_formats.specs.Logs.{logs_decode}
use Rattle.asm_formats.specs.Pages.{IsCheckpointed}
use Rattle.asm_formats.specs.Status.{ascends_from}
use Rattle.change_directory.specs.declared.copy.DirCopy.{DirCopy}
use Rattle.change_directory.specs.declared.loading.Pages.{Pages}
use Rattle.change_directory.specs.Changes.{copy_disk_bytes, content_in, DecodesIn, IsAtHome}
use Rattle.change_directory.specs.Formatting.{AreShut}
use Rattle.change_directory.specs.Homes.{HasHomed, HomesOf, KeepsContent}
use Rattle.change_directory.specs.Loads.{IsLoaded, commit_if_any, due_page, filled_pages, open_slots}
use Rattle.change_directory.specs.Logs.{are_pages}
use Rattle.asm_base.specs.Blocks.{image_of_page}
use Rattle.change_directory.specs.Places.{IsCopy}
use Rattle.change_directory.specs.Works.{OnlyReads}
use Rattle.change_directory.specs.StoreLaws.{HasDue, HasOpen, HasRegion, IsReadAs, IsShaped, RegionOf, SameCopy, due_images, shown_by}
use Rattle.bay.specs.Told.{Told}
use Rattle.change_directory.proofs.Keeping.{keeps_content}
use Rattle.change_directory.proofs.Loaded.{loaded_is_content, loaded_is_due}
use Rattle.change_directory.proofs.Regions.{steps_stay_inside}
use Rattle.change_directory.proofs.Runs.{same_disk, same_content}
use Rattle.change_directory.proofs.Usable.{still_copy}
use Rattle.change_directory.proofs.Works.{one_read, reads_fit, reads_on}
use Rattle.directory_store.specs.Copies.{MayMakeCopy}
use Rattle.directory_store.specs.Copying.{IsReadable, IsRenewable, MayRenewCopy}
use Rattle.directory_store.specs.Renewals.{ReadsDue}
use Rattle.directory_store.proofs.CopyLaws.{homed_settles}
use Rattle.directory_store.proofs.Renewing.{ends_knowing, knowing, shut_is, sized_now}
use Rattle.directory_store.proofs.Rows.{copy_stays}
use Rattle.directory_store.proofs.Steps.{shaped}

-- ---- pages in order

-- pages of a copy, ascending, the first of them not below a number
abbrev are_pages_from : ℕ → ℕ → List (ℕ × Block) → Bool
are_pages_from least dir_blocks [] = true
are_pages_from least dir_blocks (p ∷ pages) = nat_le least p.0 && (nat_lt p.0 dir_blocks && are_pages_from (p.0 + 1) dir_blocks pages)

shuffled : (a b c d : Bool) → (a && (b && (c && d))) ≡ ((a && c) && (b && d))
shuffled true true c d = refl
shuffled true false true d = refl
shuffled true false false d = refl
shuffled false b c d = refl

pages_from : (m d : ℕ) (pages : List (ℕ × Block)) → are_pages_from m d pages ≡ (ascends_from m (map (λ (p : ℕ × Block). p.0) pages) && list_all (λ (p : ℕ × Block). nat_lt p.0 d) pages)
pages_from m d [] = refl
pages_from m d (p ∷ pages) =
    ap (λ (b : Bool). nat_le m p.0 && (nat_lt p.0 d && b)) (pages_from (p.0 + 1) d pages)
    ∙ shuffled (nat_le m p.0) (nat_lt p.0 d) (ascends_from (p.0 + 1) (map (λ (q : ℕ × Block). q.0) pages)) (list_all (λ (q : ℕ × Block). nat_lt q.0 d) pages)

fewer : (m d : ℕ) (pages : List (ℕ × Block)) → m ≤ d → are_pages_from m d pages ≡ true → m + length pages ≤ d
fewer m d [] le ok = omega (arith, le)
fewer m d (p ∷ pages) le ok =
    let one = and_parts (nat_le m p.0) (nat_lt p.0 d && are_pages_from (p.0 + 1) d pages) ok in
    let two = and_parts (nat_lt p.0 d) (are_pages_from (p.0 + 1) d pages) one.1 in
    let low = leb-true m p.0 one.0 in
    let below = ltb-true p.0 d two.0 in
    omega (arith, low, fewer (p.0 + 1) d pages (omega (arith, below)) two.1)

-- a copy has at most so many pages
pub few_pages : (d : ℕ) (pages : List (ℕ × Block)) → are_pages d pages ≡ true → length pages ≤ d
few_pages d pages ok = let h = fewer 0 d pages (omega arith) (pages_from 0 d pages ∙ ok) in omega (arith, h)

-- ---- what is read is what a stop leaves

-- a disk that reads as another one is listed as it
disk_as : (copy : DirCopy) (x h : Image) → x.size copy.slot ≡ h.size copy.slot → ((k : ℕ) → x.byte copy.slot k ≡ h.byte copy.slot k) → copy_disk_bytes copy x ≡ copy_disk_bytes copy h
disk_as copy x h size byte =
    ap (λ (n : ℕ). window (x.byte copy.slot) 0 n) size ∙ window-same (h.byte copy.slot) (x.byte copy.slot) 0 (h.size copy.slot) (λ k low high. byte k)

-- the same size of an attached disk
size_as : (s : BayState) (slot : ℕ) (x h : Image) → IsSound s → IsSome (s.attached slot) → s.leaves s.calls x → s.leaves s.calls h → x.size slot ≡ h.size slot
size_as s slot x h sound some left held = go (s.attached slot) refl some
  where
    go : (o : Option ℕ) → s.attached slot ≡ o → IsSome o → x.size slot ≡ h.size slot
    go (Some size) at is = sound.sized slot size x at left ∙ sym (sound.sized slot size h at held)
    go None at is = absurd (true≢false (sym is))

-- What is told of a copy that was read after a sync holds of each image that a stop may leave now.
module _ (copy : DirCopy) (m t : BayState) (sound : IsSound m) (sound_t : IsSound t) (is : IsCopy m copy) (durable : Durable copy.slot m) (run : Runs (IsSlot copy.slot) Same m t) where
  pub told_now : (P : Image → Type 0) → ((x h : Image) → copy_disk_bytes copy x ≡ copy_disk_bytes copy h → P h → P x) → Told m t P → NowOnly t P
  told_now P carry told = record { now = λ x left. go x left }
    where
      go : (x : Image) → t.leaves t.calls x → P x
      go x left =
          let now = sound_t.told x left in
          let held = run.held now.0 now.1 in
          let from = (stops run).now x left in
          let size = size_as m copy.slot from.0 held.0 sound is.attached from.1 (sound.held held.0 held.1) in
          carry x held.0 (same_disk copy from.0 x from.2 ∙ disk_as copy from.0 held.0 size (λ k. durable.byte from.0 held.0 k from.1 held.1))
          (told now.0 now.1 held.0 held.1)

-- ---- what is due

-- what was loaded of a disk that reads as another one
pub loaded_as : (copy : DirCopy) (pages : Pages) (x h : Image) → copy_disk_bytes copy x ≡ copy_disk_bytes copy h → IsLoaded copy pages h → IsLoaded copy pages x
loaded_as copy pages x h e is = record {
  number = is.number ∙ ap (λ (b : Bytes). commit_if_any (open_slots copy.dir_blocks b)) (sym e);
  blocks = is.blocks ∙ ap (λ (b : Bytes). filled_pages copy.dir_blocks b (open_slots copy.dir_blocks b)) (sym e);
  due = is.due ∙ ap (λ (b : Bytes). flat_map (due_page (open_slots copy.dir_blocks b)) (range_with_len 0 copy.dir_blocks)) (sym e);
}

pub damage_as : (copy : DirCopy) (damage : Option ℕ) (x h : Image) → copy_disk_bytes copy x ≡ copy_disk_bytes copy h → directory_damage copy.dir_blocks (copy_disk_bytes copy h) ≡ damage → directory_damage copy.dir_blocks (copy_disk_bytes copy x) ≡ damage
damage_as copy damage x h e is = ap (directory_damage copy.dir_blocks) e ∙ is

no_dues : (dues : List (ℕ × Block)) → map image_of_page dues ≡ [] → dues ≡ []
no_dues [] e = refl
no_dues (d ∷ dues) e = absurd cc

module _ (copy : DirCopy) (shape : IsShaped copy) where
  -- nothing is written home
  none_written : (x y : Image) → HasRegion copy x → ChangesOnly (HomesOf copy []) x y → SameCopy copy x y
  none_written x y sized step = copy_stays copy (HomesOf copy []) x y shape sized (λ k inside. absurd inside.1) step

  pub none_due : (x : Image) → HasRegion copy x → (IsReadable copy x → IsAtHome copy x) → IsRenewable copy [] x
  none_due x sized home = record {
    due_are = inr (λ p inside. absurd inside);
    homed = λ readable y did. let same = none_written x y sized did.elsewhere in (same.decodes readable.decodes, same.at_home (home readable));
  }

  -- a damaged copy that is readable is at home
  pub damaged_home : (x : Image) (block : ℕ) → directory_damage copy.dir_blocks (copy_disk_bytes copy x) ≡ Some block → IsReadable copy x → IsAtHome copy x
  damaged_home x block is readable = ⊎_elim (λ (none : directory_damage copy.dir_blocks (copy_disk_bytes copy x) ≡ None). absurd (none-some block (sym none ∙ is))) (λ home. home) readable.whole

  module _ (pages : Pages) (dues : List (ℕ × Block)) (x : Image) (sized : HasRegion copy x) (loaded : IsLoaded copy pages x) (none : directory_damage copy.dir_blocks (copy_disk_bytes copy x) ≡ None)
      (are : map image_of_page dues ≡ due_images pages) where
    pub has_due : HasDue copy dues x
    has_due = loaded_is_due copy shape pages x sized loaded none dues are

    read : IsReadAs copy pages x
    read = loaded_is_content copy shape pages x sized loaded none

    once_homed : (y : Image) → HasHomed copy dues x y → DecodesIn copy y × IsAtHome copy y
    once_homed y did = ⊎_elim
        (λ (shut : AreShut copy x).
        let empty : pages.due.items ≡ [] = (read.shut shut).3 in
        let none_are : dues ≡ [] = no_dues dues (are ∙ ap (λ (l : List (ℕ × ℕ)). map (λ (d : ℕ × ℕ). (d.0, shown_by pages.blocks.items d.0)) l) empty) in
        let same = none_written x y sized (subst (λ (l : List (ℕ × Block)). HasHomed copy l x y) none_are did).elsewhere in
        let is = shut_is copy x shape sized shut in
        (same.decodes (is.pages 0).decodes, same.at_home is.home))
        (λ (opened : HasOpen copy x).
        let has = read.opened opened in
        let both = homed_settles copy dues has.0 (shown_by pages.blocks.items) x y shape has.2 has_due did in
        (both.0.pages.decodes, both.1))
        read.either

    pub loaded_due : IsRenewable copy dues x
    loaded_due = record { due_are = has_due.due; homed = λ readable y did. once_homed y did }

-- ---- the steps of a renewal

-- while due pages are written home
pub record MayHome (copy : DirCopy) (old new : Image) : Type 0 where
  pub elsewhere : ChangesOnly (RegionOf copy) old new
  pub content : KeepsContent copy old new

-- once they are
pub record IsReadied (copy : DirCopy) (old new : Image) : Type 0 where
  pub home : MayHome copy old new
  pub ready : IsReadable copy old → DecodesIn copy new × IsAtHome copy new

module _ (copy : DirCopy) where
  pub reads : {s t : BayState} → Runs (IsSlot copy.slot) Same s t → Runs (IsSlot copy.slot) (MayHome copy) s t
  reads {s} {t} run = widened {step = Same} {whole = MayHome copy} (λ x y same. record { elsewhere = changes-same (RegionOf copy) x y same; content = same_content copy x y same }) run

  readable_same : (x y : Image) → IsReadable copy x → Same x y → IsReadable copy y
  readable_same x y is same =
      let lists = sym (same_disk copy x y same) in
      record {
        decodes = subst (λ (b : Bytes). logs_decode copy.dir_blocks b ≡ true) lists is.decodes;
        whole = ⊎_elim (λ (none : directory_damage copy.dir_blocks (copy_disk_bytes copy x) ≡ None). inl (ap (directory_damage copy.dir_blocks) (sym lists) ∙ none))
            (λ (home : IsAtHome copy x). inr (subst (λ (b : Bytes). IsCheckpointed copy.dir_blocks b) lists home)) is.whole;
      }

  -- the runs of pages that are due
  module _ (due : List (ℕ × Block)) (shape : IsShaped copy) (ok : IsTrue (are_pages copy.dir_blocks due)) where
    home_step : (x y z : Image) → Same x y → HasRegion copy y × IsRenewable copy due y → ChangesOnly (HomesOf copy due) y z → MayHome copy x z
    home_step x y z same known step = record {
      elsewhere = changes-trans (RegionOf copy) x y z (changes-same (RegionOf copy) x y same) (steps_stay_inside.homing copy due y z ok step);
      content = keeps_content copy due ok shape.least y z known.0 step known.1.due_are ∙ same_content copy x y same;
    }

    known : {t : BayState} → NowOnly t (HasRegion copy) → NowOnly t (IsRenewable copy due) → NowOnly t (λ y. HasRegion copy y × IsRenewable copy due y)
    known {t} sized renewable = record { now = λ y left. (sized.now y left, renewable.now y left) }

    pub homes : {s t u : BayState} → IsSound t → NowOnly t (HasRegion copy) → NowOnly t (IsRenewable copy due) → Runs (IsSlot copy.slot) Same s t
        → Runs (IsSlot copy.slot) (ChangesOnly (HomesOf copy due)) t u → Runs (IsSlot copy.slot) (MayHome copy) s u
    homes {s} {t} {u} sound sized renewable run next = goes_on {done = Same} {step = λ y z. (HasRegion copy y × IsRenewable copy due y) × ChangesOnly (HomesOf copy due) y z} {whole = MayHome copy}
        (λ x y z same step. home_step x y z same step.0 step.1) (reads run) (stops run) (knowing {P = λ y. HasRegion copy y × IsRenewable copy due y} sound (known sized renewable) next)

    pub is_ready : {s t u : BayState} → IsSound t → NowOnly t (HasRegion copy) → NowOnly t (IsRenewable copy due) → Runs (IsSlot copy.slot) Same s t → Ends (HasHomed copy due) t u
        → Ends (IsReadied copy) s u
    is_ready {s} {t} {u} sound sized renewable run ends = both_done {first = Same} {second = λ y z. (HasRegion copy y × IsRenewable copy due y) × HasHomed copy due y z} {whole = IsReadied copy}
        (λ x y z same did. record {
          home = home_step x y z same did.0 did.1.elsewhere;
          ready = λ readable. did.0.1.homed (readable_same x y readable same) z did.1;
        }) (stops run) (ends_knowing {P = λ y. HasRegion copy y × IsRenewable copy due y} sound (known sized renewable) ends)

  module _ (number : ℕ) (page : ℕ → Bytes) where
    pub homes_renew : {s u : BayState} → Runs (IsSlot copy.slot) (MayHome copy) s u → Runs (IsSlot copy.slot) (MayRenewCopy copy number page) s u
    homes_renew {s} {u} run = widened {step = MayHome copy} {whole = MayRenewCopy copy number page} (λ x y step. record { elsewhere = step.elsewhere; content = λ readable. inl step.content }) run

    pub renews : {s u v : BayState} → Runs (IsSlot copy.slot) (MayHome copy) s u → Ends (IsReadied copy) s u → Runs (IsSlot copy.slot) (MayMakeCopy copy number page) u v
        → Runs (IsSlot copy.slot) (MayRenewCopy copy number page) s v
    renews {s} {u} {v} run ends next = goes_on {done = IsReadied copy} {step = MayMakeCopy copy number page} {whole = MayRenewCopy copy number page}
        (λ x y z readied step. record {
          elsewhere = changes-trans (RegionOf copy) x y z readied.home.elsewhere step.elsewhere;
          content = λ readable.
              let ready = readied.ready readable in
              ⊎_elim (λ (same : content_in copy z ≡ content_in copy y). inl (same ∙ readied.home.content)) (λ new. inr new) (step.content ready.0 ready.1);
        }) (homes_renew run) ends next

    pub renews_inside : {s v : BayState} → Runs (IsSlot copy.slot) (MayRenewCopy copy number page) s v → Runs (IsSlot copy.slot) (ChangesOnly (RegionOf copy)) s v
    renews_inside {s} {v} run = widened {step = MayRenewCopy copy number page} {whole = ChangesOnly (RegionOf copy)} (λ x y step. step.elsewhere) run

-- ---- the calls

-- a sync, and then a read of the copy
pub synced_reads : (copy : DirCopy) {a b c : BayState} → KeepsAttached a b → b.calls ≤ a.calls + 1 → b.written copy.slot ≡ a.written copy.slot → Runs (IsSlot copy.slot) Same a b
    → OnlyReads copy.slot (copy.dir_blocks / 64 + 7) b c → OnlyReads copy.slot (copy.dir_blocks / 64 + 8) a c
synced_reads copy attached calls written run reads = reads_fit (omega arith) (reads_on (one_read attached calls written run) reads)

-- the due pages of a copy were read
module _ {copy : DirCopy} {list : Vec (ℕ × Block) Global} {due : List (ℕ × Block)} (is : due ≡ list.items) {s t : BayState} (sound : IsSound t) (here : IsCopy s copy)
    (read : ReadsDue (Ok list) copy s t) where
  pub due_are_pages : IsTrue (are_pages copy.dir_blocks due)
  due_are_pages = subst (λ (l : List (ℕ × Block)). IsTrue (are_pages copy.dir_blocks l)) (sym is) read.pages

  pub due_are_renewable : NowOnly t (IsRenewable copy due)
  due_are_renewable = subst (λ (l : List (ℕ × Block)). NowOnly t (IsRenewable copy l)) (sym is) read.read

  sized_still : NowOnly t (HasRegion copy)
  sized_still = sized_now sound (still_copy here read.calls.attached)

  pub due_homes : {u : BayState} → Runs (IsSlot copy.slot) (ChangesOnly (HomesOf copy due)) t u → Runs (IsSlot copy.slot) (MayHome copy) s u
  due_homes run = homes copy due (shaped here) due_are_pages sound sized_still due_are_renewable read.calls.runs run

  pub due_homed : {u : BayState} → Ends (HasHomed copy due) t u → Ends (IsReadied copy) s u
  due_homed ends = is_ready copy due (shaped here) due_are_pages sound sized_still due_are_renewable read.calls.runs ends
