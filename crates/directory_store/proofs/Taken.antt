-- A load takes the copy of the greatest number on the least disk, and keeps those with the same content.
use Rattle.std.proofs.Common.{◌≡◌, ◌⊎◌, inl, inr, ⊎_elim, ℕ, ◌<◌, ◌≤◌, Bool, true, false, List, [], refl, sym, ap, subst, ◌∙◌, Option, Some, None, arith}
use Rattle.std.specs.Prelude.{◌==◌}
use Rattle.std.proofs.lemmas.Bool.{and_from, eq-eqb, true≢false}
use Rattle.bay.specs.Image.{Image}
use Rattle.bay.specs.State.{BayState}
use Rattle.asm_formats.specs.Among.{IsAmong}
use Rattle.asm_formats.specs.Content.{Content}
use Rattle.change_directory.specs.declared.copy.DirCopy.{DirCopy}
use Rattle.change_directory.specs.Formatting.{AreShut}
use Rattle.change_directory.specs.Loads.{AreInOrder}
use Rattle.change_directory.specs.StoreLaws.{HasContent, IsShaped, shown_by}
use Rattle.bay.specs.Told.{Told}
use Rattle.change_directory.proofs.Copies.{not_shut}
use Rattle.directory_store.specs.Copies.{AreNamedCopies}
use Rattle.directory_store.specs.Loading.{HasBehind, IsLeastOf, KeepsEqual, ShareContent, TakesLeast}
use Rattle.directory_store.specs.Reading.{AreCopiesRead, IsBehind, IsBuilt, IsNewest, IsCopyUnread, RoseOnCopy, WasRead, are_same, copies_of_readings, same_pages}
use Rattle.directory_store.specs.Stores.{HaveOneSize, Stored}
use Rattle.directory_store.specs.declared.reading.Reading.{Reading}
use Rattle.directory_store.proofs.Building.{filled_by_order}
use Rattle.directory_store.proofs.EqualPages.{equal_pages}
use Rattle.directory_store.proofs.Loads.{copy_among, kept_has, read_content}
use Rattle.directory_store.proofs.ReadingCopies.{part_among}
use Rattle.directory_store.proofs.Steps.{shaped}

module _ (copies : List DirCopy) (readings : List Reading) (s t : BayState) (named : AreNamedCopies copies [] s) (read : AreCopiesRead copies readings s t) where
  given : (q : Reading) → IsAmong readings q → IsAmong copies q.copy
  given q among = part_among (copies_of_readings readings) copies read.parts q.copy (copy_among readings q among)

  shape_of : (q : Reading) → IsAmong readings q → IsShaped q.copy
  shape_of q among = shaped (named q.copy (given q among)).copy_is

  content_of : (q : Reading) → IsAmong readings q → Told s t (HasContent q.copy q.number (shown_by q.pages.blocks.items))
  content_of q among = λ now holds image was. read_content q image (shape_of q among) (read.numbers q among) (read.told q among now holds image was)

  module _ (r : Reading) (newest : IsNewest readings r) where
    has_of : (q : Reading) → IsAmong readings q → (d : DirCopy) → q.copy ≡ d → Told s t (HasContent d q.number (shown_by q.pages.blocks.items))
    has_of q among d is = subst (λ (c : DirCopy). Told s t (HasContent c q.number (shown_by q.pages.blocks.items))) is (content_of q among)

    -- a copy that was read has a content behind that of the reading that is taken
    has_behind : (q : Reading) → IsAmong readings q → (d : DirCopy) → q.copy ≡ d → IsBehind r q → Told s t (HasBehind r.number r.copy d)
    has_behind q among d is (inl less) = λ now holds image was. inl (q.number, less, shown_by q.pages.blocks.items, has_of q among d is now holds image was)
    has_behind q among d is (inr equal) = λ now holds image was. inr (
      (shown_by q.pages.blocks.items, subst (λ (n : ℕ). HasContent d n (shown_by q.pages.blocks.items) image) equal.0 (has_of q among d is now holds image was)),
      subst (λ (c : DirCopy). r.copy.number ≤ c.number) is equal.1,
    )

    pub least_of : IsLeastOf copies r.number r.copy s t
    least_of = record {
      among = given r newest.among;
      has = λ now holds image was. (shown_by r.pages.blocks.items, content_of r newest.among now holds image was);
      others = λ d among. ⊎_elim
          (λ (was : WasRead readings d). inr (has_behind was.0 was.1 d was.2 (newest.others was.0 was.1)))
          (λ unread. inl unread)
          (read.others d among);
    }

  module _ (store : Stored) (size : HaveOneSize copies) (built : IsBuilt readings store) where
    pub takes_least : TakesLeast store copies s t
    takes_least = (built.taken.copy, built.slot, subst (λ (n : ℕ). IsLeastOf copies n built.taken.copy s t) (sym built.number) (least_of built.taken built.newest))

    taken_among : IsAmong readings built.taken
    taken_among = built.newest.among

    -- one number
    number_same : (q : Reading) (x : Image) → ShareContent q.copy built.taken.copy x → HasContent q.copy q.number (shown_by q.pages.blocks.items) x
        → HasContent built.taken.copy built.taken.number (shown_by built.taken.pages.blocks.items) x → q.number ≡ built.taken.number
    number_same q x share mine taken =
        sym (commit_is share.number q.number (sym share.one.content ∙ mine.content)) ∙ commit_is share.number built.taken.number (sym share.other.content ∙ taken.content)
      where
        commit_of : Option Content → ℕ
        commit_of None = 0
        commit_of (Some content) = content.commit

        commit_is : {a b : Option Content} (n m : ℕ) → a ≡ b → commit_of a ≡ commit_of b
        commit_is n m e = ap commit_of e

    pub keeps_equal : KeepsEqual store copies s t
    keeps_equal = (built.taken.copy, built.slot, given built.taken taken_among, each) where
      blocks_same : (q : Reading) → IsAmong readings q → (x : Image) → ShareContent q.copy built.taken.copy x → HasContent q.copy q.number (shown_by q.pages.blocks.items) x
          → HasContent built.taken.copy built.taken.number (shown_by built.taken.pages.blocks.items) x → same_pages q.pages.blocks.items built.taken.pages.blocks.items ≡ true
      blocks_same q among x share mine taken =
          let one : q.copy.dir_blocks ≡ built.taken.copy.dir_blocks = size q.copy built.taken.copy (given q among) (given built.taken taken_among) in
          equal_pages q.copy.dir_blocks q.pages.blocks.items built.taken.pages.blocks.items (filled_by_order q.copy.dir_blocks q.pages (read.orders q among))
          (filled_by_order q.copy.dir_blocks built.taken.pages (subst (λ (d : ℕ). AreInOrder d built.taken.pages) (sym one) (read.orders built.taken taken_among)))
          (λ k lt.
          let below : k < built.taken.copy.dir_blocks = omega (arith, lt, one) in
          sym (mine.pages.pages k lt) ∙ share.one.pages.pages k lt ∙ sym (share.other.pages.pages k below) ∙ taken.pages.pages k below)

      -- a reading with the content that is taken is one of the kept
      of_reading : (q : Reading) → IsAmong readings q → (b : Bool) → are_same built.taken q ≡ b → IsAmong store.copies q.copy ⊎ (RoseOnCopy s t q.copy ⊎ Told s t (λ x. ShareContent q.copy built.taken.copy x → ⊥))
      of_reading q among true same =
          inl (subst (λ (l : List DirCopy). IsAmong l q.copy) (sym built.copies) (copy_among built.kept q (kept_has built.taken readings built.kept built.are_kept q among same)))
      of_reading q among false differ = inr (inr (λ now holds image was share.
          let mine = content_of q among now holds image was in
          let taken = content_of built.taken taken_among now holds image was in
          let same : are_same built.taken q ≡ true = and_from (q.number == built.taken.number) (same_pages q.pages.blocks.items built.taken.pages.blocks.items)
          (eq-eqb q.number built.taken.number (number_same q image share mine taken)) (blocks_same q among image share mine taken) in
          true≢false (sym same ∙ differ)))

      each : (c : DirCopy) → IsAmong copies c → IsAmong store.copies c ⊎ (RoseOnCopy s t c ⊎ Told s t (λ x. ShareContent c built.taken.copy x → ⊥))
      each c among = ⊎_elim
          (λ (was : WasRead readings c).
          subst (λ (d : DirCopy). IsAmong store.copies d ⊎ (RoseOnCopy s t d ⊎ Told s t (λ x. ShareContent d built.taken.copy x → ⊥))) was.2 (of_reading was.0 was.1 (are_same built.taken was.0) refl))
          (λ (unread : IsCopyUnread c s t). inr (⊎_elim (λ rose. inl rose)
          (λ (shut : Told s t (AreShut c)). inr (λ now holds image was share. not_shut c (shaped (named c among).copy_is) share.number share.page image share.one (shut now holds image was))) unread))
          (read.others c among)
