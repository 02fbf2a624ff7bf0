-- The disks that a mount found, as the image that the disks held before has them.
use Rattle.std.proofs.Common.{◌≡◌, inl, inr, ⊎_elim, ℕ, ◌<◌, Bool, IsSome, true, false, not, List, [], ◌∷◌, Option, Some, None, refl, sym, ◌∙◌, ap, subst, ◌==◌, if◌then◌else◌}
use Rattle.std.proofs.lemmas.Bool.{cases_Bool, cond_both, false≢true}
use Rattle.std.proofs.lemmas.Option.{same_Some}
use Rattle.bay.specs.Counts.{Rose}
use Rattle.bay.specs.Image.{Image, Same}
use Rattle.bay.specs.Moments.{NowOnly, Runs}
use Rattle.bay.specs.State.{BayState, IsSound}
use Rattle.asm_formats.specs.Among.{IsAmong}
use Rattle.asm_formats.specs.Header.{Header}
use Rattle.asm_formats.specs.Status.{Entry, Status}
use Rattle.asm_images.specs.Kept.{header_in}
use Rattle.change_directory.specs.declared.copy.DirCopy.{DirCopy}
use Rattle.status_register.specs.Surveys.{AreRead}
use Rattle.status_register.specs.declared.member.Member.{Member}
use Rattle.status_register.proofs.Losing.{took_or_failed}
use Rattle.status_register.proofs.Taking.{kept_among}
use Rattle.group_recovery.specs.Finding.{AreAllHeaded, AreThere, IsFoundIn}
use Rattle.group_recovery.specs.Founds.{is_held, not_held}
use Rattle.group_recovery.specs.NamedCopies.{directory_copy_of, is_named_copy, named_copies}
use Rattle.group_recovery.specs.Recovering.{is_own, own_members}
use Rattle.group_recovery.specs.Verdicts.{member_of, members_with}
use Rattle.group_recovery.specs.declared.finding.Headed.{Headed}
use Rattle.mounted_groups.specs.Holding.{IsHeldSlot}
use Rattle.mounted_groups.specs.MountCauses.{AreDisksWith, IsHeadedDisk, IsDiskThere, Look, SlotFailed, has_id, look}

-- ---- some of a list of disks

-- of the disks for which a test is true this is taken
abbrev pub picked : {A : Type 0} → (Headed → Bool) → (Headed → A) → List Headed → List A
picked test of [] = []
picked test of (h ∷ hs) = if test h then of h ∷ picked test of hs else picked test of hs

pub members_picked : (id : ℕ) (hs : List Headed) → members_with id hs ≡ picked (has_id id) member_of hs
members_picked id [] = refl
members_picked id (h ∷ hs) = ap (λ (l : List Member). if h.header.id == id then member_of h ∷ l else l) (members_picked id hs)

pub own_picked : (id : ℕ) (entries : List Entry) (hs : List Headed) → own_members id entries hs ≡ picked (is_own id entries) member_of hs
own_picked id entries [] = refl
own_picked id entries (h ∷ hs) = ap (λ (l : List Member). if is_own id entries h then member_of h ∷ l else l) (own_picked id entries hs)

pub copies_picked : (id : ℕ) (read : List Member) (r : Status) (hs : List Headed) → named_copies id read r hs ≡ picked (is_named_copy id read r) directory_copy_of hs
copies_picked id read r [] = refl
copies_picked id read r (h ∷ hs) = ap (λ (l : List DirCopy). if is_named_copy id read r h then directory_copy_of h ∷ l else l) (copies_picked id read r hs)

-- each was taken of such a disk
pub picked_from : {A : Type 0} (test : Headed → Bool) (of : Headed → A) (hs : List Headed) (a : A) → IsAmong (picked test of hs) a → (h : Headed) × IsAmong hs h × (test h ≡ true) × (a ≡ of h)
picked_from test of [] a is = absurd is
picked_from {A} test of (x ∷ xs) a is =
    let later : IsAmong (picked test of xs) a → (h : Headed) × IsAmong (x ∷ xs) h × (test h ≡ true) × (a ≡ of h) = λ old. let k = picked_from test of xs a old in (k.0, inr k.1, k.2, k.3) in
    cond_both (test x) (of x ∷ picked test of xs) (picked test of xs) (λ (l : List A). IsAmong l a → (h : Headed) × IsAmong (x ∷ xs) h × (test h ≡ true) × (a ≡ of h))
    (λ yes. λ among. ⊎_elim (λ (same : a ≡ of x). (x, inl refl, yes, same)) later among)
    (λ no. later) is

-- and it is taken of each
pub picked_all : {A : Type 0} (test : Headed → Bool) (of : Headed → A) (hs : List Headed) (h : Headed) → IsAmong hs h → test h ≡ true → IsAmong (picked test of hs) (of h)
picked_all test of [] h among passes = absurd among
picked_all {A} test of (x ∷ xs) h among passes =
    let later : IsAmong xs h → IsAmong (picked test of xs) (of h) = λ old. picked_all test of xs h old passes in
    cond_both (test x) (of x ∷ picked test of xs) (picked test of xs) (λ (l : List A). IsAmong l (of h))
    (λ is. ⊎_elim (λ (same : h ≡ x). inl (ap of same)) (λ old. inr (later old)) among)
    (λ no. ⊎_elim (λ (same : h ≡ x). absurd (false≢true (sym no ∙ (ap test (sym same) ∙ passes)))) later among)

-- ---- disks in slots that others hold

filter_in : (test : Headed → Bool) (hs : List Headed) (h : Headed) → IsAmong hs h → test h ≡ true → IsAmong (picked test (λ (k : Headed). k) hs) h
filter_in test hs h among is = picked_all test (λ (k : Headed). k) hs h among is

free_picked : (held : List ℕ) (hs : List Headed) → not_held held hs ≡ picked (λ (h : Headed). not (is_held held h.slot)) (λ (k : Headed). k) hs
free_picked held [] = refl
free_picked held (h ∷ hs) = ap (λ (l : List Headed). if not (is_held held h.slot) then h ∷ l else l) (free_picked held hs)

-- a disk in no such slot is left
pub free_among : (held : List ℕ) (hs : List Headed) (h : Headed) → IsAmong hs h → (IsHeldSlot held h.slot → ⊥) → IsAmong (not_held held hs) h
free_among held hs h among free = subst (λ (l : List Headed). IsAmong l h) (sym (free_picked held hs))
    (filter_in (λ (k : Headed). not (is_held held k.slot)) hs h among
    (⊎_elim (λ (yes : is_held held h.slot ≡ true). absurd (free yes)) (λ (no : is_held held h.slot ≡ false). ap not no) (cases_Bool (is_held held h.slot))))

-- ---- the image before

pub some_of : (o : Option Image) → IsSome o → (x : Image) × (o ≡ Some x)
some_of None some = absurd (false≢true some)
some_of (Some x) some = (x, refl)

same_image : (x y : Image) → Same x y → y ≡ x
same_image x y same = λ i. record { size = λ k. same.size k i; byte = λ k j. same.byte k j i }

module _ (n : ℕ) (s t : BayState) (x : Image) (holds : s.holds ≡ Some x) where
  abbrev pub l : Look
  l = look n s t x

  -- in a state before which nothing was written
  module _ (u : BayState) (sound : IsSound u) (looks : Runs (λ slot. slot < n) Same s u) where
    held_there : (y : Image) × (u.holds ≡ Some y) × (y ≡ x)
    held_there =
        let y = some_of u.holds (looks.tells (subst (λ (o : Option Image). IsSome o) (sym holds) refl)) in
        let from = looks.held y.0 y.1 in
        (y.0, y.1, same_image from.0 y.0 from.2 ∙ same_Some from.0 x (sym from.1 ∙ holds))

    -- what each image has that a stop may leave, the disks had before
    pub before : (P : Image → Type 0) → NowOnly u P → P x
    before P now = let y = held_there in subst P y.2 (now.now y.0 (sound.held y.0 y.1))

    pub holds_there : u.holds ≡ Some x
    holds_there = let y = held_there in y.1 ∙ ap (λ (z : Image). Some z) y.2

    pub is_disk : (hs : List Headed) → AreThere n hs u → (h : Headed) → IsAmong hs h → IsHeadedDisk l h
    is_disk hs are h among = record {
      below = are.inside h among;
      size = before (λ (image : Image). image.size h.slot ≡ h.size) (record { now = λ image left. sound.sized h.slot h.size image (are.attached h among) left });
      header = before (λ (image : Image). header_in image h.slot ≡ Some h.header) (are.now h among);
    }

    -- each disk that is there was found
    pub is_among : (hs : List Headed) (from : BayState) → AreThere n hs u → AreAllHeaded n hs from u → ((slot : ℕ) → Rose (from.faults slot) (u.faults slot) → SlotFailed l slot)
        → (d : Headed) → IsDiskThere l d → IsAmong hs d
    is_among hs from are all wider d there = ⊎_elim
        (λ rose. absurd (there.fine (wider d.slot rose)))
        (λ told. found (before (λ (image : Image). (h : Header) → header_in image d.slot ≡ Some h → IsFoundIn hs d.slot h) told d.header there.is.header))
        (all.each d.slot there.is.below)
      where
        found : IsFoundIn hs d.slot d.header → IsAmong hs d
        found f =
            let k = f.headed in
            let size : k.size ≡ d.size = sym (is_disk hs are k f.among).size ∙ ap (λ (i : ℕ). x.size i) f.slot_is ∙ there.is.size in
            let same : k ≡ d = λ i. record { slot = f.slot_is i; size = size i; header = f.header_is i } in
            subst (λ (h : Headed). IsAmong hs h) same f.among

  -- ---- members

  -- those that a test takes of found disks
  pub of_picked : (test : Headed → Bool) (hs : List Headed) → ((h : Headed) → IsAmong hs h → IsHeadedDisk l h) → ((d : Headed) → IsDiskThere l d → test d ≡ true → IsAmong hs d)
      → AreDisksWith l test (picked test member_of hs)
  of_picked test hs are all = record {
    each = λ m among. let k = picked_from test member_of hs m among in (k.0, are k.0 k.1, k.2, k.3);
    all = λ d there is. picked_all test member_of hs d (all d there is) is;
  }

  -- those of them that were read
  pub of_read : (test : Headed → Bool) (ms read : List Member) (failed : ℕ → Type 0) → AreDisksWith l test ms → AreRead failed ms read → ((slot : ℕ) → failed slot → SlotFailed l slot)
      → AreDisksWith l test read
  of_read test ms read failed of are wider = record {
    each = λ m among. of.each m (kept_among failed ms read are m among);
    all = λ d there is. ⊎_elim (λ took. took) (λ lost. absurd (there.fine (wider d.slot lost))) (took_or_failed failed ms read are (member_of d) (of.all d there is));
  }
