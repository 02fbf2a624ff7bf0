-- Status and directories are there with some disks, where each record that counts has its members and its copies among them.
use Rattle.std.proofs.Common.{◌≡◌, inl, ⊎_elim, ℕ, Bool, true, false, cond, not, ◌&&◌, List, [], ◌∷◌, map, refl, sym, ap, subst, ◌∙◌, Option, Some, None, IsTrue}
use Rattle.bay.specs.Image as bay
use Rattle.asm_group.specs.Group.{Group}
use Rattle.asm_formats.specs.Content.{Content}
use Rattle.asm_formats.specs.Metadata.{Metadata}
use Rattle.asm_formats.specs.Status.{Status}
use Rattle.asm_formats.specs.Among.{IsAmong}
use Rattle.asm_images.specs.Kept.{Kept, IsHeld}
use Rattle.asm_images.specs.Members.{ImageBytes, Member, AreDistinct, all_members, within, statuses, disk_of}
use Rattle.asm_images.specs.Register.{Fits, HoldsOne, greatest, is_enough, status, status_if_enough}
use Rattle.asm_images.specs.Directories.{directories, newest}
use Rattle.asm_images.specs.Stands.{Standing}
use Rattle.asm_images.proofs.History.{among_statuses, greatest_is, nothing_greatest, not_older, status_counts, status_parts}
use Rattle.asm_images.proofs.Enough.{more_enough}
use Rattle.asm_images.proofs.Held.{held_stands}
use Rattle.asm_images.proofs.Members.{member_is}
use Rattle.asm_images.proofs.Membership.{among_within, filter_out}
use Rattle.asm_images.proofs.OneContent.{found_is_held}
use Rattle.asm_images.proofs.Replacing.{Keeps, copies_map, is_enough_map}
use Rattle.group_engine.specs.Commits.{StandsIn}
use Rattle.group_engine.proofs.Renewing.{among_some, found_by_copy}
pub use Rattle.group_engine.specs.Recorded.{IsThere}

some_greatest : (rs : List Status) (r : Status) → IsAmong rs r → (g : Status) × (greatest rs ≡ Some g)
some_greatest rs r h = go (greatest rs) refl
  where
    go : (o : Option Status) → greatest rs ≡ o → (g : Status) × (greatest rs ≡ Some g)
    go None none = absurd (subst (λ (l : List Status). IsAmong l r) (nothing_greatest rs none) h)
    go (Some g) some = (g, some)

status_is : (id : ℕ) (ms : List Member) (g : Status) → greatest (statuses id ms) ≡ Some g → is_enough g ms ≡ true → g.gone ≡ false → status id ms ≡ Some g
unfolding status
status_is id ms g is enough alive = ap (status_if_enough ms) is ∙ (λ i. cond (enough i && not (alive i)) (Some g) None)

pub stands_by : (id : ℕ) (image : ImageBytes) (slots : ℕ → Bool) (v : Status) (begun : List Status) → Fits id (all_members id image) (Some v) begun
    → ((s : Status) → IsAmong (v ∷ begun) s → IsThere (within slots (all_members id image)) s) → Standing id image slots
stands_by id image slots v begun fits there =
    let all = all_members id image in
    let ms = within slots all in
    let one : HoldsOne id (v ∷ begun) ms = fits.completed_found slots v refl (there v (inl refl)).enough in
    let g = some_greatest (statuses id ms) one.0 one.1 in
    let top = greatest_is (statuses id ms) g.0 g.1 in
    let counts : IsAmong (v ∷ begun) g.0 = ⊎_elim (λ c. c) (λ older. absurd (not_older id all (Some v) begun fits g.0 one.0 one.2 (top.most one.0 one.1) older)) (fits.slots g.0 (among_statuses id slots all g.0 top.among)) in
    let is = there g.0 counts in
    record {
      record_ = g.0;
      content = is.content;
      status_is = status_is id ms g.0 g.1 is.enough is.alive;
      directories_is = is.found;
    }

-- ---- more disks

module _ (id : ℕ) (image : ImageBytes) (distinct : AreDistinct (all_members id image)) (some more : ℕ → Bool) (also : (slot : ℕ) → some slot ≡ true → more slot ≡ true) where
  abbrev ms : List Member
  ms = all_members id image

  -- members that are one disk have one content
  same_content : (m x : Member) (c : Content) → IsAmong ms m → IsAmong ms x → x.header.number ≡ m.header.number → x.header.birth ≡ m.header.birth → m.disk.content ≡ Some c → x.disk.content ≡ Some c
  same_content m x c among_m among_x number birth is =
      let slot : x.slot ≡ m.slot = distinct x m among_x among_m number birth in
      let disk : x.disk ≡ m.disk = (member_is id image x among_x).disk ∙ ap (disk_of image) slot ∙ sym (member_is id image m among_m).disk in
      ap (λ (d : Metadata). d.content) disk ∙ is

  with_more : (m : Member) → IsAmong (within some ms) m → IsAmong (within more ms) m
  unfolding within
  with_more m h = among_some more ms m (among_within some ms m h) (also m.slot (filter_out (λ (k : Member). some k.slot) ms m h))

  -- what is there with some disks is there with more
  pub there_with_more : (r : Status) → IsThere (within some ms) r → IsThere (within more ms) r
  there_with_more r is =
      let held = found_is_held r (within some ms) is.content is.found in
      let copy = found_by_copy r (within more ms) held.0 (with_more held.0 held.1) held.2
      (λ x among named number birth. (is.content, same_content held.0 x is.content (among_within some ms held.0 held.1) (among_within more ms x among) number birth held.3)) in
      record { enough = more_enough r some more ms also is.enough; alive = is.alive; content = copy.0; found = copy.1 }

-- Status and directories are there with any others as well
pub stands_beside : (id : ℕ) (image : ImageBytes) (some more : ℕ → Bool) (v : Status) (begun : List Status) → Fits id (all_members id image) (Some v) begun → ((slot : ℕ) → some slot ≡ true → more slot ≡ true)
    → ((s : Status) → IsAmong (v ∷ begun) s → IsThere (within some (all_members id image)) s) → Standing id image more
stands_beside id image some more v begun fits also there = stands_by id image more v begun fits (λ s counts. there_with_more id image fits.distinct some more also s (there s counts))

-- where no record is begun
pub stands_at_rest : (n id : ℕ) (groups : List Group) (kept : Kept) (image : bay.Image) → kept.begun ≡ [] → IsHeld n id groups kept image → StandsIn n id groups kept image
stands_at_rest n id groups kept image rests is = record { by = kept; slots = refl; is = is; beside = λ slots more. held_stands n id groups kept image slots is rests more }

-- ---- what stays

pub there_over : (f : Member → Member) → Keeps f → (ms : List Member) → ((m : Member) → IsAmong ms m → (f m).disk.content ≡ m.disk.content) → (r : Status) → IsThere ms r → IsThere (map f ms) r
there_over f keeps ms same r is = record {
  enough = is_enough_map f keeps r ms ∙ is.enough;
  alive = is.alive;
  content = is.content;
  found = ap newest (copies_map f keeps r ms same) ∙ is.found;
}

-- by Status and directories of these disks
pub there_by : (id : ℕ) (image : ImageBytes) (slots : ℕ → Bool) (v : Status) → Fits id (all_members id image) (Some v) [] → Standing id image slots → IsThere (within slots (all_members id image)) v
there_by id image slots v fits s =
    let ms = all_members id image in
    let is : s.record_ ≡ v = ⊎_elim (λ e. e) (λ none. absurd none) (status_counts id ms (Some v) [] slots s.record_ fits s.status_is) in
    let p = status_parts id (within slots ms) s.record_ s.status_is in
    record {
      enough = subst (λ (t : Status). IsTrue (is_enough t (within slots ms))) is p.enough;
      alive = subst (λ (t : Status). t.gone ≡ false) is p.not_gone;
      content = s.content;
      found = ap (λ (t : Status). directories t (within slots ms)) (sym is) ∙ s.directories_is;
    }

-- the completed record is held
pub completed_held : (id : ℕ) (image : ImageBytes) (slots : ℕ → Bool) (v : Status) → Fits id (all_members id image) (Some v) [] → IsThere (within slots (all_members id image)) v → IsAmong (statuses id (all_members id image)) v
completed_held id image slots v fits is =
    let ms = all_members id image in
    let one : HoldsOne id (v ∷ []) (within slots ms) = fits.completed_found slots v refl is.enough in
    let is_v : one.0 ≡ v = ⊎_elim (λ e. e) (λ none. absurd none) one.2 in
    among_statuses id slots ms v (subst (λ (t : Status). IsAmong (statuses id (within slots ms)) t) is_v one.1)
