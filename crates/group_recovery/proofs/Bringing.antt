-- A copy that is brought up keeps the image sound.
use Rattle.std.proofs.Common.{◌≡◌, inl, inr, ⊎_elim, ℕ, ◌+◌, ◌*◌, ◌<◌, ◌≤◌, true, false, List, [], length, get_or, refl, sym, ap, subst, ◌∙◌, Option, Some, None, arith, IsTrue}
use Rattle.std.specs.Option.{is_some}
use Rattle.std.proofs.lemmas.Option.{same_Some}
use Rattle.asm_group.specs.Group.{Group}
use Rattle.asm_formats.specs.Bytes.{block_size}
use Rattle.asm_formats.specs.Content.{Content}
use Rattle.asm_formats.specs.Header.{Header}
use Rattle.asm_formats.specs.Items.{Item}
use Rattle.asm_formats.specs.Metadata.{metadata, header_of, content_of}
use Rattle.asm_formats.specs.Pages.{copy_content, decodes_in}
use Rattle.asm_formats.specs.Places.{SameElsewhere}
use Rattle.asm_formats.specs.Regions.{region_start, region_end}
use Rattle.asm_formats.specs.Status.{Status}
use Rattle.asm_formats.proofs.Framing.{directory_write, header_before}
use Rattle.asm_formats.specs.Among.{IsAmong}
use Rattle.asm_images.specs.ContentLaws.{IsContentReady}
use Rattle.asm_images.specs.Directories.{IsNamed}
use Rattle.asm_images.specs.Members.{ImageBytes, Member, written, all_members, disk_of}
use Rattle.asm_images.specs.PutLaws.{bytes_of}
use Rattle.asm_images.specs.Sound.{IsCovered, SoundBy}
use Rattle.asm_images.specs.Stands.{Describes}
use Rattle.asm_images.specs.Steps.{ChangesContent, KeepsCopies, Outcome, keeps_old_content, loses_content, gains_content}
use Rattle.asm_images.proofs.Committing.{commit_keeps}
use Rattle.asm_images.proofs.Members.{member_is}
use Rattle.asm_images.proofs.OneContent.{ready_is_known}
use Rattle.asm_images.proofs.UserBytes.{metadata_write_keeps_copies}
use Rattle.group_recovery.specs.Bringing.{MayTake, BringingKeeps}
use Rattle.group_recovery.proofs.Taking.{at_slot, found_alone}

module _ (id : ℕ) (old : ImageBytes) (groups : List Group) (s : Status) (c : Content) (m : Member) (slot at n : ℕ) (h : Header) (bytes : List ℕ)
    (sound : SoundBy id old groups (Some s) []) (not_gone : s.gone ≡ false) (among : IsAmong (all_members id old) m) (named : IsNamed s m.header) (is : m.disk.content ≡ Some c) (apart : m.slot ≡ slot → ⊥)
    (inside : slot < length old) (header : header_of (bytes_of old slot) ≡ Some h) (start : region_start * block_size ≤ at) (end_ : at + n ≤ region_end h.shape.dir_blocks * block_size)
    (same : SameElsewhere (bytes_of old slot) bytes at n) where
  abbrev ms : List Member
  ms = all_members id old

  cover : IsCovered id old ms groups s
  cover = sound.covered s (inl refl) not_gone

  -- the content describes a group of the list as the disks are
  described : (g : Group) × IsAmong groups g × Describes old ms ms s c g
  described = cover.described (at_slot m.slot) c (found_alone id old s m c among named is)

  decodes : decodes_in (Some c) ≡ true
  decodes = ap (λ (o : Option (List Item)). is_some o) described.2.decodes

  header_is : (k : Member) → IsAmong ms k → k.slot ≡ slot → k.header ≡ h
  header_is k h_k here = same_Some k.header h (sym (member_is id old k h_k).header ∙ ap (λ (j : ℕ). header_of (get_or old j [])) here ∙ header)

  below : (k : Member) → IsAmong ms k → k.slot ≡ slot → at + n ≤ region_end k.header.shape.dir_blocks * block_size
  below k h_k here = subst (λ (x : Header). at + n ≤ region_end x.shape.dir_blocks * block_size) (sym (header_is k h_k here)) end_

  copies : KeepsCopies id old (written old slot bytes) (Some s) []
  copies = metadata_write_keeps_copies id old groups (Some s) [] sound slot bytes at n inside same below

  header_now : header_of bytes ≡ Some h
  header_now = header_before (bytes_of old slot) bytes at n same (omega (arith, start)) ∙ header

  content_was : (disk_of old slot).content ≡ copy_content h.shape.dir_blocks (bytes_of old slot)
  unfolding metadata
  content_was = ap (λ (o : Option Header). content_of o (bytes_of old slot)) header

  content_now : (metadata bytes).content ≡ copy_content h.shape.dir_blocks bytes
  unfolding metadata
  content_now = ap (λ (o : Option Header). content_of o bytes) header_now

  decodes_was : (disk_of old slot).decodes ≡ decodes_in (disk_of old slot).content
  unfolding metadata
  decodes_was = refl

  decodes_now : (metadata bytes).decodes ≡ decodes_in (metadata bytes).content
  unfolding metadata
  decodes_now = refl

  changes : (IsTrue (disk_of old slot).decodes → decodes_in (metadata bytes).content ≡ true) → ChangesContent (disk_of old slot) (metadata bytes)
  changes still = record { others = directory_write (bytes_of old slot) bytes at n same start; decode = λ before. decodes_now ∙ still before }

  commits : ChangesContent (disk_of old slot) (metadata bytes) → Outcome id old (written old slot bytes) groups (Some s) [] slot (disk_of old slot).content (metadata bytes).content
      → SoundBy id (written old slot bytes) groups (Some s) []
  commits change outcome = commit_keeps id old groups (Some s) [] sound slot bytes (record { inside = inside; change = change; outcome = outcome; copies = copies })

  ready : IsContentReady id old groups (Some s) [] slot c
  ready = record {
    agrees = λ r k q d counts alive h_k at_k named_k h_q apart_q named_q is_d commit. ⊎_elim
        (λ (one : r ≡ s). cover.one_content q m d c h_q among (subst (λ (x : Status). IsNamed x q.header) one named_q) named is_d is commit) (λ none. absurd none) counts;
    described = λ r k counts alive h_k at_k named_k. ⊎_elim
        (λ (one : r ≡ s). subst (λ (x : Status). (g : Group) × IsAmong groups g × Describes old ms ms x c g) (sym one) described) (λ none. absurd none) counts;
  }

  pub brings : MayTake c (copy_content h.shape.dir_blocks (bytes_of old slot)) (copy_content h.shape.dir_blocks bytes) → SoundBy id (written old slot bytes) groups (Some s) []
  brings (inl stays) =
      let still : (metadata bytes).content ≡ (disk_of old slot).content = content_now ∙ stays ∙ sym content_was in
      commits (changes (λ before. ap decodes_in still ∙ sym decodes_was ∙ before)) (keeps_old_content still)
  brings (inr (inl gone)) =
      let none : (metadata bytes).content ≡ None = content_now ∙ gone in
      commits (changes (λ before. ap decodes_in none)) (loses_content none)
  brings (inr (inr taken)) =
      let new : (metadata bytes).content ≡ Some c = content_now ∙ taken in
      let change = changes (λ before. ap decodes_in new ∙ decodes) in
      commits change (gains_content c new (ready_is_known id old groups (Some s) [] slot bytes c at n inside change same below ready))

pub bringing_keeps : BringingKeeps
bringing_keeps = λ id old groups s c m slot at n h bytes sound not_gone among named is apart inside header start end_ same may.
    brings id old groups s c m slot at n h bytes sound not_gone among named is apart inside header start end_ same may
