-- Members and their user bytes are kept where headers and bytes behind the directory regions are.
use Rattle.std.proofs.Common.{◌≡◌, ℕ, ◌*◌, ◌<◌, ◌≤◌, cond, ◌&&◌, List, [], length, get_or, slice_index, refl, sym, ap, ◌∙◌, ⊎_elim, Some, None, arith, ◌==◌}
use Rattle.std.specs.Prelude.{nat_le}
use Rattle.std.proofs.lemmas.Bool.{cases_lt, cond-false, lt-leb}
use Rattle.bay.specs.Image.{Image, Same}
use Rattle.bay.proofs.Images.{window-same}
use Rattle.asm_formats.specs.Bytes.{block_size, block, is_open, open_byte}
use Rattle.asm_formats.specs.Header.{decoded_header}
use Rattle.asm_formats.specs.Metadata.{Metadata, metadata, header_of}
use Rattle.asm_formats.specs.Regions.{least_size, region_end}
use Rattle.asm_formats.specs.Among.{IsAmong}
use Rattle.asm_images.specs.Bridge.{disk_bytes, disks_in}
use Rattle.asm_images.specs.Kept.{header_in}
use Rattle.asm_images.specs.Members.{Member, byte, metadata_of, all_members, members}
use Rattle.asm_images.proofs.Bridges.{listed, disks_are_listed, bytes_are_listed}
use Rattle.asm_images.proofs.Members.{member_is, among_members}
use Rattle.std.proofs.lemmas.List.{get_or-map, length-map, get_or_past}
use Rattle.group_recovery.specs.Narrowing.{KeepsUserBytes}
use Rattle.group_recovery.specs.Leaving.{LeavesUsers, LeftUsersAreKept}

-- ---- headers

short_header : (bytes : List ℕ) → length bytes < least_size → header_of bytes ≡ None
short_header bytes lt = cond-false (nat_le least_size (length bytes) && is_open bytes 0) (decoded_header (block bytes 1)) None (λ i. lt-leb least_size (length bytes) lt i && is_open bytes 0)

module _ (old new : Image) (s : ℕ) (size : new.size s ≡ old.size s) (front : (k : ℕ) → k < 2 * block_size → new.byte s k ≡ old.byte s k) where
  abbrev was : List ℕ
  was = disk_bytes old s

  abbrev now : List ℕ
  now = disk_bytes new s

  long_header : least_size ≤ old.size s → header_of now ≡ header_of was
  long_header long =
      let listed_old = bytes_are_listed old s in
      let listed_new = bytes_are_listed new s in
      let same_length : length now ≡ length was = listed_new.0 ∙ size ∙ sym listed_old.0 in
      let gate : is_open now 0 ≡ is_open was 0 =
      ap (λ (b : ℕ). b == open_byte) (listed_new.1 0 (omega (arith, long, size)) ∙ front 0 (omega arith) ∙ sym (listed_old.1 0 (omega (arith, long)))) in
      let body : block now 1 ≡ block was 1 = listed_new.2 4096 4096 (omega (arith, long, size))
      ∙ window-same (old.byte s) (new.byte s) 4096 4096 (λ k low high. front k (omega (arith, high))) ∙ sym (listed_old.2 4096 4096 (omega (arith, long))) in
      λ i. cond (nat_le least_size (same_length i) && gate i) (decoded_header (body i)) None

  pub header_stays : header_of now ≡ header_of was
  header_stays = ⊎_elim
      (λ (short : old.size s < least_size). short_header now (omega (arith, short, size, (bytes_are_listed new s).0)) ∙ sym (short_header was (omega (arith, short, (bytes_are_listed old s).0))))
      (λ long. long_header long)
      (cases_lt (old.size s) least_size)

pub left_header : (old new : Image) → LeavesUsers old new → (s : ℕ) → header_in new s ≡ header_in old s
left_header old new leaves s = header_stays old new s (leaves.size s) (λ k lt. leaves.front s k lt)

-- ---- rows of steps

pub leaves_same : (x y : Image) → Same x y → LeavesUsers x y
leaves_same x y same = record { size = same.size; front = λ s k lt. same.byte s k; behind = λ s k h is le. same.byte s k }

pub leaves_then : (x y z : Image) → LeavesUsers x y → LeavesUsers y z → LeavesUsers x z
leaves_then x y z one two = record {
  size = λ s. two.size s ∙ one.size s;
  front = λ s k lt. two.front s k lt ∙ one.front s k lt;
  behind = λ s k h is le. two.behind s k h (left_header x y one s ∙ is) le ∙ one.behind s k h is le;
}

-- ---- members

both_bytes : (old new : Image) (s at : ℕ) → new.size s ≡ old.size s → new.byte s at ≡ old.byte s at → slice_index (disk_bytes new s) at ≡ slice_index (disk_bytes old s) at
both_bytes old new s at size same = ⊎_elim
    (λ (lt : at < old.size s). (bytes_are_listed new s).1 at (omega (arith, lt, size)) ∙ same ∙ sym ((bytes_are_listed old s).1 at lt))
    (λ (le : old.size s ≤ at). get_or_past (disk_bytes new s) at 0 (omega (arith, le, size, (bytes_are_listed new s).0)) ∙ sym (get_or_past (disk_bytes old s) at 0 (omega (arith, le, (bytes_are_listed old s).0))))
    (cases_lt at (old.size s))

module _ (slots id : ℕ) (old new : Image) (leaves : LeavesUsers old new) where
  -- the disk in the list
  in_list : (image : Image) (s : ℕ) → s < slots → get_or (disks_in slots image) s [] ≡ disk_bytes image s
  in_list image s lt = (disks_are_listed slots s image lt).1

  inside : (m : Member) → IsAmong (all_members id (disks_in slots new)) m → m.slot < slots
  inside m h = omega (arith, (member_is id (disks_in slots new) m h).slot, listed slots new)

  was_member : (m : Member) → IsAmong (all_members id (disks_in slots new)) m → (k : Member) × IsAmong (all_members id (disks_in slots old)) k × (k.slot ≡ m.slot) × (k.header ≡ m.header)
  unfolding members metadata
  was_member m h =
      let of = member_is id (disks_in slots new) m h in
      let lt = inside m h in
      let disk : get_or (metadata_of (disks_in slots old)) m.slot (metadata []) ≡ metadata (get_or (disks_in slots old) m.slot []) = get_or-map metadata (disks_in slots old) m.slot [] (metadata []) (omega (arith, lt, listed slots old)) in
      let header : header_of (get_or (disks_in slots old) m.slot []) ≡ Some m.header =
      ap header_of (in_list old m.slot lt) ∙ sym (left_header old new leaves m.slot) ∙ ap header_of (sym (in_list new m.slot lt)) ∙ of.header in (
        record { slot = m.slot; header = m.header; disk = get_or (metadata_of (disks_in slots old)) m.slot (metadata []) },
        among_members id 0 m.slot m.slot (metadata_of (disks_in slots old)) (metadata []) m.header (omega arith)
            (omega (arith, lt, listed slots old, length-map (disks_in slots old) metadata)) (ap (λ (d : Metadata). d.header) disk ∙ header) of.group,
        refl,
        refl,
      )

  same_byte : (m : Member) (at : ℕ) → IsAmong (all_members id (disks_in slots new)) m → region_end m.header.shape.dir_blocks * block_size ≤ at → byte (disks_in slots new) m.slot at ≡ byte (disks_in slots old) m.slot at
  same_byte m at h le =
      let of = member_is id (disks_in slots new) m h in
      let lt = inside m h in
      let header : header_in old m.slot ≡ Some m.header = sym (left_header old new leaves m.slot) ∙ ap header_of (sym (in_list new m.slot lt)) ∙ of.header in
      ap (λ (l : List ℕ). slice_index l at) (in_list new m.slot lt)
      ∙ both_bytes old new m.slot at (leaves.size m.slot) (leaves.behind m.slot at m.header header le)
      ∙ ap (λ (l : List ℕ). slice_index l at) (sym (in_list old m.slot lt))

  pub left_users : KeepsUserBytes id (disks_in slots old) (disks_in slots new)
  left_users = record { member = was_member; bytes = same_byte }

pub left_users_are_kept : LeftUsersAreKept
left_users_are_kept = λ slots id old new leaves. left_users slots id old new leaves
