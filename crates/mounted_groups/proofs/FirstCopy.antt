-- A copy whose log slots are shut.
use Rattle.std.proofs.Common.{◌≡◌, ℕ, ◌*◌, ◌≤◌, refl, sym, Option, Some, None, arith}
use Rattle.std.specs.Prelude.{IsSome, unwrap_or}
use Rattle.std.proofs.lemmas.Bool.{true≢false}
use Rattle.bay.specs.Image.{Image, ChangesOnly}
use Rattle.bay.specs.State.{BayState, IsSound}
use Rattle.bay.specs.Moments.{Runs, NowOnly}
use Rattle.bay.proofs.Calls.{goes_on, stops}
use Rattle.bay.proofs.Images.{changes-trans}
use Rattle.asm_formats.specs.Bytes.{block_size}
use Rattle.asm_formats.specs.Regions.{region_end}
use Rattle.asm_formats.specs.Pages.{home_page}
use Rattle.change_directory.specs.declared.copy.DirCopy.{DirCopy}
use Rattle.change_directory.specs.Places.{IsCopy}
use Rattle.change_directory.specs.Changes.{copy_disk_bytes, content_in}
use Rattle.change_directory.specs.Formatting.{AreShut}
use Rattle.change_directory.specs.StoreLaws.{IsShaped, HasRegion, IsUnopened}
use Rattle.change_directory.proofs.Copies as copies

pub shaped : {state : BayState} {copy : DirCopy} → IsCopy state copy → IsShaped copy
shaped {state} {copy} is = record { sector = is.sector_size; least = is.least; most = is.most }

-- two runs that change one region
pub both_run : {slots : ℕ → Type 0} {region : ℕ → ℕ → Type 0} {a b c : BayState} → Runs slots (ChangesOnly region) a b → Runs slots (ChangesOnly region) b c → Runs slots (ChangesOnly region) a c
both_run {slots} {region} {a} {b} {c} one two = goes_on (changes-trans region) one (stops one) two

-- an attached copy lies inside each image
pub sized_now : {s : BayState} {copy : DirCopy} → IsSound s → IsCopy s copy → NowOnly s (HasRegion copy)
sized_now {s} {copy} sound is = record { now = λ x left. go x left (s.attached copy.slot) refl is.inside is.attached }
  where
    go : (x : Image) → s.leaves s.calls x → (o : Option ℕ) → s.attached copy.slot ≡ o → region_end copy.dir_blocks * block_size ≤ unwrap_or o 0 → IsSome o → HasRegion copy x
    go x left (Some size) at inside some = omega (arith, inside, sound.sized copy.slot size x at left)
    go x left None at inside some = absurd (true≢false (sym some))

-- a shut copy has no content, decodes, and stands at home
pub shut_is : (copy : DirCopy) (x : Image) → IsShaped copy → HasRegion copy x → AreShut copy x → IsUnopened copy (home_page (copy_disk_bytes copy x)) x
shut_is copy x shape sized shut = copies.unopened copy shape x sized shut (home_page (copy_disk_bytes copy x)) (λ p lt. refl)

pub none_now : (copy : DirCopy) (shape : IsShaped copy) {a : BayState} → NowOnly a (HasRegion copy) → NowOnly a (AreShut copy) → NowOnly a (λ x. content_in copy x ≡ None)
none_now copy shape {a} sized shut = record { now = λ x left. (shut_is copy x shape (sized.now x left) (shut.now x left)).none }
