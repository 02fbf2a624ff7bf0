-- What is told of headers is told of their ids.
use Rattle.std.proofs.Common.{◌≡◌, ℕ, Some, None, Option, sym, ap, subst, ◌∙◌}
use Rattle.std.specs.Option.{option_map}
use Rattle.std.proofs.lemmas.Option.{same_Some}
use Rattle.bay.specs.Image.{Image, Same}
use Rattle.bay.specs.Moments.{Runs}
use Rattle.bay.specs.State.{BayState}
use Rattle.asm_formats.specs.Header.{Header}
use Rattle.asm_images.specs.Kept.{header_in}
use Rattle.group_recovery.specs.disk_images.Looks.{IsHeaderHeld}
use Rattle.group_recovery.proofs.Told.{same_header}
use Rattle.mounted_groups.specs.Found.{counts_of, ToldByCounts}
use Rattle.mounted_groups.specs.Probes.{id_in}

pub same_id : (slot : ℕ) (id : Option ℕ) (x y : Image) → Same x y → id_in y slot ≡ id → id_in x slot ≡ id
same_id slot id x y same is = sym (ap (λ (o : Option Header). option_map (λ (h : Header). h.id) o) (same_header slot x y same)) ∙ is

-- a header that is held after calls that leave the disks was there before them
pub told_held : (s t : BayState) {slots : ℕ → Type 0} (slot : ℕ) (o : Option Header) → Runs slots Same s t → IsHeaderHeld slot o s t
    → ToldByCounts (counts_of s) (counts_of t) (λ image. header_in image slot ≡ o)
told_held s t slot o run read = λ now holds image was.
    let from = run.held now holds in
    subst (λ (i : Image). header_in i slot ≡ o) (same_Some from.0 image (sym from.1 ∙ was)) (sym (same_header slot from.0 now from.2) ∙ (read.held now holds).2)

-- what is told of a header is told of its id
pub told_id : (s t : BayState) (slot : ℕ) (o : Option Header) (k h : Header) → o ≡ Some h → k ≡ h → ToldByCounts (counts_of s) (counts_of t) (λ image. header_in image slot ≡ o)
    → ToldByCounts (counts_of s) (counts_of t) (λ image. id_in image slot ≡ Some k.id)
told_id s t slot o k h some same told = λ now holds image was.
    ap (λ (p : Option Header). option_map (λ (j : Header). j.id) p) (told now holds image was ∙ some) ∙ sym (ap (λ (j : Header). Some j.id) same)

pub told_no_id : (s t : BayState) (slot : ℕ) (o : Option Header) → o ≡ None → ToldByCounts (counts_of s) (counts_of t) (λ image. header_in image slot ≡ o) → ToldByCounts (counts_of s) (counts_of t) (λ image. id_in image slot ≡ None)
told_no_id s t slot o none told = λ now holds image was. ap (λ (p : Option Header). option_map (λ (j : Header). j.id) p) (told now holds image was ∙ none)
