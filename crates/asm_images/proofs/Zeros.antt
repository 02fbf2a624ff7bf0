-- Disks of zeros have no members.
use Rattle.std.proofs.Common.{◌≡◌, ⊎_elim, ℕ, suc, ◌*◌, Bool, true, false, cond, ◌&&◌, leb, length, List, [], ◌∷◌, replicate, slice_index, refl, sym, ap, subst, ◌∙◌, Option, None, arith}
use Rattle.std.proofs.lemmas.List.{get_or-replicate, get_or_past, length-replicate}
use Rattle.std.proofs.lemmas.Bool.{cases_lt}
use Rattle.asm_formats.specs.Header.{Header, decoded_header}
use Rattle.asm_formats.specs.Bytes.{block}
use Rattle.asm_formats.specs.Regions.{least_size}
use Rattle.asm_images.specs.Laws.{zeros}
use Rattle.asm_formats.specs.Metadata.{metadata}
use Rattle.asm_images.specs.Members.{ImageBytes, Member, with_member, members_from, members, metadata_of, within, statuses, all_members}
use Rattle.asm_images.specs.Register.{Fits}
use Rattle.asm_images.specs.Sound.{Sound}

pub zero_byte : (n i : ℕ) → slice_index (replicate n 0) i ≡ 0
zero_byte n i = ⊎_elim (λ lt. get_or-replicate n i 0 0 lt) (λ le. get_or_past (replicate n 0) i 0 (omega (arith, length-replicate {A = ℕ} n 0, le))) (cases_lt i n)

neither : (b : Bool) (x : Option Header) → cond (b && false) x None ≡ None
neither true x = refl
neither false x = refl

no_header : (n : ℕ) → (metadata (replicate n 0)).header ≡ None
unfolding metadata
no_header n = rw (zero_byte n (0 * 4096)) (neither (leb least_size (length (replicate n 0))) (decoded_header (block (replicate n 0) 1)))

no_members : (id slot : ℕ) (sizes : List ℕ) → members_from id slot (metadata_of (zeros sizes)) ≡ []
no_members id slot [] = refl
no_members id slot (n ∷ sizes) = ap (λ (h : Option Header). with_member id slot (metadata (replicate n 0)) h (members_from id (suc slot) (metadata_of (zeros sizes)))) (no_header n) ∙ no_members id (suc slot) sizes

-- with no member there is nothing that a history has to explain
pub nothing_fits : (id : ℕ) → Fits id [] None []
unfolding statuses within
nothing_fits id = record {
  distinct = λ m n h k number birth. absurd h;
  greater = λ v r is h. absurd h;
  slots = λ r h. absurd h;
  numbers = λ r s h k same. absurd h;
  follow = λ v r is h. absurd h;
  surveyed = λ P g is enough. absurd cc;
  completed_found = λ P v is enough. absurd cc;
  claimed = λ P r s h k enough. absurd h;
}

-- an image without members is that of no group
pub memberless : (id : ℕ) (image : ImageBytes) → all_members id image ≡ [] → Sound id image []
memberless id image none = record {
  completed = None;
  begun = [];
  holds = record {
    fits = subst (λ (ms : List Member). Fits id ms None []) (sym none) (nothing_fits id);
    covered = λ r counts not_gone. absurd counts;
  };
}

pub zeros_are_sound : (id : ℕ) (sizes : List ℕ) → Sound id (zeros sizes) []
unfolding members
zeros_are_sound id sizes = memberless id (zeros sizes) (no_members id 0 sizes)
