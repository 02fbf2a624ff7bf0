-- What some disks say and one disk more.
use Rattle.std.proofs.Common.{◌≡◌, ℕ, ◌≤◌, ◌<◌, List, [], ◌∷◌, ◌++◌, max, Option, Some, None, refl, sym, ap, ◌∙◌, arith, flat_map}
use Rattle.std.specs.Prelude.{nat_lt}
use Rattle.std.specs.Option.{option_map, option_or}
use Rattle.std.proofs.lemmas.Bool.{cond_both, cond-true, cond-false, ltb-true, ltb-false, lt-ltb, le-ltb}
use Rattle.std.proofs.lemmas.List.{append-nil}
use Rattle.std.proofs.lemmas.Grind.{flat_map-append}
use Rattle.bay.specs.Image.{Image}
use Rattle.asm_formats.specs.Claim.{Claim}
use Rattle.asm_formats.specs.Status.{Status}
use Rattle.asm_formats.specs.Following.{rank}
use Rattle.asm_formats.specs.Damage.{body_damage}
use Rattle.asm_images.specs.Bridge.{disk_bytes}
use Rattle.asm_images.specs.Members.{claims_of_group, of_group}
use Rattle.asm_images.specs.Register.{greatest, greater}
use Rattle.status_register.specs.Surveys.{disk_in, claims_on, records_on, greatest_epoch, first_damage, greater_of, DisksSay}
use Rattle.status_register.specs.declared.member.Member.{Member}

-- ---- the greatest epoch and the greatest record

max_assoc : (a b c : ℕ) → max a (max b c) ≡ max (max a b) c
max_assoc a b c = omega arith

pub epochs_join : (xs ys : List Claim) → greatest_epoch (xs ++ ys) ≡ max (greatest_epoch xs) (greatest_epoch ys)
epochs_join [] ys = omega arith
epochs_join (x ∷ xs) ys = ap (λ (n : ℕ). max x.epoch n) (epochs_join xs ys) ∙ max_assoc x.epoch (greatest_epoch xs) (greatest_epoch ys)

-- of three records the greatest, two by two
greater_twice : (x s : Status) (o : Option Status) → greater x (greater s o) ≡ greater_of (greater x (Some s)) o
greater_twice x s None = cond_both (nat_lt (rank x) (rank s)) (Some s) (Some x) (λ (p : Option Status). p ≡ greater_of p None) (λ lt. refl) (λ le. refl)
greater_twice x s (Some t) = cond_both (nat_lt (rank x) (rank s)) (Some s) (Some x) (λ (p : Option Status). greater x (greater s (Some t)) ≡ greater_of p (Some t))
    (λ lt. with_greater (ltb-true (rank x) (rank s) lt))
    (λ le. with_smaller (ltb-false (rank x) (rank s) le))
  where
    with_greater : rank x < rank s → greater x (greater s (Some t)) ≡ greater s (Some t)
    with_greater lt = cond_both (nat_lt (rank s) (rank t)) (Some t) (Some s) (λ (p : Option Status). greater x p ≡ p)
        (λ above. cond-true (nat_lt (rank x) (rank t)) (Some t) (Some x) (lt-ltb (rank x) (rank t) (omega (arith, lt, ltb-true (rank s) (rank t) above))))
        (λ below. cond-true (nat_lt (rank x) (rank s)) (Some s) (Some x) (lt-ltb (rank x) (rank s) lt))

    with_smaller : rank s ≤ rank x → greater x (greater s (Some t)) ≡ greater x (Some t)
    with_smaller le = cond_both (nat_lt (rank s) (rank t)) (Some t) (Some s) (λ (p : Option Status). greater x p ≡ greater x (Some t))
        (λ above. refl)
        (λ below. cond-false (nat_lt (rank x) (rank s)) (Some s) (Some x) (le-ltb (rank x) (rank s) le)
        ∙ sym (cond-false (nat_lt (rank x) (rank t)) (Some t) (Some x) (le-ltb (rank x) (rank t) (omega (arith, le, ltb-false (rank s) (rank t) below)))))

greater_assoc : (x : Status) (o p : Option Status) → greater x (greater_of o p) ≡ greater_of (greater x o) p
greater_assoc x None p = refl
greater_assoc x (Some s) p = greater_twice x s p

pub records_join : (xs ys : List Status) → greatest (xs ++ ys) ≡ greater_of (greatest xs) (greatest ys)
records_join [] ys = refl
records_join (x ∷ xs) ys = ap (λ (o : Option Status). greater x o) (records_join xs ys) ∙ greater_assoc x (greatest xs) (greatest ys)

-- ---- the first damage

or_assoc : {A : Type 0} (a b c : Option A) → option_or a (option_or b c) ≡ option_or (option_or a b) c
or_assoc None b c = refl
or_assoc (Some x) b c = refl

pub no_damage_more : {A : Type 0} (a : Option A) → option_or a None ≡ a
no_damage_more None = refl
no_damage_more (Some x) = refl

abbrev pub damage_of : Image → Member → Option (ℕ × ℕ)
damage_of image m = option_map (λ block. (m.slot, block)) (body_damage (disk_bytes image m.slot))

pub damage_joins : (image : Image) (ms : List Member) (m : Member) → first_damage image (ms ++ m ∷ []) ≡ option_or (first_damage image ms) (damage_of image m)
unfolding first_damage
damage_joins image [] m = no_damage_more (damage_of image m)
damage_joins image (n ∷ ms) m = ap (λ (o : Option (ℕ × ℕ)). option_or (damage_of image n) o) (damage_joins image ms m) ∙ or_assoc (damage_of image n) (first_damage image ms) (damage_of image m)

-- ---- one disk more

pub says_nothing : (id : ℕ) (image : Image) → DisksSay id [] 0 None None image
unfolding claims_on records_on first_damage
says_nothing id image = record { epoch_is = refl; status_is = refl; damage_is = refl }

module _ (id : ℕ) (image : Image) (ms : List Member) (m : Member) where
  claims_more : claims_on id image (ms ++ m ∷ []) ≡ claims_on id image ms ++ claims_of_group id (disk_in image m.slot).claims
  unfolding claims_on
  claims_more = flat_map-append (λ (n : Member). claims_of_group id (disk_in image n.slot).claims) ms (m ∷ [])
      ∙ ap (λ (cs : List Claim). flat_map (λ (n : Member). claims_of_group id (disk_in image n.slot).claims) ms ++ cs) (append-nil (claims_of_group id (disk_in image m.slot).claims))

  records_more : records_on id image (ms ++ m ∷ []) ≡ records_on id image ms ++ of_group id (disk_in image m.slot).statuses
  unfolding records_on
  records_more = flat_map-append (λ (n : Member). of_group id (disk_in image n.slot).statuses) ms (m ∷ [])
      ∙ ap (λ (rs : List Status). flat_map (λ (n : Member). of_group id (disk_in image n.slot).statuses) ms ++ rs) (append-nil (of_group id (disk_in image m.slot).statuses))

  pub says_more : {epoch more_epoch : ℕ} {status more_status : Option Status} {damage : Option (ℕ × ℕ)} {block : Option ℕ} → DisksSay id ms epoch status damage image
      → greatest_epoch (claims_of_group id (disk_in image m.slot).claims) ≡ more_epoch → greatest (of_group id (disk_in image m.slot).statuses) ≡ more_status
      → body_damage (disk_bytes image m.slot) ≡ block
      → DisksSay id (ms ++ m ∷ []) (max epoch more_epoch) (greater_of status more_status) (option_or damage (option_map (λ b. (m.slot, b)) block)) image
  says_more {epoch} {more_epoch} {status} {more_status} {damage} {block} so_far epoch_is status_is block_is = record {
    epoch_is = ap greatest_epoch claims_more ∙ epochs_join (claims_on id image ms) (claims_of_group id (disk_in image m.slot).claims) ∙ (λ i. max (so_far.epoch_is i) (epoch_is i));
    status_is = ap greatest records_more ∙ records_join (records_on id image ms) (of_group id (disk_in image m.slot).statuses) ∙ (λ i. greater_of (so_far.status_is i) (status_is i));
    damage_is = damage_joins image ms m ∙ (λ i. option_or (so_far.damage_is i) (option_map (λ b. (m.slot, b)) (block_is i)));
  }
