-- What the slots of one disk say, and of one disk more.
use Rattle.std.proofs.Common.{◌≡◌, ℕ, ◌+◌, ◌*◌, ◌≤◌, Bool, true, false, not, List, [], ◌∷◌, ◌++◌, Option, Some, None, refl, sym, ap, ◌∙◌, arith}
use Rattle.std.specs.Prelude.{◌==◌, ◌&&◌, if◌then◌else◌}
use Rattle.std.specs.Option.{option_map, option_or, is_some}
use Rattle.bay.specs.Image.{Image, window}
use Rattle.asm_formats.specs.Bytes.{block, is_open}
use Rattle.asm_formats.specs.Claim.{Claim, decoded_claim}
use Rattle.asm_formats.specs.Status.{Status, decoded_status}
use Rattle.asm_formats.specs.Metadata.{metadata, in_slot}
use Rattle.asm_formats.specs.Damage.{body_damage, is_spoiled}
use Rattle.asm_images.specs.Bridge.{disk_bytes}
use Rattle.asm_images.proofs.Bridges.{bytes_are_listed}
use Rattle.asm_images.specs.Members.{claims_of_group, of_group}
use Rattle.asm_images.specs.Register.{greatest}
use Rattle.status_register.specs.Slots.{ShowBoth, body_says}
use Rattle.status_register.specs.Surveys.{disk_in, greatest_epoch}
use Rattle.status_register.specs.Tallies.{SlotsSay}
use Rattle.status_register.specs.declared.places.SlotPair.TheVariants.{Claims, Records}
use Rattle.status_register.specs.Sayings.{damage_in, none_or_one, shows_no_value}

-- ---- one slot

module _ {A : Type 0} (decoded : List ℕ → Option A) where
  listed_by : (b : Bool) (w : List ℕ) → (if b then decoded w ∷ [] else []) ≡ none_or_one (option_map decoded (if b then Some w else None))
  listed_by true w = refl
  listed_by false w = refl

  spoiled_value : (o : Option A) → not (is_some o) ≡ shows_no_value (Some o)
  spoiled_value None = refl
  spoiled_value (Some x) = refl

  spoiled_by : (b : Bool) (w : List ℕ) → (b && not (is_some (decoded w))) ≡ shows_no_value (option_map decoded (if b then Some w else None))
  spoiled_by true w = spoiled_value (decoded w)
  spoiled_by false w = refl

  module _ (image : Image) (slot k : ℕ) (long : (k + 2) * 4096 ≤ image.size slot) where
    gate_is : is_open (disk_bytes image slot) k ≡ (image.byte slot (k * 4096) == 165)
    gate_is = ap (λ (b : ℕ). b == 165) ((bytes_are_listed image slot).1 (k * 4096) (omega (arith, long)))

    body_is : block (disk_bytes image slot) (k + 1) ≡ window (image.byte slot) ((k + 1) * 4096) 4096
    body_is = (bytes_are_listed image slot).2 ((k + 1) * 4096) 4096 (omega (arith, long))

    pub slot_says : in_slot decoded (disk_bytes image slot) k ≡ none_or_one (body_says decoded image slot k)
    slot_says = (λ i. if gate_is i then decoded (body_is i) ∷ [] else []) ∙ listed_by (image.byte slot (k * 4096) == 165) (window (image.byte slot) ((k + 1) * 4096) 4096)

    pub slot_spoiled : is_spoiled decoded (disk_bytes image slot) k ≡ shows_no_value (body_says decoded image slot k)
    slot_spoiled = (λ i. gate_is i && not (is_some (decoded (body_is i)))) ∙ spoiled_by (image.byte slot (k * 4096) == 165) (window (image.byte slot) ((k + 1) * 4096) 4096)

-- ---- one disk

module _ (image : Image) (slot : ℕ) (long : 40960 ≤ image.size slot) where
  pub claims_said : (disk_in image slot).claims ≡ none_or_one (body_says decoded_claim image slot 2) ++ none_or_one (body_says decoded_claim image slot 4)
  unfolding metadata
  claims_said = λ i. slot_says decoded_claim image slot 2 (omega (arith, long)) i ++ slot_says decoded_claim image slot 4 (omega (arith, long)) i

  pub statuses_said : (disk_in image slot).statuses ≡ none_or_one (body_says decoded_status image slot 6) ++ none_or_one (body_says decoded_status image slot 8)
  unfolding metadata
  statuses_said = λ i. slot_says decoded_status image slot 6 (omega (arith, long)) i ++ slot_says decoded_status image slot 8 (omega (arith, long)) i

  damage_by : (a b c d : Bool) → option_map (λ k. k + 1) (option_or (if a then Some 2 else (if b then Some 4 else None)) (if c then Some 6 else (if d then Some 8 else None)))
      ≡ option_or (if a then Some 3 else (if b then Some 5 else None)) (if c then Some 7 else (if d then Some 9 else None))
  damage_by true b c d = refl
  damage_by false true c d = refl
  damage_by false false true d = refl
  damage_by false false false true = refl
  damage_by false false false false = refl

  pub damage_said : body_damage (disk_bytes image slot)
      ≡ option_or (damage_in Claims (body_says decoded_claim image slot 2) (body_says decoded_claim image slot 4)) (damage_in Records (body_says decoded_status image slot 6) (body_says decoded_status image slot 8))
  unfolding body_damage
  damage_said =
      (λ i. option_map (λ k. k + 1) (option_or
      (if slot_spoiled decoded_claim image slot 2 (omega (arith, long)) i then Some 2 else (if slot_spoiled decoded_claim image slot 4 (omega (arith, long)) i then Some 4 else None))
      (if slot_spoiled decoded_status image slot 6 (omega (arith, long)) i then Some 6 else (if slot_spoiled decoded_status image slot 8 (omega (arith, long)) i then Some 8 else None))))
      ∙ damage_by (shows_no_value (body_says decoded_claim image slot 2)) (shows_no_value (body_says decoded_claim image slot 4)) (shows_no_value (body_says decoded_status image slot 6)) (shows_no_value (body_says decoded_status image slot 8))

  -- what the bodies in the slots say
  module _ (c d : Option (List ℕ)) (claims : ShowBoth Claims slot c d image) (r q : Option (List ℕ)) (records : ShowBoth Records slot r q image) (id : ℕ) where
    claims_are : (disk_in image slot).claims ≡ none_or_one (option_map decoded_claim c) ++ none_or_one (option_map decoded_claim d)
    claims_are = claims_said ∙ sym (λ i. none_or_one (option_map decoded_claim (claims.first i)) ++ none_or_one (option_map decoded_claim (claims.second i)))

    statuses_are : (disk_in image slot).statuses ≡ none_or_one (option_map decoded_status r) ++ none_or_one (option_map decoded_status q)
    statuses_are = statuses_said ∙ sym (λ i. none_or_one (option_map decoded_status (records.first i)) ++ none_or_one (option_map decoded_status (records.second i)))

    damage_is : body_damage (disk_bytes image slot)
        ≡ option_or (damage_in Claims (option_map decoded_claim c) (option_map decoded_claim d)) (damage_in Records (option_map decoded_status r) (option_map decoded_status q))
    damage_is = damage_said ∙ sym (λ i. option_or
        (damage_in Claims (option_map decoded_claim (claims.first i)) (option_map decoded_claim (claims.second i)))
        (damage_in Records (option_map decoded_status (records.first i)) (option_map decoded_status (records.second i))))

    pub slots_say : (c_says d_says : Option (Option Claim)) (r_says q_says : Option (Option Status)) → c_says ≡ option_map decoded_claim c → d_says ≡ option_map decoded_claim d
        → r_says ≡ option_map decoded_status r → q_says ≡ option_map decoded_status q → (epoch : ℕ) (status : Option Status) (block : Option ℕ)
        → epoch ≡ greatest_epoch (claims_of_group id (none_or_one c_says ++ none_or_one d_says)) → status ≡ greatest (of_group id (none_or_one r_says ++ none_or_one q_says))
        → block ≡ option_or (damage_in Claims c_says d_says) (damage_in Records r_says q_says) → SlotsSay id slot epoch status block image
    slots_say c_says d_says r_says q_says c_is d_is r_is q_is epoch status block epoch_is status_is block_is = record {
      epoch_is = ap (λ (cs : List (Option Claim)). greatest_epoch (claims_of_group id cs)) (claims_are ∙ sym (λ i. none_or_one (c_is i) ++ none_or_one (d_is i))) ∙ sym epoch_is;
      status_is = ap (λ (rs : List (Option Status)). greatest (of_group id rs)) (statuses_are ∙ sym (λ i. none_or_one (r_is i) ++ none_or_one (q_is i))) ∙ sym status_is;
      damage_is = damage_is ∙ (sym (λ i. option_or (damage_in Claims (c_is i) (d_is i)) (damage_in Records (r_is i) (q_is i))) ∙ sym block_is);
    }
