-- A record that is begun, and one that is stored in a slot, keep what the image stands for.
use Rattle.std.proofs.Common.{◌≡◌, ◌⊎◌, inl, inr, ⊎_elim, ℕ, ◌+◌, ◌^◌, ◌<◌, ◌≤◌, Bool, true, false, cond, List, [], ◌∷◌, ◌++◌, map, get_or, refl, sym, ap, subst, ◌∙◌, Option, Some, None, arith, IsTrue, ◌==◌}
use Rattle.std.specs.Prelude.{nat_lt}
use Rattle.std.specs.List.{flat_map, list_all}
use Rattle.std.specs.Option.{is_some}
use Rattle.std.proofs.lemmas.Bool.{cond_both, and_parts, ltb-true}
use Rattle.std.proofs.lemmas.Option.{same_Some}
use Rattle.asm_formats.specs.Among.{IsAmong}
use Rattle.asm_formats.specs.Regions.{units_in}
use Rattle.asm_formats.specs.Claim.{Claim}
use Rattle.asm_formats.specs.Status.{Status, Entry, is_status, decoded_status}
use Rattle.asm_formats.specs.Following.{rank, Follows}
use Rattle.asm_formats.specs.Metadata.{Metadata, metadata, in_slot}
use Rattle.asm_formats.specs.Bytes.{block, is_open}
use Rattle.asm_images.specs.Members.{those, ImageBytes, Member, within, of_group, statuses, claims, claims_of_group, all_members, written, disk_of}
use Rattle.asm_images.specs.Register.{Fits, current_records, base, IsOlder, HoldsOne, HasEpoch, greatest, is_enough}
use Rattle.asm_images.specs.Stands.{IsDiskOf}
use Rattle.asm_group.specs.Group.{Group}
use Rattle.asm_images.specs.Sound.{IsCovered, SoundBy}
use Rattle.asm_images.specs.Steps.{IsLast, IsBegun, RaisesRecords, IsStored}
use Rattle.asm_formats.proofs.StatusReading.{status_spelled}
use Rattle.asm_images.proofs.Sharing.{follows_itself}
use Rattle.asm_images.proofs.Membership.{among_left, among_split, among_flat_map, flat_map_among, among_within}
use Rattle.asm_images.proofs.History.{IsGreatest, greatest_is, nothing_greatest, among_statuses}
use Rattle.asm_images.proofs.Members.{member_is}
use Rattle.asm_images.proofs.Replacing.{Keeps, replaced, replaced_keeps, members_replaced, within_map, is_enough_map, flat_map_map}
use Rattle.asm_images.proofs.Membership.{among_map, map_among}
use Rattle.asm_images.proofs.Claiming.{distinct_map, replaced_sound, at_change}

-- ---- a record on a disk is an allowed one

pub those_append : {A : Type 0} (test : A → Bool) (xs ys : List (Option A)) → those test (xs ++ ys) ≡ those test xs ++ those test ys
those_append test [] ys = refl
those_append test (None ∷ xs) ys = those_append test xs ys
those_append {A} test (Some x ∷ xs) ys = go (test x) (those_append test xs ys)
  where
    go : (b : Bool) → those test (xs ++ ys) ≡ those test xs ++ those test ys → cond b (x ∷ those test (xs ++ ys)) (those test (xs ++ ys)) ≡ cond b (x ∷ those test xs) (those test xs) ++ those test ys
    go true e = ap (λ (l : List A). x ∷ l) e
    go false e = e

body_allowed : (id : ℕ) (body : List ℕ) (o : Option Status) (r : Status) → decoded_status body ≡ o → IsAmong (of_group id (o ∷ [])) r → is_status r ≡ true
body_allowed id body None r e h = absurd h
body_allowed id body (Some s) r e h = cond_both (s.id == id) (s ∷ []) [] (λ (l : List Status). IsAmong l r → is_status r ≡ true)
    (λ yes k. ⊎_elim (λ (here : r ≡ s). subst (λ (t : Status). is_status t ≡ true) (sym here) (status_spelled body s e).0) (λ no. absurd no) k) (λ no k. absurd k) h

slot_allowed : (id : ℕ) (bytes : List ℕ) (k : ℕ) (r : Status) → IsAmong (of_group id (in_slot decoded_status bytes k)) r → is_status r ≡ true
slot_allowed id bytes k r h = cond_both (is_open bytes k) (decoded_status (block bytes (k + 1)) ∷ []) [] (λ (l : List (Option Status)). IsAmong (of_group id l) r → is_status r ≡ true)
    (λ yes a. body_allowed id (block bytes (k + 1)) (decoded_status (block bytes (k + 1))) r refl a) (λ no a. absurd a) h

disk_allowed : (id : ℕ) (bytes : List ℕ) (r : Status) → IsAmong (of_group id (metadata bytes).statuses) r → is_status r ≡ true
unfolding metadata
disk_allowed id bytes r h = ⊎_elim (λ a. slot_allowed id bytes 6 r a) (λ b. slot_allowed id bytes 8 r b)
    (among_split (of_group id (in_slot decoded_status bytes 6)) (of_group id (in_slot decoded_status bytes 8)) r
    (subst (λ (l : List Status). IsAmong l r) (those_append (λ (s : Status). s.id == id) (in_slot decoded_status bytes 6) (in_slot decoded_status bytes 8)) h))

pub status_allowed : (id : ℕ) (image : ImageBytes) (r : Status) → IsAmong (statuses id (all_members id image)) r → is_status r ≡ true
unfolding statuses
status_allowed id image r h =
    let from = among_flat_map (λ (m : Member). of_group id m.disk.statuses) (all_members id image) r h in
    let is = (member_is id image from.0 from.1).disk in
    disk_allowed id (get_or image from.0.slot []) r (subst (λ (d : Metadata). IsAmong (of_group id d.statuses) r) is from.2)

pub turn_below : (r : Status) → is_status r ≡ true → r.turn < 2 ^ 64
unfolding is_status
turn_below r ok = ltb-true r.turn (2 ^ 64) (and_parts (nat_lt r.turn (2 ^ 64)) _ (and_parts (nat_lt r.epoch (2 ^ 64)) _ (and_parts (nat_lt r.id (2 ^ 64)) _ ok).1).1).0

pub epoch_le : (s t : Status) → rank s ≤ rank t → t.turn < 2 ^ 64 → s.epoch ≤ t.epoch
epoch_le s t le lt = omega arith

-- ---- a record is begun

current_left : (completed : Option Status) (begun : List Status) (r s : Status) → IsAmong (current_records completed begun) s → IsAmong (current_records completed (begun ++ (r ∷ []))) s
current_left None begun r s h = among_left begun (r ∷ []) s h
current_left (Some v) begun r s (inl e) = inl e
current_left (Some v) begun r s (inr h) = inr (among_left begun (r ∷ []) s h)

pub current_split : (completed : Option Status) (begun : List Status) (r s : Status) → IsAmong (current_records completed (begun ++ (r ∷ []))) s → IsAmong (current_records completed begun) s ⊎ (s ≡ r)
current_split None begun r s h = ⊎_elim (λ a. inl a) (λ b. inr (⊎_elim (λ e. e) (λ no. absurd no) b)) (among_split begun (r ∷ []) s h)
current_split (Some v) begun r s (inl e) = inl (inl e)
current_split (Some v) begun r s (inr h) = ⊎_elim (λ a. inl (inr a)) (λ b. inr (⊎_elim (λ e. e) (λ no. absurd no) b)) (among_split begun (r ∷ []) s h)

begun_split : (begun : List Status) (r s : Status) → IsAmong (begun ++ (r ∷ [])) s → IsAmong begun s ⊎ (s ≡ r)
begun_split begun r s h = ⊎_elim (λ a. inl a) (λ b. inr (⊎_elim (λ e. e) (λ no. absurd no) b)) (among_split begun (r ∷ []) s h)

begun_counts : (completed : Option Status) (begun : List Status) (s : Status) → IsAmong begun s → IsAmong (current_records completed begun) s
begun_counts None begun s h = h
begun_counts (Some v) begun s h = inr h

later_base : (completed : Option Status) (begun : List Status) (r v : Status) → base completed (begun ++ (r ∷ [])) ≡ Some v → (base completed begun ≡ Some v) ⊎ ((begun ≡ []) × (completed ≡ None) × (v ≡ r))
later_base None [] r v e = inr (refl, refl, sym (same_Some r v e))
later_base None (s ∷ rs) r v e = inl e
later_base (Some w) begun r v e = inl e

-- an epoch that is seen is one of at least a smaller one
pub smaller_epoch : (id : ℕ) (ms : List Member) (small great : ℕ) → small ≤ great → HasEpoch id ms great → HasEpoch id ms small
smaller_epoch id ms small great le (inl c) = inl (c.0, c.1, omega (arith, c.2, le))
smaller_epoch id ms small great le (inr s) = inr (s.0, s.1, omega (arith, s.2, le))

-- on the history alone
pub begin_history : (id : ℕ) (image : ImageBytes) (completed : Option Status) (begun : List Status) → Fits id (all_members id image) completed begun → (r : Status) → IsTrue (is_status r)
    → ((s : Status) → IsAmong (current_records completed begun) s → rank s < rank r) → ((v : Status) → base completed begun ≡ Some v → Follows v r)
    → ((P : ℕ → Bool) (s : Status) → IsAmong (r ∷ current_records completed begun) s → IsTrue (is_enough s (within P (all_members id image))) → HasEpoch id (within P (all_members id image)) r.epoch)
    → Fits id (all_members id image) completed (begun ++ (r ∷ []))
begin_history id image completed begun fits r allowed above follows seen =
    let ms = all_members id image in
    record {
      distinct = fits.distinct;
      greater = λ v s is h. ⊎_elim (λ before. fits.greater v s is before)
          (λ (new : s ≡ r). let v_counts : IsAmong (current_records completed begun) v = subst (λ (o : Option Status). IsAmong (current_records o begun) v) (sym is) (inl refl) in
          omega (arith, ap rank new, above v v_counts)) (begun_split begun r s h);
      slots = λ s h. ⊎_elim (λ c. inl (current_left completed begun r s c)) (λ o. inr o) (fits.slots s h);
      numbers = fits.numbers;
      follow = λ v s is h. ⊎_elim
          (λ same. ⊎_elim (λ before. fits.follow v s same before) (λ (new : s ≡ r). subst (λ (t : Status). Follows v t) (sym new) (follows v same)) (begun_split begun r s h))
          (λ first. ⊎_elim (λ before. absurd (subst (λ (l : List Status). IsAmong l s) first.0 before)) (λ (new : s ≡ r). subst (λ (t : Status). Follows v t) (first.2 ∙ sym new) (follows_itself v)) (begun_split begun r s h))
          (later_base completed begun r v is);
      surveyed = λ P g is enough. let one = fits.surveyed P g is enough in (one.0, one.1, current_left completed begun r one.0 one.2);
      completed_found = λ P v is enough. let one = fits.completed_found P v is enough in (one.0, one.1, current_left (Some v) begun r one.0 one.2);
      claimed = λ P x s h k enough. ⊎_elim
          (λ before. ⊎_elim (λ counts. fits.claimed P x s before counts enough)
          (λ (new : s ≡ r).
          let below : rank x < rank r = above x (begun_counts completed begun x before) in
          let epoch : x.epoch ≤ r.epoch = epoch_le x r (omega (arith, below)) (turn_below r allowed) in
          smaller_epoch id (within P ms) x.epoch r.epoch epoch (seen P r (inl refl) (subst (λ (y : Status). IsTrue (is_enough y (within P ms))) new enough)))
          (current_split completed begun r s k))
          (λ (new : x ≡ r). subst (λ (y : Status). HasEpoch id (within P ms) y.epoch) (sym new) (seen P s (⊎_elim
          (λ counts. inr counts) (λ (also : s ≡ r). inl also) (current_split completed begun r s k)) enough))
          (begun_split begun r x h);
    }

begin_fits : (id : ℕ) (image : ImageBytes) (groups : List Group) (completed : Option Status) (begun : List Status) (sound : SoundBy id image groups completed begun) (r : Status) → IsBegun id image groups completed begun r → Fits id (all_members id image) completed (begun ++ (r ∷ []))
begin_fits id image groups completed begun sound r b = begin_history id image completed begun sound.fits r b.allowed b.above b.follows b.claimed

pub begin_keeps : (id : ℕ) (image : ImageBytes) (groups : List Group) (completed : Option Status) (begun : List Status) (sound : SoundBy id image groups completed begun) (r : Status) → IsBegun id image groups completed begun r → SoundBy id image groups completed (begun ++ (r ∷ []))
begin_keeps id image groups completed begun sound r b = record {
  fits = begin_fits id image groups completed begun sound r b;
  covered = λ s h not_gone. ⊎_elim (λ before. sound.covered s before not_gone)
      (λ (new : s ≡ r). subst (λ (t : Status). IsCovered id image (all_members id image) groups t) (sym new) (b.covered (ap (λ (t : Status). t.gone) (sym new) ∙ not_gone)))
      (current_split completed begun r s h);
}

-- ---- a record is stored in one slot

-- none of the records that count is older than the completed one
pub not_older : (id : ℕ) (ms : List Member) (completed : Option Status) (begun : List Status) → Fits id ms completed begun → (t s : Status) → IsAmong (current_records completed begun) s → rank s ≤ rank t → IsOlder completed t → ⊥
not_older id ms None begun fits t s counts le older = older
not_older id ms (Some v) begun fits t s (inl e) le older = omega (arith, ap rank e)
not_older id ms (Some v) begun fits t s (inr h) le older = omega (arith, fits.greater v s refl h)

module _ (id : ℕ) (f : Member → Member) (keeps : Keeps f) (ms : List Member) (completed : Option Status) (begun : List Status) (fits : Fits id ms completed begun) (r : Status) (last : IsLast completed begun r)
    (raised : (m : Member) (s : Status) → IsAmong ms m → IsAmong (of_group id m.disk.statuses) s → (t : Status) × IsAmong (of_group id (f m).disk.statuses) t × (rank s ≤ rank t))
    (from : (m : Member) (t : Status) → IsAmong ms m → IsAmong (of_group id (f m).disk.statuses) t → (t ≡ r) ⊎ IsAmong (of_group id m.disk.statuses) t)
    (same : (m : Member) → IsAmong ms m → (f m).disk.claims ≡ m.disk.claims)
    (turns : (t : Status) → IsAmong (statuses id (map f ms)) t → t.turn < 2 ^ 64) where
  enough_then : (P : ℕ → Bool) (s : Status) → is_enough s (within P (map f ms)) ≡ is_enough s (within P ms)
  enough_then P s = ap (λ (l : List Member). is_enough s l) (within_map f keeps P ms) ∙ is_enough_map f keeps s (within P ms)

  -- a record before has one after that isn't smaller
  record_then : (P : ℕ → Bool) (s : Status) → IsAmong (statuses id (within P ms)) s → (t : Status) × IsAmong (statuses id (within P (map f ms))) t × (rank s ≤ rank t)
  unfolding statuses
  record_then P s h =
      let m = among_flat_map (λ (m : Member). of_group id m.disk.statuses) (within P ms) s h in
      let t = raised m.0 s (among_within P ms m.0 m.1) m.2 in
      let there : IsAmong (within P (map f ms)) (f m.0) = subst (λ (l : List Member). IsAmong l (f m.0)) (sym (within_map f keeps P ms)) (among_map f (within P ms) m.0 m.1) in
      (t.0, flat_map_among (λ (m : Member). of_group id m.disk.statuses) (within P (map f ms)) (f m.0) t.0 there t.1, t.2)

  -- a record after is r or was there before
  record_before : (P : ℕ → Bool) (t : Status) → IsAmong (statuses id (within P (map f ms))) t → (t ≡ r) ⊎ IsAmong (statuses id (within P ms)) t
  unfolding statuses
  record_before P t h =
      let n = among_flat_map (λ (m : Member). of_group id m.disk.statuses) (within P (map f ms)) t h in
      let a = map_among f (within P ms) n.0 (subst (λ (l : List Member). IsAmong l n.0) (within_map f keeps P ms) n.1) in
      let here : IsAmong (of_group id (f a.0).disk.statuses) t = subst (λ (m : Member). IsAmong (of_group id m.disk.statuses) t) a.2 n.2 in
      ⊎_elim (λ new. inl new) (λ was. inr (flat_map_among (λ (m : Member). of_group id m.disk.statuses) (within P ms) a.0 t a.1 was)) (from a.0 t (among_within P ms a.0 a.1) here)

  record_was : (t : Status) → IsAmong (statuses id (map f ms)) t → (t ≡ r) ⊎ IsAmong (statuses id ms) t
  unfolding statuses
  record_was t h =
      let n = among_flat_map (λ (m : Member). of_group id m.disk.statuses) (map f ms) t h in
      let a = map_among f ms n.0 n.1 in
      let here : IsAmong (of_group id (f a.0).disk.statuses) t = subst (λ (m : Member). IsAmong (of_group id m.disk.statuses) t) a.2 n.2 in
      ⊎_elim (λ new. inl new) (λ was. inr (flat_map_among (λ (m : Member). of_group id m.disk.statuses) ms a.0 t a.1 was)) (from a.0 t a.1 here)

  -- a record after that isn't smaller than one that counts counts
  still_counts : (P : ℕ → Bool) (s t : Status) → IsAmong (current_records completed begun) s → rank s ≤ rank t → IsAmong (statuses id (within P (map f ms))) t → IsAmong (current_records completed begun) t
  still_counts P s t counts le h = ⊎_elim
      (λ (new : t ≡ r). subst (λ (u : Status). IsAmong (current_records completed begun) u) (sym new) last.counts)
      (λ was. ⊎_elim (λ c. c) (λ older. absurd (not_older id ms completed begun fits t s counts le older)) (fits.slots t (among_statuses id P ms t was)))
      (record_before P t h)

  holds_then : (P : ℕ → Bool) → HoldsOne id (current_records completed begun) (within P ms) → HoldsOne id (current_records completed begun) (within P (map f ms))
  holds_then P one =
      let t = record_then P one.0 one.1 in
      (t.0, t.1, still_counts P one.0 t.0 one.2 t.2 t.1)

  -- where members are enough for their greatest record, they hold one that counts
  surveyed_then : (P : ℕ → Bool) (g : Status) → greatest (statuses id (within P (map f ms))) ≡ Some g → IsTrue (is_enough g (within P (map f ms))) → HoldsOne id (current_records completed begun) (within P (map f ms))
  surveyed_then P g is enough =
      let top = greatest_is (statuses id (within P (map f ms))) g is in
      ⊎_elim
      (λ (new : g ≡ r). (g, top.among, subst (λ (u : Status). IsAmong (current_records completed begun) u) (sym new) last.counts))
      (λ was. go (greatest (statuses id (within P ms))) refl top was)
      (record_before P g top.among)
    where
      go : (o : Option Status) → greatest (statuses id (within P ms)) ≡ o → IsGreatest (statuses id (within P (map f ms))) g → IsAmong (statuses id (within P ms)) g → HoldsOne id (current_records completed begun) (within P (map f ms))
      go None none top was = absurd (subst (λ (l : List Status). IsAmong l g) (nothing_greatest (statuses id (within P ms)) none) was)
      go (Some h) some top was =
          let before = greatest_is (statuses id (within P ms)) h some in
          let t = record_then P h before.among in
          let rank_same : rank h ≡ rank g = omega (arith, before.most g was, top.most t.0 t.1, t.2) in
          let one : h ≡ g = fits.numbers h g (among_statuses id P ms h before.among) (among_statuses id P ms g was) rank_same in
          holds_then P (fits.surveyed P h some (sym (enough_then P h) ∙ ap (λ (u : Status). is_enough u (within P (map f ms))) one ∙ enough))

  claims_then : (P : ℕ → Bool) → claims id (within P (map f ms)) ≡ claims id (within P ms)
  unfolding claims
  claims_then P = ap (λ (l : List Member). flat_map (λ (m : Member). claims_of_group id m.disk.claims) l) (within_map f keeps P ms)
      ∙ flat_map_map f (λ (m : Member). claims_of_group id m.disk.claims) (within P ms) (λ m h. ap (λ (os : List (Option Claim)). claims_of_group id os) (same m (among_within P ms m h)))

  epoch_then : (P : ℕ → Bool) (epoch : ℕ) → HasEpoch id (within P ms) epoch → HasEpoch id (within P (map f ms)) epoch
  epoch_then P epoch (inl c) = inl (c.0, subst (λ (l : List Claim). IsAmong l c.0) (sym (claims_then P)) c.1, c.2)
  epoch_then P epoch (inr s) =
      let t = record_then P s.0 s.1 in
      inr (t.0, t.1, omega (arith, s.2, epoch_le s.0 t.0 t.2 (turns t.0 (among_statuses id P (map f ms) t.0 t.1))))

  numbers_then : (s t : Status) → IsAmong (statuses id (map f ms)) s → IsAmong (statuses id (map f ms)) t → rank s ≡ rank t → s ≡ t
  numbers_then s t hs ht e = ⊎_elim
      (λ (new : s ≡ r). ⊎_elim (λ (also : t ≡ r). new ∙ sym also) (λ was. new ∙ sym (is_last t was (omega (arith, ap rank new)))) (record_was t ht))
      (λ was. ⊎_elim (λ (new : t ≡ r). is_last s was (omega (arith, ap rank new)) ∙ sym new) (λ also. fits.numbers s t was also e) (record_was t ht))
      (record_was s hs)
    where
      -- a record with the last one's number is it
      is_last : (u : Status) → IsAmong (statuses id ms) u → rank u ≡ rank r → u ≡ r
      is_last u h e = ⊎_elim
          (λ counts. ⊎_elim (λ (one : u ≡ r). one) (λ (lt : rank u < rank r). absurd (omega arith)) (last.greatest u counts))
          (λ older. absurd (not_older id ms completed begun fits u r last.counts (omega arith) older))
          (fits.slots u h)

  slots_then : (t : Status) → IsAmong (statuses id (map f ms)) t → IsAmong (current_records completed begun) t ⊎ IsOlder completed t
  slots_then t h = ⊎_elim (λ (new : t ≡ r). inl (subst (λ (u : Status). IsAmong (current_records completed begun) u) (sym new) last.counts)) (λ was. fits.slots t was) (record_was t h)

  with_completed : (P : ℕ → Bool) (v : Status) → completed ≡ Some v → HoldsOne id (v ∷ begun) (within P ms) → HoldsOne id (v ∷ begun) (within P (map f ms))
  with_completed P v is one =
      let same_list : current_records completed begun ≡ v ∷ begun = ap (λ (o : Option Status). current_records o begun) is in
      subst (λ (l : List Status). HoldsOne id l (within P (map f ms))) same_list (holds_then P (subst (λ (l : List Status). HoldsOne id l (within P ms)) (sym same_list) one))

  pub fits_then : Fits id (map f ms) completed begun
  fits_then = record {
    distinct = distinct_map f keeps ms fits.distinct;
    greater = fits.greater;
    slots = slots_then;
    numbers = numbers_then;
    follow = fits.follow;
    surveyed = surveyed_then;
    completed_found = λ P v is enough. with_completed P v is (fits.completed_found P v is (sym (enough_then P v) ∙ enough));
    claimed = λ P x s h k enough. epoch_then P x.epoch (fits.claimed P x s h k (sym (enough_then P s) ∙ enough));
  }

stored_disk : (id : ℕ) (old new : Metadata) (s : Status) (g : Group) (r : Status) (m : Member) → RaisesRecords id old new s → m.disk ≡ old → IsDiskOf g r m → IsDiskOf g r (record m { disk = new })
stored_disk id old new s g r m raises is d =
    let others : new ≡ record m.disk { statuses = new.statuses } = raises.others ∙ ap (λ (x : Metadata). record x { statuses = new.statuses }) (sym is) in
    record {
      claims = subst (λ (x : Metadata). IsTrue (list_all is_some x.claims)) (sym others) d.claims;
      statuses = raises.decode (subst (λ (x : Metadata). IsTrue (list_all is_some x.statuses)) is d.statuses);
      directories = subst (λ (x : Metadata). IsTrue x.decodes) (sym others) d.directories;
      name = d.name;
      shape = d.shape;
      units = λ e entry birth. subst (λ (x : Metadata). e.units ≤ units_in m.header.shape x.size) (sym others) (d.units e entry birth);
    }

pub store_keeps : (id : ℕ) (old : ImageBytes) (groups : List Group) (completed : Option Status) (begun : List Status) (sound : SoundBy id old groups completed begun) (r : Status) (slot : ℕ) (bytes : List ℕ) → IsStored id old completed begun r slot bytes
    → SoundBy id (written old slot bytes) groups completed begun
store_keeps id old groups completed begun sound r slot bytes step =
    let ms = all_members id old in
    let d = metadata bytes in
    let f = replaced slot d in
    let keeps = replaced_keeps slot d in
    let raises = step.records in
    let members_same : all_members id (written old slot bytes) ≡ map f ms = members_replaced id old slot bytes step.inside (ap (λ (x : Metadata). x.header) raises.others) in
    let raised : (m : Member) (s : Status) → IsAmong ms m → IsAmong (of_group id m.disk.statuses) s → (t : Status) × IsAmong (of_group id (f m).disk.statuses) t × (rank s ≤ rank t) =
    λ m s h. at_change id old slot d (λ a b. IsAmong (of_group id a.disk.statuses) s → (t : Status) × IsAmong (of_group id b.disk.statuses) t × (rank s ≤ rank t))
    (λ a is k. raises.raised s (subst (λ (x : Metadata). IsAmong (of_group id x.statuses) s) is k)) (λ a k. (s, k, omega arith)) m h in
    let from : (m : Member) (t : Status) → IsAmong ms m → IsAmong (of_group id (f m).disk.statuses) t → (t ≡ r) ⊎ IsAmong (of_group id m.disk.statuses) t =
    λ m t h. at_change id old slot d (λ a b. IsAmong (of_group id b.disk.statuses) t → (t ≡ r) ⊎ IsAmong (of_group id a.disk.statuses) t)
    (λ a is k. ⊎_elim (λ new. inl new) (λ was. inr (subst (λ (x : Metadata). IsAmong (of_group id x.statuses) t) (sym is) was)) (raises.from t k)) (λ a k. inr k) m h in
    let claims_same : (m : Member) → IsAmong ms m → (f m).disk.claims ≡ m.disk.claims =
    λ m h. at_change id old slot d (λ a b. b.disk.claims ≡ a.disk.claims) (λ a is. ap (λ (x : Metadata). x.claims) (raises.others ∙ ap (λ (y : Metadata). record y { statuses = d.statuses }) (sym is))) (λ a. refl) m h in
    let contents_same : (m : Member) → IsAmong ms m → (f m).disk.content ≡ m.disk.content =
    λ m h. at_change id old slot d (λ a b. b.disk.content ≡ a.disk.content) (λ a is. ap (λ (x : Metadata). x.content) (raises.others ∙ ap (λ (y : Metadata). record y { statuses = d.statuses }) (sym is))) (λ a. refl) m h in
    let disks : (g : Group) (s : Status) (m : Member) → IsAmong ms m → IsDiskOf g s m → IsDiskOf g s (f m) =
    λ g s m h. at_change id old slot d (λ a b. IsDiskOf g s a → IsDiskOf g s b) (λ a is k. stored_disk id (disk_of old slot) d r g s a raises is k) (λ a k. k) m h in
    let turns : (t : Status) → IsAmong (statuses id (map f ms)) t → t.turn < 2 ^ 64 =
    λ t h. turn_below t (status_allowed id (written old slot bytes) t (subst (λ (l : List Member). IsAmong (statuses id l) t) (sym members_same) h)) in
    let fits = fits_then id f keeps ms completed begun sound.fits r step.last raised from claims_same turns in
    let births : (s : Status) → IsAmong (current_records completed begun) s → s.gone ≡ false → (t : Status) (e : Entry) → IsAmong (statuses id (map f ms)) t → IsAmong t.entries e → e.birth ≤ s.births =
    λ s counts not_gone t e h k. ⊎_elim
    (λ (new : t ≡ r). step.births s e counts not_gone (subst (λ (u : Status). IsAmong u.entries e) new k))
    (λ was. (sound.covered s counts not_gone).entry_births t e was k)
    (record_was id f keeps ms completed begun sound.fits r step.last raised from claims_same turns t h) in
    replaced_sound id old (written old slot bytes) groups completed begun sound f keeps members_same contents_same disks step.copies fits births
