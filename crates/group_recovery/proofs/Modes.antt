-- A record whose modes are changed is the record anew.
use Rattle.std.proofs.Common.{◌≡◌, ℕ, Bool, true, false, cond, ◌&&◌, not, List, [], ◌∷◌, map, refl, sym, ap, ◌∙◌, Option, Some, None, ◌==◌}
use Rattle.std.specs.Option.{option_map}
use Rattle.std.proofs.lemmas.Bool.{cond_both, and_parts, false≢true}
use Rattle.asm_group.specs.declared.Mode.{Mode}
use Rattle.asm_group.specs.declared.Mode.TheVariants.{Online, Offline, Syncing, Dropping, Forced}
use Rattle.asm_formats.specs.Header.{Header}
use Rattle.asm_formats.specs.Status.{Entry, entry_of}
use Rattle.asm_placement.specs.Modes.{is_forced, is_online, serves}
use Rattle.asm_images.specs.Copies.{is_disk_in, is_kept}
use Rattle.asm_images.specs.RecordLaws.{bare}
use Rattle.group_recovery.specs.Modes.{with_mode_at_mount, with_partners_by, ChangedIsRenewed, MountedIsRenewed}

bare_map : (change : Entry → Entry) → ((e : Entry) → bare (change e) ≡ bare e) → (es : List Entry) → map bare (map change es) ≡ map bare es
bare_map change same [] = refl
bare_map change same (e ∷ es) = λ i. same e i ∷ bare_map change same es i

entry_map : (change : Entry → Entry) → ((e : Entry) → bare (change e) ≡ bare e) → (es : List Entry) (d : ℕ) → entry_of (map change es) d ≡ option_map change (entry_of es d)
unfolding entry_of
entry_map change same [] d = refl
entry_map change same (e ∷ es) d =
    ap (λ (n : ℕ). cond (n == d) (Some (change e)) (entry_of (map change es) d)) (ap (λ (b : ℕ × ℕ × ℕ × Bool). b.0) (same e))
    ∙ go (e.number == d) (entry_map change same es d)
  where
    go : (b : Bool) → entry_of (map change es) d ≡ option_map change (entry_of es d) → cond b (Some (change e)) (entry_of (map change es) d) ≡ option_map change (cond b (Some e) (entry_of es d))
    go true rest = refl
    go false rest = rest

not_forced : (change : Entry → Entry) → ((e : Entry) → is_forced e.mode ≡ true → is_forced (change e).mode ≡ true) → (e : Entry) → not (is_forced (change e).mode) ≡ true → not (is_forced e.mode) ≡ true
not_forced change forced e is = go (is_forced e.mode) (forced e)
  where
    go : (b : Bool) → (b ≡ true → is_forced (change e).mode ≡ true) → not b ≡ true
    go true same = absurd (false≢true (sym (ap not (same refl)) ∙ is))
    go false same = refl

still_kept : (change : Entry → Entry) → ((e : Entry) → bare (change e) ≡ bare e) → ((e : Entry) → is_forced e.mode ≡ true → is_forced (change e).mode ≡ true) → (d : ℕ) (h : Header) (o : Option Entry)
    → is_disk_in (λ mode. not (is_forced mode)) d h (option_map change o) ≡ true → is_disk_in (λ mode. not (is_forced mode)) d h o ≡ true
still_kept change same forced d h None is = is
still_kept change same forced d h (Some e) is =
    let p = and_parts (not (is_forced (change e).mode)) _ is in
    λ i. not_forced change forced e p.0 i && (ap (λ (n : ℕ). (h.number == d) && (h.birth == n)) (sym (ap (λ (b : ℕ × ℕ × ℕ × Bool). b.1) (same e))) ∙ p.1) i

pub changed_is_renewed : ChangedIsRenewed
unfolding is_kept
changed_is_renewed = λ r change directories same forced partners fewer. record {
  holders = refl;
  next_holders = refl;
  gone = refl;
  births = refl;
  entries = bare_map change same r.entries;
  kept = λ d h is. still_kept change same forced d h (entry_of r.entries d) (ap (is_disk_in (λ mode. not (is_forced mode)) d h) (sym (entry_map change same r.entries d)) ∙ is);
  partners = partners;
  fewer = fewer;
}

-- ---- the modes of a mount

forced_serves : (mode : Mode) → is_forced mode ≡ true → (serves mode ≡ false) × (is_online mode ≡ false)
forced_serves Online e = absurd (false≢true e)
forced_serves Offline e = absurd (false≢true e)
forced_serves Syncing e = absurd (false≢true e)
forced_serves Dropping e = absurd (false≢true e)
forced_serves Forced e = (refl, refl)

module _ (missing marked : ℕ → Bool) (now repair : ℕ) (partners : ℕ → ℕ) where
  abbrev change : Entry → Entry
  change e = with_partners_by partners (with_mode_at_mount missing marked now repair e)

  mounted_has : (P : Entry → Type 0) (e : Entry) → P (record e { mode = Offline; since = now; repair = repair }) → P (record e { mode = Syncing }) → P e → P (with_mode_at_mount missing marked now repair e)
  mounted_has P e one two three = cond_both (serves e.mode && missing e.number) (record e { mode = Offline; since = now; repair = repair })
      (cond (is_online e.mode && marked e.number) (record e { mode = Syncing }) e) P (λ is. one)
      (λ no. cond_both (is_online e.mode && marked e.number) (record e { mode = Syncing }) e P (λ is. two) (λ out. three))

  same_bare : (e : Entry) → bare (change e) ≡ bare e
  same_bare e = mounted_has (λ x. bare (with_partners_by partners x) ≡ bare e) e refl refl refl

  same_forced : (e : Entry) → is_forced e.mode ≡ true → is_forced (change e).mode ≡ true
  same_forced e is =
      let no = forced_serves e.mode is in
      (λ i. is_forced (cond (no.0 i && missing e.number) (record e { mode = Offline; since = now; repair = repair }) (cond (no.1 i && marked e.number) (record e { mode = Syncing }) e)).mode) ∙ is

pub mounted_is_renewed : MountedIsRenewed
mounted_is_renewed = λ r missing marked now repair partners directories has fewer.
    changed_is_renewed r (change missing marked now repair partners) directories (same_bare missing marked now repair partners) (same_forced missing marked now repair partners) has fewer
