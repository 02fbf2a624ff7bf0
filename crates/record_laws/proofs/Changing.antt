-- Changes of a record's entries, one by one, change modes alone.
use Rattle.std.proofs.Common.{◌≡◌, inl, inr, ℕ, Bool, true, false, cond, List, [], ◌∷◌, map, refl, sym, ap, ◌∙◌, Some, arith, ◌==◌}
use Rattle.std.specs.Option.{option_map}
use Rattle.std.proofs.lemmas.Option.{same_Some}
use Rattle.asm_formats.specs.Among.{IsAmong}
use Rattle.asm_formats.specs.Status.{Entry, entry_of}
use Rattle.asm_placement.specs.Modes.{is_forced}
use Rattle.asm_images.specs.RecordLaws.{bare}
use Rattle.record_laws.specs.Changing.{ModesJoin, ModesOfEach}
use Rattle.asm_placement.proofs.Chosen.{entry_among}
use Rattle.asm_images.proofs.Bare.{has_bare}

bare_map : (change : Entry → Entry) (es : List Entry) → ((e : Entry) → IsAmong es e → bare (change e) ≡ bare e) → map bare (map change es) ≡ map bare es
bare_map change [] same = refl
bare_map change (e ∷ es) same = λ i. same e (inl refl) i ∷ bare_map change es (λ x h. same x (inr h)) i

entry_map : (change : Entry → Entry) (es : List Entry) (d : ℕ) → ((e : Entry) → IsAmong es e → bare (change e) ≡ bare e) → entry_of (map change es) d ≡ option_map change (entry_of es d)
unfolding entry_of
entry_map change [] d same = refl
entry_map change (e ∷ es) d same =
    ap (λ (n : ℕ). cond (n == d) (Some (change e)) (entry_of (map change es) d)) (ap (λ (b : ℕ × ℕ × ℕ × Bool). b.0) (same e (inl refl)))
    ∙ go (e.number == d) (entry_map change es d (λ x h. same x (inr h)))
  where
    go : (b : Bool) → entry_of (map change es) d ≡ option_map change (entry_of es d) → cond b (Some (change e)) (entry_of (map change es) d) ≡ option_map change (cond b (Some e) (entry_of es d))
    go true rest = refl
    go false rest = rest

pub modes_of_each : ModesOfEach
modes_of_each r change each = record {
  disks = record { id = refl; gone = refl; holders = refl; next_holders = refl; directories = refl; entries = bare_map change r.entries (λ e h. (each e h).disk) };
  births = omega arith;
  forced = λ d e f was is forced.
      let k = each e (entry_among r.entries d e was).0 in
      let same : Some f ≡ Some (change e) = sym is ∙ entry_map change r.entries d (λ x h. (each x h).disk) ∙ ap (option_map change) was in
      ap (λ (x : Entry). is_forced x.mode) (same_Some f (change e) same) ∙ k.forced forced;
}

pub modes_join : ModesJoin
modes_join r s t one two = record {
  disks = record {
    id = two.disks.id ∙ one.disks.id;
    gone = two.disks.gone ∙ one.disks.gone;
    holders = two.disks.holders ∙ one.disks.holders;
    next_holders = two.disks.next_holders ∙ one.disks.next_holders;
    directories = two.disks.directories ∙ one.disks.directories;
    entries = two.disks.entries ∙ one.disks.entries;
  };
  births = omega (arith, one.births, two.births);
  forced = λ d e f was is forced.
      let b = has_bare t.entries s.entries d f two.disks.entries is in
      two.forced d b.entry f b.is is (one.forced d e b.entry was b.is forced);
}
