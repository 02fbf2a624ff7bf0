-- The places of a piece on three disks may be read and written, and lie apart.
use Rattle.std.proofs.Common.{◌≡◌, ◌≢◌, ⊎_elim, ℕ, ◌+◌, ◌<◌, ◌≤◌, [], ◌∷◌, refl, sym, ap, subst, ◌∙◌, Option, Some, arith}
use Rattle.std.specs.Prelude.{IsSome, unwrap_or}
use Rattle.bay.specs.State.{AttachesOnly, BayState, KeepsAttached}
use Rattle.file_extents.specs.group_pieces.declared.copies.Place.{Place}
use Rattle.file_extents.specs.group_pieces.Copies.{AreCopyPlacesApart, AreUsable, IsUsablePiece}
use Rattle.group_tests.specs.Places.{AreThree, IsPlaceOn, place_on}

usable_on : (s : BayState) (k : ℕ) (p : Place) → s.attached k ≡ Some 4096 → k < 3 → p ≡ place_on k → IsUsablePiece s 512 p
usable_on s k p at small is = subst (λ (q : Place). IsUsablePiece s 512 q) (sym is) (record {
  number = omega (arith, small);
  attached = subst (λ (o : Option ℕ). IsSome o) (sym at) refl;
  inside = subst (λ (o : Option ℕ). 1024 + 512 ≤ unwrap_or o 0) (sym at) (omega arith);
  sectors = (refl, refl);
})

pub are_usable : (s : BayState) (a b c : Option Place) → AreThree s → IsPlaceOn 0 a → IsPlaceOn 1 b → IsPlaceOn 2 c → AreUsable (a ∷ b ∷ c ∷ []) 512 s
are_usable s a b c three on_a on_b on_c p h = ⊎_elim (λ zeroth. usable_on s 0 p three.zeroth (omega arith) (on_a p (sym zeroth)))
    (λ more. ⊎_elim (λ first. usable_on s 1 p three.first (omega arith) (on_b p (sym first)))
    (λ last. ⊎_elim (λ second. usable_on s 2 p three.second (omega arith) (on_c p (sym second))) (λ none. absurd none) last) more) h

apart_on : (j k : ℕ) (p q : Place) → j ≢ k → p ≡ place_on j → q ≡ place_on k → (p.slot ≢ q.slot) × (p.disk ≢ q.disk)
apart_on j k p q other at_j at_k = (
  λ same. other (sym (ap (λ (x : Place). x.slot) at_j) ∙ (same ∙ ap (λ (x : Place). x.slot) at_k)),
  λ same.
      let more : j + 5 ≡ k + 5 = sym (ap (λ (x : Place). x.disk) at_j) ∙ (same ∙ ap (λ (x : Place). x.disk) at_k) in
      other (omega (arith, more)),
)

pub are_apart : (a b c : Option Place) → IsPlaceOn 0 a → IsPlaceOn 1 b → IsPlaceOn 2 c → AreCopyPlacesApart (a ∷ b ∷ c ∷ [])
are_apart a b c on_a on_b on_c = (
  λ p q is among. ⊎_elim (λ first. apart_on 0 1 p q (λ e. omega (arith, e)) (on_a p is) (on_b q (sym first)))
      (λ more. ⊎_elim (λ second. apart_on 0 2 p q (λ e. omega (arith, e)) (on_a p is) (on_c q (sym second))) (λ none. absurd none) more) among,
  (
    λ p q is among. ⊎_elim (λ second. apart_on 1 2 p q (λ e. omega (arith, e)) (on_b p is) (on_c q (sym second))) (λ none. absurd none) among,
    (λ p q is among. absurd among, tt),
  ),
)

pub three_kept : {s t : BayState} → KeepsAttached s t → AreThree s → AreThree t
three_kept keeps three = record {
  zeroth = keeps.same 0 ∙ three.zeroth;
  first = keeps.same 1 ∙ three.first;
  second = keeps.same 2 ∙ three.second;
}

-- ---- three disks that are attached one after the other

pub three_attached : {s t u : BayState} → s.attached 0 ≡ Some 4096 → AttachesOnly 1 s t → t.attached 1 ≡ Some 4096 → AttachesOnly 2 t u → u.attached 2 ≡ Some 4096 → AreThree u
three_attached zeroth to_t first to_u second = record {
  zeroth = to_u.others 0 (λ e. omega (arith, e)) ∙ (to_t.others 0 (λ e. omega (arith, e)) ∙ zeroth);
  first = to_u.others 1 (λ e. omega (arith, e)) ∙ first;
  second = second;
}
