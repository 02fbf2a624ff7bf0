use Rattle.std.proofs.Common.{◌≡◌, ◌<◌, ◌≤◌, ⊎_elim, ℕ, [], map, get_or, sym, ap, subst, ◌∙◌, arith}
use Rattle.std.proofs.lemmas.Bool.{cases_lt, false≢true}
use Rattle.std.proofs.lemmas.List.{get_or-map, length-map}
use Rattle.std.proofs.lemmas.Slice.Eq.{slice_eq-Decides}
use Rattle.std.specs.Cmp.{unsigned_Decides}
use Rattle.std.specs.String.{string_bytes}
use Rattle.mounted_groups.proofs.find.slot_of.Goals as goal

pub returns-then-eq : goal.returns-then-eq
returns-then-eq c = record {
  below = omega (arith, c.loop-slot-test.true, length-map c.args.paths.now string_bytes);
  is = get_or-map string_bytes c.args.paths.now c.loop-slot.slot c.index-paths-slot.result [] c.loop-slot-test.true
      ∙ (sym (ap string_bytes c.index-paths-slot.is) ∙ (sym c.as_bytes.ensures.value ∙ (slice_eq-Decides unsigned_Decides c.as_bytes.result.now c.args.path.now c.eq.result c.eq.ensures).0 c.if-eq.true));
}

pub loop-slot-preserved : goal.loop-slot-preserved
loop-slot-preserved c = λ k below is. ⊎_elim
    (λ (before : k < c.loop-slot.slot). c.loop-slot.invariant k before is)
    (λ (late : c.loop-slot.slot ≤ k).
    let last : k ≡ c.loop-slot.slot = omega (arith, below, late) in
    let here = sym (get_or-map string_bytes c.args.paths.now c.loop-slot.slot c.index-paths-slot.result [] c.loop-slot-test.true ∙ sym (ap string_bytes c.index-paths-slot.is)) in
    let same = c.as_bytes.ensures.value ∙ (here ∙ subst (λ (j : ℕ). get_or (map string_bytes c.args.paths.now) j [] ≡ c.args.path.now) last is) in
    false≢true (sym c.if-eq.false ∙ (slice_eq-Decides unsigned_Decides c.as_bytes.result.now c.args.path.now c.eq.result c.eq.ensures).1 same))
    (cases_lt k c.loop-slot.slot)
