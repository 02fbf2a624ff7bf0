use Rattle.std.proofs.Common.{rules, ◌≡◌, ◌<◌, ◌≤◌, ◌+◌, ℕ, List, length, ⊎_elim, sym, subst, arith}
use Rattle.std.proofs.lemmas.Grind.{common_steps}
use Rattle.std.proofs.lemmas.Bool.{cases_lt}
use Rattle.bay.proofs.Calls.{goes_on, stops, on_more}
use Rattle.bay.proofs.Images.{same-trans}
use Rattle.mounted_groups.specs.Found.{counts_of, AreIdsRead, AreAllRead}
use Rattle.mounted_groups.specs.Probes.{IsShown}
use Rattle.mounted_groups.specs.declared.find.Probe.{Probe}
use Rattle.mounted_groups.proofs.Looking.{ids_later, one_more_id, one_more_read, shown_before, shown_later}
use Rattle.mounted_groups.proofs.Staying.{stays_trans}
use Rattle.mounted_groups.proofs.find.look_at_all.Goals.{then-slot-wanted, else-slot-wanted}
use Rattle.mounted_groups.proofs.find.look_at_all.Goals as goal

-- a number below that isn't the last
later : {k n : ℕ} → (n ≡ k → ⊥) → k < n + 1 → k < n
later {k} {n} other below = ⊎_elim (λ (lt : k < n). lt) (λ (le : n ≤ k). absurd (other (omega (arith, le, below)))) (cases_lt k n)

pub returns-in_err-probe-clause-looks : goal.returns-in_err-probe-clause-looks
returns-in_err-probe-clause-looks g c =
    let s = g.B.Bay.state c.args.bay.now in
    let m = g.B.Bay.state c.loop-slot.bay in
    let t = g.B.Bay.state c.look_and_note.new.bay in
    record {
      runs = first_of (search rules, grind (arith, common_steps));
      calls = first_of (search rules, grind (arith, common_steps));
      stays = stays_trans c.loop-slot.invariant.stays c.look_and_note.ensures.look.stays;
      ids = subst (λ (l : List ℕ). AreIdsRead l (counts_of s) (counts_of t)) (sym c.in_err-probe.ensures.notes.err) (ids_later s m t c.look_and_note.ensures.look.runs c.loop-slot.ids.items c.loop-slot.invariant.ids);
      all = first_of (search rules, grind (arith, common_steps));
    }

pub loop-slot-preserved : goal.loop-slot-preserved
loop-slot-preserved g c =
    let s = g.B.Bay.state c.args.bay.now in
    let m = g.B.Bay.state c.loop-slot.bay in
    let t = g.B.Bay.state c.look_and_note.new.bay in
    let n = c.loop-slot.slot in
    let items = c.loop-slot.ids.items in
    let first = c.loop-slot.invariant.runs in
    let next = c.look_and_note.ensures.look.runs in
    let probe = c.in_ok-probe.probe in
    let shown = c.in_ok-probe.ensures.look.shown in
    let more = sym c.in_ok-probe.ensures.notes.ids in
    record {
      calls = omega (arith, c.loop-slot.invariant.calls, c.look_and_note.ensures.look.calls);
      runs = goes_on same-trans first (stops first) (on_more (λ (k : ℕ) is. subst (λ (j : ℕ). j < length c.args.paths.now) (sym is) c.loop-slot-test.true) next);
      ids = subst (λ (l : List ℕ). AreIdsRead l (counts_of s) (counts_of t)) more (one_more_id s m t n items first next probe c.loop-slot.invariant.ids shown);
      all = subst (λ (l : List ℕ). AreAllRead (n + 1) l (counts_of s) (counts_of t)) more (one_more_read s m t n items first next probe c.look_and_note.ensures.look.others c.loop-slot.invariant.all shown);
      shown = λ below. elim c.if-slot-wanted.branch [
        | then-slot-wanted w ↦ subst (λ (p : Probe). IsShown c.args.wanted p (counts_of s) (counts_of t)) (sym w.found-is) (subst (λ (k : ℕ). IsShown k probe (counts_of s) (counts_of t)) w.if-slot-wanted.true (shown_before s m t first n probe next shown))
        | else-slot-wanted w ↦ subst (λ (p : Probe). IsShown c.args.wanted p (counts_of s) (counts_of t)) (sym w.found-is) (shown_later s m t next c.args.wanted c.loop-slot.found (c.look_and_note.ensures.look.others.others c.args.wanted (λ e. w.if-slot-wanted.false (sym e))) (c.loop-slot.invariant.shown (later w.if-slot-wanted.false below)))
      ];
      stays = stays_trans c.loop-slot.invariant.stays c.look_and_note.ensures.look.stays;
    }
