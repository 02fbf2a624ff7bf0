use Rattle.std.proofs.Common.{◌≤◌, [], List, length, take, get_or, sym, ap, subst, arith}
use Rattle.std.proofs.lemmas.List.{take_more, take_all}
use Rattle.bay.proofs.Calls.{on_more, attached-trans}
use Rattle.bay.proofs.OneCall.{no_call}
use Rattle.bay.proofs.Images.{same-refl}
use Rattle.bay.specs.Moments.{Ends, Runs}
use Rattle.status_register.specs.Rows.{HaveBody, PutsInOrder}
use Rattle.status_register.specs.Slots.{first_gate, next_gate, second_gate}
use Rattle.status_register.specs.Surveys.{AreRead, none_yet}
use Rattle.status_register.specs.declared.member.Member.{Member}
use Rattle.status_register.specs.Tallies.{IsSlotOf}
use Rattle.status_register.proofs.Filling.{short_sector}
use Rattle.status_register.proofs.Shown.{same_next_gate}
use Rattle.status_register.proofs.Ordering.{AreTried, all_in_order, none_tried, row_calls, run_on, tried_on}
use Rattle.status_register.proofs.Tallying.{RoseAt, among_get, member_slots}
use Rattle.status_register.proofs.Taking.{none_have, takes_few, takes_kept, takes_more, kept_among, earlier_slot, next_gate_either}
use Rattle.status_register.proofs.storing.put_on_all.Goals as goal

pub loop-member-init : goal.loop-member-init
loop-member-init g c =
    let s = g.B.Bay.state c.args.bay.now in
    record {
      few = omega (arith, ap length c.empty-took.ensures);
      took = subst (λ (l : List Member). AreRead (RoseAt s s) [] l) (sym c.empty-took.ensures) none_yet;
      done = subst (λ (l : List Member). Ends (HaveBody (first_gate c.args.pair) (second_gate c.args.pair) c.args.body.now.bytes l) s s) (sym c.empty-took.ensures) (none_have s (first_gate c.args.pair) (second_gate c.args.pair) c.args.body.now.bytes);
      tried = none_tried s;
      calls = no_call same-refl;
    }

pub put_on-took-requires-clause-slots : goal.put_on-took-requires-clause-slots
put_on-took-requires-clause-slots g c =
    let none : Member = record { slot = 0; number = 0; birth = 0; sector = 0 } in
    member_slots c.args.members.now c.loop-member.member-index none c.requires.slots c.loop-member.invariant.calls.attached c.loop-member-test.true

pub loop-member-preserved : goal.loop-member-preserved
loop-member-preserved g c =
    let s = g.B.Bay.state c.args.bay.now in
    let t = g.B.Bay.state c.loop-member.bay in
    let u = g.B.Bay.state c.put_on-took.new.bay in
    let ms = c.args.members.now in
    let body = c.args.body.now.bytes in
    let gate = next_gate c.args.pair c.args.id in
    let depends = same_next_gate c.args.pair c.args.id in
    let i = c.loop-member.member-index in
    let none : Member = record { slot = 0; number = 0; birth = 0; sector = 0 } in
    let member = get_or ms i none in
    let among = among_get ms i none c.loop-member-test.true in
    let before = c.loop-member.invariant.calls in
    let first = before.runs in
    let more = c.put_on-took.ensures.calls in
    let next = more.runs in
    let short = short_sector member.sector (c.requires.slots member among).sector_size in
    let old = c.loop-member.took in
    let new = c.put_on-took.result in
    let takes = c.put_on-took.ensures.takes in
    let front = take_more ms i none c.loop-member-test.true in
    record {
      few = omega (arith, c.loop-member.invariant.few, takes_few t u gate member body old new takes);
      took = subst (λ (l : List Member). AreRead (RoseAt s u) l new) (sym front) (takes_kept s t u first next gate member body old new takes (take i ms) c.loop-member.invariant.took);
      done = takes_more gate (first_gate c.args.pair) (second_gate c.args.pair) (next_gate_either c.args.pair c.args.id) body member old
          (λ n h. earlier_slot ms i none n c.requires.apart c.loop-member-test.true (kept_among (RoseAt s t) (take i ms) old c.loop-member.invariant.took n h)) new takes next c.loop-member.invariant.done;
      tried = subst (λ (l : List Member). Ends (AreTried gate body (RoseAt s u) l) s u) (sym front) (tried_on gate depends body s t u first member next old new takes (take i ms) c.loop-member.invariant.tried);
      calls = record {
        attached = attached-trans before.attached more.attached;
        runs = subst (λ (l : List Member). Runs (IsSlotOf ms) (PutsInOrder gate body (RoseAt s u) l) s u) (sym front)
            (run_on gate depends body s t u member (take i ms) first (on_more (λ slot is. (member, among, is)) next) next c.loop-member.invariant.tried);
        calls = omega (arith, before.calls, more.calls);
        written = λ slot. omega (arith, before.written slot, more.written slot, short);
      };
    }

pub returns : goal.returns
returns g c =
    let s = g.B.Bay.state c.args.bay.now in
    let t = g.B.Bay.state c.loop-member.bay in
    let ms = c.args.members.now in
    let body = c.args.body.now.bytes in
    let gate = next_gate c.args.pair c.args.id in
    let invariant = c.loop-member.invariant in
    let few : c.loop-member.member-index ≤ length ms = omega arith in
    let whole = take_all c.loop-member.member-index ms c.loop-member-test.false in
    let calls = all_in_order gate body whole few invariant.calls in
    record {
      took = subst (λ (l : List Member). AreRead (RoseAt s t) l c.loop-member.took) whole invariant.took;
      done = invariant.done;
      calls = calls;
      row = row_calls gate ms body s t calls;
    }
