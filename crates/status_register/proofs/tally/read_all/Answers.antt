use Rattle.std.proofs.Common.{◌≤◌, [], List, length, take, get_or, None, sym, ap, subst, arith}
use Rattle.std.proofs.lemmas.List.{take_more, take_all}
use Rattle.bay.proofs.Calls.{stops}
use Rattle.bay.proofs.OneCall.{cheaper, joined, more_slots, no_call}
use Rattle.bay.proofs.Images.{same-refl, same-trans}
use Rattle.status_register.specs.Surveys.{AreRead, none_yet, DisksSay}
use Rattle.status_register.specs.declared.member.Member.{Member}
use Rattle.status_register.proofs.Joining.{says_nothing}
use Rattle.status_register.proofs.Tallying.{RoseAt, among_get, member_slots, adds_read, adds_says, adds_few}
use Rattle.status_register.proofs.tally.read_all.Goals as goal

pub loop-member-init : goal.loop-member-init
loop-member-init g c =
    let s = g.B.Bay.state c.args.bay.now in
    record {
      few = omega (arith, ap length c.empty.ensures);
      read = subst (λ (l : List Member). AreRead (RoseAt s s) [] l) (sym c.empty.ensures) none_yet;
      own = tt;
      says = λ now holds image was. subst (λ (l : List Member). DisksSay c.args.id l 0 None None image) (sym c.empty.ensures) (says_nothing c.args.id image);
      calls = no_call same-refl;
    }

pub read_one-tally-requires-clause-slots : goal.read_one-tally-requires-clause-slots
read_one-tally-requires-clause-slots g c =
    let none : Member = record { slot = 0; number = 0; birth = 0; sector = 0 } in
    member_slots c.args.members.now c.loop-member.member-index none c.requires.slots c.loop-member.invariant.calls.attached c.loop-member-test.true

pub loop-member-preserved : goal.loop-member-preserved
loop-member-preserved g c =
    let s = g.B.Bay.state c.args.bay.now in
    let m = g.B.Bay.state c.loop-member.bay in
    let t = g.B.Bay.state c.read_one-tally.new.bay in
    let ms = c.args.members.now in
    let i = c.loop-member.member-index in
    let none : Member = record { slot = 0; number = 0; birth = 0; sector = 0 } in
    let member = get_or ms i none in
    let first = c.loop-member.invariant.calls.runs in
    let next = c.read_one-tally.ensures.calls.runs in
    let old = c.loop-member.tally in
    let new = c.read_one-tally.result in
    let adds = c.read_one-tally.ensures.adds in
    record {
      few = omega (arith, c.loop-member.invariant.few, adds_few s m t first next c.args.id member old new adds);
      read = subst (λ (l : List Member). AreRead (RoseAt s t) l new.read) (sym (take_more ms i none c.loop-member-test.true)) (adds_read s m t first next c.args.id member old new adds (take i ms) c.loop-member.invariant.read);
      own = c.read_one-tally.ensures.own c.loop-member.invariant.own;
      says = adds_says s m t first next c.args.id member old new adds c.loop-member.invariant.says;
      calls = cheaper (record { calls = omega arith; bytes = λ slot. omega arith })
          (joined same-trans c.loop-member.invariant.calls (stops first) (more_slots (λ slot is. (member, among_get ms i none c.loop-member-test.true, is)) c.read_one-tally.ensures.calls));
    }

pub returns : goal.returns
returns g c =
    let s = g.B.Bay.state c.args.bay.now in
    let t = g.B.Bay.state c.loop-member.bay in
    let ms = c.args.members.now in
    let invariant = c.loop-member.invariant in
    let few : c.loop-member.member-index ≤ length ms = omega arith in
    record {
      read = subst (λ (l : List Member). AreRead (RoseAt s t) l c.loop-member.tally.read)
          (take_all c.loop-member.member-index ms c.loop-member-test.false) invariant.read;
      own = invariant.own;
      says = invariant.says;
      calls = cheaper (record { calls = omega (arith, few); bytes = λ slot. omega arith }) invariant.calls;
    }
