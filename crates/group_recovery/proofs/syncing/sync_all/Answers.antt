use Rattle.std.proofs.Common.{[], List, take, get_or, refl, sym, subst, arith}
use Rattle.std.proofs.lemmas.List.{take_more, take_all}
use Rattle.bay.proofs.Calls.{goes_on, stops, on_more, started, attached-trans}
use Rattle.bay.proofs.Images.{same-refl, same-trans}
use Rattle.status_register.specs.Surveys.{none_yet}
use Rattle.status_register.specs.declared.member.Member.{Member}
use Rattle.status_register.proofs.Filling.{still_slots}
use Rattle.status_register.proofs.Tallying.{among_get}
use Rattle.group_recovery.specs.Syncing.{AreSynced}
use Rattle.group_recovery.proofs.Syncs.{synced_more}
use Rattle.group_recovery.proofs.syncing.sync_all.Goals as goal

pub loop-member-init : goal.loop-member-init
loop-member-init g c =
    let s = g.B.Bay.state c.args.bay.now in
    record {
      synced = subst (λ (l : List Member). AreSynced [] l s s) (sym c.new-synced.ensures.items) (record { are = none_yet; durable = λ m h. absurd h });
      calls = omega arith;
      attached = record { same = λ slot. refl };
      runs = started (λ x. same-refl x);
    }

pub sync_one-requires : goal.sync_one-requires
sync_one-requires g c =
    let none : Member = record { slot = 0; number = 0; birth = 0; sector = 0 } in
    still_slots (c.requires.slots (get_or c.args.members.now c.loop-member.member-index none) (among_get c.args.members.now c.loop-member.member-index none c.loop-member-test.true)) c.loop-member.invariant.attached

pub loop-member-preserved : goal.loop-member-preserved
loop-member-preserved g c =
    let s = g.B.Bay.state c.args.bay.now in
    let m = g.B.Bay.state c.loop-member.bay in
    let t = g.B.Bay.state c.sync_one.new.bay in
    let ms = c.args.members.now in
    let i = c.loop-member.member-index in
    let none : Member = record { slot = 0; number = 0; birth = 0; sector = 0 } in
    let member = get_or ms i none in
    let among = among_get ms i none c.loop-member-test.true in
    let first = c.loop-member.invariant.runs in
    let next = c.sync_one.ensures.runs in
    let old = c.loop-member.synced.items in
    let new = c.sync_one.new.synced.items in
    record {
      synced = subst (λ (l : List Member). AreSynced l new s t) (sym (take_more ms i none c.loop-member-test.true)) (synced_more s m t first next member (take i ms) old new c.loop-member.invariant.synced c.in_ok-sync_one.ensures.synced);
      calls = omega (arith, c.loop-member.invariant.calls, c.sync_one.ensures.calls);
      attached = attached-trans c.loop-member.invariant.attached c.sync_one.ensures.attached;
      runs = goes_on same-trans first (stops first) (on_more (λ slot is. (member, among, is)) next);
    }

pub returns-clause-synced : goal.returns-clause-synced
returns-clause-synced g c =
    subst (λ (l : List Member). AreSynced l c.loop-member.synced.items (g.B.Bay.state c.args.bay.now) (g.B.Bay.state c.loop-member.bay))
    (take_all c.loop-member.member-index c.args.members.now c.loop-member-test.false) c.loop-member.invariant.synced

pub returns-in_err-sync_one-clause-runs : goal.returns-in_err-sync_one-clause-runs
returns-in_err-sync_one-clause-runs g c =
    let none : Member = record { slot = 0; number = 0; birth = 0; sector = 0 } in
    let member = get_or c.args.members.now c.loop-member.member-index none in
    let among = among_get c.args.members.now c.loop-member.member-index none c.loop-member-test.true in
    let first = c.loop-member.invariant.runs in
    goes_on same-trans first (stops first) (on_more (λ slot is. (member, among, is)) c.sync_one.ensures.runs)
