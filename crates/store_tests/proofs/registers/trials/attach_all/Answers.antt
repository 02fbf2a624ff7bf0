use Rattle.std.proofs.Common.{◌≡◌, ⊎_elim, List, take, get_or, sym, subst}
use Rattle.std.proofs.lemmas.List.{take_more, take_all}
use Rattle.status_register.specs.Places.{HasSlots}
use Rattle.status_register.specs.Tallies.{HaveSlots}
use Rattle.status_register.specs.declared.member.Member.{Member}
use Rattle.status_register.proofs.Losing.{last_is}
use Rattle.store_tests.proofs.registers.trials.attach_all.Goals as goal

pub loop-member-init : goal.loop-member-init
loop-member-init g c m h = absurd h

pub loop-member-preserved : goal.loop-member-preserved
loop-member-preserved g c =
    let t = g.B.Bay.state c.attach.new.bay in
    let ms = c.args.members.now in
    let i = c.loop-member.member-index in
    let none : Member = record { slot = 0; number = 0; birth = 0; sector = 0 } in
    let one = get_or ms i none in
    subst (λ (l : List Member). HaveSlots t l) (sym (take_more ms i none c.loop-member-test.true)) (λ m h. ⊎_elim
    (λ before. c.attach.ensures.others m.slot m.sector (c.loop-member.invariant m before))
    (λ (same : m ≡ one). subst (λ (k : Member). HasSlots t k.slot k.sector) (sym same) (c.attach.ensures.here c.if-not-attach.false))
    (last_is (take i ms) one m h))

pub returns : goal.returns
returns g c = λ all. subst (λ (l : List Member). HaveSlots (g.B.Bay.state c.loop-member.bay) l) (take_all c.loop-member.member-index c.args.members.now c.loop-member-test.false) c.loop-member.invariant
