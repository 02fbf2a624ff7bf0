use Rattle.std.proofs.Common.{◌∙◌, ◌++◌, ◌∷◌, [], List, length, get_or, sym, ap, arith}
use Rattle.std.proofs.lemmas.List.{length-append, take_more, take_all}
use Rattle.status_register.specs.declared.member.Member.{Member}
use Rattle.status_register.proofs.members.MemberList.of.Goals as goal

pub loop-member-init : goal.loop-member-init
loop-member-init c = record { is = c.empty-list.ensures; few = omega (arith, ap length c.empty-list.ensures) }

pub loop-member-preserved : goal.loop-member-preserved
loop-member-preserved c =
    let none : Member = record { slot = 0; number = 0; birth = 0; sector = 0 } in
    let one = get_or c.args.members.now c.loop-member.member-index none ∷ [] in
    record {
      is = c.with-list.ensures ∙ (ap (λ (l : List Member). l ++ one) c.loop-member.invariant.is ∙ sym (take_more c.args.members.now c.loop-member.member-index none c.loop-member-test.true));
      few = omega (arith, c.loop-member.invariant.few, ap length c.with-list.ensures, length-append c.loop-member.list one);
    }

pub returns : goal.returns
returns c = c.loop-member.invariant.is ∙ take_all c.loop-member.member-index c.args.members.now c.loop-member-test.false
