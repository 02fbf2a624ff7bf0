use Rattle.std.proofs.Common.{◌∙◌, ◌++◌, ◌∷◌, [], List, length, ap, arith}
use Rattle.std.proofs.lemmas.List.{length-take-le, length-set, take_more_set}
use Rattle.status_register.specs.declared.member.Member.{Member}
use Rattle.status_register.proofs.members.MemberList.with.Goals as goal

pub bounds-items-self-inside : goal.bounds-items-self-inside
bounds-items-self-inside c =
    omega (arith, c.requires, ap length c.self.view_is, length-take-le c.self.inside.count c.self.inside.items (omega (arith, c.self.invariant.0, c.self.invariant.1)))

pub invariant_of-result : goal.invariant_of-result
invariant_of-result c = (
  omega (arith, c.requires, ap length c.self.view_is, length-take-le c.self.inside.count c.self.inside.items (omega (arith, c.self.invariant.0, c.self.invariant.1))),
  length-set c.self.inside.items c.self.inside.count c.args.member ∙ c.self.invariant.1,
)

pub returns : goal.returns
returns c =
    take_more_set c.self.inside.items c.self.inside.count c.args.member
    (omega (arith, c.requires, ap length c.self.view_is, c.self.invariant.1, length-take-le c.self.inside.count c.self.inside.items (omega (arith, c.self.invariant.0, c.self.invariant.1))))
    ∙ ap (λ (l : List Member). l ++ c.args.member ∷ []) c.self.view_is
