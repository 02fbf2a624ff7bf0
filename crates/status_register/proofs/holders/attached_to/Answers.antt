use Rattle.std.proofs.Common.{◌≡◌, ◌∙◌, ◌++◌, ◌-◌, ℕ, suc, List, length, get_or, None, sym, ap, arith}
use Rattle.std.proofs.lemmas.List.{append-nil, length-append, append_assoc}
use Rattle.status_register.specs.Holders.{holder_in, holders_below}
use Rattle.status_register.specs.declared.member.Member.{Member}
use Rattle.status_register.proofs.Holding.{holders_more, holders_none, holder_few}
use Rattle.status_register.proofs.holders.attached_to.Goals as goal

pub loop-disk-preserved : goal.loop-disk-preserved
loop-disk-preserved c =
    let places = c.args.places.now in
    let r = c.args.status.now in
    let d = c.loop-disk.disk - 1 in
    let below : c.loop-disk.disk ≡ suc d = omega arith in
    let here = holder_in r d (get_or places d None) in
    record {
      list = ap (λ (l : List Member). l ++ holders_below places r d) c.with_holder-list.ensures
          ∙ append_assoc c.loop-disk.list here (holders_below places r d)
          ∙ ap (λ (l : List Member). c.loop-disk.list ++ l) (sym (holders_more places r c.loop-disk.disk d below))
          ∙ c.loop-disk.invariant.list;
      room = omega (arith, c.loop-disk.invariant.room, ap length c.with_holder-list.ensures, length-append c.loop-disk.list here, holder_few r d (get_or places d None), below);
    }

pub returns : goal.returns
returns c =
    let places = c.args.places.now in
    let r = c.args.status.now in
    let none : c.loop-disk.disk ≡ 0 = omega arith in
    sym (append-nil c.loop-disk.list) ∙ ap (λ (l : List Member). c.loop-disk.list ++ l) (sym (ap (λ (n : ℕ). holders_below places r n) none ∙ holders_none places r)) ∙ c.loop-disk.invariant.list
