use Rattle.std.proofs.Common.{◌≡◌, ap, sym, ◌∙◌, arith}
use Rattle.session.proofs.Grouped.{counted, mounted_among, up_among}
use Rattle.session.proofs.session.Session.is_full.Goals as goal

pub loop-entry-init : goal.loop-entry-init
loop-entry-init c =
    let all : up_among c.into_iter-entry-iterator.result ≡ mounted_among c.args.self.now.entries =
    rw (← c.self.view_is) (ap up_among (c.into_iter-entry-iterator.ensures.into_iter_gives ∙ c.iter-entry-items.ensures.rest) ∙ sym (counted c.self.inside.groups.entries)) in
    record { few = omega arith; counts = omega (arith, all) }
