use Rattle.std.proofs.Common.{rules, inr, List, Option, Some, None, sym, subst}
use Rattle.asm_formats.specs.Among.{IsAmong}
use Rattle.group_pieces.specs.declared.copies.Place.{Place}
use Rattle.group_pieces.specs.Writes.{ArePlacesNumbered}
use Rattle.group_pieces.proofs.Several.{rest_of, split}
use Rattle.group_pieces.proofs.writing.+have_failed.Goals as goal

pub have_failed-requires : goal.have_failed-requires
have_failed-requires t c =
    let e = split c.args.places.now (Some c.in-Some.place) c.in-len1-up.len_at_least c.in-Some.is in
    let numbered : ArePlacesNumbered (rest_of c.args.places.now) = λ p among. c.requires p (subst (λ (l : List (Option Place)). IsAmong l (Some p)) (sym e) (inr among)) in
    search rules

pub have_failed-requires-in-None : goal.have_failed-requires-in-None
have_failed-requires-in-None t c =
    let e = split c.args.places.now None c.in-len1-up.len_at_least c.in-None.is in
    let numbered : ArePlacesNumbered (rest_of c.args.places.now) = λ p among. c.requires p (subst (λ (l : List (Option Place)). IsAmong l (Some p)) (sym e) (inr among)) in
    search rules
