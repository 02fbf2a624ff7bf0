use Rattle.session.proofs.session.Session.edit.Goals as goal

pub returns : goal.returns
returns g c = record { edits = c.work.ensures.works; carries = c.work.ensures.carries; apart = c.shows_names.ensures.apart; paired = c.shows_names.ensures.paired }
