use Rattle.std.proofs.Common.{inl, refl, [], ◌∷◌}
use Rattle.disk_joining.proofs.Joiners.{long_header, taking_works}
use Rattle.disk_joining.proofs.heading.take_header.Goals as goal

pub close_header-requires : goal.close_header-requires
close_header-requires g c = long_header c.args.disk.now.slot c.args.shape.sector c.args.shape.dir_blocks (g.B.Bay.state c.args.bay.now) c.requires

pub returns : goal.returns
returns g c =
    let h = c.args.disk.now in
    let call = c.close_header.ensures.call.calls in
    taking_works h (h ∷ []) (inl refl) _ call.attached call.runs
