use Rattle.group_reports.proofs.Keyed.{place_more}
use Rattle.group_reports.proofs.searching.placed.Goals as goal

pub loop-path-preserved-in-Ok : goal.loop-path-preserved-in-Ok
loop-path-preserved-in-Ok c =
    place_more c.loop-path.places.entries c.insert.new.self.entries c.in_ok-text.text c.in-Some.path c.loop-path.paths.items c.pop.new.self.items _
    c.loop-path.invariant c.in-Some.ensures.items c.in-Ok.ensures.entries c.in_ok-text.ensures

pub loop-path-preserved : goal.loop-path-preserved
loop-path-preserved c =
    place_more c.loop-path.places.entries c.insert.new.self.entries c.in_ok-text.text c.in-Some.path c.loop-path.paths.items c.pop.new.self.items _
    c.loop-path.invariant c.in-Some.ensures.items c.in-Ok.ensures.entries c.in_ok-text.ensures
