use Rattle.std.proofs.Common.{◌/◌, Ok, sym, subst}
use Rattle.group_engine.specs.Commits.{CommitsPlan}
use Rattle.group_engine.specs.Mounts.{MountedGroup}
use Rattle.group_engine.specs.Searches.{IsSearchOf}
use Rattle.group_engine.proofs.Searches.{plan_search}
use Rattle.group_engine.proofs.mounted.Mounted.commit_extent.Goals as goal

pub search_on-requires-clause-search : goal.search_on-requires-clause-search
search_on-requires-clause-search g c =
    let x = c.args.x in
    let m = c.args.self.now in
    let now = c.commit_plan.new.self in
    let known : IsSearchOf m.catalog m.register.value c.self.inside.search = subst (λ (v : MountedGroup). IsSearchOf v.catalog v.register.value c.self.inside.search) c.self.view_is c.self.invariant.search in
    plan_search (x.file, x.index / 256) m.catalog now.catalog m.register.value now.register.value c.self.inside.search c.args.change.now.put c.args.change.now.gone c.requires.plan c.in-Ok.ensures.commits.applied known
    c.commit_plan.ensures.goes.keeps.same.shape c.commit_plan.ensures.status.entries

pub returns-in-Ok-clause-commits : goal.returns-in-Ok-clause-commits
returns-in-Ok-clause-commits g c =
    subst (λ (v : MountedGroup). CommitsPlan c.args.self.now c.args.change.now.put c.args.change.now.gone (Ok tt) v (g.B.Bay.state c.args.bay.now) (g.B.Bay.state c.commit_plan.new.bay)) (sym c.search_on.ensures) c.in-Ok.ensures.commits
