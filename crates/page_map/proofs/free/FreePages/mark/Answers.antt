use Rattle.std.proofs.Common.{◌≡◌, true, sym, subst}
use Rattle.page_map.specs.Free.{FreeMap, is_page_free}
use Rattle.page_map.proofs.Pages.{marked_free}
use Rattle.page_map.proofs.free.FreePages.mark.Goals as goal

pub returns-clause-taken : goal.returns-clause-taken
returns-clause-taken c =
    let free : is_page_free c.self.inside.units c.args.page ≡ true = subst (λ (m : FreeMap). is_page_free m c.args.page ≡ true) (sym c.self.view_is) c.requires in
    rw (← c.self.view_is) (marked_free c.self.inside.units c.mark.new.self c.args.page c.mark.result c.self.invariant free c.mark.ensures.free c.mark.ensures.after)
