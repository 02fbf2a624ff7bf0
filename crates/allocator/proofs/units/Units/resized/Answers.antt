use Rattle.std.proofs.Common.{List, ℕ, ap, sym, ◌∙◌, subst}
use Rattle.allocator.specs.Words.{AreResized}
use Rattle.allocator.proofs.Resized.{count_user, resized_map, resized_sound}
use Rattle.allocator.proofs.units.Units.resized.Goals as goal

pub invariant_of-result : goal.invariant_of-result
invariant_of-result c =
    let is = subst (λ (old : List ℕ). AreResized c.self.inside.first c.self.inside.units c.args.units old c.in_ok-words.words.items) c.deref.ensures.value c.in_ok-words.ensures in
    record {
      words = rw (c.min-3.ensures, c.min-2.ensures) (resized_sound c.self.inside.first c.self.inside.units c.args.units c.self.inside.from c.self.inside.words.items c.in_ok-words.words.items c.self.invariant.words is);
      counted = c.used_between-used.ensures ∙ rw (c.deref-2.ensures.value, c.min.ensures) (sym (count_user c.self.inside.first c.args.units c.in_ok-words.words.items));
    }

pub returns : goal.returns
returns c =
    let is = subst (λ (old : List ℕ). AreResized c.self.inside.first c.self.inside.units c.args.units old c.in_ok-words.words.items) c.deref.ensures.value c.in_ok-words.ensures in
    rw (← c.self.view_is) (resized_map c.self.inside.first c.self.inside.units c.args.units c.self.inside.words.items c.in_ok-words.words.items is)
