use Rattle.std.proofs.Common.{◌≡◌, ◌∙◌, Bool, cond, Some, List, ◌∷◌, Bor, ap, sym}
use Rattle.std.specs.List.{list_any}
use Rattle.std.specs.Str.{bytes_eq}
use Rattle.command_line.specs.Paths.{WordBytes, first_twice, texts}
use Rattle.command_line.proofs.Texts.{any_text}
use Rattle.command_line.proofs.checks.+first_twice.Goals as goal

-- the first path, by whether it is among the rest
twice_by : (paths rest : List (Bor WordBytes)) (first : Bor WordBytes) (is : Bool) → paths ≡ first ∷ rest → is ≡ list_any (λ other. bytes_eq other.now first.now) rest
    → first_twice (texts paths) ≡ cond is (Some first.now) (first_twice (texts rest))
twice_by paths rest first is split any = ap (λ (xs : List (Bor WordBytes)). first_twice (texts xs)) split
    ∙ ap (λ (b : Bool). cond b (Some first.now) (first_twice (texts rest))) (sym (any ∙ any_text first.now rest))

pub returns-then-contains : goal.returns-then-contains
returns-then-contains t c = sym (twice_by c.args.paths.now c.in-Some.others.now c.in-Some.path.now c.contains.result c.in-Some.ensures.cases.0 c.contains.ensures.value
    ∙ ap (λ (b : Bool). cond b (Some c.in-Some.path.now.now) (first_twice (texts c.in-Some.others.now))) c.if-contains.true)

pub returns-else-contains : goal.returns-else-contains
returns-else-contains t c = c.first_twice.ensures ∙ sym (twice_by c.args.paths.now c.in-Some.others.now c.in-Some.path.now c.contains.result c.in-Some.ensures.cases.0 c.contains.ensures.value
    ∙ ap (λ (b : Bool). cond b (Some c.in-Some.path.now.now) (first_twice (texts c.in-Some.others.now))) c.if-contains.false)
