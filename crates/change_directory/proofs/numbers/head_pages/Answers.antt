use Rattle.std.proofs.Common.{◌<◌, ℕ, true, false, ap, subst, ◌∙◌}
use Rattle.change_directory.specs.Slots.{is_head_of}
use Rattle.change_directory.proofs.HeadLaws.{head_decides, too_many}
use Rattle.change_directory.proofs.numbers.head_pages.Goals as goal

pub returns-then-count-gt-MOST_PAGES-clause-pages : goal.returns-then-count-gt-MOST_PAGES-clause-pages
returns-then-count-gt-MOST_PAGES-clause-pages c =
    too_many c.args.dir_blocks c.args.head.now (subst (λ (n : ℕ). 64 < n) c.head_count-count.ensures c.if-count-gt-MOST_PAGES.true)

pub returns-then-is_head-clause-pages : goal.returns-then-is_head-clause-pages
returns-then-is_head-clause-pages c =
    let test = c.if-is_head.ensures.test ∙ ap (is_head_of c.args.dir_blocks c.args.head.now) c.as_slice.ensures.value in
    head_decides c.args.dir_blocks c.args.head.now c.head_count-count.result c.in_ok-pages.pages.items true c.is_head.ensures.fits c.head_count-count.ensures c.if-count-gt-MOST_PAGES.false c.in_ok-pages.ensures.value test

pub returns-else-is_head-clause-pages : goal.returns-else-is_head-clause-pages
returns-else-is_head-clause-pages c =
    let test = c.if-is_head.ensures.test ∙ ap (is_head_of c.args.dir_blocks c.args.head.now) c.as_slice.ensures.value in
    head_decides c.args.dir_blocks c.args.head.now c.head_count-count.result c.in_ok-pages.pages.items false c.is_head.ensures.fits c.head_count-count.ensures c.if-count-gt-MOST_PAGES.false c.in_ok-pages.ensures.value test
