use Rattle.std.proofs.Common.{◌≡◌, ◌+◌, ◌*◌, ◌++◌, ℕ, List, length, take, ap, ◌∙◌, arith}
use Rattle.std.proofs.Math.Seq.{take-append-add}
use Rattle.change_directory.proofs.head.put_body.Goals as goal

pub returns : goal.returns
returns c =
    let long : length c.copy_from_slice.new.self ≡ 4096 = ap (λ (l : List ℕ). length l) c.copy_from_slice.ensures.after ∙ c.requires.head in
    let more : (length c.args.pages.now + 1) * 4096 ≡ length c.copy_from_slice.new.self + length c.args.pages.now * 4096 = omega arith in
    let after = c.copy_from_slice.ensures.after in
    let gathered = c.gather.ensures.gathered in
    ap (λ (n : ℕ). take n (c.copy_from_slice.new.self ++ c.gather.new.to)) more
    ∙ take-append-add c.copy_from_slice.new.self c.gather.new.to (length c.args.pages.now * 4096) ∙ (λ i. after i ++ gathered i)
