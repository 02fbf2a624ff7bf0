-- The least number that no entry has.
use Rattle.std.proofs.Common.{◌≡◌, ℕ, suc, ◌+◌, ◌-◌, ◌<◌, ◌≤◌, true, false, List, sym, ap, ◌∙◌, arith}
use Rattle.std.proofs.lemmas.Bool.{cond-false, cond-true}
use Rattle.asm_formats.specs.Status.{Entry, has_entry}
use Rattle.disk_joining.specs.Asking.{first_without}

one_less : (many n : ℕ) → n < many → many - n ≡ suc (many - (n + 1))
one_less many n lt = omega arith

none_left : (many n : ℕ) → many ≤ n → many - n ≡ 0
none_left many n past = omega arith

pub tried_more : (es : List Entry) (many n least : ℕ) → n < many → has_entry es n ≡ true → first_without (many - n) n es ≡ least → first_without (many - (n + 1)) (n + 1) es ≡ least
tried_more es many n least lt taken so_far =
    sym (ap (λ (k : ℕ). first_without k n es) (one_less many n lt) ∙ cond-true (has_entry es n) (first_without (many - (n + 1)) (n + 1) es) n taken) ∙ so_far

pub found_free : (es : List Entry) (many n least : ℕ) → n < many → has_entry es n ≡ false → first_without (many - n) n es ≡ least → n ≡ least
found_free es many n least lt free so_far =
    sym (ap (λ (k : ℕ). first_without k n es) (one_less many n lt) ∙ cond-false (has_entry es n) (first_without (many - (n + 1)) (n + 1) es) n free) ∙ so_far

pub none_free : (es : List Entry) (many n least : ℕ) → many ≤ n → first_without (many - n) n es ≡ least → 64 ≡ least
none_free es many n least past so_far = sym (ap (λ (k : ℕ). first_without k n es) (none_left many n past)) ∙ so_far
