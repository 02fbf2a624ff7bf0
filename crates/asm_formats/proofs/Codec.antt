-- A body decodes to a value exactly where it is the value's one spelling.
use Rattle.std.proofs.Common.{◌≡◌, Bool, true, cond, ◌&&◌, refl, sym, subst, Some, None}
use Rattle.std.specs.Str.{bytes_eq}
use Rattle.std.proofs.lemmas.Bool.{and_parts, and_from, cond-true}
use Rattle.std.proofs.lemmas.Option.{cond_some}
use Rattle.asm_group.specs.Names.{Bytes}
use Rattle.asm_formats.specs.Bytes.{spelled_by}
use lib.Pointwise.{bytes_decides}

pub bytes_same : (a b : Bytes) → bytes_eq a b ≡ true → a ≡ b
bytes_same a b = (bytes_decides a b).0

pub same_bytes : (a b : Bytes) → a ≡ b → bytes_eq a b ≡ true
same_bytes a b = (bytes_decides a b).1

-- the value and its spelling
pub record IsSpelledBy {A : Type 0} (is_allowed : A → Bool) (spelling : A → Bytes) (bytes : Bytes) (x : A) : Type 0 where
  pub allowed : is_allowed x ≡ true
  pub same : bytes ≡ spelling x

pub spelled : {A : Type 0} (is_allowed : A → Bool) (spelling : A → Bytes) (bytes : Bytes) (x y : A) → spelled_by is_allowed spelling bytes x ≡ Some y → IsSpelledBy is_allowed spelling bytes y
unfolding spelled_by
spelled {A} is_allowed spelling bytes x y e =
    let p = cond_some (is_allowed x && bytes_eq bytes (spelling x)) x y e in
    let q = and_parts (is_allowed x) (bytes_eq bytes (spelling x)) p.0 in
    subst (λ (z : A). IsSpelledBy is_allowed spelling bytes z) p.1 (record { allowed = q.0; same = bytes_same bytes (spelling x) q.1 })

pub own_spelling : {A : Type 0} (is_allowed : A → Bool) (spelling : A → Bytes) (x y : A) → is_allowed x ≡ true → y ≡ x → spelled_by is_allowed spelling (spelling x) y ≡ Some x
unfolding spelled_by
own_spelling {A} is_allowed spelling x y ok e =
    subst (λ (z : A). cond (is_allowed z && bytes_eq (spelling x) (spelling z)) (Some z) None ≡ Some x) (sym e)
    (cond-true (is_allowed x && bytes_eq (spelling x) (spelling x)) (Some x) None (and_from (is_allowed x) (bytes_eq (spelling x) (spelling x)) ok (same_bytes (spelling x) (spelling x) refl)))
