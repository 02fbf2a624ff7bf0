-- A disk of an entry has the entry's birth.
use Rattle.std.proofs.Common.{◌≡◌, ℕ, true, List, sym, ap, ◌∙◌, Option, Some}
use Rattle.std.specs.Option.{option_map}
use Rattle.std.proofs.lemmas.Bool.{eqb-true}
use Rattle.asm_formats.specs.Status.{Entry, entry_of}
use Rattle.status_register.specs.Holders.{is_of}
use Rattle.status_register.specs.Registered.{is_same_birth}
use Rattle.status_register.specs.declared.member.Member.{Member}

pub birth_of : (entries : List Entry) (d : ℕ) (x : Member) (e : Entry) → is_of entries x ≡ true → x.number ≡ d → entry_of entries d ≡ Some e → x.birth ≡ e.birth
birth_of entries d x e of number is =
    let at : entry_of entries x.number ≡ Some e = ap (entry_of entries) number ∙ is in
    sym (eqb-true e.birth x.birth (sym (ap (λ (o : Option Entry). is_same_birth (option_map (λ (y : Entry). y.birth) o) x.birth) at) ∙ of))
