-- Texts behind references.
use Rattle.std.proofs.Common.{◌≡◌, Bool, ◌||◌, List, [], ◌∷◌, Bor, refl, ap}
use Rattle.std.specs.List.{list_any}
use Rattle.std.specs.Str.{bytes_eq}
use Rattle.command_line.specs.Paths.{WordBytes, texts}

pub any_text : (path : WordBytes) (rest : List (Bor WordBytes)) → list_any (λ other. bytes_eq other.now path) rest ≡ list_any (λ other. bytes_eq other path) (texts rest)
any_text path [] = refl
any_text path (first ∷ rest) = ap (λ (b : Bool). bytes_eq first.now path || b) (any_text path rest)
