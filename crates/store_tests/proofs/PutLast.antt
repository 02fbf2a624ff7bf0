-- A record that is put behind others.
use Rattle.std.proofs.Common.{◌≡◌, inl, inr, ⊎_elim, List, [], ◌∷◌, ◌++◌, sym, subst}
use Rattle.asm_formats.specs.Among.{IsAmong}
use Rattle.asm_base.specs.Records.{DirectoryRecord}
use Rattle.directory_store.specs.Contents.{ArePutItems, IsPutItem}

pub put_last : (put : List DirectoryRecord) (e : DirectoryRecord) → ArePutItems put → IsPutItem e → ArePutItems (put ++ e ∷ [])
put_last [] e before is = λ x among. ⊎_elim (λ (same : x ≡ e). subst IsPutItem (sym same) is) (λ none. absurd none) among
put_last (p ∷ put) e before is = λ x among. ⊎_elim (λ (same : x ≡ p). before x (inl same)) (λ (there : IsAmong (put ++ e ∷ []) x). put_last put e (λ y a. before y (inr a)) is x there) among
