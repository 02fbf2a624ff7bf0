-- The texts of the creations.
use Rattle.std.proofs.Common.{◌≡◌, ◌-◌, ◌≤◌, List, [], ◌∷◌, ◌++◌, length, take, drop, get_or, sym, ap, ◌∙◌, append_assoc, append-nil, arith}
use Rattle.std.specs.Prelude.{map, codes}
use Rattle.std.specs.List.{flat_map}
use Rattle.std.proofs.lemmas.List.{take_all}
use Rattle.std.proofs.lemmas.List.Folds.{flat_map-map}
use Rattle.std.proofs.lemmas.Grind.{flat_map-append}
use Rattle.asm_group.specs.Names.{Bytes}
use Rattle.asm_world.specs.Generator.{create_group, create_image, quoted, with_commas}
use Rattle.asm_world.specs.Text.{ended}
use Rattle.generated_script.specs.Statements.{create_group_line, image_line}

-- three texts that were put one after another
framed : (t front middle back : Bytes) {t₁ t₂ t₃ : Bytes} → t₁ ≡ t ++ front → t₂ ≡ t₁ ++ middle → t₃ ≡ t₂ ++ (back ++ 10 ∷ []) → t₃ ≡ t ++ (((front ++ middle) ++ back) ++ 10 ∷ [])
framed t front middle back e₁ e₂ e₃ = e₃ ∙ (ap (λ b. b ++ (back ++ 10 ∷ [])) (e₂ ∙ ap (λ b. b ++ middle) e₁) ∙ simp append_assoc)

pub image_put : (t path : Bytes) {t₁ t₂ t₃ : Bytes} → t₁ ≡ t ++ codes "CREATE DISK " → t₂ ≡ t₁ ++ quoted path → t₃ ≡ t₂ ++ codes " SIZE 64M;\n" → t₃ ≡ t ++ image_line path
unfolding image_line
image_put t path e₁ e₂ e₃ = framed t (codes "CREATE DISK ") (quoted path) (codes " SIZE 64M;") e₁ e₂ e₃

pub group_put : (t : Bytes) (paths : List Bytes) {t₁ t₂ t₃ : Bytes} → t₁ ≡ t ++ codes "CREATE DISKGROUP DATA DISK " → t₂ ≡ t₁ ++ with_commas (map quoted paths) → t₃ ≡ t₂ ++ codes ";\n" → t₃ ≡ t ++ create_group_line paths
unfolding create_group_line
group_put t paths e₁ e₂ e₃ = framed t (codes "CREATE DISKGROUP DATA DISK ") (with_commas (map quoted paths)) (codes ";") e₁ e₂ e₃

-- the first text, and the others each behind a comma
commas_after : (text : Bytes) (texts : List Bytes) → with_commas (text ∷ texts) ≡ text ++ flat_map (λ other. 44 ∷ 32 ∷ other) texts
commas_after text [] = sym (append-nil text)
commas_after text (next ∷ texts) = append_assoc text (44 ∷ 32 ∷ []) (with_commas (next ∷ texts)) ∙ ap (λ (line : Bytes). text ++ (44 ∷ 32 ∷ line)) (commas_after next texts)

pub paths_put : (t t₁ longer : Bytes) (paths : List Bytes) (first : Bytes) → 1 ≤ length paths → first ≡ get_or paths 0 first → t₁ ≡ t ++ quoted first → longer ≡ t₁ ++ flat_map (λ path. 44 ∷ 32 ∷ quoted path) (take (length paths - 1) (drop 1 paths))
    → longer ≡ t ++ with_commas (map quoted paths)
paths_put t t₁ longer [] first some is e f = absurd (omega arith)
paths_put t t₁ longer (path ∷ paths) first some is e f =
    let others : take (length (path ∷ paths) - 1) paths ≡ paths = take_all (length (path ∷ paths) - 1) paths (omega arith) in
    let all : with_commas (quoted path ∷ map quoted paths) ≡ quoted path ++ flat_map (λ other. 44 ∷ 32 ∷ quoted other) paths =
    commas_after (quoted path) (map quoted paths) ∙ ap (λ (line : Bytes). quoted path ++ line) (flat_map-map (λ other. 44 ∷ 32 ∷ other) quoted paths) in
    f ∙ (ap (λ (ps : List Bytes). t₁ ++ flat_map (λ other. 44 ∷ 32 ∷ quoted other) ps) others
    ∙ (ap (λ (b : Bytes). b ++ flat_map (λ other. 44 ∷ 32 ∷ quoted other) paths) (e ∙ ap (λ (p : Bytes). t ++ quoted p) is)
    ∙ (append_assoc t (quoted path) (flat_map (λ other. 44 ∷ 32 ∷ quoted other) paths) ∙ ap (λ (b : Bytes). t ++ b) (sym all))))

pub creations_are : (paths : List Bytes) → flat_map image_line paths ++ create_group_line paths ≡ ended (map create_image paths ++ create_group paths ∷ [])
unfolding image_line create_group_line
creations_are paths =
    sym (flat_map-append (λ line. line ++ 10 ∷ []) (map create_image paths) (create_group paths ∷ [])
    ∙ (ap (λ (front : Bytes). front ++ ((create_group paths ++ 10 ∷ []) ++ [])) (flat_map-map (λ line. line ++ 10 ∷ []) create_image paths)
    ∙ ap (λ (line : Bytes). flat_map (λ path. create_image path ++ 10 ∷ []) paths ++ line) (append-nil (create_group paths ++ 10 ∷ []))))
