-- Bytes that are given are taken from the front of those that are left.
use Rattle.std.proofs.Common.{◌≡◌, ℕ, ◌+◌, ◌-◌, ◌≤◌, ◌<◌, List, [], ◌++◌, length, take, drop, sym, ap, ◌∙◌, append_assoc, arith}
use Rattle.std.specs.Prelude.{min, map, ◌∷◌}
use Rattle.std.proofs.lemmas.List.{take_all, drop_all, drop-drop, take-append-drop, length-drop}
use Rattle.asm_group.specs.Names.{Bytes}
use Rattle.asm_world.specs.Generator.{create_group, create_image, generated_script}
use Rattle.asm_world.specs.Text.{ended}
use Rattle.generated_script.proofs.Scripts.{script_is}
use Rattle.generated_script.specs.Lines.{made_for}
use Rattle.generated_script.specs.Source.{GivesBytes}

-- what was given and what stands behind it
parts : (text buf passed rest : Bytes) (from count : ℕ) → passed ≡ drop from text → take count buf ≡ take count passed → drop from text ++ rest ≡ take count buf ++ (drop (from + count) text ++ rest)
parts text buf passed rest from count is same =
    ap (λ (b : Bytes). b ++ rest) (sym (take-append-drop count (drop from text)))
    ∙ (append_assoc (take count (drop from text)) (drop count (drop from text)) rest
    ∙ (ap (λ (b : Bytes). b ++ (drop count (drop from text) ++ rest)) (sym (same ∙ ap (take count) is))
    ∙ ap (λ (b : Bytes). take count buf ++ (b ++ rest)) (drop-drop count from text)))

-- the bytes that are handed on, from one of them
abbrev from_there : ℕ → Bytes → Bytes
from_there from shown = take (length shown - from) (drop from shown)

handed : (text shown : Bytes) (from : ℕ) → shown ≡ text → from_there from shown ≡ drop from text
handed text shown from e = ap (from_there from) e ∙ take_all (length text - from) (drop from text) (omega (arith, length-drop from text))

-- bytes of a text that has some
pub some_given : (text shown room buf rest : Bytes) (from count : ℕ) → from < length text → shown ≡ text → count ≡ min (length (from_there from shown)) (length room) → take count buf ≡ take count (from_there from shown) → length buf ≡ length room
    → GivesBytes (drop from text ++ rest) (drop (from + count) text ++ rest) count room buf
some_given text shown room buf rest from count some e counted same sizes =
    let is : from_there from shown ≡ drop from text = handed text shown from e in
    let long : length (from_there from shown) ≡ length text - from = ap length is ∙ length-drop from text in
    record {
      fits = omega (arith, counted);
      same_room = sizes;
      given = parts text buf (from_there from shown) rest from count is same;
      at_end = λ none wanted. absurd (omega (arith, counted, long));
    }

-- bytes of a line, behind a text that was read
pub line_given : (text line shown room buf rest before : Bytes) (read from count : ℕ) → length text ≤ read → shown ≡ line → drop read text ++ (drop from line ++ rest) ≡ before
    → count ≡ min (length (from_there from shown)) (length room) → take count buf ≡ take count (from_there from shown) → length buf ≡ length room
    → (length line ≤ from → drop read text ++ (drop from line ++ rest) ≡ []) → GivesBytes before (drop read text ++ (drop (from + count) line ++ rest)) count room buf
line_given text line shown room buf rest before read from count done e left counted same sizes over =
    let is : from_there from shown ≡ drop from line = handed line shown from e in
    let long : length (from_there from shown) ≡ length line - from = ap length is ∙ length-drop from line in
    let no_text : drop read text ≡ [] = drop_all read text done in
    let moved : drop from line ++ rest ≡ take count buf ++ (drop (from + count) line ++ rest) = parts line buf (from_there from shown) rest from count is same in
    record {
      fits = omega (arith, counted);
      same_room = sizes;
      given = sym left ∙ rw no_text moved;
      at_end = λ none wanted.
          let ended_line : length line ≤ from = omega (arith, counted, long) in
          let stays : drop (from + count) line ≡ drop from line = ap (λ (n : ℕ). drop n line) (omega arith) in
          rw stays (over ended_line);
    }

-- at the front
pub begins : (number : ℕ) (paths : List Bytes) (text line : Bytes) (lines : List Bytes) → text ≡ ended (map create_image paths ++ create_group paths ∷ []) → line ≡ [] → lines ≡ made_for number → drop 0 text ++ (drop 0 line ++ ended lines) ≡ generated_script number paths
begins number paths text line lines e none made =
    ap (λ (b : Bytes). text ++ (drop 0 b ++ ended lines)) none ∙ (ap (λ (ls : List Bytes). text ++ ended ls) made ∙ (ap (λ (b : Bytes). b ++ ended (made_for number)) e ∙ sym (script_is number paths)))
