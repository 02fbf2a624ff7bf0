-- The bounds of a shape.
use Rattle.std.proofs.Common.{◌≡◌, ◌⊎◌, inl, inr, ⊎_elim, ℕ, ◌*◌, ◌<◌, ◌≤◌, Bool, true, leb, eqb, arith}
use Rattle.std.specs.Prelude.{◌||◌, IsTrue}
use Rattle.std.proofs.lemmas.Bool.{and_parts, or_cases, leb-true, eqb-true}
use Rattle.asm_group.specs.Shape.{Shape, is_shape, is_unit_size, is_step, is_sector, is_dir_blocks}
use Rattle.asm_formats.specs.Header.{Header, is_header}
use Rattle.asm_images.proofs.Members.{member_shape}

pub few_blocks : (s : Shape) → IsTrue (is_shape s) → s.dir_blocks ≤ 16384
unfolding is_shape
few_blocks s ok =
    let p = and_parts (is_unit_size s.au) _ ok in
    let q = and_parts (is_step s.step) _ p.1 in
    let r = and_parts (is_sector s.sector s.au) (is_dir_blocks s.dir_blocks) q.1 in
    leb-true s.dir_blocks 16384 (and_parts (leb 128 s.dir_blocks) (leb s.dir_blocks 16384) r.1).1

many_blocks : (s : Shape) → is_shape s ≡ true → 128 ≤ s.dir_blocks
unfolding is_shape
many_blocks s ok =
    let p = and_parts (is_unit_size s.au) _ ok in
    let q = and_parts (is_step s.step) _ p.1 in
    let r = and_parts (is_sector s.sector s.au) (is_dir_blocks s.dir_blocks) q.1 in
    leb-true 128 s.dir_blocks (and_parts (leb 128 s.dir_blocks) (leb s.dir_blocks 16384) r.1).0

sector_is : (s : Shape) → is_shape s ≡ true → (s.sector ≡ 512) ⊎ (s.sector ≡ 4096)
unfolding is_shape
sector_is s ok =
    let p = and_parts (is_unit_size s.au) _ ok in
    let q = and_parts (is_step s.step) _ p.1 in
    let r = and_parts (is_sector s.sector s.au) (is_dir_blocks s.dir_blocks) q.1 in
    let t = and_parts (eqb s.sector 512 || eqb s.sector 4096) (leb (8 * s.sector) s.au) r.0 in
    ⊎_elim (λ one. inl (eqb-true s.sector 512 one)) (λ two. inr (eqb-true s.sector 4096 two)) (or_cases (eqb s.sector 512) (eqb s.sector 4096) t.0)

pub header_sector : (h : Header) → IsTrue (is_header h) → (h.shape.sector ≡ 512) ⊎ (h.shape.sector ≡ 4096)
header_sector h ok = sector_is h.shape (member_shape h ok)

pub header_long : (h : Header) → IsTrue (is_header h) → 128 ≤ h.shape.dir_blocks
header_long h ok = many_blocks h.shape (member_shape h ok)
