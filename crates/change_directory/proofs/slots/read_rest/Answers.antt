use Rattle.std.proofs.Common.{◌≡◌, ◌+◌, ◌≤◌, Some, length, map, ap, ◌∙◌, arith, ℕ, List}
use Rattle.asm_base.specs.declared.block.Block.{Block}
use Rattle.asm_formats.specs.Logs.{decoded_log_head}
use Rattle.asm_base.specs.Blocks.{image_of_page}
use Rattle.change_directory.specs.Slots.{bad_image}
use Rattle.change_directory.proofs.HeadLaws.{pages_of}
use Rattle.change_directory.proofs.Orders.{rest_is_sound}
use Rattle.change_directory.proofs.Runs.{has_size}
use Rattle.change_directory.proofs.SlotLaws.{rest_read}
use Rattle.change_directory.proofs.Works.{not_err}
use Rattle.change_directory.proofs.slots.read_rest.Goals as goal

pub returns : goal.returns
returns g c =
    let sound = g.met.B.Bay.sound c.args.bay.now in
    let few : length c.deref.result.now ≤ 64 = omega (arith, (rw c.in-Some.is at c.in_ok-pages.ensures.few), c.deref.ensures.len) in
    let decoded : Some c.deref.result.now ≡ pages_of (decoded_log_head c.args.copy.dir_blocks c.args.head.now) =
    ap Some c.deref.ensures.value ∙ (rw c.in-Some.is at c.in_ok-pages.ensures.pages) in
    record {
      reads = c.read_images.ensures.reads;
      done = record {
        is = λ now holds image was.
            rest_read c.args.copy c.requires.copy.least c.args.log image (has_size sound c.requires.copy image (sound.held image was)) c.args.head.now c.deref.result.now _ few decoded
            c.gate_block-gate.ensures c.head_number-number.ensures (c.in_ok-images.ensures.done.are now holds image was)
            (c.first_bad-damage.ensures ∙ (λ j. bad_image (c.gate_block-gate.ensures j + 2) (map image_of_page (c.deref-2.ensures.value j))));
        sound = rest_is_sound (c.gate_block-gate.result + 2) _ _ (c.first_bad-damage.ensures ∙ ap (λ (l : List (ℕ × Block)). bad_image (c.gate_block-gate.result + 2) (map image_of_page l)) c.deref-2.ensures.value);
      };
      refusal = tt;
      cause = not_err;
    }
