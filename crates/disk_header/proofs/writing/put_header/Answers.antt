use Rattle.std.proofs.Common.{subst, arith}
use Rattle.asm_formats.specs.Header.{Header, header_fields}
use Rattle.asm_base.specs.Cursors.{PutsField}
use Rattle.asm_base.proofs.FieldLaws.{then_puts}
use Rattle.disk_header.proofs.Laws.{has_room_inside}
use Rattle.disk_header.proofs.writing.put_header.Goals as goal

pub put_name-requires-clause-fits : goal.put_name-requires-clause-fits
put_name-requires-clause-fits c = (has_room_inside c.header.view_is c.requires.right).group

pub put_name-requires-2-clause-fits : goal.put_name-requires-2-clause-fits
put_name-requires-2-clause-fits c = (has_room_inside c.header.view_is c.requires.right).disk

pub put_name-requires-3-clause-fits : goal.put_name-requires-3-clause-fits
put_name-requires-3-clause-fits c = (has_room_inside c.header.view_is c.requires.right).failgroup

pub overflow_cast-header-inside : goal.overflow_cast-header-inside
overflow_cast-header-inside c = omega (arith, (has_room_inside c.header.view_is c.requires.right).sector)

pub overflow_cast-header-inside-2 : goal.overflow_cast-header-inside-2
overflow_cast-header-inside-2 c = omega (arith, (has_room_inside c.header.view_is c.requires.right).step)

pub overflow_cast-header-inside-3 : goal.overflow_cast-header-inside-3
overflow_cast-header-inside-3 c = omega (arith, (has_room_inside c.header.view_is c.requires.right).dir_blocks)

pub returns-clause-puts : goal.returns-clause-puts
unfolding header_fields
returns-clause-puts c =
    subst (λ (h : Header). PutsField c.args.to.now c.put_u16-3.new.to (header_fields h)) c.header.view_is
    (then_puts c.put_bytes.ensures.puts (then_puts c.put_name.ensures.puts (then_puts c.put_u64.ensures.puts (then_puts c.put_u8.ensures.puts (then_puts c.put_u64-2.ensures.puts (then_puts c.put_kind.ensures.puts
    (then_puts c.put_name-2.ensures.puts (then_puts c.put_name-3.ensures.puts (then_puts c.put_flag.ensures.puts (then_puts c.put_u32.ensures.puts (then_puts c.put_u16.ensures.puts (then_puts c.put_u16-2.ensures.puts c.put_u16-3.ensures.puts))))))))))))
