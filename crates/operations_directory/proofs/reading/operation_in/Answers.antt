use Rattle.operations_directory.proofs.Values.{operation_is_read}
use Rattle.operations_directory.proofs.reading.operation_in.Goals as goal

pub returns : goal.returns
returns c = operation_is_read c.key.inside.kind c.key.inside.a c.key.inside.b c.args.key c.key.view_is c.requires.kind c.args.bytes.now c.read_operation.result c.read_operation.ensures
