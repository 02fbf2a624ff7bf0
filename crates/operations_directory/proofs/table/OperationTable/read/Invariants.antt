use Rattle.std.proofs.Common.{◌≡◌}
use Rattle.asm_base.specs.Records.{read_from}
use Rattle.operations_directory.specs.Operations.{is_operation, nothing_begun}
use Rattle.operations_directory.specs.Readings.{add_operation_record}
use Rattle.operations_directory.proofs.table.OperationTable.read.Given as goal

abbrev pub invariant-loop-key : goal.invariant-loop-key
invariant-loop-key l = read_from is_operation add_operation_record l.table l.key-iterator ≡ read_from is_operation add_operation_record nothing_begun l.records
