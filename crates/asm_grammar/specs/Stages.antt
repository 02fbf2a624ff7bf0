-- The program's stages as those of the definition.
use Rattle.std.specs.Prelude.{Bool, true, false}
use Rattle.asm_grammar.specs.Argument as a
use Rattle.asm_grammar.specs.declared.arguments.TextKind.{TextKind}
use Rattle.asm_grammar.specs.declared.arguments.TextKind.TheVariants.{Named, Path, PathPattern, NotLong, PartPattern, Outside}
use Rattle.asm_grammar.specs.declared.stage.Parts.{Parts}
use Rattle.asm_grammar.specs.declared.stage.Parts.TheVariants.{Plain, Starred, Single}
use Rattle.asm_grammar.specs.declared.stage.Stage.{Stage}
use Rattle.asm_grammar.specs.declared.stage.Stage.TheVariants.{NameStart, Letters, NumberStart, Digits, SizeStart, SizeDigits, Lettered, PathStart, Plus, GroupName, Slash, Dot, Part, NotLongStart, Dash, DashL, OutsideStart, OutsideDot, OutsidePath, HexStart, Half, Whole}

abbrev pub meant_parts : Parts → a.Parts
meant_parts Plain = a.Plain
meant_parts Starred = a.Starred
meant_parts Single = a.Single

abbrev pub stage_of : Stage → a.Stage
stage_of NameStart = a.NameStart
stage_of (Letters n) = a.Letters n
stage_of NumberStart = a.NumberStart
stage_of (Digits n) = a.Digits n
stage_of SizeStart = a.SizeStart
stage_of (SizeDigits n) = a.SizeDigits n
stage_of (Lettered n) = a.Lettered n
stage_of (PathStart parts) = a.PathStart (meant_parts parts)
stage_of (Plus parts) = a.Plus (meant_parts parts)
stage_of (GroupName parts n) = a.GroupName (meant_parts parts) n
stage_of (Slash parts) = a.Slash (meant_parts parts)
stage_of (Dot parts) = a.Dot (meant_parts parts)
stage_of (Part parts n) = a.Part (meant_parts parts) n
stage_of NotLongStart = a.NotLongStart
stage_of Dash = a.Dash
stage_of DashL = a.DashL
stage_of OutsideStart = a.OutsideStart
stage_of OutsideDot = a.OutsideDot
stage_of OutsidePath = a.OutsidePath
stage_of (HexStart more) = a.HexStart more
stage_of (Half more) = a.Half more
stage_of (Whole more) = a.Whole more

abbrev pub text_kind_of : TextKind → a.TextKind
text_kind_of Named = a.PlainName
text_kind_of Path = a.GroupPath
text_kind_of PathPattern = a.PathPattern
text_kind_of NotLong = a.NotLong
text_kind_of PartPattern = a.PartPattern
text_kind_of Outside = a.HostPath

-- the stages of paths
abbrev pub is_path_stage : a.Stage → Bool
is_path_stage (a.PathStart parts) = true
is_path_stage (a.Plus parts) = true
is_path_stage (a.GroupName parts n) = true
is_path_stage (a.Slash parts) = true
is_path_stage (a.Dot parts) = true
is_path_stage (a.Part parts n) = true
is_path_stage a.NotLongStart = true
is_path_stage a.Dash = true
is_path_stage a.DashL = true
is_path_stage a.OutsideStart = true
is_path_stage a.OutsideDot = true
is_path_stage a.OutsidePath = true
is_path_stage other = false
