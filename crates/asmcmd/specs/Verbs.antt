-- What the program's verbs ask for.
use Rattle.asm_world.specs.Command as c
use Rattle.asmcmd.specs.declared.verb.Verb.{Verb}
use Rattle.asmcmd.specs.declared.verb.Verb.TheVariants.{DbCreate, DbWrite, DbFill, DbRead, DbResize, Ls, Cd, Pwd, MakeDir, Remove, Copy, Usage, Find, MakeAlias, RemoveAlias, ListGroups, ListDisks, ListTemplates, ListAttributes, OfflineDisk, OnlineDisk, SetPower}

-- the verb of the definitions that a verb of the program is
abbrev pub meant_verb : Verb → c.Verb
meant_verb (DbCreate path size template) = c.DbCreate path size template
meant_verb (DbWrite path at bytes) = c.DbWrite path at bytes
meant_verb (DbFill path at size byte) = c.DbFill path at size byte
meant_verb (DbRead path at size) = c.DbRead path at size
meant_verb (DbResize path size) = c.DbResize path size
meant_verb (Ls long path) = c.Ls long path
meant_verb (Cd path) = c.Cd path
meant_verb Pwd = c.Pwd
meant_verb (MakeDir path) = c.MakeDirectory path
meant_verb (Remove path) = c.Remove path
meant_verb (Copy source target) = c.CopyFile source target
meant_verb (Usage path) = c.Usage path
meant_verb (Find path pattern) = c.Find path pattern
meant_verb (MakeAlias path alias) = c.MakeAlias path alias
meant_verb (RemoveAlias path) = c.RemoveAlias path
meant_verb (ListGroups group) = c.ListGroups group
meant_verb (ListDisks group) = c.ListDisks group
meant_verb (ListTemplates group) = c.ListTemplates group
meant_verb (ListAttributes group) = c.ListAttributes group
meant_verb (OfflineDisk group disk) = c.OfflineDisk group disk
meant_verb (OnlineDisk group disk) = c.OnlineDisk group disk
meant_verb (SetPower group power) = c.SetPower group power
