-- The number and the name of each reason, as a refusal line shows them.
-- (The table is this project's own.)
use Rattle.std.specs.Prelude.{ℕ, List, codes}
use Rattle.bridge_io.specs.declared.reason.Reason.{Reason}
use Rattle.bridge_io.specs.declared.reason.Reason.TheVariants.{TooLong, BadByte, BadNumber, Syntax, TooDeep, OtherKind, LeftOut, TwiceNamed, Unknown, Cycle, RenameMissing, RenameOfRenamed, WrongType, NotConstant, ForeignWrite, SyncGlobalWrite, WrittenTwice, Nothing, TooLarge, JsonSyntax, TwiceMember, MissingMember, UnknownMember, WrongShape, OtherFeature, UnboundedVariable, RealVariable, TransientRead, TransientInitial, TransientTwoAutomata, LabelOnEdge, BranchReward, TwoRewardWriters, SharedWrite, BadVector, NoDestination, RepeatedAutomaton, PropertyLeftOut, RowSyntax, TwoInits}

-- its number
abbrev pub number_of : Reason → ℕ
number_of TooLong = 1
number_of BadByte = 2
number_of BadNumber = 3
number_of Syntax = 4
number_of TooDeep = 5
number_of OtherKind = 6
number_of LeftOut = 7
number_of TwiceNamed = 8
number_of Unknown = 9
number_of Cycle = 10
number_of RenameMissing = 11
number_of RenameOfRenamed = 12
number_of WrongType = 13
number_of NotConstant = 14
number_of ForeignWrite = 15
number_of SyncGlobalWrite = 16
number_of WrittenTwice = 17
number_of Nothing = 18
number_of TooLarge = 19
number_of JsonSyntax = 20
number_of TwiceMember = 21
number_of MissingMember = 22
number_of UnknownMember = 23
number_of WrongShape = 24
number_of OtherFeature = 25
number_of UnboundedVariable = 26
number_of RealVariable = 27
number_of TransientRead = 28
number_of TransientInitial = 29
number_of TransientTwoAutomata = 30
number_of LabelOnEdge = 31
number_of BranchReward = 32
number_of TwoRewardWriters = 33
number_of SharedWrite = 34
number_of BadVector = 35
number_of NoDestination = 38
number_of RepeatedAutomaton = 39
number_of PropertyLeftOut = 40
number_of RowSyntax = 41
number_of TwoInits = 43

-- its name
abbrev pub name_of : Reason → List ℕ
name_of TooLong = codes "TooLong"
name_of BadByte = codes "BadByte"
name_of BadNumber = codes "BadNumber"
name_of Syntax = codes "Syntax"
name_of TooDeep = codes "TooDeep"
name_of OtherKind = codes "OtherKind"
name_of LeftOut = codes "LeftOut"
name_of TwiceNamed = codes "TwiceNamed"
name_of Unknown = codes "Unknown"
name_of Cycle = codes "Cycle"
name_of RenameMissing = codes "RenameMissing"
name_of RenameOfRenamed = codes "RenameOfRenamed"
name_of WrongType = codes "WrongType"
name_of NotConstant = codes "NotConstant"
name_of ForeignWrite = codes "ForeignWrite"
name_of SyncGlobalWrite = codes "SyncGlobalWrite"
name_of WrittenTwice = codes "WrittenTwice"
name_of Nothing = codes "Nothing"
name_of TooLarge = codes "TooLarge"
name_of JsonSyntax = codes "JsonSyntax"
name_of TwiceMember = codes "TwiceMember"
name_of MissingMember = codes "MissingMember"
name_of UnknownMember = codes "UnknownMember"
name_of WrongShape = codes "WrongShape"
name_of OtherFeature = codes "OtherFeature"
name_of UnboundedVariable = codes "UnboundedVariable"
name_of RealVariable = codes "RealVariable"
name_of TransientRead = codes "TransientRead"
name_of TransientInitial = codes "TransientInitial"
name_of TransientTwoAutomata = codes "TransientTwoAutomata"
name_of LabelOnEdge = codes "LabelOnEdge"
name_of BranchReward = codes "BranchReward"
name_of TwoRewardWriters = codes "TwoRewardWriters"
name_of SharedWrite = codes "SharedWrite"
name_of BadVector = codes "BadVector"
name_of NoDestination = codes "NoDestination"
name_of RepeatedAutomaton = codes "RepeatedAutomaton"
name_of PropertyLeftOut = codes "PropertyLeftOut"
name_of RowSyntax = codes "RowSyntax"
name_of TwoInits = codes "TwoInits"
