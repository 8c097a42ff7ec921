-- The printed word of each kind of fault.
use Rattle.std.specs.Prelude.{ℕ, List, codes}
use Rattle.mps_grammar.specs.declared.kinds.FaultKind.{FaultKind}
use Rattle.mps_grammar.specs.declared.kinds.FaultKind.TheVariants as kinds

abbrev pub word_of : FaultKind → List ℕ
word_of kinds.TextLong = codes "TextLong"
word_of kinds.NotAscii = codes "NotAscii"
word_of kinds.UnknownSection = codes "UnknownSection"
word_of kinds.MaxSense = codes "MaxSense"
word_of kinds.SectionOrder = codes "SectionOrder"
word_of kinds.NoObjective = codes "NoObjective"
word_of kinds.RowKind = codes "RowKind"
word_of kinds.BoundKind = codes "BoundKind"
word_of kinds.Fields = codes "Fields"
word_of kinds.Marker = codes "Marker"
word_of kinds.NameLong = codes "NameLong"
word_of kinds.NameUnknown = codes "NameUnknown"
word_of kinds.NumberText = codes "NumberText"
word_of kinds.NumberPast = codes "NumberPast"
word_of kinds.NameTwice = codes "NameTwice"
word_of kinds.EntryTwice = codes "EntryTwice"
word_of kinds.TooMany = codes "TooMany"
word_of kinds.NoEnd = codes "NoEnd"
word_of kinds.RangePast = codes "RangePast"
word_of kinds.NotSymmetric = codes "NotSymmetric"
