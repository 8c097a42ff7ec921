use Rattle.std.proofs.Common.{◌≡◌, drop}
use Rattle.mps_tokens.specs.Cases.{entries_of, named}
use Rattle.mps_tokens.proofs.table.find.Given as goal

abbrev pub invariant-loop-case : goal.invariant-loop-case
invariant-loop-case g l = named (entries_of (drop l.case-index l.table)) l.word ≡ named (entries_of l.table) l.word
