use Rattle.std.proofs.Common.{sym}
use Rattle.mps_fields.proofs.Words.{words_of}
use Rattle.mps_lines.proofs.taking.take_shown.Goals as goal

pub take_content-requires-clause-words : goal.take_content-requires-clause-words
take_content-requires-clause-words c = rw c.of-fields.ensures (words_of c.args.line.now (sym c.if-not-is_plain.ensures))
