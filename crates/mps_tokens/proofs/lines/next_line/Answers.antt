use Rattle.mps_tokens.proofs.FirstLine.{lines_turn}
use Rattle.mps_tokens.proofs.lines.next_line.Goals as goal

pub returns-clause-first : goal.returns-clause-first
returns-clause-first c = lines_turn c.args.text.now c.args.from _ _ c.requires c.line_at.ensures.bytes c.line_at.ensures.next
