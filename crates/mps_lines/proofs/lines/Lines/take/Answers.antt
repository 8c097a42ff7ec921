use Rattle.std.proofs.Common.{◌≡◌, ℕ, List, subst}
use Rattle.mps_tokens.specs.Lines.{without_return}
use Rattle.mps_grammar.specs.Faults.{is_beyond}
use Rattle.mps_notes.specs.declared.notes.Notes.{Notes}
use Rattle.mps_lines.specs.Steps.{TakesLine}
use Rattle.mps_lines.proofs.lines.Lines.take.Goals as goal

pub returns : goal.returns
returns c =
    let P : Notes → Type 0 = λ n. (at : ℕ) (raw : List ℕ) → c.args.line.now ≡ without_return raw → c.args.beyond ≡ is_beyond at raw → TakesLine n at raw c.take_line.new.notes c.take_line.result in
    subst P c.self.view_is c.take_line.ensures
