use Rattle.std.proofs.Common.{◌≡◌, ◌≤◌, ◌-◌, length, take}
use Rattle.cert_text_law.specs.Items.{text_items}
use Rattle.check_progress.specs.Progress.{start, after_all}
use Rattle.check_lines.specs.Checks.{progress, IsCheckFor}
use Rattle.check_lines.proofs.texts.text_checked.Given as goal

-- the lines that were given are checked
abbrev pub invariant-lines : goal.invariant-lines
invariant-lines l = record {
  lines : l.lines ≡ record { program = l.p; text = l.text; line = l.line; given = l.lines.given };
  given : l.lines.given ≤ length l.text;
  check : IsCheckFor l.p l.checking;
  few : l.checking.node ≤ l.lines.given;
  progress : progress l.checking ≡ after_all l.p (start l.p) (take l.lines.given (text_items l.p l.text));
}

abbrev pub decreases-lines : goal.decreases-lines
decreases-lines l = length l.text - l.lines.given
