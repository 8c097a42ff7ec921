use Rattle.std.proofs.Common.{◌≡◌, ◌-◌, ◌≤◌, length, take}
use Rattle.cert_text_law.specs.Told.{blank}
use Rattle.cert_text_law.specs.Items.{text_items}
use Rattle.cert_text.specs.Drafts.{told}
use Rattle.cert_text_law.proofs.TextsRead.{tell_all}
use Rattle.cert_text_law.proofs.Collected.{claim_behind}
use Rattle.cert_text.proofs.reading.put_lines.Given as goal

abbrev pub invariant-lines : goal.invariant-lines
invariant-lines l =
    (l.lines ≡ record { program = l.p; text = l.text; line = l.fn.line; given = l.lines.given })
    × (l.lines.given ≤ length l.text)
    × (told l.draft ≡ tell_all l.p (blank (length l.p.columns)) (take l.lines.given (text_items l.p l.text)))
    × (l.draft.claim ≡ claim_behind l.fn.draft.claim (take l.lines.given (text_items l.p l.text)))

abbrev pub decreases-lines : goal.decreases-lines
decreases-lines l = length l.text - l.lines.given
