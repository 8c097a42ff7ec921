-- A line at a place of a text.
use Rattle.std.specs.Prelude.{◌≡◌, ℕ, ◌+◌, ◌<◌, ◌≤◌, List, length, drop, min, slice_range}
use Rattle.std.specs.List.{before_first}
use Rattle.mps_tokens.specs.Lines.{is_line_feed, without_return}
use Rattle.mps_fields.specs.declared.lines.Whole.{Whole}

-- the line at a place of a text, up to its line feed or the end
abbrev pub raw_at : List ℕ → ℕ → List ℕ
raw_at text from = before_first is_line_feed (drop from text)

pub record IsWhole (text : List ℕ) (from : ℕ) (whole : Whole) : Type 0 where
  pub begin : whole.line.begin ≡ from
  pub end : whole.end ≡ from + length (raw_at text from)
  pub next : whole.line.next ≡ min (from + length (raw_at text from) + 1) (length text)
  pub order : (whole.line.begin ≤ whole.line.end) × (whole.line.end ≤ length text)
  pub moves : (from < whole.line.next) × (whole.line.next ≤ length text)
  pub bytes : slice_range text whole.line.begin whole.line.end ≡ without_return (raw_at text from)
