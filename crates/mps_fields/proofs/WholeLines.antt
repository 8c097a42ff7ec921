-- A line at a place of a text, by where the next one begins.
use Rattle.std.proofs.Common.{◌≡◌, ◌≢◌, ℕ, ◌+◌, ◌-◌, ◌<◌, ◌≤◌, min, eqb, true, false, List, length, get_or, drop, sym, ap, ◌∙◌, inl, inr, arith, length-take, length-drop}
use Rattle.std.specs.List.{position_or_len}
use Rattle.std.proofs.lemmas.Bool.{cases_lt, eqb-true, eq-eqb}
use Rattle.std.proofs.lemmas.List.{get_or-drop}
use Rattle.std.proofs.lemmas.List.Sums.{fails_before_first, passes_at_first, prefix_len-le-length}
use Rattle.mps_tokens.specs.Lines.{is_line_feed}
use Rattle.mps_fields.specs.Lines.{raw_at}

module _ (text : List ℕ) (from next : ℕ) (lt : from < length text) (next_is : next ≡ min (from + position_or_len is_line_feed (drop from text) + 1) (length text)) where
  abbrev feed : ℕ
  feed = position_or_len is_line_feed (drop from text)

  feed_within : feed ≤ length (drop from text)
  feed_within = prefix_len-le-length _ (drop from text)

  pub raw_length : length (raw_at text from) ≡ feed
  raw_length = omega (arith, length-take feed (drop from text), feed_within)

  at_feed : feed < length (drop from text) → get_or text (from + feed) 0 ≡ 10
  at_feed below = sym (get_or-drop from text feed 0) ∙ eqb-true _ 10 (passes_at_first is_line_feed (drop from text) 0 below)

  before_feed : (k : ℕ) → k < feed → get_or text (from + k) 0 ≢ 10
  before_feed k below e =
      let fails : eqb (get_or (drop from text) k 0) 10 ≡ false = fails_before_first is_line_feed (drop from text) k 0 below in
      let holds : eqb (get_or (drop from text) k 0) 10 ≡ true = eq-eqb (get_or (drop from text) k 0) 10 (get_or-drop from text k 0 ∙ e) in
      absurd cc

  -- with a line feed in front of the next line
  pub ends_at_feed : get_or text (next - 1) 0 ≡ 10 → next - 1 ≡ from + length (raw_at text from)
  ends_at_feed e =
      elim (cases_lt feed (length (drop from text))) [
        | inl below ↦ omega (arith, raw_length, length-drop from text, next_is, below)
        | inr le ↦
            let last : next - 1 ≡ from + (feed - 1) = omega (arith, length-drop from text, next_is, feed_within, le, lt) in
            let other = before_feed (feed - 1) (omega (arith, length-drop from text, feed_within, le, lt)) in
            absurd (other (ap (λ (k : ℕ). get_or text k 0) (sym last) ∙ e))
      ]

  -- with none, at the end of the text
  pub ends_at_end : get_or text (next - 1) 0 ≢ 10 → next ≡ from + length (raw_at text from)
  ends_at_end ne =
      elim (cases_lt feed (length (drop from text))) [
        | inl below ↦
            let last : next - 1 ≡ from + feed = omega (arith, length-drop from text, next_is, below) in
            absurd (ne (ap (λ (k : ℕ). get_or text k 0) last ∙ at_feed below))
        | inr le ↦ omega (arith, raw_length, length-drop from text, next_is, feed_within, le)
      ]
