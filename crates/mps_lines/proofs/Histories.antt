-- The lines that were read of a text, and those that follow.
use Rattle.std.proofs.Common.{◌≡◌, ℕ, suc, ◌+◌, ◌<◌, ◌≤◌, min, Bool, true, false, cond, List, [], ◌∷◌, length, drop, Option, Some, None, Result, Ok, Err, refl, sym, ap, subst, ◌∙◌, arith, length-drop}
use Rattle.std.specs.List.{position_or_len}
use Rattle.std.proofs.lemmas.List.{drop_all, drop-drop, drop_min}
use Rattle.mps_tokens.specs.Lines.{is_line_feed, raw_lines, without_return}
use Rattle.mps_tokens.proofs.FirstLine.{raw_lines_first}
use Rattle.mps_grammar.specs.declared.kinds.FaultKind.{FaultKind}
use Rattle.mps_grammar.specs.declared.kinds.FaultKind.TheVariants as kinds
use Rattle.mps_grammar.specs.Lines.{is_passed}
use Rattle.mps_grammar.specs.Told.{Told, told_by}
use Rattle.mps_grammar.specs.After.{told_after}
use Rattle.mps_grammar.specs.Faults.{line_fault}
use Rattle.mps_grammar.specs.Verdict.{Fault, ends, unless, verdict, verdict_of}
use Rattle.mps_grammar.specs.Reading.{Spot, told_of, told_verdict, first_shown, rest_of}
use Rattle.mps_grammar.proofs.After.{told_line}
use Rattle.mps_fields.specs.declared.lines.Whole.{Whole}
use Rattle.mps_notes.specs.declared.notes.Notes.{Notes}
use Rattle.mps_sections.specs.declared.stop.LineStop.{LineStop}
use Rattle.mps_sections.specs.declared.stop.LineStop.TheVariants as line_stops
use Rattle.mps_notes.specs.Notes.{told_in, IsSound}
use Rattle.mps_fields.specs.Lines.{raw_at, IsWhole}
use Rattle.mps_lines.specs.Reading.{read_stop, TellsNotes}
use Rattle.mps_notes.specs.Notes.{Holds}
use Rattle.mps_lines.specs.Steps.{TakesLine}
use Rattle.mps_fields.proofs.WholeLines.{raw_length}

-- ---- the lines from a place on

pub raw_turn : (text : List ℕ) (from next : ℕ) → from < length text → next ≡ min (from + length (raw_at text from) + 1) (length text) → raw_lines (drop from text) ≡ raw_at text from ∷ raw_lines (drop next text)
raw_turn text from next lt next_is =
    let n = position_or_len is_line_feed (drop from text) in
    let some : 0 < length (drop from text) = omega (arith, length-drop from text) in
    let size : length (raw_at text from) ≡ n = raw_length text from _ lt refl in
    let e : from + (n + 1) ≡ from + length (raw_at text from) + 1 = omega (arith, size) in
    let rest : drop (n + 1) (drop from text) ≡ drop next text =
    drop-drop (n + 1) from text ∙ ap (λ (m : ℕ). drop m text) e ∙ sym (drop_min (from + length (raw_at text from) + 1) text) ∙ ap (λ (m : ℕ). drop m text) (sym next_is) in
    raw_lines_first (drop from text) some ∙ rw rest refl

pub no_lines : (text : List ℕ) (at : ℕ) → length text ≤ at → raw_lines (drop at text) ≡ []
no_lines text at le = rw (drop_all at text le) refl

-- ---- what was read

-- the lines before a place with the last one first, how many bytes they and their line feeds have, and what is kept of them
pub record IsRead (text : List ℕ) (at : ℕ) (n : Notes) : Type 0 where
  pub earlier : List (List ℕ)
  pub count : ℕ
  pub place : at ≡ min count (length text)
  pub few : length earlier ≤ at
  pub holds : Holds (told_by earlier) n
  pub goes_on : verdict count earlier (raw_lines (drop at text)) ≡ verdict_of text

pub begins : (text : List ℕ) (n : Notes) → told_in n ≡ told_by [] → IsSound n → IsRead text 0 n
begins text n told sound = record {
  earlier = [];
  count = 0;
  place = omega arith;
  few = omega arith;
  holds = record { told_is = told; sound = sound };
  goes_on = refl;
}

module _ (text : List ℕ) (at : ℕ) (n : Notes) (read : IsRead text at n) where
  pub read_lines : n.lines ≡ length read.earlier
  read_lines = ap (λ t. t.lines) read.holds.told_is

  -- no line is left
  pub no_end : length text ≤ at → told_of text ≡ Err (n.lines + 1, kinds.NoEnd)
  no_end le =
      let none = no_lines text at le in
      let end : verdict_of text ≡ Err (length read.earlier + 1, kinds.NoEnd) = sym read.goes_on ∙ rw none refl in
      ap (told_verdict text) end ∙ rw read_lines refl

  module _ (whole : Whole) (lt : at < length text) (is_whole : IsWhole text at whole) where
    abbrev raw : List ℕ
    raw = raw_at text at

    abbrev line : List ℕ
    line = without_return raw

    count_is : read.count ≡ at
    count_is = omega (arith, read.place, lt)

    abbrev turned : ℕ → Result (List (List ℕ) × ℕ) Fault
    turned count =
        unless (line_fault (told_by read.earlier) count raw) (length read.earlier + 1)
        (cond (ends line) (Ok (line ∷ read.earlier, count + length raw + 1)) (verdict (count + length raw + 1) (line ∷ read.earlier) (raw_lines (drop whole.line.next text))))

    turn : turned at ≡ verdict_of text
    turn = ap turned (sym count_is) ∙ ap (verdict read.count read.earlier) (sym (raw_turn text at whole.line.next lt is_whole.next)) ∙ read.goes_on

    fault_is : line_fault (told_in n) at raw ≡ line_fault (told_by read.earlier) at raw
    fault_is = ap (λ told. line_fault told at raw) read.holds.told_is

    -- a line with a fault
    pub line_fails : (new : Notes) (kind : FaultKind) → TakesLine n at raw new (Err (line_stops.Fault kind)) → told_of text ≡ Err (n.lines + 1, kind)
    line_fails new kind t =
        let fault : line_fault (told_by read.earlier) at raw ≡ Some kind = sym fault_is ∙ t in
        let end : verdict_of text ≡ Err (length read.earlier + 1, kind) = sym turn ∙ rw fault refl in
        ap (told_verdict text) end ∙ rw read_lines refl

    module _ (new : Notes) (ended : Bool) (takes : TakesLine n at raw new (Ok ended)) where
      no_fault : line_fault (told_by read.earlier) at raw ≡ None
      no_fault = sym fault_is ∙ takes.0

      told_more : told_after (told_in n) line ≡ told_by (line ∷ read.earlier)
      told_more = ap (λ told. told_after told line) read.holds.told_is ∙ sym (told_line read.earlier line)

      pub now : Holds (told_by (line ∷ read.earlier)) new
      now = let P : Told → Type 0 = λ told. Holds told new in subst P told_more takes.1.0

      pub now_lines : new.lines ≡ length read.earlier + 1
      now_lines = let e : new.lines ≡ suc (length read.earlier) = ap (λ t. t.lines) now.told_is in omega (arith, e)

      -- one that doesn't end the program
      pub goes : ended ≡ false → IsRead text whole.line.next new
      goes e =
          let last : ends line ≡ false = sym takes.1.1 ∙ e in
          record {
            earlier = line ∷ read.earlier;
            count = at + length raw + 1;
            place = is_whole.next;
            few = omega (arith, read.few, is_whole.moves);
            holds = now;
            goes_on = sym (rw (no_fault, last) refl) ∙ turn;
          }

      -- ENDATA
      pub stops : ended ≡ true → told_of text ≡ Ok (told_by (line ∷ read.earlier), (whole.line.next, new.lines + 1))
      stops e =
          let last : ends line ≡ true = sym takes.1.1 ∙ e in
          let end : verdict_of text ≡ Ok (line ∷ read.earlier, at + length raw + 1) = sym turn ∙ rw (no_fault, last) refl in
          let count : suc (length read.earlier) + 1 ≡ new.lines + 1 = omega (arith, now_lines) in
          ap (told_verdict text) end ∙ ap (λ (k : ℕ). Ok (told_by (line ∷ read.earlier), (min (at + length raw + 1) (length text), k))) count ∙ rw is_whole.next refl

-- ---- the answer

pub fails : (text : List ℕ) (new : Notes) (number : ℕ) (stop : LineStop) → ((kind : FaultKind) → stop ≡ line_stops.Fault kind → told_of text ≡ Err (number, kind)) → TellsNotes (told_of text) new (Err (read_stop number stop))
fails text new number line_stops.Memory h = tt
fails text new number (line_stops.Fault kind) h = h kind refl

-- ---- the first line that is neither blank nor a comment

pub record IsPassed (text : List ℕ) (first : Spot) (at line : ℕ) : Type 0 where
  pub count : ℕ
  pub place : at ≡ min count (length text)
  pub few : line + first.0 ≤ first.1 + at
  pub goes_on : first_shown count line (raw_lines (drop at text)) ≡ rest_of text first

pub passes_none : (text : List ℕ) (first : Spot) → first.0 ≤ length text → IsPassed text first first.0 first.1
passes_none text first le = record { count = first.0; place = omega arith; few = omega arith; goes_on = refl }

module _ (text : List ℕ) (first : Spot) (at line : ℕ) (passed : IsPassed text first at line) where
  module _ (whole : Whole) (lt : at < length text) (is_whole : IsWhole text at whole) where
    at_is : passed.count ≡ at
    at_is = omega (arith, passed.place, lt)

    abbrev shown : ℕ → Option Spot
    shown count = cond (is_passed (without_return (raw_at text at))) (first_shown (count + length (raw_at text at) + 1) (line + 1) (raw_lines (drop whole.line.next text))) (Some (count, line))

    shown_is : shown at ≡ rest_of text first
    shown_is = ap shown (sym at_is) ∙ ap (first_shown passed.count line) (sym (raw_turn text at whole.line.next lt is_whole.next)) ∙ passed.goes_on

    pub is_shown : is_passed (without_return (raw_at text at)) ≡ false → Some (at, line) ≡ rest_of text first
    is_shown e = sym (rw e refl) ∙ shown_is

    pub passes : is_passed (without_return (raw_at text at)) ≡ true → IsPassed text first whole.line.next (line + 1)
    passes e = record {
      count = at + length (raw_at text at) + 1;
      place = is_whole.next;
      few = omega (arith, passed.few, is_whole.moves);
      goes_on = sym (rw e refl) ∙ shown_is;
    }
