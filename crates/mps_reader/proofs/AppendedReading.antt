-- What is read of a text with another behind its last line feed.
use Rattle.std.proofs.Common.{◌≡◌, ℕ, ◌+◌, ◌≤◌, min, Bool, true, false, List, [], ◌∷◌, ◌++◌, length, drop, Option, Some, None, Result, Ok, Err, refl, sym, ap, ap₂, subst, ◌∙◌, arith, if◌then◌else◌, append_assoc, length-append}
use Rattle.std.proofs.lemmas.List.{drop_at}
use Rattle.program_law.specs.Program.{Program}
use Rattle.mps_tokens.specs.Lines.{raw_lines, without_return}
use Rattle.mps_grammar.specs.declared.kinds.FaultKind.{FaultKind}
use Rattle.mps_grammar.specs.Lines.{is_passed}
use Rattle.mps_grammar.specs.Told.{told_by}
use Rattle.mps_grammar.specs.Faults.{line_fault}
use Rattle.mps_grammar.specs.Programs.{program_of, end_fault}
use Rattle.mps_grammar.specs.Verdict.{Fault, ends, unless, verdict, verdict_of}
use Rattle.mps_grammar.specs.Reading.{Spot, behind, told_verdict, finished, read_told, read_of, first_shown, rest_of}
use Rattle.mps_reader.specs.Appended.{EndsInLineFeed, BeginsShown}
use Rattle.mps_reader.proofs.AppendedLines.{sizes, sizes_append, sizes_ended, lines_more, lines_behind}

-- ---- lines up to ENDATA

abbrev pub Verdict : Type 0
Verdict = List (List ℕ) × ℕ

-- Lines up to ENDATA without a fault: those, and others behind them, which don't matter.
record Ends (at : ℕ) (earlier raws : List (List ℕ)) (v : Verdict) : Type 0 where
  front : List (List ℕ)
  after : List (List ℕ)
  raws_are : raws ≡ front ++ after
  place : v.1 ≡ at + sizes front
  count : length v.0 ≡ length earlier + length front
  more : (others : List (List ℕ)) → verdict at earlier (raws ++ others) ≡ Ok v

lines_are : (a b : Verdict) → (let r : Result Verdict Fault = Ok a in r) ≡ Ok b → a ≡ b
lines_are a b e = cc

module _ (at : ℕ) (earlier : List (List ℕ)) (raw : List ℕ) (raws : List (List ℕ)) (v : Verdict) where
  abbrev line : List ℕ
  line = without_return raw

  ends_here : line_fault (told_by earlier) at raw ≡ None → ends line ≡ true → (line ∷ earlier, at + length raw + 1) ≡ v → Ends at earlier (raw ∷ raws) v
  ends_here p q is = subst (λ (w : Verdict). Ends at earlier (raw ∷ raws) w) is (record {
    front = raw ∷ [];
    after = raws;
    raws_are = refl;
    place = omega arith;
    count = omega arith;
    more = λ others. rw (p, q) refl;
  })

  goes_on : line_fault (told_by earlier) at raw ≡ None → ends line ≡ false → Ends (at + length raw + 1) (line ∷ earlier) raws v → Ends at earlier (raw ∷ raws) v
  goes_on p q later = record {
    front = raw ∷ later.front;
    after = later.after;
    raws_are = ap (λ (ls : List (List ℕ)). raw ∷ ls) later.raws_are;
    place = omega (arith, later.place);
    count = omega (arith, later.count);
    more = λ others. rw (p, q) (later.more others);
  }

  by_fault : (o : Option FaultKind) (b : Bool) → line_fault (told_by earlier) at raw ≡ o → ends line ≡ b
      → unless o (length earlier + 1) (if b then Ok (line ∷ earlier, at + length raw + 1) else verdict (at + length raw + 1) (line ∷ earlier) raws) ≡ Ok v
      → (verdict (at + length raw + 1) (line ∷ earlier) raws ≡ Ok v → Ends (at + length raw + 1) (line ∷ earlier) raws v) → Ends at earlier (raw ∷ raws) v
  by_fault (Some kind) b p q e later = absurd cc
  by_fault None true p q e later = ends_here p q (lines_are (line ∷ earlier, at + length raw + 1) v e)
  by_fault None false p q e later = goes_on p q (later e)

verdict_ends : (raws : List (List ℕ)) (at : ℕ) (earlier : List (List ℕ)) (v : Verdict) → verdict at earlier raws ≡ Ok v → Ends at earlier raws v
verdict_ends [] at earlier v e = absurd cc
verdict_ends (raw ∷ raws) at earlier v e =
    by_fault at earlier raw raws v (line_fault (told_by earlier) at raw) (ends (without_return raw)) refl refl e (λ later. verdict_ends raws (at + length raw + 1) (without_return raw ∷ earlier) v later)

-- ---- a program

-- what is told of the lines up to ENDATA, where it makes a program
pub record Stands (text : List ℕ) (p : Program) (spot : Spot) : Type 0 where
  pub lines : Verdict
  pub verdict_is : verdict_of text ≡ Ok lines
  pub spot_is : spot ≡ behind text lines
  pub none : end_fault (told_by lines.0) ≡ None
  pub program : p ≡ program_of (told_by lines.0)

pub stands : (text : List ℕ) (p : Program) (spot : Spot) → read_of text ≡ Ok (p, spot) → Stands text p spot
stands text p spot e = by_verdict (verdict_of text) refl e
  where
    pair_is : (a b : Program × Spot) → (let r : Result (Program × Spot) Fault = Ok a in r) ≡ Ok b → a ≡ b
    pair_is a b e = cc

    by_end : (v : Verdict) (o : Option Fault) → verdict_of text ≡ Ok v → end_fault (told_by v.0) ≡ o → finished (told_by v.0) (behind text v) o ≡ Ok (p, spot) → Stands text p spot
    by_end v (Some fault) q f e = absurd cc
    by_end v None q f e =
        let is : (program_of (told_by v.0), behind text v) ≡ (p, spot) = pair_is (program_of (told_by v.0), behind text v) (p, spot) e in
        record { lines = v; verdict_is = q; spot_is = sym (ap (λ (x : Program × Spot). x.1) is); none = f; program = sym (ap (λ (x : Program × Spot). x.0) is) }

    by_verdict : (r : Result Verdict Fault) → verdict_of text ≡ r → read_told (told_verdict text r) ≡ Ok (p, spot) → Stands text p spot
    by_verdict (Err fault) q e = absurd cc
    by_verdict (Ok v) q e = by_end v (end_fault (told_by v.0)) q refl e

reads : (text : List ℕ) (p : Program) (spot : Spot) → Stands text p spot → read_of text ≡ Ok (p, spot)
reads text p spot h =
    ap (λ (r : Result Verdict Fault). read_told (told_verdict text r)) h.verdict_is
    ∙ ap (finished (told_by h.lines.0) (behind text h.lines)) h.none
    ∙ rw (h.program, h.spot_is) refl

-- the lines end within the text
within : (text : List ℕ) (v : Verdict) → EndsInLineFeed text → Ends 0 [] (raw_lines text) v → v.1 ≤ length text
within text v feed h =
    let size : sizes h.front + sizes h.after ≡ length text = sym (sizes_append h.front h.after) ∙ ap sizes (sym h.raws_are) ∙ sizes_ended text feed in
    omega (arith, size, h.place)

pub read_more : (text more : List ℕ) (p : Program) (spot : Spot) → EndsInLineFeed text → read_of text ≡ Ok (p, spot) → read_of (text ++ more) ≡ Ok (p, spot)
read_more text more p spot feed e =
    let h = stands text p spot e in
    let lines = verdict_ends (raw_lines text) 0 [] h.lines h.verdict_is in
    let le = within text h.lines feed lines in
    let place : min h.lines.1 (length text) ≡ min h.lines.1 (length (text ++ more)) = omega (arith, length-append text more, le) in
    reads (text ++ more) p spot (record {
      lines = h.lines;
      verdict_is = ap (verdict 0 []) (lines_more text more feed) ∙ lines.more (raw_lines more);
      spot_is = h.spot_is ∙ ap (λ (k : ℕ). (k, length h.lines.0 + 1)) place;
      none = h.none;
      program = h.program;
    })

-- ---- what stands behind it

-- where none of the first lines is shown, the others are looked at
shown_behind : (front after : List (List ℕ)) (at line : ℕ) → first_shown at line front ≡ None → first_shown at line (front ++ after) ≡ first_shown (at + sizes front) (line + length front) after
shown_behind [] after at line e = ap₂ (λ (k l : ℕ). first_shown k l after) (omega arith) (omega arith)
shown_behind (raw ∷ raws) after at line e = by_test (is_passed (without_return raw)) e (shown_behind raws after (at + length raw + 1) (line + 1))
  where
    by_test : (b : Bool) → (if b then first_shown (at + length raw + 1) (line + 1) raws else Some (at, line)) ≡ None
        → (first_shown (at + length raw + 1) (line + 1) raws ≡ None → first_shown (at + length raw + 1) (line + 1) (raws ++ after) ≡ first_shown (at + length raw + 1 + sizes raws) (line + 1 + length raws) after)
        → (if b then first_shown (at + length raw + 1) (line + 1) (raws ++ after) else Some (at, line)) ≡ first_shown (at + sizes (raw ∷ raws)) (line + length (raw ∷ raws)) after
    by_test true e later = later e ∙ ap₂ (λ (k l : ℕ). first_shown k l after) (omega arith) (omega arith)
    by_test false e later = absurd cc

later_line : (raws : List (List ℕ)) (at line : ℕ) (spot : Spot) → first_shown at line raws ≡ Some spot → line ≤ spot.1
later_line [] at line spot e = absurd cc
later_line (raw ∷ raws) at line spot e = by_test (is_passed (without_return raw)) e (later_line raws (at + length raw + 1) (line + 1) spot)
  where
    by_test : (b : Bool) → (if b then first_shown (at + length raw + 1) (line + 1) raws else Some (at, line)) ≡ Some spot → (first_shown (at + length raw + 1) (line + 1) raws ≡ Some spot → line + 1 ≤ spot.1) → line ≤ spot.1
    by_test true e later = omega (arith, later e)
    by_test false e later = let is : (at, line) ≡ spot = cc in subst (λ (s : Spot). line ≤ s.1) is (omega arith)

-- lines that begin with a shown one do so at every place
begins_shown : (raws : List (List ℕ)) (at line : ℕ) → first_shown 0 1 raws ≡ Some (0, 1) → first_shown at line raws ≡ Some (at, line)
begins_shown [] at line e = absurd cc
begins_shown (raw ∷ raws) at line e = by_test (is_passed (without_return raw)) e
  where
    by_test : (b : Bool) → (if b then first_shown (0 + length raw + 1) (1 + 1) raws else Some (0, 1)) ≡ Some (0, 1) → (if b then first_shown (at + length raw + 1) (line + 1) raws else Some (at, line)) ≡ Some (at, line)
    by_test true e = absurd (omega (arith, later_line raws (0 + length raw + 1) (1 + 1) (0, 1) e))
    by_test false e = refl

pub rest_more : (text more : List ℕ) (p : Program) (spot : Spot) → EndsInLineFeed text → read_of text ≡ Ok (p, spot) → rest_of text spot ≡ None → BeginsShown more
    → rest_of (text ++ more) spot ≡ Some (length text, length (raw_lines text) + 1)
rest_more text more p spot feed e none shown =
    let h = stands text p spot e in
    let lines = verdict_ends (raw_lines text) 0 [] h.lines h.verdict_is in
    let le = within text h.lines feed lines in
    let place : spot.0 ≡ sizes lines.front = ap (λ (s : Spot). s.0) h.spot_is ∙ omega (arith, le, lines.place) in
    let number : spot.1 ≡ length lines.front + 1 = ap (λ (s : Spot). s.1) h.spot_is ∙ omega (arith, lines.count) in
    let size : sizes lines.front + sizes lines.after ≡ length text = sym (sizes_append lines.front lines.after) ∙ ap sizes (sym lines.raws_are) ∙ sizes_ended text feed in
    let count : length (raw_lines text) ≡ length lines.front + length lines.after = ap length lines.raws_are ∙ length-append lines.front lines.after in
    let own : raw_lines (drop spot.0 text) ≡ lines.after = ap (λ (k : ℕ). raw_lines (drop k text)) place ∙ lines_behind lines.front lines.after text lines.raws_are in
    let all : raw_lines (text ++ more) ≡ lines.front ++ (lines.after ++ raw_lines more) =
    lines_more text more feed ∙ ap (λ (ls : List (List ℕ)). ls ++ raw_lines more) lines.raws_are ∙ append_assoc lines.front lines.after (raw_lines more) in
    let both : raw_lines (drop spot.0 (text ++ more)) ≡ lines.after ++ raw_lines more = ap (λ (k : ℕ). raw_lines (drop k (text ++ more))) place ∙ lines_behind lines.front (lines.after ++ raw_lines more) (text ++ more) all in
    let passed : first_shown spot.0 spot.1 lines.after ≡ None = ap (first_shown spot.0 spot.1) (sym own) ∙ none in
    let to : spot.0 + sizes lines.after ≡ length text = omega (arith, place, size) in
    let line : spot.1 + length lines.after ≡ length (raw_lines text) + 1 = omega (arith, number, count) in
    ap (first_shown spot.0 spot.1) both ∙ shown_behind lines.after (raw_lines more) spot.0 spot.1 passed ∙ ap₂ (λ (k l : ℕ). first_shown k l (raw_lines more)) to line
    ∙ begins_shown (raw_lines more) (length text) (length (raw_lines text) + 1) shown

pub drop_more : (text more : List ℕ) → drop (length text) (text ++ more) ≡ more
drop_more text more = drop_at text more (length text) refl
