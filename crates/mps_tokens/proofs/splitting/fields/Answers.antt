use Rattle.std.proofs.Common.{◌≡◌, ◌⊎◌, length, [], take, drop, map, inl, inr, ◌∙◌, arith}
use Rattle.std.proofs.lemmas.List.{length-map, length-set, length-take-le}
use Rattle.mps_tokens.specs.FieldsOf.{fields_of, span_of}
use Rattle.mps_tokens.proofs.FirstField.{spans_more, fields_end, spans_done, within_more}
use Rattle.mps_tokens.proofs.splitting.fields.Goals as goal
use Rattle.mps_tokens.proofs.splitting.fields.Goals.{else-loop-count-test, then-loop-count-test+then-begin-line}

pub loop-count-preserved : goal.loop-count-preserved
loop-count-preserved c =
    let i = c.loop-count.invariant in (
      omega arith,
      c.field_end-at.ensures.within,
      length-set c.loop-count.spans c.loop-count.count _ ∙ i.2,
      spans_more c.args.line.now c.loop-count.spans c.loop-count.count c.loop-count.at _ _ (omega arith) c.field_begin-begin.ensures.place c.field_end-at.ensures.place (omega arith) i.3,
      within_more c.args.line.now c.loop-count.spans c.loop-count.count _ _ (omega arith) (omega arith) c.field_end-at.ensures.within i.4,
    )

pub returns-clause-spans : goal.returns-clause-spans
returns-clause-spans c =
    let i = c.loop-count.invariant in
    let line = c.args.line.now in
    let found = map (span_of line) (take c.loop-count.count c.loop-count.spans) in
    let size : length found ≡ c.loop-count.count = length-map (take c.loop-count.count c.loop-count.spans) (span_of line) ∙ length-take-le c.loop-count.count c.loop-count.spans (omega arith) in
    let why : (c.loop-count.count ≡ 6) ⊎ (fields_of (drop c.loop-count.at line) ≡ []) =
    elim c.loop-count-test.branch [
      | else-loop-count-test w ↦ inl (omega arith)
      | then-loop-count-test+then-begin-line w ↦ inr (fields_end line c.loop-count.at _ w.field_begin-begin.ensures.place w.if-begin-line.true)
    ] in
    (spans_done found (fields_of (drop c.loop-count.at line)) (fields_of line) c.loop-count.count i.3 size i.0 why).0

pub returns-clause-count : goal.returns-clause-count
returns-clause-count c =
    let i = c.loop-count.invariant in
    let line = c.args.line.now in
    let found = map (span_of line) (take c.loop-count.count c.loop-count.spans) in
    let size : length found ≡ c.loop-count.count = length-map (take c.loop-count.count c.loop-count.spans) (span_of line) ∙ length-take-le c.loop-count.count c.loop-count.spans (omega arith) in
    let why : (c.loop-count.count ≡ 6) ⊎ (fields_of (drop c.loop-count.at line) ≡ []) =
    elim c.loop-count-test.branch [
      | else-loop-count-test w ↦ inl (omega arith)
      | then-loop-count-test+then-begin-line w ↦ inr (fields_end line c.loop-count.at _ w.field_begin-begin.ensures.place w.if-begin-line.true)
    ] in
    (spans_done found (fields_of (drop c.loop-count.at line)) (fields_of line) c.loop-count.count i.3 size i.0 why).1
