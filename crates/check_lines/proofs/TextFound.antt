-- What is found once all lines of a text are given.
use Rattle.std.specs.Prelude.{◌≡◌, ℕ, ◌+◌, ◌≤◌, suc, zero, List, [], ◌∷◌, length, take, slice_get, Some, Result, Ok, Err}
use Rattle.std.proofs.Common.{refl, sym, ap, ◌∙◌, arith, subst}
use Rattle.program_law.specs.Program.{Program, IsProgram}
use Rattle.program_law.specs.Verdict.{IsTrueOf}
use Rattle.certificate_law.specs.declared.Certificate.{Certificate}
use Rattle.certificate_law.specs.Good.{IsGood, verdict_of}
use Rattle.cert_check_law.specs.declared.Checked.{Checked}
use Rattle.cert_check_law.specs.declared.Checked.TheVariants.{Accepted}
use Rattle.cert_check_law.specs.Check.{checked, answer}
use Rattle.cert_grammar.specs.declared.items.Item.{Item}
use Rattle.cert_grammar.specs.declared.items.Item.TheVariants as items
use Rattle.cert_grammar.specs.declared.kinds.CertStop.{CertStop}
use Rattle.cert_text_law.specs.Reading.{read_of}
use Rattle.cert_text_law.specs.Items.{text_items}
use Rattle.cert_text_law.proofs.Accepts.{read_writable}
use Rattle.cert_text_law.proofs.TextBack.{items_back}
use Rattle.cert_lines.specs.Lines.{Lines}
use Rattle.check_nodes.proofs.Answered.{accepted_is_good, accepted_is_true}
use Rattle.check_progress.specs.Progress.{Progress, start, after, after_all, found}
use Rattle.check_progress.proofs.LineByLine.{line_by_line}
use Rattle.check_lines.specs.Texts.{IsTextAnswer}

-- one line more of a list
pub one_more : (p : Program) (g : Progress) (later : List Item) (n : ℕ) (item : Item) → slice_get later n ≡ Some item
    → after_all p g (take (suc n) later) ≡ after p (after_all p g (take n later)) item
one_more p g [] n item e = absurd cc
one_more p g (first ∷ later) zero item e = ap (after p g) (some_same e)
  where
    some_same : {x y : Item} → Some x ≡ Some y → x ≡ y
    some_same e = cc
one_more p g (first ∷ later) (suc n) item e = one_more p (after p g first) later n item e

all_taken : (p : Program) (g : Progress) (later : List Item) (n : ℕ) → n ≡ length later → after_all p g (take n later) ≡ after_all p g later
all_taken p g later n e = ap (λ k. after_all p g (take k later)) e ∙ ap (after_all p g) (whole later)
  where
    whole : (xs : List Item) → take (length xs) xs ≡ xs
    whole [] = refl
    whole (x ∷ xs) = ap (λ (l : List Item). x ∷ l) (whole xs)

-- at most one node begins with a line
pub few_more : (p : Program) (g : Progress) (item : Item) → (after p g item).node ≤ suc g.node
few_more p g (items.Branch j k) = omega arith
few_more p g items.Bound = omega arith
few_more p g items.Farkas = omega arith
few_more p g (items.Cross j) = omega arith
few_more p g (items.W j v) = omega arith
few_more p g (items.Y j v) = omega arith
few_more p g items.End = omega arith
few_more p g items.Optimal = omega arith
few_more p g items.Infeasible = omega arith
few_more p g items.Unbounded = omega arith
few_more p g items.NotConvex = omega arith
few_more p g (items.Value v) = omega arith
few_more p g (items.Point j v) = omega arith
few_more p g (items.Ray j v) = omega arith
few_more p g (items.Direction j v) = omega arith
few_more p g (items.Square v) = omega arith
few_more p g (items.Coef j v) = omega arith

-- the text says a certificate, and all its lines are given
pub text_found : (p : Program) (line : ℕ) (text : List ℕ) (c : Certificate) (g : Progress) (n : ℕ) → read_of p line text ≡ Ok c → n ≡ length (text_items p text)
    → g ≡ after_all p (start p) (take n (text_items p text)) → found g ≡ checked p c
text_found p line text c g n reads all e =
    ap found (e ∙ all_taken p (start p) (text_items p text) n all ∙ ap (after_all p (start p)) (items_back p line text c reads))
    ∙ line_by_line p c (read_writable p line text c reads).fitting

-- ---- line by line

-- the next line is given, and checked
pub record IsOneMore (p : Program) (line : ℕ) (text : List ℕ) (new : Lines) (g : Progress) : Type 0 where
  pub lines : new ≡ record { program = p; text = text; line = line; given = new.given }
  pub few : g.node ≤ new.given
  pub progress : g ≡ after_all p (start p) (take new.given (text_items p text))

pub goes_on : (p : Program) (line : ℕ) (text : List ℕ) (old new : Lines) (item : Item) (g later : Progress) → old ≡ record { program = p; text = text; line = line; given = old.given }
    → new ≡ record old { given = old.given + 1 } → slice_get (text_items old.program old.text) old.given ≡ Some item → g.node ≤ old.given
    → g ≡ after_all p (start p) (take old.given (text_items p text)) → later ≡ after p g item → IsOneMore p line text new later
goes_on p line text old new item g later same gives there few progress more =
    let next : new.given ≡ suc old.given = omega (arith, ap (λ (l : Lines). l.given) gives) in
    let item_there : slice_get (text_items p text) old.given ≡ Some item = subst (λ (o : Lines). slice_get (text_items o.program o.text) old.given ≡ Some item) same there in
    record {
      lines = gives ∙ ap (λ (o : Lines). record o { given = old.given + 1 }) same ∙ ap (λ (n : ℕ). record { program = p; text = text; line = line; given = n }) (sym (ap (λ (l : Lines). l.given) gives));
      few = omega (arith, next, few, few_more p g item, ap (λ (g : Progress). g.node) more);
      progress = more ∙ ap (λ (g : Progress). after p g item) progress ∙ sym (one_more p (start p) (text_items p text) old.given item item_there) ∙ ap (λ (n : ℕ). after_all p (start p) (take n (text_items p text))) (sym next);
    }

-- nothing is left to give
pub ends : (p : Program) (line : ℕ) (text : List ℕ) (old : Lines) (c : Certificate) (g : Progress) (a : Checked) → old ≡ record { program = p; text = text; line = line; given = old.given }
    → old.given ≡ length (text_items old.program old.text) → read_of old.program old.line old.text ≡ Ok c → g ≡ after_all p (start p) (take old.given (text_items p text)) → a ≡ answer (found g)
    → (x : Certificate) × (read_of p line text ≡ Ok x) × (a ≡ answer (checked p x))
ends p line text old c g a same all reads progress is =
    let read : read_of p line text ≡ Ok c = subst (λ (o : Lines). read_of o.program o.line o.text ≡ Ok c) same reads in
    let whole : old.given ≡ length (text_items p text) = subst (λ (o : Lines). old.given ≡ length (text_items o.program o.text)) same all in
    (c, read, is ∙ ap answer (text_found p line text c g old.given read whole progress))

-- ---- what is accepted

same_answer : (r : Result Checked CertStop) (a b : Checked) → r ≡ Ok a → r ≡ Ok b → a ≡ b
same_answer r a b e f = cc

pub text_accepted : (p : Program) (line : ℕ) (text : List ℕ) (r : Result Checked CertStop) → IsProgram p → IsTextAnswer p (read_of p line text) r → r ≡ Ok Accepted
    → (c : Certificate) × (read_of p line text ≡ Ok c) × IsGood p c × IsTrueOf p (verdict_of c)
text_accepted p line text (Ok a) is h e =
    let fit = (read_writable p line text h.0 h.1).fitting in
    let accepted = sym h.2 ∙ same_answer (Ok a) a Accepted refl e in
    (h.0, h.1, accepted_is_good p h.0 is fit accepted, accepted_is_true p h.0 is fit accepted)
text_accepted p line text (Err stop) is h e = absurd cc
