-- The lines of a text, put into a draft one after another.
use Rattle.std.proofs.Common.{◌≡◌, ◌+◌, ℕ, List, length, take, slice_get, Some, None, Ok, sym, ap, ◌∙◌, subst, arith}
use Rattle.std.proofs.lemmas.List.{take_all}
use Rattle.program_law.specs.Program.{Program}
use Rattle.cert_grammar.specs.declared.items.Item.{Item}
use Rattle.cert_grammar.specs.declared.items.Claim.{Claim}
use Rattle.cert_text_law.specs.Told.{Told, blank, certificate_told, IsTreeDue}
use Rattle.cert_text_law.specs.Reading.{read_of}
use Rattle.cert_text_law.specs.Items.{text_items}
use Rattle.cert_lines.specs.Lines.{Lines, Gives}
use Rattle.cert_text_law.proofs.TextsRead.{tell_all}
use Rattle.cert_text_law.proofs.Collected.{claim_behind, IsWhole, collected}

-- a text from its first line, so many items of which are given
abbrev pub given_of : Program → List ℕ → ℕ → ℕ → Lines
given_of p text line given = record { program = p; text = text; line = line; given = given }

-- the next item of the text
pub record IsNextOf (p : Program) (text : List ℕ) (line : ℕ) (old new : Lines) (item : Item) : Type 0 where
  pub lines : new ≡ given_of p text line new.given
  pub one : new.given ≡ old.given + 1
  pub there : slice_get (text_items p text) old.given ≡ Some item

pub next_of : (p : Program) (text : List ℕ) (line : ℕ) (old new : Lines) (item : Item) → old ≡ given_of p text line old.given → Gives old new (Ok (Some item)) → IsNextOf p text line old new item
next_of p text line old new item same g =
    let one : new.given ≡ old.given + 1 = ap (λ (l : Lines). l.given) g.0 in
    record {
      lines = g.0 ∙ ap (λ (l : Lines). record l { given = old.given + 1 }) same ∙ ap (given_of p text line) (sym one);
      one = one;
      there = sym (ap (λ (l : Lines). slice_get (text_items l.program l.text) old.given) same) ∙ g.1;
    }

-- behind the last line the draft tells the certificate of the text
pub put_all : (p : Program) (text : List ℕ) (line : ℕ) (old new : Lines) (first claim : Claim) (d : Told) → old ≡ given_of p text line old.given → Gives old new (Ok None)
    → d ≡ tell_all p (blank (length p.columns)) (take old.given (text_items p text)) → claim ≡ claim_behind first (take old.given (text_items p text)) → (read_of p line text ≡ Ok (certificate_told claim d)) × IsTreeDue claim d.nodes
put_all p text line old new first claim d same g told claims =
    let items = text_items p text in
    let count : old.given ≡ length items = g.1 ∙ ap (λ (l : Lines). length (text_items l.program l.text)) same in
    let all : take old.given items ≡ items = take_all old.given items (omega (arith, count)) in
    let read : read_of p line text ≡ Ok g.2 = sym (ap (λ (l : Lines). read_of l.program l.line l.text) same) ∙ g.3 in
    let c = g.2 in
    let is : IsWhole (claim_behind first items) (tell_all p (blank (length p.columns)) items) c = collected p line text c first read in
    let here : IsWhole claim d c = subst (λ k. IsWhole k d c) (sym (claims ∙ ap (claim_behind first) all)) (subst (λ d. IsWhole (claim_behind first items) d c) (sym (told ∙ ap (tell_all p (blank (length p.columns))) all)) is) in
    (read ∙ ap Ok (sym here.told), here.tree)
