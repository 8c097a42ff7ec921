-- Lines that are appended one after another.
use Rattle.std.proofs.Common.{◌≡◌, ℕ, zero, suc, ◌+◌, ◌≤◌, ◌<◌, List, [], subst, ◌∷◌, ◌++◌, length, drop, Some, slice_get, refl, sym, ap, ◌∙◌, append_assoc, append-nil, arith, add-one, codes}
use Rattle.std.proofs.lemmas.Option.{slice_get_within, get_or_from_slice_get}
use Rattle.std.proofs.Math.Seq.{drop-cons}
use Rattle.std.proofs.lemmas.List.{drop_all}
use Rattle.rational.specs.Rational.{ℚ}
use Rattle.program_law.specs.Program.{Program}
use Rattle.branching_law.specs.declared.Turn.{Turn}
use Rattle.std.specs.Fmt.{signed_decimal}
use Rattle.named_things.specs.Named.{names_of}
use Rattle.cert_grammar.specs.Text.{name_at}
use Rattle.branching.specs.Stops.{IsPathIn}
use Rattle.qp_answers.specs.Withheld.{at_line, at_lines, basic_line, basic_lines, cut_word, path_lines, turn_line}

-- what is done, a line, and the rest
appended : (done line rest new whole : List ℕ) → done ++ (line ++ rest) ≡ whole → new ≡ done ++ line → new ++ rest ≡ whole
appended done line rest new whole e n = ap (λ new. new ++ rest) n ∙ append_assoc done line rest ∙ e

here : {A : Type 0} (xs : List A) (k : ℕ) (x : A) → slice_get xs k ≡ Some x → drop k xs ≡ x ∷ drop (k + 1) xs
here xs k x e = drop-cons xs k x (slice_get_within xs k x e) ∙ rw (get_or_from_slice_get xs k x x e, add-one) refl

pub at_more : (done new whole : List ℕ) (at : List ℚ) (k : ℕ) (x : ℚ) → done ++ at_lines (k + 1) (drop k at) ≡ whole → slice_get at k ≡ Some x → new ≡ done ++ at_line (k + 1) x
    → new ++ at_lines (k + 1 + 1) (drop (k + 1) at) ≡ whole
at_more done new whole at k x e g n =
    let next : suc (k + 1) ≡ k + 1 + 1 = omega arith in
    ap (λ m. new ++ at_lines m (drop (k + 1) at)) (sym next)
    ∙ appended done (at_line (k + 1) x) (at_lines (suc (k + 1)) (drop (k + 1) at)) new whole (ap (λ xs. done ++ at_lines (k + 1) xs) (sym (here at k x g)) ∙ e) n

pub at_end : (done whole : List ℕ) (at : List ℚ) (k : ℕ) → done ++ at_lines (k + 1) (drop k at) ≡ whole → length at ≤ k → done ≡ whole
at_end done whole at k e h = sym (append-nil done) ∙ ap (λ xs. done ++ at_lines (k + 1) xs) (sym (drop_all k at h)) ∙ e

pub basic_more : (done new whole : List ℕ) (basis : List ℕ) (k j : ℕ) → done ++ basic_lines (drop k basis) ≡ whole → slice_get basis k ≡ Some j → new ≡ done ++ basic_line j
    → new ++ basic_lines (drop (k + 1) basis) ≡ whole
basic_more done new whole basis k j e g n = appended done (basic_line j) (basic_lines (drop (k + 1) basis)) new whole (ap (λ js. done ++ basic_lines js) (sym (here basis k j g)) ∙ e) n

pub basic_end : (done whole : List ℕ) (basis : List ℕ) (k : ℕ) → done ++ basic_lines (drop k basis) ≡ whole → length basis ≤ k → done ≡ whole
basic_end done whole basis k e h = sym (append-nil done) ∙ ap (λ js. done ++ basic_lines js) (sym (drop_all k basis h)) ∙ e

-- three parts, one after another
pub three_parts : (text a b c one two three : List ℕ) → one ≡ text ++ a → two ≡ one ++ b → three ≡ two ++ c → three ≡ text ++ (a ++ (b ++ c))
three_parts text a b c one two three e f g = rw (g, f, e, append_assoc text a b, append_assoc text (a ++ b) c, append_assoc a b c) refl

-- ---- paths

pub turn_more : (done new whole : List ℕ) (p : Program) (path : List Turn) (k : ℕ) (t : Turn) → done ++ path_lines p (drop k path) ≡ whole → slice_get path k ≡ Some t → new ≡ done ++ turn_line p t
    → new ++ path_lines p (drop (k + 1) path) ≡ whole
turn_more done new whole p path k t e g n = appended done (turn_line p t) (path_lines p (drop (k + 1) path)) new whole (ap (λ ts. done ++ path_lines p ts) (sym (here path k t g)) ∙ e) n

pub turn_end : (done whole : List ℕ) (p : Program) (path : List Turn) (k : ℕ) → done ++ path_lines p (drop k path) ≡ whole → length path ≤ k → done ≡ whole
turn_end done whole p path k e h = sym (append-nil done) ∙ ap (λ ts. done ++ path_lines p ts) (sym (drop_all k path h)) ∙ e

pub turn_in : (p : Program) (path : List Turn) (k : ℕ) (t : Turn) → IsPathIn p path → slice_get path k ≡ Some t → t.column < length p.columns
turn_in p [] k t h e = absurd (omega (arith, slice_get_within [] k t e))
turn_in p (s ∷ path) zero t h e = subst (λ (s : Turn). s.column < length p.columns) (get_or_from_slice_get (s ∷ path) 0 t s e) h.0
turn_in p (s ∷ path) (suc k) t h e = turn_in p path k t h.1 e

-- the line of a turn: its side, the name, and the number
pub turn_put : (p : Program) (t : Turn) (text a b c one two three : List ℕ) → a ≡ cut_word t.cut → b ≡ name_at (names_of p.columns) t.column → c ≡ codes " " ++ (signed_decimal t.k ++ codes "\n")
    → one ≡ text ++ a → two ≡ one ++ b → three ≡ two ++ c → three ≡ text ++ turn_line p t
turn_put p t text a b c one two three d e f g h i = three_parts text a b c one two three g h i ∙ rw (d, e, f) refl

-- a first line, and three parts behind it
pub behind_first : (a b c d one two three four : List ℕ) → one ≡ a → two ≡ one ++ b → three ≡ two ++ c → four ≡ three ++ d → four ≡ a ++ (b ++ (c ++ d))
behind_first a b c d one two three four e f g h = rw (h, g, f, e, append_assoc (a ++ b) c d, append_assoc a b (c ++ d)) refl
