-- The text of a certificate is read as that certificate.
use Rattle.std.proofs.Common.{◌≡◌, ℕ, suc, ◌+◌, ◌≤◌, Bool, true, false, List, [], ◌∷◌, ◌++◌, length, map, drop, Some, Ok, refl, sym, ap, ◌∙◌, subst, arith, codes}
use Rattle.std.specs.Prelude.{if◌then◌else◌}
use Rattle.std.specs.List.{flat_map, AllByRecursion}
use Rattle.std.proofs.Math.Nat.{le_refl}
use Rattle.std.proofs.Math.Seq.{drop-cons}
use Rattle.rational.specs.Rational.{ℚ}
use Rattle.frac_core.specs.Text.{text_of}
use Rattle.program_law.specs.Program.{Program, IsProgram}
use Rattle.rational.specs.Tests.{is_zero}
use Rattle.program_law.proofs.Numbers.{above_positive}
use Rattle.program_law.specs.declared.Square.{Square}
use Rattle.certificate_law.specs.declared.Node.{Node}
use Rattle.certificate_law.specs.declared.Node.TheVariants as nodes
use Rattle.certificate_law.specs.declared.Certificate.{Certificate}
use Rattle.certificate_law.specs.declared.Certificate.TheVariants as certificates
use Rattle.program_law.specs.Squares.{ArePositive}
use Rattle.certificate_law.specs.Fits.{FitsNode, FitsTree, IsColumnVector}
use Rattle.mps_tokens.specs.declared.words.CertificateWord.TheVariants as words
use Rattle.cert_fields.specs.declared.names.Axis.{Axis}
use Rattle.cert_fields.specs.declared.names.Axis.TheVariants.{Columns, Rows}
use Rattle.cert_grammar.specs.declared.items.Item.{Item}
use Rattle.cert_grammar.specs.declared.items.Item.TheVariants as items
use Rattle.cert_grammar.specs.declared.items.Claim.{Claim}
use Rattle.cert_grammar.specs.declared.items.Claim.TheVariants.{Optimal, Infeasible, Unbounded, NotConvex}
use Rattle.cert_grammar.specs.declared.places.Place.{Place}
use Rattle.cert_fields.specs.Names.{names_on, name_at}
use Rattle.cert_fields.specs.Lines.{line_text}
use Rattle.cert_grammar.specs.Text.{Lines, entry_lines, square_lines, node_lines, end_line, certificate_lines, lines_text, certificate_text}
use Rattle.cert_grammar.specs.Places.{start, least, is_ended}
use Rattle.cert_text_law.specs.Told.{blank, certificate_told}
use Rattle.cert_grammar.specs.Items.{claim_in}
use Rattle.cert_text_law.specs.Reading.{Answer, read_of}
use Rattle.cert_grammar.specs.Writable.{IsWritable, NumbersFit, SquareFits, NodeFits, branch_count}
use Rattle.cert_fields.proofs.NameLemmas.{count_names}
use Rattle.cert_grammar.proofs.Lands.{is_optimal, is_unbounded, can, lands, unended, point_square, point_ray, ray_square, ends_too, ray_least}
use Rattle.cert_grammar.proofs.ItemFields.{fields_of}
use Rattle.cert_text_law.proofs.TextsRead.{IsClear, Runs, after_all, tell_all, item_text, line_pieces, run_read}
use Rattle.cert_text_law.proofs.ItemRuns.{after_append, runs_append, entries_run, point_lists, ray_lists, direction_lists, itself, IsGoodSquare, squares_run, MayBound, nodes_run}
use Rattle.cert_text_law.specs.CertificateItems.{entries, square_items, node_items, items_of, claim_of}
use Rattle.cert_text_law.proofs.ItemTells.{tell_append, tell_list, tell_squares, tell_nodes}
use Rattle.cert_text_law.proofs.Readings.{claimed}

-- ---- their lines

abbrev pub claim_word : Claim → List ℕ
claim_word Optimal = codes "OPTIMAL"
claim_word Infeasible = codes "INFEASIBLE"
claim_word Unbounded = codes "UNBOUNDED"
claim_word NotConvex = codes "NOTCONVEX"

abbrev fields : Program → List Item → Lines
fields p is = map (fields_of p) is

fields_append : (p : Program) (xs ys : List Item) → fields p (xs ++ ys) ≡ fields p xs ++ fields p ys
fields_append p [] ys = refl
fields_append p (x ∷ xs) ys = ap (λ (l : Lines). fields_of p x ∷ l) (fields_append p xs ys)

no_lines : (word : List ℕ) (names : List (List ℕ)) → entry_lines word names [] ≡ []
no_lines word [] = refl
no_lines word (n ∷ ns) = refl

entries_fields : (p : Program) (axis : Axis) (word : List ℕ) (make : ℕ → ℚ → Item) → ((j : ℕ) (v : ℚ) → fields_of p (make j v) ≡ word ∷ name_at (names_on p axis) j ∷ text_of v ∷ []) → (j : ℕ) (vs : List ℚ) → j + length vs ≡ length (names_on p axis)
    → entry_lines word (drop j (names_on p axis)) vs ≡ fields p (entries make j vs)
entries_fields p axis word make h j [] e = no_lines word (drop j (names_on p axis))
entries_fields p axis word make h j (v ∷ vs) e =
    rw (drop-cons (names_on p axis) j [] (omega (arith, e))) (go (entries_fields p axis word make h (suc j) vs (omega (arith, e))) (is_zero v))
  where
    go : entry_lines word (drop (suc j) (names_on p axis)) vs ≡ fields p (entries make (suc j) vs)
        → (t : Bool) → (if t then [] else (word ∷ name_at (names_on p axis) j ∷ text_of v ∷ []) ∷ []) ++ entry_lines word (drop (suc j) (names_on p axis)) vs ≡ fields p ((if t then [] else make j v ∷ []) ++ entries make (suc j) vs)
    go rest true = rest
    go rest false = ap (λ (l : Lines). (word ∷ name_at (names_on p axis) j ∷ text_of v ∷ []) ∷ l) rest ∙ ap (λ (f : List (List ℕ)). f ∷ fields p (entries make (suc j) vs)) (sym (h j v))

column_count : (p : Program) (vs : List ℚ) → length vs ≡ length p.columns → 0 + length vs ≡ length (names_on p Columns)
column_count p vs e = omega (arith, e, count_names p.columns)

row_count : (p : Program) (vs : List ℚ) → length vs ≡ length p.rows → 0 + length vs ≡ length (names_on p Rows)
row_count p vs e = omega (arith, e, count_names p.rows)

square_fields : (p : Program) (qs : List Square) → AllByRecursion (λ q. IsColumnVector p q.coef) qs → flat_map (square_lines p) qs ≡ fields p (flat_map square_items qs)
square_fields p [] h = refl
square_fields p (q ∷ qs) h =
    let one : square_lines p q ≡ fields p (square_items q) = ap (λ (l : Lines). (codes "SQUARE" ∷ text_of q.weight ∷ []) ∷ l) (entries_fields p Columns (codes "COEF") items.Coef (λ j v. refl) 0 q.coef (column_count p q.coef h.0)) in
    ap (λ (l : Lines). l ++ flat_map (square_lines p) qs) one ∙ ap (λ (l : Lines). fields p (square_items q) ++ l) (square_fields p qs h.1) ∙ sym (fields_append p (square_items q) (flat_map square_items qs))

one_node : (p : Program) (n : Node) → FitsNode p n → node_lines p n ≡ fields p (node_items n)
one_node p (nodes.Branch j k) h = refl
one_node p (nodes.Bound w y) h =
    let ws = entries_fields p Columns (codes "W") items.W (λ j v. refl) 0 w (column_count p w h.0) in
    let ys = entries_fields p Rows (codes "Y") items.Y (λ j v. refl) 0 y (row_count p y h.1) in
    ap (λ (l : Lines). (codes "BOUND" ∷ []) ∷ (l ++ entry_lines (codes "Y") (names_on p Rows) y)) ws ∙ ap (λ (l : Lines). (codes "BOUND" ∷ []) ∷ (fields p (entries items.W 0 w) ++ l)) ys
    ∙ ap (λ (l : Lines). (codes "BOUND" ∷ []) ∷ l) (sym (fields_append p (entries items.W 0 w) (entries items.Y 0 y)))
one_node p (nodes.Farkas y) h = ap (λ (l : Lines). (codes "FARKAS" ∷ []) ∷ l) (entries_fields p Rows (codes "Y") items.Y (λ j v. refl) 0 y (row_count p y h))
one_node p (nodes.Cross j) h = refl

node_fields : (p : Program) (ns : List Node) → AllByRecursion (FitsNode p) ns → flat_map (node_lines p) ns ≡ fields p (flat_map node_items ns)
node_fields p [] h = refl
node_fields p (n ∷ ns) h =
    ap (λ (l : Lines). l ++ flat_map (node_lines p) ns) (one_node p n h.0) ∙ ap (λ (l : Lines). fields p (node_items n) ++ l) (node_fields p ns h.1) ∙ sym (fields_append p (node_items n) (flat_map node_items ns))

-- lines behind lines
behind : (p : Program) (a b : Lines) (xs ys : List Item) → a ≡ fields p xs → b ≡ fields p ys → a ++ b ≡ fields p (xs ++ ys)
behind p a b xs ys e f = ap (λ (l : Lines). l ++ b) e ∙ ap (λ (l : Lines). fields p xs ++ l) f ∙ sym (fields_append p xs ys)

pub all_fields : (p : Program) (c : Certificate) → IsWritable p c → certificate_lines p c ≡ (claim_word (claim_of c) ∷ []) ∷ fields p (items_of c)
all_fields p (certificates.Optimal x v squares tree) h =
    let points = entries_fields p Columns (codes "POINT") items.Point (λ j v. refl) 0 x (column_count p x h.fitting.0) in
    let tail = behind p (flat_map (node_lines p) tree) end_line (flat_map node_items tree) (items.End ∷ []) (node_fields p tree h.fitting.2.nodes_fit) refl in
    let below = behind p (flat_map (square_lines p) squares) (flat_map (node_lines p) tree ++ end_line) (flat_map square_items squares) (flat_map node_items tree ++ items.End ∷ []) (square_fields p squares h.fitting.1.widths) tail in
    ap (λ (l : Lines). (codes "OPTIMAL" ∷ []) ∷ (codes "VALUE" ∷ text_of v ∷ []) ∷ l)
    (behind p (entry_lines (codes "POINT") (names_on p Columns) x) (flat_map (square_lines p) squares ++ (flat_map (node_lines p) tree ++ end_line)) (entries items.Point 0 x) (flat_map square_items squares ++ (flat_map node_items tree ++ items.End ∷ [])) points below)
all_fields p (certificates.Infeasible tree) h =
    ap (λ (l : Lines). (codes "INFEASIBLE" ∷ []) ∷ l) (behind p (flat_map (node_lines p) tree) end_line (flat_map node_items tree) (items.End ∷ []) (node_fields p tree h.fitting.0.nodes_fit) refl)
all_fields p (certificates.Unbounded x d squares) h =
    let points = entries_fields p Columns (codes "POINT") items.Point (λ j v. refl) 0 x (column_count p x h.fitting.0) in
    let rays = entries_fields p Columns (codes "RAY") items.Ray (λ j v. refl) 0 d (column_count p d h.fitting.1) in
    let tail = behind p (flat_map (square_lines p) squares) end_line (flat_map square_items squares) (items.End ∷ []) (square_fields p squares h.fitting.2.widths) refl in
    let below = behind p (entry_lines (codes "RAY") (names_on p Columns) d) (flat_map (square_lines p) squares ++ end_line) (entries items.Ray 0 d) (flat_map square_items squares ++ items.End ∷ []) rays tail in
    ap (λ (l : Lines). (codes "UNBOUNDED" ∷ []) ∷ l)
    (behind p (entry_lines (codes "POINT") (names_on p Columns) x) (entry_lines (codes "RAY") (names_on p Columns) d ++ (flat_map (square_lines p) squares ++ end_line)) (entries items.Point 0 x) (entries items.Ray 0 d ++ (flat_map square_items squares ++ items.End ∷ [])) points below)
all_fields p (certificates.NotConvex v) h =
    ap (λ (l : Lines). (codes "NOTCONVEX" ∷ []) ∷ l)
    (behind p (entry_lines (codes "VECTOR") (names_on p Columns) v) end_line (entries items.Direction 0 v) (items.End ∷ []) (entries_fields p Columns (codes "VECTOR") items.Direction (λ j v. refl) 0 v (column_count p v h.fitting)) refl)

pub lines_of_items : (p : Program) (is : List Item) → lines_text (fields p is) ≡ flat_map (item_text p) is
lines_of_items p [] = refl
lines_of_items p (i ∷ is) = ap (λ (t : List ℕ). item_text p i ++ t) (lines_of_items p is)

-- ---- they are accepted to the end

pub record Finishes (p : Program) (s : Place) (is : List Item) : Type 0 where
  pub runs : Runs p s is
  pub ends : is_ended (after_all s is).part ≡ true

finish_then : (p : Program) (s : Place) (xs ys : List Item) → Runs p s xs → Finishes p (after_all s xs) ys → Finishes p s (xs ++ ys)
finish_then p s xs ys a b = record { runs = runs_append p s xs ys a b.runs; ends = ap (λ (s : Place). is_ended s.part) (after_append s xs ys) ∙ b.ends }

finish_end : (p : Program) (s : Place) → s.wanted ≡ 0 → can s.claim s.part words.End ≡ true → Finishes p s (items.End ∷ [])
finish_end p s e f = record { runs = (unended s.claim s.part words.End f, rw (f, e) refl, tt); ends = refl }

good_squares : (p : Program) (qs : List Square) → ArePositive qs → AllByRecursion (λ q. IsColumnVector p q.coef) qs → AllByRecursion SquareFits qs → AllByRecursion (IsGoodSquare p) qs
good_squares p [] a b c = tt
good_squares p (q ∷ qs) a b c = (record { weight = c.0.0; positive = above_positive q.weight a.0; width = b.0; entries_fit = c.0.1 }, good_squares p qs a.1 b.1 c.1)

tree_end : (p : Program) (s : Place) (tree : List Node) → s.wanted ≡ 1 → s.branches ≡ 0 → can s.claim s.part words.End ≡ true → FitsTree p tree → branch_count tree ≤ 20256 → AllByRecursion NodeFits tree → MayBound (is_optimal s.claim) tree → Finishes p s (flat_map node_items tree ++ items.End ∷ [])
tree_end p s tree w z ready fit few good b =
    let run = nodes_run p s tree 1 w fit.tree ready (omega (arith, z, few)) fit.nodes_fit good b in
    finish_then p s (flat_map node_items tree) (items.End ∷ []) run.0 (finish_end p (after_all s (flat_map node_items tree)) run.1.wanted run.1.ends)

finishes : (p : Program) (c : Certificate) → IsWritable p c → NumbersFit c → Finishes p (start (claim_of c)) (items_of c)
finishes p (certificates.Optimal x v squares tree) h fit =
    let s = lands (start Optimal) (items.Value v) in
    let points = entries_run p s words.Point Columns items.Point (point_lists p) s 0 x (itself s words.Point refl) (le_refl 0) (omega (arith, h.fitting.0)) fit.0 in
    let t = after_all s (entries items.Point 0 x) in
    let below = squares_run p t squares (point_square t.claim t.part points.1.stands) (omega (arith, points.1.squares, h.few_squares)) (good_squares p squares h.fitting.1.positive h.fitting.1.widths fit.2) in
    let u = after_all t (flat_map square_items squares) in
    let optimal : is_optimal u.claim ≡ true = ap is_optimal (below.1.claim ∙ points.1.claim) in
    let rest = tree_end p u tree (below.1.wanted ∙ points.1.wanted) (below.1.branches ∙ points.1.branches) (ends_too u.claim u.part words.Square refl below.1.stands) h.fitting.2 h.few_branches fit.3 (subst (λ b. MayBound b tree) (sym optimal) tt) in
    let more = finish_then p s (entries items.Point 0 x) (flat_map square_items squares ++ (flat_map node_items tree ++ items.End ∷ [])) points.0
    (finish_then p t (flat_map square_items squares) (flat_map node_items tree ++ items.End ∷ []) below.0 rest) in
    record { runs = (refl, (refl, fit.1), more.runs); ends = more.ends }
finishes p (certificates.Infeasible tree) h fit = tree_end p (start Infeasible) tree refl refl refl h.fitting.0 h.few_branches fit h.fitting.1
finishes p (certificates.Unbounded x d squares) h fit =
    let s = start Unbounded in
    let points = entries_run p s words.Point Columns items.Point (point_lists p) s 0 x (itself s words.Point refl) (le_refl 0) (omega (arith, h.fitting.0)) fit.0 in
    let t = after_all s (entries items.Point 0 x) in
    let low : least t words.Ray ≤ 0 = subst (λ (n : ℕ). n ≤ 0) (sym (ray_least t.claim t.part t.next points.1.stands)) (le_refl 0) in
    let ray = point_ray t.claim t.part (ap is_unbounded points.1.claim) points.1.stands in
    let rays = entries_run p t words.Ray Columns items.Ray (ray_lists p) t 0 d (itself t words.Ray ray) low (omega (arith, h.fitting.1)) fit.1 in
    let u = after_all t (entries items.Ray 0 d) in
    let count : u.squares ≡ 0 = rays.1.squares ∙ points.1.squares in
    let below = squares_run p u squares (ray_square u.claim u.part rays.1.stands) (omega (arith, count, h.few_squares)) (good_squares p squares h.fitting.2.positive h.fitting.2.widths fit.2) in
    let v = after_all u (flat_map square_items squares) in
    let last = finish_end p v (below.1.wanted ∙ rays.1.wanted ∙ points.1.wanted) (ends_too v.claim v.part words.Square refl below.1.stands) in
    finish_then p s (entries items.Point 0 x) (entries items.Ray 0 d ++ (flat_map square_items squares ++ items.End ∷ [])) points.0
    (finish_then p t (entries items.Ray 0 d) (flat_map square_items squares ++ items.End ∷ []) rays.0 (finish_then p u (flat_map square_items squares) (items.End ∷ []) below.0 last))
finishes p (certificates.NotConvex v) h fit =
    let s = start NotConvex in
    let list = entries_run p s words.Vector Columns items.Direction (direction_lists p) s 0 v (itself s words.Vector refl) (le_refl 0) (omega (arith, h.fitting)) fit in
    let t = after_all s (entries items.Direction 0 v) in
    finish_then p s (entries items.Direction 0 v) (items.End ∷ []) list.0 (finish_end p t list.1.wanted (ends_too t.claim t.part words.Vector refl list.1.stands))

-- ---- and tell it

tells : (p : Program) (c : Certificate) → IsWritable p c → certificate_told (claim_of c) (tell_all p (blank (length p.columns)) (items_of c)) ≡ c
tells p (certificates.Optimal x v squares tree) h =
    let d = record (blank (length p.columns)) { value = v } in
    let points : tell_all p d (entries items.Point 0 x) ≡ record d { point = x } = tell_list p items.Point (λ xs. record d { point = xs }) (λ xs j v. refl) (length p.columns) x h.fitting.0 in
    let e = record d { point = x } in
    let rest = flat_map square_items squares ++ (flat_map node_items tree ++ items.End ∷ []) in
    let tail = flat_map node_items tree ++ items.End ∷ [] in
    ap (certificate_told Optimal)
    (tell_append p d (entries items.Point 0 x) rest ∙ ap (λ d. tell_all p d rest) points
    ∙ tell_append p e (flat_map square_items squares) tail ∙ ap (λ d. tell_all p d tail) (tell_squares p e squares h.fitting.1.widths)
    ∙ tell_append p (record e { squares = squares }) (flat_map node_items tree) (items.End ∷ []) ∙ ap (λ d. tell_all p d (items.End ∷ [])) (tell_nodes p (record e { squares = squares }) tree h.fitting.2.nodes_fit))
tells p (certificates.Infeasible tree) h =
    let d = blank (length p.columns) in
    ap (certificate_told Infeasible) (tell_append p d (flat_map node_items tree) (items.End ∷ []) ∙ ap (λ d. tell_all p d (items.End ∷ [])) (tell_nodes p d tree h.fitting.0.nodes_fit))
tells p (certificates.Unbounded x d squares) h =
    let b = blank (length p.columns) in
    let points : tell_all p b (entries items.Point 0 x) ≡ record b { point = x } = tell_list p items.Point (λ xs. record b { point = xs }) (λ xs j v. refl) (length p.columns) x h.fitting.0 in
    let e = record b { point = x } in
    let rays : tell_all p e (entries items.Ray 0 d) ≡ record e { ray = d } = tell_list p items.Ray (λ xs. record e { ray = xs }) (λ xs j v. refl) (length p.columns) d h.fitting.1 in
    let f = record e { ray = d } in
    let rest = entries items.Ray 0 d ++ (flat_map square_items squares ++ items.End ∷ []) in
    let tail = flat_map square_items squares ++ items.End ∷ [] in
    ap (certificate_told Unbounded)
    (tell_append p b (entries items.Point 0 x) rest ∙ ap (λ d. tell_all p d rest) points
    ∙ tell_append p e (entries items.Ray 0 d) tail ∙ ap (λ d. tell_all p d tail) rays
    ∙ tell_append p f (flat_map square_items squares) (items.End ∷ []) ∙ ap (λ d. tell_all p d (items.End ∷ [])) (tell_squares p f squares h.fitting.2.widths))
tells p (certificates.NotConvex v) h =
    let b = blank (length p.columns) in
    let list : tell_all p b (entries items.Direction 0 v) ≡ record b { direction = v } = tell_list p items.Direction (λ xs. record b { direction = xs }) (λ xs j v. refl) (length p.columns) v h.fitting in
    ap (certificate_told NotConvex) (tell_append p b (entries items.Direction 0 v) (items.End ∷ []) ∙ ap (λ d. tell_all p d (items.End ∷ [])) list)

-- ---- the whole text

word_clear : (claim : Claim) → AllByRecursion IsClear (claim_word claim ∷ [])
word_clear Optimal = (record { bytes = refl }, tt)
word_clear Infeasible = (record { bytes = refl }, tt)
word_clear Unbounded = (record { bytes = refl }, tt)
word_clear NotConvex = (record { bytes = refl }, tt)

word_claims : (claim : Claim) → claim_in (claim_word claim) ≡ Some claim
unfolding claim_in
word_claims Optimal = refl
word_claims Infeasible = refl
word_claims Unbounded = refl
word_claims NotConvex = refl

pub read_back : (p : Program) (c : Certificate) (n : ℕ) → IsProgram p → IsWritable p c → NumbersFit c → read_of p n (certificate_text p c) ≡ Ok c
unfolding certificate_text
read_back p c n good h fit =
    let claim = claim_of c in
    let rest = flat_map (item_text p) (items_of c) in
    let text : certificate_text p c ≡ line_text (claim_word claim ∷ []) ++ rest =
    ap lines_text (all_fields p c h) ∙ ap (λ (t : List ℕ). line_text (claim_word claim ∷ []) ++ t) (lines_of_items p (items_of c)) in
    let run = finishes p c h fit in
    ap (read_of p n) text
    ∙ claimed p n (claim_word claim) (line_text (claim_word claim ∷ []) ++ rest) rest claim (line_pieces (claim_word claim ∷ []) rest (word_clear claim)) (word_claims claim)
    ∙ run_read p claim (n + 1) [] (items_of c) good run.runs run.ends
    ∙ ap Ok (tells p c h)

one_answer : (a : Answer) (c other : Certificate) → a ≡ Ok c → a ≡ Ok other → c ≡ other
one_answer a c other e f = cc

pub one_text : (p : Program) (c other : Certificate) → IsProgram p → IsWritable p c → NumbersFit c → IsWritable p other → NumbersFit other → certificate_text p c ≡ certificate_text p other → c ≡ other
one_text p c other good h fit k fits e = one_answer (read_of p 0 (certificate_text p c)) c other (read_back p c 0 good h fit) (ap (read_of p 0) e ∙ read_back p other 0 good k fits)
