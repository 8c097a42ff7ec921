-- The lines of a certificate, one after another, leave what its checking calculation finds.
use Rattle.std.proofs.Common.{◌≡◌, ℕ, suc, Bool, true, false, List, [], ◌∷◌, ◌++◌, length, set, Option, Some, Result, Ok, Err, refl, ap, ◌∙◌, append_assoc}
use Rattle.std.specs.Prelude.{if◌then◌else◌}
use Rattle.std.specs.List.{flat_map, AllByRecursion}
use Rattle.rational.specs.Rational.{ℚ}
use Rattle.rational.specs.Tests.{is_zero}
use Rattle.program_law.specs.Program.{Program, bounds}
use Rattle.program_law.specs.Region.{Region}
use Rattle.program_law.specs.Changes.{zeros}
use Rattle.program_law.specs.declared.Square.{Square}
use Rattle.certificate_law.specs.declared.Node.{Node}
use Rattle.certificate_law.specs.declared.Node.TheVariants as nodes
use Rattle.certificate_law.specs.declared.Certificate.{Certificate}
use Rattle.certificate_law.specs.declared.Certificate.TheVariants as certificates
use Rattle.certificate_law.specs.Fits.{Fits, FitsNode, IsColumnVector}
use Rattle.cert_check_law.specs.declared.Event.{Event}
use Rattle.cert_check_law.specs.Chain.{◌>>=◌}
use Rattle.cert_check_law.specs.Heads.{best_test, unbounded_test, vector_test}
use Rattle.cert_check_law.specs.Tree.{node_step, nodes_from}
use Rattle.cert_check_law.specs.Check.{checked}
use Rattle.cert_grammar.specs.declared.items.Item.{Item}
use Rattle.cert_grammar.specs.declared.items.Item.TheVariants as items
use Rattle.cert_text_law.specs.Told.{Told, blank, with_item}
use Rattle.cert_text_law.specs.CertificateItems.{entries, square_items, node_items, certificate_items}
use Rattle.cert_text_law.proofs.TextsRead.{tell_all}
use Rattle.cert_text_law.proofs.ItemTells.{tell_list, tell_squares}
use Rattle.check_progress.specs.Progress.{Progress, start, value_for, node_test, waiting_behind, closed, begun, after, after_all, found}

after_append : (p : Program) (g : Progress) (xs ys : List Item) → after_all p g (xs ++ ys) ≡ after_all p (after_all p g xs) ys
after_append p g [] ys = refl
after_append p g (x ∷ xs) ys = after_append p (after p g x) xs ys

-- ---- what stands before the tree

-- the line only tells something
abbrev Tells : Program → Item → Type 0
Tells p item = (g : Progress) → after p g item ≡ record g { told = with_item (length p.columns) (length p.rows) item g.told }

told_all : (p : Program) (g : Progress) (later : List Item) → AllByRecursion (Tells p) later → after_all p g later ≡ record g { told = tell_all p g.told later }
told_all p g [] h = refl
told_all p g (item ∷ later) h =
    ap (λ g. after_all p g later) (h.0 g) ∙ told_all p (record g { told = with_item (length p.columns) (length p.rows) item g.told }) later h.1

both_tell : (p : Program) (xs ys : List Item) → AllByRecursion (Tells p) xs → AllByRecursion (Tells p) ys → AllByRecursion (Tells p) (xs ++ ys)
both_tell p [] ys h k = k
both_tell p (x ∷ xs) ys h k = (h.0, both_tell p xs ys h.1 k)

entries_tell : (p : Program) (make : ℕ → ℚ → Item) → ((j : ℕ) (v : ℚ) → Tells p (make j v)) → (j : ℕ) (vs : List ℚ) → AllByRecursion (Tells p) (entries make j vs)
entries_tell p make h j [] = tt
entries_tell p make h j (v ∷ vs) = go (entries_tell p make h (suc j) vs) (is_zero v)
  where
    go : AllByRecursion (Tells p) (entries make (suc j) vs) → (t : Bool) → AllByRecursion (Tells p) ((if t then [] else make j v ∷ []) ++ entries make (suc j) vs)
    go rest true = rest
    go rest false = (h j v, rest)

squares_tell : (p : Program) (qs : List Square) → AllByRecursion (Tells p) (flat_map square_items qs)
squares_tell p [] = tt
squares_tell p (q ∷ qs) = both_tell p (square_items q) (flat_map square_items qs) (λ g. refl, entries_tell p items.Coef (λ j v g. refl) 0 q.coef) (squares_tell p qs)

-- a list of entries fills a part of what is told
list_told : (p : Program) (make : ℕ → ℚ → Item) (at : List ℚ → Told) (g : Progress) → ((j : ℕ) (v : ℚ) → Tells p (make j v))
    → ((xs : List ℚ) (j : ℕ) (v : ℚ) → with_item (length p.columns) (length p.rows) (make j v) (at xs) ≡ at (set xs j v))
    → (vs : List ℚ) → IsColumnVector p vs → g.told ≡ at (zeros (length p.columns)) → after_all p g (entries make 0 vs) ≡ record g { told = at vs }
list_told p make at g tells puts vs width e =
    told_all p g (entries make 0 vs) (entries_tell p make tells 0 vs)
    ∙ ap (λ (d : Told). record g { told = d }) (ap (λ d. tell_all p d (entries make 0 vs)) e ∙ tell_list p make at puts (length p.columns) vs width)

squares_told : (p : Program) (g : Progress) (qs : List Square) → AllByRecursion (λ q. IsColumnVector p q.coef) qs → after_all p g (flat_map square_items qs) ≡ record g { told = record g.told { squares = g.told.squares ++ qs } }
squares_told p g qs h =
    told_all p g (flat_map square_items qs) (squares_tell p qs) ∙ ap (λ (d : Told). record g { told = d }) (tell_squares p g.told qs h)

-- ---- nodes

-- entries put one after another are those that a list of POINT lines tells
abbrev pointed : List ℚ → Told
pointed xs = record (blank 0) { point = xs }

entries_put : (p : Program) (make : ℕ → ℚ → Item) (at : List ℚ → Progress) → ((xs : List ℚ) (j : ℕ) (v : ℚ) → after p (at xs) (make j v) ≡ at (set xs j v))
    → (xs : List ℚ) (j : ℕ) (vs : List ℚ) → after_all p (at xs) (entries make j vs) ≡ at (tell_all p (pointed xs) (entries items.Point j vs)).point
entries_put p make at h xs j [] = refl
entries_put p make at h xs j (v ∷ vs) = go (λ ys. entries_put p make at h ys (suc j) vs) (is_zero v)
  where
    go : ((ys : List ℚ) → after_all p (at ys) (entries make (suc j) vs) ≡ at (tell_all p (pointed ys) (entries items.Point (suc j) vs)).point)
        → (t : Bool) → after_all p (at xs) ((if t then [] else make j v ∷ []) ++ entries make (suc j) vs)
        ≡ at (tell_all p (pointed xs) ((if t then [] else items.Point j v ∷ []) ++ entries items.Point (suc j) vs)).point
    go rest true = rest xs
    go rest false = ap (λ g. after_all p g (entries make (suc j) vs)) (h xs j v) ∙ rest (set xs j v)

entries_fill : (p : Program) (make : ℕ → ℚ → Item) (at : List ℚ → Progress) → ((xs : List ℚ) (j : ℕ) (v : ℚ) → after p (at xs) (make j v) ≡ at (set xs j v))
    → (n : ℕ) (vs : List ℚ) → length vs ≡ n → after_all p (at (zeros n)) (entries make 0 vs) ≡ at vs
entries_fill p make at h n vs e =
    entries_put p make at h (zeros n) 0 vs ∙ ap (λ (d : Told). at d.point) (tell_list p items.Point pointed (λ xs j v. refl) n vs e)

node_begun : (p : Program) (g : Progress) (n : Node) → FitsNode p n → after_all p g (node_items n) ≡ begun n (closed p g)
node_begun p g (nodes.Branch j k) h = refl
node_begun p g (nodes.Bound w y) h =
    let c = closed p g in
    after_append p (begun (nodes.Bound (zeros (length p.columns)) (zeros (length p.rows))) c) (entries items.W 0 w) (entries items.Y 0 y)
    ∙ ap (λ g. after_all p g (entries items.Y 0 y)) (entries_fill p items.W (λ xs. begun (nodes.Bound xs (zeros (length p.rows))) c) (λ xs j v. refl) (length p.columns) w h.0)
    ∙ entries_fill p items.Y (λ ys. begun (nodes.Bound w ys) c) (λ ys j v. refl) (length p.rows) y h.1
node_begun p g (nodes.Farkas y) h = entries_fill p items.Y (λ ys. begun (nodes.Farkas ys) (closed p g)) (λ ys j v. refl) (length p.rows) y h
node_begun p g (nodes.Cross j) h = refl

-- the regions that wait behind nodes, each tested on the first
abbrev walked : Program → Option ℚ → ℕ → Result (List Region) Event → List Node → Result (List Region) Event
walked p v number waiting [] = waiting
walked p v number waiting (n ∷ ns) = walked p v (suc number) (node_test p v number n waiting) ns

nodes_walked : (p : Program) (g : Progress) (ns : List Node) → AllByRecursion (FitsNode p) ns
    → (after_all p g (flat_map node_items ns ++ items.End ∷ [])).waiting ≡ walked p (value_for g.claim g.told.value) (suc g.node) (waiting_behind p g.stage g) ns
nodes_walked p g [] h = refl
nodes_walked p g (n ∷ ns) h =
    let later = flat_map node_items ns ++ items.End ∷ [] in
    ap (λ (l : List Item). (after_all p g l).waiting) (append_assoc (node_items n) (flat_map node_items ns) (items.End ∷ []))
    ∙ ap (λ (g : Progress). g.waiting) (after_append p g (node_items n) later ∙ ap (λ g. after_all p g later) (node_begun p g n h.0))
    ∙ nodes_walked p (begun n (closed p g)) ns h.1

stopped : (p : Program) (v : Option ℚ) (number : ℕ) (e : Event) (ns : List Node) → walked p v number (Err e) ns ≡ Err e
stopped p v number e [] = refl
stopped p v number e (n ∷ ns) = stopped p v (suc number) e ns

tree_found : (p : Program) (v : Option ℚ) (number : ℕ) (ws : List Region) (ns : List Node) → (walked p v number (Ok ws) ns >>= λ _. Ok tt) ≡ nodes_from p v number ws ns
tree_found p v number [] [] = refl
tree_found p v number [] (n ∷ ns) = tree_found p v (suc number) [] ns
tree_found p v number (region ∷ ws) [] = refl
tree_found p v number (region ∷ ws) (n ∷ ns) = go (λ later. tree_found p v (suc number) later ns) (node_step p v number region n ws)
  where
    go : ((later : List Region) → (walked p v (suc number) (Ok later) ns >>= λ _. Ok tt) ≡ nodes_from p v (suc number) later ns)
        → (r : Result (List Region) Event) → (walked p v (suc number) r ns >>= λ _. Ok tt) ≡ (r >>= λ later. nodes_from p v (suc number) later ns)
    go rest (Ok later) = rest later
    go rest (Err e) = ap (λ (r : Result (List Region) Event). r >>= λ _. Ok tt) (stopped p v (suc number) e ns)

-- what is found behind the tests of what stands before a tree
behind_head : (p : Program) (v : Option ℚ) (ws : List Region) (ns : List Node) (head : Result (Unit {0}) Event)
    → (walked p v 1 (head >>= λ _. Ok ws) ns >>= λ _. Ok tt) ≡ (head >>= λ _. nodes_from p v 1 ws ns)
behind_head p v ws ns (Ok x) = tree_found p v 1 ws ns
behind_head p v ws ns (Err e) = ap (λ (r : Result (List Region) Event). r >>= λ _. Ok tt) (stopped p v 1 e ns)

head_alone : (ws : List Region) (head : Result (Unit {0}) Event) → ((head >>= λ _. Ok ws) >>= λ _. Ok tt) ≡ head
head_alone ws (Ok x) = refl
head_alone ws (Err e) = refl

-- ---- certificates

pub line_by_line : (p : Program) (c : Certificate) → Fits p c → found (after_all p (start p) (certificate_items c)) ≡ checked p c
line_by_line p (certificates.Optimal x v squares tree) fit =
    let width = length p.columns in
    let g : Progress = after p (after p (start p) items.Optimal) (items.Value v) in
    let pts = entries items.Point 0 x in
    let sqs = flat_map square_items squares in
    let later = flat_map node_items tree ++ items.End ∷ [] in
    let g2 : Progress = record g { told = record (blank width) { point = x; value = v } } in
    let g3 : Progress = record g { told = record (blank width) { point = x; value = v; squares = squares } } in
    ap found (
    after_append p g pts (sqs ++ later)
    ∙ ap (λ g. after_all p g (sqs ++ later)) (list_told p items.Point (λ xs. record (blank width) { point = xs; value = v }) g (λ j v g. refl) (λ xs j v. refl) x fit.0 refl)
    ∙ after_append p g2 sqs later
    ∙ ap (λ g. after_all p g later) (squares_told p g2 squares fit.1.widths)
    )
    ∙ ap (λ (r : Result (List Region) Event). r >>= λ _. Ok tt) (nodes_walked p g3 tree fit.2.nodes_fit)
    ∙ behind_head p (Some v) (bounds p ∷ []) tree (best_test p x v squares)
line_by_line p (certificates.Infeasible tree) fit =
    ap (λ (r : Result (List Region) Event). r >>= λ _. Ok tt) (nodes_walked p (after p (start p) items.Infeasible) tree fit.0.nodes_fit)
    ∙ behind_head p _ (bounds p ∷ []) tree (Ok tt)
line_by_line p (certificates.Unbounded x d squares) fit =
    let width = length p.columns in
    let g : Progress = after p (start p) items.Unbounded in
    let pts = entries items.Point 0 x in
    let rays = entries items.Ray 0 d in
    let sqs = flat_map square_items squares in
    let end = items.End ∷ [] in
    let g2 : Progress = record g { told = record (blank width) { point = x } } in
    let g3 : Progress = record g { told = record (blank width) { point = x; ray = d } } in
    ap found (
    after_append p g pts (rays ++ (sqs ++ end))
    ∙ ap (λ g. after_all p g (rays ++ (sqs ++ end))) (list_told p items.Point (λ xs. record (blank width) { point = xs }) g (λ j v g. refl) (λ xs j v. refl) x fit.0 refl)
    ∙ after_append p g2 rays (sqs ++ end)
    ∙ ap (λ g. after_all p g (sqs ++ end)) (list_told p items.Ray (λ xs. record (blank width) { point = x; ray = xs }) g2 (λ j v g. refl) (λ xs j v. refl) d fit.1 refl)
    ∙ after_append p g3 sqs end
    ∙ ap (λ g. after_all p g end) (squares_told p g3 squares fit.2.widths)
    )
    ∙ head_alone (bounds p ∷ []) (unbounded_test p x d squares)
line_by_line p (certificates.NotConvex v) fit =
    let width = length p.columns in
    let g : Progress = after p (start p) items.NotConvex in
    let dirs = entries items.Direction 0 v in
    let end = items.End ∷ [] in
    ap found (
    after_append p g dirs end
    ∙ ap (λ g. after_all p g end) (list_told p items.Direction (λ xs. record (blank width) { direction = xs }) g (λ j v g. refl) (λ xs j v. refl) v fit refl)
    )
    ∙ head_alone (bounds p ∷ []) (vector_test p v)
