-- What the items of a certificate tell is the certificate.
use Rattle.std.proofs.Common.{◌≡◌, ℕ, suc, Bool, true, false, List, [], ◌∷◌, ◌++◌, length, set, refl, sym, ap, ◌∙◌, arith, append_assoc, append-nil}
use Rattle.std.specs.Prelude.{if◌then◌else◌}
use Rattle.std.specs.List.{flat_map, AllByRecursion}
use Rattle.std.proofs.lemmas.Int.{ints}
use Rattle.std.proofs.lemmas.List.{length_push}
use Rattle.rational.specs.Rational.{ℚ, zero_ℚ}
use Rattle.rational.proofs.Field.{num-zero}
use Rattle.program_law.specs.Program.{Program}
use Rattle.rational.specs.Tests.{is_zero}
use Rattle.program_law.specs.Changes.{zeros}
use Rattle.program_law.specs.declared.Square.{Square}
use Rattle.certificate_law.specs.declared.Node.{Node}
use Rattle.certificate_law.specs.declared.Node.TheVariants as nodes
use Rattle.certificate_law.specs.Fits.{FitsNode}
use Rattle.cert_grammar.specs.declared.items.Item.{Item}
use Rattle.cert_grammar.specs.declared.items.Item.TheVariants as items
use Rattle.cert_text_law.specs.Told.{Told, with_item, with_coef, with_w, with_y}
use Rattle.cert_text_law.proofs.LastOf.{on_last-append}
use Rattle.cert_text_law.proofs.TextsRead.{tell_all}
use Rattle.cert_text_law.specs.CertificateItems.{entries, square_items, node_items}

pub tell_append : (p : Program) (d : Told) (xs ys : List Item) → tell_all p d (xs ++ ys) ≡ tell_all p (tell_all p d xs) ys
tell_append p d [] ys = refl
tell_append p d (x ∷ xs) ys = tell_append p (with_item (length p.columns) (length p.rows) x d) xs ys

-- ---- entries

is_zero_lem : (v : ℚ) → is_zero v ≡ true → v ≡ zero_ℚ
is_zero_lem v e = num-zero v (grind (arith, ints))

-- the list with these entries put from a place on
abbrev put_all : List ℚ → ℕ → List ℚ → List ℚ
put_all xs j [] = xs
put_all xs j (v ∷ vs) = put_all (if is_zero v then xs else set xs j v) (suc j) vs

tell_entries : (p : Program) (make : ℕ → ℚ → Item) (at : List ℚ → Told) → ((xs : List ℚ) (j : ℕ) (v : ℚ) → with_item (length p.columns) (length p.rows) (make j v) (at xs) ≡ at (set xs j v))
    → (xs : List ℚ) (j : ℕ) (vs : List ℚ) → tell_all p (at xs) (entries make j vs) ≡ at (put_all xs j vs)
tell_entries p make at h xs j [] = refl
tell_entries p make at h xs j (v ∷ vs) = go (λ ys. tell_entries p make at h ys (suc j) vs) (is_zero v)
  where
    go : ((ys : List ℚ) → tell_all p (at ys) (entries make (suc j) vs) ≡ at (put_all ys (suc j) vs))
        → (t : Bool) → tell_all p (at xs) ((if t then [] else make j v ∷ []) ++ entries make (suc j) vs) ≡ at (put_all (if t then xs else set xs j v) (suc j) vs)
    go rest true = rest xs
    go rest false = ap (λ d. tell_all p d (entries make (suc j) vs)) (h xs j v) ∙ rest (set xs j v)

set_there : (pre : List ℚ) (x v : ℚ) (post : List ℚ) → set (pre ++ x ∷ post) (length pre) v ≡ pre ++ v ∷ post
set_there [] x v post = refl
set_there (y ∷ pre) x v post = ap (λ (l : List ℚ). y ∷ l) (set_there pre x v post)

filled : (pre vs : List ℚ) → put_all (pre ++ zeros (length vs)) (length pre) vs ≡ pre ++ vs
filled pre [] = refl
filled pre (v ∷ vs) =
    let here : (if is_zero v then pre ++ zero_ℚ ∷ zeros (length vs) else set (pre ++ zero_ℚ ∷ zeros (length vs)) (length pre) v) ≡ pre ++ v ∷ zeros (length vs) = go (is_zero v) refl in
    let again : pre ++ v ∷ zeros (length vs) ≡ (pre ++ v ∷ []) ++ zeros (length vs) = sym (append_assoc pre (v ∷ []) (zeros (length vs))) in
    let place : suc (length pre) ≡ length (pre ++ v ∷ []) = omega (arith, length_push pre v) in
    ap (λ (l : List ℚ). put_all l (suc (length pre)) vs) (here ∙ again)
    ∙ ap (λ k. put_all ((pre ++ v ∷ []) ++ zeros (length vs)) k vs) place
    ∙ filled (pre ++ v ∷ []) vs
    ∙ append_assoc pre (v ∷ []) vs
  where
    go : (t : Bool) → is_zero v ≡ t → (if t then pre ++ zero_ℚ ∷ zeros (length vs) else set (pre ++ zero_ℚ ∷ zeros (length vs)) (length pre) v) ≡ pre ++ v ∷ zeros (length vs)
    go true e = ap (λ z. pre ++ z ∷ zeros (length vs)) (sym (is_zero_lem v e))
    go false e = set_there pre zero_ℚ v (zeros (length vs))

pub tell_list : (p : Program) (make : ℕ → ℚ → Item) (at : List ℚ → Told) → ((xs : List ℚ) (j : ℕ) (v : ℚ) → with_item (length p.columns) (length p.rows) (make j v) (at xs) ≡ at (set xs j v))
    → (n : ℕ) (vs : List ℚ) → length vs ≡ n → tell_all p (at (zeros n)) (entries make 0 vs) ≡ at vs
tell_list p make at h n vs e = ap (λ k. tell_all p (at (zeros k)) (entries make 0 vs)) (sym e) ∙ tell_entries p make at h (zeros (length vs)) 0 vs ∙ ap at (filled [] vs)

-- ---- squares

tell_square : (p : Program) (d : Told) (q : Square) → length q.coef ≡ length p.columns → tell_all p d (square_items q) ≡ record d { squares = d.squares ++ q ∷ [] }
tell_square p d q e =
    tell_list p items.Coef (λ xs. record d { squares = d.squares ++ (record { weight = q.weight; coef = xs }) ∷ [] })
    (λ xs j v. ap (λ (qs : List Square). record d { squares = qs }) (on_last-append (with_coef j v) d.squares (record { weight = q.weight; coef = xs })))
    (length p.columns) q.coef e

pub tell_squares : (p : Program) (d : Told) (qs : List Square) → AllByRecursion (λ q. length q.coef ≡ length p.columns) qs → tell_all p d (flat_map square_items qs) ≡ record d { squares = d.squares ++ qs }
tell_squares p d [] h = ap (λ (qs : List Square). record d { squares = qs }) (sym (append-nil d.squares))
tell_squares p d (q ∷ qs) h =
    tell_append p d (square_items q) (flat_map square_items qs)
    ∙ ap (λ d. tell_all p d (flat_map square_items qs)) (tell_square p d q h.0)
    ∙ tell_squares p (record d { squares = d.squares ++ q ∷ [] }) qs h.1
    ∙ ap (λ (l : List Square). record d { squares = l }) (append_assoc d.squares (q ∷ []) qs)

-- ---- nodes

tell_farkas : (p : Program) (d : Told) (y : List ℚ) → length y ≡ length p.rows → tell_all p d (node_items (nodes.Farkas y)) ≡ record d { nodes = d.nodes ++ nodes.Farkas y ∷ [] }
tell_farkas p d y e =
    tell_list p items.Y (λ ys. record d { nodes = d.nodes ++ nodes.Farkas ys ∷ [] }) (λ ys j v. ap (λ (ns : List Node). record d { nodes = ns }) (on_last-append (with_y j v) d.nodes (nodes.Farkas ys))) (length p.rows) y e

tell_bound : (p : Program) (d : Told) (w y : List ℚ) → length w ≡ length p.columns → length y ≡ length p.rows → tell_all p d (node_items (nodes.Bound w y)) ≡ record d { nodes = d.nodes ++ nodes.Bound w y ∷ [] }
tell_bound p d w y e f =
    tell_append p (record d { nodes = d.nodes ++ nodes.Bound (zeros (length p.columns)) (zeros (length p.rows)) ∷ [] }) (entries items.W 0 w) (entries items.Y 0 y)
    ∙ ap (λ d. tell_all p d (entries items.Y 0 y))
    (tell_list p items.W (λ ws. record d { nodes = d.nodes ++ nodes.Bound ws (zeros (length p.rows)) ∷ [] })
    (λ ws j v. ap (λ (ns : List Node). record d { nodes = ns }) (on_last-append (with_w j v) d.nodes (nodes.Bound ws (zeros (length p.rows))))) (length p.columns) w e)
    ∙ tell_list p items.Y (λ ys. record d { nodes = d.nodes ++ nodes.Bound w ys ∷ [] }) (λ ys j v. ap (λ (ns : List Node). record d { nodes = ns }) (on_last-append (with_y j v) d.nodes (nodes.Bound w ys))) (length p.rows) y f

tell_node : (p : Program) (d : Told) (n : Node) → FitsNode p n → tell_all p d (node_items n) ≡ record d { nodes = d.nodes ++ n ∷ [] }
tell_node p d (nodes.Branch j k) h = refl
tell_node p d (nodes.Bound w y) h = tell_bound p d w y h.0 h.1
tell_node p d (nodes.Farkas y) h = tell_farkas p d y h
tell_node p d (nodes.Cross j) h = refl

pub tell_nodes : (p : Program) (d : Told) (ns : List Node) → AllByRecursion (FitsNode p) ns → tell_all p d (flat_map node_items ns) ≡ record d { nodes = d.nodes ++ ns }
tell_nodes p d [] h = ap (λ (ns : List Node). record d { nodes = ns }) (sym (append-nil d.nodes))
tell_nodes p d (n ∷ ns) h =
    tell_append p d (node_items n) (flat_map node_items ns)
    ∙ ap (λ d. tell_all p d (flat_map node_items ns)) (tell_node p d n h.0)
    ∙ tell_nodes p (record d { nodes = d.nodes ++ n ∷ [] }) ns h.1
    ∙ ap (λ (l : List Node). record d { nodes = l }) (append_assoc d.nodes (n ∷ []) ns)
