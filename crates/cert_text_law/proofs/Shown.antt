-- The items of a text that is read are those of its certificate.
use Rattle.std.proofs.Common.{◌≡◌, ℕ, zero, suc, ◌+◌, ◌<◌, ◌≤◌, true, false, List, [], ◌∷◌, ◌++◌, length, set, refl, sym, ap, ◌∙◌, arith, append_assoc, append-nil, pos}
use Rattle.std.specs.List.{flat_map, AllByRecursion}
use Rattle.std.specs.Ordering.{int_eq}
use Rattle.std.proofs.lemmas.List.Concat.{flat_map-append}
use Rattle.rational.specs.Rational.{ℚ, zero_ℚ}
use Rattle.rational.proofs.Wholes.{num-whole}
use Rattle.program_law.specs.Program.{Program}
use Rattle.rational.specs.Tests.{is_zero}
use Rattle.program_law.specs.Changes.{zeros}
use Rattle.program_law.specs.declared.Square.{Square}
use Rattle.certificate_law.specs.declared.Node.{Node}
use Rattle.certificate_law.specs.declared.Node.TheVariants as nodes
use Rattle.certificate_law.specs.Fits.{FitsNode}
use Rattle.cert_grammar.specs.declared.items.Item.{Item}
use Rattle.cert_grammar.specs.declared.items.Item.TheVariants as items
use Rattle.cert_text_law.specs.Told.{with_coef, with_w, with_y, on_last}
use Rattle.cert_text_law.specs.CertificateItems.{entry_items, entries, square_items, node_items}

-- ---- lists with nothing from a place on

abbrev pub AllZero : List ℚ → Type 0
AllZero vs = AllByRecursion (λ v. is_zero v ≡ true) vs

abbrev pub ZeroFrom : ℕ → List ℚ → Type 0
ZeroFrom zero vs = AllZero vs
ZeroFrom (suc n) [] = Unit {0}
ZeroFrom (suc n) (v ∷ vs) = ZeroFrom n vs

zero_zero : is_zero zero_ℚ ≡ true
zero_zero = ap (λ z. int_eq z (pos 0)) (num-whole (pos 0))

pub zeros_zero : (n : ℕ) → AllZero (zeros n)
zeros_zero zero = tt
zeros_zero (suc n) = (zero_zero, zeros_zero n)

pub none_entries : (make : ℕ → ℚ → Item) (j : ℕ) (vs : List ℚ) → AllZero vs → entries make j vs ≡ []
none_entries make j [] h = refl
none_entries make j (v ∷ vs) h = rw h.0 (none_entries make (suc j) vs h.1)

shifted : (make : ℕ → ℚ → Item) (v : ℚ) (a b : ℕ) → a ≡ b → make a v ∷ [] ≡ make b v ∷ []
shifted make v a b e = ap (λ k. make k v ∷ []) e

pub put_entries : (make : ℕ → ℚ → Item) (base n j : ℕ) (v : ℚ) (vs : List ℚ) → ZeroFrom n vs → n ≤ j → j < length vs → is_zero v ≡ false → entries make base (set vs j v) ≡ entries make base vs ++ make (base + j) v ∷ []
put_entries make base n j v [] z le lt some = absurd (omega (arith, lt))
put_entries make base zero zero v (x ∷ xs) z le lt some =
    let new : entries make base (v ∷ xs) ≡ make base v ∷ entries make (suc base) xs = rw some refl in
    let old : entries make base (x ∷ xs) ≡ [] = none_entries make base (x ∷ xs) z in
    let same : base ≡ base + 0 = omega arith in
    new ∙ ap (λ (l : List Item). make base v ∷ l) (none_entries make (suc base) xs z.1) ∙ shifted make v base (base + 0) same ∙ ap (λ (l : List Item). l ++ make (base + 0) v ∷ []) (sym old)
put_entries make base (suc n) zero v (x ∷ xs) z le lt some = absurd (omega (arith, le))
put_entries make base zero (suc j) v (x ∷ xs) z le lt some =
    let same : suc base + j ≡ base + suc j = omega arith in
    ap (λ (l : List Item). entry_items make base x ++ l) (put_entries make (suc base) zero j v xs z.1 (omega arith) (omega (arith, lt)) some ∙ ap (λ (l : List Item). entries make (suc base) xs ++ l) (shifted make v (suc base + j) (base + suc j) same))
    ∙ sym (append_assoc (entry_items make base x) (entries make (suc base) xs) (make (base + suc j) v ∷ []))
put_entries make base (suc n) (suc j) v (x ∷ xs) z le lt some =
    let same : suc base + j ≡ base + suc j = omega arith in
    ap (λ (l : List Item). entry_items make base x ++ l) (put_entries make (suc base) n j v xs z (omega (arith, le)) (omega (arith, lt)) some ∙ ap (λ (l : List Item). entries make (suc base) xs ++ l) (shifted make v (suc base + j) (base + suc j) same))
    ∙ sym (append_assoc (entry_items make base x) (entries make (suc base) xs) (make (base + suc j) v ∷ []))

pub put_zero : (n j : ℕ) (v : ℚ) (vs : List ℚ) → ZeroFrom n vs → n ≤ j → ZeroFrom (suc j) (set vs j v)
put_zero n j v [] z le = tt
put_zero zero zero v (x ∷ xs) z le = z.1
put_zero (suc n) zero v (x ∷ xs) z le = absurd (omega (arith, le))
put_zero zero (suc j) v (x ∷ xs) z le = put_zero zero j v xs z.1 (omega arith)
put_zero (suc n) (suc j) v (x ∷ xs) z le = put_zero n j v xs z (omega (arith, le))

-- an entry put into a list from its beginning
pub put_first : (make : ℕ → ℚ → Item) (n j : ℕ) (v : ℚ) (vs : List ℚ) → ZeroFrom n vs → n ≤ j → j < length vs → is_zero v ≡ false → entries make 0 (set vs j v) ≡ entries make 0 vs ++ make j v ∷ []
put_first make n j v vs z le lt some =
    let same : 0 + j ≡ j = omega arith in
    put_entries make 0 n j v vs z le lt some ∙ ap (λ (l : List Item). entries make 0 vs ++ l) (shifted make v (0 + j) j same)

-- ---- the last square

abbrev pub LastCoef : ℕ → List Square → Type 0
LastCoef n [] = ⊥
LastCoef n (q ∷ []) = ZeroFrom n q.coef
LastCoef n (q ∷ r ∷ qs) = LastCoef n (r ∷ qs)

pub coef_pushed : (qs : List Square) (q : Square) → AllZero q.coef → LastCoef 0 (qs ++ q ∷ [])
coef_pushed [] q h = h
coef_pushed (r ∷ []) q h = h
coef_pushed (r ∷ t ∷ qs) q h = coef_pushed (t ∷ qs) q h

pub square_pushed : (qs : List Square) (q : Square) → AllZero q.coef → flat_map square_items (qs ++ q ∷ []) ≡ flat_map square_items qs ++ items.Square q.weight ∷ []
square_pushed qs q h =
    flat_map-append square_items qs (q ∷ []) ∙ ap (λ (l : List Item). flat_map square_items qs ++ ((items.Square q.weight ∷ l) ++ [])) (none_entries items.Coef 0 q.coef h)

pub coef_zero : (n j : ℕ) (v : ℚ) (qs : List Square) → LastCoef n qs → n ≤ j → LastCoef (suc j) (on_last (with_coef j v) qs)
coef_zero n j v [] h le = absurd h
coef_zero n j v (q ∷ []) h le = put_zero n j v q.coef h le
coef_zero n j v (q ∷ r ∷ []) h le = coef_zero n j v (r ∷ []) h le
coef_zero n j v (q ∷ r ∷ t ∷ qs) h le = coef_zero n j v (r ∷ t ∷ qs) h le

pub coef_put : (n j c : ℕ) (v : ℚ) (qs : List Square) → LastCoef n qs → n ≤ j → AllByRecursion (λ q. length q.coef ≡ c) qs → j < c → is_zero v ≡ false
    → flat_map square_items (on_last (with_coef j v) qs) ≡ flat_map square_items qs ++ items.Coef j v ∷ []
coef_put n j c v [] h le w lt some = absurd h
coef_put n j c v (q ∷ []) h le w lt some =
    ap (λ (l : List Item). (items.Square q.weight ∷ l) ++ []) (put_first items.Coef n j v q.coef h le (omega (arith, w.0, lt)) some)
    ∙ append-nil (items.Square q.weight ∷ (entries items.Coef 0 q.coef ++ items.Coef j v ∷ []))
    ∙ ap (λ (l : List Item). l ++ items.Coef j v ∷ []) (sym (append-nil (items.Square q.weight ∷ entries items.Coef 0 q.coef)))
coef_put n j c v (q ∷ r ∷ qs) h le w lt some =
    ap (λ (l : List Item). square_items q ++ l) (coef_put n j c v (r ∷ qs) h le w.1 lt some) ∙ sym (append_assoc (square_items q) (flat_map square_items (r ∷ qs)) (items.Coef j v ∷ []))

-- ---- the last node

abbrev W_open : ℕ → Node → Type 0
W_open n (nodes.Bound w y) = ZeroFrom n w × AllZero y
W_open n node = ⊥

abbrev Y_open : ℕ → Node → Type 0
Y_open n (nodes.Bound w y) = ZeroFrom n y
Y_open n (nodes.Farkas y) = ZeroFrom n y
Y_open n node = ⊥

abbrev pub LastNode : (Node → Type 0) → List Node → Type 0
LastNode P [] = ⊥
LastNode P (n ∷ []) = P n
LastNode P (n ∷ m ∷ ns) = LastNode P (m ∷ ns)

last_pushed : (P : Node → Type 0) (ns : List Node) (n : Node) → P n → LastNode P (ns ++ n ∷ [])
last_pushed P [] n h = h
last_pushed P (m ∷ []) n h = h
last_pushed P (m ∷ o ∷ ns) n h = last_pushed P (o ∷ ns) n h

last_changed : (P Q : Node → Type 0) (f : Node → Node) → ((n : Node) → P n → Q (f n)) → (ns : List Node) → LastNode P ns → LastNode Q (on_last f ns)
last_changed P Q f g [] h = absurd h
last_changed P Q f g (n ∷ []) h = g n h
last_changed P Q f g (n ∷ m ∷ []) h = last_changed P Q f g (m ∷ []) h
last_changed P Q f g (n ∷ m ∷ o ∷ ns) h = last_changed P Q f g (m ∷ o ∷ ns) h

last_more : (P R : Node → Type 0) (f : Node → Node) (i : Item) → ((n : Node) → P n → R n → node_items (f n) ≡ node_items n ++ i ∷ []) → (ns : List Node) → LastNode P ns → AllByRecursion R ns
    → flat_map node_items (on_last f ns) ≡ flat_map node_items ns ++ i ∷ []
last_more P R f i g [] h r = absurd h
last_more P R f i g (n ∷ []) h r = append-nil (node_items (f n)) ∙ g n h r.0 ∙ ap (λ (l : List Item). l ++ i ∷ []) (sym (append-nil (node_items n)))
last_more P R f i g (n ∷ m ∷ ns) h r =
    ap (λ (l : List Item). node_items n ++ l) (last_more P R f i g (m ∷ ns) h r.1) ∙ sym (append_assoc (node_items n) (flat_map node_items (m ∷ ns)) (i ∷ []))

pub node_pushed : (ns : List Node) (n : Node) (i : Item) → node_items n ≡ i ∷ [] → flat_map node_items (ns ++ n ∷ []) ≡ flat_map node_items ns ++ i ∷ []
node_pushed ns n i e = flat_map-append node_items ns (n ∷ []) ∙ ap (λ (l : List Item). flat_map node_items ns ++ (l ++ [])) e

w_more : (p : Program) (k j : ℕ) (v : ℚ) → k ≤ j → j < length p.columns → is_zero v ≡ false → (n : Node) → W_open k n → FitsNode p n → node_items (with_w j v n) ≡ node_items n ++ items.W j v ∷ []
w_more p k j v le lt some (nodes.Bound w y) h f =
    let none = none_entries items.Y 0 y h.1 in
    ap (λ (l : List Item). items.Bound ∷ (entries items.W 0 (set w j v) ++ l)) none
    ∙ ap (λ (l : List Item). items.Bound ∷ l) (append-nil (entries items.W 0 (set w j v)) ∙ put_first items.W k j v w h.0 le (omega (arith, f.0, lt)) some)
    ∙ ap (λ (l : List Item). items.Bound ∷ (l ++ items.W j v ∷ [])) (sym (append-nil (entries items.W 0 w)) ∙ ap (λ (l : List Item). entries items.W 0 w ++ l) (sym none))
w_more p k j v le lt some n h f = absurd h

w_open_more : (k j : ℕ) (v : ℚ) → k ≤ j → (n : Node) → W_open k n → W_open (suc j) (with_w j v n)
w_open_more k j v le (nodes.Bound w y) h = (put_zero k j v w h.0 le, h.1)
w_open_more k j v le n h = absurd h

y_more : (p : Program) (k j : ℕ) (v : ℚ) → k ≤ j → j < length p.rows → is_zero v ≡ false → (n : Node) → Y_open k n → FitsNode p n → node_items (with_y j v n) ≡ node_items n ++ items.Y j v ∷ []
y_more p k j v le lt some (nodes.Bound w y) h f =
    ap (λ (l : List Item). items.Bound ∷ (entries items.W 0 w ++ l)) (put_first items.Y k j v y h le (omega (arith, f.1, lt)) some)
    ∙ ap (λ (l : List Item). items.Bound ∷ l) (sym (append_assoc (entries items.W 0 w) (entries items.Y 0 y) (items.Y j v ∷ [])))
y_more p k j v le lt some (nodes.Farkas y) h f = ap (λ (l : List Item). items.Farkas ∷ l) (put_first items.Y k j v y h le (omega (arith, f, lt)) some)
y_more p k j v le lt some n h f = absurd h

y_open_more : (k j : ℕ) (v : ℚ) → k ≤ j → (n : Node) → Y_open k n → Y_open (suc j) (with_y j v n)
y_open_more k j v le (nodes.Bound w y) h = put_zero k j v y h le
y_open_more k j v le (nodes.Farkas y) h = put_zero k j v y h le
y_open_more k j v le n h = absurd h

y_begun : (k : ℕ) (n : Node) → W_open k n → Y_open 0 n
y_begun k (nodes.Bound w y) h = h.1
y_begun k n h = absurd h

last_weaker : (P Q : Node → Type 0) → ((n : Node) → P n → Q n) → (ns : List Node) → LastNode P ns → LastNode Q ns
last_weaker P Q g [] h = h
last_weaker P Q g (n ∷ []) h = g n h
last_weaker P Q g (n ∷ m ∷ ns) h = last_weaker P Q g (m ∷ ns) h

abbrev pub LastW : ℕ → List Node → Type 0
LastW n ns = LastNode (W_open n) ns

abbrev pub LastY : ℕ → List Node → Type 0
LastY n ns = LastNode (Y_open n) ns

pub w_put : (p : Program) (k j : ℕ) (v : ℚ) (ns : List Node) → LastW k ns → k ≤ j → AllByRecursion (FitsNode p) ns → j < length p.columns → is_zero v ≡ false → flat_map node_items (on_last (with_w j v) ns) ≡ flat_map node_items ns ++ items.W j v ∷ []
w_put p k j v ns h le f lt some = last_more (W_open k) (FitsNode p) (with_w j v) (items.W j v) (w_more p k j v le lt some) ns h f

pub y_put : (p : Program) (k j : ℕ) (v : ℚ) (ns : List Node) → LastY k ns → k ≤ j → AllByRecursion (FitsNode p) ns → j < length p.rows → is_zero v ≡ false → flat_map node_items (on_last (with_y j v) ns) ≡ flat_map node_items ns ++ items.Y j v ∷ []
y_put p k j v ns h le f lt some = last_more (Y_open k) (FitsNode p) (with_y j v) (items.Y j v) (y_more p k j v le lt some) ns h f

pub w_next : (k j : ℕ) (v : ℚ) (ns : List Node) → k ≤ j → LastW k ns → LastW (suc j) (on_last (with_w j v) ns)
w_next k j v ns le h = last_changed (W_open k) (W_open (suc j)) (with_w j v) (w_open_more k j v le) ns h

pub y_next : (k j : ℕ) (v : ℚ) (ns : List Node) → k ≤ j → LastY k ns → LastY (suc j) (on_last (with_y j v) ns)
y_next k j v ns le h = last_changed (Y_open k) (Y_open (suc j)) (with_y j v) (y_open_more k j v le) ns h

pub w_to_y : (k : ℕ) (ns : List Node) → LastW k ns → LastY 0 ns
w_to_y k ns h = last_weaker (W_open k) (Y_open 0) (y_begun k) ns h

pub bound_begun : (ns : List Node) (w y : List ℚ) → AllZero w → AllZero y → LastW 0 (ns ++ nodes.Bound w y ∷ [])
bound_begun ns w y a b = last_pushed (W_open 0) ns (nodes.Bound w y) (a, b)

pub farkas_begun : (ns : List Node) (y : List ℚ) → AllZero y → LastY 0 (ns ++ nodes.Farkas y ∷ [])
farkas_begun ns y a = last_pushed (Y_open 0) ns (nodes.Farkas y) a

pub bound_pushed : (ns : List Node) (w y : List ℚ) → AllZero w → AllZero y → flat_map node_items (ns ++ nodes.Bound w y ∷ []) ≡ flat_map node_items ns ++ items.Bound ∷ []
bound_pushed ns w y a b = node_pushed ns (nodes.Bound w y) items.Bound (ap (λ (l : List Item). items.Bound ∷ (l ++ entries items.Y 0 y)) (none_entries items.W 0 w a) ∙ ap (λ (l : List Item). items.Bound ∷ l) (none_entries items.Y 0 y b))

pub farkas_pushed : (ns : List Node) (y : List ℚ) → AllZero y → flat_map node_items (ns ++ nodes.Farkas y ∷ []) ≡ flat_map node_items ns ++ items.Farkas ∷ []
farkas_pushed ns y a = node_pushed ns (nodes.Farkas y) items.Farkas (ap (λ (l : List Item). items.Farkas ∷ l) (none_entries items.Y 0 y a))
