use Rattle.std.proofs.Common.{◌≡◌, ◌∙◌, ◌+◌, ◌<◌, ◌≤◌, ℕ, List, Bool, true, false, ◌&&◌, [], ◌∷◌, suc, length, get_or, drop, drop_of_length-le, le_trans, le_of_eq, refl, sym, ap, ap₂, subst}
use Rattle.std.specs.Cmp.Lexicographic.{pointwise}
use Rattle.basics.specs.Lists.{drop_item}
use Rattle.process_core.proofs.equality.all_same.Goals as goal

and_false : (b r : Bool) → false ≡ r → false ≡ (b && r)
and_false true r e = e
and_false false r e = refl

-- two lists from a place on
from_here : {T : Type 0} (test : T → T → Bool) (xs ys : List T) (i : ℕ) (x y : T) → i < length xs → length xs ≡ length ys → x ≡ get_or xs i x → y ≡ get_or ys i y →
    pointwise test (drop i xs) (drop i ys) ≡ (test x y && pointwise test (drop (i + 1) xs) (drop (i + 1) ys))
from_here test xs ys i x y h e f g = ap₂ (pointwise test) (drop_item xs i x h f) (drop_item ys i y (subst (λ n. i < n) e h) g)

-- lists that differ in length
apart : {T : Type 0} (test : T → T → Bool) (xs ys : List T) → (length xs ≡ length ys → ⊥) → false ≡ pointwise test xs ys
apart test [] [] ne = absurd (ne refl)
apart test [] (y ∷ ys) ne = refl
apart test (x ∷ xs) [] ne = refl
apart test (x ∷ xs) (y ∷ ys) ne = and_false (test x y) _ (apart test xs ys (λ e. ne (ap suc e)))

-- two lists past their ends
all_past : {T : Type 0} (test : T → T → Bool) (xs ys : List T) (i : ℕ) → length xs ≡ length ys → length xs ≤ i → pointwise test (drop i xs) (drop i ys) ≡ true
all_past test xs ys i e past = ap₂ (pointwise test) (drop_of_length-le xs past) (drop_of_length-le ys (le_trans (le_of_eq (sym e)) past))

pub loop-i-preserved : goal.loop-i-preserved
loop-i-preserved g c =
    let test = g.T.Same.test in
    let a = c.args.a.now in
    let b = c.args.b.now in
    let i = c.loop-i.i in
    c.loop-i.invariant
    ∙ from_here test a b i c.index-a-i.result c.index-b-i.result c.loop-i-test.true c.if-a-b.false c.index-a-i.is c.index-b-i.is
    ∙ ap (λ r. r && pointwise test (drop (i + 1) a) (drop (i + 1) b)) (sym c.same.ensures ∙ c.if-not-same.false)

pub returns-then-not-same : goal.returns-then-not-same
returns-then-not-same g c =
    let test = g.T.Same.test in
    let a = c.args.a.now in
    let b = c.args.b.now in
    let i = c.loop-i.i in
    sym
    (c.loop-i.invariant
    ∙ from_here test a b i c.index-a-i.result c.index-b-i.result c.loop-i-test.true c.if-a-b.false c.index-a-i.is c.index-b-i.is
    ∙ ap (λ r. r && pointwise test (drop (i + 1) a) (drop (i + 1) b)) (sym c.same.ensures ∙ c.if-not-same.true))

pub returns-then-a-b : goal.returns-then-a-b
returns-then-a-b g c = apart g.T.Same.test c.args.a.now c.args.b.now c.if-a-b.true

pub returns : goal.returns
returns g c = sym (c.loop-i.invariant ∙ all_past g.T.Same.test c.args.a.now c.args.b.now c.loop-i.i c.if-a-b.false c.loop-i-test.false)

pub bounds-b-i : goal.bounds-b-i
bounds-b-i g c = subst (λ n. c.loop-i.i < n) c.if-a-b.false c.loop-i-test.true
