-- The image of each operator once, with names that become `n` and themselves: `x` becomes `nx`.
use Rattle.std.specs.Prelude.{◌≡◌, ℕ, List, ◌∷◌, codes, true}
use Rattle.std.proofs.Common.{refl}
use Rattle.op_trees.specs.Tree.{Tree, Truth, Number, Name, One, Two, Three}
use Rattle.prism_tree.specs.declared.operator.PrismOp.TheVariants as P
use Rattle.prism_tree.specs.Syntax.{Expression}
use Rattle.jani_table.specs.declared.operator.JaniOp.{JaniOp}
use Rattle.jani_table.specs.declared.operator.JaniOp.TheVariants as J
use Rattle.prism_images.specs.Image.{image, nought_literal}

abbrev new : List ℕ → List ℕ
new s = 110 ∷ s

abbrev x : Expression
x = Name 7 (codes "x")

abbrev y : Expression
y = Name 9 (codes "y")

abbrev z : Expression
z = Name 11 (codes "z")

abbrev nx : Tree JaniOp
nx = Name 7 (codes "nx")

abbrev ny : Tree JaniOp
ny = Name 9 (codes "ny")

abbrev nz : Tree JaniOp
nz = Name 11 (codes "nz")

-- leaves
truth : image new (Truth 3 true) ≡ Truth 3 true
truth = refl

literal : image new (Number 3 nought_literal) ≡ Number 3 nought_literal
literal = refl

name : image new x ≡ nx
name = refl

-- one operand: `-x` is 0 - nx
minus : image new (One 5 P.Neg x) ≡ Two 5 J.Sub (Number 5 nought_literal) nx
minus = refl

not_x : image new (One 5 P.Not x) ≡ One 5 J.Not nx
not_x = refl

floor_x : image new (One 5 P.Floor x) ≡ One 5 J.Floor nx
floor_x = refl

ceil_x : image new (One 5 P.Ceil x) ≡ One 5 J.Ceil nx
ceil_x = refl

-- two operands
product : image new (Two 5 P.Mul x y) ≡ Two 5 J.Mul nx ny
product = refl

quotient : image new (Two 5 P.Div x y) ≡ Two 5 J.Div nx ny
quotient = refl

sum_of : image new (Two 5 P.Add x y) ≡ Two 5 J.Add nx ny
sum_of = refl

difference : image new (Two 5 P.Sub x y) ≡ Two 5 J.Sub nx ny
difference = refl

less : image new (Two 5 P.Less x y) ≡ Two 5 J.Less nx ny
less = refl

at_most : image new (Two 5 P.AtMost x y) ≡ Two 5 J.AtMost nx ny
at_most = refl

at_least : image new (Two 5 P.AtLeast x y) ≡ Two 5 J.AtLeast nx ny
at_least = refl

greater : image new (Two 5 P.Greater x y) ≡ Two 5 J.Greater nx ny
greater = refl

equal : image new (Two 5 P.Equal x y) ≡ Two 5 J.Equal nx ny
equal = refl

unequal : image new (Two 5 P.Unequal x y) ≡ Two 5 J.Unequal nx ny
unequal = refl

and_of : image new (Two 5 P.And x y) ≡ Two 5 J.And nx ny
and_of = refl

or_of : image new (Two 5 P.Or x y) ≡ Two 5 J.Or nx ny
or_of = refl

iff : image new (Two 5 P.Iff x y) ≡ Two 5 J.Equal nx ny
iff = refl

implies : image new (Two 5 P.Implies x y) ≡ Two 5 J.Implies nx ny
implies = refl

least : image new (Two 5 P.Min x y) ≡ Two 5 J.Min nx ny
least = refl

greatest : image new (Two 5 P.Max x y) ≡ Two 5 J.Max nx ny
greatest = refl

remainder : image new (Two 5 P.Mod x y) ≡ Two 5 J.Rem nx ny
remainder = refl

-- three
choice : image new (Three 5 P.Ite x y z) ≡ Three 5 J.Ite nx ny nz
choice = refl

-- below the root too: `x <=> -(y)`
deep : image new (Two 8 P.Iff x (One 6 P.Neg y)) ≡ Two 8 J.Equal nx (Two 6 J.Sub (Number 6 nought_literal) ny)
deep = refl
