-- The types of names whose bodies lead round in no circle, and so those of formulas that stand in an order.
use Rattle.std.specs.Prelude.{◌≡◌, ℕ, zero, suc, ◌<◌, List, length, Option, Some, None}
use Rattle.std.proofs.Common.{refl, ap, arith}
use Rattle.op_trees.specs.Meaning.{Meaning}
use Rattle.op_trees.specs.Tree.{Tree}
use Rattle.op_trees.specs.Types.{Types, type_through, types_looked_up}
use Rattle.op_trees.specs.Seen.{FallsTo, IsFalling}
use Rattle.op_trees.specs.SeenLaws.{names_then}
use Rattle.op_trees.specs.TypeLaws.{type_agree_on}
use Rattle.process_core.specs.Ready.{Name}
use Rattle.prism_tree.specs.Operators.{prism_meaning}
use Rattle.prism_tree.specs.Syntax.{File}
use Rattle.prism_flat.specs.Names.{formula_body}
use Rattle.prism_flat.specs.Order.{place_in, IsOrder, in_depth}
use Rattle.prism_check.specs.TypeFaults.{types, declared_types}

module _ {O : Type 0} (m : Meaning O) (bodies : Name → Option (Tree O)) (rank : Name → ℕ) (falling : IsFalling bodies rank) (given : Types) where
  abbrev at_depth : ℕ → Types
  at_depth n = types_looked_up m bodies n given

  through_agrees : (n : ℕ) → ((y : Name) → FallsTo bodies rank n y → at_depth n y ≡ at_depth (suc n) y) →
      (x : Name) (o : Option (Tree O)) → bodies x ≡ o → FallsTo bodies rank (suc n) x →
      type_through m o (at_depth n) (given x) ≡ type_through m o (at_depth (suc n)) (given x)
  through_agrees n ih x None e f = refl
  through_agrees n ih x (Some b) e f =
      let low : rank x < suc n = f.below b e in
      type_agree_on m b (at_depth n) (at_depth (suc n))
      (names_then (FallsTo bodies rank (rank x)) (λ y. at_depth n y ≡ at_depth (suc n) y)
      (λ y g. ih y (record {
        below = λ c k. let deep : rank y < rank x = g.below c k in omega arith;
      })) b (falling.falls x b e))

  through_none : (x : Name) (o : Option (Tree O)) → bodies x ≡ o → FallsTo bodies rank 0 x → given x ≡ type_through m o given (given x)
  through_none x None e f = refl
  through_none x (Some b) e f = absurd (let low : rank x < 0 = f.below b e in omega arith)

  -- at a depth above its rank a name has the type of its body, under the same types
  pub types_looked_up_is : (n : ℕ) (x : Name) → FallsTo bodies rank n x → types_looked_up m bodies n given x ≡ type_through m (bodies x) (types_looked_up m bodies n given) (given x)
  types_looked_up_is zero x f = through_none x (bodies x) refl f
  types_looked_up_is (suc n) x f = through_agrees n (types_looked_up_is n) x (bodies x) refl f

-- a name without a body has the type that it is given
pub types_of_plain : {O : Type 0} (m : Meaning O) (bodies : Name → Option (Tree O)) (given : Types) (n : ℕ) (x : Name) → bodies x ≡ None →
    types_looked_up m bodies n given x ≡ given x
types_of_plain m bodies given zero x e = refl
types_of_plain m bodies given (suc n) x e = ap (λ o. type_through m o (types_looked_up m bodies n given) (given x)) e

module _ (file : File) (order : List Name) (ordered : IsOrder file order) where
  -- where a file's formulas stand in an order, a formula's name has the type of its body, and any other the type that it is declared with
  pub types_read : (x : Name) → types file x ≡ type_through prism_meaning (formula_body file x) (types file) (declared_types file x)
  types_read x =
      types_looked_up_is prism_meaning (formula_body file) (place_in order) ordered.falling (declared_types file) (length file.formulas) x (in_depth file order ordered x)
