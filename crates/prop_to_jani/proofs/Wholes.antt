-- The formulas of a model written out in an expression of a property: by the bodies in a table.
use Rattle.std.specs.Prelude.{◌≡◌, ℕ, ◌<◌, List, length, Option, Some, None}
use Rattle.std.specs.Option.{option_map}
use Rattle.std.proofs.Common.{refl, sym, ap, subst, ◌∙◌, arith}
use Rattle.op_trees.specs.Tree.{AllNames, renamed, substituted}
use Rattle.op_trees.specs.Seen.{FallsTo, IsFalling}
use Rattle.op_trees.specs.SeenLaws.{names_all, names_then}
use Rattle.op_trees.specs.NameLaws.{names_renamed}
use Rattle.process_core.specs.Ready.{Name}
use Rattle.prism_tree.specs.Syntax.{Expression, File}
use Rattle.prism_names.specs.Names.{formula_body}
use Rattle.prism_names.specs.Order as plain
use Rattle.prism_names.specs.Order.{place_in, IsOrder}
use Rattle.prism_names.specs.Places.{at_places, formula_names, IsPlaceOrder, places_order}
use Rattle.prism_names.specs.WrittenOut.{written_out_settled, substituted_agree_on}
use Rattle.prism_rewriter.specs.declared.bodies.BodyTable.{BodyTable}
use Rattle.prism_rewriter.specs.Filling.{bodies_after, bodies_whole}
use Rattle.prism_rewriter.specs.Tables.{body_in}
use Rattle.prop_trees.specs.Names.{marked, Meant, of_model, is_initial, is_deadlock, nothing, meant}
use Rattle.prop_to_jani.specs.ToJani.{body_meant, body_of, whole}
use Rattle.prop_to_jani.specs.Code.{body_meant_in, marked_body_in}
use Rattle.prop_to_jani.proofs.Renaming.{written_out-renamed}

module _ (file : File) (order : List Name) (ordered : IsOrder file order) where
  -- the rank of a name of the model is that of the formula
  rank_of : Meant → ℕ
  rank_of (of_model y) = place_in order y
  rank_of is_initial = 0
  rank_of is_deadlock = 0
  rank_of nothing = 0

  rank : Name → ℕ
  rank x = rank_of (meant x)

  fell : (n : ℕ) (z : Name) → FallsTo (formula_body file) (place_in order) n z → FallsTo (body_of file) rank n (marked z)
  unfolding rank rank_of
  fell n z f = record { below = λ b e. at_body (formula_body file z) refl e }
    where
      at_body : (o : Option Expression) → formula_body file z ≡ o → {b : Expression} → option_map (renamed marked) o ≡ Some b → place_in order z < n
      at_body None g e = absurd cc
      at_body (Some c) g e = f.below c g

  body_falls : (n : ℕ) (o : Option Expression) (b : Expression) → ((c : Expression) → o ≡ Some c → AllNames (FallsTo (formula_body file) (place_in order) n) c) →
      option_map (renamed marked) o ≡ Some b → AllNames (FallsTo (body_of file) rank n) b
  body_falls n None b h e = absurd cc
  body_falls n (Some c) b h e =
      let same : renamed marked c ≡ b = cc in
      subst (AllNames (FallsTo (body_of file) rank n)) same
      (names_renamed (FallsTo (body_of file) rank n) marked c (names_then (FallsTo (formula_body file) (place_in order) n) (λ z. FallsTo (body_of file) rank n (marked z)) (fell n) c (h c refl)))

  falls : (x : Name) (m : Meant) (b : Expression) → body_meant file m ≡ Some b → AllNames (FallsTo (body_of file) rank (rank_of m)) b
  unfolding rank_of
  falls x (of_model y) b e = body_falls (place_in order y) (formula_body file y) b (ordered.falling.falls y) e
  falls x is_initial b e = absurd cc
  falls x is_deadlock b e = absurd cc
  falls x nothing b e = absurd cc

  falling : IsFalling (body_of file) rank
  unfolding rank
  falling = record { falls = λ x b e. falls x (meant x) b e }

  covered : (m : Meant) (b : Expression) → body_meant file m ≡ Some b → rank_of m < length file.formulas
  unfolding rank_of
  covered (of_model y) b e = at_body (formula_body file y) refl e
    where
      at_body : (o : Option Expression) → formula_body file y ≡ o → option_map (renamed marked) o ≡ Some b → place_in order y < length file.formulas
      at_body None g k = absurd cc
      at_body (Some c) g k = let u = ordered.covers y c g in let n = ordered.count in omega (arith, u, n)
  covered is_initial b e = absurd cc
  covered is_deadlock b e = absurd cc
  covered nothing b e = absurd cc

  in_depth : (x : Name) → FallsTo (body_of file) rank (length file.formulas) x
  unfolding rank
  in_depth x = record { below = λ b e. covered (meant x) b e }

  -- one substitution by written-out bodies writes an expression out
  pub fills : (e : Expression) → substituted (λ x. option_map (whole file) (body_of file x)) e ≡ whole file e
  fills e = sym (written_out_settled (body_of file) rank falling (length file.formulas) e (names_all _ in_depth e))

-- a marked expression written out is the expression written out and then marked
pub whole_marked : (file : File) (e : Expression) → whole file (renamed marked e) ≡ renamed marked (plain.whole file e)
whole_marked file e = written_out-renamed marked (body_of file) (formula_body file) (λ x. refl) (length file.formulas) e

module _ (file : File) (places : List ℕ) (placed : IsPlaceOrder file places) (table : BodyTable)
    (filled : (x : Name) → body_in table x ≡ bodies_after (at_places file.formulas places) x) where
  marked_body : (o : Option Expression) → option_map (renamed marked) (option_map (plain.whole file) o) ≡ option_map (whole file) (option_map (renamed marked) o)
  marked_body None = refl
  marked_body (Some b) = ap Some (sym (whole_marked file b))

  body_is : (m : Meant) → body_meant_in table m ≡ option_map (whole file) (body_meant file m)
  body_is (of_model y) = ap (option_map (renamed marked)) (filled y ∙ bodies_whole file places placed y) ∙ marked_body (formula_body file y)
  body_is is_initial = refl
  body_is is_deadlock = refl
  body_is nothing = refl

  -- the bodies in the table write an expression out
  pub whole_by_table : (e : Expression) → substituted (marked_body_in table) e ≡ whole file e
  whole_by_table e =
      substituted_agree_on (marked_body_in table) (λ x. option_map (whole file) (body_of file x)) e (names_all _ (λ x. body_is (meant x)) e)
      ∙ fills file (formula_names (at_places file.formulas places)) (places_order file places placed) e
