-- Expressions stand where their parts do.
use Rattle.std.proofs.Common.{◌≡◌, ℕ, List, ◌++◌, Bool, true, false, Option, Some, Result, Ok, Err, refl, sym, ap, ap₂, ◌∙◌}
use Rattle.std.specs.Prelude.{IfOk}
use Rattle.std.specs.declared.alloc.AllocError.{AllocError}
use Rattle.std.proofs.lemmas.Option.{slice_get_within}
use Rattle.frac_core.specs.declared.decimal.Decimal.{Decimal}
use Rattle.op_trees.specs.Meaning.{Meaning, answered, is_wide_value, narrowed}
use Rattle.op_trees.specs.Seen.{Seen, known, known_names, one_node, two_node, lazy_node, seen}
use Rattle.op_trees.specs.Tree as T
use Rattle.op_trees.specs.Tree.{Tree}
use Rattle.op_trees.specs.declared.tree.Value.{Value}
use Rattle.instance_start.specs.declared.data.Place.{Place}
use Rattle.expr_store.specs.declared.node.ExprId.{ExprId}
use Rattle.expr_store.specs.declared.node.Node.{Node}
use Rattle.expr_store.specs.declared.node.Node.TheVariants.{Fixed, Number, Name, One, Two, Three}
use Rattle.expr_store.specs.Nodes.{Holds, IsGrown, IsIn, OneIs, TwoIs, seen_at, seen_node, Stands}
use Rattle.expr_store.specs.NodeLaws.{held_later, seen_held, stands_later}

module _ {O : Type 0} (m : Meaning O) (places : List ℕ → Option Place) (old new : List (Node O)) (i : ℕ) where
  held_then : (n : Node O) → Holds new i n → (later : List (Node O)) (at : Option Place → Option Value) → seen_at m at (new ++ later) i ≡ seen_node m at (seen_at m at (new ++ later)) n
  held_then n h later at = seen_held m at (new ++ later) i n (held_later (record { later = later; is = refl }) h)

  pub fixed_stands : (t : Tree O) (v : Value) → ((env : List ℕ → Seen) → known (Some v) ≡ seen m t env) → Holds new i (Fixed v) → Stands m places new i t
  fixed_stands t v e h = record {
    within = slice_get_within new i (Fixed v) h.is;
    sees = λ later there. held_then (Fixed v) h later there ∙ e (known_names (λ x. there (places x)));
  }

  pub number_stands : (at : ℕ) (d : Decimal) → Holds new i (Number d) → Stands m places new i (T.Number at d)
  number_stands at d h = record {
    within = slice_get_within new i (Number d) h.is;
    sees = held_then (Number d) h;
  }

  pub name_stands : (at : ℕ) (x : List ℕ) → Holds new i (Name (places x)) → Stands m places new i (T.Name at x)
  name_stands at x h = record {
    within = slice_get_within new i (Name (places x)) h.is;
    sees = held_then (Name (places x)) h;
  }

  pub one_stands : (o : O) (a at : ℕ) (t : Tree O) → IsGrown old new → Holds new i (One o a) → Stands m places old a t → Stands m places new i (T.One at o t)
  one_stands o a at t g h s = record {
    within = slice_get_within new i (One o a) h.is;
    sees = λ later there. held_then (One o a) h later there ∙ ap (one_node m o) ((stands_later g s).sees later there);
  }

  pub one_folded : (o : O) (a at : ℕ) (t : Tree O) (v : Value) → OneIs m old o a v → IsGrown old new → Holds new i (Fixed v) → Stands m places old a t → Stands m places new i (T.One at o t)
  one_folded o a at t v f g h s = record {
    within = slice_get_within new i (Fixed v) h.is;
    sees = λ later there. held_then (Fixed v) h later there ∙ sym (f.is (g.later ++ later) there) ∙ ap (one_node m o) (s.sees (g.later ++ later) there);
  }

  pub two_folded : (o : O) (a b at : ℕ) (t u : Tree O) (v : Value) → TwoIs m old o a b v → IsGrown old new → Holds new i (Fixed v) → Stands m places old a t → Stands m places old b u →
      Stands m places new i (T.Two at o t u)
  two_folded o a b at t u v f g h s r = record {
    within = slice_get_within new i (Fixed v) h.is;
    sees =
        λ later there. held_then (Fixed v) h later there
        ∙ sym (f.is (g.later ++ later) there)
        ∙ ap₂ (two_node m o) (s.sees (g.later ++ later) there) (r.sees (g.later ++ later) there);
  }

  pub two_stands : (o : O) (a b at : ℕ) (t u : Tree O) → IsGrown old new → Holds new i (Two o a b) → Stands m places old a t → Stands m places old b u →
      Stands m places new i (T.Two at o t u)
  two_stands o a b at t u g h s r = record {
    within = slice_get_within new i (Two o a b) h.is;
    sees = λ later there. held_then (Two o a b) h later there ∙ ap₂ (two_node m o) ((stands_later g s).sees later there) ((stands_later g r).sees later there);
  }

  pub three_stands : (o : O) (a b c at : ℕ) (t u v : Tree O) → IsGrown old new → Holds new i (Three o a b c) → Stands m places old a t → Stands m places old b u →
      Stands m places old c v → Stands m places new i (T.Three at o t u v)
  three_stands o a b c at t u v g h s r q = record {
    within = slice_get_within new i (Three o a b c) h.is;
    sees =
        λ later there. held_then (Three o a b c) h later there
        ∙ ap₂ {B = Seen → Seen} (λ r g. g r) ((stands_later g s).sees later there) (ap₂ (λ s t r. lazy_node m o r s t) ((stands_later g r).sees later there) ((stands_later g q).sees later there));
  }

-- a number at which an expression stands is that of a node, also once nodes have come later
pub standing_in : {O : Type 0} (m : Meaning O) (places : List ℕ → Option Place) (old new : List (Node O)) (r : Result ExprId AllocError) (t : Tree O) →
    IsGrown old new → IfOk r (λ id. Stands m places old id.number t) → IfOk r (IsIn new)
standing_in m places old new (Ok id) t g s = (stands_later g s).within
standing_in m places old new (Err e) t g s = tt

-- the value of a literal
pub literal_is : (w v : Value) → narrowed (Some w) ≡ Ok v → w ≡ v
literal_is w v h = by_test (is_wide_value (Some w)) h
  where
    by_test : (b : Bool) → answered b (Some w) ≡ Ok v → w ≡ v
    by_test true e = absurd (cc)
    by_test false e = cc

-- an operator over a node that is a value
module _ {O : Type 0} (m : Meaning O) (ns : List (Node O)) where
  held_value : (a : ℕ) (x : Value) → Holds ns a (Fixed x) → (later : List (Node O)) (at : Option Place → Option Value) → seen_at m at (ns ++ later) a ≡ known (Some x)
  held_value a x h later at = seen_held m at (ns ++ later) a (Fixed x) (held_later (record { later = later; is = refl }) h)

  pub one_is : (o : O) (a : ℕ) (x v : Value) → Holds ns a (Fixed x) → one_node m o (known (Some x)) ≡ known (Some v) → OneIs m ns o a v
  one_is o a x v h e = record { is = λ later at. ap (one_node m o) (held_value a x h later at) ∙ e }

  pub two_is : (o : O) (a b : ℕ) (x y v : Value) → Holds ns a (Fixed x) → Holds ns b (Fixed y) → two_node m o (known (Some x)) (known (Some y)) ≡ known (Some v) → TwoIs m ns o a b v
  two_is o a b x y v h k e = record { is = λ later at. ap₂ (two_node m o) (held_value a x h later at) (held_value b y k later at) ∙ e }
