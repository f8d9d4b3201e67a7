-- What parts of a value spell, and objects as the code holds them.
use Rattle.std.proofs.Common.{◌≡◌, ℕ, refl, sym, ap, subst, ◌∙◌, List, Option, Some, None}
use Rattle.std.specs.Prelude.{IsSomeAnd, IfSome}
use Rattle.std.specs.Option.{option_copied, option_map}
use Rattle.std.specs.Borrow.{Bor}
use Rattle.decimal_json.specs.declared.tree.Json.{Json}
use Rattle.decimal_json.specs.declared.tree.Json.TheVariants.{Object}
use Rattle.decimal_json.specs.declared.tree.Member.{Member}
use Rattle.jani_table.specs.Node.{Node, object, node, fields, at_of}
use Rattle.jani_table.specs.NodeLaws.{node_object}
use Rattle.jani_tree.specs.Syntax.{Expression}
use Rattle.prop_grammar.specs.declared.syntax.Compare.{Compare}
use Rattle.prop_grammar.specs.declared.syntax.Compare.TheVariants as C
use Rattle.prop_trees.specs.Names.{meant}
use Rattle.prop_trees.specs.JaniText.{IsBound, IsName, side_of}
use Rattle.jani_props.specs.declared.words.PropOp.{PropOp}
use Rattle.jani_props.specs.declared.words.OpWord.{OpWord}
use Rattle.jani_props.specs.declared.words.OpWord.TheVariants.{Property, Other}
use Rattle.jani_props.specs.declared.table.PropForm.TheVariants as F
use Rattle.jani_props.specs.Words as words
use Rattle.jani_props.specs.Words.{prop_text, side_op, label_name}
use Rattle.jani_props.specs.Shape.{op_word, op_word_at}
use Rattle.jani_props.specs.Clean.{IsClean}
use Rattle.jani_props.proofs.Cleaned.{other_there, label_there, label_is}

-- what holds of what stands there
pub is_at : (P : Node → Type 0) (o : Option Node) (w : Node) → o ≡ Some w → P w → IsSomeAnd o P
is_at P o w e p = subst (λ q. IsSomeAnd q P) (sym e) p

pub if_there : (P : Node → Type 0) (r : Option (Bor Json)) (o : Option Node) → option_map node (option_copied r) ≡ o → ((w : Node) → o ≡ Some w → P w) → IfSome r (λ w. P (node w.now))
if_there P None o e h = tt
if_there P (Some b) o e h = h (node b.now) (sym e)

-- a bound of steps, as the code holds it
pub bound_by : {A : Type 0} (v : Node) (f : A → Expression) (k o : Option A) → k ≡ o → IsBound v (option_map f k) → IsBound v (option_map f o)
bound_by v f k o e i = subst (λ q. IsBound v (option_map f q)) e i

-- the probability that is compared
pub side_name : (c : Compare) → prop_text (side_op (words.side_of c)) ≡ side_of c
side_name C.Less = refl
side_name C.AtMost = refl
side_name C.AtLeast = refl
side_name C.Greater = refl

-- ---- objects

module _ (v : Json) (at : ℕ) (ms slice : List Member) (close : ℕ) (w : OpWord) (same : slice ≡ ms) (is : v ≡ Object at ms close) (word : w ≡ op_word (fields slice)) where
  node_is : node v ≡ object at (fields ms) close
  node_is = ap node is ∙ node_object at ms close

  word_of : (u : OpWord) → w ≡ u → op_word (fields ms) ≡ u
  word_of u e = ap (λ ns. op_word (fields ns)) (sym same) ∙ (sym word ∙ e)

  pub object_word : (u : OpWord) → w ≡ u → op_word_at (Some (node v)) ≡ u
  object_word u e = ap (λ n. op_word_at (Some n)) node_is ∙ word_of u e

  pub no_word : w ≡ Other → IsClean F.Expression (node v) → ⊥
  no_word e c = other_there at (fields ms) close (word_of Other e) (subst (λ n. IsClean F.Expression n) node_is c)

  module _ (p : PropOp) (op : w ≡ Property p) (r : Option (Bor (List ℕ))) (name : option_map (λ s. s.now) r ≡ label_name p) where
    pub no_label : r ≡ None → IsClean F.Expression (node v) → ⊥
    no_label e c =
        label_there at (fields ms) close p (word_of (Property p) op) (sym name ∙ ap (option_map (λ s. s.now)) e) (subst (λ n. IsClean F.Expression n) node_is c)

    pub label_named : (b : Bor (List ℕ)) (x : List ℕ) → r ≡ Some b → x ≡ b.now → IsName (node v) at x (meant x)
    label_named b x e n =
        label_is (node v) at p x (object_word (Property p) op) (sym name ∙ (ap (option_map (λ s. s.now)) e ∙ ap Some (sym n))) (ap at_of node_is)
