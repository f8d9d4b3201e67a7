-- What is prepared stays so while the nodes of a store grow; parts, lists and wholes of what is prepared.
use Rattle.std.specs.Prelude.{◌≡◌, ℕ, ◌+◌, ◌<◌, ◌≤◌, List, [], ◌∷◌, ◌++◌, map, length, take, get_or, Option}
use Rattle.std.proofs.Common.{refl, sym, ap, ap₂, ◌∙◌, append-nil, append_assoc}
use Rattle.basics.specs.Lists.{at_take_all}
use Rattle.expr_store.specs.Nodes.{IsGrown, Stands}
use Rattle.expr_store.specs.NodeLaws.{grown_none, grown_then}
use Rattle.expr_store.specs.declared.node.ExprId.{ExprId}
use Rattle.expr_store.specs.declared.node.Node.{Node}
use Rattle.gathering.proofs.Loops.{map_more}
use Rattle.instance_start.specs.declared.data.Place.{Place}
use Rattle.jani_meaning.specs.Scene.{see}
use Rattle.jani_table.specs.Operators.{jani_meaning}
use Rattle.jani_table.specs.declared.operator.JaniOp.{JaniOp}
use Rattle.op_trees.specs.Seen.{Seen}
use Rattle.op_trees.specs.Tree.{tree}
use Rattle.process_core.specs.Ready.{Name}
use Rattle.jani_instance.specs.Prepared.{IsPrepared, see_from}
use Rattle.jani_instance.specs.Shapes.{Lent}
use Rattle.jani_instance.specs.Views.{At, look_by}

-- an expression
pub prepared_put : (a b : List (Node JaniOp)) (places : Name → Option Place) (e : Lent) (id : ExprId) → IsGrown a b → Stands jani_meaning places b id.number (tree e.now) →
    IsPrepared a b (λ look. look id) (λ at. see_from places at e)
unfolding see
prepared_put a b places e id g h = record { grown = g; alike = h.sees }

-- where nothing has to be prepared
pub prepared_none : {A : Type 0} (a : List (Node JaniOp)) (x : A) → IsPrepared a a (λ look. x) (λ at. x)
prepared_none a x = record { grown = grown_none a; alike = λ later at. refl }

-- what it is made of by another name
pub prepared_from : {A : Type 0} (a b : List (Node JaniOp)) (made : (ExprId → Seen) → A) (source other : At → A) → ((at : At) → source at ≡ other at) →
    IsPrepared a b made source → IsPrepared a b made other
prepared_from a b made source other e p = record { grown = p.grown; alike = λ later at. p.alike later at ∙ e at }

-- what was prepared before something else
pub prepared_still : {A : Type 0} (a b c : List (Node JaniOp)) (made : (ExprId → Seen) → A) (source : At → A) → IsPrepared a b made source → IsGrown b c → IsPrepared a c made source
prepared_still a b c made source p g = record {
  grown = grown_then p.grown g;
  alike = λ later at. ap (λ ns. made (look_by at ns)) (ap (λ ns. ns ++ later) g.is ∙ append_assoc b g.later later) ∙ p.alike (g.later ++ later) at;
}

-- in the end
pub prepared_final : {A : Type 0} (a b : List (Node JaniOp)) (made : (ExprId → Seen) → A) (source : At → A) → IsPrepared a b made source → (at : At) → made (look_by at b) ≡ source at
prepared_final a b made source p at = ap (λ ns. made (look_by at ns)) (sym (append-nil b)) ∙ p.alike [] at

-- a whole of one part, of two, of three, one after the other
pub prepared_whole : {A B : Type 0} (whole : A → B) (a b : List (Node JaniOp)) (m : (ExprId → Seen) → A) (s : At → A) →
    IsPrepared a b m s → IsPrepared a b (λ look. whole (m look)) (λ at. whole (s at))
prepared_whole whole a b m s p = record { grown = p.grown; alike = λ later at. ap whole (p.alike later at) }

pub prepared_two : {A B C : Type 0} (whole : A → B → C) (a b c : List (Node JaniOp)) (m : (ExprId → Seen) → A) (s : At → A) (n : (ExprId → Seen) → B) (t : At → B) →
    IsPrepared a b m s → IsPrepared b c n t → IsPrepared a c (λ look. whole (m look) (n look)) (λ at. whole (s at) (t at))
prepared_two whole a b c m s n t p q = record {
  grown = grown_then p.grown q.grown;
  alike = λ later at. ap₂ whole ((prepared_still a b c m s p q.grown).alike later at) (q.alike later at);
}

pub prepared_three : {A B C D : Type 0} (whole : A → B → C → D) (a b c d : List (Node JaniOp)) (m : (ExprId → Seen) → A) (s : At → A) (n : (ExprId → Seen) → B) (t : At → B) (o : (ExprId → Seen) → C) (u : At → C) →
    IsPrepared a b m s → IsPrepared b c n t → IsPrepared c d o u → IsPrepared a d (λ look. whole (m look) (n look) (o look)) (λ at. whole (s at) (t at) (u at))
prepared_three {A = A} {B = B} whole a b c d m s n t o u p q r =
    prepared_two (λ (x : A × B) z. whole x.0 x.1 z) a c d _ _ o u (prepared_two (λ (x : A) (y : B). (x, y)) a b c m s n t p q) r

-- ---- lists, a member after the other
module _ {X Y B : Type 0} (made : (ExprId → Seen) → Y → B) (source : At → X → B) (xs : List X) where
  pub prepared_begin : (a : List (Node JaniOp)) (ys : List Y) → ys ≡ [] → IsPrepared a a (λ look. map (made look) ys) (λ at. map (source at) (take 0 xs))
  prepared_begin a ys e = record { grown = grown_none a; alike = λ later at. ap (map (made (look_by at (a ++ later)))) e }

  pub prepared_more : (a b c : List (Node JaniOp)) (i : ℕ) (x : X) (old new : List Y) (y : Y) → i < length xs → x ≡ get_or xs i x →
      IsPrepared a b (λ look. map (made look) old) (λ at. map (source at) (take i xs)) → new ≡ old ++ y ∷ [] →
      IsPrepared b c (λ look. made look y) (λ at. source at x) → IsPrepared a c (λ look. map (made look) new) (λ at. map (source at) (take (i + 1) xs))
  prepared_more a b c i x old new y h e so_far pushed here =
      let before = prepared_still a b c _ _ so_far here.grown in
      record {
        grown = before.grown;
        alike = λ later at. map_more (made (look_by at (c ++ later))) (source at) xs i x old new y h e (before.alike later at) pushed (here.alike later at);
      }

  pub prepared_all : (a b : List (Node JaniOp)) (i : ℕ) (ys : List Y) → length xs ≤ i →
      IsPrepared a b (λ look. map (made look) ys) (λ at. map (source at) (take i xs)) → IsPrepared a b (λ look. map (made look) ys) (λ at. map (source at) xs)
  prepared_all a b i ys h p = record { grown = p.grown; alike = λ later at. p.alike later at ∙ at_take_all (map (source at)) xs i h }
