-- What is made of expressions that were put into a store, beside what is made of the expressions themselves. (This project's own rule.)
use Rattle.std.specs.Prelude.{◌≡◌, ◌<◌, ◌≤◌, ◌+◌, ℕ, List, [], ◌∷◌, ◌++◌, length, map, take, Option}
use Rattle.std.proofs.Common.{refl, sym, ap, ap₂, ◌∙◌, get_or, append-nil, append_assoc}
use Rattle.std.proofs.lemmas.List.{map-append}
use Rattle.op_trees.specs.Meaning.{Meaning}
use Rattle.op_trees.specs.Seen.{Seen, known_names, seen}
use Rattle.op_trees.specs.Tree.{Tree}
use Rattle.op_trees.specs.declared.tree.Value.{Value}
use Rattle.instance_start.specs.declared.data.Place.{Place}
use Rattle.gathering.proofs.Loops.{taken}
use Rattle.basics.specs.Lists.{at_take_all}
use Rattle.expr_store.specs.NodeLaws.{grown_none, grown_then}
use Rattle.expr_store.specs.declared.node.ExprId.{ExprId}
use Rattle.expr_store.specs.declared.node.Node.{Node}
use Rattle.expr_store.specs.Nodes.{IsGrown, Stands, seen_at}

-- In each list of nodes that goes on from these, whatever stands at the places of names, what is made of what is seen of nodes is what is made
-- of what is seen of names.
module _ {O : Type 0} (m : Meaning O) (places : List ℕ → Option Place) where
  pub record Alike {X : Type 0} (ns : List (Node O)) (by_node : (ExprId → Seen) → X) (by_name : (List ℕ → Seen) → X) : Type 0 where
    pub alike : (later : List (Node O)) (at : Option Place → Option Value) →
        by_node (λ id. seen_at m at (ns ++ later) id.number) ≡ by_name (known_names (λ x. at (places x)))

module _ {O : Type 0} {m : Meaning O} {places : List ℕ → Option Place} where
  -- in these nodes themselves
  pub alike_here : {X : Type 0} {ns : List (Node O)} (F : (ExprId → Seen) → X) (G : (List ℕ → Seen) → X) → Alike m places ns F G →
      (at : Option Place → Option Value) → F (λ id. seen_at m at ns id.number) ≡ G (known_names (λ x. at (places x)))
  alike_here {ns = ns} F G h at = ap (λ all. F (λ id. seen_at m at all id.number)) (sym (append-nil ns)) ∙ h.alike [] at

  pub alike_later : {X : Type 0} {old new : List (Node O)} (F : (ExprId → Seen) → X) (G : (List ℕ → Seen) → X) → IsGrown old new →
      Alike m places old F G → Alike m places new F G
  alike_later {old = old} F G g h = record {
    alike = λ later at. ap (λ ns. F (λ id. seen_at m at ns id.number)) (ap (λ ns. ns ++ later) g.is ∙ append_assoc old g.later later) ∙ h.alike (g.later ++ later) at;
  }

  -- an expression that stands
  pub alike_put : {ns : List (Node O)} (id : ExprId) (t : Tree O) → Stands m places ns id.number t → Alike m places ns (λ see. see id) (λ names. seen m t names)
  alike_put id t s = record { alike = s.sees }

  -- what rests on no expression
  pub alike_same : {X : Type 0} {ns : List (Node O)} (x : X) → Alike m places ns (λ see. x) (λ names. x)
  alike_same x = record { alike = λ later at. refl }

  pub alike_map : {X Y : Type 0} {ns : List (Node O)} (h : X → Y) (F : (ExprId → Seen) → X) (G : (List ℕ → Seen) → X) → Alike m places ns F G →
      Alike m places ns (λ see. h (F see)) (λ names. h (G names))
  alike_map h F G a = record { alike = λ later at. ap h (a.alike later at) }

  pub alike_both : {X Y Z : Type 0} {ns : List (Node O)} (h : X → Y → Z) (F : (ExprId → Seen) → X) (G : (List ℕ → Seen) → X)
      (f : (ExprId → Seen) → Y) (g : (List ℕ → Seen) → Y) → Alike m places ns F G → Alike m places ns f g →
      Alike m places ns (λ see. h (F see) (f see)) (λ names. h (G names) (g names))
  alike_both h F G f g a b = record { alike = λ later at. ap₂ h (a.alike later at) (b.alike later at) }

-- ---- what is made while nodes are put
module _ {O : Type 0} (m : Meaning O) (places : List ℕ → Option Place) where
  pub record IsMade {X : Type 0} (old new : List (Node O)) (by_node : (ExprId → Seen) → X) (by_name : (List ℕ → Seen) → X) : Type 0 where
    pub grown : IsGrown old new
    pub made : Alike m places new by_node by_name

module _ {O : Type 0} {m : Meaning O} {places : List ℕ → Option Place} where
  -- an expression that was put
  pub made_put : {old new : List (Node O)} (id : ExprId) (t : Tree O) → IsGrown old new → Stands m places new id.number t →
      IsMade m places old new (λ see. see id) (λ names. seen m t names)
  made_put id t g s = record { grown = g; made = alike_put id t s }

  pub made_map : {X Y : Type 0} {old new : List (Node O)} (h : X → Y) (F : (ExprId → Seen) → X) (G : (List ℕ → Seen) → X) →
      IsMade m places old new F G → IsMade m places old new (λ see. h (F see)) (λ names. h (G names))
  made_map h F G a = record { grown = a.grown; made = alike_map h F G a.made }

  -- two things, one after the other
  pub made_both : {X Y Z : Type 0} {old now new : List (Node O)} (h : X → Y → Z) (F : (ExprId → Seen) → X) (G : (List ℕ → Seen) → X)
      (f : (ExprId → Seen) → Y) (g : (List ℕ → Seen) → Y) → IsMade m places old now F G → IsMade m places now new f g →
      IsMade m places old new (λ see. h (F see) (f see)) (λ names. h (G names) (g names))
  made_both h F G f g a b = record { grown = grown_then a.grown b.grown; made = alike_both h F G f g (alike_later F G b.grown a.made) b.made }

  -- ---- a loop that makes one thing of each item
  module _ {A B C X : Type 0} (f : (ExprId → Seen) → A → X) (g : (List ℕ → Seen) → B → X) (view : C → B) (xs : List C) where
    pub made_none : (ns : List (Node O)) (made : List A) → made ≡ [] →
        IsMade m places ns ns (λ see. map (f see) made) (λ names. map (g names) (map view (take 0 xs)))
    made_none ns made e = record {
      grown = grown_none ns;
      made = record { alike = λ later at. ap (map (f (λ id. seen_at m at (ns ++ later) id.number))) e };
    }

    pub made_more : (old now new : List (Node O)) (i : ℕ) (x : C) (made more : List A) (one : A) → i < length xs → x ≡ get_or xs i x → more ≡ made ++ one ∷ [] →
        IsMade m places old now (λ see. map (f see) made) (λ names. map (g names) (map view (take i xs))) →
        IsMade m places now new (λ see. f see one) (λ names. g names (view x)) →
        IsMade m places old new (λ see. map (f see) more) (λ names. map (g names) (map view (take (i + 1) xs)))
    made_more old now new i x made more one h is pushed before this = record {
      grown = grown_then before.grown this.grown;
      made = record {
        alike = λ later at.
            let see : ExprId → Seen = λ id. seen_at m at (new ++ later) id.number in
            let names : List ℕ → Seen = known_names (λ y. at (places y)) in
            ap (map (f see)) pushed ∙ map-append (f see) made (one ∷ [])
            ∙ ap₂ (λ a b. a ++ b ∷ []) ((alike_later (λ s. map (f s) made) (λ n. map (g n) (map view (take i xs))) this.grown before.made).alike later at) (this.made.alike later at)
            ∙ sym (map-append (g names) (map view (take i xs)) (view x ∷ []))
            ∙ ap (map (g names)) (sym (ap (map view) (taken xs i x h is) ∙ map-append view (take i xs) (x ∷ [])));
      };
    }

    pub made_all : (old new : List (Node O)) (i : ℕ) (made : List A) → length xs ≤ i →
        IsMade m places old new (λ see. map (f see) made) (λ names. map (g names) (map view (take i xs))) →
        IsMade m places old new (λ see. map (f see) made) (λ names. map (g names) (map view xs))
    made_all old new i made h all = record {
      grown = all.grown;
      made = record { alike = λ later at. all.made.alike later at ∙ at_take_all (λ ys. map (g (known_names (λ y. at (places y)))) (map view ys)) xs i h };
    }
