-- Nodes of operators that are read as others: two that are read as one have one type, and one thing is seen of them.
use Rattle.std.specs.Prelude.{◌≡◌, Bool, true, false, ◌||◌, Option, Some, None, if◌then◌else◌}
use Rattle.std.proofs.Common.{refl, sym, ap, ◌∙◌}
use Rattle.op_trees.specs.declared.tree.Ty.{Ty}
use Rattle.op_trees.specs.declared.tree.Value.{Value}
use Rattle.op_trees.specs.Meaning.{Meaning, along, of_one, of_both, of_lazy}
use Rattle.op_trees.specs.Types.{sort_one, sort_two, sort_three}
use Rattle.op_trees.specs.Seen.{Seen, known, node, asked_by_wide, lazy_node, one_node, two_node}

module _ {P O : Type 0} (meant : P → O) (m : Meaning O) where
  -- ---- types
  sort_one-along : (o : P) (a : Option Ty) → sort_one (along meant m) o a ≡ sort_one m (meant o) a
  sort_one-along o None = refl
  sort_one-along o (Some a) = refl

  sort_two-along : (o : P) (a b : Option Ty) → sort_two (along meant m) o a b ≡ sort_two m (meant o) a b
  sort_two-along o None b = refl
  sort_two-along o (Some a) None = refl
  sort_two-along o (Some a) (Some b) = refl

  sort_three-along : (o : P) (a b c : Option Ty) → sort_three (along meant m) o a b c ≡ sort_three m (meant o) a b c
  sort_three-along o None b c = refl
  sort_three-along o (Some a) None c = refl
  sort_three-along o (Some a) (Some b) None = refl
  sort_three-along o (Some a) (Some b) (Some c) = refl

  -- ---- what is seen
  of_one-along : (o : P) (a : Option Value) → of_one (along meant m) o a ≡ of_one m (meant o) a
  of_one-along o None = refl
  of_one-along o (Some x) = refl

  of_both-along : (o : P) (a b : Option Value) → of_both (along meant m) o a b ≡ of_both m (meant o) a b
  of_both-along o None b = refl
  of_both-along o (Some x) None = refl
  of_both-along o (Some x) (Some y) = refl

  lazy_at : (o : P) (v : Option Value) (w : Bool) (b c : Seen) →
      let a : Seen = record { value = v; wide = w } in
      lazy_node (along meant m) o a b c ≡ lazy_node m (meant o) a b c
  lazy_at o None w b c = refl
  lazy_at o (Some x) w b c = refl

  lazy_node-along : (o : P) (a b c : Seen) → lazy_node (along meant m) o a b c ≡ lazy_node m (meant o) a b c
  lazy_node-along o a b c = lazy_at o a.value a.wide b c

  one_node-along : (o : P) (a : Seen) → one_node (along meant m) o a ≡ one_node m (meant o) a
  one_node-along o a = by_strict (m.strict (meant o))
    where
      by_strict : (s : Bool) →
          (if s then node (of_one (along meant m) o a.value) a.wide else lazy_node (along meant m) o a (known None) (known None))
          ≡ (if s then node (of_one m (meant o) a.value) a.wide else lazy_node m (meant o) a (known None) (known None))
      by_strict true = ap (λ v. node v a.wide) (of_one-along o a.value)
      by_strict false = lazy_node-along o a (known None) (known None)

  two_node-along : (o : P) (a b : Seen) → two_node (along meant m) o a b ≡ two_node m (meant o) a b
  two_node-along o a b = by_strict (m.strict (meant o))
    where
      by_strict : (s : Bool) →
          (if s then node (of_both (along meant m) o a.value b.value) (a.wide || b.wide) else lazy_node (along meant m) o a b (known None))
          ≡ (if s then node (of_both m (meant o) a.value b.value) (a.wide || b.wide) else lazy_node m (meant o) a b (known None))
      by_strict true = ap (λ v. node v (a.wide || b.wide)) (of_both-along o a.value b.value)
      by_strict false = lazy_node-along o a b (known None)

-- ---- two operators that are read as one
module _ {P Q O : Type 0} (meant : P → O) (other : Q → O) (m : Meaning O) (p : P) (q : Q) (same : meant p ≡ other q) where
  pub sort_one_alike : (a : Option Ty) → sort_one (along meant m) p a ≡ sort_one (along other m) q a
  sort_one_alike a = sort_one-along meant m p a ∙ ap (λ o. sort_one m o a) same ∙ sym (sort_one-along other m q a)

  pub sort_two_alike : (a b : Option Ty) → sort_two (along meant m) p a b ≡ sort_two (along other m) q a b
  sort_two_alike a b = sort_two-along meant m p a b ∙ ap (λ o. sort_two m o a b) same ∙ sym (sort_two-along other m q a b)

  pub sort_three_alike : (a b c : Option Ty) → sort_three (along meant m) p a b c ≡ sort_three (along other m) q a b c
  sort_three_alike a b c = sort_three-along meant m p a b c ∙ ap (λ o. sort_three m o a b c) same ∙ sym (sort_three-along other m q a b c)

  pub one_node_alike : (a : Seen) → one_node (along meant m) p a ≡ one_node (along other m) q a
  one_node_alike a = one_node-along meant m p a ∙ ap (λ o. one_node m o a) same ∙ sym (one_node-along other m q a)

  pub two_node_alike : (a b : Seen) → two_node (along meant m) p a b ≡ two_node (along other m) q a b
  two_node_alike a b = two_node-along meant m p a b ∙ ap (λ o. two_node m o a b) same ∙ sym (two_node-along other m q a b)

  pub lazy_node_alike : (a b c : Seen) → lazy_node (along meant m) p a b c ≡ lazy_node (along other m) q a b c
  lazy_node_alike a b c = lazy_node-along meant m p a b c ∙ ap (λ o. lazy_node m o a b c) same ∙ sym (lazy_node-along other m q a b c)
