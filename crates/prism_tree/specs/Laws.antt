-- Laws of what stands between quotes, and of a list that grows at its end.
use Rattle.std.specs.Prelude.{◌≡◌, ℕ, List, [], ◌∷◌, ◌++◌}
use Rattle.std.proofs.Common.{refl, sym, ap, ◌∙◌, append-nil, append_assoc}
use Rattle.prism_tree.specs.Grammar.{but_last, unquoted}
use Rattle.prism_tree.specs.Lang.{fold_left, with_last}

pub but_last_is : (x : List ℕ) (b : ℕ) → but_last (x ++ b ∷ []) ≡ x
but_last_is [] b = refl
but_last_is (c ∷ []) b = refl
but_last_is (c ∷ d ∷ x) b = ap (λ (u : List ℕ). c ∷ u) (but_last_is (d ∷ x) b)

pub unquoted_is : (w v x : List ℕ) (a b : ℕ) → w ≡ a ∷ v → v ≡ x ++ b ∷ [] → unquoted w ≡ x
unquoted_is w v x a b e f = ap (λ (u : List ℕ). unquoted u) e ∙ ap (λ (u : List ℕ). but_last u) f ∙ but_last_is x b

pub fold_last : {A : Type 0} (xs ys : List A) → fold_left with_last xs ys ≡ xs ++ ys
fold_last xs [] = sym (append-nil xs)
fold_last xs (y ∷ ys) = fold_last (xs ++ y ∷ []) ys ∙ append_assoc xs (y ∷ []) ys
