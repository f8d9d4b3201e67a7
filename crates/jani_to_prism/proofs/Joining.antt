-- Joined one after another, expressions are what they are joined at once.
use Rattle.std.specs.Prelude.{◌≡◌, ℕ, ◌+◌, ◌<◌, List, [], ◌∷◌, ◌++◌, map, length, take, Option, Some, None, get_or, unwrap_or}
use Rattle.std.specs.List.{flat_map, fold}
use Rattle.std.proofs.Common.{refl, sym, ap, ◌∙◌}
use Rattle.std.proofs.lemmas.List.{map-append}
use Rattle.std.proofs.lemmas.List.Concat.{flat_map-append}
use Rattle.gathering.proofs.Loops.{taken}
use Rattle.op_trees.specs.Tree.{Two}
use Rattle.prism_tree.specs.declared.operator.PrismOp.{PrismOp}
use Rattle.prism_tree.specs.declared.operator.PrismOp.TheVariants.{And, Or}
use Rattle.prism_tree.specs.Syntax.{Expression}
use Rattle.prism_flat.specs.Joined.{joined}
use Rattle.prism_translation.specs.Conditions.{some_of}
use Rattle.prism_translation.specs.Modules.{all_of, truth}
use Rattle.jani_to_prism.specs.Joining.{so_far}

so_far-append : (op : PrismOp) (o : Option Expression) (xs ys : List Expression) → so_far op o (xs ++ ys) ≡ so_far op (so_far op o xs) ys
so_far-append op o [] ys = refl
so_far-append op None (x ∷ xs) ys = so_far-append op (Some x) xs ys
so_far-append op (Some a) (x ∷ xs) ys = so_far-append op (Some (Two 0 op a x)) xs ys

so_far-some : (op : PrismOp) (e : Expression) (es : List Expression) → so_far op (Some e) es ≡ Some (joined op e es)
so_far-some op e [] = refl
so_far-some op e (x ∷ xs) = so_far-some op (Two 0 op e x) xs

-- ---- the whole
pub some_joined : (es : List Expression) → unwrap_or (so_far Or None es) truth ≡ some_of es
some_joined [] = refl
some_joined (e ∷ es) = ap (λ o. unwrap_or o truth) (so_far-some Or e es)

pub all_joined : (es : List Expression) → unwrap_or (so_far And None es) truth ≡ all_of es
all_joined [] = refl
all_joined (e ∷ es) = ap (λ o. unwrap_or o truth) (so_far-some And e es) ∙ sym (folded e es)
  where
    folded : (e : Expression) (es : List Expression) → fold (λ a b. Two 0 And a b) e es ≡ joined And e es
    folded e [] = refl
    folded e (x ∷ xs) = folded (Two 0 And e x) xs

pub three_joined : (xs ys zs : List Expression) → so_far And (so_far And (so_far And None xs) ys) zs ≡ so_far And None (xs ++ (ys ++ zs))
three_joined xs ys zs = sym (so_far-append And (so_far And None xs) ys zs) ∙ sym (so_far-append And None xs (ys ++ zs))

-- ---- along a list
pub joined_more : {X Y : Type 0} (op : PrismOp) (f : Y → List Expression) (s : X → Y) (xs : List X) (i : ℕ) (x : X) (first old new : Option Expression) → i < length xs → x ≡ get_or xs i x →
    old ≡ so_far op first (flat_map f (map s (take i xs))) → new ≡ so_far op old (f (s x)) → new ≡ so_far op first (flat_map f (map s (take (i + 1) xs)))
joined_more op f s xs i x first old new l is h k =
    k
    ∙ ap (λ o. so_far op o (f (s x))) h
    ∙ sym (so_far-append op first (flat_map f (map s (take i xs))) (f (s x)))
    ∙ ap (so_far op first) (single (f (s x)) (flat_map f (map s (take i xs))))
    ∙ ap (so_far op first) (sym (ap (flat_map f) (ap (map s) (taken xs i x l is) ∙ map-append s (take i xs) (x ∷ [])) ∙ flat_map-append f (map s (take i xs)) (s x ∷ [])))
  where
    single : (ys zs : List Expression) → zs ++ ys ≡ zs ++ (ys ++ [])
    single ys zs = ap (λ l. zs ++ l) (sym (nothing_behind ys))
      where
        nothing_behind : (ys : List Expression) → ys ++ [] ≡ ys
        nothing_behind [] = refl
        nothing_behind (y ∷ ys) = ap (λ l. y ∷ l) (nothing_behind ys)

-- a list that is gone along item by item
pub single_parts : {X Y : Type 0} (f : X → Y) (xs : List X) → flat_map (λ x. f x ∷ []) (map (λ x. x) xs) ≡ map f xs
single_parts f [] = refl
single_parts f (x ∷ xs) = ap (λ l. f x ∷ l) (single_parts f xs)
