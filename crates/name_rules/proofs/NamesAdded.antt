-- The names of an expression, part by part.
use Rattle.std.specs.Prelude.{List, ◌++◌, map}
use Rattle.std.proofs.Common.{◌≡◌, sym, ap, ◌∙◌, append_assoc}
use Rattle.std.proofs.lemmas.List.{map-append}

-- the names of one part after those of another
pub names_both : {A B : Type 0} (g : A → B) (xs ys : List A) (l0 l1 l2 : List B) → l1 ≡ l0 ++ map g xs → l2 ≡ l1 ++ map g ys → l2 ≡ l0 ++ map g (xs ++ ys)
names_both g xs ys l0 l1 l2 p q =
    q ∙ ap (λ l. l ++ map g ys) p ∙ append_assoc l0 (map g xs) (map g ys) ∙ ap (λ l. l0 ++ l) (sym (map-append g xs ys))

pub names_three : {A B : Type 0} (g : A → B) (xs ys zs : List A) (l0 l1 l2 l3 : List B) → l1 ≡ l0 ++ map g xs → l2 ≡ l1 ++ map g ys → l3 ≡ l2 ++ map g zs →
    l3 ≡ l0 ++ map g (xs ++ (ys ++ zs))
names_three g xs ys zs l0 l1 l2 l3 p q r = names_both g xs (ys ++ zs) l0 l1 l3 p (names_both g ys zs l1 l2 l3 q r)
