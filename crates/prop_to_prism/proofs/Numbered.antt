-- Names by their places in a list, and the place of a name in a list in which none comes again.
use Rattle.std.proofs.Common.{◌≡◌, ◌<◌, ℕ, zero, suc, refl, sym, ap, ap₂, ◌∙◌, arith, List, [], ◌∷◌, length, position, get_or, cond, Some, Bool, true, false, ◌||◌}
use Rattle.std.specs.Prelude.{bytes_eq}
use Rattle.std.specs.List.{list_any, AllByRecursion as Each}
use Rattle.std.specs.Option.{option_map}
use Rattle.std.proofs.lemmas.Bool.{both_ways}
use Rattle.std.proofs.lemmas.Slice.Eq.{bytes_eq-Decides}
use Rattle.basics.specs.Members.{position_cons}
use Rattle.prism_lex.specs.Tokens.{is_name}
use Rattle.prop_trees.specs.Trees.{Name}
use Rattle.prop_trees.specs.Text.{structure_name}
use Rattle.prop_trees.specs.Printable.{IsTitle}

pub name_there : (xs : List Name) (r : ℕ) → get_or xs r [] ≡ structure_name xs r
name_there [] r = refl
name_there (x ∷ xs) zero = refl
name_there (x ∷ xs) (suc r) = name_there xs r

pub name_some : (xs : List Name) (r : ℕ) → Each IsTitle xs → r < length xs → structure_name xs r ≡ [] → ⊥
name_some [] r h l e = omega (arith, l)
name_some (x ∷ xs) zero h l e = both_ways (is_name x) (ap is_name e) h.0
name_some (x ∷ xs) (suc r) h l e = name_some xs r h.1 (omega (arith, l)) e

-- no name comes again
abbrev pub Once : List Name → Type 0
Once [] = Unit {0}
Once (y ∷ ys) = (list_any (λ z. bytes_eq z y) ys ≡ false) × Once ys

pub some_at : (xs : List Name) (x : Name) (i : ℕ) → get_or xs i [] ≡ x → (x ≡ [] → ⊥) → list_any (λ y. bytes_eq y x) xs ≡ true
some_at [] x i e n = absurd (n (sym e))
some_at (y ∷ ys) x zero e n = ap (λ b. b || list_any (λ y. bytes_eq y x) ys) ((bytes_eq-Decides y x).1 e)
some_at (y ∷ ys) x (suc i) e n = either (bytes_eq y x) (list_any (λ y. bytes_eq y x) ys) (some_at ys x i e n)
  where
    either : (a b : Bool) → b ≡ true → (a || b) ≡ true
    either true b e = refl
    either false b e = e

pub number_is : (xs : List Name) (x : Name) (i : ℕ) → Once xs → get_or xs i [] ≡ x → (x ≡ [] → ⊥) → position (λ y. bytes_eq y x) xs ≡ Some i
number_is [] x i o e n = absurd (n (sym e))
number_is (y ∷ ys) x zero o e n = position_cons (λ y. bytes_eq y x) y ys ∙ ap (λ b. cond b (Some 0) (option_map suc (position (λ y. bytes_eq y x) ys))) ((bytes_eq-Decides y x).1 e)
number_is (y ∷ ys) x (suc i) o e n =
    position_cons (λ y. bytes_eq y x) y ys
    ∙ ap₂ (λ b p. cond b (Some 0) (option_map suc p)) (other (bytes_eq y x) refl) (number_is ys x i o.1 e n)
  where
    other : (b : Bool) → bytes_eq y x ≡ b → bytes_eq y x ≡ false
    other false h = h
    other true h =
        let same : y ≡ x = (bytes_eq-Decides y x).0 h in
        absurd (cc (sym (some_at ys x i e n), ap (λ z. list_any (λ w. bytes_eq w z) ys) (sym same), o.0))
