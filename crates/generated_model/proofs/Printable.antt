-- The generated model is printable: its names are identifiers, its literals are in normal form.
use Rattle.std.proofs.Common.{arith, ◌≡◌, ◌∙◌, refl, sym, ap, ap₂, subst, ℕ, zero, suc, ◌+◌, ◌^◌, ◌<◌, ◌≤◌, List, [], ◌∷◌, map, ◌||◌, ◌&&◌, Bool, true, false, Some, None, if◌then◌else◌, codes}
use Rattle.std.specs.Prelude.{decimal}
use Rattle.std.specs.List.{list_all, range_with_len, AllByRecursion as Each}
use Rattle.std.specs.Str.{bytes_eq}
use Rattle.std.specs.Str.Parse.{AllDigits}
use Rattle.std.specs.Cmp.Lexicographic.{bytes_decides}
use Rattle.std.proofs.lemmas.Fmt.{decimal_is_IsNumeral}
use Rattle.frac_core.proofs.Readings.{digit_is}
use Rattle.prism_lex.specs.Automaton.{is_letter, is_digit}
use Rattle.prism_lex.specs.Tokens.{IsKind}
use Rattle.prism_lex.specs.Words.{words}
use Rattle.prism_lex.specs.declared.token.TokenKind.TheVariants.{Ident}
use Rattle.op_trees.specs.Tree.{Two}
use Rattle.prism_tree.specs.declared.operator.PrismOp.TheVariants.{Div}
use Rattle.prism_print.specs.Printable.{IsPrintable, IsPrintableModule, IsPrintableCommand, IsPrintableVar, IsPrintableWrite, IsPrintableExpression}
use Rattle.generated_model.specs.Generated.{action, by_chance, counted_up, counter, generated_file, generated_module, hands_on, is_below, is_handed, limit, module_name, number, variable}

-- ---- names
or_true : (b : Bool) → (b || true) ≡ true
or_true true = refl
or_true false = refl

-- digits may stand behind the first byte of a name
goes_on : (ds : List ℕ) → AllDigits 10 ds → list_all (λ c. is_letter c || is_digit c) ds ≡ true
goes_on [] h = refl
goes_on (d ∷ ds) h = ap₂ (λ a b. a && b) (ap (λ b. is_letter d || b) (digit_is d h.0) ∙ or_true (is_letter d)) (goes_on ds h.1)

-- and are none of the ends of reserved words that have letters
apart : (w ds : List ℕ) → (AllDigits 10 w → ⊥) → AllDigits 10 ds → bytes_eq w ds ≡ false
apart w ds h k = by_test (bytes_eq w ds) refl
  where
    by_test : (b : Bool) → b ≡ bytes_eq w ds → bytes_eq w ds ≡ false
    by_test false e = sym e
    by_test true e = absurd (h (subst (AllDigits 10) (sym ((bytes_decides w ds).0 (sym e))) k))

-- four words are looked up one after another
none_of_four : {A : Type 0} (a b c d : Bool) (w x y z : A) → a ≡ false → b ≡ false → c ≡ false → d ≡ false → (if a then Some w else if b then Some x else if c then Some y else if d then Some z else None) ≡ None
none_of_four false false false false w x y z p q r s = refl
none_of_four true b c d w x y z p q r s = absurd cc
none_of_four false true c d w x y z p q r s = absurd cc
none_of_four false false true d w x y z p q r s = absurd cc
none_of_four false false false true w x y z p q r s = absurd cc

module _ (k : ℕ) (small : k < 2 ^ 32) where
  digits : AllDigits 10 (decimal k)
  digits = ((decimal_is_IsNumeral k (omega (arith, small))).0).1

  variable_named : IsKind (variable k) Ident
  unfolding words
  variable_named = (goes_on (decimal k) digits, refl)

  action_named : IsKind (action k) Ident
  unfolding words
  action_named = (goes_on (decimal k) digits, refl)

  module_named : IsKind (module_name k) Ident
  unfolding words
  module_named = (
    goes_on (decimal k) digits,
    none_of_four _ _ _ _ _ _ _ _ (apart (codes "ax") (decimal k) (λ h. (let l = h.0 in omega (arith, l))) digits) (apart (codes "dp") (decimal k) (λ h. (let l = h.0 in omega (arith, l))) digits)
        (apart (codes "in") (decimal k) (λ h. (let l = h.0 in omega (arith, l))) digits) (apart (codes "odule") (decimal k) (λ h. (let l = h.0 in omega (arith, l))) digits),
  )

limit_named : IsKind limit Ident
unfolding words
limit_named = (refl, refl)

-- ---- commands
module _ (x : List ℕ) (named : IsKind x Ident) where
  counted : Each IsPrintableWrite (counted_up x)
  counted = ((named, (refl, named, (refl, refl))), tt)

  below : IsPrintableExpression (is_below x)
  below = (refl, named, limit_named)

  half : IsPrintableExpression (Two 0 Div (number 1) (number 2))
  half = (refl, (refl, refl), (refl, refl))

  counter_printable : IsPrintableVar (counter x)
  counter_printable = (named, ((refl, refl), (refl, refl)), (refl, refl))

  by_chance_printable : IsPrintableCommand (by_chance x)
  by_chance_printable = (tt, below, ((_, refl), ((_, refl), tt)), ((half, counted), ((half, tt), tt)))

  module _ (a : List ℕ) (called : IsKind a Ident) where
    is_handed_printable : IsPrintableCommand (is_handed a x)
    is_handed_printable = (called, below, tt, ((tt, counted), tt))

    hands_on_printable : IsPrintableCommand (hands_on a x)
    hands_on_printable = (called, (refl, named, limit_named), tt, ((tt, ((named, (refl, refl)), tt)), tt))

-- ---- modules
module_printable : (k : ℕ) → k < 2 ^ 32 → IsPrintableModule (generated_module k)
module_printable zero l =
    let x = variable_named zero l in
    (module_named zero l, (counter_printable _ x, tt), (by_chance_printable _ x, (hands_on_printable _ x _ (action_named zero l), tt)))
module_printable (suc k) l =
    let x = variable_named (suc k) l in
    let handed = is_handed_printable _ x _ (action_named k (omega (arith, l))) in
    (module_named (suc k) l, (counter_printable _ x, tt), (by_chance_printable _ x, (handed, (hands_on_printable _ x _ (action_named (suc k) l), tt))))

modules_printable : (a n : ℕ) → a + n ≤ 2 ^ 32 → Each IsPrintableModule (map generated_module (range_with_len a n))
modules_printable a zero l = tt
modules_printable a (suc n) l = (module_printable a (omega (arith, l)), modules_printable (a + 1) n (omega (arith, l)))

pub file_printable : (n : ℕ) → n < 2 ^ 32 → IsPrintable (generated_file n)
file_printable n l = record {
  constants = ((limit_named, (refl, refl)), tt);
  globals = tt;
  formulas = tt;
  modules = modules_printable 0 n (omega (arith, l));
  labels = tt;
  rewards = tt;
  init = tt;
}
