-- An element begins where one of its initial locations is the current one, whether it has one or several.
use Rattle.std.specs.Prelude.{◌≡◌, ◌≢◌, ℕ, pos, List, [], ◌∷◌, Bool, true, false, not, ◌&&◌, ◌||◌, Option, Some, None, slice_get}
use Rattle.std.proofs.Common.{refl, sym, ap, ◌∙◌}
use Rattle.std.proofs.Math.Bool.{and-true}
use Rattle.basics.specs.Booleans.{or_none, same_test}
use Rattle.bridge_io.specs.declared.reason.Named.{Named}
use Rattle.frac_core.specs.Fraction.{whole}
use Rattle.op_trees.specs.Seen.{Seen}
use Rattle.op_trees.specs.declared.tree.Value.{Value}
use Rattle.op_trees.specs.declared.tree.Value.TheVariants as V
use Rattle.process_core.specs.Equal.{equal_values, equal_values_is}
use Rattle.process_core.specs.Instance.{begins, is_first}
use Rattle.process_core.specs.Ready.{Values}
use Rattle.jani_tree.specs.Syntax.{Automaton}
use Rattle.jani_meaning.specs.Elements.{first_number, has_several_starts, is_several, location_number}
use Rattle.jani_meaning.specs.Scene.{counted, first_location, location_column}
use Rattle.jani_meaning.specs.Moment.{begins_here, is_among, is_number}

pub equal_turned : (u v : Value) → equal_values u v ≡ equal_values v u
equal_turned u v =
    same_test (equal_values u v) (equal_values v u) (λ h. (equal_values_is v u).1 (sym ((equal_values_is u v).0 h))) (λ h. (equal_values_is u v).1 (sym ((equal_values_is v u).0 h)))

module _ (s : Values) (i : ℕ) (a : Automaton) (v : Value) (e : slice_get s i ≡ Some v) where
  abbrev first_at : List Named → Bool → Option Seen
  first_at ns true = None
  first_at ns false = Some (counted (first_number a ns))

  same_first : (b : Bool) → first_location a b ≡ first_at a.initial b
  same_first true = refl
  same_first false = refl

  by_list : (ns : List Named) → ns ≢ [] → (is_first (first_at ns (is_several ns)) v && (not (is_several ns) || is_among s i a ns)) ≡ is_among s i a ns
  by_list [] some = absurd (some refl)
  by_list (n ∷ []) some =
      let k = location_number a n.name in
      and-true (equal_values (V.Number (whole (pos k))) v)
      ∙ equal_turned (V.Number (whole (pos k))) v
      ∙ sym (ap (is_number k) e)
      ∙ or_none (is_number k (slice_get s i))
  by_list (n ∷ m ∷ ns) some = refl

  pub begins_is : a.initial ≢ [] → (begins (location_column a) v && begins_here s i a) ≡ is_among s i a a.initial
  begins_is some = ap (λ f. is_first f v && begins_here s i a) (same_first (has_several_starts a)) ∙ by_list a.initial some
