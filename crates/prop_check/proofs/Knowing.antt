-- What a name of a property stands for, by its quotes.
use Rattle.std.specs.Prelude.{◌++◌, map, Bool, true, false, Option, Some, None, if◌then◌else◌}
use Rattle.std.proofs.Common.{◌≡◌, refl, sym, ap, ◌∙◌}
use Rattle.op_trees.specs.declared.tree.Ty.{Ty}
use Rattle.op_trees.specs.declared.tree.Ty.TheVariants as T
use Rattle.name_rules.specs.Names.{Name, is_among}
use Rattle.prism_tree.specs.Grammar.{unquoted}
use Rattle.prism_tree.specs.Syntax.{File}
use Rattle.prism_check.specs.NameFaults.{given_labels, values}
use Rattle.prism_check.specs.TypeFaults.{types}
use Rattle.prop_grammar.specs.Grammar.{has_quotes}
use Rattle.prop_trees.specs.PrismFaults.{is_known, name_types, number_by}
use Rattle.prop_check.specs.Tables.{place_by}

module _ (file : File) (x : Name) where
  abbrev is_label : Name → Bool
  is_label y = is_among (given_labels ++ map (λ l. l.name) file.labels) y

  pub known_label : (inside : Name) (b : Bool) → has_quotes x ≡ true → inside ≡ unquoted x → b ≡ is_label inside → b ≡ is_known file x
  known_label inside b q u h = h ∙ ap is_label u ∙ ap (λ t. if t then is_label (unquoted x) else is_among (values file) x) (sym q)

  pub known_value : (b : Bool) → has_quotes x ≡ false → b ≡ is_among (values file) x → b ≡ is_known file x
  known_value b q h = h ∙ ap (λ t. if t then is_label (unquoted x) else is_among (values file) x) (sym q)

  pub typed_label : (b : Bool) → b ≡ has_quotes x → b ≡ true → Some T.Bool ≡ name_types file x
  typed_label b e h = ap (λ t. if t then Some T.Bool else types file x) (sym h ∙ e)

  pub typed_value : (b : Bool) (t : Option Ty) → b ≡ has_quotes x → b ≡ false → t ≡ types file x → t ≡ name_types file x
  typed_value b t e h k = k ∙ ap (λ q. if q then Some T.Bool else types file x) (sym h ∙ e)

pub number_is : (file : File) (n : Option Name) → place_by file.rewards n ≡ number_by file n
number_is file (Some x) = refl
number_is file None = refl
