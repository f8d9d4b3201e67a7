-- Lists that loops gather, one member more.
use Rattle.std.proofs.Common.{◌≡◌, ℕ, ◌+◌, ◌<◌, ◌≤◌, List, map, length, get_or, drop, sym, ap, ◌∙◌}
use Rattle.std.proofs.lemmas.List.{drop_all}
use Rattle.basics.specs.Lists.{drop_item}
use Rattle.prism_tree.specs.Syntax.{Item}
use Rattle.jani_tree.specs.Syntax.{Expression}
use Rattle.name_table.specs.Asks.{NewNames}
use Rattle.jani_translation.specs.Automata.{sum_behind, item_value}
use Rattle.op_trees.specs.Tree.{Two}
use Rattle.jani_table.specs.declared.operator.JaniOp.TheVariants.{Add}

-- ---- sums
pub sum_more : {A : Type 0} (n : NewNames) (s : A → Item) (xs : List A) (i : ℕ) (x : A) (old new total value : Expression) → i < length xs → x ≡ get_or xs i x →
    sum_behind n old (map s (drop i xs)) ≡ total → value ≡ item_value n (s x) → new ≡ Two 0 Add old value → sum_behind n new (map s (drop (i + 1) xs)) ≡ total
sum_more n s xs i x old new total value h e so_far here added =
    ap (λ t. sum_behind n t (map s (drop (i + 1) xs))) (added ∙ ap (λ v. Two 0 Add old v) here)
    ∙ ap (λ l. sum_behind n old (map s l)) (sym (drop_item xs i x h e))
    ∙ so_far

pub sum_all : {A : Type 0} (n : NewNames) (s : A → Item) (xs : List A) (i : ℕ) (got total : Expression) → length xs ≤ i → sum_behind n got (map s (drop i xs)) ≡ total → got ≡ total
sum_all n s xs i got total h so_far = sym (ap (λ l. sum_behind n got (map s l)) (drop_all i xs h)) ∙ so_far
