-- The sum of a structure's items as an expression has the value of the sum of the items.
use Rattle.std.specs.Prelude.{◌≡◌, List, [], ◌∷◌, ◌++◌, map, Bool, true, false, cond, Option, Some, None, if◌then◌else◌}
use Rattle.std.specs.List.{All, filter, flat_map}
use Rattle.std.specs.Option.{option_map}
use Rattle.std.proofs.Common.{refl, sym, ap, ap₂, ◌∙◌}
use Rattle.std.proofs.lemmas.List.Elements.{All-head, All-tail}
use Rattle.frac_core.specs.Fraction.{Fraction, nought, plus}
use Rattle.frac_core.specs.Decimal.{decimal_value, decimal_value-whole}
use Rattle.frac_core.specs.Laws.{plus_nought, nought_plus, plus_assoc}
use Rattle.frac_core.specs.Sums.{total}
use Rattle.op_trees.specs.Tree.{Two}
use Rattle.op_trees.specs.Seen.{Seen}
use Rattle.op_trees.specs.Meaning.{of_lazy, of_both}
use Rattle.op_trees.specs.declared.tree.Value.{Value}
use Rattle.op_trees.specs.declared.tree.Value.TheVariants as V
use Rattle.process_core.specs.Ready.{Name}
use Rattle.process_core.specs.Choices.{number_of, with_first, all_defined, is_false, is_true}
use Rattle.process_core.specs.Bounds.{adds, summed}
use Rattle.prism_tree.specs.Syntax as prism
use Rattle.prism_tree.specs.declared.syntax.ItemOn.{ItemOn}
use Rattle.prism_tree.specs.declared.syntax.ItemOn.TheVariants as On
use Rattle.prism_names.specs.Names.{see}
use Rattle.prism_flat.specs.Moment.{Adds, adds_of, item_at}
use Rattle.prism_flat.specs.Process.{is_for_states}
use Rattle.jani_table.specs.Operators.{jani_meaning}
use Rattle.jani_table.specs.declared.operator.JaniOp.TheVariants.{Add, Ite}
use Rattle.jani_tree.specs.Syntax.{Expression}
use Rattle.jani_meaning.specs.Scene as jani_scene
use Rattle.prism_images.specs.Image.{nought_literal}
use Rattle.prism_images.specs.Laws.{IsNoNumber}
use Rattle.name_table.specs.Asks.{NewNames}
use Rattle.jani_translation.specs.Automata.{for_states, item_value, sum_behind}
use Rattle.jani_translation.specs.SeenLaws.{IsSound}
use Rattle.jani_translation.proofs.SameSeen.{image_seen}

-- ---- sums of values that may be undefined
abbrev pub joined : Option Fraction → Option Fraction → Option Fraction
joined (Some x) (Some y) = Some (plus x y)
joined (Some x) None = None
joined None b = None

joined_nought : (a : Option Fraction) → joined a (Some nought) ≡ a
joined_nought None = refl
joined_nought (Some x) = ap Some (plus_nought x)

joined_assoc : (a b c : Option Fraction) → joined (joined a b) c ≡ joined a (joined b c)
joined_assoc None b c = refl
joined_assoc (Some x) None c = refl
joined_assoc (Some x) (Some y) None = refl
joined_assoc (Some x) (Some y) (Some z) = ap Some (plus_assoc x y z)

sum_of : List (Option Fraction) → Option Fraction
sum_of xs = option_map total (all_defined xs)

sum_first : (a : Option Fraction) (xs : List (Option Fraction)) → sum_of (a ∷ xs) ≡ joined a (sum_of xs)
unfolding sum_of
sum_first None xs = refl
sum_first (Some x) xs = by_rest (all_defined xs)
  where
    by_rest : (r : Option (List Fraction)) → option_map total (with_first (Some x) r) ≡ joined (Some x) (option_map total r)
    by_rest None = refl
    by_rest (Some ys) = refl

sum_none : sum_of [] ≡ Some nought
unfolding sum_of
sum_none = refl

-- a sum with at most one member before
sum_append : (xs ys : List (Option Fraction)) → sum_of (xs ++ ys) ≡ joined (sum_of xs) (sum_of ys)
sum_append [] ys = sym (ap (λ a. joined a (sum_of ys)) sum_none ∙ nothing (sum_of ys))
  where
    nothing : (b : Option Fraction) → joined (Some nought) b ≡ b
    nothing None = refl
    nothing (Some y) = ap Some (nought_plus y)
sum_append (x ∷ xs) ys =
    sum_first x (xs ++ ys) ∙ ap (joined x) (sum_append xs ys) ∙ sym (joined_assoc x (sum_of xs) (sum_of ys)) ∙ ap (λ a. joined a (sum_of ys)) (sym (sum_first x xs))

-- ---- nodes
add_number : (a b : Option Value) → number_of (of_both jani_meaning Add a b) ≡ joined (number_of a) (number_of b)
add_number None b = refl
add_number (Some (V.Number x)) None = refl
add_number (Some (V.Truth p)) None = refl
add_number (Some (V.Number x)) (Some (V.Number y)) = refl
add_number (Some (V.Number x)) (Some (V.Truth q)) = refl
add_number (Some (V.Truth p)) (Some (V.Number y)) = refl
add_number (Some (V.Truth p)) (Some (V.Truth q)) = refl

pub nought_is : decimal_value nought_literal ≡ nought
nought_is = decimal_value-whole nought_literal refl

-- an item: its value where the guard is true, and 0 where it is false
item_number : (g v : Option Value) → IsNoNumber g →
    number_of (of_lazy jani_meaning Ite g v (Some (V.Number (decimal_value nought_literal))))
    ≡ sum_of (if is_false g then [] else ((if is_true g then number_of v else None) ∷ []))
unfolding sum_of
item_number None v h = refl
item_number (Some (V.Number x)) v h = absurd h
item_number (Some (V.Truth false)) v h = ap Some nought_is
item_number (Some (V.Truth true)) v h = by_value (number_of v)
  where
    by_value : (b : Option Fraction) → b ≡ sum_of (b ∷ [])
    by_value None = refl
    by_value (Some x) = ap Some (sym (plus_nought x))

module _ (names : NewNames) (old env : Name → Seen) (n : (x : Name) → env (names.value x) ≡ old x) where
  abbrev pub SoundItem : prism.Item → Type 0
  SoundItem i = IsSound old i.guard × IsNoNumber (see i.guard old).value × IsSound old i.value

  item_seen : (i : prism.Item) → SoundItem i → number_of (jani_scene.see (item_value names i) env).value ≡ sum_of (adds (item_at old i).item)
  unfolding jani_scene.see
  item_seen i h =
      ap₂ (λ g v. number_of (of_lazy jani_meaning Ite g v (Some (V.Number (decimal_value nought_literal)))))
      (ap (λ r. r.value) (image_seen names.value i.guard old env n h.0)) (ap (λ r. r.value) (image_seen names.value i.value old env n h.2))
      ∙ item_number (see i.guard old).value (see i.value old).value h.1

  added : (e f : Expression) → number_of (jani_scene.see (Two 0 Add e f) env).value ≡ joined (number_of (jani_scene.see e env).value) (number_of (jani_scene.see f env).value)
  unfolding jani_scene.see
  added e f = add_number (jani_scene.see e env).value (jani_scene.see f env).value

  sum_seen : (e : Expression) (is : List prism.Item) → All SoundItem is →
      number_of (jani_scene.see (sum_behind names e is) env).value ≡ joined (number_of (jani_scene.see e env).value) (sum_of (flat_map adds (map (λ i. (item_at old i).item) is)))
  sum_seen e [] h = sym (ap (joined (number_of (jani_scene.see e env).value)) sum_none ∙ joined_nought (number_of (jani_scene.see e env).value))
  sum_seen e (i ∷ is) h =
      let a = number_of (jani_scene.see e env).value in
      let b = sum_of (adds (item_at old i).item) in
      let c = sum_of (flat_map adds (map (λ i. (item_at old i).item) is)) in
      sum_seen (Two 0 Add e (item_value names i)) is (All-tail SoundItem i is h)
      ∙ ap (λ x. joined x c) (added e (item_value names i) ∙ ap (joined a) (item_seen i (All-head SoundItem i is h)))
      ∙ joined_assoc a b c
      ∙ ap (joined a) (sym (sum_append (adds (item_at old i).item) (flat_map adds (map (λ i. (item_at old i).item) is))))

  -- of one item and more
  pub items_seen : (i : prism.Item) (is : List prism.Item) → All SoundItem (i ∷ is) →
      number_of (jani_scene.see (sum_behind names (item_value names i) is) env).value ≡ (summed (map (λ i. (item_at old i).item) (i ∷ is))).value
  unfolding sum_of
  items_seen i is h =
      sum_seen (item_value names i) is (All-tail SoundItem i is h)
      ∙ ap (λ a. joined a (sum_of (flat_map adds (map (λ i. (item_at old i).item) is)))) (item_seen i (All-head SoundItem i is h))
      ∙ sym (sum_append (adds (item_at old i).item) (flat_map adds (map (λ i. (item_at old i).item) is)))

-- ---- the items for something
pub wanted_items : (p : Adds → Bool) (wanted : ItemOn → Bool) → ((o : ItemOn) → p (adds_of o) ≡ wanted o) → (old : Name → Seen) (is : List prism.Item) →
    map (λ e. e.item) (filter (λ e. p e.adds) (map (item_at old) is)) ≡ map (λ i. (item_at old i).item) (filter (λ i. wanted i.on) is)
wanted_items p wanted h old [] = refl
wanted_items p wanted h old (i ∷ is) = kept (p (adds_of i.on)) (wanted i.on) (h i.on) (wanted_items p wanted h old is)
  where
    kept : (b c : Bool) → b ≡ c →
        map (λ e. e.item) (filter (λ e. p e.adds) (map (item_at old) is)) ≡ map (λ i. (item_at old i).item) (filter (λ i. wanted i.on) is) →
        map (λ e. e.item) (cond b (item_at old i ∷ filter (λ e. p e.adds) (map (item_at old) is)) (filter (λ e. p e.adds) (map (item_at old) is)))
        ≡ map (λ i. (item_at old i).item) (cond c (i ∷ filter (λ i. wanted i.on) is) (filter (λ i. wanted i.on) is))
    kept true true e r = ap (λ l. (item_at old i).item ∷ l) r
    kept true false e r = absurd cc
    kept false true e r = absurd cc
    kept false false e r = r

on_states : (o : ItemOn) → is_for_states (adds_of o) ≡ for_states o
on_states On.InState = refl
on_states On.Silent = refl
on_states (On.Action a) = refl

pub state_items : (old : Name → Seen) (is : List prism.Item) →
    map (λ e. e.item) (filter (λ e. is_for_states e.adds) (map (item_at old) is)) ≡ map (λ i. (item_at old i).item) (filter (λ i. for_states i.on) is)
state_items old is = wanted_items is_for_states for_states on_states old is
