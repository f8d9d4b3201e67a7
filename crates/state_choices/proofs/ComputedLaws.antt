-- Values and sums of items as they are computed.
use Rattle.std.proofs.Common.{not, ◌≡◌, List, [], ◌∷◌, ◌++◌, map, Bool, true, false, ◌||◌, ◌&&◌, if◌then◌else◌, Option, Some, None, Err, refl, sym, ap, ap₂, ◌∙◌}
use Rattle.std.specs.List.{list_any, flat_map}
use Rattle.std.specs.Option.{option_map}
use Rattle.std.proofs.lemmas.Bool.{or_parts}
use Rattle.basics.specs.Members.{any-map, any_agree}
use Rattle.frac_core.specs.Fraction.{Fraction}
use Rattle.frac_core.specs.Sums.{total}
use Rattle.op_trees.specs.Seen.{Seen}
use Rattle.op_trees.specs.Meaning.{answered}
use Rattle.op_trees.specs.declared.tree.Value.{Value}
use Rattle.op_trees.specs.declared.tree.EvalFail.TheVariants as Fail
use Rattle.process_core.specs.Choices.{is_false, is_true, number_of, all_defined}
use Rattle.process_core.specs.Bounds.{Item, adds, summed, has_wide_sum, if_all}
use Rattle.state_choices.specs.Views.{seen_of, sum_of}
use Rattle.state_choices.specs.Trimmed.{computed_sum, computed_number, trimmed_seen, trimmed_item, ComputedLaws}
use Rattle.state_choices.specs.Items.{is_wide_item}
use Rattle.state_choices.proofs.Items.{wide_trimmed, by_added}

value_seen : (v : Option Value) (w : Bool) → seen_of (answered w v) ≡ record { value = if w then None else v; wide = w }
value_seen v true = refl
value_seen None false = refl
value_seen (Some x) false = refl

false_guard : (v : Option Value) (w : Bool) → is_false (seen_of (answered w v)).value ≡ (not w && is_false v)
false_guard v true = refl
false_guard None false = refl
false_guard (Some x) false = refl

sum_seen : (v : Option Fraction) (w : Bool) → sum_of (if w then Err Fail.Wide else computed_number v) ≡ record { value = if w then None else v; wide = w }
sum_seen v true = refl
sum_seen None false = refl
sum_seen (Some x) false = refl

wide_item : (w : Bool) (g : Option Value) (s : Seen) → is_wide_item (trimmed_item (record { guard = record { value = g; wide = w }; value = s })) ≡ is_wide_item (record { guard = record { value = g; wide = w }; value = s })
wide_item true g s = refl
wide_item false g s = by_guard (is_true g)
  where
    by_guard : (t : Bool) → (t && (if t then trimmed_seen s else record { value = None; wide = false }).wide) ≡ (t && s.wide)
    by_guard true = refl
    by_guard false = refl

same_adds : (g : Option Value) (s : Seen) → (is_true g && s.wide) ≡ false →
    adds (trimmed_item (record { guard = record { value = g; wide = false }; value = s })) ≡ adds (record { guard = record { value = g; wide = false }; value = s })
same_adds g s h = by_parts (is_false g) (is_true g) h
  where
    by_parts : (f t : Bool) → (t && s.wide) ≡ false →
        (if f then [] else ((if t then number_of (if t then trimmed_seen s else record { value = None; wide = false }).value else None) ∷ [])) ≡ (if f then [] else ((if t then number_of s.value else None) ∷ []))
    by_parts true t k = refl
    by_parts false false k = refl
    by_parts false true k = ap (λ w. number_of (if w then None else s.value) ∷ []) k

item_adds : (w : Bool) (g : Option Value) (s : Seen) → (w || (is_true g && s.wide)) ≡ false →
    adds (trimmed_item (record { guard = record { value = g; wide = w }; value = s })) ≡ adds (record { guard = record { value = g; wide = w }; value = s })
item_adds true g s h = absurd cc
item_adds false g s h = same_adds g s h

all_adds : (is : List Item) → list_any is_wide_item is ≡ false → flat_map adds (map trimmed_item is) ≡ flat_map adds is
all_adds [] h = refl
all_adds (i ∷ is) h =
    let p = or_parts (is_wide_item i) (list_any is_wide_item is) h in
    ap₂ (λ a b. a ++ b) (item_adds i.guard.wide i.guard.value i.value p.0) (all_adds is p.1)

wide_items : (is : List Item) → list_any is_wide_item (map trimmed_item is) ≡ list_any is_wide_item is
wide_items is = any-map is_wide_item trimmed_item is ∙ any_agree _ _ (λ (i : Item). wide_item i.guard.wide i.guard.value i.value) is

items_trimmed : (is : List Item) → computed_sum (summed (map trimmed_item is)) ≡ computed_sum (summed is)
items_trimmed is = by_wide (list_any is_wide_item is) refl
  where
    by_wide : (b : Bool) → list_any is_wide_item is ≡ b → computed_sum (summed (map trimmed_item is)) ≡ computed_sum (summed is)
    by_wide true h = wide_trimmed (map trimmed_item is) (wide_items is ∙ h) ∙ sym (wide_trimmed is h)
    by_wide false h =
        by_added (map trimmed_item is) (wide_items is ∙ h)
        ∙ ap (λ l. if if_all (all_defined l) has_wide_sum then Err Fail.Wide else computed_number (option_map total (all_defined l))) (all_adds is h)
        ∙ sym (by_added is h)

pub computed_laws : ComputedLaws
computed_laws = record {
  values = λ s. value_seen s.value s.wide;
  sums = λ m. sum_seen m.value m.wide;
  guards = λ s. false_guard s.value s.wide;
  items = items_trimmed;
}
