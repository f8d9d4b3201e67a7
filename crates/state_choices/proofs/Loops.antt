-- What the loops over ways gather.
use Rattle.std.proofs.Common.{◌≡◌, List, [], ◌∷◌, map, Bool, Vec, Global, ◌||◌, refl, sym, ap, ◌∙◌}
use Rattle.std.specs.Borrow.{Bor}
use Rattle.std.specs.List.{list_any, flat_map, filter}
use Rattle.std.proofs.lemmas.List.Folds.{list_any-append, flat_map-map}
use Rattle.std.proofs.lemmas.List.Concat.{flat_map_single}
use Rattle.basics.specs.Members.{any-map}
use Rattle.frac_core.specs.Fraction.{Fraction, unit, is_wide}
use Rattle.process_core.specs.Process.{Choice}
use Rattle.process_core.specs.Product.{map-map, flat_map-flat_map, one_of_each}
use Rattle.process_core.specs.Ready.{Values, Name}
use Rattle.process_core.specs.Ready as core
use Rattle.process_core.specs.Choices.{weight_of, choice_of, choices}
use Rattle.process_core.specs.Bounds.{partial_products, is_wide_rest, is_enabled, has_wide_guard}
use Rattle.state_choices.specs.declared.data.Update.{Update}
use Rattle.state_choices.specs.declared.data.Command.{Command}
use Rattle.state_choices.specs.declared.data.Group.{Group}
use Rattle.state_choices.specs.Views.{update_of, updates_of, alone_in, command_of, combination_of, participants_of, group_of}
use Rattle.state_choices.specs.Groups.{of_group, of_groups}
use Rattle.state_choices.specs.Counted.{is_wide_way, may_hold}
use Rattle.state_choices.specs.Open.{weighed}
use Rattle.state_choices.proofs.Opened.{enabled_group, wide_enabled, choices_enabled}

abbrev pub wide_updates : List (Bor Update) → Bool
wide_updates us = list_any is_wide (partial_products unit (map weight_of (updates_of us)))

abbrev pub way_wide : Vec (Bor Update) Global → Bool
way_wide w = list_any is_wide (partial_products unit (map weight_of (updates_of w.items)))

abbrev pub way_ways : Vec (Bor Update) Global → List (Fraction × List core.Update)
way_ways w = weighed (updates_of w.items) ∷ []

-- where there is one participant
abbrev pub update_wide : Update → Bool
update_wide u = is_wide_way (update_of u ∷ [])

abbrev pub update_ways : Update → List (Fraction × List core.Update)
update_ways u = weighed (update_of u ∷ []) ∷ []

abbrev pub alone_wide : Group → Command → Bool
alone_wide g r = is_wide_rest (alone_in g r)

abbrev pub alone_choice : Values → Group → Command → List (Choice Name Fraction Values)
alone_choice s g r = choice_of s (alone_in g r)

abbrev pub participants_wide : Group → Vec (Bor Command) Global → Bool
participants_wide g w = is_wide_rest (combination_of g w.items)

abbrev pub participants_choice : Values → Group → Vec (Bor Command) Global → List (Choice Name Fraction Values)
participants_choice s g w = choice_of s (combination_of g w.items)

abbrev pub joined : Group → List core.Ready → core.Combination
joined g rs = record { label = (group_of g).label; rewards = (group_of g).rewards; participants = rs }

any_flat : {A B : Type 0} (p : B → Bool) (f : A → List B) (xs : List A) → list_any p (flat_map f xs) ≡ list_any (λ x. list_any p (f x)) xs
any_flat p f [] = refl
any_flat p f (x ∷ xs) = list_any-append p (f x) (flat_map f xs) ∙ ap (λ b. list_any p (f x) || b) (any_flat p f xs)

pub weights_map : (us : List (Bor Update)) → map weight_of (updates_of us) ≡ map (λ u. weight_of (update_of u.now)) us
weights_map us = map-map weight_of (λ (u : Bor Update). update_of u.now) us

-- the ways by themselves
pub wide_ways : (ws : List (Vec (Bor Update) Global)) (all : List (List core.Update)) → map (λ w. updates_of w.items) ws ≡ all →
    list_any way_wide ws ≡ list_any (λ us. list_any is_wide (partial_products unit (map weight_of us))) all
wide_ways ws all e =
    sym (any-map (λ (us : List core.Update). list_any is_wide (partial_products unit (map weight_of us))) (λ (w : Vec (Bor Update) Global). updates_of w.items) ws)
    ∙ ap (list_any (λ us. list_any is_wide (partial_products unit (map weight_of us)))) e

pub branches_of_ways : (ws : List (Vec (Bor Update) Global)) (all : List (List core.Update)) → map (λ w. updates_of w.items) ws ≡ all →
    map (λ w. weighed (updates_of w.items)) ws ≡ map weighed all
branches_of_ways ws all e =
    sym (map-map weighed (λ (w : Vec (Bor Update) Global). updates_of w.items) ws)
    ∙ ap (map weighed) e

-- the combinations by themselves
module _ (g : Group) (ws : List (Vec (Bor Command) Global)) (e : map (λ w. participants_of w.items) ws ≡ one_of_each (map (filter may_hold) (group_of g).lists)) where
  are_enabled : map (λ w. combination_of g w.items) ws ≡ filter is_enabled (of_group (group_of g))
  are_enabled =
      sym (map-map (joined g) (λ (w : Vec (Bor Command) Global). participants_of w.items) ws)
      ∙ ap (map (joined g)) e
      ∙ sym (enabled_group (group_of g))

  pub wide_combinations : list_any (participants_wide g) ws ≡ list_any is_wide_rest (of_group (group_of g))
  wide_combinations =
      sym (any-map is_wide_rest (λ (w : Vec (Bor Command) Global). combination_of g w.items) ws)
      ∙ ap (list_any is_wide_rest) are_enabled
      ∙ wide_enabled (of_group (group_of g))

  pub choices_of_combinations : (s : Values) → flat_map (participants_choice s g) ws ≡ choices s (of_group (group_of g))
  choices_of_combinations s =
      sym (flat_map-map (choice_of s) (λ (w : Vec (Bor Command) Global). combination_of g w.items) ws)
      ∙ ap (choices s) are_enabled
      ∙ choices_enabled s (of_group (group_of g))

-- of one list, each member by itself
pub one_of_one : {X : Type 0} (xs : List X) → one_of_each (xs ∷ []) ≡ map (λ x. x ∷ []) xs
one_of_one xs = flat_map_single (λ x. x ∷ []) xs

-- one participant's updates by themselves
module _ (us : List Update) where
  alone_ways : one_of_each (map update_of us ∷ []) ≡ map (λ u. update_of u ∷ []) us
  alone_ways = one_of_one (map update_of us) ∙ map-map (λ u. u ∷ []) update_of us

  pub wide_alone : list_any update_wide us ≡ list_any is_wide_way (one_of_each (map update_of us ∷ []))
  wide_alone = sym (any-map is_wide_way (λ (u : Update). update_of u ∷ []) us) ∙ ap (list_any is_wide_way) (sym alone_ways)

  pub branches_alone : map (λ u. weighed (update_of u ∷ [])) us ≡ map weighed (one_of_each (map update_of us ∷ []))
  branches_alone = sym (map-map weighed (λ (u : Update). update_of u ∷ []) us) ∙ ap (map weighed) (sym alone_ways)

-- the commands of a group of one list by themselves
module _ (g : Group) (rs : List Command) (e : (group_of g).lists ≡ map command_of rs ∷ []) where
  are_alone : of_group (group_of g) ≡ map (alone_in g) rs
  are_alone =
      ap (λ l. map (joined g) (one_of_each l)) e
      ∙ ap (map (joined g)) (one_of_one (map command_of rs) ∙ map-map (λ r. r ∷ []) command_of rs)
      ∙ map-map (joined g) (λ (r : Command). command_of r ∷ []) rs

  pub wide_each_alone : list_any (alone_wide g) rs ≡ list_any is_wide_rest (of_group (group_of g))
  wide_each_alone = sym (any-map is_wide_rest (alone_in g) rs) ∙ ap (list_any is_wide_rest) (sym are_alone)

  pub choices_each_alone : (s : Values) → flat_map (alone_choice s g) rs ≡ choices s (of_group (group_of g))
  choices_each_alone s = sym (flat_map-map (choice_of s) (alone_in g) rs) ∙ ap (choices s) (sym are_alone)

-- the groups by themselves
pub wide_groups : (gs : List Group) → list_any (λ g. list_any is_wide_rest (of_group (group_of g))) gs ≡ list_any is_wide_rest (of_groups (map group_of gs))
wide_groups gs = sym (any_flat is_wide_rest (of_group) (map group_of gs) ∙ any-map (λ g. list_any is_wide_rest (of_group g)) group_of gs)

pub wide_guards : (gs : List Group) → list_any (λ g. list_any has_wide_guard (of_group (group_of g))) gs ≡ list_any has_wide_guard (of_groups (map group_of gs))
wide_guards gs = sym (any_flat has_wide_guard (of_group) (map group_of gs) ∙ any-map (λ g. list_any has_wide_guard (of_group g)) group_of gs)

pub choices_of_groups : (s : Values) (gs : List Group) → flat_map (λ g. choices s (of_group (group_of g))) gs ≡ choices s (of_groups (map group_of gs))
choices_of_groups s gs =
    sym (flat_map-flat_map (choice_of s) of_group (map group_of gs) ∙ flat_map-map (λ g. choices s (of_group g)) group_of gs)
