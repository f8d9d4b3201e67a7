-- Combinations that aren't disabled: those of the commands whose guards aren't false.
use Rattle.std.proofs.Common.{◌≡◌, ◌==◌, Option, Some, None, is_none, sym, List, [], ◌∷◌, ◌++◌, map, Bool, true, false, ◌||◌, ◌&&◌, not, cond, if◌then◌else◌, length, refl, ap, ap₂, ◌∙◌, arith}
use Rattle.std.specs.List.{list_any, flat_map, filter}
use Rattle.std.proofs.lemmas.List.Folds.{list_any-append}
use Rattle.std.proofs.lemmas.Bool.{ne_eqb}
use Rattle.process_core.specs.Product.{one_of_each}
use Rattle.process_core.specs.Ready.{Values, Name, Ready, Combination}
use Rattle.frac_core.specs.Fraction.{Fraction}
use Rattle.process_core.specs.Process.{Outcome}
use Rattle.process_core.specs.Choices.{is_false, guard_of, choice_from, choice_of, choices}
use Rattle.process_core.specs.Bounds.{is_enabled, fails, holds, has_wide_guard, is_wide_rest}
use Rattle.std.specs.Borrow.{Bor}
use Rattle.std.proofs.lemmas.List.{length-map}
use Rattle.std.proofs.lemmas.List.Elements.{filter-append, filter_agree}
use Rattle.basics.specs.Members.{any-map, any_agree, filter-map}
use Rattle.state_choices.specs.declared.data.Group as code
use Rattle.state_choices.specs.declared.data.Command.{Command}
use Rattle.state_choices.specs.Views.{seen_of, command_of, participants_of, group_of}
use Rattle.state_choices.specs.Groups.{Group, of_group, of_groups}
use Rattle.state_choices.specs.Counted.{may_hold, is_empty}

-- ---- one of each list, none of which is refused, is one of what isn't refused of each list
module _ {X : Type 0} (p : X → Bool) where
  abbrev passes : List X → Bool
  passes rs = not (list_any p rs)

  with_first : (x : X) (rs : List (List X)) → filter passes (map (λ r. x ∷ r) rs) ≡ cond (not (p x)) (map (λ r. x ∷ r) (filter passes rs)) []
  with_first x rs = filter-map passes (λ r. x ∷ r) rs ∙ by_test (p x) refl
    where
      none : (rs : List (List X)) → filter (λ r. false) rs ≡ []
      none [] = refl
      none (r ∷ rs) = none rs

      by_test : (b : Bool) → p x ≡ b → map (λ r. x ∷ r) (filter (λ r. not (p x || list_any p r)) rs) ≡ cond (not b) (map (λ r. x ∷ r) (filter passes rs)) []
      by_test true h = ap (map (λ r. x ∷ r)) (filter_agree (λ r. not (p x || list_any p r)) (λ r. false) (λ r. ap (λ b. not (b || list_any p r)) h) rs ∙ none rs)
      by_test false h = ap (map (λ r. x ∷ r)) (filter_agree (λ r. not (p x || list_any p r)) passes (λ r. ap (λ b. not (b || list_any p r)) h) rs)

  each_first : (xs : List X) (rs : List (List X)) → filter passes (flat_map (λ x. map (λ r. x ∷ r) rs) xs) ≡ flat_map (λ x. map (λ r. x ∷ r) (filter passes rs)) (filter (λ x. not (p x)) xs)
  each_first [] rs = refl
  each_first (x ∷ xs) rs =
      filter-append passes (map (λ r. x ∷ r) rs) (flat_map (λ x. map (λ r. x ∷ r) rs) xs)
      ∙ ap₂ (λ a b. a ++ b) (with_first x rs) (each_first xs rs)
      ∙ by_test (not (p x))
    where
      K : List (List X)
      K = filter passes rs

      by_test : (b : Bool) → cond b (map (λ r. x ∷ r) (filter passes rs)) [] ++ flat_map (λ x. map (λ r. x ∷ r) (filter passes rs)) (filter (λ x. not (p x)) xs)
          ≡ flat_map (λ x. map (λ r. x ∷ r) (filter passes rs)) (cond b (x ∷ filter (λ x. not (p x)) xs) (filter (λ x. not (p x)) xs))
      by_test true = refl
      by_test false = refl

  pub one_of_each-filter : (xss : List (List X)) → filter passes (one_of_each xss) ≡ one_of_each (map (filter (λ x. not (p x))) xss)
  one_of_each-filter [] = refl
  one_of_each-filter (xs ∷ xss) =
      each_first xs (one_of_each xss)
      ∙ ap (λ rs. flat_map (λ x. map (λ r. x ∷ r) rs) (filter (λ x. not (p x)) xs)) (one_of_each-filter xss)

-- ---- what is enabled
enabled_by : (a b : Bool) → not (fails (cond a (Some false) (cond b None (Some true)))) ≡ not a
enabled_by true b = refl
enabled_by false true = refl
enabled_by false false = refl

pub is_enabled_is : (c : Combination) → is_enabled c ≡ not (list_any (λ r. is_false r.guard.value) c.participants)
is_enabled_is c = enabled_by (list_any (λ r. is_false r.guard.value) c.participants) (list_any (λ r. is_none r.guard.value) c.participants)

-- a group without the commands that disable combinations
abbrev pub opened : Group → Group
opened g = record { label = g.label; rewards = g.rewards; lists = map (filter may_hold) g.lists }

pub enabled_group : (g : Group) → filter is_enabled (of_group g) ≡ of_group (opened g)
enabled_group g =
    let joined : List Ready → Combination = λ rs. record { label = g.label; rewards = g.rewards; participants = rs } in
    filter-map is_enabled joined (one_of_each g.lists)
    ∙ ap (map joined) (filter_agree (λ rs. is_enabled (joined rs)) (passes (λ r. is_false r.guard.value)) (λ rs. is_enabled_is (joined rs)) (one_of_each g.lists)
    ∙ one_of_each-filter (λ r. is_false r.guard.value) g.lists)

pub enabled_groups : (gs : List Group) → filter is_enabled (of_groups gs) ≡ of_groups (map opened gs)
enabled_groups [] = refl
enabled_groups (g ∷ gs) = filter-append is_enabled (of_group g) (of_groups gs) ∙ ap₂ (λ a b. a ++ b) (enabled_group g) (enabled_groups gs)

-- ---- wide guards: there is a combination, and a member of a list is wide
module _ {X : Type 0} (p : X → Bool) where
  any_first : (x : X) (rs : List (List X)) → list_any (list_any p) (map (λ r. x ∷ r) rs) ≡ ((not (is_empty rs) && p x) || list_any (list_any p) rs)
  any_first x [] = refl
  any_first x (r ∷ rs) = by_test (p x) (list_any p r) (any_first x rs)
    where
      by_test : (a b : Bool) → list_any (list_any p) (map (λ r. x ∷ r) rs) ≡ ((not (is_empty rs) && a) || list_any (list_any p) rs) →
          ((a || b) || list_any (list_any p) (map (λ r. x ∷ r) rs)) ≡ ((true && a) || (b || list_any (list_any p) rs))
      by_test true b h = refl
      by_test false true h = refl
      by_test false false h = h ∙ nothing (not (is_empty rs))
        where
          nothing : (c : Bool) → ((c && false) || list_any (list_any p) rs) ≡ list_any (list_any p) rs
          nothing true = refl
          nothing false = refl

  -- whether there is one of each
  pub is_empty-one_of_each : (xss : List (List X)) → is_empty (one_of_each xss) ≡ list_any is_empty xss
  is_empty-one_of_each [] = refl
  is_empty-one_of_each ([] ∷ xss) = refl
  is_empty-one_of_each ((x ∷ xs) ∷ xss) = front (one_of_each xss) ∙ is_empty-one_of_each xss
    where
      front : (rs : List (List X)) → is_empty (map (λ r. x ∷ r) rs ++ flat_map (λ x. map (λ r. x ∷ r) rs) xs) ≡ is_empty rs
      front (r ∷ rs) = refl
      front [] = none xs
        where
          none : (xs : List X) → is_empty (flat_map (λ (x : X). map (λ (r : List X). x ∷ r) []) xs) ≡ true
          none [] = refl
          none (x ∷ xs) = none xs

  any_walk : (xs : List X) (rs : List (List X)) → list_any (list_any p) (flat_map (λ x. map (λ r. x ∷ r) rs) xs)
      ≡ ((not (is_empty rs) && list_any p xs) || (not (is_empty xs) && list_any (list_any p) rs))
  any_walk [] rs = sym (by_test (not (is_empty rs)))
    where
      by_test : (b : Bool) → ((b && false) || false) ≡ false
      by_test true = refl
      by_test false = refl
  any_walk (x ∷ xs) rs =
      list_any-append (list_any p) (map (λ r. x ∷ r) rs) (flat_map (λ x. map (λ r. x ∷ r) rs) xs)
      ∙ ap₂ (λ a b. a || b) (any_first x rs) (any_walk xs rs)
      ∙ by_test (not (is_empty rs)) (p x) (list_any p xs) (not (is_empty xs)) (list_any (list_any p) rs)
    where
      by_test : (e a b f c : Bool) → (((e && a) || c) || ((e && b) || (f && c))) ≡ ((e && (a || b)) || (true && c))
      by_test true true b f c = refl
      by_test true false true f true = refl
      by_test true false true f false = refl
      by_test true false false f true = refl
      by_test true false false true false = refl
      by_test true false false false false = refl
      by_test false a b f true = refl
      by_test false a b true false = refl
      by_test false a b false false = refl

  pub any-one_of_each : (xss : List (List X)) → list_any (list_any p) (one_of_each xss) ≡ (not (list_any is_empty xss) && list_any (list_any p) xss)
  any-one_of_each [] = refl
  any-one_of_each (xs ∷ xss) =
      any_walk xs (one_of_each xss)
      ∙ ap₂ (λ e c. (not e && list_any p xs) || (not (is_empty xs) && c)) (is_empty-one_of_each xss) (any-one_of_each xss)
      ∙ by_test (list_any is_empty xss) (list_any p xs) (list_any (list_any p) xss) (is_empty xs) (empty_has_none xs)
    where
      empty_has_none : (xs : List X) → is_empty xs ≡ true → list_any p xs ≡ false
      empty_has_none [] h = refl
      empty_has_none (x ∷ xs) h = absurd cc

      by_test : (e a c f : Bool) → (f ≡ true → a ≡ false) → ((not e && a) || (not f && (not e && c))) ≡ (not (f || e) && (a || c))
      by_test e a c true h = ap (λ a. (not e && a) || false) (h refl) ∙ nothing (not e)
        where
          nothing : (b : Bool) → ((b && false) || false) ≡ false
          nothing true = refl
          nothing false = refl
      by_test true a c false h = refl
      by_test false true c false h = refl
      by_test false false c false h = refl

pub wide_group : (g : Group) → list_any has_wide_guard (of_group g) ≡ (not (list_any is_empty g.lists) && list_any (list_any (λ r. r.guard.wide)) g.lists)
wide_group g = any-map has_wide_guard (λ rs. record { label = g.label; rewards = g.rewards; participants = rs }) (one_of_each g.lists) ∙ any-one_of_each (λ r. r.guard.wide) g.lists

pub is_empty_is : {X : Type 0} (xs : List X) → is_empty xs ≡ (length xs == 0)
is_empty_is [] = refl
is_empty_is (x ∷ xs) = sym (ne_eqb (length (x ∷ xs)) 0 (λ e. let no : ⊥ = omega arith in no))

-- ---- what is disabled gives nothing
nothing_wide : (g : Option Bool) (rest : Bool) → not (fails g) ≡ false → (holds g && rest) ≡ false
nothing_wide (Some false) rest h = refl
nothing_wide (Some true) rest h = absurd cc
nothing_wide None rest h = absurd cc

nothing_chosen : (g : Option Bool) (label : Option Name) (o : Outcome Fraction Values) → not (fails g) ≡ false → choice_from g label o ≡ []
nothing_chosen (Some false) label o h = refl
nothing_chosen (Some true) label o h = absurd cc
nothing_chosen None label o h = absurd cc

pub wide_enabled : (cs : List Combination) → list_any is_wide_rest (filter is_enabled cs) ≡ list_any is_wide_rest cs
wide_enabled [] = refl
wide_enabled (c ∷ cs) = by_test (is_enabled c) refl (wide_enabled cs)
  where
    by_test : (b : Bool) → is_enabled c ≡ b → list_any is_wide_rest (filter is_enabled cs) ≡ list_any is_wide_rest cs → list_any is_wide_rest (cond b (c ∷ filter is_enabled cs) (filter is_enabled cs)) ≡ (is_wide_rest c || list_any is_wide_rest cs)
    by_test true h ih = ap (λ b. is_wide_rest c || b) ih
    by_test false h ih = ih ∙ ap (λ b. b || list_any is_wide_rest cs) (sym (nothing_wide (guard_of c.participants) _ h))

pub choices_enabled : (s : Values) (cs : List Combination) → choices s (filter is_enabled cs) ≡ choices s cs
choices_enabled s [] = refl
choices_enabled s (c ∷ cs) = by_test (is_enabled c) refl (choices_enabled s cs)
  where
    by_test : (b : Bool) → is_enabled c ≡ b → choices s (filter is_enabled cs) ≡ choices s cs → choices s (cond b (c ∷ filter is_enabled cs) (filter is_enabled cs)) ≡ choice_of s c ++ choices s cs
    by_test true h ih = ap (λ l. choice_of s c ++ l) ih
    by_test false h ih = ih ∙ ap (λ l. l ++ choices s cs) (sym (nothing_chosen (guard_of c.participants) c.label _ h))

-- ---- of the program's data
pub guarded_wide_is : (g : code.Group) → list_any has_wide_guard (of_group (group_of g))
    ≡ (not (list_any (λ l. length l.now == 0) g.lists.items) && list_any (λ l. list_any (λ r. (seen_of r.guard).wide) l.now) g.lists.items)
guarded_wide_is g =
    let commands = λ (l : Bor (List Command)). map command_of l.now in
    wide_group (group_of g)
    ∙ ap₂ (λ a b. not a && b)
    (any-map is_empty commands g.lists.items
    ∙ any_agree _ _ (λ (l : Bor (List Command)). is_empty_is (map command_of l.now) ∙ ap (λ n. n == 0) (length-map l.now command_of)) g.lists.items)
    (any-map (list_any (λ (r : Ready). r.guard.wide)) commands g.lists.items ∙ any_agree _ _ (λ (l : Bor (List Command)). any-map (λ (r : Ready). r.guard.wide) command_of l.now) g.lists.items)

pub guard_is : (rs : List (Bor Command)) → guard_of (participants_of rs)
    ≡ (if list_any (λ r. is_false (seen_of r.now.guard).value) rs then Some false else (if list_any (λ r. is_none (seen_of r.now.guard).value) rs then None else Some true))
guard_is rs =
    ap₂ (λ a b. if a then Some false else (if b then None else Some true))
    (any-map (λ (r : Ready). is_false r.guard.value) (λ (r : Bor Command). command_of r.now) rs)
    (any-map (λ (r : Ready). is_none r.guard.value) (λ (r : Bor Command). command_of r.now) rs)

-- no way where a list has no member
pub none_of_each : {X V : Type 0} (items : V → List X) (vs : List V) → list_any (λ v. length (items v) == 0) vs ≡ true → [] ≡ one_of_each (map items vs)
none_of_each items vs h =
    nothing (one_of_each (map items vs))
    (is_empty-one_of_each (λ x. true) (map items vs) ∙ any-map is_empty items vs ∙ any_agree _ _ (λ v. is_empty_is (items v)) vs ∙ h)
  where
    nothing : {X : Type 0} (rs : List (List X)) → is_empty rs ≡ true → [] ≡ rs
    nothing [] k = refl
    nothing (r ∷ rs) k = absurd cc
