-- Boolean transient variables that the locations of an element give many values; and whether a translation is too large.
use Rattle.std.specs.Prelude.{◌≡◌, ℕ, ◌+◌, List, [], ◌∷◌, map, length, Bool, true, false, ◌&&◌, ◌||◌, Option, Some, None, is_some, is_none, nat_eq, nat_lt, bytes_eq, if◌then◌else◌}
use Rattle.std.specs.List.{filter, flat_map, list_any, sum_by, position}
use Rattle.std.proofs.Common.{refl, sym, ap, ap₂, ◌∙◌, arith, length-append}
use Rattle.std.proofs.lemmas.List.{length-map}
use Rattle.std.proofs.lemmas.List.Elements.{filter-append}
use Rattle.std.proofs.lemmas.List.Sums.{sum_by-cons}
use Rattle.std.proofs.lemmas.Slice.Eq.{bytes_eq-Decides}
use Rattle.std.proofs.Math.Bool.{or-false, or_assoc}
use Rattle.basics.specs.Texts.{bytes_eq_comm}
use Rattle.basics.specs.Options.{is_some-or}
use Rattle.basics.specs.Members.{any_agree, any_two, is_some-position}
use Rattle.process_core.specs.Ready.{Name}
use Rattle.choice_laws.proofs.Walks.{any-flat_map, any_and, any_exchange, any_left, has_some}
use Rattle.jani_tree.specs.Syntax.{Write, Location, Automaton, File}
use Rattle.jani_meaning.specs.Elements as jani
use Rattle.op_trees.specs.Names.{is_called}
use Rattle.jani_meaning.specs.Elements.{Owned, is_owner, is_own, is_global, place_of, labels}
use Rattle.process_core.specs.Instance.{numbered}
use Rattle.prism_translation.specs.Elements.{Element, elements, may_use}
use Rattle.prism_translation.specs.Marks.{Given, given_by}
use Rattle.prism_translation.specs.Refused.{values_given, result_commands, result_nodes, has_large_result}
use Rattle.prism_translation.proofs.Numbered.{numbered_from}
use Rattle.edge_tables.specs.Counts.{has_many_commands, value_count, is_crowded, some_crowded, crowded_from, usable_among}

-- ---- a name that an element may use
abbrev is_usable : ℕ → Name → Owned → Bool
is_usable k x o = may_use k o.owner && is_called x o.var.name

usable_is : (vars : List Owned) (k : ℕ) (x : Name) → is_some (place_of vars k x) ≡ list_any (is_usable k x) vars
usable_is vars k x =
    is_some-or (position (is_own k x) vars) (position (is_global x) vars)
    ∙ ap₂ (λ a b. a || b) (is_some-position (is_own k x) vars) (is_some-position (is_global x) vars)
    ∙ sym (any_two (is_own k x) (is_global x) vars)
    ∙ any_agree (λ o. is_own k x o || is_global x o) (is_usable k x) (λ o. by_owner o.owner (is_called x o.var.name)) vars
  where
    by_owner : (o : Option ℕ) (c : Bool) → ((is_owner k o && c) || (is_none o && c)) ≡ (may_use k o && c)
    by_owner None c = refl
    by_owner (Some j) c = or-false (nat_eq k j && c)

-- ---- how many values a name is given
abbrev all_values : Automaton → List Write
all_values a = flat_map (λ l. l.values) a.locations

abbrev is_for : Name → Write → Bool
is_for x w = is_called x w.target

counted_values : (x : Name) (ls : List Location) → sum_by (λ l. length (filter (is_for x) l.values)) ls ≡ length (filter (is_for x) (flat_map (λ l. l.values) ls))
counted_values x [] = refl
counted_values x (l ∷ ls) =
    sum_by-cons (λ l. length (filter (is_for x) l.values)) l ls
    ∙ ap (λ n. length (filter (is_for x) l.values) + n) (counted_values x ls)
    ∙ sym (ap length (filter-append (is_for x) l.values (flat_map (λ l. l.values) ls)) ∙ length-append (filter (is_for x) l.values) (filter (is_for x) (flat_map (λ l. l.values) ls)))

abbrev made_given : Element → ℕ → Write → Given
made_given el i w = record { element = el; location = i; value = w.value }

given_count : (x : Name) (el : Element) → length (given_by x el) ≡ value_count el.automaton x
given_count x el = from 0 el.automaton.locations
  where
    from : (i : ℕ) (ls : List Location) →
        length (numbered (λ i l. map (made_given el i) (filter (is_for x) l.values)) i ls) ≡ sum_by (λ l. length (filter (is_for x) l.values)) ls
    from i [] = refl
    from i (l ∷ ls) =
        length-append (map (made_given el i) (filter (is_for x) l.values))
        (numbered (λ i l. map (made_given el i) (filter (is_for x) l.values)) (i + 1) ls)
        ∙ ap₂ (λ m n. m + n) (length-map (filter (is_for x) l.values) (made_given el i)) (from (i + 1) ls)
        ∙ sym (sum_by-cons (λ l. length (filter (is_for x) l.values)) l ls)

-- ---- one element
and_all : {X : Type 0} (b : Bool) (p : X → Bool) (xs : List X) → (b && list_any p xs) ≡ list_any (λ x. b && p x) xs
and_all true p xs = refl
and_all false p [] = refl
and_all false p (x ∷ xs) = and_all false p xs

module _ (vars : List Owned) (k : ℕ) (a : Automaton) where
  abbrev el : Element
  el = record { number = k; automaton = a }

  abbrev is_many : Name → Bool
  is_many x = nat_lt 1024 (value_count a x)

  one_value : (o : Owned) (w : Write) (b : Bool) → bytes_eq o.var.name.name w.target.name ≡ b →
      (is_many w.target.name && (may_use k o.owner && b)) ≡ (is_for o.var.name.name w && (may_use k o.owner && is_many o.var.name.name))
  one_value o w true e =
      let same : o.var.name.name ≡ w.target.name = (bytes_eq-Decides o.var.name.name w.target.name).0 e in
      ap (λ x. is_many x && (may_use k o.owner && true)) (sym same)
      ∙ turned (is_many o.var.name.name) (may_use k o.owner)
      ∙ ap (λ b. b && (may_use k o.owner && is_many o.var.name.name)) (sym (bytes_eq_comm w.target.name o.var.name.name ∙ e))
    where
      turned : (m u : Bool) → (m && (u && true)) ≡ (true && (u && m))
      turned true true = refl
      turned true false = refl
      turned false true = refl
      turned false false = refl
  one_value o w false e =
      never (is_many w.target.name) (may_use k o.owner)
      ∙ ap (λ b. b && (may_use k o.owner && is_many o.var.name.name)) (sym (bytes_eq_comm w.target.name o.var.name.name ∙ e))
    where
      never : (m u : Bool) → (m && (u && false)) ≡ false
      never true true = refl
      never true false = refl
      never false u = refl

  has_some_many : (u : Bool) (ws : List Write) → (has_some ws && (u && nat_lt 1024 (length ws))) ≡ (u && nat_lt 1024 (length ws))
  has_some_many true [] = grind arith
  has_some_many false [] = refl
  has_some_many u (w ∷ ws) = refl

  one_variable : (o : Owned) → list_any (λ w. is_many w.target.name && is_usable k w.target.name o) (all_values a) ≡ nat_lt 1024 (values_given o el)
  one_variable o =
      any_agree (λ w. is_many w.target.name && is_usable k w.target.name o) (λ w. is_for o.var.name.name w && (may_use k o.owner && is_many o.var.name.name))
      (λ w. one_value o w (bytes_eq o.var.name.name w.target.name) refl) (all_values a)
      ∙ any_and (is_for o.var.name.name) (may_use k o.owner && is_many o.var.name.name) (all_values a)
      ∙ ap₂ (λ b n. b && (may_use k o.owner && nat_lt 1024 n)) (any_left (is_for o.var.name.name) (all_values a)) (counted_values o.var.name.name a.locations)
      ∙ has_some_many (may_use k o.owner) (filter (is_for o.var.name.name) (all_values a))
      ∙ ap (λ n. may_use k o.owner && nat_lt 1024 n) (sym (counted_values o.var.name.name a.locations) ∙ sym (given_count o.var.name.name el))
      ∙ if_used (may_use k o.owner) (length (given_by o.var.name.name el))
    where
      if_used : (u : Bool) (n : ℕ) → (u && nat_lt 1024 n) ≡ nat_lt 1024 (if u then n else 0)
      if_used true n = refl
      if_used false n = grind arith

  pub one_element : some_crowded (λ x. is_some (place_of vars k x)) a ≡ list_any (λ o. nat_lt 1024 (values_given o el)) vars
  one_element =
      sym (any-flat_map (is_crowded (λ x. is_some (place_of vars k x)) a) (λ l. l.values) a.locations)
      ∙ any_agree (is_crowded (λ x. is_some (place_of vars k x)) a) (λ w. list_any (λ o. is_many w.target.name && is_usable k w.target.name o) vars)
      (λ w. ap (λ b. is_many w.target.name && b) (usable_is vars k w.target.name) ∙ and_all (is_many w.target.name) (is_usable k w.target.name) vars) (all_values a)
      ∙ any_exchange (λ w o. is_many w.target.name && is_usable k w.target.name o) (all_values a) vars
      ∙ any_agree (λ o. list_any (λ w. is_many w.target.name && is_usable k w.target.name o) (all_values a)) (λ o. nat_lt 1024 (values_given o el)) one_variable vars

-- ---- all elements
all_elements_crowded : (vars : List Owned) (k : ℕ) (autos : List Automaton) →
    list_any (λ el. list_any (λ o. nat_lt 1024 (values_given o el)) vars) (numbered_from k autos) ≡ crowded_from (usable_among vars) k autos
all_elements_crowded vars k [] = refl
all_elements_crowded vars k (a ∷ autos) = ap₂ (λ b c. b || c) (sym (one_element vars k a)) (all_elements_crowded vars (k + 1) autos)

-- ---- the file
pub large_result_is : (file : File) → has_large_result file ≡ (has_many_commands file || crowded_from (usable_among (labels file)) 0 (jani.elements file))
large_result_is file =
    ap (λ b. nat_lt 200000 (result_commands file) || (nat_lt 2000000 (result_nodes file) || b))
    (any_exchange (λ o el. nat_lt 1024 (values_given o el)) (labels file) (elements file) ∙ all_elements_crowded (labels file) 0 (jani.elements file))
    ∙ sym (or_assoc (nat_lt 200000 (result_commands file)) (nat_lt 2000000 (result_nodes file)) (crowded_from (usable_among (labels file)) 0 (jani.elements file)))
