-- The states that a process begins in, where its instance has no fault. (PRISM manual, "The PRISM Language": "Modules And
-- Variables", "Multiple Initial States"; jani-model specification, "Variables", "Models".)
use Rattle.std.specs.Prelude.{◌≡◌, ◌↔◌, ℕ, ◌+◌, List, [], ◌∷◌, ◌++◌, map, Bool, true, false, not, ◌&&◌, Option, Some, None, IsTrue, if◌then◌else◌, unwrap_or, is_some}
use Rattle.std.specs.List.{All}
use Rattle.std.specs.Option.{MatchOption, option_and_then}
use Rattle.std.proofs.Common.{refl, sym, ap, ap₂, subst, ◌∙◌}
use Rattle.std.proofs.lemmas.List.Elements.{All-head, All-tail}
use Rattle.std.proofs.lemmas.Bool.{and_from}
use Rattle.basics.specs.Booleans.{first_true, second_true}
use Rattle.basics.specs.Lists.{append_parts}
use Rattle.op_trees.specs.Seen.{Seen}
use Rattle.op_trees.specs.declared.tree.Value.{Value}
use Rattle.op_trees.specs.declared.tree.Value.TheVariants as V
use Rattle.process_core.specs.Ready.{Values}
use Rattle.process_core.specs.Choices.{all_defined, is_true, with_first}
use Rattle.process_core.specs.Equal.{equal_values_is}
use Rattle.process_core.specs.Instance.{Domain, Truths, Between, Column, Range, Scene, is_in, is_state, is_initial, is_wide_initial, begin_all, begins, may_begin, no_condition, is_value, is_first, first_value, first_values, range_from, range_faults, range_has, range_lacks, has_value, is_empty, only_if, value_faults, first_faults, domain_faults, column_faults, constant_faults, instance_faults, numbered}

-- a variable without a range begins with a truth value
abbrev pub begins_right : Domain → Option Value → Bool
begins_right Truths (Some (V.Truth b)) = true
begins_right Truths (Some (V.Number q)) = false
begins_right Truths None = true
begins_right (Between l h) o = true

abbrev pub BeginRight : List Column → Type 0
BeginRight cs = All (λ c. begins_right c.domain (first_value c) ≡ true) cs

pub none_if : {X : Type 0} (b : Bool) (x : X) → only_if b x ≡ [] → b ≡ false
none_if true x h = absurd cc
none_if false x h = refl

pub in_range : (i : ℕ) (o : Option Range) (w : Value) → range_faults i o ≡ [] → range_lacks o w ≡ false → (r : Range) → o ≡ Some r → has_value r w ≡ true
in_range i o w h k r e = by_tests (is_empty r) (has_value r w) (none_if (is_empty r) _ (subst (λ p. range_faults i p ≡ []) e h)) (subst (λ p. range_lacks p w ≡ false) e k)
  where
    by_tests : (a b : Bool) → a ≡ false → (not a && not b) ≡ false → b ≡ true
    by_tests true b x y = absurd cc
    by_tests false true x y = refl
    by_tests false false x y = absurd cc

pub first_in : (i : ℕ) (d : Domain) (w : Value) → begins_right d (Some w) ≡ true → domain_faults i d ++ value_faults i d (Some w) ≡ [] → is_in d w ≡ true
first_in i Truths (V.Truth b) t h = refl
first_in i Truths (V.Number q) t h = absurd cc
first_in i (Between l u) w t h = by_range (range_from l u) refl
  where
    by_range : (o : Option Range) → range_from l u ≡ o → is_in (Between l u) w ≡ true
    by_range None e = let k = append_parts (domain_faults i (Between l u)) (value_faults i (Between l u) (Some w)) h in
        absurd (let z = subst (λ p. range_faults i p ≡ []) e k.0 in cc)
    by_range (Some r) e =
        let k = append_parts (domain_faults i (Between l u)) (value_faults i (Between l u) (Some w)) h in
        ap (λ p. range_has p w) e ∙ in_range i (range_from l u) w k.0 (none_if _ _ k.1) r e

-- ---- initial states are states
pub initial_states : (cs : List Column) (condition : Seen) (s : Values) → IsTrue (is_initial cs condition s) → IsTrue (is_state cs s)
initial_states cs condition s h = first_true (is_state cs s) (begin_all cs s) (second_true (is_true condition.value) (may_begin cs s) h)

-- the first values are a state
first_of : (i : ℕ) (d : Domain) (o : Option Seen) (w : Value) → option_and_then (λ s. s.value) o ≡ Some w → begins_right d (Some w) ≡ true →
    domain_faults i d ++ first_faults false i d o ≡ [] → is_in d w ≡ true
first_of i d None w e t h = absurd cc
first_of i d (Some s) w e t h = first_in i d w t (subst (λ o. domain_faults i d ++ value_faults i d o ≡ []) e h)

pub first_state : (i : ℕ) (cs : List Column) → BeginRight cs → numbered (column_faults false) i cs ≡ [] → (f : Values) → all_defined (map first_value cs) ≡ Some f → IsTrue (is_state cs f)
first_state i [] t h f e = ap (λ o. is_state [] (unwrap_or o [])) (sym e)
first_state i (c ∷ cs) t h f e =
    let parts = append_parts (column_faults false i c) (numbered (column_faults false) (i + 1) cs) h in
    by_first (first_value c) refl (all_defined (map first_value cs)) refl
    (first_state (i + 1) cs (All-tail (λ c. begins_right c.domain (first_value c) ≡ true) c cs t) parts.1)
    (λ w k. first_of i c.domain c.first w k (subst (λ o. begins_right c.domain o ≡ true) k (All-head (λ c. begins_right c.domain (first_value c) ≡ true) c cs t)) parts.0)
  where
    by_first : (o : Option Value) → first_value c ≡ o → (r : Option Values) → all_defined (map first_value cs) ≡ r →
        ((g : Values) → all_defined (map first_value cs) ≡ Some g → IsTrue (is_state cs g)) → ((w : Value) → first_value c ≡ Some w → is_in c.domain w ≡ true) → IsTrue (is_state (c ∷ cs) f)
    by_first None k r l ih in_ = absurd (let z : None ≡ Some f = ap (λ o. with_first o (all_defined (map first_value cs))) (sym k) ∙ e in cc)
    by_first (Some w) k None l ih in_ = absurd (let z : None ≡ Some f = ap₂ with_first (sym k) (sym l) ∙ e in cc)
    by_first (Some w) k (Some g) l ih in_ =
        subst (λ x. is_state (c ∷ cs) x ≡ true) (ap (λ o. unwrap_or o []) (ap₂ with_first (sym k) (sym l) ∙ e)) (and_from (is_in c.domain w) (is_state cs g) (in_ w k) (ih g l))

-- ---- the one initial state
begins_only : (o : Option Seen) (w v : Value) → option_and_then (λ s. s.value) o ≡ Some w → IsTrue (is_first o v) ↔ (w ≡ v)
begins_only None w v e = absurd cc
begins_only (Some s) w v e =
    (λ b. (equal_values_is w v).0 (subst (λ o. is_value o v ≡ true) e b), λ q. subst (λ o. is_value o v ≡ true) (sym e) ((equal_values_is w v).1 q))

-- the first values are those that variables may begin with
pub only_initial : (cs : List Column) (f s : Values) → all_defined (map first_value cs) ≡ Some f → IsTrue (begin_all cs s) ↔ (s ≡ f)
only_initial [] f [] e = (λ h. ap (λ o. unwrap_or o []) e, λ k. refl)
only_initial [] f (v ∷ s) e = (λ h. absurd cc, λ k. absurd (let z : Some [] ≡ Some f = e in cc))
only_initial (c ∷ cs) f s e = by_first (λ g s l. only_initial cs g s l) (first_value c) refl (all_defined (map first_value cs)) refl s
  where
    by_first : ((g s : Values) → all_defined (map first_value cs) ≡ Some g → IsTrue (begin_all cs s) ↔ (s ≡ g)) → (o : Option Value) → first_value c ≡ o → (r : Option Values) → all_defined (map first_value cs) ≡ r → (s : Values) → IsTrue (begin_all (c ∷ cs) s) ↔ (s ≡ f)
    by_first ih None k r l s = absurd (let z : None ≡ Some f = ap (λ o. with_first o (all_defined (map first_value cs))) (sym k) ∙ e in cc)
    by_first ih (Some w) k None l s = absurd (let z : None ≡ Some f = ap₂ with_first (sym k) (sym l) ∙ e in cc)
    by_first ih (Some w) k (Some g) l s = matches w k g (ih g) l (ap (λ o. unwrap_or o []) (ap₂ with_first (sym k) (sym l) ∙ e)) s
      where
        matches : (w : Value) → first_value c ≡ Some w → (g : Values) → ((s : Values) → all_defined (map first_value cs) ≡ Some g → IsTrue (begin_all cs s) ↔ (s ≡ g)) →
            all_defined (map first_value cs) ≡ Some g → w ∷ g ≡ f → (s : Values) → IsTrue (begin_all (c ∷ cs) s) ↔ (s ≡ f)
        matches w k g ih l z [] = (λ h. absurd cc, λ q. absurd cc)
        matches w k g ih l z (v ∷ s) = (
          λ h. ap₂ (λ x y. x ∷ y) (sym ((begins_only c.first w v k).0 (first_true (begins c v) (begin_all cs s) h))) ((ih s l).0 (second_true (begins c v) (begin_all cs s) h)) ∙ z,
          λ q. let p : v ≡ w = cc in let r : s ≡ g = cc in and_from (begins c v) (begin_all cs s) ((begins_only c.first w v k).1 (sym p)) ((ih s l).1 r),
        )

-- what a process promises of its first state, where without an initial condition there is none at any state
abbrev pub FirstIs : Scene → (Values → Seen) → Option Values → Type 0
FirstIs k condition first =
    MatchOption first (Unit {0}) (λ f. (s : Values) → (IsTrue (is_initial k.columns (condition s) s) ↔ (s ≡ f)) × (is_wide_initial k.columns (condition s) s ≡ false))

module _ (k : Scene) (condition : Values → Seen) (t : BeginRight k.columns) (none : k.has_condition ≡ false → (s : Values) → condition s ≡ no_condition) where
  without : (o : Option Values) → all_defined (map first_value k.columns) ≡ o → numbered (column_faults false) 0 k.columns ≡ [] → ((s : Values) → condition s ≡ no_condition) → FirstIs k condition o
  without None e h n = tt
  without (Some f) e h n = λ s.
      let only = only_initial k.columns f s e in
      let there = first_state 0 k.columns t h f e in (
        (
          λ a. only.0 (second_true (is_state k.columns s) (begin_all k.columns s) (second_true (is_true (condition s).value) (may_begin k.columns s) a)),
          λ q. and_from (is_true (condition s).value) (may_begin k.columns s) (ap (λ c. is_true c.value) (n s))
              (and_from (is_state k.columns s) (begin_all k.columns s) (subst (λ x. is_state k.columns x ≡ true) (sym q) there) (only.1 q)),
        ),
        ap (λ c. is_wide_initial k.columns c s) (n s),
      )

  pub first_is : instance_faults k ≡ [] → FirstIs k condition (first_values k)
  first_is h = by_condition k.has_condition refl
    where
      by_condition : (b : Bool) → k.has_condition ≡ b → FirstIs k condition (if b then None else all_defined (map first_value k.columns))
      by_condition true e = tt
      by_condition false e =
          without (all_defined (map first_value k.columns)) refl
          (subst (λ b. numbered (column_faults b) 0 k.columns ≡ []) e (append_parts (numbered constant_faults 0 k.constants) (numbered (column_faults k.has_condition) 0 k.columns) h).1) (none e)

-- ---- where there is an initial condition, and where there is a first state
abbrev pub HasFirst : Column → Type 0
HasFirst c = is_some c.first ≡ true

-- a variable may begin with any value only in a model with an initial condition
abbrev pub HaveFirsts : Scene → Type 0
HaveFirsts k = k.has_condition ≡ false → All HasFirst k.columns

-- without a fault of a column each has a first value
pub first_known : (i : ℕ) (cs : List Column) → All HasFirst cs → numbered (column_faults false) i cs ≡ [] → all_defined (map first_value cs) ≡ None → ⊥
first_known i [] a h e = absurd cc
first_known i (c ∷ cs) a h e =
    let parts = append_parts (column_faults false i c) (numbered (column_faults false) (i + 1) cs) h in
    by_first c.first refl (All-head HasFirst c cs a) (append_parts (domain_faults i c.domain) (first_faults false i c.domain c.first) parts.0).1
    (first_known (i + 1) cs (All-tail HasFirst c cs a) parts.1)
  where
    by_value : (o : Option Value) → first_value c ≡ o → value_faults i c.domain o ≡ [] → (all_defined (map first_value cs) ≡ None → ⊥) → (r : Option Values) → all_defined (map first_value cs) ≡ r → ⊥
    by_value None k none ih r l = absurd cc
    by_value (Some w) k none ih None l = ih l
    by_value (Some w) k none ih (Some g) l = absurd (let z : Some (w ∷ g) ≡ None = ap₂ with_first (sym k) (sym l) ∙ e in cc)

    by_first : (o : Option Seen) → c.first ≡ o → is_some o ≡ true → first_faults false i c.domain o ≡ [] → (all_defined (map first_value cs) ≡ None → ⊥) → ⊥
    by_first None k some none ih = absurd cc
    by_first (Some s) k some none ih = by_value s.value (ap (option_and_then (λ s. s.value)) k) none ih (all_defined (map first_value cs)) refl

-- without a fault there is a first state exactly where the model has no initial condition
pub condition_is : (k : Scene) → HaveFirsts k → instance_faults k ≡ [] → (first_values k ≡ None) ↔ IsTrue k.has_condition
condition_is k firsts h = by_condition k.has_condition refl
  where
    by_condition : (b : Bool) → k.has_condition ≡ b → ((if b then None else all_defined (map first_value k.columns)) ≡ None) ↔ IsTrue b
    by_condition true e = (λ _. refl, λ _. refl)
    by_condition false e = (
      λ n. absurd (first_known 0 k.columns (firsts e)
          (subst (λ b. numbered (column_faults b) 0 k.columns ≡ []) e (append_parts (numbered constant_faults 0 k.constants) (numbered (column_faults k.has_condition) 0 k.columns) h).1) n),
      λ t. absurd cc,
    )

-- the test of what is initial is wide of states alone
pub wide_states : (cs : List Column) (condition : Seen) (s : Values) → IsTrue (is_wide_initial cs condition s) → IsTrue (is_state cs s)
wide_states cs condition s h = first_true (is_state cs s) (begin_all cs s) (second_true condition.wide (may_begin cs s) h)
