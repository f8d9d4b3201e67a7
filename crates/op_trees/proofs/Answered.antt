-- A node's answer follows from its operands' answers.
use Rattle.std.proofs.Common.{◌≡◌, ℕ, List, [], ◌++◌, Bool, true, false, ◌||◌, Option, Some, None, Result, Ok, Err, if◌then◌else◌, refl, sym, ap, ap₂, ◌∙◌}
use Rattle.std.specs.Prelude.{MatchResult}
use Rattle.std.specs.List.{list_any}
use Rattle.std.proofs.lemmas.List.Folds.{list_any-append}
use Rattle.std.proofs.Math.Bool.{or-false, or-true}
use Rattle.frac_core.specs.declared.decimal.Decimal.{Decimal}
use Rattle.op_trees.specs.declared.tree.Value.{Value}
use Rattle.op_trees.specs.declared.tree.Value.TheVariants as V
use Rattle.op_trees.specs.declared.tree.Next.{Next}
use Rattle.op_trees.specs.declared.tree.Next.TheVariants.{Done, Second, Third, All}
use Rattle.op_trees.specs.declared.tree.EvalFail.{EvalFail}
use Rattle.op_trees.specs.declared.tree.EvalFail.TheVariants.{Undef}
use Rattle.op_trees.specs.Tree.{Tree, Truth, Number, Name, One, Two, Three}
use Rattle.op_trees.specs.Meaning.{Meaning, Environment, number, value_of, needed, needs_wide, is_wide_value, answered, answer, narrowed, one_answer, both_answer, of_one, of_both, of_lazy, chosen, asked, asked_by}

pub or_absorbs : (a b : Bool) → (a ≡ true → b ≡ true) → (a || b) ≡ b
or_absorbs true b h = sym (h refl)
or_absorbs false b h = refl

-- ---- a lazy node's answer, from the answers for its operands
abbrev pub next_answer : Next → Result Value EvalFail → Result Value EvalFail → Result Value EvalFail
next_answer (Done v) b c = narrowed (Some v)
next_answer Second b c = b
next_answer Third b c = c
next_answer All b c = Err Undef

abbrev pub lazy_answer : {O : Type 0} → Meaning O → O → Result Value EvalFail → Result Value EvalFail →
    Result Value EvalFail → Result Value EvalFail
lazy_answer m o (Ok x) b c = next_answer (m.first o x) b c
lazy_answer m o (Err f) b c = Err f

-- where none of two further operands is asked for
pub others_aside : (n : Next) (b c : Result Value EvalFail) → (n ≡ Second → ⊥) → (n ≡ Third → ⊥) →
    narrowed (chosen n None None) ≡ next_answer n b c
others_aside (Done v) b c p q = refl
others_aside Second b c p q = absurd (p refl)
others_aside Third b c p q = absurd (q refl)
others_aside All b c p q = refl

pub other_aside : (n : Next) (b : Result Value EvalFail) → (n ≡ Second → ⊥) →
    narrowed (chosen n None None) ≡ next_answer n b (Err Undef)
other_aside (Done v) b p = refl
other_aside Second b p = absurd (p refl)
other_aside Third b p = refl
other_aside All b p = refl

none_asked : (n : Next) → narrowed (chosen n None None) ≡ next_answer n (Err Undef) (Err Undef)
none_asked (Done v) = refl
none_asked Second = refl
none_asked Third = refl
none_asked All = refl

module _ {O : Type 0} (m : Meaning O) (o : O) where
  pub both_answered : (p q : Bool) (v w : Option Value) →
      answered (is_wide_value (of_both m o v w) || (p || q)) (of_both m o v w)
      ≡ both_answer m o (answered p v) (answered q w)
  both_answered true q v w = ap (λ b. answered b (of_both m o v w)) (or-true (is_wide_value (of_both m o v w)))
  both_answered false true None w = refl
  both_answered false true (Some x) w =
      ap (λ b. answered b (of_both m o (Some x) w)) (or-true (is_wide_value (of_both m o (Some x) w)))
  both_answered false false None None = refl
  both_answered false false None (Some y) = refl
  both_answered false false (Some x) None = refl
  both_answered false false (Some x) (Some y) =
      ap (λ b. answered b (m.value o x (Some y))) (or-false (is_wide_value (m.value o x (Some y))))

  lone_lazy : (f r : Result Value EvalFail) →
      MatchResult f (λ x. r ≡ narrowed (chosen (m.first o x) None None)) (λ g. r ≡ Err g) →
      r ≡ lazy_answer m o f (Err Undef) (Err Undef)
  lone_lazy (Ok x) r h = h ∙ none_asked (m.first o x)
  lone_lazy (Err g) r h = h

  -- a node with one operand asks for no other
  pub single_answered : (p : Bool) (a : Option Value) →
      answered (is_wide_value (of_one m o a) || p) (of_one m o a) ≡ one_answer m o (answered p a)
  single_answered true a = ap (λ t. answered t (of_one m o a)) (or-true (is_wide_value (of_one m o a)))
  single_answered false None = refl
  single_answered false (Some x) = ap (λ t. answered t (m.value o x None)) (or-false (is_wide_value (m.value o x None)))

  settled : (n : Next) → answered (is_wide_value (chosen n None None) || false) (chosen n None None)
      ≡ next_answer n (Err Undef) (Err Undef)
  settled (Done v) = ap (λ t. answered t (Some v)) (or-false (is_wide_value (Some v)))
  settled Second = refl
  settled Third = refl
  settled All = refl

  lone_answered : (p : Bool) (a : Option Value) →
      answered (is_wide_value (of_lazy m o a None None) || p) (of_lazy m o a None None)
      ≡ lazy_answer m o (answered p a) (Err Undef) (Err Undef)
  lone_answered true a = ap (λ t. answered t (of_lazy m o a None None)) (or-true (is_wide_value (of_lazy m o a None None)))
  lone_answered false None = refl
  lone_answered false (Some x) = settled (m.first o x)

  module _ (P : Tree O → Bool) (b c : Option Value) (bs cs : List (Tree O)) (b_counts : is_wide_value b
      ≡ true → list_any P bs ≡ true) (c_counts : is_wide_value c ≡ true → list_any P cs ≡ true) where
    next_answered : (n : Next) →
        answered (is_wide_value (chosen n b c) || list_any P (asked n bs cs)) (chosen n b c)
        ≡ next_answer n (answered (list_any P bs) b) (answered (list_any P cs) c)
    next_answered (Done v) = ap (λ t. answered t (Some v)) (or-false (is_wide_value (Some v)))
    next_answered Second = ap (λ t. answered t b) (or_absorbs _ _ b_counts)
    next_answered Third = ap (λ t. answered t c) (or_absorbs _ _ c_counts)
    next_answered All = refl

    lazy_answered : (p : Bool) (a : Option Value) →
        answered (is_wide_value (of_lazy m o a b c) || (p || list_any P (asked_by m o a bs cs))) (of_lazy m o a b c)
        ≡ lazy_answer m o (answered p a) (answered (list_any P bs) b) (answered (list_any P cs) c)
    lazy_answered true a = ap (λ t. answered t (of_lazy m o a b c)) (or-true (is_wide_value (of_lazy m o a b c)))
    lazy_answered false None = refl
    lazy_answered false (Some x) = next_answered (m.first o x)

module _ {O : Type 0} (m : Meaning O) (env : Environment) where
  -- a tree is among those that it needs
  self_counts : (e : Tree O) → is_wide_value (value_of m e env) ≡ true → needs_wide m e env ≡ true
  self_counts (Truth at b) h = ap (λ t. t || false) h
  self_counts (Number at d) h = ap (λ t. t || false) h
  self_counts (Name at x) h = ap (λ t. t || false) h
  self_counts (One at o a) h = ap (λ t. t || list_any (λ s. is_wide_value (value_of m s env)) (needed m a env)) h
  self_counts (Two at o a b) h =
      ap (λ t. t || list_any (λ s. is_wide_value (value_of m s env)) (needed m a env ++ (if m.strict o then needed m b env else asked_by m o (value_of m a env) (needed m b env) []))) h
  self_counts (Three at o a b c) h =
      ap (λ t. t || list_any (λ s. is_wide_value (value_of m s env)) (needed m a env ++ asked_by m o (value_of m a env) (needed m b env) (needed m c env))) h

  pub strict_two : (at : ℕ) (o : O) (a b : Tree O) → m.strict o ≡ true → answer m (Two at o a b) env
      ≡ both_answer m o (answer m a env) (answer m b env)
  strict_two at o a b s =
      let P : Tree O → Bool = λ s. is_wide_value (value_of m s env) in
      let v = of_both m o (value_of m a env) (value_of m b env) in
      rw s (ap (λ t. answered (is_wide_value v || t) v) (list_any-append P (needed m a env) (needed m b env))
      ∙ (both_answered m o (needs_wide m a env) (needs_wide m b env) (value_of m a env) (value_of m b env)))

  pub lazy_two : (at : ℕ) (o : O) (a b : Tree O) → m.strict o ≡ false → answer m (Two at o a b) env
      ≡ lazy_answer m o (answer m a env) (answer m b env) (Err Undef)
  lazy_two at o a b s =
      let P : Tree O → Bool = λ s. is_wide_value (value_of m s env) in
      let v = of_lazy m o (value_of m a env) (value_of m b env) None in
      rw s (ap (λ t. answered (is_wide_value v || t) v) (list_any-append P (needed m a env) (asked_by m o (value_of m a env) (needed m b env) []))
      ∙ (lazy_answered m o (λ s. is_wide_value (value_of m s env)) (value_of m b env) None (needed m b env) [] (self_counts b) (λ h. h) (needs_wide m a env) (value_of m a env)))

  pub lazy_three : (at : ℕ) (o : O) (a b c : Tree O) → answer m (Three at o a b c) env
      ≡ lazy_answer m o (answer m a env) (answer m b env) (answer m c env)
  lazy_three at o a b c =
      let P : Tree O → Bool = λ s. is_wide_value (value_of m s env) in
      let v = of_lazy m o (value_of m a env) (value_of m b env) (value_of m c env) in
      ap (λ t. answered (is_wide_value v || t) v) (list_any-append P (needed m a env) (asked_by m o (value_of m a env) (needed m b env) (needed m c env)))
      ∙ (lazy_answered m o (λ s. is_wide_value (value_of m s env)) (value_of m b env) (value_of m c env) (needed m b env) (needed m c env) (self_counts b) (self_counts c) (needs_wide m a env) (value_of m a env))

  strict_one : (at : ℕ) (o : O) (a : Tree O) → m.strict o ≡ true → answer m (One at o a) env
      ≡ one_answer m o (answer m a env)
  strict_one at o a s = rw s (single_answered m o (needs_wide m a env) (value_of m a env))

  lazy_one : (at : ℕ) (o : O) (a : Tree O) → m.strict o ≡ false → answer m (One at o a) env
      ≡ lazy_answer m o (answer m a env) (Err Undef) (Err Undef)
  lazy_one at o a s = rw s (lone_answered m o (needs_wide m a env) (value_of m a env))

  pub one_is : (at : ℕ) (o : O) (a : Tree O) (s : Bool) → m.strict o ≡ s → answer m (One at o a) env
      ≡ (if s then one_answer m o (answer m a env) else lazy_answer m o (answer m a env) (Err Undef) (Err Undef))
  one_is at o a true st = strict_one at o a st
  one_is at o a false st = lazy_one at o a st

  any_one : (o : O) (f r : Result Value EvalFail) (s : Bool) → m.strict o ≡ s → (m.strict o ≡ true → r
      ≡ one_answer m o f) → (m.strict o ≡ false →
      MatchResult f (λ x. r ≡ narrowed (chosen (m.first o x) None None)) (λ g. r ≡ Err g)) → r
      ≡ (if s then one_answer m o f else lazy_answer m o f (Err Undef) (Err Undef))
  any_one o f r true st j k = j st
  any_one o f r false st j k = lone_lazy m o f r (k st)

  -- ---- the arms of an evaluation
  pub arm_truth : (e : Tree O) (at : ℕ) (b : Bool) → e ≡ Truth at b → Ok (V.Truth b) ≡ answer m e env
  arm_truth e at b is = ap (λ t. answer m t env) (sym is)

  pub arm_number : (e : Tree O) (at : ℕ) (d : Decimal) (r : Result Value EvalFail) → e ≡ Number at d → r
      ≡ narrowed (Some (number d)) → r ≡ answer m e env
  arm_number e at d r is j =
      j ∙ ap (λ t. answered t (Some (number d))) (sym (or-false (is_wide_value (Some (number d)))))
      ∙ ap (λ t. answer m t env) (sym is)

  pub arm_name : (e : Tree O) (at : ℕ) (x : List ℕ) (r : Result Value EvalFail) → e ≡ Name at x → r
      ≡ narrowed (env x) → r ≡ answer m e env
  arm_name e at x r is j =
      j ∙ ap (λ t. answered t (env x)) (sym (or-false (is_wide_value (env x)))) ∙ ap (λ t. answer m t env) (sym is)

  pub arm_one : (e : Tree O) (at : ℕ) (o : O) (a : Tree O) (f r : Result Value EvalFail) → e ≡ One at o a → f
      ≡ answer m a env → (m.strict o ≡ true → r ≡ one_answer m o f) → (m.strict o ≡ false →
      MatchResult f (λ x. r ≡ narrowed (chosen (m.first o x) None None)) (λ g. r ≡ Err g)) → r ≡ answer m e env
  arm_one e at o a f r is h j k =
      any_one o f r (m.strict o) refl j k ∙ ap (λ t. if m.strict o then one_answer m o t else lazy_answer m o t (Err Undef) (Err Undef)) h
      ∙ sym (one_is at o a (m.strict o) refl) ∙ ap (λ t. answer m t env) (sym is)

  pub arm_two_strict : (e : Tree O) (at : ℕ) (o : O) (a b : Tree O) (f s r : Result Value EvalFail) → e
      ≡ Two at o a b → m.strict o ≡ true → f ≡ answer m a env → s ≡ answer m b env → r
      ≡ both_answer m o f s → r ≡ answer m e env
  arm_two_strict e at o a b f s r is st h k j =
      j ∙ ap₂ (both_answer m o) h k ∙ sym (strict_two at o a b st) ∙ ap (λ t. answer m t env) (sym is)

  pub arm_two : (e : Tree O) (at : ℕ) (o : O) (a b : Tree O) (x : Value) (r : Result Value EvalFail) (n : Next) →
      e ≡ Two at o a b → m.strict o ≡ false → answer m a env ≡ Ok x → m.first o x ≡ n → r
      ≡ next_answer n (answer m b env) (Err Undef) → r ≡ answer m e env
  arm_two e at o a b x r n is st h k j =
      j ∙ ap (λ t. next_answer t (answer m b env) (Err Undef)) (sym k)
      ∙ ap (λ t. lazy_answer m o t (answer m b env) (Err Undef)) (sym h)
      ∙ sym (lazy_two at o a b st) ∙ ap (λ t. answer m t env) (sym is)

  pub arm_three : (e : Tree O) (at : ℕ) (o : O) (a b c : Tree O) (x : Value) (r : Result Value EvalFail) (n : Next) →
      e ≡ Three at o a b c → answer m a env ≡ Ok x → m.first o x ≡ n → r
      ≡ next_answer n (answer m b env) (answer m c env) → r ≡ answer m e env
  arm_three e at o a b c x r n is h k j =
      j ∙ ap (λ t. next_answer t (answer m b env) (answer m c env)) (sym k)
      ∙ ap (λ t. lazy_answer m o t (answer m b env) (answer m c env)) (sym h)
      ∙ sym (lazy_three at o a b c) ∙ ap (λ t. answer m t env) (sym is)

  -- a first operand without a value ends a lazy node
  pub arm_two_err : (e : Tree O) (at : ℕ) (o : O) (a b : Tree O) (f : EvalFail) → e ≡ Two at o a b → m.strict o
      ≡ false → answer m a env ≡ Err f → Err f ≡ answer m e env
  arm_two_err e at o a b f is st h =
      ap (λ t. lazy_answer m o t (answer m b env) (Err Undef)) (sym h)
      ∙ sym (lazy_two at o a b st) ∙ ap (λ t. answer m t env) (sym is)

  pub arm_three_err : (e : Tree O) (at : ℕ) (o : O) (a b c : Tree O) (f : EvalFail) → e ≡ Three at o a b c →
      answer m a env ≡ Err f → Err f ≡ answer m e env
  arm_three_err e at o a b c f is h =
      ap (λ t. lazy_answer m o t (answer m b env) (answer m c env)) (sym h)
      ∙ sym (lazy_three at o a b c) ∙ ap (λ t. answer m t env) (sym is)
