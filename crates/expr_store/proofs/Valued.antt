-- What a node comes out as follows from what its operands come out as.
use Rattle.std.proofs.Common.{◌≡◌, ℕ, List, Bool, true, false, ◌||◌, Option, Some, None, Result, Ok, Err, if◌then◌else◌, refl, sym, ap, subst, ◌∙◌}
use Rattle.std.proofs.Math.Bool.{or-false, or-true}
use Rattle.std.proofs.lemmas.Bool.{or_left}
use Rattle.op_trees.specs.declared.tree.Value.{Value}
use Rattle.op_trees.specs.declared.tree.Next.{Next}
use Rattle.op_trees.specs.declared.tree.Next.TheVariants.{Done, Second, Third, All}
use Rattle.op_trees.specs.declared.tree.EvalFail.{EvalFail}
use Rattle.op_trees.specs.declared.tree.EvalFail.TheVariants.{Undef}
use Rattle.op_trees.specs.Meaning.{Meaning, is_wide_value, answered, one_answer, both_answer, of_one, of_both, of_lazy, chosen}
use Rattle.op_trees.specs.Seen.{Seen, known, node, asked_wide, asked_by_wide, one_node, two_node, lazy_node}
use Rattle.op_trees.proofs.Answered.{or_absorbs, next_answer, lazy_answer, both_answered, single_answered}
use Rattle.state_choices.specs.Trimmed.{computed}
use Rattle.instance_start.specs.declared.data.Place.{Place}
use Rattle.expr_store.specs.declared.node.Node.{Node}
use Rattle.expr_store.specs.declared.node.Node.TheVariants.{Fixed, Number, Name, One, Two, Three}
use Rattle.expr_store.specs.Nodes.{node_at, seen_at, seen_some}
use Rattle.expr_store.specs.NodeLaws.{seen_is}
use Rattle.expr_store.specs.Rest.{finished}
use Rattle.expr_store.specs.declared.answers.Rest.{Rest}

-- what is wide itself is counted as wide
pub record IsCounted (s : Seen) : Type 0 where
  pub counts : is_wide_value s.value ≡ true → s.wide ≡ true

node_counted : (v : Option Value) (w : Bool) → IsCounted (node v w)
node_counted v w = record { counts = or_left (is_wide_value v) w }

known_counted : (v : Option Value) → IsCounted (known v)
known_counted v = record { counts = λ h. h }

module _ {O : Type 0} (m : Meaning O) where
  -- what is seen of a node counts what is wide itself
  one_counted : (o : O) (a : Seen) (b : Bool) →
      IsCounted (if b then node (of_one m o a.value) a.wide else lazy_node m o a (known None) (known None))
  one_counted o a true = node_counted _ _
  one_counted o a false = node_counted _ _

  two_counted : (o : O) (a b : Seen) (s : Bool) →
      IsCounted (if s then node (of_both m o a.value b.value) (a.wide || b.wide) else lazy_node m o a b (known None))
  two_counted o a b true = node_counted _ _
  two_counted o a b false = node_counted _ _

  some_counted : (at : Option Place → Option Value) (before : ℕ → Seen) (o : Option (Node O)) → IsCounted (seen_some m at before o)
  some_counted at before None = known_counted None
  some_counted at before (Some (Fixed v)) = known_counted _
  some_counted at before (Some (Number d)) = known_counted _
  some_counted at before (Some (Name p)) = known_counted (at p)
  some_counted at before (Some (One o a)) = one_counted o (before a) (m.strict o)
  some_counted at before (Some (Two o a b)) = two_counted o (before a) (before b) (m.strict o)
  some_counted at before (Some (Three o a b c)) = node_counted _ _

  pub seen_counted : (at : Option Place → Option Value) (ns : List (Node O)) (i : ℕ) → IsCounted (seen_at m at ns i)
  seen_counted at ns i = subst IsCounted (sym (seen_is m at ns i)) (some_counted at (seen_at m at ns) (node_at ns i))

  -- ---- answers of nodes
  next_answered : (b c : Seen) → IsCounted b → IsCounted c → (n : Next) →
      answered (is_wide_value (chosen n b.value c.value) || asked_wide n b.wide c.wide) (chosen n b.value c.value) ≡ next_answer n (computed b) (computed c)
  next_answered b c h k (Done v) = ap (λ t. answered t (Some v)) (or-false (is_wide_value (Some v)))
  next_answered b c h k Second = ap (λ t. answered t b.value) (or_absorbs (is_wide_value b.value) b.wide h.counts)
  next_answered b c h k Third = ap (λ t. answered t c.value) (or_absorbs (is_wide_value c.value) c.wide k.counts)
  next_answered b c h k All = refl

  lazy_answered : (o : O) (p : Bool) (v : Option Value) (b c : Seen) → IsCounted b → IsCounted c →
      answered (is_wide_value (of_lazy m o v b.value c.value) || (p || asked_by_wide m o v b.wide c.wide)) (of_lazy m o v b.value c.value)
      ≡ lazy_answer m o (answered p v) (computed b) (computed c)
  lazy_answered o true v b c h k = ap (λ t. answered t (of_lazy m o v b.value c.value)) (or-true (is_wide_value (of_lazy m o v b.value c.value)))
  lazy_answered o false None b c h k = refl
  lazy_answered o false (Some x) b c h k = next_answered b c h k (m.first o x)

  pub three_answer : (o : O) (a b c : Seen) → IsCounted b → IsCounted c → computed (lazy_node m o a b c) ≡ lazy_answer m o (computed a) (computed b) (computed c)
  three_answer o a b c h k = lazy_answered o a.wide a.value b c h k

  pub two_answer : (o : O) (a b : Seen) → IsCounted b →
      computed (two_node m o a b) ≡ (if m.strict o then both_answer m o (computed a) (computed b) else lazy_answer m o (computed a) (computed b) (Err Undef))
  two_answer o a b h = by_strict (m.strict o)
    where
      by_strict : (s : Bool) → computed (if s then node (of_both m o a.value b.value) (a.wide || b.wide) else lazy_node m o a b (known None))
          ≡ (if s then both_answer m o (computed a) (computed b) else lazy_answer m o (computed a) (computed b) (Err Undef))
      by_strict true = both_answered m o a.wide b.wide a.value b.value
      by_strict false = three_answer o a b (known None) h (known_counted None)

  pub one_answer_is : (o : O) (a : Seen) →
      computed (one_node m o a) ≡ (if m.strict o then one_answer m o (computed a) else lazy_answer m o (computed a) (Err Undef) (Err Undef))
  one_answer_is o a = by_strict (m.strict o)
    where
      by_strict : (s : Bool) → computed (if s then node (of_one m o a.value) a.wide else lazy_node m o a (known None) (known None))
          ≡ (if s then one_answer m o (computed a) else lazy_answer m o (computed a) (Err Undef) (Err Undef))
      by_strict true = single_answered m o a.wide a.value
      by_strict false = three_answer o a (known None) (known None) (known_counted None) (known_counted None)

-- ---- operators over values
settled_as : (value : Option Value) (wide : Bool) (v : Value) → (is_wide_value value ≡ true → wide ≡ true) → answered wide value ≡ Ok v →
    ◌≡◌ {A = Seen} (record { value = value; wide = wide }) (known (Some v))
settled_as value true v h e = absurd (cc)
settled_as None false v h e = absurd (cc)
settled_as (Some w) false v h e = ap (λ b. record { value = Some w; wide = b }) (sym (not_wide (is_wide_value (Some w)) h)) ∙ ap (λ x. known (Some x)) same
  where
    not_wide : (b : Bool) → (b ≡ true → false ≡ true) → b ≡ false
    not_wide true h = sym (h refl)
    not_wide false h = refl

    same : w ≡ v
    same = cc

module _ {O : Type 0} (m : Meaning O) (o : O) (strict : m.strict o ≡ true) where
  pub one_of_value : (x v : Value) → one_answer m o (computed (known (Some x))) ≡ Ok v → one_node m o (known (Some x)) ≡ known (Some v)
  one_of_value x v e =
      let s = one_node m o (known (Some x)) in
      settled_as s.value s.wide v (one_counted m o (known (Some x)) (m.strict o)).counts
      (one_answer_is m o (known (Some x)) ∙ ap (λ b. if b then one_answer m o (computed (known (Some x))) else lazy_answer m o (computed (known (Some x))) (Err Undef) (Err Undef)) strict ∙ e)

  pub two_of_values : (x y v : Value) → both_answer m o (computed (known (Some x))) (computed (known (Some y))) ≡ Ok v → two_node m o (known (Some x)) (known (Some y)) ≡ known (Some v)
  two_of_values x y v e =
      let s = two_node m o (known (Some x)) (known (Some y)) in
      settled_as s.value s.wide v (two_counted m o (known (Some x)) (known (Some y)) (m.strict o)).counts
      (two_answer m o (known (Some x)) (known (Some y)) (known_counted (Some y))
      ∙ ap (λ b. if b then both_answer m o (computed (known (Some x))) (computed (known (Some y))) else lazy_answer m o (computed (known (Some x))) (computed (known (Some y))) (Err Undef)) strict ∙ e)

-- ---- the value of a node, by those of its operands
module _ {O : Type 0} (m : Meaning O) (at : Option Place → Option Value) (ns : List (Node O)) (i : ℕ) where
  abbrev S : ℕ → Seen
  S j = seen_at m at ns j

  pub node_arm : (o : Option (Node O)) → node_at ns i ≡ o → (r : Result Value EvalFail) → r ≡ computed (seen_some m at S o) → r ≡ computed (S i)
  node_arm o is r h = h ∙ ap (λ n. computed (seen_some m at S n)) (sym is) ∙ ap computed (sym (seen_is m at ns i))

  pub one_arm : (o : O) (a : ℕ) → node_at ns i ≡ Some (One o a) → (first r : Result Value EvalFail) → first ≡ computed (S a) →
      r ≡ (if m.strict o then one_answer m o first else lazy_answer m o first (Err Undef) (Err Undef)) → r ≡ computed (S i)
  one_arm o a is first r h k =
      node_arm (Some (One o a)) is r
      (k ∙ ap (λ x. if m.strict o then one_answer m o x else lazy_answer m o x (Err Undef) (Err Undef)) h ∙ sym (one_answer_is m o (S a)))

  pub two_arm : (o : O) (a b : ℕ) → node_at ns i ≡ Some (Two o a b) → (first r : Result Value EvalFail) (rest : Rest) → first ≡ computed (S a) →
      ((y : Result Value EvalFail) → finished m o first rest y (Err Undef) ≡ (if m.strict o then both_answer m o first y else lazy_answer m o first y (Err Undef))) →
      r ≡ finished m o first rest (computed (S b)) (Err Undef) → r ≡ computed (S i)
  two_arm o a b is first r rest h all k =
      node_arm (Some (Two o a b)) is r
      (k ∙ all (computed (S b)) ∙ ap (λ x. if m.strict o then both_answer m o x (computed (S b)) else lazy_answer m o x (computed (S b)) (Err Undef)) h
      ∙ sym (two_answer m o (S a) (S b) (seen_counted m at ns b)))

  pub three_arm : (o : O) (a b c : ℕ) → node_at ns i ≡ Some (Three o a b c) → (first r : Result Value EvalFail) (rest : Rest) → first ≡ computed (S a) →
      ((y z : Result Value EvalFail) → finished m o first rest y z ≡ lazy_answer m o first y z) →
      r ≡ finished m o first rest (computed (S b)) (computed (S c)) → r ≡ computed (S i)
  three_arm o a b c is first r rest h all k =
      node_arm (Some (Three o a b c)) is r
      (k ∙ all (computed (S b)) (computed (S c)) ∙ ap (λ x. lazy_answer m o x (computed (S b)) (computed (S c))) h
      ∙ sym (three_answer m o (S a) (S b) (S c) (seen_counted m at ns b) (seen_counted m at ns c)))
