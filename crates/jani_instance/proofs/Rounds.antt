-- Tables of constants, a turn more each: what is defined stays as it is, and what is wide stays wide.
use Rattle.std.specs.Prelude.{◌≡◌, ℕ, zero, suc, ◌+◌, ◌-◌, ◌≤◌, List, [], ◌∷◌, map, length, Bool, true, false, ◌||◌, cond, Option, Some, None, bytes_eq, if◌then◌else◌}
use Rattle.std.specs.List.{find, list_any, position}
use Rattle.std.specs.Option.{option_map}
use Rattle.std.proofs.Common.{refl, sym, ap, ap₂, subst, ◌∙◌, arith, inl, inr, ◌⊎◌}
use Rattle.std.proofs.Math.Path.{fun_ext}
use Rattle.std.proofs.lemmas.Slice.Eq.{bytes_eq-Decides}
use Rattle.std.proofs.lemmas.Bool.{or_left, or_right}
use Rattle.basics.specs.Members.{position_cons}
use Rattle.op_trees.specs.Tree.{Tree, Truth, Number, Name, One, Two, Three}
use Rattle.op_trees.specs.Meaning.{Meaning, is_wide_value, of_one, of_both, of_lazy, chosen}
use Rattle.op_trees.specs.Seen.{Seen, known, node, asked_wide, asked_by_wide, lazy_node, seen}
use Rattle.op_trees.specs.declared.tree.Value.{Value}
use Rattle.op_trees.specs.declared.tree.Next.{Next}
use Rattle.op_trees.specs.declared.tree.Next.TheVariants.{Done, Second, Third, All}
use Rattle.process_core.specs.Ready as ready
use Rattle.process_core.specs.Instance.{Valuation}
use Rattle.jani_table.specs.Operators.{jani_meaning}
use Rattle.jani_tree.specs.Syntax.{Const, Expression, File}
use Rattle.op_trees.specs.Names.{is_called}
use Rattle.jani_meaning.specs.Scene.{constant, constant_called, constant_names, constant_seen, constant_value, constant_within, scene, see}
use Rattle.process_core.specs.Product.{map-map}
use Rattle.state_choices.specs.Trimmed.{computed}
use Rattle.state_choices.specs.Views.{seen_of}
use Rattle.state_choices.proofs.ComputedLaws.{computed_laws}
use Rattle.jani_instance.specs.Built.{value_from}
use Rattle.jani_instance.specs.Constants.{names_by, round_of}

-- ---- what is seen with less known
-- it has the same value, or none; and where it is wide, so is the other
pub record Below (s t : Seen) : Type 0 where
  pub value : (v : Value) → s.value ≡ Some v → t.value ≡ Some v
  pub wide : s.wide ≡ true → t.wide ≡ true

either : (a b : Bool) → (a || b) ≡ true → (a ≡ true) ⊎ (b ≡ true)
either true b h = inl refl
either false b h = inr h

below_self : (s : Seen) → Below s s
below_self s = record { value = λ v e. e; wide = λ h. h }

-- a value that is there stays, and so whether it is wide
wide_value : (o p : Option Value) → ((v : Value) → o ≡ Some v → p ≡ Some v) → is_wide_value o ≡ true → is_wide_value p ≡ true
wide_value None p h w = absurd cc
wide_value (Some v) p h w = ap is_wide_value (h v refl) ∙ w

below_node : (o p : Option Value) (a b : Bool) → ((v : Value) → o ≡ Some v → p ≡ Some v) → (a ≡ true → b ≡ true) → Below (node o a) (node p b)
below_node o p a b h w = record {
  value = h;
  wide = λ k. by_part (either (is_wide_value o) a k);
}
  where
    by_part : ((is_wide_value o ≡ true) ⊎ (a ≡ true)) → (is_wide_value p || b) ≡ true
    by_part (inl k) = or_left (is_wide_value p) b (wide_value o p h k)
    by_part (inr k) = or_right (is_wide_value p) b (w k)

pub below_known : (o p : Option Value) → ((v : Value) → o ≡ Some v → p ≡ Some v) → Below (known o) (known p)
below_known o p h = record { value = h; wide = wide_value o p h }

module _ {O : Type 0} (m : Meaning O) where
  one_stays : (o : O) (a b : Option Value) → ((v : Value) → a ≡ Some v → b ≡ Some v) → (v : Value) → of_one m o a ≡ Some v → of_one m o b ≡ Some v
  one_stays o None b h v e = absurd cc
  one_stays o (Some x) b h v e = ap (of_one m o) (h x refl) ∙ e

  both_stay : (o : O) (a b c d : Option Value) → ((v : Value) → a ≡ Some v → b ≡ Some v) → ((v : Value) → c ≡ Some v → d ≡ Some v) →
      (v : Value) → of_both m o a c ≡ Some v → of_both m o b d ≡ Some v
  both_stay o None b c d h k v e = absurd cc
  both_stay o (Some x) b None d h k v e = absurd cc
  both_stay o (Some x) b (Some y) d h k v e = ap₂ (of_both m o) (h x refl) (k y refl) ∙ e

  chosen_stays : (n : Next) (b c d e : Option Value) → ((v : Value) → b ≡ Some v → d ≡ Some v) → ((v : Value) → c ≡ Some v → e ≡ Some v) →
      (v : Value) → chosen n b c ≡ Some v → chosen n d e ≡ Some v
  chosen_stays (Done x) b c d e h k v q = q
  chosen_stays Second b c d e h k v q = h v q
  chosen_stays Third b c d e h k v q = k v q
  chosen_stays All b c d e h k v q = absurd cc

  lazy_stays : (o : O) (a p b c d e : Option Value) → ((v : Value) → a ≡ Some v → p ≡ Some v) → ((v : Value) → b ≡ Some v → d ≡ Some v) → ((v : Value) → c ≡ Some v → e ≡ Some v) →
      (v : Value) → of_lazy m o a b c ≡ Some v → of_lazy m o p d e ≡ Some v
  lazy_stays o None p b c d e g h k v q = absurd cc
  lazy_stays o (Some x) p b c d e g h k v q = ap (λ z. of_lazy m o z d e) (g x refl) ∙ chosen_stays (m.first o x) b c d e h k v q

  asked_stays : (n : Next) (b c d e : Bool) → (b ≡ true → d ≡ true) → (c ≡ true → e ≡ true) → asked_wide n b c ≡ true → asked_wide n d e ≡ true
  asked_stays (Done x) b c d e h k q = absurd cc
  asked_stays Second b c d e h k q = h q
  asked_stays Third b c d e h k q = k q
  asked_stays All b c d e h k q = absurd cc

  asked_by_stays : (o : O) (a p : Option Value) (b c d e : Bool) → ((v : Value) → a ≡ Some v → p ≡ Some v) → (b ≡ true → d ≡ true) → (c ≡ true → e ≡ true) →
      asked_by_wide m o a b c ≡ true → asked_by_wide m o p d e ≡ true
  asked_by_stays o None p b c d e g h k q = absurd cc
  asked_by_stays o (Some x) p b c d e g h k q = ap (λ z. asked_by_wide m o z d e) (g x refl) ∙ asked_stays (m.first o x) b c d e h k q

  below_lazy : (o : O) (a b c p q r : Seen) → Below a p → Below b q → Below c r → Below (lazy_node m o a b c) (lazy_node m o p q r)
  below_lazy o a b c p q r f g h =
      below_node (of_lazy m o a.value b.value c.value) (of_lazy m o p.value q.value r.value) _ _
      (lazy_stays o a.value p.value b.value c.value q.value r.value f.value g.value h.value)
      (λ k. by_part (either a.wide (asked_by_wide m o a.value b.wide c.wide) k))
    where
      by_part : ((a.wide ≡ true) ⊎ (asked_by_wide m o a.value b.wide c.wide ≡ true)) → (p.wide || asked_by_wide m o p.value q.wide r.wide) ≡ true
      by_part (inl k) = or_left p.wide _ (f.wide k)
      by_part (inr k) = or_right p.wide _ (asked_by_stays o a.value p.value b.wide c.wide q.wide r.wide f.value g.wide h.wide k)

  below_one : (o : O) (a p : Seen) → Below a p → (b : Bool) →
      Below (if b then node (of_one m o a.value) a.wide else lazy_node m o a (known None) (known None)) (if b then node (of_one m o p.value) p.wide else lazy_node m o p (known None) (known None))
  below_one o a p f true = below_node (of_one m o a.value) (of_one m o p.value) a.wide p.wide (one_stays o a.value p.value f.value) f.wide
  below_one o a p f false = below_lazy o a (known None) (known None) p (known None) (known None) f (below_self (known None)) (below_self (known None))

  below_two : (o : O) (a c p q : Seen) → Below a p → Below c q → (b : Bool) →
      Below (if b then node (of_both m o a.value c.value) (a.wide || c.wide) else lazy_node m o a c (known None)) (if b then node (of_both m o p.value q.value) (p.wide || q.wide) else lazy_node m o p q (known None))
  below_two o a c p q f g true =
      below_node (of_both m o a.value c.value) (of_both m o p.value q.value) (a.wide || c.wide) (p.wide || q.wide) (both_stay o a.value p.value c.value q.value f.value g.value)
      (λ k. by_part (either a.wide c.wide k))
    where
      by_part : ((a.wide ≡ true) ⊎ (c.wide ≡ true)) → (p.wide || q.wide) ≡ true
      by_part (inl k) = or_left p.wide q.wide (f.wide k)
      by_part (inr k) = or_right p.wide q.wide (g.wide k)
  below_two o a c p q f g false = below_lazy o a c (known None) p q (known None) f g (below_self (known None))

  below_seen : (e : Tree O) (old new : List ℕ → Seen) → ((x : List ℕ) → Below (old x) (new x)) → Below (seen m e old) (seen m e new)
  below_seen (Truth at b) old new h = below_self _
  below_seen (Number at d) old new h = below_self _
  below_seen (Name at x) old new h = h x
  below_seen (One at o a) old new h = below_one o (seen m a old) (seen m a new) (below_seen a old new h) (m.strict o)
  below_seen (Two at o a b) old new h = below_two o (seen m a old) (seen m b old) (seen m a new) (seen m b new) (below_seen a old new h) (below_seen b old new h) (m.strict o)
  below_seen (Three at o a b c) old new h = below_lazy o (seen m a old) (seen m b old) (seen m c old) (seen m a new) (seen m b new) (seen m c new) (below_seen a old new h) (below_seen b old new h) (below_seen c old new h)

below_see : (e : Expression) (old new : List ℕ → Seen) → ((x : List ℕ) → Below (old x) (new x)) → Below (see e old) (see e new)
unfolding see
below_see e old new h = below_seen jani_meaning e old new h

pub below_constant : (given : Option Value) (e : Option Expression) (old new : List ℕ → Seen) → ((x : List ℕ) → Below (old x) (new x)) → Below (constant_seen given old e) (constant_seen given new e)
below_constant given None old new h = below_self (known given)
below_constant given (Some e) old new h = below_see e old new h

-- ---- what stands at the place of a name
abbrev found : (Const → Option Value) → Option Const → Option Value
found g None = None
found g (Some c) = g c

value_later : (h : Option Value) (t : List (Option Value)) (o : Option ℕ) → value_from (h ∷ t) (option_map suc o) ≡ value_from t o
value_later h t None = refl
value_later h t (Some k) = refl

pub found_value : (G : ready.Name → Const → Option Value) (x : ready.Name) (cs : List Const) →
    value_from (map (λ c. G c.name.name c) cs) (position (λ c. is_called x c.name) cs) ≡ found (G x) (find (λ c. is_called x c.name) cs)
found_value G x [] = refl
found_value G x (c ∷ cs) =
    ap (value_from (G c.name.name c ∷ map (λ d. G d.name.name d) cs)) (position_cons (λ d. is_called x d.name) c cs)
    ∙ by_test (bytes_eq c.name.name x) refl (found_value G x cs)
  where
    by_test : (b : Bool) → bytes_eq c.name.name x ≡ b →
        value_from (map (λ d. G d.name.name d) cs) (position (λ d. is_called x d.name) cs) ≡ found (G x) (find (λ d. is_called x d.name) cs) →
        value_from (G c.name.name c ∷ map (λ d. G d.name.name d) cs) (cond b (Some 0) (option_map suc (position (λ d. is_called x d.name) cs))) ≡ found (G x) (cond b (Some c) (find (λ d. is_called x d.name) cs))
    by_test true e ih = ap (λ y. G y c) ((bytes_eq-Decides c.name.name x).0 e)
    by_test false e ih = value_later (G c.name.name c) (map (λ d. G d.name.name d) cs) (position (λ d. is_called x d.name) cs) ∙ ih

pub found_is : (given : Option Value) (names : ready.Name → Seen) (o : Option Const) → found (λ c. (constant_seen given names c.value).value) o ≡ constant_value given names o
found_is given names None = refl
found_is given names (Some c) = refl

pub no_values : {X : Type 0} (cs : List X) (o : Option ℕ) → value_from (map (λ c. None) cs) o ≡ None
no_values cs None = refl
no_values [] (Some k) = refl
no_values (c ∷ cs) (Some zero) = refl
no_values (c ∷ cs) (Some (suc k)) = no_values cs (Some k)

-- ---- lists of what is seen
pub wides : (ss : List Seen) → list_any (λ r. (seen_of r).wide) (map computed ss) ≡ list_any (λ s. s.wide) ss
wides [] = refl
wides (s ∷ ss) = ap₂ (λ a b. a || b) (ap (λ x. x.wide) (computed_laws.values s)) (wides ss)

pub narrow_values : (ss : List Seen) → list_any (λ s. s.wide) ss ≡ false → map (λ r. (seen_of r).value) (map computed ss) ≡ map (λ s. s.value) ss
narrow_values [] h = refl
narrow_values (s ∷ ss) h =
    ap₂ (λ x l. x ∷ l) (ap (λ x. x.value) (computed_laws.values s) ∙ ap (λ w. if w then None else s.value) (neither s.wide (list_any (λ s. s.wide) ss) h).0)
    (narrow_values ss (neither s.wide (list_any (λ s. s.wide) ss) h).1)
  where
    neither : (b c : Bool) → (b || c) ≡ false → (b ≡ false) × (c ≡ false)
    neither true c h = absurd cc
    neither false c h = (refl, h)

pub any_below : {X : Type 0} (f g : X → Seen) → ((x : X) → Below (f x) (g x)) → (xs : List X) → list_any (λ s. s.wide) (map f xs) ≡ true → list_any (λ s. s.wide) (map g xs) ≡ true
any_below f g h [] e = absurd cc
any_below f g h (x ∷ xs) e = by_part (either (f x).wide (list_any (λ s. s.wide) (map f xs)) e) (any_below f g h xs)
  where
    by_part : (((f x).wide ≡ true) ⊎ (list_any (λ s. s.wide) (map f xs) ≡ true)) → (list_any (λ s. s.wide) (map f xs) ≡ true → list_any (λ s. s.wide) (map g xs) ≡ true) →
        ((g x).wide || list_any (λ s. s.wide) (map g xs)) ≡ true
    by_part (inl k) ih = or_left (g x).wide _ ((h x).wide k)
    by_part (inr k) ih = or_right (g x).wide _ (ih k)

-- ---- rounds
module _ (file : File) (v : Valuation) where
  -- the table has the constants that lead through fewer than n others
  pub record IsRound (n : ℕ) (table : List (Option Value)) : Type 0 where
    pub at : (x : ready.Name) → value_from table (position (λ c. is_called x c.name) file.constants) ≡ constant_within file v n x

  pub round_none : IsRound 0 (map (λ c. None) file.constants)
  round_none = record { at = λ x. no_values file.constants (position (λ c. is_called x c.name) file.constants) }

  names_are : (n : ℕ) (table : List (Option Value)) → IsRound n table → names_by file.constants table ≡ (λ y. known (constant_within file v n y))
  names_are n table r = fun_ext (λ x. ap known (r.at x))

  pub round_more : (n : ℕ) (table : List (Option Value)) → IsRound n table → IsRound (n + 1) (map (λ s. s.value) (round_of file.constants v table))
  round_more n table r = record {
    at = λ x.
        ap (λ l. value_from l (position (λ c. is_called x c.name) file.constants)) (map-map (λ s. s.value) (λ c. constant_seen (v c.name.name) (names_by file.constants table) c.value) file.constants)
        ∙ found_value (λ y c. (constant_seen (v y) (names_by file.constants table) c.value).value) x file.constants
        ∙ found_is (v x) (names_by file.constants table) (constant_called file x)
        ∙ ap (λ names. constant_value (v x) names (constant_called file x)) (names_are n table r)
        ∙ ap (λ m. constant_within file v m x) (let d : suc n ≡ n + 1 = omega arith in d);
  }

  pub value_stays : (given : Option Value) (old new : List ℕ → Seen) → ((x : List ℕ) → Below (old x) (new x)) → (o : Option Const) (w : Value) → constant_value given old o ≡ Some w → constant_value given new o ≡ Some w
  value_stays given old new h None w e = absurd cc
  value_stays given old new h (Some c) w e = (below_constant given c.value old new h).value w e

  pub stays : (n : ℕ) (x : ready.Name) (w : Value) → constant_within file v n x ≡ Some w → constant_within file v (suc n) x ≡ Some w
  stays zero x w e = absurd cc
  stays (suc n) x w e =
      value_stays (v x) (λ y. known (constant_within file v n y)) (λ y. known (constant_within file v (suc n) y))
      (λ y. below_known (constant_within file v n y) (constant_within file v (suc n) y) (stays n y)) (constant_called file x) w e

  stays_on : (k n : ℕ) (x : ready.Name) (w : Value) → constant_within file v n x ≡ Some w → constant_within file v (n + k) x ≡ Some w
  stays_on zero n x w e = ap (λ m. constant_within file v m x) (let d : n + 0 ≡ n = omega arith in d) ∙ e
  stays_on (suc k) n x w e = ap (λ m. constant_within file v m x) (let d : n + suc k ≡ suc (n + k) = omega arith in d) ∙ stays (n + k) x w (stays_on k n x w e)

  pub round_wide : (n : ℕ) (table : List (Option Value)) → n ≤ length file.constants → IsRound n table → list_any (λ s. s.wide) (round_of file.constants v table) ≡ true →
      list_any (λ s. s.wide) (scene file v).constants ≡ true
  round_wide n table h r e =
      any_below (λ (c : Const). constant_seen (v c.name.name) (names_by file.constants table) c.value) (λ c. constant_seen (v c.name.name) (constant_names file v) c.value)
      (λ c. below_constant (v c.name.name) c.value (names_by file.constants table) (constant_names file v)
      (λ x. subst (λ o. Below (known o) (constant_names file v x)) (sym (r.at x))
      (below_known (constant_within file v n x) (constant file v x)
      (λ w q. ap (λ m. constant_within file v m x) (let d : length file.constants ≡ n + (length file.constants - n) = omega (arith, h) in d) ∙ stays_on (length file.constants - n) n x w q))))
      file.constants e

  settled : (k n : ℕ) → ((x : ready.Name) → constant_within file v n x ≡ constant_within file v (suc n) x) → (x : ready.Name) → constant_within file v (n + k) x ≡ constant_within file v n x
  settled zero n h x = ap (λ m. constant_within file v m x) (let d : n + 0 ≡ n = omega arith in d)
  settled (suc k) n h x =
      ap (λ m. constant_within file v m x) (let d : n + suc k ≡ suc (n + k) = omega arith in d)
      ∙ ap (λ names. constant_value (v x) names (constant_called file x)) (fun_ext (λ y. ap known (settled k n h y)))
      ∙ sym (h x)

  pub round_settled : (n : ℕ) (table : List (Option Value)) → n ≤ length file.constants → IsRound n table → IsRound (n + 1) table → (x : ready.Name) →
      value_from table (position (λ c. is_called x c.name) file.constants) ≡ constant file v x
  round_settled n table h r s x =
      r.at x
      ∙ sym (settled (length file.constants - n) n (λ y. sym (r.at y) ∙ s.at y ∙ ap (λ m. constant_within file v m y) (let d : n + 1 ≡ suc n = omega arith in d)) x)
      ∙ ap (λ m. constant_within file v m x) (let d : n + (length file.constants - n) ≡ length file.constants = omega (arith, h) in d)
