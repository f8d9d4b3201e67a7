-- What is seen of an expression is its value and the bound on what the value needs; substitution
-- and renaming keep it.
use Rattle.std.specs.Prelude.{◌≡◌, ℕ, zero, suc, ◌<◌, List, [], ◌++◌, Bool, true, false, ◌||◌, Option, Some, None, if◌then◌else◌}
use Rattle.std.specs.List.{list_any}
use Rattle.std.specs.Option.{option_map}
use Rattle.std.proofs.Common.{refl, sym, ap, ap₂, ◌∙◌, arith}
use Rattle.std.proofs.lemmas.List.Folds.{list_any-append}
use Rattle.std.proofs.Math.Bool.{or-false}
use Rattle.op_trees.specs.declared.tree.Value.{Value}
use Rattle.op_trees.specs.declared.tree.Next.{Next}
use Rattle.op_trees.specs.declared.tree.Next.TheVariants.{Done, Second, Third, All}
use Rattle.op_trees.specs.Tree.{Tree, Truth, Number, Name, One, Two, Three, AllNames, bare, replaced, substituted, written_out, renamed}
use Rattle.op_trees.specs.Meaning.{Meaning, Environment, number, is_wide_value, of_one, of_both, of_lazy, value_of, needed, asked, asked_by, needs_wide, answered, answer}
use Rattle.op_trees.specs.Seen.{Seen, known, known_names, node, asked_wide, asked_by_wide, lazy_node, one_node, two_node, seen, seen_through, looked_up, IsSeenAsBody, SeesBodies, FallsTo, IsFalling}

-- ---- the one recursion is the value and the list of what the value needs
module _ {O : Type 0} (m : Meaning O) (env : Environment) where
  abbrev pub is_wide_at : Tree O → Bool
  is_wide_at s = is_wide_value (value_of m s env)

  -- the value, and whether a needed subexpression is wide
  abbrev pub value_and_wide : Tree O → Seen
  value_and_wide t = record { value = value_of m t env; wide = needs_wide m t env }

  asked_is : (n : Next) (bs cs : List (Tree O)) →
      asked_wide n (list_any is_wide_at bs) (list_any is_wide_at cs) ≡ list_any is_wide_at (asked n bs cs)
  asked_is (Done v) bs cs = refl
  asked_is Second bs cs = refl
  asked_is Third bs cs = refl
  asked_is All bs cs = refl

  asked_by_is : (o : O) (v : Option Value) (bs cs : List (Tree O)) →
      asked_by_wide m o v (list_any is_wide_at bs) (list_any is_wide_at cs)
      ≡ list_any is_wide_at (asked_by m o v bs cs)
  asked_by_is o None bs cs = refl
  asked_by_is o (Some x) bs cs = asked_is (m.first o x) bs cs

  asked_none : (n : Next) → asked_wide n false false ≡ false
  asked_none (Done v) = refl
  asked_none Second = refl
  asked_none Third = refl
  asked_none All = refl

  asked_by_none : (o : O) (v : Option Value) → asked_by_wide m o v false false ≡ false
  asked_by_none o None = refl
  asked_by_none o (Some x) = asked_none (m.first o x)

  lazy_is : (o : O) (v a : Option Value) (ds bs cs : List (Tree O)) →
      node v (list_any is_wide_at ds || asked_by_wide m o a (list_any is_wide_at bs) (list_any is_wide_at cs))
      ≡ node v (list_any is_wide_at (ds ++ asked_by m o a bs cs))
  lazy_is o v a ds bs cs =
      ap (node v) (ap (λ w. list_any is_wide_at ds || w) (asked_by_is o a bs cs)
      ∙ sym (list_any-append is_wide_at ds (asked_by m o a bs cs)))

  one_is : (at : ℕ) (o : O) (a : Tree O) → one_node m o (value_and_wide a) ≡ value_and_wide (One at o a)
  one_is at o a = by_strict (m.strict o)
    where
      by_strict : (s : Bool) →
          (if s then node (of_one m o (value_of m a env)) (needs_wide m a env) else lazy_node m o (value_and_wide a) (known None) (known None))
          ≡ node (if s then of_one m o (value_of m a env) else of_lazy m o (value_of m a env) None None) (needs_wide m a env)
      by_strict true = refl
      by_strict false =
          ap (node (of_lazy m o (value_of m a env) None None)) (ap (λ w. needs_wide m a env || w) (asked_by_none o (value_of m a env))
          ∙ or-false (needs_wide m a env))

  two_is : (at : ℕ) (o : O) (a b : Tree O) → two_node m o (value_and_wide a) (value_and_wide b)
      ≡ value_and_wide (Two at o a b)
  two_is at o a b = by_strict (m.strict o)
    where
      by_strict : (s : Bool) →
          (if s then node (of_both m o (value_of m a env) (value_of m b env)) (needs_wide m a env || needs_wide m b env) else lazy_node m o (value_and_wide a) (value_and_wide b) (known None))
          ≡ node (if s then of_both m o (value_of m a env) (value_of m b env) else of_lazy m o (value_of m a env) (value_of m b env) None)
          (list_any is_wide_at (needed m a env ++ (if s then needed m b env else asked_by m o (value_of m a env) (needed m b env) [])))
      by_strict true =
          ap (node (of_both m o (value_of m a env) (value_of m b env))) (sym (list_any-append is_wide_at (needed m a env) (needed m b env)))
      by_strict false =
          lazy_is o (of_lazy m o (value_of m a env) (value_of m b env) None) (value_of m a env) (needed m a env) (needed m b env) []

  -- over names that have values, what is seen is the value and the bound on what it needs
  pub seen_is : (t : Tree O) → seen m t (known_names env) ≡ value_and_wide t
  seen_is (Truth at b) = refl
  seen_is (Number at d) =
      ap (λ w. record { value = Some (number d); wide = w }) (sym (or-false (is_wide_value (Some (number d)))))
  seen_is (Name at x) = ap (λ w. record { value = env x; wide = w }) (sym (or-false (is_wide_value (env x))))
  seen_is (One at o a) = ap (one_node m o) (seen_is a) ∙ one_is at o a
  seen_is (Two at o a b) = ap₂ (two_node m o) (seen_is a) (seen_is b) ∙ two_is at o a b
  seen_is (Three at o a b c) =
      ap₂ {B = Seen → Seen} (λ r g. g r) (seen_is a) (ap₂ (λ s t r. lazy_node m o r s t) (seen_is b) (seen_is c))
      ∙ lazy_is o (of_lazy m o (value_of m a env) (value_of m b env) (value_of m c env)) (value_of m a env) (needed m a env) (needed m b env) (needed m c env)

  -- so an evaluation's answer is what is seen
  pub answer_is : (t : Tree O) → answer m t env
      ≡ answered (seen m t (known_names env)).wide (seen m t (known_names env)).value
  answer_is t = ap (λ s. answered s.wide s.value) (sym (seen_is t))

-- ---- substitution, writing out and renaming
pub names_then : {O : Type 0} (P Q : List ℕ → Type 0) → ((x : List ℕ) → P x → Q x) → (t : Tree O) →
    AllNames P t → AllNames Q t
names_then P Q h (Truth at b) p = tt
names_then P Q h (Number at d) p = tt
names_then P Q h (Name at x) p = h x p
names_then P Q h (One at o a) p = names_then P Q h a p
names_then P Q h (Two at o a b) p = (names_then P Q h a p.0, names_then P Q h b p.1)
names_then P Q h (Three at o a b c) p = (names_then P Q h a p.0, names_then P Q h b p.1, names_then P Q h c p.2)

pub names_all : {O : Type 0} (P : List ℕ → Type 0) → ((x : List ℕ) → P x) → (t : Tree O) → AllNames P t
names_all P h (Truth at b) = tt
names_all P h (Number at d) = tt
names_all P h (Name at x) = h x
names_all P h (One at o a) = names_all P h a
names_all P h (Two at o a b) = (names_all P h a, names_all P h b)
names_all P h (Three at o a b c) = (names_all P h a, names_all P h b, names_all P h c)

module _ {O : Type 0} (m : Meaning O) where
  at_name : (at : ℕ) (x : List ℕ) (o : Option (Tree O)) (env : List ℕ → Seen) →
      seen m (replaced (Name at x) o) env ≡ seen_through m o env (env x)
  at_name at x None env = refl
  at_name at x (Some b) env = refl

  -- to substitute is to see each replaced name as its body
  pub seen-substituted : (bodies : List ℕ → Option (Tree O)) (t : Tree O) (env : List ℕ → Seen) →
      seen m (substituted bodies t) env ≡ seen m t (λ x. seen_through m (bodies x) env (env x))
  seen-substituted f (Truth at b) env = refl
  seen-substituted f (Number at d) env = refl
  seen-substituted f (Name at x) env = at_name at x (f x) env
  seen-substituted f (One at o a) env = ap (one_node m o) (seen-substituted f a env)
  seen-substituted f (Two at o a b) env = ap₂ (two_node m o) (seen-substituted f a env) (seen-substituted f b env)
  seen-substituted f (Three at o a b c) env =
      ap₂ {B = Seen →
      Seen} (λ r g. g r) (seen-substituted f a env) (ap₂ (λ s t r. lazy_node m o r s t) (seen-substituted f b env) (seen-substituted f c env))

  -- what is seen of a tree rests on its own names alone
  pub seen_agree_on : (t : Tree O) (env new : List ℕ → Seen) → AllNames (λ x. env x ≡ new x) t →
      seen m t env ≡ seen m t new
  seen_agree_on (Truth at b) env new h = refl
  seen_agree_on (Number at d) env new h = refl
  seen_agree_on (Name at x) env new h = h
  seen_agree_on (One at o a) env new h = ap (one_node m o) (seen_agree_on a env new h)
  seen_agree_on (Two at o a b) env new h =
      ap₂ (two_node m o) (seen_agree_on a env new h.0) (seen_agree_on b env new h.1)
  seen_agree_on (Three at o a b c) env new h =
      ap₂ {B = Seen →
      Seen} (λ r g. g r) (seen_agree_on a env new h.0) (ap₂ (λ s t r. lazy_node m o r s t) (seen_agree_on b env new h.1) (seen_agree_on c env new h.2))

  pub seen_agree : (t : Tree O) (env new : List ℕ → Seen) → ((x : List ℕ) → env x ≡ new x) → seen m t env
      ≡ seen m t new
  seen_agree t env new h = seen_agree_on t env new (names_all (λ x. env x ≡ new x) h t)

  at_body : (env new : List ℕ → Seen) (write : Tree O → Tree O) → ((t : Tree O) → seen m (write t) env
      ≡ seen m t new) → (o : Option (Tree O)) (s : Seen) → seen_through m (option_map write o) env s
      ≡ seen_through m o new s
  at_body env new write h None s = refl
  at_body env new write h (Some b) s = h b

  pub seen-written_out : (bodies : List ℕ → Option (Tree O)) (env : List ℕ → Seen) (n : ℕ) (t : Tree O) →
      seen m (written_out bodies n t) env ≡ seen m t (looked_up m bodies n env)
  seen-written_out bodies env zero t = refl
  seen-written_out bodies env (suc n) t =
      seen-substituted (λ x. option_map (written_out bodies n) (bodies x)) t env
      ∙ seen_agree t _ _ (λ x. at_body env (looked_up m bodies n env) (written_out bodies n) (seen-written_out bodies env n) (bodies x) (env x))

  pub seen-renamed : (new : List ℕ → List ℕ) (env : List ℕ → Seen) (t : Tree O) → seen m (renamed new t) env
      ≡ seen m t (λ x. env (new x))
  seen-renamed new env (Truth at b) = refl
  seen-renamed new env (Number at d) = refl
  seen-renamed new env (Name at x) = refl
  seen-renamed new env (One at o a) = ap (one_node m o) (seen-renamed new env a)
  seen-renamed new env (Two at o a b) = ap₂ (two_node m o) (seen-renamed new env a) (seen-renamed new env b)
  seen-renamed new env (Three at o a b c) =
      ap₂ {B = Seen →
      Seen} (λ r g. g r) (seen-renamed new env a) (ap₂ (λ s t r. lazy_node m o r s t) (seen-renamed new env b) (seen-renamed new env c))

  -- written out and then renamed, a tree is seen as it is with its bodies looked up over the
  -- renamed names
  pub seen-renamed_written_out : (new : List ℕ → List ℕ) (env : List ℕ → Seen) (bodies : List ℕ →
      Option (Tree O)) (n : ℕ) (t : Tree O) → seen m (renamed new (written_out bodies n t)) env
      ≡ seen m t (looked_up m bodies n (λ x. env (new x)))
  seen-renamed_written_out new env bodies n t =
      seen-renamed new env (written_out bodies n t) ∙ seen-written_out bodies (λ x. env (new x)) n t

  through_is : (env : List ℕ → Seen) (x : List ℕ) (o : Option (Tree O)) → ((b : Tree O) → o ≡ Some b →
      seen m b env ≡ env x) → seen_through m o env (env x) ≡ env x
  through_is env x None h = refl
  through_is env x (Some b) h = h b refl

  -- where each replaced name is seen as its body, substitution keeps what is seen
  pub seen-substituted_same : (bodies : List ℕ → Option (Tree O)) (t : Tree O) →
      SeesBodies m bodies t (substituted bodies t)
  seen-substituted_same f t env h =
      seen-substituted f t env
      ∙ seen_agree_on t _ _ (names_then (IsSeenAsBody m f env) (λ x. seen_through m (f x) env (env x)
      ≡ env x) (λ x k. through_is env x (f x) k) t h)

  -- offsets do not matter
  pub seen-bare : (t : Tree O) (env : List ℕ → Seen) → seen m (bare t) env ≡ seen m t env
  seen-bare (Truth at b) env = refl
  seen-bare (Number at d) env = refl
  seen-bare (Name at x) env = refl
  seen-bare (One at o a) env = ap (one_node m o) (seen-bare a env)
  seen-bare (Two at o a b) env = ap₂ (two_node m o) (seen-bare a env) (seen-bare b env)
  seen-bare (Three at o a b c) env =
      ap₂ {B = Seen →
      Seen} (λ r g. g r) (seen-bare a env) (ap₂ (λ s t r. lazy_node m o r s t) (seen-bare b env) (seen-bare c env))

  pub seen_same : (t u : Tree O) → bare t ≡ bare u → (env : List ℕ → Seen) → seen m t env ≡ seen m u env
  seen_same t u h env = sym (seen-bare t env) ∙ ap (λ e. seen m e env) h ∙ seen-bare u env

-- ---- bodies that lead round in no circle
module _ {O : Type 0} (m : Meaning O) (bodies : List ℕ → Option (Tree O)) (rank : List ℕ →
    ℕ) (falling : IsFalling bodies rank) (env : List ℕ → Seen) where
  through_agrees : (n : ℕ) → ((y : List ℕ) → FallsTo bodies rank n y → looked_up m bodies n env y
      ≡ looked_up m bodies (suc n) env y) →
      (x : List ℕ) (o : Option (Tree O)) → bodies x ≡ o → FallsTo bodies rank (suc n) x →
      seen_through m o (looked_up m bodies n env) (env x) ≡ seen_through m o (looked_up m bodies (suc n) env) (env x)
  through_agrees n ih x None e f = refl
  through_agrees n ih x (Some b) e f =
      let low : rank x < suc n = f.below b e in
      seen_agree_on m b _ _
      (names_then (FallsTo bodies rank (rank x)) (λ y. looked_up m bodies n env y ≡ looked_up m bodies (suc n) env y)
      (λ y g. ih y (record {
        below =
            λ c k. let deep : rank y < rank x = g.below c k in omega arith;
      })) b (falling.falls x b e))

  through_none : (x : List ℕ) (o : Option (Tree O)) → bodies x ≡ o → FallsTo bodies rank 0 x → env x
      ≡ seen_through m o env (env x)
  through_none x None e f = refl
  through_none x (Some b) e f = absurd (let low : rank x < 0 = f.below b e in omega arith)

  -- at a depth above its rank a name is seen as its body is, under the same names
  pub looked_up_is : (n : ℕ) (x : List ℕ) → FallsTo bodies rank n x → looked_up m bodies n env x
      ≡ seen_through m (bodies x) (looked_up m bodies n env) (env x)
  looked_up_is zero x f = through_none x (bodies x) refl f
  looked_up_is (suc n) x f = through_agrees n (looked_up_is n) x (bodies x) refl f
