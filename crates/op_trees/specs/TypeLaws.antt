-- A type excludes misfits, a value has the type, and substitution and renaming keep types.
use Rattle.std.specs.Prelude.{◌≡◌, ◌↔◌, ◌≤◌, ℕ, zero, suc, List, [], ◌∷◌, ◌++◌, map, Bool, true, false, ◌&&◌, Option, Some, None, Result, Ok, Err, IsTrue, is_some, nat_eq, Contains, IfOk, MatchResult, min, if◌then◌else◌, not, ◌%◌, pos}
use Rattle.std.specs.Option.{ok_or, option_map}
use Rattle.std.proofs.Common.{refl, sym, ap, ap₂, subst, ◌∙◌, arith, append-nil, eq-eqb}
use Rattle.std.specs.Ordering.{int_eq}
use Rattle.std.proofs.lemmas.Bool.Decides.{Decides-int_eq}
use Rattle.std.proofs.lemmas.List.Elements.{All-nil, All-cons, All-weaker, All-append, Contains-append_left, Contains-append_right}
use native.Mathlib.Decide.{ℕ_discrete}
use Rattle.frac_core.specs.declared.decimal.Decimal.{Decimal}
use Rattle.frac_core.specs.Decimal.{decimal_value-whole, is_normal}
use Rattle.op_trees.specs.declared.tree.Ty.{Ty}
use Rattle.op_trees.specs.declared.tree.Ty.TheVariants as T
use Rattle.op_trees.specs.declared.tree.Value.{Value}
use Rattle.op_trees.specs.declared.tree.Value.TheVariants as V
use Rattle.op_trees.specs.declared.tree.Next.{Next}
use Rattle.op_trees.specs.declared.tree.Next.TheVariants as N
use Rattle.op_trees.specs.Tree.{Tree, Truth, Number, Name, One, Two, Three, AllNames, AllNumbers, bare, replaced, substituted, written_out, renamed}
use Rattle.op_trees.specs.Meaning.{Meaning, Environment, number, chosen, of_one, of_both, of_lazy, value_of, needs_wide, answered, answer}
use Rattle.op_trees.specs.SeenLaws.{names_all}
use Rattle.op_trees.specs.Names.{HasOperands}
use Rattle.op_trees.specs.Operators.{IsLawful, TakesFirst, fits_some, given_count}
use Rattle.op_trees.specs.Types.{Types, fits, has_type, AgreesWith, number_type, sort_one, sort_two, sort_three, type_in, misfit_at, misfits, IsLeast, type_through, types_looked_up, typed_one, typed_two, typed_three, typed}

-- ---- the type or the least misfit
-- a type and no misfit, or no type and the least misfit
pub data Judged : List ℕ → Option Ty → Result Ty ℕ → Type 0 where
  fitting : (t : Ty) → Judged [] (Some t) (Ok t)
  misfit : (at : ℕ) (ms : List ℕ) → IsLeast at ms → Judged ms None (Err at)

least_one : (at : ℕ) → IsLeast at (at ∷ [])
least_one at =
    record { stands = (0, omega arith, refl); least = All-cons (λ n. at ≤ n) at [] (omega arith) (All-nil (λ n. at ≤ n)) }

least_more : (i : ℕ) (ms : List ℕ) → IsLeast i ms → IsLeast i (ms ++ [])
least_more i ms l = rw append-nil l

least_both : (i j : ℕ) (ms ns : List ℕ) → IsLeast i ms → IsLeast j ns → IsLeast (min i j) (ms ++ ns)
least_both i j ms ns l k = record {
  stands = standing (ℕ_discrete (min i j) i);
  least = All-append (λ n. min i j ≤ n) ms ns
      (All-weaker (λ n. i ≤ n) (λ n. min i j ≤ n) (λ n h. omega arith) ms l.least)
      (All-weaker (λ n. j ≤ n) (λ n. min i j ≤ n) (λ n h. omega arith) ns k.least);
}
  where
    standing : Dec (min i j ≡ i) → Contains (ms ++ ns) (min i j)
    standing (yes e) = subst (λ n. Contains (ms ++ ns) n) (sym e) (Contains-append_left ms ns i l.stands)
    standing (no ne) =
        let e : min i j ≡ j = omega arith in
        subst (λ n. Contains (ms ++ ns) n) (sym e) (Contains-append_right ms ns j k.stands)

placed : (at : ℕ) (t : Option Ty) → Judged (misfit_at at true t) t (ok_or t at)
placed at None = misfit at (at ∷ []) (least_one at)
placed at (Some t) = fitting t

module _ {O : Type 0} (m : Meaning O) (o : O) (at : ℕ) where
  one_judged : (ms : List ℕ) (t : Option Ty) (r : Result Ty ℕ) → Judged ms t r →
      Judged (ms ++ misfit_at at (is_some t) (sort_one m o t)) (sort_one m o t) (typed_one (λ x. m.sort o x None None) at r)
  one_judged _ _ _ (fitting x) = placed at (m.sort o x None None)
  one_judged _ _ _ (misfit i ms l) = misfit i (ms ++ []) (least_more i ms l)

  two_judged : (ms ns : List ℕ) (t u : Option Ty) (r s : Result Ty ℕ) → Judged ms t r → Judged ns u s →
      Judged (ms ++ (ns ++ misfit_at at (is_some t && is_some u) (sort_two m o t u))) (sort_two m o t u) (typed_two (λ x y. m.sort o x (Some y) None) at r s)
  two_judged _ _ _ _ _ _ (fitting x) (fitting y) = placed at (m.sort o x (Some y) None)
  two_judged _ _ _ _ _ _ (fitting x) (misfit j ns k) = misfit j (ns ++ []) (least_more j ns k)
  two_judged _ _ _ _ _ _ (misfit i ms l) (fitting y) = misfit i (ms ++ []) (least_more i ms l)
  two_judged _ _ _ _ _ _ (misfit i ms l) (misfit j ns k) =
      misfit (min i j) (ms ++ (ns ++ [])) (least_both i j ms (ns ++ []) l (least_more j ns k))

  three_judged : (ms ns ps : List ℕ) (t u v : Option Ty) (r s q : Result Ty ℕ) → Judged ms t r →
      Judged ns u s → Judged ps v q →
      Judged (ms ++ (ns ++ (ps ++ misfit_at at (is_some t && (is_some u && is_some v)) (sort_three m o t u v)))) (sort_three m o t u v) (typed_three (λ x y z. m.sort o x (Some y) (Some z)) at r s q)
  three_judged _ _ _ _ _ _ _ _ _ (fitting x) (fitting y) (fitting z) = placed at (m.sort o x (Some y) (Some z))
  three_judged _ _ _ _ _ _ _ _ _ (fitting x) (fitting y) (misfit k ps c) = misfit k (ps ++ []) (least_more k ps c)
  three_judged _ _ _ _ _ _ _ _ _ (fitting x) (misfit j ns b) (fitting z) = misfit j (ns ++ []) (least_more j ns b)
  three_judged _ _ _ _ _ _ _ _ _ (fitting x) (misfit j ns b) (misfit k ps c) =
      misfit (min j k) (ns ++ (ps ++ [])) (least_both j k ns (ps ++ []) b (least_more k ps c))
  three_judged _ _ _ _ _ _ _ _ _ (misfit i ms a) (fitting y) (fitting z) = misfit i (ms ++ []) (least_more i ms a)
  three_judged _ _ _ _ _ _ _ _ _ (misfit i ms a) (fitting y) (misfit k ps c) =
      misfit (min i k) (ms ++ (ps ++ [])) (least_both i k ms (ps ++ []) a (least_more k ps c))
  three_judged _ _ _ _ _ _ _ _ _ (misfit i ms a) (misfit j ns b) (fitting z) =
      misfit (min i j) (ms ++ (ns ++ [])) (least_both i j ms (ns ++ []) a (least_more j ns b))
  three_judged _ _ _ _ _ _ _ _ _ (misfit i ms a) (misfit j ns b) (misfit k ps c) =
      misfit (min i (min j k)) (ms ++ (ns ++ (ps ++ []))) (least_both i (min j k) ms (ns ++ (ps ++ [])) a (least_both j k ns (ps ++ []) b (least_more k ps c)))

module _ {O : Type 0} (m : Meaning O) (types : Types) where
  pub judged : (e : Tree O) → Judged (misfits m types e) (type_in m types e) (typed m types e)
  judged (Truth at b) = fitting T.Bool
  judged (Number at d) = fitting (number_type d)
  judged (Name at x) = placed at (types x)
  judged (One at o a) = one_judged m o at _ _ _ (judged a)
  judged (Two at o a b) = two_judged m o at _ _ _ _ _ _ (judged a) (judged b)
  judged (Three at o a b c) = three_judged m o at _ _ _ _ _ _ _ _ _ (judged a) (judged b) (judged c)

judged_match : (ms : List ℕ) (t : Option Ty) (r : Result Ty ℕ) → Judged ms t r → MatchResult r (λ x. t
    ≡ Some x) (λ at. IsLeast at ms)
judged_match _ _ _ (fitting t) = refl
judged_match _ _ _ (misfit at ms l) = l

judged_none : (ms : List ℕ) (t : Option Ty) (r : Result Ty ℕ) → Judged ms t r → (ms ≡ []) ↔ IsTrue (is_some t)
judged_none _ _ _ (fitting t) = (λ h. refl, λ h. refl)
judged_none _ _ _ (misfit at ms l) = (
  λ h. absurd (let none : Contains [] at =
      subst (λ xs. Contains xs at) h l.stands in omega (arith, none.1)),
  λ h. cc,
)

-- the recursion is the type, or the least of the misfits
pub typed_is : {O : Type 0} (m : Meaning O) (types : Types) (e : Tree O) →
    MatchResult (typed m types e) (λ t. type_in m types e ≡ Some t) (λ at. IsLeast at (misfits m types e))
typed_is m types e = judged_match _ _ _ (judged m types e)

-- an expression has a type exactly where nothing misfits
pub misfits_none : {O : Type 0} (m : Meaning O) (types : Types) (e : Tree O) → (misfits m types e
    ≡ []) ↔ IsTrue (is_some (type_in m types e))
misfits_none m types e = judged_none _ _ _ (judged m types e)

-- ---- a well-typed expression is undefined or has a value of its type
fitting_value : (b t : Ty) (v : Value) → IsTrue (fits b t) → IsTrue (has_type b v) → IsTrue (has_type t v)
fitting_value T.Bool T.Bool v h k = k
fitting_value T.Int T.Int v h k = k
fitting_value T.Real T.Real v h k = k
fitting_value T.Int T.Real (V.Number q) h k = refl
fitting_value T.Int T.Real (V.Truth b) h k = k
fitting_value T.Bool T.Int v h k = cc
fitting_value T.Bool T.Real v h k = cc
fitting_value T.Int T.Bool v h k = cc
fitting_value T.Real T.Bool v h k = cc
fitting_value T.Real T.Int v h k = cc

none_agrees : (v : Option Value) → AgreesWith None v
none_agrees v = record { agrees = λ a x h k. cc }

undefined_agrees : (t : Option Ty) → AgreesWith t None
undefined_agrees t = record { agrees = λ a x h k. cc }

pub some_agrees : (a : Ty) (x : Value) → IsTrue (has_type a x) → AgreesWith (Some a) (Some x)
some_agrees a x h =
    record {
      agrees = λ b y p q. let e : a ≡ b = cc in let f : x
          ≡ y = cc in subst (λ t. IsTrue (has_type t y)) e (subst (λ v. IsTrue (has_type a v)) f h);
    }

-- an int in normal form has exponent 0
normal_exponent : (zero_digits plain real other exponent : Bool) →
    IsTrue (if zero_digits then plain && exponent else if real then other else exponent) → real ≡ false →
    exponent ≡ true
normal_exponent true true r x e h k = h
normal_exponent true false r x e h k = cc
normal_exponent false p true x e h k = cc
normal_exponent false p false x e h k = h

normal_int : (d : Decimal) → IsTrue (is_normal d) → d.real ≡ false → d.exponent ≡ pos 0
normal_int d h k =
    (Decides-int_eq d.exponent (pos 0)).0 (normal_exponent (nat_eq d.digits 0) (not d.negative) d.real (not (nat_eq (d.digits % 10) 0)) (int_eq d.exponent (pos 0)) h k)

-- a literal in normal form has a value of its type
pub number_has_type : (d : Decimal) → IsTrue (is_normal d) → IsTrue (has_type (number_type d) (number d))
number_has_type d h = by_real d.real refl
  where
    by_real : (r : Bool) → d.real ≡ r → IsTrue (has_type (if r then T.Real else T.Int) (number d))
    by_real true e = refl
    by_real false e = eq-eqb _ _ (ap (λ q. q.den) (decimal_value-whole d (normal_int d h e)))

asked_agrees : (b : Option Ty) (y : Option Value) (t : Ty) (v : Value) → IsTrue (fits_some b t) →
    AgreesWith b y → y ≡ Some v → IsTrue (has_type t v)
asked_agrees None y t v h k e = cc
asked_agrees (Some b) y t v h k e = fitting_value b t v h (k.agrees b v refl e)

module _ {O : Type 0} (m : Meaning O) (lawful : IsLawful m) (o : O) where
  chosen_typed : (a : Ty) (x : Value) (b c : Option Ty) (y z : Option Value) (t : Ty) →
      TakesFirst m o x a b c t → AgreesWith b y → AgreesWith c z →
      (n : Next) → m.first o x ≡ n → (v : Value) → chosen n y z ≡ Some v → IsTrue (has_type t v)
  chosen_typed a x b c y z t h k l (N.Done w) e v f =
      subst (λ u. IsTrue (has_type t u)) (let same : w ≡ v = cc in same) (lawful.done o x w a b c t h e)
  chosen_typed a x b c y z t h k l N.Second e v f = asked_agrees b y t v (lawful.second o x a b c t h e) k f
  chosen_typed a x b c y z t h k l N.Third e v f = asked_agrees c z t v (lawful.third o x a b c t h e) l f
  chosen_typed a x b c y z t h k l N.All e v f = cc

  lazy_agrees : (a : Ty) (x : Option Value) (b c : Option Ty) (y z : Option Value) → AgreesWith (Some a) x →
      AgreesWith b y → AgreesWith c z →
      AgreesWith (m.sort o a b c) (of_lazy m o x y z)
  lazy_agrees a None b c y z h k l = undefined_agrees (m.sort o a b c)
  lazy_agrees a (Some x) b c y z h k l = record {
    agrees =
        λ t v p q. chosen_typed a x b c y z t (record { taken = p; typed = h.agrees a x refl refl }) k l (m.first o x) refl v q;
  }

  applied_one : (a : Ty) (x : Option Value) → m.strict o ≡ true → AgreesWith (Some a) x →
      AgreesWith (m.sort o a None None) (of_one m o x)
  applied_one a None s h = undefined_agrees (m.sort o a None None)
  applied_one a (Some x) s h = record {
    agrees =
        λ t v p q. lawful.applied o x v None a None t s (record { taken = p; typed = h.agrees a x refl refl }) refl q;
  }

  applied_both : (a b : Ty) (x y : Option Value) → m.strict o ≡ true → AgreesWith (Some a) x →
      AgreesWith (Some b) y → AgreesWith (m.sort o a (Some b) None) (of_both m o x y)
  applied_both a b None y s h k = undefined_agrees (m.sort o a (Some b) None)
  applied_both a b (Some x) None s h k = undefined_agrees (m.sort o a (Some b) None)
  applied_both a b (Some x) (Some y) s h k = record {
    agrees =
        λ t v p q. lawful.applied o x v (Some y) a (Some b) t s (record { taken = p; typed = h.agrees a x refl refl }) (k.agrees b y refl refl) q;
  }

  one_agrees : (a : Option Ty) (x : Option Value) → AgreesWith a x →
      AgreesWith (sort_one m o a) (if m.strict o then of_one m o x else of_lazy m o x None None)
  one_agrees None x h = none_agrees _
  one_agrees (Some a) x h = by_strict (m.strict o) refl
    where
      by_strict : (s : Bool) → m.strict o ≡ s →
          AgreesWith (m.sort o a None None) (if s then of_one m o x else of_lazy m o x None None)
      by_strict true e = applied_one a x e h
      by_strict false e = lazy_agrees a x None None None None h (none_agrees None) (none_agrees None)

  two_agrees : (a b : Option Ty) (x y : Option Value) → AgreesWith a x → AgreesWith b y →
      AgreesWith (sort_two m o a b) (if m.strict o then of_both m o x y else of_lazy m o x y None)
  two_agrees None b x y h k = none_agrees _
  two_agrees (Some a) None x y h k = none_agrees _
  two_agrees (Some a) (Some b) x y h k = by_strict (m.strict o) refl
    where
      by_strict : (s : Bool) → m.strict o ≡ s →
          AgreesWith (m.sort o a (Some b) None) (if s then of_both m o x y else of_lazy m o x y None)
      by_strict true e = applied_both a b x y e h k
      by_strict false e = lazy_agrees a x (Some b) None y None h k (none_agrees None)

  three_agrees : (a b c : Option Ty) (x y z : Option Value) → AgreesWith a x → AgreesWith b y →
      AgreesWith c z → AgreesWith (sort_three m o a b c) (of_lazy m o x y z)
  three_agrees None b c x y z h k l = none_agrees _
  three_agrees (Some a) None c x y z h k l = none_agrees _
  three_agrees (Some a) (Some b) None x y z h k l = none_agrees _
  three_agrees (Some a) (Some b) (Some c) x y z h k l = lazy_agrees a x (Some b) (Some c) y z h k l

module _ {O : Type 0} (m : Meaning O) (lawful : IsLawful m) (types : Types) (env : Environment) where
  pub value_agrees : (e : Tree O) → AllNumbers (λ d. IsTrue (is_normal d)) e →
      AllNames (λ x. AgreesWith (types x) (env x)) e → AgreesWith (type_in m types e) (value_of m e env)
  value_agrees (Truth at b) n x = some_agrees T.Bool (V.Truth b) refl
  value_agrees (Number at d) n x = some_agrees (number_type d) (number d) (number_has_type d n)
  value_agrees (Name at x) n h = h
  value_agrees (One at o a) n h = one_agrees m lawful o _ _ (value_agrees a n h)
  value_agrees (Two at o a b) n h = two_agrees m lawful o _ _ _ _ (value_agrees a n.0 h.0) (value_agrees b n.1 h.1)
  value_agrees (Three at o a b c) n h =
      three_agrees m lawful o _ _ _ _ _ _ (value_agrees a n.0 h.0) (value_agrees b n.1 h.1) (value_agrees c n.2 h.2)

answered_agrees : (wide : Bool) (type : Option Ty) (v : Option Value) (t : Ty) → AgreesWith type v → type
    ≡ Some t → IfOk (answered wide v) (λ x. IsTrue (has_type t x))
answered_agrees true type v t h e = tt
answered_agrees false type None t h e = tt
answered_agrees false type (Some v) t h e = h.agrees t v e refl

-- an evaluation answers Wide, Undef or a value of the type
pub answer_agrees : {O : Type 0} (m : Meaning O) → IsLawful m → (types : Types) (env : Environment) →
    ((x : List ℕ) → AgreesWith (types x) (env x)) →
    (e : Tree O) (t : Ty) → AllNumbers (λ d. IsTrue (is_normal d)) e → type_in m types e ≡ Some t →
    IfOk (answer m e env) (λ v. IsTrue (has_type t v))
answer_agrees m lawful types env h e t n k =
    answered_agrees (needs_wide m e env) (type_in m types e) (value_of m e env) t
    (value_agrees m lawful types env e n (names_all (λ x. AgreesWith (types x) (env x)) h e)) k

-- ---- substitution, writing out and renaming
module _ {O : Type 0} (m : Meaning O) where
  -- the type of a tree rests on the types of its own names alone
  pub type_agree_on : (t : Tree O) (types new : Types) → AllNames (λ x. types x ≡ new x) t → type_in m types t
      ≡ type_in m new t
  type_agree_on (Truth at b) types new h = refl
  type_agree_on (Number at d) types new h = refl
  type_agree_on (Name at x) types new h = h
  type_agree_on (One at o a) types new h = ap (sort_one m o) (type_agree_on a types new h)
  type_agree_on (Two at o a b) types new h =
      ap₂ (sort_two m o) (type_agree_on a types new h.0) (type_agree_on b types new h.1)
  type_agree_on (Three at o a b c) types new h =
      ap₂ {B = Option Ty →
      Option Ty} (λ r g. g r) (type_agree_on a types new h.0) (ap₂ (λ s t r. sort_three m o r s t) (type_agree_on b types new h.1) (type_agree_on c types new h.2))

  pub type_agree : (t : Tree O) (types new : Types) → ((x : List ℕ) → types x ≡ new x) → type_in m types t
      ≡ type_in m new t
  type_agree t types new h = type_agree_on t types new (names_all (λ x. types x ≡ new x) h t)

  pub type-renamed : (new : List ℕ → List ℕ) (types : Types) (t : Tree O) → type_in m types (renamed new t)
      ≡ type_in m (λ x. types (new x)) t
  type-renamed new types (Truth at b) = refl
  type-renamed new types (Number at d) = refl
  type-renamed new types (Name at x) = refl
  type-renamed new types (One at o a) = ap (sort_one m o) (type-renamed new types a)
  type-renamed new types (Two at o a b) = ap₂ (sort_two m o) (type-renamed new types a) (type-renamed new types b)
  type-renamed new types (Three at o a b c) =
      ap₂ {B = Option Ty →
      Option Ty} (λ r g. g r) (type-renamed new types a) (ap₂ (λ s t r. sort_three m o r s t) (type-renamed new types b) (type-renamed new types c))

  at_name : (at : ℕ) (x : List ℕ) (o : Option (Tree O)) (types : Types) →
      type_in m types (replaced (Name at x) o) ≡ type_through m o types (types x)
  at_name at x None types = refl
  at_name at x (Some b) types = refl

  -- to substitute is to give each replaced name its body's type
  pub type-substituted : (bodies : List ℕ → Option (Tree O)) (t : Tree O) (types : Types) →
      type_in m types (substituted bodies t) ≡ type_in m (λ x. type_through m (bodies x) types (types x)) t
  type-substituted f (Truth at b) types = refl
  type-substituted f (Number at d) types = refl
  type-substituted f (Name at x) types = at_name at x (f x) types
  type-substituted f (One at o a) types = ap (sort_one m o) (type-substituted f a types)
  type-substituted f (Two at o a b) types =
      ap₂ (sort_two m o) (type-substituted f a types) (type-substituted f b types)
  type-substituted f (Three at o a b c) types =
      ap₂ {B = Option Ty →
      Option Ty} (λ r g. g r) (type-substituted f a types) (ap₂ (λ s t r. sort_three m o r s t) (type-substituted f b types) (type-substituted f c types))

  at_body : (types new : Types) (write : Tree O → Tree O) → ((t : Tree O) → type_in m types (write t)
      ≡ type_in m new t) → (o : Option (Tree O)) (r : Option Ty) →
      type_through m (option_map write o) types r ≡ type_through m o new r
  at_body types new write h None r = refl
  at_body types new write h (Some b) r = h b

  pub type-written_out : (bodies : List ℕ → Option (Tree O)) (types : Types) (n : ℕ) (t : Tree O) →
      type_in m types (written_out bodies n t) ≡ type_in m (types_looked_up m bodies n types) t
  type-written_out bodies types zero t = refl
  type-written_out bodies types (suc n) t =
      type-substituted (λ x. option_map (written_out bodies n) (bodies x)) t types
      ∙ type_agree t _ _ (λ x. at_body types (types_looked_up m bodies n types) (written_out bodies n) (type-written_out bodies types n) (bodies x) (types x))

  pub type-renamed_written_out : (new : List ℕ → List ℕ) (types : Types) (bodies : List ℕ →
      Option (Tree O)) (n : ℕ) (t : Tree O) → type_in m types (renamed new (written_out bodies n t))
      ≡ type_in m (types_looked_up m bodies n (λ x. types (new x))) t
  type-renamed_written_out new types bodies n t =
      type-renamed new types (written_out bodies n t) ∙ type-written_out bodies (λ x. types (new x)) n t

  -- offsets do not matter
  pub type-bare : (t : Tree O) (types : Types) → type_in m types (bare t) ≡ type_in m types t
  type-bare (Truth at b) types = refl
  type-bare (Number at d) types = refl
  type-bare (Name at x) types = refl
  type-bare (One at o a) types = ap (sort_one m o) (type-bare a types)
  type-bare (Two at o a b) types = ap₂ (sort_two m o) (type-bare a types) (type-bare b types)
  type-bare (Three at o a b c) types =
      ap₂ {B = Option Ty →
      Option Ty} (λ r g. g r) (type-bare a types) (ap₂ (λ s t r. sort_three m o r s t) (type-bare b types) (type-bare c types))

  pub type_same : (t u : Tree O) → bare t ≡ bare u → (types : Types) → type_in m types t ≡ type_in m types u
  type_same t u h types = sym (type-bare t types) ∙ ap (λ e. type_in m types e) h ∙ type-bare u types

-- ---- what a type gives of the operands
module _ {O : Type 0} (m : Meaning O) where
  pub some_one : (o : O) (a : Option Ty) → IsTrue (is_some (sort_one m o a)) → IsTrue (is_some a)
  some_one o None h = h
  some_one o (Some a) h = refl

  pub some_two : (o : O) (a b : Option Ty) → IsTrue (is_some (sort_two m o a b)) → IsTrue (is_some a) × IsTrue (is_some b)
  some_two o None b h = absurd cc
  some_two o (Some a) None h = absurd cc
  some_two o (Some a) (Some b) h = (refl, refl)

  pub some_three : (o : O) (a b c : Option Ty) → IsTrue (is_some (sort_three m o a b c)) →
      IsTrue (is_some a) × IsTrue (is_some b) × IsTrue (is_some c)
  some_three o None b c h = absurd cc
  some_three o (Some a) None c h = absurd cc
  some_three o (Some a) (Some b) None h = absurd cc
  some_three o (Some a) (Some b) (Some c) h = (refl, refl, refl)

  -- each name of an expression that has a type has one
  pub names_typed : (types : Types) (e : Tree O) → IsTrue (is_some (type_in m types e)) → AllNames (λ x. IsTrue (is_some (types x))) e
  names_typed types (Truth at b) h = tt
  names_typed types (Number at d) h = tt
  names_typed types (Name at x) h = h
  names_typed types (One at o a) h = names_typed types a (some_one o (type_in m types a) h)
  names_typed types (Two at o a b) h =
      let s = some_two o (type_in m types a) (type_in m types b) h in
      (names_typed types a s.0, names_typed types b s.1)
  names_typed types (Three at o a b c) h =
      let s = some_three o (type_in m types a) (type_in m types b) (type_in m types c) h in
      (names_typed types a s.0, names_typed types b s.1, names_typed types c s.2)

  -- and each of its nodes has as many operands as its operator
  module _ (lawful : IsLawful m) where
    counted : (o : O) (a : Ty) (b c : Option Ty) (t : Option Ty) → m.sort o a b c ≡ t → IsTrue (is_some t) → m.arity o ≡ given_count b c
    counted o a b c None e h = absurd cc
    counted o a b c (Some t) e h = sym (lawful.counted o a b c t e)

    one_counted : (o : O) (a : Option Ty) → IsTrue (is_some (sort_one m o a)) → m.arity o ≡ 1
    one_counted o None h = absurd cc
    one_counted o (Some a) h = counted o a None None _ refl h

    two_counted : (o : O) (a b : Option Ty) → IsTrue (is_some (sort_two m o a b)) → m.arity o ≡ 2
    two_counted o None b h = absurd cc
    two_counted o (Some a) None h = absurd cc
    two_counted o (Some a) (Some b) h = counted o a (Some b) None _ refl h

    three_counted : (o : O) (a b c : Option Ty) → IsTrue (is_some (sort_three m o a b c)) → m.arity o ≡ 3
    three_counted o None b c h = absurd cc
    three_counted o (Some a) None c h = absurd cc
    three_counted o (Some a) (Some b) None h = absurd cc
    three_counted o (Some a) (Some b) (Some c) h = counted o a (Some b) (Some c) _ refl h

    pub typed_operands : (types : Types) (e : Tree O) → IsTrue (is_some (type_in m types e)) → HasOperands m.arity e
    typed_operands types (Truth at b) h = tt
    typed_operands types (Number at d) h = tt
    typed_operands types (Name at x) h = tt
    typed_operands types (One at o a) h =
        (one_counted o (type_in m types a) h, typed_operands types a (some_one o (type_in m types a) h))
    typed_operands types (Two at o a b) h =
        let s = some_two o (type_in m types a) (type_in m types b) h in
        (two_counted o (type_in m types a) (type_in m types b) h, typed_operands types a s.0, typed_operands types b s.1)
    typed_operands types (Three at o a b c) h =
        let s = some_three o (type_in m types a) (type_in m types b) (type_in m types c) h in
        (three_counted o (type_in m types a) (type_in m types b) (type_in m types c) h, typed_operands types a s.0, typed_operands types b s.1, typed_operands types c s.2)

-- ---- misfits of a tree without offsets
-- every offset is 0
abbrev pub noughts : List ℕ → List ℕ
noughts ns = map (λ n. 0) ns

pub misfit-bare : (at : ℕ) (b c : Bool) (o p : Option Ty) → b ≡ c → o ≡ p → misfit_at 0 b o ≡ noughts (misfit_at at c p)
misfit-bare at b c o p e h = ap₂ (misfit_at 0) e h ∙ same c p
  where
    same : (c : Bool) (p : Option Ty) → misfit_at 0 c p ≡ noughts (misfit_at at c p)
    same true None = refl
    same true (Some t) = refl
    same false None = refl
    same false (Some t) = refl
