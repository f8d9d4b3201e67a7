-- Names that are met along the bodies of formulas, and those that are left to look at.
use Rattle.std.specs.Prelude.{ℕ, zero, suc, ◌+◌, ◌≤◌, ◌<◌, List, [], ◌∷◌, ◌++◌, map, length, Bool, true, false, not, ◌&&◌, ◌||◌, Option, Some, None, is_some, bytes_eq, unwrap_or, if◌then◌else◌}
use Rattle.std.specs.Option.{option_map}
use Rattle.std.specs.List.{find, list_any}
use Rattle.std.proofs.Common.{◌≡◌, refl, sym, ap, subst, ◌∙◌, arith}
use Rattle.std.proofs.lemmas.Bool.{or_parts}
use Rattle.std.specs.Borrow.{Bor}
use Rattle.std.proofs.lemmas.List.{length-append, length-map, map-append, nil_from_length}
use Rattle.std.proofs.lemmas.List.Folds.{list_any-append}
use Rattle.std.proofs.Math.Bool.{or-false}
use Rattle.basics.specs.Texts.{bytes_eq-self, bytes_eq-true}
use Rattle.name_rules.proofs.Leads.{any_weaker}
use Rattle.name_rules.proofs.Maps.{at}
use Rattle.name_rules.specs.Names.{add, no_name}
use Rattle.name_rules.specs.Uses.{used}
use Rattle.op_trees.specs.Names.{is_called}
use Rattle.process_core.specs.Ready.{Name}
use Rattle.prism_tree.specs.declared.syntax.PrismFormula.{PrismFormula}
use Rattle.prism_tree.specs.Syntax.{Expression, Formula, formula_of}
use Rattle.prism_check.specs.Tables.{body_in}
use Rattle.prism_check.specs.Levels.{through, level, lost_by, lost_to, unmet, formulas_unmet, names_unmet, AreMet}
use Rattle.prism_check.proofs.Levels.{any_used, deeper}

-- a lost name is no formula's
pub no_formula : (bodies : Name → Option Expression) (known : Name → Bool) (new : Name → Option Name) (x : Name) → lost_by bodies known new x ≡ true → bodies x ≡ None
no_formula bodies known new x h = by_body (bodies x) h
  where
    by_body : (o : Option Expression) → (not (is_some o) && lost_to bodies known (unwrap_or (new x) x)) ≡ true → o ≡ None
    by_body None s = refl
    by_body (Some e) s = absurd (cc)

-- ---- what was not met
module _ (weight : Expression → ℕ) (met more : Name → Bool) (still : (x : Name) → met x ≡ true → more x ≡ true) where
  counted : (w : ℕ) (b c : Bool) (m n : ℕ) → (b ≡ true → c ≡ true) → n ≤ m → (if c then 0 else w) + n ≤ (if b then 0 else w) + m
  counted w true true m n k l = omega (arith, l)
  counted w true false m n k l = absurd (let z = k refl in cc)
  counted w false true m n k l = omega (arith, l)
  counted w false false m n k l = omega (arith, l)

  fewer : (fs : List Formula) → unmet weight more fs ≤ unmet weight met fs
  fewer [] = omega arith
  fewer (f ∷ fs) = counted (weight f.body) (met f.name.name) (more f.name.name) (unmet weight met fs) (unmet weight more fs) (still f.name.name) (fewer fs)

  -- the first formula of a name that is met now
  counted_out : (w : ℕ) (b c : Bool) (m n : ℕ) → b ≡ false → c ≡ true → n ≤ m → w + ((if c then 0 else w) + n) ≤ (if b then 0 else w) + m
  counted_out w true c m n p q l = absurd cc
  counted_out w false true m n p q l = omega (arith, l)
  counted_out w false false m n p q l = absurd cc

  counted_in : (w v : ℕ) (b c : Bool) (m n : ℕ) → (b ≡ true → c ≡ true) → v + n ≤ m → v + ((if c then 0 else w) + n) ≤ (if b then 0 else w) + m
  counted_in w v true true m n k l = omega (arith, l)
  counted_in w v true false m n k l = absurd (let z = k refl in cc)
  counted_in w v false true m n k l = omega (arith, l)
  counted_in w v false false m n k l = omega (arith, l)

  less : (x : Name) (body : Expression) (fs : List Formula) → option_map (λ f. f.body) (find (λ f. is_called x f.name) fs) ≡ Some body → met x ≡ false → more x ≡ true →
      weight body + unmet weight more fs ≤ unmet weight met fs
  less x body [] found out now = absurd cc
  less x body (f ∷ fs) found out now = by_test (is_called x f.name) refl found (less x body fs)
    where
      by_test : (b : Bool) → is_called x f.name ≡ b → option_map (λ g. g.body) (if b then Some f else find (λ g. is_called x g.name) fs) ≡ Some body →
          (option_map (λ g. g.body) (find (λ g. is_called x g.name) fs) ≡ Some body → met x ≡ false → more x ≡ true → weight body + unmet weight more fs ≤ unmet weight met fs) →
          weight body + unmet weight more (f ∷ fs) ≤ unmet weight met (f ∷ fs)
      by_test true e s ih =
          let same = sym (bytes_eq-true f.name.name x e) in
          let is : f.body ≡ body = cc in
          subst (λ (b : Expression). weight b + unmet weight more (f ∷ fs) ≤ unmet weight met (f ∷ fs)) is
          (counted_out (weight f.body) (met f.name.name) (more f.name.name) (unmet weight met fs) (unmet weight more fs) (ap met (sym same) ∙ out) (ap more (sym same) ∙ now) (fewer fs))
      by_test false e s ih =
          counted_in (weight f.body) (weight body) (met f.name.name) (more f.name.name) (unmet weight met fs) (unmet weight more fs) (still f.name.name) (ih s out now)

-- at first no more formulas are met than there are
all_unmet : (met : Name → Bool) (fs : List Formula) → unmet (λ e. 1) met fs ≤ length fs
all_unmet met [] = omega arith
all_unmet met (f ∷ fs) = by_test (met f.name.name) (all_unmet met fs)
  where
    by_test : (b : Bool) → unmet (λ e. 1) met fs ≤ length fs → (if b then 0 else 1) + unmet (λ e. 1) met fs ≤ suc (length fs)
    by_test true k = omega (arith, k)
    by_test false k = omega (arith, k)

-- ---- names that are left, and a last one
module _ (p : Name → Bool) (left : List Name) (y : Name) where
  any_before : list_any p left ≡ true → list_any p (left ++ y ∷ []) ≡ true
  any_before h = list_any-append p left (y ∷ []) ∙ ap (λ b. b || list_any p (y ∷ [])) h

  either : (b c : Bool) → c ≡ true → (b || (c || false)) ≡ true
  either true c e = refl
  either false c e = or-false c ∙ e

  any_last : p y ≡ true → list_any p (left ++ y ∷ []) ≡ true
  any_last h = list_any-append p left (y ∷ []) ∙ either (list_any p left) (p y) h

  neither : (b c : Bool) → b ≡ false → c ≡ false → (b || (c || false)) ≡ false
  neither b c d e = ap (λ z. z || (c || false)) d ∙ or-false c ∙ e

  none_last : list_any p left ≡ false → p y ≡ false → list_any p (left ++ y ∷ []) ≡ false
  none_last h k = list_any-append p left (y ∷ []) ∙ neither (list_any p left) (p y) h k

-- ---- one name more
module _ (y : Name) (met more : Name → Bool) (is : more ≡ add met y) where
  is_met : more y ≡ true
  is_met = at is y ∙ ap (λ b. b || met y) (bytes_eq-self y)

  still_met : (x : Name) → met x ≡ true → more x ≡ true
  still_met x e = at is x ∙ by_test (bytes_eq y x) e
    where
      by_test : (b : Bool) → met x ≡ true → (b || met x) ≡ true
      by_test true k = refl
      by_test false k = k

  -- what holds of this name and of those before holds of all
  of_met : (P : Name → Type 0) → P y → ((x : Name) → met x ≡ true → P x) → (x : Name) → more x ≡ true → P x
  of_met P now before x e = by_test (bytes_eq y x) refl (sym (at is x) ∙ e)
    where
      by_test : (b : Bool) → bytes_eq y x ≡ b → (b || met x) ≡ true → P x
      by_test true k h = subst P (bytes_eq-true y x k) now
      by_test false k h = before x h

abbrev texts : List (Bor Name) → List Name
texts ys = map (λ s. s.now) ys

module _ (fs : List PrismFormula) (lost : Name → Bool) (first : List Name) where
  pub none_met : ((x : Name) → lost x ≡ true → body_in fs x ≡ None) → (met : Name → Bool) → met ≡ no_name → AreMet fs lost first met first
  none_met no_body met none = record {
    reached = λ n m l h.
        let most = all_unmet met (map formula_of fs) in
        let size = length-map fs formula_of in
        any_weaker (level (body_in fs) lost n) (level (body_in fs) lost m) (deeper (body_in fs) lost no_body n m (omega (arith, most, size, l))) first h;
    closed = λ said h k. (h, λ x e. absurd (let z = at none x in cc));
    kept = λ x e. absurd (let z = at none x in cc);
  }

  -- the last name that is left is looked at
  module _ (met : Name → Bool) (all rest : List (Bor Name)) (one : Bor Name) (last : all ≡ rest ++ one ∷ []) (h : AreMet fs lost first met (texts all)) where
    abbrev left : List Name
    left = texts rest

    abbrev y : Name
    y = one.now

    in_all : texts all ≡ left ++ y ∷ []
    in_all = ap texts last ∙ map-append (λ s. s.now) rest (one ∷ [])

    was_any : (p : Name → Bool) → list_any p (left ++ y ∷ []) ≡ true → list_any p (texts all) ≡ true
    was_any p s = ap (list_any p) in_all ∙ s

    was_none : (p : Name → Bool) → list_any p left ≡ false → p y ≡ false → list_any p (texts all) ≡ false
    was_none p s k = ap (list_any p) in_all ∙ none_last p left y s k

    one_more : length (texts all) ≡ length left + 1
    one_more = ap length in_all ∙ length-append left (y ∷ [])

    pub lost_one : lost y ≡ true → list_any (level (body_in fs) lost (length fs)) first ≡ true
    lost_one e = h.reached 0 (length fs) (omega arith) (was_any lost (any_last lost left y e))

    pub met_before : met y ≡ true → AreMet fs lost first met left
    met_before e = record {
      reached = λ n m l s. h.reached n m l (was_any (level (body_in fs) lost n) (any_before (level (body_in fs) lost n) left y s));
      closed = λ said none k. h.closed said (was_none said none (k y e)) k;
      kept = h.kept;
    }

    pub fewer_left : names_unmet fs met + length left < names_unmet fs met + length (texts all)
    fewer_left = let before = one_more in omega (arith, before)

    module _ (more : Name → Bool) (new : List Name) (is : more ≡ add met y) (out : met y ≡ false) (adds : new ≡ left ++ used (body_in fs y)) where
      still : (x : Name) → met x ≡ true → more x ≡ true
      still = still_met y met more is

      -- a name in its body lies one step deeper
      below : (n m : ℕ) → n + length fs ≤ m + formulas_unmet fs more → (o : Option Expression) → body_in fs y ≡ o → list_any (level (body_in fs) lost n) (used o) ≡ true →
          list_any (level (body_in fs) lost m) first ≡ true
      below n m l None e s = absurd cc
      below n m l (Some b) e s =
          let one_less = less (λ e. 1) met more still y b (map formula_of fs) e out (is_met y met more is) in
          h.reached (suc n) m (omega (arith, one_less, l))
          (was_any (level (body_in fs) lost (suc n))
          (any_last (level (body_in fs) lost (suc n)) left y
          (ap (λ o. through o (level (body_in fs) lost n) (lost y)) e ∙ sym (any_used (level (body_in fs) lost n) b) ∙ s)))

      now_any : (p : Name → Bool) → list_any p new ≡ (list_any p left || list_any p (used (body_in fs y)))
      now_any p = ap (list_any p) adds ∙ list_any-append p left (used (body_in fs y))

      pub met_now : lost y ≡ false → AreMet fs lost first more new
      met_now k = record {
        reached = λ n m l s. by_test n m l (list_any (level (body_in fs) lost n) left) refl (sym (now_any (level (body_in fs) lost n)) ∙ s);
        closed = λ said none of_more.
            let parts = or_parts (list_any said left) (list_any said (used (body_in fs y))) (sym (now_any said) ∙ none) in
            let r = h.closed said (was_none said parts.0 (of_more y (is_met y met more is))) (λ x e. of_more x (still x e)) in
            (r.0, of_met y met more is (λ x. list_any said (used (body_in fs x)) ≡ false) parts.1 r.1);
        kept = of_met y met more is (λ x. lost x ≡ false) k h.kept;
      }
        where
          by_test : (n m : ℕ) → n + length fs ≤ m + formulas_unmet fs more → (b : Bool) → list_any (level (body_in fs) lost n) left ≡ b →
              (b || list_any (level (body_in fs) lost n) (used (body_in fs y))) ≡ true → list_any (level (body_in fs) lost m) first ≡ true
          by_test n m l true e s =
              let not_more = fewer (λ e. 1) met more still (map formula_of fs) in
              h.reached n m (omega (arith, not_more, l)) (was_any (level (body_in fs) lost n) (any_before (level (body_in fs) lost n) left y e))
          by_test n m l false e s = below n m l (body_in fs y) refl s

      -- the names that are left and those in bodies that were not gone into get fewer
      names_fewer : (o : Option Expression) → body_in fs y ≡ o → names_unmet fs more + length (used o) ≤ names_unmet fs met
      names_fewer None e = let not_more = fewer (λ b. length (used (Some b))) met more still (map formula_of fs) in omega (arith, not_more)
      names_fewer (Some b) e =
          let gone = less (λ c. length (used (Some c))) met more still y b (map formula_of fs) e out (is_met y met more is) in
          omega (arith, gone)

      pub fewer_names : names_unmet fs more + length new < names_unmet fs met + length (texts all)
      fewer_names =
          let gone = names_fewer (body_in fs y) refl in
          let now = ap length adds ∙ length-append left (used (body_in fs y)) in
          let before = one_more in
          omega (arith, gone, now, before)

  -- where nothing is left
  module _ (met : Name → Bool) (left : List (Bor Name)) (none : length left ≡ 0) (h : AreMet fs lost first met (texts left)) where
    nothing_left : (p : Name → Bool) → list_any p (texts left) ≡ false
    nothing_left p = ap (λ ys. list_any p (texts ys)) (nil_from_length left none)

    none_at : (n : ℕ) (x : Name) → met x ≡ true → level (body_in fs) lost n x ≡ false
    none_at zero x e = h.kept x e
    none_at (suc n) x e = by_body (body_in fs x) ((h.closed (level (body_in fs) lost n) (nothing_left (level (body_in fs) lost n)) (none_at n)).1 x e)
      where
        by_body : (o : Option Expression) → list_any (level (body_in fs) lost n) (used o) ≡ false → through o (level (body_in fs) lost n) (lost x) ≡ false
        by_body None k = h.kept x e
        by_body (Some b) k = sym (any_used (level (body_in fs) lost n) b) ∙ k

    pub all_met : list_any (level (body_in fs) lost (length fs)) first ≡ false
    all_met = let said = level (body_in fs) lost (length fs) in (h.closed said (nothing_left said) (none_at (length fs))).0
