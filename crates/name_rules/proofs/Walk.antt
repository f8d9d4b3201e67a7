-- What cannot be placed leads round in a circle.
use Rattle.std.specs.Prelude.{ℕ, zero, suc, ◌+◌, ◌<◌, ◌≤◌, List, [], ◌∷◌, length, get_or, Bool, true, false, ◌&&◌, ◌||◌, bytes_eq, nat_lt}
use Rattle.std.specs.List.{list_any}
use Rattle.std.proofs.Common.{◌≡◌, refl, sym, ap, ap₂, subst, ◌∙◌, arith}
use Rattle.std.proofs.lemmas.Bool.Decides.{nat_tests}
use Rattle.std.proofs.lemmas.Slice.Eq.{bytes_eq-Decides}
use Rattle.std.proofs.lemmas.Bool.{and_parts}
use Rattle.basics.specs.Texts.{bytes_eq-self}
use Rattle.name_rules.specs.Names.{Name}
use Rattle.op_trees.specs.Names.{is_called}
use Rattle.name_rules.specs.Circles.{Declared, leads_to, is_circular}
use Rattle.name_rules.specs.Circles.{nothing_declared, declared_at}
use Rattle.name_rules.specs.Rounds.{some_use, is_placed, waiting, others, IsStuck}
use Rattle.name_rules.proofs.Leads.{any_true, any_at, any_weaker, called_same, leads_by, steps_to, leads_in, others_less, others_most, uses_such}
use Rattle.name_rules.proofs.Placed.{one_waits}

-- a name of a list
abbrev among : List Name → Name → Bool
among ns x = list_any (λ y. bytes_eq y x) ns

or_right : (a : Bool) {b : Bool} → b ≡ true → (a || b) ≡ true
or_right true e = refl
or_right false e = e

module _ (ds : List Declared) (none : (i : ℕ) → i < length ds → is_circular ds (declared_at ds i) ≡ false) where
  -- what is declared under one name uses another
  abbrev Uses : Name → Name → Type 0
  Uses p w = uses_such ds (λ u. bytes_eq u w) p ≡ true

  -- each name of the list uses the one before it, and the first uses this one
  abbrev IsPath : Name → List Name → Type 0
  IsPath w [] = Unit {0}
  IsPath w (p ∷ ps) = Uses p w × IsPath p ps

  -- what uses a name leads where it leads
  passes : (n : ℕ) (w y : Name) → leads_to ds n w y ≡ true → (u : Name) → bytes_eq u w ≡ true → leads_to ds n u y ≡ true
  passes n w y h u e = subst (λ v. leads_to ds n v y ≡ true) (sym ((bytes_eq-Decides u w).0 e)) h

  uses_then : (n : ℕ) (p w y : Name) → Uses p w → leads_to ds n w y ≡ true →
      (i : ℕ) × (i < length ds) × (is_called p (declared_at ds i).name ≡ true) × (some_use (leads_by ds n y) (declared_at ds i) ≡ true)
  uses_then n p w y u h =
      let r = any_at (λ d. is_called p d.name && some_use (λ v. bytes_eq v w) d) nothing_declared ds u in
      let k = and_parts (is_called p (declared_at ds r.0).name) (some_use (λ v. bytes_eq v w) (declared_at ds r.0)) r.2 in
      (r.0, r.1, k.0, any_weaker (λ v. bytes_eq v w) (leads_by ds n y) (passes n w y h) (declared_at ds r.0).uses k.1)

  -- a name of the path that is reached again is in a circle
  module _ (y : Name) where
    -- the name itself comes back
    comes_back : (n : ℕ) (v w : Name) → leads_to ds n v y ≡ true → Uses w v → w ≡ y → n ≤ length ds → ⊥
    comes_back n v w h u e m =
        let r = uses_then n w v y u h in
        let here : (declared_at ds r.0).name.name ≡ y = called_same (declared_at ds r.0) w r.2 ∙ e in
        let circle =
        any_weaker (leads_by ds n y) (leads_by ds (length ds) (declared_at ds r.0).name.name)
        (λ z t. subst (λ x. leads_to ds (length ds) z x ≡ true) (sym here) (leads_in ds n (length ds) z y m t)) (declared_at ds r.0).uses r.3 in
        let apart = none r.0 r.1 in
        let no : true ≡ false = sym circle ∙ apart in
        cc

    further : (n : ℕ) (v w : Name) → leads_to ds n v y ≡ true → Uses w v → leads_to ds (suc n) w y ≡ true
    further n v w h u = let r = uses_then n w v y u h in steps_to ds n w y r.0 r.1 r.2 r.3

    closes : (ps : List Name) (n : ℕ) (v w : Name) → leads_to ds n v y ≡ true → Uses w v → IsPath w ps → among (w ∷ ps) y ≡ true → n + length ps ≤ length ds → ⊥
    closes [] n v w h u path a l = by_test (bytes_eq w y) refl a
      where
        by_test : (b : Bool) → bytes_eq w y ≡ b → (b || false) ≡ true → ⊥
        by_test true e k = comes_back n v w h u ((bytes_eq-Decides w y).0 e) (omega (arith, l))
        by_test false e k = cc
    closes (p ∷ ps) n v w h u path a l = by_test (bytes_eq w y) refl a (closes ps (suc n) w p (further n v w h u) path.0 path.1)
      where
        by_test : (b : Bool) → bytes_eq w y ≡ b → (b || among (p ∷ ps) y) ≡ true → (among (p ∷ ps) y ≡ true → suc n + length ps ≤ length ds → ⊥) → ⊥
        by_test true e k ih = comes_back n v w h u ((bytes_eq-Decides w y).0 e) (omega (arith, l))
        by_test false e k ih = ih k (omega (arith, l))

  module _ (left : Name → ℕ) (placed : List Bool) (size : length placed ≡ length ds) (counts : (x : Name) → left x ≡ waiting ds placed x) (stuck : IsStuck ds left placed) where
    -- from a declaration that is left there is a way on, to one that is left: back to the path, or to one more
    step : (ps : List Name) (i : ℕ) → i < length ds → is_placed placed i ≡ false → IsPath (declared_at ds i).name.name ps → length ps ≤ length ds →
        ((j : ℕ) → j < length ds → is_placed placed j ≡ false → IsPath (declared_at ds j).name.name ((declared_at ds i).name.name ∷ ps) →
        suc (others (among ((declared_at ds j).name.name ∷ (declared_at ds i).name.name ∷ ps)) ds) ≤ others (among ((declared_at ds i).name.name ∷ ps)) ds → ⊥) → ⊥
    step ps i l out path room on =
        let d = declared_at ds i in
        let u = any_at (λ z. nat_lt 0 (left z)) [] d.uses (stuck i l out) in
        let z = get_or d.uses u.0 [] in
        let used : Uses d.name.name z =
        any_true (λ e. is_called d.name.name e.name && some_use (λ v. bytes_eq v z) e) nothing_declared ds i l
        (ap₂ (λ a b. a && b) (bytes_eq-self d.name.name) (any_true (λ v. bytes_eq v z) [] d.uses u.0 u.1 (bytes_eq-self z))) in
        let waits : 0 < waiting ds placed z = (let c = counts z in let t = u.2 in let k : 0 < left z = grind (arith, nat_tests) in omega (arith, c, k)) in
        let s = one_waits ds placed z size waits in
        let same = called_same (declared_at ds s.0) z s.2 in
        by_test z (among (d.name.name ∷ ps) z) refl used s.0 s.1 s.3 same
      where
        w : Name
        w = (declared_at ds i).name.name

        by_test : (z : Name) (b : Bool) → among (w ∷ ps) z ≡ b → Uses w z → (j : ℕ) → j < length ds → is_placed placed j ≡ false → (declared_at ds j).name.name ≡ z → ⊥
        by_test z true a used j lj oj same = closes z ps 0 z w (bytes_eq-self z) used path a (omega (arith, room))
        by_test z false a used j lj oj same =
            let y = (declared_at ds j).name.name in
            on j lj oj (subst (Uses w) (sym same) used, path)
            (others_less ds (among (w ∷ ps)) (among (y ∷ w ∷ ps)) j ds lj (ap (among (w ∷ ps)) same ∙ a) (ap (λ b. b || among (w ∷ ps) y) (bytes_eq-self y)) (λ x e. or_right (bytes_eq y x) e))

    -- until there is no other
    walks : (n : ℕ) (ps : List Name) (i : ℕ) → i < length ds → is_placed placed i ≡ false → IsPath (declared_at ds i).name.name ps →
        others (among ((declared_at ds i).name.name ∷ ps)) ds ≤ n → length ps + n ≤ length ds → ⊥
    walks zero ps i l out path few room = step ps i l out path (omega (arith, room)) (λ j lj oj p fewer. absurd (omega (arith, few, fewer)))
    walks (suc n) ps i l out path few room =
        step ps i l out path (omega (arith, room))
        (λ j lj oj p fewer. walks n ((declared_at ds i).name.name ∷ ps) j lj oj p (omega (arith, few, fewer)) (omega (arith, room)))

    -- so all are placed
    pub none_left : (i : ℕ) → i < length ds → is_placed placed i ≡ true
    none_left i l = by_test (is_placed placed i) refl
      where
        by_test : (b : Bool) → is_placed placed i ≡ b → b ≡ true
        by_test true e = refl
        by_test false e =
            absurd (walks (length ds) [] i l e tt (others_most (among ((declared_at ds i).name.name ∷ [])) ds) (omega arith))
