-- Names of expressions whose formulas are written out, looked up formula by formula.
use Rattle.std.specs.Prelude.{ℕ, zero, suc, ◌≤◌, List, [], ◌∷◌, ◌++◌, map, Bool, true, false, ◌||◌, Option, Some, None}
use Rattle.std.specs.Option.{option_map}
use Rattle.std.specs.List.{flat_map, list_any}
use Rattle.std.proofs.Common.{◌≡◌, refl, sym, ap, ap₂, ◌∙◌, arith}
use Rattle.std.proofs.lemmas.List.{map-append}
use Rattle.std.proofs.lemmas.List.Folds.{list_any-append}
use Rattle.std.proofs.Math.Bool.{or-false}
use Rattle.std.proofs.Math.Path.{fun_ext}
use Rattle.op_trees.specs.Tree.{Truth, Number, Name as At, One, Two, Three, replaced, substituted, written_out}
use Rattle.op_trees.specs.Names.{some_name, names_of}
use Rattle.name_rules.specs.Uses.{used}
use Rattle.name_rules.proofs.Leads.{any_weaker}
use Rattle.process_core.specs.Ready.{Name}
use Rattle.prism_tree.specs.Syntax.{Expression}
use Rattle.prism_check.specs.Demands.{Demand, fixed, varying, written, expression_of}
use Rattle.prism_check.specs.NameFaults.{some_used}
use Rattle.prism_check.specs.Levels.{through, level, names_read, writes_such}

-- ---- where formulas are written out
at_name : (is_such : Name → Bool) (at : ℕ) (x : Name) (o : Option Expression) → some_name is_such (replaced (At at x) o) ≡ through o is_such (is_such x)
at_name is_such at x None = refl
at_name is_such at x (Some e) = refl

in_substituted : (is_such : Name → Bool) (f : Name → Option Expression) (e : Expression) →
    some_name is_such (substituted f e) ≡ some_name (λ x. through (f x) is_such (is_such x)) e
in_substituted is_such f (Truth at b) = refl
in_substituted is_such f (Number at d) = refl
in_substituted is_such f (At at x) = at_name is_such at x (f x)
in_substituted is_such f (One at o a) = in_substituted is_such f a
in_substituted is_such f (Two at o a b) = ap₂ (λ p q. p || q) (in_substituted is_such f a) (in_substituted is_such f b)
in_substituted is_such f (Three at o a b c) =
    ap₂ (λ p q. p || q) (in_substituted is_such f a) (ap₂ (λ p q. p || q) (in_substituted is_such f b) (in_substituted is_such f c))

in_body : (is_such said : Name → Bool) (w : Expression → Expression) → ((e : Expression) → some_name is_such (w e) ≡ some_name said e) →
    (o : Option Expression) (b : Bool) → through (option_map w o) is_such b ≡ through o said b
in_body is_such said w h None b = refl
in_body is_such said w h (Some e) b = h e

pub in_written_out : (bodies : Name → Option Expression) (is_such : Name → Bool) (n : ℕ) (e : Expression) →
    some_name is_such (written_out bodies n e) ≡ some_name (level bodies is_such n) e
in_written_out bodies is_such zero e = refl
in_written_out bodies is_such (suc n) e =
    in_substituted is_such (λ x. option_map (written_out bodies n) (bodies x)) e
    ∙ ap (λ f. some_name f e) (fun_ext (λ x. in_body is_such (level bodies is_such n) (written_out bodies n) (in_written_out bodies is_such n) (bodies x) (is_such x)))

-- ---- names as they are listed
pub any_used : (p : Name → Bool) (e : Expression) → list_any p (used (Some e)) ≡ some_name p e
any_used p (Truth at b) = refl
any_used p (Number at d) = refl
any_used p (At at x) = or-false (p x)
any_used p (One at o a) = any_used p a
any_used p (Two at o a b) =
    ap (list_any p) (map-append (λ n. n.name) (names_of a) (names_of b)) ∙ list_any-append p (used (Some a)) (used (Some b))
    ∙ ap₂ (λ x y. x || y) (any_used p a) (any_used p b)
any_used p (Three at o a b c) =
    ap (list_any p) (map-append (λ n. n.name) (names_of a) (names_of b ++ names_of c))
    ∙ list_any-append p (used (Some a)) (map (λ n. n.name) (names_of b ++ names_of c))
    ∙ ap₂ (λ x y. x || y) (any_used p a)
    (ap (list_any p) (map-append (λ n. n.name) (names_of b) (names_of c)) ∙ list_any-append p (used (Some b)) (used (Some c))
    ∙ ap₂ (λ x y. x || y) (any_used p b) (any_used p c))

-- ---- demands: a name that is written, and the names of an expression
module _ (bodies : Name → Option Expression) (is_such : Name → Bool) (n : ℕ) where
  read_written_out : (e : Expression) → some_name is_such (written_out bodies n e) ≡ list_any (level bodies is_such n) (used (Some e))
  read_written_out e = in_written_out bodies is_such n e ∙ sym (any_used (level bodies is_such n) e)

  demand_written_out : (d : Demand) → some_used is_such (written_out bodies n) d ≡ (writes_such is_such d || list_any (level bodies is_such n) (names_read d))
  demand_written_out (fixed w e) = read_written_out e
  demand_written_out (varying w e) = read_written_out e
  demand_written_out (written acts w) = ap (λ b. is_such w.name.name || b) (read_written_out w.value)

  or_across : (a b c d : Bool) → ((a || b) || (c || d)) ≡ ((a || c) || (b || d))
  or_across true b c d = refl
  or_across false true true d = refl
  or_across false true false d = refl
  or_across false false c d = refl

  pub demands_written_out : (ds : List Demand) →
      list_any (some_used is_such (written_out bodies n)) ds ≡ (list_any (writes_such is_such) ds || list_any (level bodies is_such n) (flat_map names_read ds))
  demands_written_out [] = refl
  demands_written_out (d ∷ ds) =
      let p = level bodies is_such n in
      ap₂ (λ x y. x || y) (demand_written_out d) (demands_written_out ds)
      ∙ or_across (writes_such is_such d) (list_any p (names_read d)) (list_any (writes_such is_such) ds) (list_any p (flat_map names_read ds))
      ∙ ap (λ b. (writes_such is_such d || list_any (writes_such is_such) ds) || b) (sym (list_any-append p (names_read d) (flat_map names_read ds)))

-- ---- depths
at_any_depth : (bodies : Name → Option Expression) (is_such : Name → Bool) (k : ℕ) (x : Name) → bodies x ≡ None → level bodies is_such k x ≡ is_such x
at_any_depth bodies is_such zero x e = refl
at_any_depth bodies is_such (suc k) x e = ap (λ o. through o (level bodies is_such k) (is_such x)) e

-- what is seen of an expression is seen where more names are such ones
some_weaker : (p q : Name → Bool) → ((x : Name) → p x ≡ true → q x ≡ true) → (e : Expression) → some_name p e ≡ true → some_name q e ≡ true
some_weaker p q h e s = sym (any_used q e) ∙ any_weaker p q h (used (Some e)) (any_used p e ∙ s)

-- where no formula's name is such a one, more are seen in more depth
module _ (bodies : Name → Option Expression) (is_such : Name → Bool) (no_formula : (x : Name) → is_such x ≡ true → bodies x ≡ None) where
  pub deeper : (n m : ℕ) → n ≤ m → (x : Name) → level bodies is_such n x ≡ true → level bodies is_such m x ≡ true
  deeper zero m le x h = at_any_depth bodies is_such m x (no_formula x h) ∙ h
  deeper (suc n) zero le x h = absurd (omega arith)
  deeper (suc n) (suc m) le x h = by_body (bodies x) (deeper n m (omega arith)) h
    where
      by_body : (o : Option Expression) → ((y : Name) → level bodies is_such n y ≡ true → level bodies is_such m y ≡ true) →
          through o (level bodies is_such n) (is_such x) ≡ true → through o (level bodies is_such m) (is_such x) ≡ true
      by_body None ih s = s
      by_body (Some e) ih s = some_weaker (level bodies is_such n) (level bodies is_such m) ih e s
