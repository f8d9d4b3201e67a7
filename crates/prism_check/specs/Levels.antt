-- Whether some name of an expression is such a one where formulas are written out, looked up formula by formula.
use Rattle.std.specs.Prelude.{◌≡◌, ◌≤◌, ◌+◌, ℕ, zero, suc, List, [], ◌∷◌, map, length, Bool, true, false, not, ◌&&◌, ◌||◌, Option, Some, None, is_some, unwrap_or, if◌then◌else◌}
use Rattle.std.specs.List.{list_any}
use Rattle.std.specs.Borrow.{Bor}
use Rattle.process_core.specs.Ready.{Name}
use Rattle.prism_tree.specs.declared.syntax.PrismFormula.{PrismFormula}
use Rattle.prism_tree.specs.Syntax.{Expression, Formula, formula_of}
use Rattle.prism_check.specs.declared.lost_names.Reading.{Reading}
use Rattle.prism_check.specs.Demands.{Demand, fixed, varying, written, expression_of}
use Rattle.op_trees.specs.Names.{some_name}
use Rattle.prism_check.specs.Tables.{body_in, body_under, new_name}
use Rattle.name_rules.specs.Names.{has_name}
use Rattle.name_rules.specs.Uses.{used}

abbrev pub through : Option Expression → (Name → Bool) → Bool → Bool
through None is_such b = b
through (Some e) is_such b = some_name is_such e

-- a name, looked up to a depth
abbrev pub level : (Name → Option Expression) → (Name → Bool) → ℕ → Name → Bool
level bodies is_such zero x = is_such x
level bodies is_such (suc n) x = through (bodies x) (level bodies is_such n) (is_such x)

-- the name of a formula, or nothing known
abbrev pub lost_to : (Name → Option Expression) → (Name → Bool) → Name → Bool
lost_to bodies known y = is_some (bodies y) || not (known y)

-- a name that is no formula's is lost where it is renamed to a formula's name, or to nothing known
abbrev pub lost_by : (Name → Option Expression) → (Name → Bool) → (Name → Option Name) → Name → Bool
lost_by bodies known new x = not (is_some (bodies x)) && lost_to bodies known (unwrap_or (new x) x)

unfoldable pub lost_in : Reading → Name → Bool
lost_in r x = lost_by (body_under r.formulas.now) (has_name r.known.now) (new_name r.renaming.now) x

-- ---- demands
-- the names in a demand's expression
abbrev pub names_read : Demand → List Name
names_read d = used (Some (expression_of d))

-- the name that a demand writes is such a one
abbrev pub writes_such : (Name → Bool) → Demand → Bool
writes_such is_such (fixed w e) = false
writes_such is_such (varying w e) = false
writes_such is_such (written acts w) = is_such w.name.name

-- ---- names that are met along the bodies of formulas
-- how much the bodies of those formulas weigh that were not met
abbrev pub unmet : (Expression → ℕ) → (Name → Bool) → List Formula → ℕ
unmet weight met [] = 0
unmet weight met (f ∷ fs) = (if met f.name.name then 0 else weight f.body) + unmet weight met fs

-- how many formulas were not met, and how many names stand in their bodies
abbrev pub formulas_unmet : List PrismFormula → (Name → Bool) → ℕ
formulas_unmet fs met = unmet (λ e. 1) met (map formula_of fs)

abbrev pub names_unmet : List PrismFormula → (Name → Bool) → ℕ
names_unmet fs met = unmet (λ e. length (used (Some e))) met (map formula_of fs)

-- From some first names on, names were met, whose bodies were gone into, and others are left to look at.
pub record AreMet (fs : List PrismFormula) (lost : Name → Bool) (first : List Name) (met : Name → Bool) (left : List Name) : Type 0 where
  -- What lies so deep below one that is left lies no deeper below a first one than by as many as formulas were met.
  pub reached : (n m : ℕ) → n + length fs ≤ m + formulas_unmet fs met → list_any (level (body_in fs) lost n) left ≡ true →
      list_any (level (body_in fs) lost m) first ≡ true
  -- What is said of no name that was met or is left is said of no first one, and of no name in a body that was gone into.
  pub closed : (said : Name → Bool) → list_any said left ≡ false → ((x : Name) → met x ≡ true → said x ≡ false) →
      (list_any said first ≡ false) × ((x : Name) → met x ≡ true → list_any said (used (body_in fs x)) ≡ false)
  -- None that was met is lost.
  pub kept : (x : Name) → met x ≡ true → lost x ≡ false
