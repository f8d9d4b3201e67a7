-- A file without circles has none once it is written out.
use Rattle.std.specs.Prelude.{◌≡◌, ℕ, zero, suc, ◌+◌, ◌≤◌, List, [], ◌∷◌, ◌++◌, map, length, Bool, true, false, ◌||◌, Option, Some, None, cond, bytes_eq, ◌⊎◌}
use Rattle.std.specs.List.{flat_map, filter, find, list_any, AllByRecursion as Each}
use Rattle.std.specs.Option.{option_map}
use Rattle.std.proofs.Common.{refl, sym, ap, ap₂, ◌∙◌, inl, inr, subst, arith}
use Rattle.std.proofs.Math.Path.{fun_ext}
use native.Mathlib.Decide.{ℕ_discrete}
use Rattle.std.proofs.lemmas.Slice.Eq.{bytes_eq-Decides}
use Rattle.std.proofs.lemmas.List.Folds.{list_any-append}
use Rattle.std.proofs.Math.Bool.{or-false}
use Rattle.std.proofs.lemmas.Bool.{or_parts}
use Rattle.basics.specs.Members.{any_weaker}
use Rattle.basics.specs.Each.{each_then, each_map, map_each, each_join, each_parts, empty_each, each_empty, none_each, each_none, any_map}
use Rattle.bridge_io.specs.declared.reason.Reason.TheVariants.{Cycle}
use Rattle.op_trees.specs.Tree.{AllNames}
use Rattle.op_trees.specs.Names.{names_of, is_called}
use Rattle.op_trees.specs.NameLaws.{names_renamed}
use Rattle.basics.specs.Options.{if_some, IfAny}
use Rattle.process_core.specs.Ready.{Name}
use Rattle.prism_tree.specs.Syntax.{Expression, Const, Formula, File}
use Rattle.prism_flat.specs.Names.{formula_body, unchanged}
use Rattle.prism_flat.specs.Flat.{flat_expression, flat_constant, flat}
use Rattle.prism_flat.specs.Order.{whole}
use Rattle.name_rules.specs.Uses.{used}
use Rattle.name_rules.specs.Circles.{Declared, uses_of, leads_to, is_circular, circular}
use Rattle.name_rules.proofs.Plain.{no_fault, fault_none}
use Rattle.prism_check.specs.NameFaults.{declared_const, declared_formula, declarations, circles}
use Rattle.prism_check.proofs.NamesIn.{listed_names, names_listed, names_written_out}

-- ---- how many of what is declared have names that pass a test
abbrev flags : (Name → Bool) → List Declared → ℕ
flags p [] = 0
flags p (d ∷ ds) = cond (p d.name.name) 1 0 + flags p ds

all_flags : (p : Name → Bool) (ds : List Declared) → flags p ds ≤ length ds
all_flags p [] = omega arith
all_flags p (d ∷ ds) = by_test (p d.name.name) (all_flags p ds)
  where
    by_test : (b : Bool) → flags p ds ≤ length ds → cond b 1 0 + flags p ds ≤ suc (length ds)
    by_test true h = omega arith
    by_test false h = omega arith

each_flag : (p : Name → Bool) (ds : List Declared) → length ds ≤ flags p ds → Each (λ d. p d.name.name ≡ true) ds
each_flag p [] h = tt
each_flag p (d ∷ ds) h = by_test (p d.name.name) refl (all_flags p ds) h (each_flag p ds)
  where
    by_test : (b : Bool) → p d.name.name ≡ b → flags p ds ≤ length ds → suc (length ds) ≤ cond b 1 0 + flags p ds →
        (length ds ≤ flags p ds → Each (λ e. p e.name.name ≡ true) ds) → Each (λ e. p e.name.name ≡ true) (d ∷ ds)
    by_test true e m k ih = (e, ih (omega arith))
    by_test false e m k ih = absurd (omega arith)

module _ (p q : Name → Bool) (more : (x : Name) → p x ≡ true → q x ≡ true) where
  more_flags : (ds : List Declared) → flags p ds ≤ flags q ds
  more_flags [] = omega arith
  more_flags (d ∷ ds) = by_test (p d.name.name) (q d.name.name) refl refl (more_flags ds)
    where
      by_test : (a b : Bool) → p d.name.name ≡ a → q d.name.name ≡ b → flags p ds ≤ flags q ds → cond a 1 0 + flags p ds ≤ cond b 1 0 + flags q ds
      by_test true true e f h = omega arith
      by_test true false e f h = absurd (let g = more d.name.name e in cc)
      by_test false true e f h = omega arith
      by_test false false e f h = omega arith

  -- tests that as many pass are passed by the same
  same_flags : (ds : List Declared) → flags q ds ≤ flags p ds → Each (λ d. q d.name.name ≡ p d.name.name) ds
  same_flags [] h = tt
  same_flags (d ∷ ds) h = by_test (p d.name.name) (q d.name.name) refl refl (more_flags ds) h (same_flags ds)
    where
      by_test : (a b : Bool) → p d.name.name ≡ a → q d.name.name ≡ b → flags p ds ≤ flags q ds → cond b 1 0 + flags q ds ≤ cond a 1 0 + flags p ds →
          (flags q ds ≤ flags p ds → Each (λ e. q e.name.name ≡ p e.name.name) ds) → Each (λ e. q e.name.name ≡ p e.name.name) (d ∷ ds)
      by_test true true e f m k ih = (f ∙ sym e, ih (omega arith))
      by_test true false e f m k ih = absurd (let g = more d.name.name e in cc)
      by_test false true e f m k ih = absurd (omega arith)
      by_test false false e f m k ih = (f ∙ sym e, ih (omega arith))

-- ---- what leads to a name does so in as many steps as there are declarations
-- what holds of each name that is declared holds of each under which anything is
declared_all : (P : Name → Type 0) (ds : List Declared) → Each (λ d. P d.name.name) ds → (x : Name) → (uses_of ds x ≡ []) ⊎ P x
declared_all P [] h x = inl refl
declared_all P (d ∷ ds) h x = by_test (bytes_eq d.name.name x) refl (declared_all P ds h.1 x)
  where
    by_test : (b : Bool) → bytes_eq d.name.name x ≡ b → (uses_of ds x ≡ []) ⊎ P x →
        (flat_map (λ e. e.uses) (cond b (d ∷ filter (λ e. is_called x e.name) ds) (filter (λ e. is_called x e.name) ds)) ≡ []) ⊎ P x
    by_test true e r = inr (subst P ((bytes_eq-Decides d.name.name x).0 e) h.0)
    by_test false e r = r

module _ (ds : List Declared) (y : Name) where
  abbrev leads : ℕ → Name → Bool
  leads n x = leads_to ds n x y

  leads_itself : (x : Name) → uses_of ds x ≡ [] → (n : ℕ) → leads n x ≡ bytes_eq x y
  leads_itself x e zero = refl
  leads_itself x e (suc n) = ap (λ zs. bytes_eq x y || list_any (leads n) zs) e ∙ or-false (bytes_eq x y)

  rises : (n : ℕ) (x : Name) → leads n x ≡ true → leads (suc n) x ≡ true
  rises zero x e = ap (λ b. b || list_any (leads zero) (uses_of ds x)) e
  rises (suc n) x e = by_test (bytes_eq x y) (any_weaker (leads n) (leads (suc n)) (rises n) (uses_of ds x)) e
    where
      by_test : (b : Bool) → (list_any (leads n) (uses_of ds x) ≡ true → list_any (leads (suc n)) (uses_of ds x) ≡ true) →
          (b || list_any (leads n) (uses_of ds x)) ≡ true → (b || list_any (leads (suc n)) (uses_of ds x)) ≡ true
      by_test true h k = refl
      by_test false h k = h k

  -- one step more changes nothing
  abbrev IsSettled : ℕ → Type 0
  IsSettled n = (x : Name) → leads (suc n) x ≡ leads n x

  settled_next : (n : ℕ) → IsSettled n → IsSettled (suc n)
  settled_next n h x = ap (λ f. bytes_eq x y || list_any f (uses_of ds x)) (fun_ext h)

  settled_by : (n : ℕ) → Each (λ d. leads (suc n) d.name.name ≡ leads n d.name.name) ds → IsSettled n
  settled_by n h x = elim (declared_all (λ z. leads (suc n) z ≡ leads n z) ds h x) [
    | inl e ↦ leads_itself x e (suc n) ∙ sym (leads_itself x e n)
    | inr r ↦ r
  ]

  progress : (n : ℕ) → IsSettled n ⊎ (n ≤ flags (leads n) ds)
  progress zero = inr (omega arith)
  progress (suc n) = elim (progress n) [
    | inl s ↦ inl (settled_next n s)
    | inr h ↦ by_test h (more_flags (leads n) (leads (suc n)) (rises n) ds) (ℕ_discrete (flags (leads n) ds) (flags (leads (suc n)) ds))
  ]
    where
      by_test : n ≤ flags (leads n) ds → flags (leads n) ds ≤ flags (leads (suc n)) ds → Dec (flags (leads n) ds ≡ flags (leads (suc n)) ds) →
          IsSettled (suc n) ⊎ (suc n ≤ flags (leads (suc n)) ds)
      by_test h m (yes e) = inl (settled_next n (settled_by n (same_flags (leads n) (leads (suc n)) (rises n) ds (omega arith))))
      by_test h m (no ne) = inr (omega arith)

  settled : IsSettled (length ds)
  settled = elim (progress (length ds)) [
    | inl s ↦ s
    | inr h ↦ settled_by (length ds)
        (each_then (λ d. leads (length ds) d.name.name ≡ true) (λ d. leads (suc (length ds)) d.name.name ≡ leads (length ds) d.name.name)
        (λ d e. rises (length ds) d.name.name e ∙ sym e) ds (each_flag (leads (length ds)) ds h))
  ]

  -- a name that does not lead there differs, and nothing that is declared under it leads there
  not_there : (x : Name) → leads (length ds) x ≡ false → (bytes_eq x y ≡ false) × (list_any (leads (length ds)) (uses_of ds x) ≡ false)
  not_there x e = or_parts (bytes_eq x y) (list_any (leads (length ds)) (uses_of ds x)) (settled x ∙ e)

-- ---- a test that no name under a name passes which does not pass it itself
module _ (test : Name → Bool) where
  abbrev IsClosed : Declared → Type 0
  IsClosed d = test d.name.name ≡ false → list_any test d.uses ≡ false

  abbrev under : List Declared → Name → List Declared
  under ds x = filter (λ e. is_called x e.name) ds

  both_none : (d : Declared) (ds : List Declared) → list_any test (flat_map (λ e. e.uses) (d ∷ ds)) ≡ false →
      (list_any test d.uses ≡ false) × (list_any test (flat_map (λ e. e.uses) ds) ≡ false)
  both_none d ds e =
      or_parts (list_any test d.uses) (list_any test (flat_map (λ e. e.uses) ds)) (sym (list_any-append test d.uses (flat_map (λ e. e.uses) ds)) ∙ e)

  closed_each : (ds : List Declared) → ((x : Name) → test x ≡ false → list_any test (uses_of ds x) ≡ false) → Each IsClosed ds
  closed_each [] h = tt
  closed_each (d ∷ ds) h = (λ s. head s, closed_each ds (λ x s. tail x (bytes_eq d.name.name x) (h x s)))
    where
      head : test d.name.name ≡ false → list_any test d.uses ≡ false
      head s =
          (both_none d (under ds d.name.name)
          (ap (λ b. list_any test (flat_map (λ e. e.uses) (cond b (d ∷ under ds d.name.name) (under ds d.name.name)))) (sym ((bytes_eq-Decides d.name.name d.name.name).1 refl)) ∙ h d.name.name s)).0

      tail : (x : Name) (b : Bool) → list_any test (flat_map (λ e. e.uses) (cond b (d ∷ under ds x) (under ds x))) ≡ false → list_any test (uses_of ds x) ≡ false
      tail x true e = (both_none d (under ds x) e).1
      tail x false e = e

  each_closed : (ds : List Declared) → Each IsClosed ds → (x : Name) → test x ≡ false → list_any test (uses_of ds x) ≡ false
  each_closed [] h x s = refl
  each_closed (d ∷ ds) h x s = by_test (bytes_eq d.name.name x) refl (each_closed ds h.1 x s)
    where
      by_test : (b : Bool) → bytes_eq d.name.name x ≡ b → list_any test (uses_of ds x) ≡ false →
          list_any test (flat_map (λ e. e.uses) (cond b (d ∷ under ds x) (under ds x))) ≡ false
      by_test true e r =
          list_any-append test d.uses (flat_map (λ e. e.uses) (under ds x))
          ∙ ap₂ (λ a b. a || b) (h.0 (ap test ((bytes_eq-Decides d.name.name x).0 e) ∙ s)) r
      by_test false e r = r

  abbrev Fails : Name → Type 0
  Fails x = test x ≡ false

  body_names : (o : Option Expression) → list_any test (used o) ≡ false → IfAny (AllNames Fails) o
  body_names None e = tt
  body_names (Some b) e = listed_names Fails b (map_each Fails (λ n. n.name) (names_of b) (none_each test (map (λ n. n.name) (names_of b)) e))

  names_body : (o : Option Expression) → IfAny (AllNames Fails) o → list_any test (used o) ≡ false
  names_body None h = refl
  names_body (Some b) h =
      each_none test (map (λ n. n.name) (names_of b)) (each_map (λ n. Fails n.name) Fails (λ n. n.name) (λ n k. k) (names_of b) (names_listed Fails b h))

-- ---- so written out, what does not lead to a name does not lead there
module _ (file : File) (test : Name → Bool) (closed : Each (IsClosed test) (declarations file)) where
  formula_closed : (fs : List Formula) → Each (λ f. IsClosed test (declared_formula f)) fs → (x : Name) → test x ≡ false →
      IfAny (AllNames (Fails test)) (option_map (λ f. f.body) (find (λ f. is_called x f.name) fs))
  formula_closed [] h x s = tt
  formula_closed (f ∷ fs) h x s = by_test (bytes_eq f.name.name x) refl (formula_closed fs h.1 x s)
    where
      by_test : (b : Bool) → bytes_eq f.name.name x ≡ b → IfAny (AllNames (Fails test)) (option_map (λ g. g.body) (find (λ g. is_called x g.name) fs)) →
          IfAny (AllNames (Fails test)) (option_map (λ g. g.body) (cond b (Some f) (find (λ g. is_called x g.name) fs)))
      by_test true e r = body_names test (Some f.body) (h.0 (ap test ((bytes_eq-Decides f.name.name x).0 e) ∙ s))
      by_test false e r = r

  halves : Each (IsClosed test) (map declared_const file.constants) × Each (IsClosed test) (map declared_formula file.formulas)
  halves = each_parts (IsClosed test) (map declared_const file.constants) (map declared_formula file.formulas) closed

  body_fails : (x : Name) → test x ≡ false → IfAny (AllNames (Fails test)) (formula_body file x)
  body_fails = formula_closed file.formulas (map_each (IsClosed test) declared_formula file.formulas halves.1)

  flat_fails : (c : Const) → list_any test (declared_const c).uses ≡ false → list_any test (declared_const (flat_constant file c)).uses ≡ false
  flat_fails c e =
      names_body test (option_map (flat_expression file unchanged) c.value)
      (any_map (AllNames (Fails test)) (AllNames (Fails test)) (flat_expression file unchanged)
      (λ b h. names_renamed (Fails test) unchanged (whole file b) (names_written_out (Fails test) (formula_body file) body_fails (length file.formulas) b h))
      c.value (body_names test c.value e))

  flat_closed : Each (IsClosed test) (declarations (flat file))
  flat_closed =
      each_join (IsClosed test) (map declared_const (map (flat_constant file) file.constants)) []
      (each_map (λ c. IsClosed test (declared_const c)) (IsClosed test) declared_const (λ c h. h) (map (flat_constant file) file.constants)
      (each_map (λ c. IsClosed test (declared_const c)) (λ c. IsClosed test (declared_const c)) (flat_constant file) (λ c h s. flat_fails c (h s)) file.constants
      (map_each (IsClosed test) declared_const file.constants halves.0)))
      tt

module _ (file : File) (y : Name) where
  abbrev leads_there : Name → Bool
  leads_there x = leads_to (declarations file) (length (declarations file)) x y

  old_closed : Each (IsClosed leads_there) (declarations file)
  old_closed = closed_each leads_there (declarations file) (λ x s. (not_there (declarations file) y x s).1)

  never : (n : ℕ) (x : Name) → leads_there x ≡ false → leads_to (declarations (flat file)) n x y ≡ false
  never zero x s = (not_there (declarations file) y x s).0
  never (suc n) x s =
      ap₂ (λ a b. a || b) ((not_there (declarations file) y x s).0)
      (each_none (λ z. leads_to (declarations (flat file)) n z y) (uses_of (declarations (flat file)) x)
      (each_then (λ z. leads_there z ≡ false) (λ z. leads_to (declarations (flat file)) n z y ≡ false) (never n) (uses_of (declarations (flat file)) x)
      (none_each leads_there (uses_of (declarations (flat file)) x)
      (each_closed leads_there (declarations (flat file)) (flat_closed file leads_there old_closed) x s))))

not_circular : (file : File) (c : Const) → circular (declarations file) (declared_const c) ≡ [] →
    circular (declarations (flat file)) (declared_const (flat_constant file c)) ≡ []
not_circular file c e =
    let y = c.name.name in
    let new = declared_const (flat_constant file c) in
    fault_none (is_circular (declarations (flat file)) new) c.name.at Cycle
    (each_none (λ x. leads_to (declarations (flat file)) (length (declarations (flat file))) x y) new.uses
    (each_then (λ x. leads_there file y x ≡ false) (λ x. leads_to (declarations (flat file)) (length (declarations (flat file))) x y ≡ false)
    (never file y (length (declarations (flat file)))) new.uses
    (none_each (leads_there file y) new.uses
    (flat_fails file (leads_there file y) (old_closed file y) c (no_fault (is_circular (declarations file) (declared_const c)) c.name.at Cycle e)))))

pub no_circles : (file : File) → circles file ≡ [] → circles (flat file) ≡ []
no_circles file e =
    let IsNone : Declared → Type 0 = λ d. circular (declarations (flat file)) d ≡ [] in
    each_empty (circular (declarations (flat file))) (declarations (flat file))
    (each_join IsNone (map declared_const (map (flat_constant file) file.constants)) []
    (each_map (λ c. IsNone (declared_const c)) IsNone declared_const (λ c h. h) (map (flat_constant file) file.constants)
    (each_map (λ c. circular (declarations file) (declared_const c) ≡ []) (λ c. IsNone (declared_const c)) (flat_constant file) (not_circular file) file.constants
    (map_each (λ d. circular (declarations file) d ≡ []) declared_const file.constants
    (each_parts (λ d. circular (declarations file) d ≡ []) (map declared_const file.constants) (map declared_formula file.formulas)
    (empty_each (circular (declarations file)) (declarations file) e)).0)))
    tt)
