-- An automaton without faults has none with loops either: a loop's guard joins and negates guards that are bools, and it assigns nothing.
use Rattle.std.specs.Prelude.{◌≡◌, List, [], ◌∷◌, ◌++◌, map, Bool, true, false, ◌||◌, Option, Some, None, IsTrue, is_some}
use Rattle.std.specs.List.{filter, flat_map, AllByRecursion as OfAll}
use Rattle.std.proofs.Common.{refl, sym, ap, ap₂, subst, ◌∙◌}
use Rattle.std.proofs.lemmas.Bool.{not-false}
use Rattle.std.proofs.lemmas.List.Concat.{flat_map-append}
use Rattle.basics.specs.Each.{each_filter, each_flat, each_join, each_map, each_of, each_parts, each_with}
use Rattle.basics.specs.Lists.{append_both, append_parts, empty_map, IsNotEmpty as HasItems}
use Rattle.basics.specs.Options.{has_some, if_some, IfAny as OfSome}
use Rattle.bridge_io.specs.declared.reason.Named.{Named}
use Rattle.bridge_io.specs.declared.reason.Reason.TheVariants.{WrongType}
use Rattle.name_rules.proofs.Plain.{no_fault}
use Rattle.name_rules.specs.Least.{fault, fault_if}
use Rattle.op_trees.specs.declared.tree.Ty.{Ty}
use Rattle.op_trees.specs.declared.tree.Ty.TheVariants as T
use Rattle.op_trees.specs.declared.wanted.Wanted.TheVariants as W
use Rattle.op_trees.specs.Names.{names_of, offset_of}
use Rattle.op_trees.specs.Tree.{Truth, One, Two}
use Rattle.op_trees.specs.TypeLaws.{misfits_none}
use Rattle.op_trees.specs.Types.{Types, misfits, sort_one, sort_two, type_in}
use Rattle.op_trees.specs.Wanted.{is_unwanted, is_wanted}
use Rattle.jani_table.specs.Operators.{jani_meaning}
use Rattle.jani_tree.specs.JaniOp.TheVariants.{Not, Or}
use Rattle.jani_tree.specs.Syntax.{Expression, Var, Location, Edge, Automaton, File}
use Rattle.jani_tree.specs.Form.{AutomatonRead, EdgeRead, ExprForm, LocationRead, NameForm}
use Rattle.jani_check.specs.declared.things.Thing.{Thing}
use Rattle.jani_check.specs.Things.{Name, beside, global_thing, types_by}
use Rattle.jani_check.specs.Demands.{Demand, varying, automaton_demands, edge_demands, location_demands, var_demands}
use Rattle.jani_check.specs.NameFaults.{global_names, is_among, unless_known, var_names}
use Rattle.jani_check.specs.ProfileFaults.{read_fault, some_differ}
use Rattle.jani_check.specs.TypeFaults.{edge_repeats, targets}
use Rattle.jani_meaning.specs.Loops.{either, is_with, loop_at, loops, none_of, or_true, with_loops}
use Rattle.prism_translation.proofs.Clean.{IsJudged, IsJudgedIn}
use Rattle.prism_translation.proofs.Distinct.{AreDistinct}

-- ---- guards
module _ (file : File) (vars : List Var) where
  abbrev things : Name → Option Thing
  things = beside (global_thing file) vars

  abbrev types : Types
  types = types_by things

  abbrev known : Name → Bool
  known x = is_among (global_names file) x || is_among (var_names vars) x

  -- an expression without faults whose type is bool
  record IsGuard (e : Expression) : Type 0 where
    form : ExprForm HasItems e
    names : flat_map (unless_known known) (names_of e) ≡ []
    bool : type_in jani_meaning types e ≡ Some T.Bool
    reads : flat_map (read_fault things) (names_of e) ≡ []

  is_bool : (t : Ty) → is_wanted W.Bool t ≡ true → Some t ≡ Some T.Bool
  is_bool T.Bool h = refl
  is_bool T.Int h = absurd cc
  is_bool T.Real h = absurd cc

  guard_from : (e : Expression) → ExprForm HasItems e → IsJudged file vars (varying W.Bool e) → IsGuard e
  guard_from e f j =
      let t = type_in jani_meaning types e in
      let r = append_parts (map (λ at. fault at WrongType) (misfits jani_meaning types e)) (fault_if (is_unwanted W.Bool t) (offset_of e) WrongType) j.types in
      let s = has_some t ((misfits_none jani_meaning types e).0 (empty_map (λ at. fault at WrongType) (misfits jani_meaning types e) r.0)) in
      record {
        form = f;
        names = j.names;
        bool = s.1 ∙ is_bool s.0 (not-false (is_wanted W.Bool s.0) (sym (ap (is_unwanted W.Bool) s.1) ∙ no_fault (is_unwanted W.Bool t) (offset_of e) WrongType r.1));
        reads = j.profile;
      }

  guard_judged : (e : Expression) → IsGuard e → IsJudged file vars (varying W.Bool e)
  guard_judged e g = record {
    names = g.names;
    types =
        append_both (map (λ at. fault at WrongType) (misfits jani_meaning types e)) (fault_if (is_unwanted W.Bool (type_in jani_meaning types e)) (offset_of e) WrongType)
        (ap (map (λ at. fault at WrongType)) ((misfits_none jani_meaning types e).1 (subst (λ o. IsTrue (is_some o)) (sym g.bool) refl)))
        (ap (λ o. fault_if (is_unwanted W.Bool o) (offset_of e) WrongType) g.bool);
    profile = g.reads;
  }

  sure : IsGuard (Truth 0 true)
  sure = record { form = tt; names = refl; bool = refl; reads = refl }

  both : (g h : Expression) → IsGuard g → IsGuard h → IsGuard (Two 0 Or g h)
  both g h p q = record {
    form = (refl, p.form, q.form);
    names = flat_map-append (unless_known known) (names_of g) (names_of h) ∙ append_both (flat_map (unless_known known) (names_of g)) (flat_map (unless_known known) (names_of h)) p.names q.names;
    bool = ap₂ (sort_two jani_meaning Or) p.bool q.bool;
    reads = flat_map-append (read_fault things) (names_of g) (names_of h) ∙ append_both (flat_map (read_fault things) (names_of g)) (flat_map (read_fault things) (names_of h)) p.reads q.reads;
  }

  negated : (g : Expression) → IsGuard g → IsGuard (One 0 Not g)
  negated g p = record { form = (refl, p.form); names = p.names; bool = ap (sort_one jani_meaning Not) p.bool; reads = p.reads }

  either_guards : (g : Expression) (gs : List Expression) → IsGuard g → OfAll IsGuard gs → IsGuard (either g gs)
  either_guards g [] p ps = p
  either_guards g (h ∷ hs) p ps = either_guards (Two 0 Or g h) hs (both g h p ps.0) ps.1

  none_guards : (gs : List Expression) → OfAll IsGuard gs → OfSome IsGuard (none_of gs)
  none_guards [] ps = tt
  none_guards (g ∷ gs) ps = negated (either g gs) (either_guards g gs ps.0 ps.1)

  or_true_guard : (o : Option Expression) → OfSome IsGuard o → IsGuard (or_true o)
  or_true_guard None p = sure
  or_true_guard (Some g) p = p

  -- the guard of an edge without faults
  own_guard : (o : Option Expression) (rest : List Demand) → OfSome (ExprForm HasItems) o → OfAll (IsJudged file vars) (map (varying W.Bool) (if_some o) ++ rest) → OfSome IsGuard o
  own_guard None rest f j = tt
  own_guard (Some g) rest f j = guard_from g f j.0

  some_judged : (o : Option Expression) → OfSome IsGuard o → OfAll (IsJudged file vars) (map (varying W.Bool) (if_some o))
  some_judged None p = tt
  some_judged (Some g) p = (guard_judged g p, tt)

  some_form : (o : Option Expression) → OfSome IsGuard o → OfSome (ExprForm HasItems) o
  some_form None p = tt
  some_form (Some g) p = p.form

  -- ---- loops
  module _ (a : Automaton) (form : AutomatonRead HasItems a) (demands : OfAll (IsJudged file vars) (automaton_demands a)) where
    split : OfAll (IsJudged file vars) (flat_map var_demands a.variables) × OfAll (IsJudged file vars) (flat_map location_demands a.locations ++ flat_map edge_demands a.edges)
    split = each_parts (IsJudged file vars) (flat_map var_demands a.variables) (flat_map location_demands a.locations ++ flat_map edge_demands a.edges) demands

    inner : OfAll (IsJudged file vars) (flat_map location_demands a.locations) × OfAll (IsJudged file vars) (flat_map edge_demands a.edges)
    inner = each_parts (IsJudged file vars) (flat_map location_demands a.locations) (flat_map edge_demands a.edges) split.1

    own_guards : OfAll (λ e. OfSome IsGuard e.guard) a.edges
    own_guards =
        each_with (EdgeRead HasItems) (λ e. OfAll (IsJudged file vars) (edge_demands e)) (λ e. OfSome IsGuard e.guard) (λ e f j. own_guard e.guard _ f.guard j) a.edges form.edges
        (each_of (IsJudged file vars) edge_demands a.edges inner.1)

    loop_guard : (x : Named) (l : Location) → OfSome IsGuard (loop_at a x l).guard
    loop_guard x l =
        let these = filter (is_with x.name l.name.name) a.edges in
        none_guards (map (λ e. or_true e.guard) these)
        (each_map (λ e. OfSome IsGuard e.guard) IsGuard (λ e. or_true e.guard) (λ e p. or_true_guard e.guard p) these
        (each_filter (λ e. OfSome IsGuard e.guard) (is_with x.name l.name.name) a.edges own_guards))

    -- what holds of each loop
    each_loop : (P : Edge → Type 0) → ((x : Named) (l : Location) → NameForm HasItems x → LocationRead HasItems l → P (loop_at a x l)) → (xs : List Named) → OfAll (NameForm HasItems) xs → OfAll P (loops xs a)
    each_loop P h [] f = tt
    each_loop P h (x ∷ xs) f =
        each_join P (map (loop_at a x) a.locations) (loops xs a) (each_map (LocationRead HasItems) P (loop_at a x) (λ l k. h x l f.0 k) a.locations form.locations) (each_loop P h xs f.1)

    loops_read : (xs : List Named) → OfAll (NameForm HasItems) xs → OfAll (EdgeRead HasItems) (loops xs a)
    loops_read xs f =
        each_loop (EdgeRead HasItems)
        (λ x l n k. record { location = k.name; action = n; guard = some_form (loop_at a x l).guard (loop_guard x l); destinations = (record { location = k.name; weight = tt; writes = tt }, tt); some = tt }) xs f

    loops_judged : (xs : List Named) → OfAll (NameForm HasItems) xs → OfAll (IsJudged file vars) (flat_map edge_demands (loops xs a))
    loops_judged xs f =
        each_flat (λ e. OfAll (IsJudged file vars) (edge_demands e)) (IsJudged file vars) edge_demands (λ e h. h) (loops xs a)
        (each_loop (λ e. OfAll (IsJudged file vars) (edge_demands e))
        (λ x l n k. each_join (IsJudged file vars) (map (varying W.Bool) (if_some (loop_at a x l).guard)) [] (some_judged (loop_at a x l).guard (loop_guard x l)) tt) xs f)

    -- no loop assigns anything
    loops_none : (xs : List Named) → flat_map edge_repeats (loops xs a) ≡ []
    loops_none [] = refl
    loops_none (x ∷ xs) = flat_map-append edge_repeats (map (loop_at a x) a.locations) (loops xs a) ∙ ap₂ (λ p q. p ++ q) (none x a.locations) (loops_none xs)
      where
        none : (x : Named) (ls : List Location) → flat_map edge_repeats (map (loop_at a x) ls) ≡ []
        none x [] = refl
        none x (l ∷ ls) = none x ls

    looped_demands : (xs : List Named) → OfAll (NameForm HasItems) xs → OfAll (IsJudged file vars) (flat_map edge_demands (a.edges ++ loops xs a))
    looped_demands xs f =
        subst (OfAll (IsJudged file vars)) (sym (flat_map-append edge_demands a.edges (loops xs a)))
        (each_join (IsJudged file vars) (flat_map edge_demands a.edges) (flat_map edge_demands (loops xs a)) inner.1 (loops_judged xs f))

    all_demands : (xs : List Named) → OfAll (NameForm HasItems) xs → OfAll (IsJudged file vars) (flat_map var_demands a.variables ++ (flat_map location_demands a.locations ++ flat_map edge_demands (a.edges ++ loops xs a)))
    all_demands xs f =
        each_join (IsJudged file vars) (flat_map var_demands a.variables) (flat_map location_demands a.locations ++ flat_map edge_demands (a.edges ++ loops xs a)) split.0
        (each_join (IsJudged file vars) (flat_map location_demands a.locations) (flat_map edge_demands (a.edges ++ loops xs a)) inner.0 (looped_demands xs f))

pub judged_looped : (file : File) (vars : List Var) (a : Automaton) → IsJudgedIn file vars a → (xs : List Named) → OfAll (NameForm HasItems) xs → IsJudgedIn file vars (with_loops xs a)
judged_looped file vars a j [] f = j
judged_looped file vars a j (x ∷ xs) f = record {
  form = record {
    name = j.form.name;
    variables = j.form.variables;
    locations = j.form.locations;
    initial = j.form.initial;
    begins = j.form.begins;
    edges = each_join (EdgeRead HasItems) a.edges (loops (x ∷ xs) a) j.form.edges (loops_read file vars a j.form j.demands (x ∷ xs) f);
  };
  names = j.names;
  locations = j.locations;
  demands = all_demands file vars a j.form j.demands (x ∷ xs) f;
  values = j.values;
  writes =
      each_join (λ e. OfAll (λ d. AreDistinct (targets d.writes)) e.destinations) a.edges (loops (x ∷ xs) a) j.writes
      (each_loop file vars a j.form j.demands (λ e. OfAll (λ d. AreDistinct (targets d.writes)) e.destinations) (λ y l n k. (tt, tt)) (x ∷ xs) f);
  branches =
      each_join (λ e. some_differ (beside (global_thing file) vars) e.destinations ≡ false) a.edges (loops (x ∷ xs) a) j.branches
      (each_loop file vars a j.form j.demands (λ e. some_differ (beside (global_thing file) vars) e.destinations ≡ false) (λ y l n k. refl) (x ∷ xs) f);
  starts = j.starts;
  kinds = j.kinds;
  repeats =
      flat_map-append edge_repeats a.edges (loops (x ∷ xs) a)
      ∙ append_both (flat_map edge_repeats a.edges) (flat_map edge_repeats (loops (x ∷ xs) a)) j.repeats (loops_none file vars a j.form j.demands (x ∷ xs));
}
