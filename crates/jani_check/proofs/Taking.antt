-- What the elements of a file take part with, by the tables.
use Rattle.std.specs.Prelude.{ℕ, ◌<◌, ◌+◌, List, [], ◌∷◌, ◌++◌, map, length, drop, Bool, true, false, Option, Some, None}
use Rattle.std.proofs.Common.{◌≡◌, refl, sym, ap, ◌∙◌, get_or, append_assoc}
use Rattle.std.proofs.Math.Path.{fun_ext}
use Rattle.std.proofs.lemmas.List.{at_drop_more}
use Rattle.bridge_io.specs.declared.reason.Named.{Named}
use Rattle.bridge_io.specs.declared.reason.Reason.TheVariants.{WrittenTwice, TwoRewardWriters}
use Rattle.jani_tree.specs.Syntax.{Automaton, File, element_names}
use Rattle.name_rules.specs.Least.{fault_if}
use Rattle.std.specs.Option.{option_or as or_else}
use Rattle.jani_check.specs.Things.{global_thing, automaton_called}
use Rattle.name_rules.specs.Names.{Name}
use Rattle.jani_check.specs.declared.things.Thing.{Thing}
use Rattle.jani_check.specs.TypeFaults.{with_automaton, participants, meet, shared_by, clashing_writes}
use Rattle.jani_check.specs.ProfileFaults.{rewards_with, two_hold, two_writers}
use Rattle.jani_check.specs.Participants.{parts_taken, clash_by, element_shared}
use Rattle.jani_check.specs.Rewarding.{element_rewards, writers_by, holds_with}
use Rattle.name_rules.proofs.Maps.{none_after}

-- the participants of a vector, by what each element has under each action
participants_are : {X : Type 0} (f : Automaton → Name → X) (none : X) (file : File) (es : List Named) (ps : List (Option Named)) →
    parts_taken none (map (λ e x. with_automaton (λ a. f a x) none (automaton_called file e.name)) es) ps ≡ participants f none file es ps
participants_are f none file [] ps = refl
participants_are f none file (e ∷ es) [] = refl
participants_are f none file (e ∷ es) (None ∷ ps) = ap (λ r. none ∷ r) (participants_are f none file es ps)
participants_are f none file (e ∷ es) (Some n ∷ ps) = ap (λ r. with_automaton (λ a. f a n.name) none (automaton_called file e.name) ∷ r) (participants_are f none file es ps)

pub clashes_are : (file : File) → clash_by (map (element_shared file) (element_names file)) ≡ clashing_writes file
clashes_are file = fun_ext (λ v. ap (λ l. fault_if (meet l) v.at WrittenTwice) (participants_are (shared_by (global_thing file)) [] file (element_names file) v.parts))

pub writers_are : (file : File) → writers_by (map (element_rewards file) (element_names file)) ≡ two_writers file
writers_are file = fun_ext (λ v. ap (λ l. fault_if (two_hold l) v.at TwoRewardWriters) (participants_are (rewards_with (global_thing file)) false file (element_names file) v.parts))

-- one element more
pub one_element : {A B E : Type 0} (view : A → Name → B) (own : E → Name → B) (list next : List A) (x : A) (es : List E) (i : ℕ) (e : E) (whole : List (Name → B)) →
    i < length es → e ≡ get_or es i e → next ≡ list ++ x ∷ [] → ((y : Name) → view x y ≡ own e y) →
    map view list ++ map own (drop i es) ≡ whole → map view next ++ map own (drop (i + 1) es) ≡ whole
one_element view own list next x es i e whole h is added same so_far =
    let rest = map own (drop (i + 1) es) in
    ap (λ l. map view l ++ rest) added
    ∙ ap (λ l. l ++ rest) (mapped list)
    ∙ append_assoc (map view list) (view x ∷ []) rest
    ∙ ap (λ f. map view list ++ f ∷ rest) (fun_ext same)
    ∙ sym (at_drop_more (λ ys. map view list ++ map own ys) es i e h ∙ ap (λ y. map view list ++ map own (y ∷ drop (i + 1) es)) (sym is))
    ∙ so_far
  where
    mapped : (l : List _) → map view (l ++ x ∷ []) ≡ map view l ++ view x ∷ []
    mapped [] = refl
    mapped (y ∷ l) = ap (λ r. view y ∷ r) (mapped l)

-- ---- what names stand for
pub alone : (global own : Name → Option Thing) → ((x : Name) → own x ≡ None) → (λ (x : Name). or_else (global x) (own x)) ≡ global
alone global own h = fun_ext (λ x. ap (or_else (global x)) (h x) ∙ sym (none_after (global x)))

-- ---- one participant more that assigns a reward, or does not
pub holds_none : (one : Bool) → holds_with one [] ≡ false
holds_none true = refl
holds_none false = refl
