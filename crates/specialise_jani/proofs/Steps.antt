-- One part more of the lists that are folded, and all of them.
use Rattle.std.specs.Prelude.{◌≡◌, ℕ, List, [], ◌∷◌, map, Option, Result, Ok, Err, IfOk}
use Rattle.std.specs.List.{AllZip}
use Rattle.std.proofs.Common.{refl, sym, subst, ap, ap₂, ◌∙◌}
use Rattle.process_core.specs.Zip.{map_alike}
use Rattle.process_core.specs.Instance.{Valuation}
use Rattle.jani_tree.specs.declared.syntax.JaniFile.{JaniFile}
use Rattle.bridge_io.specs.declared.reason.Named.{Named}
use Rattle.jani_table.specs.Node.{Node}
use Rattle.jani_tree.specs.Syntax.{Expression, Const, Var, Write, Location, Destination, Edge, Automaton, Element, Vector, File, file_of}
use Rattle.jani_check.specs.Faults.{IsChecked}
use Rattle.constant_folding.specs.Known.{Known}
use Rattle.constant_folding.specs.Unfit.{Extends}
use Rattle.specialise_jani.specs.Specialised.{known_constants, specialised, specialised_by}
use Rattle.specialise_jani.specs.SameMeaning.{SameMeaningAt}

-- parts that stay as they are, as they are seen
pub zipped_same : {A X : Type 0} (view : A → X) (xs whole ys : List A) → xs ≡ whole → AllZip (λ a b. view b ≡ view a) xs ys → map view ys ≡ map view whole
zipped_same view xs whole ys e h = map_alike (λ a b. view b ≡ view a) view view (λ a b r. r) xs ys h ∙ ap (map view) e

plain_map : {A : Type 0} (xs : List A) → map (λ x. x) xs ≡ xs
plain_map [] = refl
plain_map (x ∷ xs) = ap (λ l. x ∷ l) (plain_map xs)

pub copied_all : {A : Type 0} (xs whole ys : List A) → xs ≡ whole → AllZip (λ a b. b ≡ a) xs ys → ys ≡ whole
copied_all xs whole ys e h = sym (plain_map ys) ∙ zipped_same (λ x. x) xs whole ys e h ∙ plain_map whole

-- two files whose parts are the same
pub same_file : {actions actions_ : List Named} {elements elements_ : List Element} {constants constants_ : List Const} {variables variables_ : List Var} {restrict restrict_ : Option Expression} {automata automata_ : List Automaton}
    {at at_ : ℕ} {vectors vectors_ : List Vector} {properties properties_ : Node} → actions ≡ actions_ → constants ≡ constants_ → variables ≡ variables_ → restrict ≡ restrict_ → automata ≡ automata_ →
    elements ≡ elements_ → at ≡ at_ → vectors ≡ vectors_ → properties ≡ properties_ →
    ◌≡◌ {A = File} (record { actions = actions; constants = constants; variables = variables; restrict = restrict; automata = automata; elements = elements; elements_at = at; vectors = vectors; properties = properties })
    (record { actions = actions_; constants = constants_; variables = variables_; restrict = restrict_; automata = automata_; elements = elements_; elements_at = at_; vectors = vectors_; properties = properties_ })
same_file a b c r d e f g h = cc

pub same_automaton : {name name_ : Named} {variables variables_ : List Var} {locations locations_ : List Location} {initial initial_ : List Named} {edges edges_ : List Edge} →
    name ≡ name_ → variables ≡ variables_ → locations ≡ locations_ → initial ≡ initial_ → edges ≡ edges_ →
    ◌≡◌ {A = Automaton} (record { name = name; variables = variables; locations = locations; initial = initial; edges = edges })
    (record { name = name_; variables = variables_; locations = locations_; initial = initial_; edges = edges_ })
same_automaton a b c d e = cc

pub same_edge : {location location_ : Named} {action action_ : Option Named} {guard guard_ : Option Expression} {destinations destinations_ : List Destination} {at : ℕ} →
    location ≡ location_ → action ≡ action_ → guard ≡ guard_ → destinations ≡ destinations_ →
    ◌≡◌ {A = Edge} (record { location = location; action = action; guard = guard; destinations = destinations; at = at })
    (record { location = location_; action = action_; guard = guard_; destinations = destinations_; at = at })
same_edge a b c d = cc

pub same_destination : {location location_ : Named} {weight weight_ : Option Expression} {writes writes_ : List Write} → location ≡ location_ → weight ≡ weight_ → writes ≡ writes_ →
    ◌≡◌ {A = Destination} (record { location = location; weight = weight; writes = writes }) (record { location = location_; weight = weight_; writes = writes_ })
same_destination a b c = cc

-- ---- what was made of a file is the file specialised, and has what that has
module _ (given : Valuation) (raw file : File) (known : Known) (same : raw ≡ file) (right : known ≡ known_constants file given) where
  made : (f : File) → f ≡ specialised_by given known raw → f ≡ specialised file given
  made f e = e ∙ ap₂ (specialised_by given) right same

  pub made_tree : {E : Type 0} (r : Result JaniFile E) → IfOk r (λ f. file_of f ≡ specialised_by given known raw) → IfOk r (λ f. file_of f ≡ specialised file given)
  made_tree (Ok f) e = made (file_of f) e
  made_tree (Err x) e = tt

  pub made_clean : {E : Type 0} (r : Result JaniFile E) → IsChecked (specialised file given) → IfOk r (λ f. file_of f ≡ specialised_by given known raw) → IfOk r (λ f. IsChecked (file_of f))
  made_clean (Ok f) h e = subst IsChecked (sym (made (file_of f) e)) h
  made_clean (Err x) h e = tt

  pub made_meaning : {E : Type 0} (r : Result JaniFile E) → ((v : Valuation) → Extends given v → SameMeaningAt file (specialised file given) v) →
      IfOk r (λ f. file_of f ≡ specialised_by given known raw) → IfOk r (λ f. (v : Valuation) → Extends given v → SameMeaningAt file (file_of f) v)
  made_meaning (Ok f) h e = λ v extends. subst (λ (g : File). SameMeaningAt file g v) (sym (made (file_of f) e)) (h v extends)
  made_meaning (Err x) h e = tt
