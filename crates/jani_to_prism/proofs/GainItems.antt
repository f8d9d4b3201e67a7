-- The items of a structure are those of its gains.
use Rattle.std.proofs.Common.{◌≡◌, ℕ, suc, zero, ◌+◌, ◌<◌, List, [], ◌∷◌, ◌++◌, map, length, get_or, refl, sym, ap, ap₂, ◌∙◌, arith}
use Rattle.std.specs.Prelude.{Option, Some, None, slice_get}
use Rattle.std.specs.List.{All, filter, flat_map, zip}
use Rattle.std.specs.Option.{option_map}
use Rattle.std.proofs.lemmas.List.{map-append}
use Rattle.std.proofs.lemmas.List.Elements.{All-head, All-tail}
use Rattle.std.proofs.lemmas.Option.{slice_get-map}
use Rattle.process_core.specs.Ready.{Name}
use Rattle.process_core.specs.Product.{map-map}
use Rattle.process_core.specs.Instance.{numbered}
use Rattle.prism_tree.specs.Syntax as prism
use Rattle.jani_tree.specs.declared.syntax.JaniEdge.{JaniEdge}
use Rattle.jani_tree.specs.Syntax.{Write, Edge, File, automaton_of, edge_of}
use Rattle.jani_meaning.specs.Elements.{Owned, structure_number}
use Rattle.jani_meaning.specs.Loops.{loops}
use Rattle.jani_meaning.specs.LoopLaws.{edges_are, loops_have}
use Rattle.name_table.specs.declared.entry.Entry.{Entry}
use Rattle.name_table.specs.PrismAsks.{NewNames}
use Rattle.name_table.proofs.EntryLemmas.{named_at}
use Rattle.prism_targets.specs.Elements.{elements, Element, Placed, placed_edges, is_at}
use Rattle.prism_targets.specs.Targets.{Target, targets}
use Rattle.prism_targets.specs.Parts.{instead}
use Rattle.prism_targets.specs.Modules.{actions}
use Rattle.prism_targets.specs.Marks.{Given, assigned_to, first_writes, given_to, state_item, or_nought, target_item, target_items, target_items_by, structure}
use Rattle.prism_modules.specs.Element.{Element as CodeElement}
use Rattle.prism_modules.specs.Code.{element_of}
use Rattle.jani_to_prism.specs.Gains.{Gain, gain_by, gains_of, gain_item, structure_by}
use Rattle.prism_modules.proofs.ByPlaces.{action_with, placed_with, later, whole_list}

-- ---- edges that are looked up
-- the edge of this number, if the element has so many of its own
abbrev pub own_at : CodeElement → ℕ → Option Placed
own_at el n = option_map (λ e. placed_with (element_of el) n (edge_of e)) (slice_get el.automaton.automaton.now.edges n)

module _ (file : File) (j i : ℕ) (el : Element) where
  abbrev gained : ℕ → List Edge → ℕ → List Gain
  gained k es n = gains_of file j i (slice_get (numbered (λ m e. placed_with el m e ∷ []) k es) n)

  -- loops assign nothing
  nothing_gained : (k : ℕ) (es : List Edge) (n : ℕ) → All (λ e. first_writes e.destinations ≡ []) es → gained k es n ≡ []
  nothing_gained k [] n h = refl
  nothing_gained k (e ∷ es) zero h =
      ap (λ ws. map (gain_by i el.number) (map (λ (w : Write). w.value) (filter (λ (w : Write). is_at j (structure_number file el.number w.target.name)) ws)))
      (All-head (λ (e : Edge). first_writes e.destinations ≡ []) e es h)
  nothing_gained k (e ∷ es) (suc n) h = nothing_gained (k + 1) es n (All-tail (λ (e : Edge). first_writes e.destinations ≡ []) e es h)

  own_gained : (k : ℕ) (own : List JaniEdge) (more : List Edge) (n : ℕ) → All (λ e. first_writes e.destinations ≡ []) more →
      gained k (map edge_of own ++ more) n ≡ gains_of file j i (option_map (λ e. placed_with el (k + n) (edge_of e)) (slice_get own n))
  own_gained k [] more n h = nothing_gained k more n h
  own_gained k (e ∷ own) more zero h = let m : k ≡ k + 0 = omega arith in ap (λ p. gains_of file j i (Some (placed_with el p (edge_of e)))) m
  own_gained k (e ∷ own) more (suc n) h =
      let m : (k + 1) + n ≡ k + suc n = omega arith in
      own_gained (k + 1) own more n h ∙ ap (λ p. gains_of file j i (option_map (λ e. placed_with el p (edge_of e)) (slice_get own n))) m

-- what an edge of an element assigns, by the element's own edges
pub gained_there : (file : File) (j i : ℕ) (el : CodeElement) (n : ℕ) → gains_of file j i (slice_get (placed_edges (element_of el)) n) ≡ gains_of file j i (own_at el n)
gained_there file j i el n =
    let a = automaton_of el.automaton.automaton.now in
    let xs = el.automaton.accepts.now in
    let m : 0 + n ≡ n = omega arith in
    ap (λ (es : List Edge). gained file j i (element_of el) 0 es n) (edges_are xs a)
    ∙ own_gained file j i (element_of el) 0 el.automaton.automaton.now.edges (loops xs a) n
    (loops_have (λ (e : Edge). first_writes e.destinations ≡ []) a xs (λ k d h m b g. refl))
    ∙ ap (λ p. gains_of file j i (option_map (λ e. placed_with (element_of el) p (edge_of e)) (slice_get el.automaton.automaton.now.edges n))) m

pub get_there : {X : Type 0} (xs : List X) (i : ℕ) (x : X) → i < length xs → x ≡ get_or xs i x → slice_get xs i ≡ Some x
get_there [] i x h e = absurd (omega (arith, h))
get_there (y ∷ ys) zero x h e = ap Some (sym e)
get_there (y ∷ ys) (suc i) x h e = get_there ys i x (omega (arith, h)) e

pub element_in : (file : File) (els : List CodeElement) (i : ℕ) → map element_of els ≡ elements file → slice_get (elements file) i ≡ option_map element_of (slice_get els i)
element_in file els i h = ap (λ (l : List Element). slice_get l i) (sym h) ∙ slice_get-map element_of els i

-- ---- items
module _ (file : File) (names : NewNames) (j : ℕ) where
  one_target : (k : ℕ) (e : Entry) (maker : Option Placed) (es : List Entry) → ((i : ℕ) → slice_get names.actions (k + i) ≡ slice_get (e ∷ es) i) →
      map (gain_item file names) (gains_of file j k maker) ≡ target_items_by file names j e.name maker
  one_target k e None es at = refl
  one_target k e (Some p) es at =
      map-map (gain_item file names) (gain_by k p.element.number) (assigned_to file j p)
      ∙ ap (λ (a : Name). map (λ x. target_item file names a p x) (assigned_to file j p)) (named_at names.actions es e k at)

  items_from : (k : ℕ) (ts : List Target) (es : List Entry) → length es ≡ length ts → ((i : ℕ) → slice_get names.actions (k + i) ≡ slice_get es i) →
      map (gain_item file names) (numbered (λ i t. gains_of file j i t.maker) k ts) ≡ flat_map (target_items file names j) (map action_with (zip ts es))
  items_from k [] es h at = refl
  items_from k (t ∷ ts) [] h at = absurd (omega (arith, h))
  items_from k (t ∷ ts) (e ∷ es) h at =
      map-append (gain_item file names) (gains_of file j k t.maker) (numbered (λ i t. gains_of file j i t.maker) (k + 1) ts)
      ∙ ap₂ (λ (a b : List prism.Item). a ++ b) (one_target k e t.maker es at)
      (items_from (k + 1) ts es (omega (arith, h)) (later names.actions es e k at))

  pub gain_items : length names.actions ≡ length (targets file) →
      map (gain_item file names) (numbered (λ i t. gains_of file j i t.maker) 0 (targets file)) ≡ flat_map (target_items file names j) (actions file names)
  gain_items h = items_from 0 (targets file) names.actions h (whole_list names.actions)

  -- a structure of what was gathered
  pub structure_is : (o : Owned) (given : List Given) (gains : List Gain) (x : Name) → length names.actions ≡ length (targets file) → given ≡ given_to file o →
      gains ≡ numbered (λ i t. gains_of file j i t.maker) 0 (targets file) → structure_by file names o given gains x ≡ structure file names j o x
  structure_is o given gains x h g k =
      ap₂ (λ gs ks. structure_by file names o gs ks x) g k
      ∙ ap {B =
      prism.Rewards} (λ (items : List prism.Item). record { name = Some (instead o.var.name x); items = or_nought file names (map (state_item file names) (given_to file o) ++ items) }) (gain_items h)
