-- A PRISM model and its JANI counterpart under given values: what fits the one fits the other, they have faults or none alike, and where both
-- start they are the same by their map.
use Rattle.std.proofs.Common.{◌≡◌, refl, sym, subst, ℕ, List, [], map, length, Option, Some, None, arith}
use Rattle.std.specs.Prelude.{Result, Ok, Err}
use Rattle.std.specs.List.{AllZip}
use Rattle.std.specs.Option.{IfSome}
use Rattle.std.proofs.lemmas.List.{length-map}
use Rattle.basics.specs.Each.{each_then}
use Rattle.process_core.specs.Instance.{Valuation, instance_faults}
use Rattle.process_core.specs.Process.{IsIn}
use Rattle.process_core.specs.Steps.{IsProcess, Process}
use Rattle.process_core.specs.declared.data.StartFail.{StartFail}
use Rattle.instance_start.specs.Description.{Description}
use Rattle.instance_start.specs.Given.{given_by, misfit}
use Rattle.carry_maps.specs.declared.map.CarryMap.{CarryMap}
use Rattle.carry_maps.specs.declared.map.LabelPair.{LabelPair}
use Rattle.path_carry.specs.Texts.{IsShort}
use Rattle.prism_tree.specs.Syntax as prism
use Rattle.prism_names.specs.Flat.{flat}
use Rattle.prism_flat.specs.Scene.{scene}
use Rattle.prism_instance.specs.Described.{DescribedAlike, prism_description}
use Rattle.prism_instance.specs.Lawful.{described_is}
use Rattle.prism_instance.proofs.Typed.{begin_right}
use Rattle.jani_tree.specs.Syntax as jani
use Rattle.jani_tree.specs.Form.{IsShortName}
use Rattle.jani_meaning.specs.Scene as jani_scene
use Rattle.jani_instance.specs.Described.{jani_description}
use Rattle.jani_instance.specs.Lawful.{column_count}
use Rattle.name_table.specs.Correspond.{Correspond}
use Rattle.jani_translation_laws.specs.SameMeaning.{placed}
use Rattle.prism_to_jani.specs.Promise.{IsJaniOf}
use Rattle.prism_to_jani.specs.Maps.{AreSameByMap, IsMapToJani, IsSteppedJani, IsSteppedPrism, MapHasLabels, MapIsShort, MapPlacesAside}
use Rattle.command_words.specs.Given.{Assignment}
use Rattle.command_words.specs.Words.{Carrying}
use Rattle.model_process.specs.Constants.{givens, wrong_value}
use Rattle.model_process.specs.Starts.{Begins, process_for, scene_for}
use Rattle.model_process.proofs.Constants.{none_wrong}
use Rattle.model_process.proofs.JaniProcess.{header_read}
use Rattle.model_process.specs.declared.starting.Unstarted.{Unstarted}
use Rattle.model_carrying.specs.Counterparts.{Counterpart}
use Rattle.model_carrying.specs.Ends.{ArePairStartable, process_there, scene_there, valuation_there}
use Rattle.model_carrying.specs.Pairs.{ArePaired, BeginsBoth, IsPairToJani, MayBothToJani, MayCarryToJani, MayMeetToJani, StartsThere, counterpart_of}
use Rattle.model_carrying.specs.Together.{GivenCorrespond, TogetherInJani}
use Rattle.model_carrying.specs.Values.{AreGivenAlike, GoTogether, ValuesAreAlike, ValuesFit}
use Rattle.model_carrying.proofs.Faultless.{no_name_fault, none_in}
use Rattle.model_carrying.proofs.Started.{both_started}
use Rattle.jani_tree.specs.Syntax.{element_names}

is_short : (p : LabelPair) → IfSome p.jani IsShortName → IfSome p.jani IsShort
is_short p h = by_label p.jani h
  where
    by_label : (o : Option (List ℕ)) → IfSome o IsShortName → IfSome o IsShort
    by_label None k = tt
    by_label (Some x) k = λ i. (let s = k.short in omega (arith, s))

-- under valuations that correspond the one has no fault where the other has none
pub no_fault_in_jani : (old : prism.File) (new : jani.File) → IsJaniOf old new → (v w : Valuation) → Correspond old new v w → instance_faults (scene old v) ≡ [] → instance_faults (jani_scene.scene new w) ≡ []
no_fault_in_jani old new is v w corresponds none =
    none_in (instance_faults (jani_scene.scene new w)) (λ f i. subst (λ fs. IsIn f (map (placed (length (element_names new))) fs)) none (((is.same).faults v w corresponds f).1 i))

module _ (alike : DescribedAlike) (fit : ValuesFit) (same_values : ValuesAreAlike) (together : TogetherInJani) (correspond : GivenCorrespond)
    (old written : prism.File) (new : jani.File) (pair : IsPairToJani old written new) (m : CarryMap) (given : List Assignment) where
  abbrev d : Description
  d = prism_description written

  abbrev o : Counterpart
  o = counterpart_of (jani_description new) m

  abbrev v : Valuation
  v = given_by (givens given)

  abbrev w : Valuation
  w = valuation_there d o given

  is_old : d ≡ prism_description old
  is_old = alike written old pair.shape

  go_together : GoTogether d.constants o.description.constants
  go_together = subst (λ (x : Description). GoTogether x.constants o.description.constants) (sym is_old) (together old new pair.named (no_name_fault new pair.translated.clean) pair.translated.shape)

  module _ (n : wrong_value d.constants given ≡ None) where
    fitting : misfit d.constants (givens given) ≡ None
    fitting = none_wrong d.constants given n

    corresponds : Correspond old new v w
    corresponds =
        correspond old new v w
        (subst (λ (x : Description). AllZip (AreGivenAlike v w) x.constants o.description.constants) is_old (same_values d.constants o.description.constants (givens given) go_together fitting))

    -- the model's faults are those of the file that was read
    none_of_old : instance_faults (scene_for d given) ≡ [] → instance_faults (scene old v) ≡ []
    none_of_old h = subst (λ (x : Description). instance_faults (x.scene v) ≡ []) is_old h

    none_there : instance_faults (scene_for d given) ≡ [] → instance_faults (scene_there d o given) ≡ []
    none_there h = no_fault_in_jani old new pair.translated v w corresponds (none_of_old h)

  pub paired_to_jani : ArePaired d o given
  paired_to_jani = record {
    fits = λ n. fit d.constants o.description.constants (givens given) go_together (fitting n);
    sound = none_there;
  }

  -- what carrying asks, where both start
  module _ (same : AreSameByMap) (labels : MapHasLabels) (short : MapIsShort) (aside : MapPlacesAside) (map_is : IsMapToJani written m) (s : ArePairStartable d o given) where
    lawful : IsProcess (process_for d given)
    lawful = described_is written v (begin_right written pair.flattened (givens given) (fitting s.here.fits)) s.here.faultless

    here_stepped : IsSteppedPrism old v (process_for d given)
    here_stepped =
        subst (λ (x : Description). IsSteppedPrism old v (x.process v)) (sym is_old)
        (record { seen = refl; columns = length-map (scene old v).columns (λ c. c.name) })

    there_stepped : IsSteppedJani new w (process_there d o given)
    there_stepped = record { seen = refl; columns = column_count new }

    map_of_flat : IsMapToJani (flat old) m
    map_of_flat = aside written (flat old) m pair.shape map_is

    pub may_carry_to_jani : MayCarryToJani (process_for d given) (process_there d o given) m
    may_carry_to_jani = record {
      same = same old new pair.translated m map_of_flat v w (corresponds s.here.fits) (none_of_old s.here.fits s.here.faultless) (process_for d given) (process_there d o given) here_stepped there_stepped lawful;
      labels = labels written m map_is;
      names = each_then (λ p. IfSome p.jani IsShortName) (λ p. IfSome p.jani IsShort) is_short m.labels (short (flat old) new pair.translated.shape m map_of_flat pair.short);
      header = header_read new;
    }

    -- of the processes that were started
    pub may_carry_started : (p q : Process) → p ≡ process_for d given → q ≡ process_there d o given → MayCarryToJani p q m
    may_carry_started p q e f = subst (λ x. MayCarryToJani x q m) (sym e) (subst (λ y. MayCarryToJani (process_for d given) y m) (sym f) may_carry_to_jani)

-- of both, as they begin
module _ (alike : DescribedAlike) (fit : ValuesFit) (same_values : ValuesAreAlike) (together : TogetherInJani) (correspond : GivenCorrespond)
    (same : AreSameByMap) (labels : MapHasLabels) (short : MapIsShort) (aside : MapPlacesAside)
    (old written : prism.File) (new : jani.File) (pair : IsPairToJani old written new) (m : CarryMap) (map_is : IsMapToJani written m) (c : Carrying) where
  pub may_both : {I J : Type 0} (here : I → Process) (there : J → Process) (r : Result (I × J) Unstarted) →
      BeginsBoth here there (prism_description written) (counterpart_of (jani_description new) m) c r → MayBothToJani here there m r
  may_both here there (Ok p) h =
      may_carry_started alike fit same_values together correspond old written new pair m c.given same labels short aside map_is h.0 (here p.0) (there p.1) h.1 h.2
  may_both here there (Err u) h = tt

  pub may_meet : {I J : Type 0} (here : I → Process) (there : J → Process) (h : Result I Unstarted) (t : Result J StartFail) →
      Begins here (prism_description written) 4 c.given h → StartsThere there (prism_description written) (counterpart_of (jani_description new) m) c.given t → MayMeetToJani here there m h t
  may_meet here there (Ok i) (Ok j) b s =
      may_both here there (Ok (i, j)) (both_started here there (prism_description written) (counterpart_of (jani_description new) m) c (paired_to_jani alike fit same_values together correspond old written new pair m c.given) i j b s)
  may_meet here there (Ok i) (Err f) b s = tt
  may_meet here there (Err u) t b s = tt
