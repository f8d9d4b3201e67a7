-- A JANI model and its PRISM counterpart under given values: what fits the one fits the other, they have faults or none alike, and where both
-- start they are the same by their map.
use Rattle.std.proofs.Common.{◌≡◌, refl, sym, subst, List, [], ◌∷◌, map, None, inl}
use Rattle.std.specs.Prelude.{Result, Ok, Err}
use Rattle.std.specs.List.{AllZip, AllByRecursion as Each}
use Rattle.std.proofs.lemmas.List.{length-map}
use Rattle.process_core.specs.Instance.{Valuation, instance_faults}
use Rattle.process_core.specs.Process.{IsIn}
use Rattle.process_core.specs.Steps.{IsProcess, Process}
use Rattle.process_core.specs.declared.data.StartFail.{StartFail}
use Rattle.instance_start.specs.Description.{Description}
use Rattle.instance_start.specs.Given.{given_by, misfit}
use Rattle.carry_maps.specs.declared.map.CarryMap.{CarryMap}
use Rattle.path_carry.specs.Texts.{HeaderIsLine, IsShort}
use Rattle.prism_tree.specs.Syntax as prism
use Rattle.prism_flat.specs.Scene.{scene}
use Rattle.prism_instance.specs.Described.{DescribedAlike, prism_description}
use Rattle.prism_instance.specs.Lawful.{described_is}
use Rattle.prism_instance.proofs.Typed.{begin_right}
use Rattle.jani_tree.specs.Syntax as jani
use Rattle.jani_meaning.specs.Scene as jani_scene
use Rattle.jani_instance.specs.Described.{jani_description}
use Rattle.jani_instance.specs.Lawful.{column_count}
use Rattle.name_table.specs.Correspond.{Correspond}
use Rattle.prism_translation.specs.SameMeaning.{placed}
use Rattle.jani_to_prism.specs.Promise.{IsPrismOf}
use Rattle.jani_to_prism.specs.Maps as maps
use Rattle.jani_to_prism.specs.Maps.{AreSameByMap, IsMapToPrism, IsSteppedJani, IsSteppedPrism}
use Rattle.command_words.specs.Given.{Assignment}
use Rattle.command_words.specs.Words.{Carrying}
use Rattle.model_process.specs.Constants.{givens, wrong_value}
use Rattle.model_process.specs.Starts.{Begins, process_for, scene_for}
use Rattle.model_process.proofs.Constants.{none_wrong}
use Rattle.model_process.specs.declared.starting.Unstarted.{Unstarted}
use Rattle.model_carrying.specs.Counterparts.{Counterpart}
use Rattle.model_carrying.specs.Ends.{ArePairStartable, process_there, scene_there, valuation_there}
use Rattle.model_carrying.specs.Pairs.{ArePaired, BeginsBoth, IsPairToPrism, MayBothToPrism, MayCarryToPrism, MayMeetToPrism, StartsThere, counterpart_of}
use Rattle.model_carrying.specs.Together.{GivenCorrespondBack, TogetherInPrism}
use Rattle.model_carrying.specs.Values.{AreGivenAlike, GoTogether, ValuesAreAlike, ValuesFit, values_there}
use Rattle.model_carrying.proofs.Started.{both_started}

-- a list that is empty once it is mapped
none_mapped : {X Y : Type 0} (f : X → Y) (xs : List X) → ((y : Y) → IsIn y (map f xs) → ⊥) → xs ≡ []
none_mapped f [] h = refl
none_mapped f (x ∷ xs) h = absurd (h (f x) (inl refl))

-- under valuations that correspond the one has no fault where the other has none
pub no_fault_in_prism : (old : jani.File) (new : prism.File) → IsPrismOf old new → (v w : Valuation) → Correspond new old v w → instance_faults (jani_scene.scene old w) ≡ [] → instance_faults (scene new v) ≡ []
no_fault_in_prism old new is v w corresponds none =
    none_mapped (placed old) (instance_faults (scene new v)) (λ f i. subst (IsIn f) none (((is.same).faults v w corresponds f).0 i))

module _ (alike : DescribedAlike) (fit : ValuesFit) (same_values : ValuesAreAlike) (together : TogetherInPrism) (correspond : GivenCorrespondBack)
    (old : jani.File) (new written : prism.File) (pair : IsPairToPrism old new written) (m : CarryMap) (given : List Assignment) where
  abbrev d : Description
  d = jani_description old

  abbrev o : Counterpart
  o = counterpart_of (prism_description written) m

  abbrev w : Valuation
  w = given_by (givens given)

  abbrev v : Valuation
  v = valuation_there d o given

  is_new : o.description ≡ prism_description new
  is_new = alike written new pair.shape

  new_together : GoTogether d.constants (prism_description new).constants
  new_together = together old new pair.named pair.translated.clean.names pair.translated.shape

  go_together : GoTogether d.constants o.description.constants
  go_together = subst (λ (x : Description). GoTogether d.constants x.constants) (sym is_new) new_together

  module _ (n : wrong_value d.constants given ≡ None) where
    fitting : misfit d.constants (givens given) ≡ None
    fitting = none_wrong d.constants given n

    fitting_there : misfit o.description.constants (values_there d.constants o.description.constants w) ≡ None
    fitting_there = fit d.constants o.description.constants (givens given) go_together fitting

    corresponds : Correspond new old v w
    corresponds =
        correspond new old v w new_together
        (subst (λ (x : Description). AllZip (AreGivenAlike w v) d.constants x.constants) is_new (same_values d.constants o.description.constants (givens given) go_together fitting))

    none_of_new : instance_faults (scene_for d given) ≡ [] → instance_faults (scene new v) ≡ []
    none_of_new h = no_fault_in_prism old new pair.translated v w corresponds h

    none_there : instance_faults (scene_for d given) ≡ [] → instance_faults (scene_there d o given) ≡ []
    none_there h = subst (λ (x : Description). instance_faults (x.scene v) ≡ []) (sym is_new) (none_of_new h)

  pub paired_to_prism : ArePaired d o given
  paired_to_prism = record { fits = fitting_there; sound = none_there }

  -- what carrying asks, where both start
  module _ (same : AreSameByMap) (line : maps.HeaderIsLine) (map_is : IsMapToPrism old m) (short : Each (λ p. IsShort p.prism) m.labels) (s : ArePairStartable d o given) where
    lawful : IsProcess (process_there d o given)
    lawful =
        described_is written v (begin_right written pair.flattened (values_there d.constants o.description.constants w) (fitting_there s.here.fits)) (none_there s.here.fits s.here.faultless)

    there_stepped : IsSteppedPrism new v (process_there d o given)
    there_stepped =
        subst (λ (x : Description). IsSteppedPrism new v (x.process v)) (sym is_new)
        (record { seen = refl; columns = length-map (scene new v).columns (λ c. c.name) })

    here_stepped : IsSteppedJani old w (process_for d given)
    here_stepped = record { seen = refl; columns = column_count old }

    pub may_carry_to_prism : MayCarryToPrism (process_for d given) (process_there d o given) m
    may_carry_to_prism = record {
      same = same old new pair.translated m map_is v w (corresponds s.here.fits) (none_of_new s.here.fits s.here.faultless) (process_there d o given) (process_for d given) there_stepped here_stepped lawful;
      names = short;
      header = subst (λ (x : Description). HeaderIsLine (x.process v)) (sym is_new) (line old new pair.translated.shape v);
    }

    -- of the processes that were started
    pub may_carry_started : (p q : Process) → p ≡ process_for d given → q ≡ process_there d o given → MayCarryToPrism p q m
    may_carry_started p q e f = subst (λ x. MayCarryToPrism x q m) (sym e) (subst (λ y. MayCarryToPrism (process_for d given) y m) (sym f) may_carry_to_prism)

-- of both, as they begin
module _ (alike : DescribedAlike) (fit : ValuesFit) (same_values : ValuesAreAlike) (together : TogetherInPrism) (correspond : GivenCorrespondBack)
    (same : AreSameByMap) (line : maps.HeaderIsLine)
    (old : jani.File) (new written : prism.File) (pair : IsPairToPrism old new written) (m : CarryMap) (map_is : IsMapToPrism old m) (short : Each (λ p. IsShort p.prism) m.labels) (c : Carrying) where
  pub may_both : {I J : Type 0} (here : I → Process) (there : J → Process) (r : Result (I × J) Unstarted) →
      BeginsBoth here there (jani_description old) (counterpart_of (prism_description written) m) c r → MayBothToPrism here there m r
  may_both here there (Ok p) h =
      may_carry_started alike fit same_values together correspond old new written pair m c.given same line map_is short h.0 (here p.0) (there p.1) h.1 h.2
  may_both here there (Err u) h = tt

  pub may_meet : {I J : Type 0} (here : I → Process) (there : J → Process) (h : Result I Unstarted) (t : Result J StartFail) →
      Begins here (jani_description old) 4 c.given h → StartsThere there (jani_description old) (counterpart_of (prism_description written) m) c.given t → MayMeetToPrism here there m h t
  may_meet here there (Ok i) (Ok j) b s =
      may_both here there (Ok (i, j)) (both_started here there (jani_description old) (counterpart_of (prism_description written) m) c (paired_to_prism alike fit same_values together correspond old new written pair m c.given) i j b s)
  may_meet here there (Ok i) (Err f) b s = tt
  may_meet here there (Err u) t b s = tt
