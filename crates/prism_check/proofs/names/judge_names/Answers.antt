use Rattle.std.specs.Prelude.{◌≡◌, List, ◌++◌, map, Option, None}
use Rattle.std.specs.List.{flat_map}
use Rattle.std.proofs.Common.{◌∙◌, refl, sym, ap, ap₂, subst}
use Rattle.std.proofs.lemmas.List.{length-map}
use Rattle.bridge_io.specs.declared.reason.Fault.{Fault}
use Rattle.name_rules.specs.Least.{soonest}
use Rattle.name_rules.specs.Circles.{Declared, circles as circles_of, declared_by, turns_from}
use Rattle.name_rules.proofs.Append.{five_parts, soonest_then}
use Rattle.name_rules.proofs.Soonest.{soonest_none}
use Rattle.prism_tree.specs.Syntax.{const_of, file_of, File}
use Rattle.prism_flat.specs.Places.{IsPlaceOrder}
use Rattle.prism_check.specs.NameFaults.{declarations, circles, copy_faults, doubled_names, name_faults, no_module, two_inits, unknown_names}
use Rattle.prism_check.proofs.NamesJudged.{in_order}
use Rattle.prism_check.proofs.names.judge_names.Goals as goal

-- what is found in turn is the least of all
all_found : (f : File) (unknown circled copied found : Option Fault) (ds : List Declared) → unknown ≡ soonest (soonest None (doubled_names f)) (unknown_names f) →
    circled ≡ soonest unknown (circles_of ds) → ds ≡ declarations f →
    copied ≡ soonest (soonest circled (flat_map (copy_faults f) f.modules)) (no_module f) → found ≡ soonest copied (two_inits f) → soonest None (name_faults f) ≡ found
all_found f unknown circled copied found ds u c d k e =
    sym (e
    ∙ soonest_then (soonest circled (flat_map (copy_faults f) f.modules)) copied (no_module f) (two_inits f) k
    ∙ five_parts (doubled_names f) (unknown_names f) (circles f) (flat_map (copy_faults f) f.modules) (no_module f ++ two_inits f)
    None (soonest None (doubled_names f)) unknown circled (soonest circled (flat_map (copy_faults f) f.modules))
    refl u (c ∙ ap (λ ds. soonest unknown (circles_of ds)) d) refl)

pub returns-in-Some : goal.returns-in-Some
returns-in-Some c =
    all_found (file_of c.args.file.now) c.in_ok-unknown.unknown c.in_ok-circles.circles.best c.in_ok-copied.copied _ _ c.in_ok-unknown.ensures c.in_ok-circles.ensures.best
    (ap (map declared_by) c.deref.ensures.value ∙ c.in_ok-all.ensures) c.in_ok-copied.ensures c.judge_starts.ensures
    ∙ c.in-Some.is

pub returns : goal.returns
returns c =
    let f = file_of c.args.file.now in
    let declared = ap (map declared_by) c.deref.ensures.value ∙ c.in_ok-all.ensures in
    let found = all_found f c.in_ok-unknown.unknown c.in_ok-circles.circles.best c.in_ok-copied.copied _ _ c.in_ok-unknown.ensures c.in_ok-circles.ensures.best declared c.in_ok-copied.ensures c.judge_starts.ensures in
    let clean = soonest_none (name_faults f) (found ∙ c.in-None.is) in (
      clean,
      subst (IsPlaceOrder f)
          (sym (c.in_ok-order-in-None.ensures
          ∙ ap₂ turns_from (c.len.ensures ∙ sym (length-map c.args.file.now.constants const_of)) c.deref-in-None.ensures.value))
          (in_order f (map declared_by c.deref.result.now) c.in_ok-circles.circles.turns.items declared c.in_ok-circles.ensures.turns clean),
    )
