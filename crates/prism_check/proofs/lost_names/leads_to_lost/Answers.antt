use Rattle.std.specs.Prelude.{◌++◌, map}
use Rattle.std.proofs.Common.{◌∙◌, sym, ap}
use Rattle.name_rules.specs.Names.{has_name}
use Rattle.name_rules.specs.Uses.{used}
use Rattle.prism_check.specs.Levels.{lost_in}
use Rattle.prism_check.specs.Tables.{body_under, new_name}
use Rattle.prism_check.proofs.MetNames.{all_met, fewer_left, fewer_names, lost_one, met_before, met_now, no_formula, none_met}
use Rattle.prism_check.proofs.lost_names.leads_to_lost.Goals as goal

pub loop-name-init : goal.loop-name-init
unfolding lost_in
loop-name-init c =
    let r = c.args.reading.now in
    none_met c.args.formulas.now (lost_in r) (map (λ s. s.now) c.args.left.now.items)
    (λ x e. sym (c.requires x) ∙ no_formula (body_under r.formulas.now) (has_name r.known.now) (new_name r.renaming.now) x e)
    (has_name c.new-met.result) c.new-met.ensures

pub loop-name-smaller-then-has : goal.loop-name-smaller-then-has
loop-name-smaller-then-has c =
    fewer_left c.args.formulas.now (lost_in c.args.reading.now) (map (λ s. s.now) c.args.left.now.items) (has_name c.loop-name.met) c.loop-name.left.items
    c.pop.new.self.items c.in-Some.name c.in-Some.ensures.items c.loop-name.invariant

pub loop-name-preserved-then-has : goal.loop-name-preserved-then-has
loop-name-preserved-then-has c =
    met_before c.args.formulas.now (lost_in c.args.reading.now) (map (λ s. s.now) c.args.left.now.items) (has_name c.loop-name.met) c.loop-name.left.items
    c.pop.new.self.items c.in-Some.name c.in-Some.ensures.items c.loop-name.invariant
    (sym c.has.ensures ∙ c.if-has.true)

pub returns-then-is_lost : goal.returns-then-is_lost
returns-then-is_lost c =
    sym (lost_one c.args.formulas.now (lost_in c.args.reading.now) (map (λ s. s.now) c.args.left.now.items) (has_name c.loop-name.met) c.loop-name.left.items
    c.pop.new.self.items c.in-Some.name c.in-Some.ensures.items c.loop-name.invariant
    (sym c.is_lost.ensures ∙ c.if-is_lost.true))

pub loop-name-smaller : goal.loop-name-smaller
loop-name-smaller c =
    fewer_names c.args.formulas.now (lost_in c.args.reading.now) (map (λ s. s.now) c.args.left.now.items) (has_name c.loop-name.met) c.loop-name.left.items
    c.pop.new.self.items c.in-Some.name c.in-Some.ensures.items c.loop-name.invariant
    (has_name c.add.new.self) (map (λ s. s.now) c.add_names.new.list.items) c.in_ok-add.ensures (sym c.has.ensures ∙ c.if-has.false)
    (c.in_ok-add_names.ensures ∙ ap (λ o. map (λ s. s.now) c.pop.new.self.items ++ used o) (c.requires c.in-Some.name.now))

pub loop-name-preserved : goal.loop-name-preserved
loop-name-preserved c =
    met_now c.args.formulas.now (lost_in c.args.reading.now) (map (λ s. s.now) c.args.left.now.items) (has_name c.loop-name.met) c.loop-name.left.items
    c.pop.new.self.items c.in-Some.name c.in-Some.ensures.items c.loop-name.invariant
    (has_name c.add.new.self) (map (λ s. s.now) c.add_names.new.list.items) c.in_ok-add.ensures (sym c.has.ensures ∙ c.if-has.false)
    (c.in_ok-add_names.ensures ∙ ap (λ o. map (λ s. s.now) c.pop.new.self.items ++ used o) (c.requires c.in-Some.name.now))
    (sym c.is_lost.ensures ∙ c.if-is_lost.false)

pub returns : goal.returns
returns c =
    sym (all_met c.args.formulas.now (lost_in c.args.reading.now) (map (λ s. s.now) c.args.left.now.items) (has_name c.loop-name.met) c.loop-name.left.items
    (sym c.loop-name.left.ok.0 ∙ c.in_default.ensures.cases.0) c.loop-name.invariant)
