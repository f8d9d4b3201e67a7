use Rattle.std.proofs.Common.{◌≡◌, ◌∙◌, ap₂, ap, map, arith, take, take_all, ℕ, List}
use Rattle.std.specs.Prelude.{Option, slice_get}
use Rattle.std.specs.List.{position}
use Rattle.std.specs.Option.{option_or}
use Rattle.jani_meaning.specs.Elements.{is_own, is_global}
use Rattle.name_table.specs.declared.jani_parts.OwnedVar.{OwnedVar}
use Rattle.name_table.specs.JaniParts.{owned_of}
use Rattle.name_rules.specs.declared.map.NameMap.{NameMap}
use Rattle.name_rules.proofs.Maps.{at}
use Rattle.edge_tables.specs.Places.{place_in, under_some}
use Rattle.edge_tables.proofs.Positions.{none_yet, position_more}
use Rattle.edge_tables.proofs.places.Places.of.Goals as goal

pub loop-i-init : goal.loop-i-init
loop-i-init c = record {
  own = λ k x. ap (λ (ms : List (NameMap ℕ)). under_some (slice_get ms k) x) c.new.ensures.items ∙ none_yet k x;
  global = at c.new-2.ensures;
}

pub loop-i-preserved : goal.loop-i-preserved
loop-i-preserved c = record {
  own = λ k x.
      position_more (is_own k x) owned_of c.args.vars.now c.loop-i.i c.index-vars-i.result _ _ (omega arith) c.index-vars-i.is
      (c.loop-i.invariant.own k x) (c.in_ok-add.ensures.own k x);
  global = λ x.
      position_more (is_global x) owned_of c.args.vars.now c.loop-i.i c.index-vars-i.result _ _ (omega arith) c.index-vars-i.is
      (c.loop-i.invariant.global x) (c.in_ok-add.ensures.global x);
}

pub returns : goal.returns
unfolding place_in
returns c = λ k x.
    let all : take c.loop-i.i c.args.vars.now ≡ c.args.vars.now = take_all c.loop-i.i c.args.vars.now (omega arith) in
    ap₂ (λ (a b : Option ℕ). option_or a b)
    (c.loop-i.invariant.own k x ∙ ap (λ (l : List OwnedVar). position (is_own k x) (map owned_of l)) all)
    (c.loop-i.invariant.global x ∙ ap (λ (l : List OwnedVar). position (is_global x) (map owned_of l)) all)
