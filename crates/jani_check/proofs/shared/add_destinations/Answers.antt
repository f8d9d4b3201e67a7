use Rattle.std.specs.Prelude.{ℕ, List, Bool, ◌++◌, map}
use Rattle.std.specs.List.{filter, flat_map}
use Rattle.std.proofs.Common.{refl, ◌∙◌, ap, sym}
use Rattle.jani_tree.specs.Syntax.{destination_of, write_of}
use Rattle.jani_check.specs.Scopes.{thing_under}
use Rattle.jani_check.specs.Things.{is_lasting}
use Rattle.gathering.proofs.Loops.{flat_left, none_left}
use Rattle.jani_check.proofs.Parts.{filter_flat}
use Rattle.jani_check.proofs.shared.add_destinations.Goals as goal

pub loop-d-preserved : goal.loop-d-preserved
loop-d-preserved c =
    let such : List ℕ → Bool = λ y. is_lasting (thing_under c.args.global.now y) in
    flat_left (λ k. filter such (map (λ w. w.target.name) k.writes)) destination_of _ (map (λ s. s.now) c.loop-d.list.items) (map (λ s. s.now) c.add_writes.new.list.items)
    c.args.destinations.now c.loop-d.d-index c.d-item.result c.loop-d-test.true c.d-item.is c.loop-d.invariant
    (c.in_ok-add_writes.ensures ∙ ap (λ ws. map (λ s. s.now) c.loop-d.list.items ++ filter such (map (λ w. w.target.name) (map write_of ws))) c.as_slice.ensures)

pub returns : goal.returns
returns c =
    let such : List ℕ → Bool = λ y. is_lasting (thing_under c.args.global.now y) in
    none_left (λ l. flat_map (λ k. filter such (map (λ w. w.target.name) k.writes)) (map destination_of l)) _ (map (λ s. s.now) c.loop-d.list.items)
    c.args.destinations.now c.loop-d.d-index refl c.loop-d-test.false c.loop-d.invariant
    ∙ ap (λ l. map (λ s. s.now) c.args.list.now.items ++ l) (sym (filter_flat such (λ w. w.target.name) (λ k. k.writes) (map destination_of c.args.destinations.now)))
