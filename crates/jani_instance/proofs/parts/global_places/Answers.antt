use Rattle.std.proofs.Common.{◌∙◌, ◌+◌, ◌&&◌, ap, sym}
use Rattle.std.specs.Prelude.{ℕ, bytes_eq}
use Rattle.name_rules.specs.Names.{put_first, under}
use Rattle.instance_start.specs.declared.data.Place.TheVariants.{Variable}
use Rattle.jani_meaning.specs.Elements.{is_global}
use Rattle.jani_instance.specs.Parts.{owned_at}
use Rattle.jani_instance.proofs.Placed.{placed_more, placed_none}
use Rattle.jani_instance.proofs.parts.global_places.Goals as goal
use Rattle.jani_instance.proofs.parts.global_places.Goals.{then-is_unowned+in_ok-put_first, else-is_unowned}

pub loop-k-init : goal.loop-k-init
loop-k-init c = λ x. ap (λ f. f x) c.new-places.ensures

pub loop-k-preserved : goal.loop-k-preserved
loop-k-preserved c =
    let o = c.index-vars-k.result in
    let F = λ (n : ℕ). Variable (c.args.first + n) in
    λ x. elim c.if-is_unowned.branch [
      | then-is_unowned+in_ok-put_first w ↦
          ap (λ m. under m x) w.places-is
          ∙ placed_more F (is_global x) owned_at c.args.vars.now c.loop-k.k o (under c.loop-k.places x) _ (bytes_eq o.var.now.name.name x) c.loop-k-test.true c.index-vars-k.is (c.loop-k.invariant x)
          (ap (λ f. f x) w.in_ok-put_first.ensures ∙ ap (λ n. put_first (under c.loop-k.places) n (F c.loop-k.k) x) w.as_str.ensures)
          (ap (λ b. b && bytes_eq o.var.now.name.name x) (sym c.is_unowned.ensures ∙ w.if-is_unowned.true))
      | else-is_unowned w ↦
          ap (λ m. under m x) w.places-is
          ∙ placed_none F (is_global x) owned_at c.args.vars.now c.loop-k.k o (under c.loop-k.places x) c.loop-k-test.true c.index-vars-k.is (c.loop-k.invariant x)
          (ap (λ b. b && bytes_eq o.var.now.name.name x) (sym c.is_unowned.ensures ∙ w.if-is_unowned.false))
    ]
