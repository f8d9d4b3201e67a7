use Rattle.std.proofs.Common.{List, [], map, subst, refl, sym, ap}
use Rattle.op_trees.specs.Seen.{Seen}
use Rattle.op_trees.specs.Tree.{tree}
use Rattle.std.specs.Option.{option_map}
use Rattle.process_core.specs.Ready.{Update, Write}
use Rattle.expr_store.specs.Alike.{IsMade, made_both}
use Rattle.expr_store.specs.Views.{nodes}
use Rattle.prism_check.specs.Moment.{weight_seen}
use Rattle.prism_tree.specs.Operators.{prism_meaning}
use Rattle.prism_tree.specs.Syntax as syntax
use Rattle.network.specs.Views.{reward_at, weight_as, write_at}
use Rattle.prism_instance.proofs.Preparing.{made_agree}
use Rattle.prism_instance.specs.Shapes.{update_under, write_under}
use Rattle.prism_instance.specs.Views.{columns_in, places_in}
use Rattle.prism_instance.proofs.build.destination.Goals as goal

pub returns : goal.returns
returns c =
    let places = places_in c.args.names.now in
    let cs = columns_in c.args.names.now in
    let b = c.args.branch.now in
    let now = nodes c.weight.new.store in
    let end = nodes c.writes.new.store in
    let ws = c.in_ok-writes.writes.items in
    let w = c.in_ok-weight.weight in
    let whole : Seen → List Write → Update = λ s l. record { weight = s; writes = l; rewards = [] } in
    made_agree places (nodes c.args.store.now) end
    (λ at. whole (weight_as (option_map at w)) (map (λ w. write_at cs at w) ws)) _ (λ seen. update_under cs seen (syntax.branch_of b)) _
    (λ at. ap {B = Update} (λ l. record { weight = weight_as (option_map at w); writes = map (λ w. write_at cs at w) ws; rewards = map (reward_at cs at) l }) (sym c.new.ensures.items))
    (λ seen. refl)
    (made_both whole (λ at. weight_as (option_map at w)) (λ seen. weight_seen seen (option_map tree b.weight))
    (λ at. map (λ w. write_at cs at w) ws) (λ seen. map (λ w. write_under cs seen w) (map syntax.write_of b.writes))
    c.in_ok-weight.ensures
    (subst (λ l. IsMade prism_meaning places now end (λ at. map (λ w. write_at cs at w) ws) (λ seen. map (λ w. write_under cs seen w) (map syntax.write_of l))) c.as_slice.ensures c.in_ok-writes.ensures))
