use Rattle.std.proofs.Common.{List, ℕ, ◌++◌, map}
use Rattle.std.specs.Prelude.{codes}
use Rattle.prism_tree.specs.Syntax.{item_of}
use Rattle.prism_print.specs.Text.{item_text, title_text, listed}
use Rattle.prism_print.proofs.Steps.{extend_done, and_done, text_done, list_done, five_joined}
use Rattle.prism_print.proofs.modules.PrismRewardsCanonical.write.Goals as goal

pub returns : goal.returns
returns c =
    let rewards = c.args.self.now in
    let items : List ℕ = listed (codes "  ") (codes "  ") item_text (map item_of rewards.items) in
    text_done c.and-4.result _ _ c.args.out.now.items _
    (and_done c.and-3.result c.extend_from_slice-3.result c.and-4.result (((codes "rewards" ++ title_text rewards.name) ++ codes "\n") ++ items) (codes "endrewards\n") c.args.out.now.items _ _ c.and-4.ensures
    (and_done c.and-2.result c.write_list.result c.and-3.result ((codes "rewards" ++ title_text rewards.name) ++ codes "\n") items c.args.out.now.items _ _ c.and-3.ensures
    (and_done c.and.result c.extend_from_slice-2.result c.and-2.result (codes "rewards" ++ title_text rewards.name) (codes "\n") c.args.out.now.items _ _ c.and-2.ensures
    (and_done c.extend_from_slice.result c.write_title.result c.and.result (codes "rewards") (title_text rewards.name) c.args.out.now.items _ _ c.and.ensures
    (extend_done c.extend_from_slice.result (codes "rewards") c.args.out.now.items _ c.extend_from_slice.ensures.items) c.write_title.ensures) (extend_done c.extend_from_slice-2.result (codes "\n") c.write_title.new.out.items _ c.extend_from_slice-2.ensures.items)) (list_done c.write_list.result (codes "  ") (codes "  ") item_text item_of _ rewards.items c.extend_from_slice-2.new.self.items _ c.write_list.ensures c.as_slice.ensures)) (extend_done c.extend_from_slice-3.result (codes "endrewards\n") c.write_list.new.out.items _ c.extend_from_slice-3.ensures.items))
    (five_joined (codes "rewards") (title_text rewards.name) (codes "\n") items (codes "endrewards\n"))
