use Rattle.std.specs.Prelude.{codes}
use Rattle.jani_tree.proofs.Pieces.{ends, list_some}
use Rattle.std.proofs.Common.{◌≡◌, ◌++◌, List, [], subst, sym, ap, ◌∙◌, append_assoc}
use Rattle.std.proofs.lemmas.List.{nil_from_length}
use Rattle.std.specs.Prelude.{OnOk, map}
use Rattle.jani_tree.specs.Canonical.{list_node}
use Rattle.std.specs.List.{AllByRecursion as OfAll}
use Rattle.jani_tree.specs.Text.{KeptNode, node_text}
use Rattle.jani_tree.proofs.Kept.{written, kept_seen}
use Rattle.jani_tree.proofs.spell.push_list.Goals as goal

pub returns-in_ok-push_more-in-Some-clause-text : goal.returns-in_ok-push_more-in-Some-clause-text
returns-in_ok-push_more-in-Some-clause-text g c =
    ends c.extend_from_slice-in-Some-2.result _ c.push_more.new.out.items (codes "]") c.extend_from_slice-in-Some-2.ensures.items
    (λ h. list_some g.T.Shown.shown g.T.Shown.seen c.args.trees.now c.as_slice.result.now c.in-Some.more.now c.in-Some.x.now c.args.lead.now c.args.out.now.items _ _ _ _ _
    c.as_slice.ensures c.in-Some.ensures.cases.0 c.in_ok-extend_from_slice.ensures.items c.in_ok-extend_from_slice-in-Some.ensures.items c.in_ok-push-in-Some.ensures.text c.in_ok-push_more-in-Some.ensures.text h)

pub returns-in_ok-push_more-in-Some-clause-kept : goal.returns-in_ok-push_more-in-Some-clause-kept
returns-in_ok-push_more-in-Some-clause-kept g c =
    written c.extend_from_slice-in-Some-2.result
    (kept_seen g.T.Shown.shown g.T.Shown.seen 0 c.args.trees.now
    (subst (OfAll (λ x. KeptNode (g.T.Shown.shown (g.T.Shown.seen x)))) (sym c.in-Some.ensures.cases.0 ∙ c.as_slice.ensures) (c.in_ok-push-in-Some.ensures.kept, c.in_ok-push_more-in-Some.ensures.kept)))

pub returns-in-None-clause-text : goal.returns-in-None-clause-text
returns-in-None-clause-text g c =
    let none = sym c.as_slice.ensures ∙ nil_from_length _ c.in-None.ensures.cases in
    subst (λ (ts : List _). OnOk c.extend_from_slice-in-None.result (c.extend_from_slice-in-None.new.self.items ≡ c.args.out.now.items ++ (c.args.lead.now ++ node_text (list_node g.T.Shown.shown 0 (map g.T.Shown.seen ts))))) (sym none)
    (ends c.extend_from_slice-in-None.result _ c.extend_from_slice.new.self.items (codes "[]") c.extend_from_slice-in-None.ensures.items
    (λ h. h ∙ (ap (λ u. u ++ codes "[]") c.in_ok-extend_from_slice.ensures.items ∙ append_assoc c.args.out.now.items c.args.lead.now (codes "[]"))))

pub returns-in-None-clause-kept : goal.returns-in-None-clause-kept
returns-in-None-clause-kept g c =
    let none = sym c.as_slice.ensures ∙ nil_from_length _ c.in-None.ensures.cases in
    subst (λ (ts : List _). OnOk c.extend_from_slice-in-None.result (KeptNode (list_node g.T.Shown.shown 0 (map g.T.Shown.seen ts)))) (sym none)
    (written c.extend_from_slice-in-None.result (kept_seen g.T.Shown.shown g.T.Shown.seen 0 [] tt))
