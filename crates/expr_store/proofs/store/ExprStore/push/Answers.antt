use Rattle.std.proofs.Common.{◌≡◌, [], ◌∷◌, ◌++◌, length, slice_get, sym, ap, ap₂, ◌∙◌, arith}
use Rattle.std.proofs.lemmas.List.{append-nil}
use Rattle.expr_store.specs.Nodes.{is_behind}
use Rattle.expr_store.specs.NodeLaws.{get_last}
use Rattle.expr_store.specs.Views.{nodes}
use Rattle.expr_store.proofs.store.ExprStore.push.Goals as goal

pub returns-in_err-pushed-in-Ok-clause-grows : goal.returns-in_err-pushed-in-Ok-clause-grows
returns-in_err-pushed-in-Ok-clause-grows g c = record {
  later = [];
  is = c.in_err-pushed-in-Ok.ensures.items ∙ c.note-noted.ensures ∙ sym (append-nil (nodes c.args.self.now));
}

pub returns-in_ok-pushed-in-Ok-clause-grows : goal.returns-in_ok-pushed-in-Ok-clause-grows
returns-in_ok-pushed-in-Ok-clause-grows g c = record {
  later = c.args.node ∷ [];
  is = c.in_ok-pushed-in-Ok.ensures.items ∙ ap (λ ns. ns ++ c.args.node ∷ []) c.note-noted.ensures;
}

pub returns-in_ok-pushed-in-Ok-clause-holds : goal.returns-in_ok-pushed-in-Ok-clause-holds
returns-in_ok-pushed-in-Ok-clause-holds g c =
    let ns = nodes c.args.self.now in
    let e : c.len-number.result ≡ length ns = omega (arith, c.args.self.now.nodes.ok.0) in
    record {
      is = ap₂ slice_get (c.in_ok-pushed-in-Ok.ensures.items ∙ ap (λ all. all ++ c.args.node ∷ []) c.note-noted.ensures) e ∙ get_last ns c.args.node;
      behind = ap (λ i. is_behind i c.args.node) e ∙ c.requires;
    }

pub returns-in_ok-pushed-in-Ok-clause-added : goal.returns-in_ok-pushed-in-Ok-clause-added
returns-in_ok-pushed-in-Ok-clause-added g c = c.in_ok-pushed-in-Ok.ensures.items ∙ ap (λ ns. ns ++ c.args.node ∷ []) c.note-noted.ensures
