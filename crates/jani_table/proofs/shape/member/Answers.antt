use Rattle.std.proofs.Common.{◌≡◌, ℕ, ◌+◌, ◌<◌, List, ◌∷◌, length, drop, get_or, Bool, bytes_eq, Some, if◌then◌else◌, sym, ap, ap₂, ◌∙◌}
use Rattle.std.proofs.lemmas.List.{at_drop_more, at_drop_all}
use Rattle.bridge_io.specs.declared.reason.Named.{Named}
use Rattle.decimal_json.specs.declared.tree.Member.{Member}
use Rattle.jani_table.specs.Faults.{member}
use Rattle.jani_table.specs.Node.{Node, fields, node}
use Rattle.jani_table.specs.NodeLaws.{node_named}
use Rattle.jani_table.specs.Table.{spelled}
use Rattle.jani_table.specs.declared.key.Key.{Key}
use Rattle.jani_table.proofs.shape.member.Goals as goal

-- a member is the one that is sought or it isn't
tested : (key : Key) (ms : List Member) (i : ℕ) (m : Member) (s t : List ℕ) (r b : Bool) → i < length ms → m ≡ get_or ms i m →
    s ≡ spelled key → t ≡ m.key.name → r ≡ bytes_eq s t → r ≡ b → (if b then Some (node m.value) else member key (fields (drop (i + 1) ms))) ≡ member key (fields (drop i ms))
tested key ms i m s t r b h g d e f q =
    ap (λ x. if x then Some (node m.value) else member key (fields (drop (i + 1) ms))) (sym q ∙ f ∙ ap₂ bytes_eq d e)
    ∙ ap (λ (n : Named × Node). if bytes_eq (spelled key) n.0.name then Some n.1 else member key (fields (drop (i + 1) ms))) (sym (node_named m))
    ∙ ap (λ x. member key (fields (x ∷ drop (i + 1) ms))) g
    ∙ sym (at_drop_more (λ l. member key (fields l)) ms i m h)

pub returns-then-eq : goal.returns-then-eq
returns-then-eq c =
    tested c.args.key c.args.members.now c.loop-m.m-index c.m-item.result _ _ _ _ c.loop-m-test.true c.m-item.is c.text.ensures c.as_str.ensures c.eq.ensures c.if-eq.true
    ∙ c.loop-m.invariant

pub loop-m-preserved : goal.loop-m-preserved
loop-m-preserved c =
    tested c.args.key c.args.members.now c.loop-m.m-index c.m-item.result _ _ _ _ c.loop-m-test.true c.m-item.is c.text.ensures c.as_str.ensures c.eq.ensures c.if-eq.false
    ∙ c.loop-m.invariant

pub returns : goal.returns
returns c = sym (at_drop_all (λ l. member c.args.key (fields l)) c.args.members.now c.loop-m.m-index c.loop-m-test.false) ∙ c.loop-m.invariant
