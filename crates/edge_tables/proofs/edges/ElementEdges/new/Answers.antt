use Rattle.std.specs.Prelude.{◌≡◌, ℕ, List, [], map, Bool, Option, Some, None}
use Rattle.std.proofs.Common.{ap, ap₂}
use Rattle.std.proofs.Math.Path.{fun_ext}
use Rattle.process_core.specs.Ready.{Name}
use Rattle.edge_tables.specs.declared.edges.ElementEdges.{ElementEdges}
use Rattle.edge_tables.specs.Tables.{Ranked}
use Rattle.gathering.specs.Lists.{list_under}
use Rattle.name_rules.proofs.Maps.{at}
use Rattle.edge_tables.specs.Code.{ranked_view, numbers_in}
use Rattle.edge_tables.proofs.edges.ElementEdges.new.Goals as goal

by_action : (t : ElementEdges) → t.silent ≡ [] → ((x : Name) → list_under t.rewarding x ≡ []) → (a : Option Name) → numbers_in t a ≡ []
by_action t s n None = s
by_action t s n (Some x) = n x

pub returns-clause-edges : goal.returns-clause-edges
returns-clause-edges c =
    ap₂ (λ (f : List Ranked) (g : (Option Name → List ℕ) × (Name → Bool)). record { edges = f; rewarding = g.0; plain = g.1 })
    (ap (map ranked_view) c.new.ensures.items)
    (ap₂ (λ (f : Option Name → List ℕ) (g : Name → Bool). (f, g))
    (fun_ext (by_action (record { element = c.args.element.now; edges = c.new.result; rewarding = c.new-2.result; silent = c.new-3.result; plain = c.new-4.result }) c.new-3.ensures c.new-2.ensures)) (fun_ext (at c.new-4.ensures)))
