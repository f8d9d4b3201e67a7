use Rattle.std.proofs.Common.{sym, ap, ◌∙◌}
use Rattle.std.specs.Prelude.{option_copied}
use Rattle.name_table.specs.Entries.{Table, next}
use Rattle.name_table.proofs.TableLemmas.{one_more}
use Rattle.name_table.proofs.table.NameTable.keep_or_make.Goals as goal

pub invariant_of-self-2 : goal.invariant_of-self-2
invariant_of-self-2 c =
    let n = c.in_ok-entry.ensures ∙ ap (λ (u : Table). next u.target u.entries c.args.class (option_copied c.args.old)) (sym c.self.view_is) in
    one_more c.self.inside.target c.self.inside.entries.items c.push.new.self.items c.args.class (option_copied c.args.old) c.in_ok-entry.entry _ c.space_in.result
    c.self.inside.taken c.add.new.self c.self.inside.counts c.add-2.new.self
    c.self.invariant n c.in_ok-push.ensures.items (c.in_ok-name.ensures.ok ∙ c.as_str.ensures) c.space_in.ensures c.in_default.ensures.ok c.add-2.ensures
