-- The labels and the columns of the process that a PRISM file describes are identifiers of at most 255 bytes.
use Rattle.std.proofs.Common.{◌≡◌, ◌≤◌, Bool, true, false, cond, List, [], ◌∷◌, map, flat_map, length, Option, Some, None, if◌then◌else◌, ap, subst}
use Rattle.std.specs.List.{AllByRecursion as Each}
use Rattle.basics.specs.Each.{any_map, each_found, each_flat, each_join, each_map, each_with}
use Rattle.basics.specs.Options.{IfAny}
use Rattle.bridge_io.specs.declared.reason.Named.{Named}
use Rattle.decimal_json.specs.Text.{quoted}
use Rattle.op_trees.specs.Names.{is_called}
use Rattle.prism_lex.specs.Tokens.{is_name}
use Rattle.process_core.specs.Instance.{Valuation, Column}
use Rattle.process_core.specs.Ready.{Values, Name}
use Rattle.process_texts.specs.Texts.{header_text}
use Rattle.prism_tree.specs.declared.syntax.NamePair.{NamePair}
use Rattle.prism_tree.specs.Syntax.{Var, Command, Body, Module, plain, copied, File}
use Rattle.prism_names.specs.Names.{Part, copy_of, part_of, parts, module_called, module_name, renaming, unchanged}
use Rattle.prism_print.specs.Printable.{IsIdentifier, IsPrintable, IsPrintableCommand, IsPrintableModule, IsPrintablePair, IsPrintableVar, IsPrintableBody}
use Rattle.prism_check.specs.Scene.{columns_of, column, constant_names, has_condition, part_columns}
use Rattle.prism_check.specs.Moment.{command_at, names_in, moment, part_at}
use Rattle.prism_check.specs.Process.{choices, choice_rewards}
use Rattle.short_names.specs.ShortNames.{HasShortNames, ShortBody, ShortCommand, ShortModule, ShortNamed, ShortPair, ShortVar}
use Rattle.model_process.proofs.ChoiceLabels.{IsActing, modules_labelled}
use Rattle.process_texts.proofs.NameTexts.{name_lacks}
use Rattle.process_texts.proofs.StateTexts.{Lacks}
use Rattle.model_process.proofs.ReadNames.{IsReadName, identifier_read}
use Rattle.model_process.proofs.ColumnTexts.{names_no_feed}

-- an identifier of at most 255 bytes, or a reserved word
abbrev IsGood : Name → Type 0
IsGood x = (is_name x ≡ true) × (length x ≤ 255)

abbrev IsGoodNamed : Named → Type 0
IsGoodNamed x = IsGood x.name

abbrev IsGoodCommand : Command → Type 0
IsGoodCommand c = IfAny IsGoodNamed c.action

abbrev IsGoodVar : Var → Type 0
IsGoodVar x = IsGoodNamed x.name

abbrev KeepsGood : (Name → Name) → Type 0
KeepsGood rename = (x : Name) → IsGood x → IsGood (rename x)

record IsGoodPart (p : Part) : Type 0 where
  rename : KeepsGood p.rename
  vars : Each IsGoodVar p.vars
  commands : Each IsGoodCommand p.commands

-- ---- parts of modules
action_good : (o : Option Named) → IfAny IsIdentifier o → IfAny ShortNamed o → IfAny IsGoodNamed o
action_good None p s = tt
action_good (Some a) p s = (p.0, s)

vars_good : (xs : List Var) → Each IsPrintableVar xs → Each ShortVar xs → Each IsGoodVar xs
vars_good xs p s = each_with IsPrintableVar ShortVar IsGoodVar (λ x q t. (q.0.0, t.0)) xs p s

body_good : (rename : Name → Name) → KeepsGood rename → (m : Body) → IsPrintableBody m → ShortBody m → IsGoodPart (record { rename = rename; vars = m.vars; commands = m.commands })
body_good rename k m p s = record {
  rename = k;
  vars = vars_good m.vars p.1 s.1;
  commands = each_with IsPrintableCommand ShortCommand IsGoodCommand (λ c q t. action_good c.action q.0 t.0) m.commands p.2 s.2;
}

renaming_good : (ps : List NamePair) → Each IsPrintablePair ps → Each ShortPair ps → KeepsGood (renaming ps)
renaming_good [] p s x h = h
renaming_good (q ∷ ps) p s x h = by_test (is_called x q.old) (renaming_good ps p.1 s.1 x h)
  where
    by_test : (b : Bool) → IsGood (renaming ps x) → IsGood (cond b q.new.name (renaming ps x))
    by_test true k = (p.0.1.0, s.0.1)
    by_test false k = k

abbrev IsReadModule : Module → Type 0
IsReadModule m = IsPrintableModule m × ShortModule m

copy_good : (rename : Name → Name) → KeepsGood rename → (o : Option Module) → IfAny IsReadModule o → IsGoodPart (copy_of rename o)
copy_good rename k None h = record { rename = k; vars = tt; commands = tt }
copy_good rename k (Some (plain m)) h = body_good rename k m h.0 h.1
copy_good rename k (Some (copied m)) h = record { rename = k; vars = tt; commands = tt }

module _ (file : File) (form : IsPrintable file) (short : HasShortNames file) where
  modules_read : Each IsReadModule file.modules
  modules_read = each_with IsPrintableModule ShortModule IsReadModule (λ m p s. (p, s)) file.modules form.modules short.modules

  part_good : (m : Module) → IsReadModule m → IsGoodPart (part_of file m)
  part_good (plain m) h = body_good unchanged (λ x k. k) m h.0 h.1
  part_good (copied m) h =
      copy_good (renaming m.pairs) (renaming_good m.pairs h.0.3 h.1.2) (module_called file m.from.name) (each_found IsReadModule (λ u. is_called m.from.name (module_name u)) file.modules modules_read)

  parts_good : Each IsGoodPart (parts file)
  parts_good = each_map IsReadModule IsGoodPart (part_of file) part_good file.modules modules_read

  -- ---- labels
  module _ (v : Valuation) (s : Values) where
    command_acts : (p : Part) → IsGoodPart p → (c : Command) → IsGoodCommand c → IsActing IsReadName (command_at file (columns_of file v) p.rename (names_in file v s p.rename) c)
    command_acts p h c k = any_map IsGoodNamed IsReadName (λ a. p.rename a.name) (λ a g. let r = h.rename a.name g in identifier_read (p.rename a.name) r.0 r.1) c.action k

    part_acts : (p : Part) → IsGoodPart p → Each (IsActing IsReadName) (part_at file v s p)
    part_acts p h = each_map IsGoodCommand (IsActing IsReadName) (command_at file (columns_of file v) p.rename (names_in file v s p.rename)) (command_acts p h) p.commands h.commands

    pub labels_read : Each (λ c. IfAny IsReadName c.label) (choices (moment file v s) s)
    labels_read =
        modules_labelled IsReadName s (choice_rewards (moment file v s).rewards) (moment file v s).modules
        (each_map IsGoodPart (Each (IsActing IsReadName)) (part_at file v s) part_acts (parts file) parts_good)

  -- ---- columns
  abbrev IsGoodColumn : Column → Type 0
  IsGoodColumn c = IsGood c.name

  part_named : (v : Valuation) (p : Part) → IsGoodPart p → Each IsGoodColumn (part_columns file (has_condition file) v p)
  part_named v p h = each_map IsGoodVar IsGoodColumn (column (has_condition file) p.rename (constant_names file v p.rename)) (λ x k. h.rename x.name.name k) p.vars h.vars

  columns_named : (v : Valuation) → Each IsGoodColumn (columns_of file v)
  columns_named v =
      each_join IsGoodColumn (map (column (has_condition file) unchanged (constant_names file v unchanged)) file.globals) (flat_map (part_columns file (has_condition file) v) (parts file))
      (each_map IsGoodVar IsGoodColumn (column (has_condition file) unchanged (constant_names file v unchanged)) (λ x k. k) file.globals (vars_good file.globals form.globals short.globals))
      (each_flat IsGoodPart IsGoodColumn (part_columns file (has_condition file) v) (part_named v) (parts file) parts_good)

  no_feed : (x : Name) → is_name x ≡ true → Lacks 10 x
  no_feed x e = subst (Lacks 10) (ap (λ b. if b then x else quoted x) e) (name_lacks x)

  pub header_read : (v : Valuation) → Lacks 10 (header_text (map (λ c. c.name) (columns_of file v)))
  header_read v =
      names_no_feed (map (λ c. c.name) (columns_of file v))
      (each_map IsGoodColumn (Lacks 10) (λ c. c.name) (λ c k. no_feed c.name k.0) (columns_of file v) (columns_named v))
