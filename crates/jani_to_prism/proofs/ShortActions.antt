-- The actions of a translation have at most 255 bytes.
use Rattle.std.specs.Prelude.{◌≡◌, ◌<◌, ◌≤◌, ◌^◌, ℕ, List, length, map, true, ◌&&◌, is_none, nat_le}
use Rattle.std.specs.List.{zip, AllByRecursion as Each}
use Rattle.std.proofs.Common.{sym, subst, arith}
use Rattle.std.proofs.lemmas.Bool.{and_parts}
use Rattle.std.proofs.lemmas.Bool.Decides.{nat_tests}
use Rattle.basics.specs.Each.{each_at, each_drop, each_map, each_unit, each_zip}
use Rattle.process_core.specs.Ready.{Name}
use Rattle.prism_lex.specs.Tokens.{is_name}
use Rattle.prism_lex.specs.Words.{lookup, words}
use Rattle.carry_maps.specs.declared.map.LabelPair.{LabelPair}
use Rattle.jani_tree.specs.Syntax.{File}
use Rattle.name_table.specs.declared.class.NameClass.{NameClass}
use Rattle.name_table.specs.declared.class.Target.TheVariants.{Prism}
use Rattle.name_table.specs.declared.entry.Entry.{Entry}
use Rattle.name_table.specs.Rule.{is_identifier, is_valid, may_be_called}
use Rattle.name_table.specs.PrismAsks.{actions_at}
use Rattle.name_table.proofs.EntryLemmas.{one_each}
use Rattle.name_table.proofs.Valid.{all_are_valid}
use Rattle.prism_translation.specs.Modules.{Action, actions}
use Rattle.prism_translation.specs.Names.{all_asks, entries, new_names}
use Rattle.prism_translation.specs.Targets.{Target, targets}
use Rattle.jani_to_prism.specs.Maps.{pair_of}

within : (n : ℕ) → nat_le n 255 ≡ true → n ≤ 255
within n h = grind (arith, nat_tests)

short_by : (c : NameClass) (x : Name) → is_valid Prism c x ≡ true → length x ≤ 255
short_by c x h =
    let r = and_parts (is_identifier x) (may_be_called c x) h in
    let s = and_parts (is_name x) (is_none (lookup x words) && nat_le (length x) 255) r.0 in
    let t = and_parts (is_none (lookup x words)) (nat_le (length x) 255) s.1 in
    within (length x) t.1

module _ (file : File) (few : length (entries file) < 2 ^ 64) where
  abbrev IsShort : Entry → Type 0
  IsShort e = length e.name ≤ 255

  short_entries : Each IsShort (entries file)
  short_entries =
      let n = one_each Prism (all_asks file) in
      let asked : length (all_asks file) < 2 ^ 64 = omega (arith, n, few) in
      each_at IsShort (entries file) (λ i e h. short_by e.class e.name (all_are_valid Prism (all_asks file) i e asked h))

  short_actions : Each (λ t. length t.name ≤ 255) (actions file (new_names file))
  short_actions =
      let es : List Entry = (new_names file).actions in
      each_map (λ (p : Target × Entry). Unit {0} × IsShort p.1) (λ (t : Action). length t.name ≤ 255) (λ p. record { target = p.0; name = p.1.name }) (λ p h. h.1) (zip (targets file) es)
      (each_zip (λ (t : Target). Unit {0}) IsShort (targets file) es (each_unit (targets file)) (each_drop IsShort (actions_at file) (entries file) short_entries))

pub short_pairs : (file : File) (ps : List LabelPair) → length (entries file) < 2 ^ 64 → ps ≡ map pair_of (actions file (new_names file)) → Each (λ p. length p.prism ≤ 255) ps
short_pairs file ps few e =
    subst (Each (λ (p : LabelPair). length p.prism ≤ 255)) (sym e)
    (each_map (λ (t : Action). length t.name ≤ 255) (λ (p : LabelPair). length p.prism ≤ 255) pair_of (λ t h. h) (actions file (new_names file)) (short_actions file few))
