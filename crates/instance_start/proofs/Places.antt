-- Columns at a place, in states and at the start.
use Rattle.std.proofs.Common.{◌≡◌, ◌≢◌, ℕ, suc, ◌<◌, ◌&&◌, false, List, [], ◌∷◌, map, length, get_or, drop, ◌+◌, ◌≤◌, ◌++◌, Option, Some, None, append-nil, append_assoc, refl, sym, ap, ◌∙◌}
use Rattle.std.specs.Option.{option_map}
use Rattle.std.proofs.Math.Bool.{and-false}
use Rattle.std.proofs.lemmas.List.{at_drop_all, get_or-map}
use Rattle.basics.specs.Lists.{drop_item}
use Rattle.op_trees.specs.declared.tree.Value.{Value}
use Rattle.process_core.specs.Product.{map-map}
use Rattle.process_core.specs.Ready.{Values}
use Rattle.process_core.specs.Choices.{all_defined, with_first}
use Rattle.process_core.specs.Instance as core
use Rattle.process_core.specs.Instance.{begin_all, begins, first_value, is_in, is_state}
use Rattle.instance_start.specs.Columns.{column_of, domain_of}
use Rattle.instance_start.specs.declared.data.Column.{Column}

pub domain_there : (cs : List Column) (i : ℕ) (c : Column) → i < length cs → domain_of (get_or cs i c).domain ≡ core.domain_at (map column_of cs) i
domain_there cs i c h =
    sym (ap (λ l. get_or l i core.Truths) (map-map (λ (d : core.Column). d.domain) column_of cs) ∙ get_or-map (λ (d : Column). domain_of d.domain) cs i c core.Truths h)

-- ---- lists of two lengths
pub lengths_differ : (cs : List Column) (s : Values) → length cs ≢ length s → is_state (map column_of cs) s ≡ false
lengths_differ [] [] h = absurd (h refl)
lengths_differ [] (v ∷ s) h = refl
lengths_differ (c ∷ cs) [] h = refl
lengths_differ (c ∷ cs) (v ∷ s) h =
    ap (λ b. is_in (domain_of c.domain) v && b) (lengths_differ cs s (λ e. h (ap suc e))) ∙ and-false (is_in (domain_of c.domain) v)

pub lengths_differ_first : (cs : List Column) (s : Values) → length cs ≢ length s → begin_all (map column_of cs) s ≡ false
lengths_differ_first [] [] h = absurd (h refl)
lengths_differ_first [] (v ∷ s) h = refl
lengths_differ_first (c ∷ cs) [] h = refl
lengths_differ_first (c ∷ cs) (v ∷ s) h =
    ap (λ b. begins (column_of c) v && b) (lengths_differ_first cs s (λ e. h (ap suc e))) ∙ and-false (begins (column_of c) v)

-- ---- first values
abbrev pub firsts : List Column → Option Values
firsts cs = all_defined (map first_value (map column_of cs))

pub no_first : (cs : List Column) (i : ℕ) (c : Column) (vs : Values) (total : Option Values) → i < length cs → c ≡ get_or cs i c → first_value (column_of c) ≡ None →
    option_map (λ ws. vs ++ ws) (firsts (drop i cs)) ≡ total → None ≡ total
no_first cs i c vs total h e n k =
    ap (λ o. option_map (λ ws. vs ++ ws) (with_first o (firsts (drop (i + 1) cs)))) (sym n) ∙ ap (λ l. option_map (λ ws. vs ++ ws) (firsts l)) (sym (drop_item cs i c h e)) ∙ k

grown : (vs : Values) (v : Value) (o : Option Values) → option_map (λ ws. (vs ++ v ∷ []) ++ ws) o ≡ option_map (λ ws. vs ++ ws) (with_first (Some v) o)
grown vs v None = refl
grown vs v (Some ws) = ap Some (append_assoc vs (v ∷ []) ws)

pub one_first : (cs : List Column) (i : ℕ) (c : Column) (v : Value) (vs new : Values) (total : Option Values) → i < length cs → c ≡ get_or cs i c → first_value (column_of c) ≡ Some v →
    new ≡ vs ++ v ∷ [] → option_map (λ ws. vs ++ ws) (firsts (drop i cs)) ≡ total → option_map (λ ws. new ++ ws) (firsts (drop (i + 1) cs)) ≡ total
one_first cs i c v vs new total h e m pushed k =
    ap (λ l. option_map (λ ws. l ++ ws) (firsts (drop (i + 1) cs))) pushed ∙ grown vs v (firsts (drop (i + 1) cs))
    ∙ ap (λ o. option_map (λ ws. vs ++ ws) (with_first o (firsts (drop (i + 1) cs)))) (sym m) ∙ ap (λ l. option_map (λ ws. vs ++ ws) (firsts l)) (sym (drop_item cs i c h e)) ∙ k

pub all_first : (cs : List Column) (i : ℕ) (vs : Values) (total : Option Values) → length cs ≤ i → option_map (λ ws. vs ++ ws) (firsts (drop i cs)) ≡ total → Some vs ≡ total
all_first cs i vs total h k = ap Some (sym (append-nil vs)) ∙ sym (at_drop_all (λ l. option_map (λ ws. vs ++ ws) (firsts l)) cs i h) ∙ k
