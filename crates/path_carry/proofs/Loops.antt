-- One step further in the loops over columns, lines and steps.
use Rattle.std.proofs.Common.{◌≡◌, ℕ, ◌+◌, ◌<◌, ◌≤◌, ◌&&◌, List, [], ◌∷◌, ◌++◌, map, length, Bool, false, if◌then◌else◌, Option, Some, None, Err, get_or, slice_set, drop, take, replicate, refl, sym, ap, ap₂, ◌∙◌, subst, arith, append_assoc}
use Rattle.std.specs.List.{All}
use Rattle.std.proofs.lemmas.List.{length-map, drop_all, drop-map, get_or-map, get_or_default, take_more, map-append}
use Rattle.basics.specs.Lists.{drop_item}
use Rattle.op_trees.specs.declared.tree.Value.{Value}
use Rattle.process_core.specs.Answers.{FailsBy}
use Rattle.process_core.specs.Bounds.{Excess, IsWide, IsTooMany}
use Rattle.process_core.specs.declared.data.StepFail.{StepFail}
use Rattle.process_core.specs.declared.data.StepFail.TheVariants as S
use Rattle.process_core.specs.Ready.{Values, Name}
use Rattle.process_core.specs.Steps.{Process}
use Rattle.process_core.specs.declared.data.State.{State}
use Rattle.choice_laws.specs.Columns.{at_start, state_by, value_at, counting}
use Rattle.choice_laws.proofs.Columns.{length-counting}
use Rattle.carry_maps.specs.declared.map.Column.{Column}
use Rattle.carry_maps.specs.declared.map.LabelPair.{LabelPair}
use Rattle.carry_maps.specs.declared.map.CarryMap.{CarryMap}
use Rattle.path_carry.specs.declared.data.Carried.{Carried}
use Rattle.path_carry.specs.declared.data.Carried.TheVariants as C
use Rattle.path_carry.specs.Chosen.{Chooses, fail_at}
use Rattle.carry_maps.specs.Maps.{column_number, column_numbers, candidates}
use Rattle.path_carry.specs.Carried.{lost_step, chosen, chosen_labels, first_excess, excess_at}
use Rattle.path_carry.specs.Texts.{step_line, step_lines}
use Rattle.path_carry.proofs.Columns.{no_columns, one_column}

-- ---- a state carried to JANI, from its last column on
pub numbers_length : (m : CarryMap) → length (column_numbers m) ≡ length m.columns
numbers_length m = length-map m.columns (column_number (length m.locations))

pub jani_begun : (m : CarryMap) (n k : ℕ) (s : Values) → k ≡ length m.columns → length s ≡ length m.columns → replicate n at_start ≡ state_by (drop k (column_numbers m)) n (drop k s)
jani_begun m n k s e f =
    let l = numbers_length m in
    sym (ap₂ (λ a b. state_by a n b) (drop_all k (column_numbers m) (omega arith)) (drop_all k s (omega arith)) ∙ no_columns 0 n)

-- the column at a place, by its number
pub number_at : (m : CarryMap) (k : ℕ) (c : Column) → k < length m.columns → c ≡ get_or m.columns k c → drop k (column_numbers m) ≡ column_number (length m.locations) c ∷ drop (k + 1) (column_numbers m)
number_at m k c l e =
    let g = column_number (length m.locations) in
    drop-map g k m.columns ∙ ap (map g) (drop_item m.columns k c l e) ∙ ap (λ r. g c ∷ r) (sym (drop-map g (k + 1) m.columns))

pub jani_step : (m : CarryMap) (n k i : ℕ) (s vs : Values) (c : Column) (v : Value) → k < length m.columns → length s ≡ length m.columns → c ≡ get_or m.columns k c → v ≡ get_or s k v →
    i ≡ column_number (length m.locations) c → i < n → vs ≡ state_by (drop (k + 1) (column_numbers m)) n (drop (k + 1) s) → slice_set vs i v ≡ state_by (drop k (column_numbers m)) n (drop k s)
jani_step m n k i s vs c v l e f g h b r =
    ap (λ x. slice_set x i v) r
    ∙ one_column i n (drop (k + 1) (column_numbers m)) v (drop (k + 1) s) b
    ∙ ap (λ j. state_by (j ∷ drop (k + 1) (column_numbers m)) n (v ∷ drop (k + 1) s)) h
    ∙ ap₂ (λ x y. state_by x n y) (sym (number_at m k c l f)) (sym (drop_item s k v (omega arith) g))

-- the column there is one of n
pub below_at : (m : CarryMap) (n k : ℕ) (d : Column) → All (λ i. i < n) (column_numbers m) → k < length m.columns → column_number (length m.locations) (get_or m.columns k d) < n
below_at m n k d h l =
    subst (λ x. x < n) (get_or-map (column_number (length m.locations)) m.columns k d 0 l) (h k 0 (subst (λ j. k < j) (sym (numbers_length m)) l))

-- the values of a PRISM state, one column more
pub values_more : (m : CarryMap) (k : ℕ) (u vs new : Values) (c : Column) (i : ℕ) (v : Value) → k < length m.columns → c ≡ get_or m.columns k c → i ≡ column_number (length m.locations) c → v ≡ get_or u i at_start →
    new ≡ vs ++ v ∷ [] → vs ≡ map (λ j. get_or u j at_start) (take k (column_numbers m)) → new ≡ map (λ j. get_or u j at_start) (take (k + 1) (column_numbers m))
values_more m k u vs new c i v l e f g h r =
    let g' : ℕ → Value = λ j. get_or u j at_start in
    let cols = column_numbers m in
    let within : k < length cols = subst (λ j. k < j) (sym (numbers_length m)) l in
    let there : get_or cols k 0 ≡ i = get_or-map (column_number (length m.locations)) m.columns k c 0 l ∙ ap (column_number (length m.locations)) (sym e) ∙ sym f in
    h ∙ ap₂ (λ x y. x ++ y ∷ []) r (g ∙ ap g' (sym there))
    ∙ sym (ap (map g') (take_more cols k 0 within) ∙ map-append g' (take k cols) (get_or cols k 0 ∷ []))

pub state_long : (cols : List ℕ) (n : ℕ) (s : Values) → length (state_by cols n s) ≡ n
state_long cols n s = length-map (counting 0 n) (value_at cols s) ∙ length-counting 0 n

-- ---- lines
pub lost_no_label : (is : Values → Bool) (has : Option Name → Bool) (k : ℕ) (ss : List State) (ls : List (Option Name)) (l : Option Name) → k + 1 < length ss → k < length ls → l ≡ get_or ls k l → has l ≡ false →
    lost_step is has (k + 1) (drop (k + 1) ss) (drop k ls) ≡ Some (k + 1)
lost_no_label is has k ss ls l a b f e =
    let d : State = record { values = [] } in
    let s = get_or ss (k + 1) d in
    ap₂ (λ x y. lost_step is has (k + 1) x y) (drop_item ss (k + 1) s a (get_or_default ss (k + 1) d s a)) (drop_item ls k l b f)
    ∙ ap (λ x. if x && is s.values then lost_step is has (k + 1 + 1) (drop (k + 1 + 1) ss) (drop (k + 1) ls) else Some (k + 1)) e

pub lost_more : (is : Values → Bool) (has : Option Name → Bool) (k : ℕ) (ss : List State) (ls : List (Option Name)) (s : State) (l : Option Name) →
    k + 1 < length ss → k < length ls → s ≡ get_or ss (k + 1) s → l ≡ get_or ls k l →
    lost_step is has (k + 1) (drop (k + 1) ss) (drop k ls) ≡ (if has l && is s.values then lost_step is has (k + 1 + 1) (drop (k + 1 + 1) ss) (drop (k + 1) ls) else Some (k + 1))
lost_more is has k ss ls s l a b e f = ap₂ (λ x y. lost_step is has (k + 1) x y) (drop_item ss (k + 1) s a e) (drop_item ls k l b f)

-- ---- the text of steps
pub lines_more : (k : ℕ) (ss : List State) (ls : List (Option Name)) (s : State) (l : Option Name) → k + 1 < length ss → k < length ls → s ≡ get_or ss (k + 1) s → l ≡ get_or ls k l →
    step_lines (drop k ls) (drop (k + 1) ss) ≡ step_line l s ++ step_lines (drop (k + 1) ls) (drop (k + 1 + 1) ss)
lines_more k ss ls s l a b e f = ap₂ step_lines (drop_item ls k l b f) (drop_item ss (k + 1) s a e)

pub text_more : (out new all : List ℕ) (k : ℕ) (ss : List State) (ls : List (Option Name)) (s : State) (l : Option Name) → k + 1 < length ss → k < length ls → s ≡ get_or ss (k + 1) s → l ≡ get_or ls k l →
    new ≡ out ++ step_line l s → out ++ step_lines (drop k ls) (drop (k + 1) ss) ≡ all → new ++ step_lines (drop (k + 1) ls) (drop (k + 1 + 1) ss) ≡ all
text_more out new all k ss ls s l a b e f g h =
    ap (λ t. t ++ step_lines (drop (k + 1) ls) (drop (k + 1 + 1) ss)) g
    ∙ append_assoc out (step_line l s) (step_lines (drop (k + 1) ls) (drop (k + 1 + 1) ss))
    ∙ ap (λ t. out ++ t) (sym (lines_more k ss ls s l a b e f)) ∙ h

-- ---- chosen labels
module _ (p : Process) (ps : List LabelPair) (k : ℕ) (ss : List State) (ls : List (Option Name)) (s t : State) (l : Option Name)
    (a : k + 1 < length ss) (b : k < length ls) (es : s ≡ get_or ss k s) (et : t ≡ get_or ss (k + 1) t) (el : l ≡ get_or ls k l) where
  states_here : drop k ss ≡ s ∷ t ∷ drop (k + 1 + 1) ss
  states_here = drop_item ss k s (omega arith) es ∙ ap (λ r. s ∷ r) (drop_item ss (k + 1) t a et)

  pub chosen_more : (new all : List (Option Name)) (x : Option Name) → x ≡ chosen (candidates ps l) (p.choices s.values) t.values → new ++ chosen_labels p ps (drop k ss) (drop k ls) ≡ all →
      (new ++ x ∷ []) ++ chosen_labels p ps (drop (k + 1) ss) (drop (k + 1) ls) ≡ all
  chosen_more new all x e h =
      append_assoc new (x ∷ []) (chosen_labels p ps (drop (k + 1) ss) (drop (k + 1) ls))
      ∙ ap (λ y. new ++ (y ∷ chosen_labels p ps (drop (k + 1) ss) (drop (k + 1) ls))) e
      ∙ ap (λ r. new ++ (chosen (candidates ps l) (p.choices s.values) t.values ∷ chosen_labels p ps r (drop (k + 1) ls))) (drop_item ss (k + 1) t a et)
      ∙ sym (ap₂ (λ x y. new ++ chosen_labels p ps x y) states_here (drop_item ls k l b el))
      ∙ h

  pub excess_here : first_excess p k (drop k ss) (drop k ls) ≡ excess_at k (p.excess s.values) (first_excess p (k + 1) (drop (k + 1) ss) (drop (k + 1) ls))
  excess_here = ap₂ (λ x y. first_excess p k x y) (drop_item ss k s (omega arith) es) (drop_item ls k l b el)

  pub excess_more : (all : Option Carried) → p.excess s.values ≡ None → first_excess p k (drop k ss) (drop k ls) ≡ all → first_excess p (k + 1) (drop (k + 1) ss) (drop (k + 1) ls) ≡ all
  excess_more all e h = sym (excess_here ∙ ap (λ x. excess_at k x (first_excess p (k + 1) (drop (k + 1) ss) (drop (k + 1) ls))) e) ∙ h

  pub excess_ends : (all : Option Carried) (x : Excess) (c : Carried) → p.excess s.values ≡ Some x → excess_at k (Some x) (first_excess p (k + 1) (drop (k + 1) ss) (drop (k + 1) ls)) ≡ Some c → first_excess p k (drop k ss) (drop k ls) ≡ all → all ≡ Some c
  excess_ends all x c e f h = sym h ∙ excess_here ∙ ap (λ y. excess_at k y (first_excess p (k + 1) (drop (k + 1) ss) (drop (k + 1) ls))) e ∙ f

  pub fails_here : (f : StepFail) → FailsBy (p.excess s.values) f → first_excess p k (drop k ss) (drop k ls) ≡ first_excess p 0 ss ls → Chooses p ps ss ls (Err (fail_at k f))
  fails_here (S.Memory e) h i = tt
  fails_here S.Wide h i = excess_ends _ IsWide (C.Wide k) h refl i
  fails_here S.TooMany h i = excess_ends _ IsTooMany (C.TooMany k) h refl i

pub chosen_end : (p : Process) (ps : List LabelPair) (k : ℕ) (ss : List State) (ls : List (Option Name)) → length ls ≤ k → chosen_labels p ps (drop k ss) (drop k ls) ≡ []
chosen_end p ps k ss ls l = ap (chosen_labels p ps (drop k ss)) (drop_all k ls l) ∙ none (drop k ss)
  where
    none : (ss : List State) → chosen_labels p ps ss [] ≡ []
    none [] = refl
    none (s ∷ []) = refl
    none (s ∷ t ∷ ss) = refl

pub excess_end : (p : Process) (k : ℕ) (ss : List State) (ls : List (Option Name)) → length ls ≤ k → first_excess p k (drop k ss) (drop k ls) ≡ None
excess_end p k ss ls l = ap (first_excess p k (drop k ss)) (drop_all k ls l) ∙ none k (drop k ss)
  where
    none : (k : ℕ) (ss : List State) → first_excess p k ss [] ≡ None
    none k [] = refl
    none k (s ∷ ss) = refl
