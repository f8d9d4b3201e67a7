-- Paths of one process as paths of the other.
use Rattle.std.proofs.Common.{◌≡◌, ◌↔◌, ℕ, suc, ◌+◌, ◌||◌, ◌&&◌, not, List, [], ◌∷◌, map, length, Bool, true, false, cond, IsTrue, Option, Some, None, if◌then◌else◌, refl, sym, ap, ap₂, ◌∙◌, arith}
use Rattle.std.specs.List.{list_any, find, filter, AllByRecursion as Each}
use Rattle.std.proofs.lemmas.Bool.{and_from}
use Rattle.basics.specs.Booleans.{second_true}
use Rattle.frac_core.specs.Fraction.{Fraction}
use Rattle.process_core.specs.Process.{Choice}
use Rattle.process_core.specs.Paths.{leads_to, is_step, IsPathFrom}
use Rattle.process_core.specs.Equal.{same_label_is}
use Rattle.process_core.specs.Ready.{Values, Name, same_label}
use Rattle.process_core.specs.Steps.{Process, IsProcess}
use Rattle.process_core.specs.declared.data.State.{State}
use Rattle.row_check.specs.declared.data.ReadPath.{ReadPath}
use Rattle.row_check.specs.Paths.{read_steps, IsPathAlong, IsOwnPath}
use Rattle.row_check.proofs.Walked.{step_reaches}
use Rattle.carry_maps.specs.declared.map.LabelPair.{LabelPair}
use Rattle.carry_maps.specs.declared.map.CarryMap.{CarryMap}
use Rattle.carry_maps.specs.Maps.{jani_state, prism_state, jani_label, has_pair, candidates, has_candidate, AreSameBy, HasLabels}
use Rattle.path_carry.specs.Carried.{lost_step, lost_from, lost_line, jani_states, jani_path, label_or, chosen, chosen_labels, prism_states, prism_path}
use Rattle.path_carry.proofs.Images.{step_image, step_has, labels_there, none_lacks}
use Rattle.path_carry.proofs.Pairs.{is_candidate_for, label_has_candidate, labels_apart}
use Rattle.path_carry.proofs.Columns.{prism_state_is, carried_there}

-- ---- which lines are lost
module _ (p : Process) (lawful : IsProcess p) (has : Option Name → Bool) (labels : (s : Values) → IsTrue (p.is_state s) → list_any (λ c. not (has c.label)) (p.choices s) ≡ false) where
  walked : (k : ℕ) (s : State) (ss : List State) (ls : List (Option Name)) → IsTrue (p.is_state s.values) → IsPathFrom p s.values (read_steps ss ls) → lost_step p.is_state has k ss ls ≡ None
  walked k s [] ls h a = refl
  walked k s (t ∷ ss) [] h a = refl
  walked k s (t ∷ ss) (l ∷ ls) h a =
      let is = step_reaches p.is_state l t.values (p.choices s.values) (lawful.proper s.values h) a.0 in
      ap (λ b. if b then lost_step p.is_state has (k + 1) ss ls else Some k) (and_from (has l) (p.is_state t.values) (step_has has l t.values (p.choices s.values) (labels s.values h) a.0) is)
      ∙ walked (k + 1) t ss ls is a.1

  from_start : (ss : List State) (ls : List (Option Name)) → IsPathAlong p ss ls → lost_from p.is_state has ss ls ≡ None
  from_start [] ls h = absurd h
  from_start (s ∷ ss) ls h =
      let is = lawful.initial s.values h.0 in
      ap (λ b. if b then lost_step p.is_state has 1 ss ls else Some 0) is ∙ walked 1 s ss ls is h.1

  -- none of a path of the process
  pub none_lost : (path : ReadPath) → IsOwnPath p path → lost_line p.is_state has path ≡ None
  none_lost path h = from_start path.states path.labels h

-- where none is lost, each state is one, and each label can be carried
pub record AreHere (is : Values → Bool) (has : Option Name → Bool) (ss : List State) (ls : List (Option Name)) : Type 0 where
  pub states : Each (λ s. IsTrue (is s.values)) ss
  pub labels : Each (λ l. has l ≡ true) ls

steps_here : (is : Values → Bool) (has : Option Name → Bool) (k : ℕ) (ss : List State) (ls : List (Option Name)) → length ss ≡ length ls → lost_step is has k ss ls ≡ None → AreHere is has ss ls
steps_here is has k [] [] l h = record { states = tt; labels = tt }
steps_here is has k [] (x ∷ ls) l h = absurd (let no : 0 ≡ suc (length ls) = l in omega arith)
steps_here is has k (s ∷ ss) [] l h = absurd (let no : suc (length ss) ≡ 0 = l in omega arith)
steps_here is has k (s ∷ ss) (x ∷ ls) l h = by_tests (has x) (is s.values) refl refl h (steps_here is has (k + 1) ss ls (let e : suc (length ss) ≡ suc (length ls) = l in omega arith))
  where
    by_tests : (a b : Bool) → has x ≡ a → is s.values ≡ b → (if a && b then lost_step is has (k + 1) ss ls else Some k) ≡ None → (lost_step is has (k + 1) ss ls ≡ None → AreHere is has ss ls) → AreHere is has (s ∷ ss) (x ∷ ls)
    by_tests true true e f g ih = let r = ih g in record { states = (f, r.states); labels = (e, r.labels) }
    by_tests true false e f g ih = absurd cc
    by_tests false b e f g ih = absurd cc

pub none_is_lost : (is : Values → Bool) (has : Option Name → Bool) (path : ReadPath) → length path.states ≡ suc (length path.labels) → lost_line is has path ≡ None → AreHere is has path.states path.labels
none_is_lost is has path l h = by_states path.states path.labels l h
  where
    by_states : (ss : List State) (ls : List (Option Name)) → length ss ≡ suc (length ls) → lost_from is has ss ls ≡ None → AreHere is has ss ls
    by_states [] ls l h = absurd (let no : 0 ≡ suc (length ls) = l in omega arith)
    by_states (s ∷ ss) ls l h = by_test (is s.values) refl h
      where
        by_test : (b : Bool) → is s.values ≡ b → (if b then lost_step is has 1 ss ls else Some 0) ≡ None → AreHere is has (s ∷ ss) ls
        by_test true e g = let r = steps_here is has 1 ss ls (let f : suc (length ss) ≡ suc (length ls) = l in omega arith) g in record { states = (e, r.states); labels = r.labels }
        by_test false e g = absurd cc

-- ---- the chosen label
module _ (l : Option Name) (rest : List (Option Name)) (t : Values) where
  abbrev passes : Choice Name Fraction Values → Bool
  passes c = list_any (same_label c.label) (l ∷ rest) && leads_to t c.outcome

  or_true : (b : Bool) → (b || true) ≡ true
  or_true true = refl
  or_true false = refl

  found_step : (cs : List (Choice Name Fraction Values)) (c : Choice Name Fraction Values) → find passes cs ≡ Some c → (is_step cs c.label t ≡ true) × (list_any passes cs ≡ true)
  found_step [] c e = absurd cc
  found_step (d ∷ ds) c e = by_test (found_step ds c) (passes d) refl e
    where
      by_test : (find passes ds ≡ Some c → (is_step ds c.label t ≡ true) × (list_any passes ds ≡ true)) → (b : Bool) → passes d ≡ b → cond b (Some d) (find passes ds) ≡ Some c →
          (((same_label c.label d.label && leads_to t d.outcome) || is_step ds c.label t) ≡ true) × ((passes d || list_any passes ds) ≡ true)
      by_test ih true f g =
          let same : d ≡ c = cc in (
            ap (λ b. b || is_step ds c.label t)
                (and_from (same_label c.label d.label) (leads_to t d.outcome) ((same_label_is c.label d.label).1 (ap (λ (x : Choice Name Fraction Values). x.label) (sym same))) (second_true (list_any (same_label d.label) (l ∷ rest)) _ f)),
            ap (λ b. b || list_any passes ds) f,
          )
      by_test ih false f g =
          let r = ih g in
          (ap (λ b. (same_label c.label d.label && leads_to t d.outcome) || b) r.0 ∙ or_true (same_label c.label d.label && leads_to t d.outcome), ap (λ b. passes d || b) r.1 ∙ or_true (passes d))

  no_step : (cs : List (Choice Name Fraction Values)) → find passes cs ≡ None → (is_step cs l t ≡ false) × (list_any passes cs ≡ false)
  no_step [] e = (refl, refl)
  no_step (d ∷ ds) e = by_test (no_step ds) (passes d) refl e
    where
      lacks : (a b : Bool) → same_label l d.label ≡ a → leads_to t d.outcome ≡ b → passes d ≡ false → (a && b) ≡ false
      lacks false b f g h = refl
      lacks true false f g h = refl
      lacks true true f g h =
          let first : same_label d.label l ≡ true = (same_label_is d.label l).1 (sym ((same_label_is l d.label).0 f)) in
          let yes : passes d ≡ true = and_from (list_any (same_label d.label) (l ∷ rest)) (leads_to t d.outcome) (ap (λ b. b || list_any (same_label d.label) rest) first) g in
          sym yes ∙ h

      by_test : (find passes ds ≡ None → (is_step ds l t ≡ false) × (list_any passes ds ≡ false)) → (b : Bool) → passes d ≡ b → cond b (Some d) (find passes ds) ≡ None →
          (((same_label l d.label && leads_to t d.outcome) || is_step ds l t) ≡ false) × ((passes d || list_any passes ds) ≡ false)
      by_test ih true f g = absurd cc
      by_test ih false f g =
          let r = ih g in
          (ap₂ (λ a b. a || b) (lacks (same_label l d.label) (leads_to t d.outcome) refl refl f) r.0, ap₂ (λ a b. a || b) f r.1)

  -- it has the step exactly where one of the labels does
  pub chosen_step : (cs : List (Choice Name Fraction Values)) → is_step cs (label_or l (find passes cs)) t ≡ list_any passes cs
  chosen_step cs = by_found (find passes cs) refl
    where
      by_found : (o : Option (Choice Name Fraction Values)) → find passes cs ≡ o → is_step cs (label_or l o) t ≡ list_any passes cs
      by_found (Some c) e = let r = found_step cs c e in r.0 ∙ sym r.1
      by_found None e = let r = no_step cs e in r.0 ∙ sym r.1

some_first : (ps : List LabelPair) (l : Option Name) → has_candidate ps l ≡ true → (x : Option Name) × (rest : List (Option Name)) × (candidates ps l ≡ x ∷ rest)
some_first ps None h = (None, _, refl)
some_first ps (Some y) h = by_pairs ps h
  where
    by_pairs : (qs : List LabelPair) → list_any (λ p. same_label (Some y) p.jani) qs ≡ true → (x : Option Name) × (rest : List (Option Name)) × (candidates qs (Some y) ≡ x ∷ rest)
    by_pairs [] k = absurd cc
    by_pairs (q ∷ qs) k = by_test (same_label (Some y) q.jani) refl k (by_pairs qs)
      where
        by_test : (b : Bool) → same_label (Some y) q.jani ≡ b → (b || list_any (λ p. same_label (Some y) p.jani) qs) ≡ true →
            (list_any (λ p. same_label (Some y) p.jani) qs ≡ true → (x : Option Name) × (rest : List (Option Name)) × (candidates qs (Some y) ≡ x ∷ rest)) →
            (x : Option Name) × (rest : List (Option Name)) × (candidates (q ∷ qs) (Some y) ≡ x ∷ rest)
        by_test true e k ih = (Some q.prism, _, ap (λ b. map (λ (p : LabelPair). Some p.prism) (cond b (q ∷ filter (λ p. same_label (Some y) p.jani) qs) (filter (λ p. same_label (Some y) p.jani) qs))) e)
        by_test false e k ih = let r = ih k in (r.0, r.1, ap (λ b. map (λ (p : LabelPair). Some p.prism) (cond b (q ∷ filter (λ p. same_label (Some y) p.jani) qs) (filter (λ p. same_label (Some y) p.jani) qs))) e ∙ r.2)

-- ---- steps of the two processes
module _ (m : CarryMap) (p j : Process) (lawful : IsProcess p) (by : AreSameBy m p j) where
  step_to_jani : HasLabels m.labels → (s t : Values) (l : Option Name) → IsTrue (p.is_state s) → IsTrue (p.is_state t) → has_pair m.labels l ≡ true →
      is_step (j.choices (jani_state m (length j.columns) s)) (jani_label m.labels l) (jani_state m (length j.columns) t) ≡ is_step (p.choices s) l t
  step_to_jani hl s t l h k e =
      step_image p j (jani_label m.labels) (jani_state m (length j.columns)) (has_pair m.labels) lawful by.same by.labels (same_label l) (jani_label m.labels l)
      (λ x f. labels_apart m.labels hl l x e f) s t h k

  step_to_prism : (u v : Values) (l : Option Name) → IsTrue (j.is_state u) → IsTrue (j.is_state v) → has_candidate m.labels l ≡ true →
      is_step (p.choices (prism_state m u)) (chosen (candidates m.labels l) (p.choices (prism_state m u)) (prism_state m v)) (prism_state m v) ≡ is_step (j.choices u) l v
  step_to_prism u v l h k e =
      let a = some_first m.labels l e in
      let cs = p.choices (prism_state m u) in
      let t = prism_state m v in
      let s_is = prism_state_is m p j (jani_label m.labels) lawful by.columns by.same u h in
      let t_is = prism_state_is m p j (jani_label m.labels) lawful by.columns by.same v k in
      let s_back = carried_there m p j (jani_label m.labels) lawful by.columns by.same u h in
      let t_back = carried_there m p j (jani_label m.labels) lawful by.columns by.same v k in
      ap (λ ls. is_step cs (chosen ls cs t) t) a.2
      ∙ chosen_step a.0 a.1 t cs
      ∙ ap (λ ls. list_any (λ c. list_any (same_label c.label) ls && leads_to t c.outcome) cs) (sym a.2)
      ∙ sym (step_image p j (jani_label m.labels) (jani_state m (length j.columns)) (has_pair m.labels) lawful by.same by.labels (λ x. list_any (same_label x) (candidates m.labels l)) l
      (λ x f. is_candidate_for m.labels by.columns.actions l x f) (prism_state m u) t s_is t_is)
      ∙ ap₂ (λ x y. is_step (j.choices x) l y) s_back t_back

  -- ---- along paths
  steps_to_jani : HasLabels m.labels → (s : State) (ss : List State) (ls : List (Option Name)) → IsTrue (p.is_state s.values) → Each (λ t. IsTrue (p.is_state t.values)) ss → Each (λ l. has_pair m.labels l ≡ true) ls →
      IsPathFrom p s.values (read_steps ss ls) ↔ IsPathFrom j (jani_state m (length j.columns) s.values) (read_steps (jani_states m (length j.columns) ss) (map (jani_label m.labels) ls))
  steps_to_jani hl s [] ls i h k = (λ a. tt, λ a. tt)
  steps_to_jani hl s (t ∷ ss) [] i h k = (λ a. tt, λ a. tt)
  steps_to_jani hl s (t ∷ ss) (l ∷ ls) i h k =
      let e = step_to_jani hl s.values t.values l i h.0 k.0 in
      let r = steps_to_jani hl t ss ls h.0 h.1 k.1 in
      (λ a. (e ∙ a.0, r.0 a.1), λ a. (sym e ∙ a.0, r.1 a.1))

  along_to_jani : HasLabels m.labels → (ss : List State) (ls : List (Option Name)) → Each (λ s. IsTrue (p.is_state s.values)) ss → Each (λ l. has_pair m.labels l ≡ true) ls →
      IsPathAlong p ss ls ↔ IsPathAlong j (jani_states m (length j.columns) ss) (map (jani_label m.labels) ls)
  along_to_jani hl [] ls h k = (λ a. a, λ a. a)
  along_to_jani hl (s ∷ ss) ls h k =
      let e = by.same.initial s.values h.0 in
      let r = steps_to_jani hl s ss ls h.0 h.1 k in
      (λ a. (sym e ∙ a.0, r.0 a.1), λ a. (e ∙ a.0, r.1 a.1))

  pub path_to_jani : HasLabels m.labels → (path : ReadPath) → AreHere p.is_state (has_pair m.labels) path.states path.labels → IsOwnPath p path ↔ IsOwnPath j (jani_path m (length j.columns) path)
  path_to_jani hl path h = along_to_jani hl path.states path.labels h.states h.labels

  steps_to_prism : (u : State) (us : List State) (ls : List (Option Name)) → IsTrue (j.is_state u.values) → Each (λ v. IsTrue (j.is_state v.values)) us → Each (λ l. has_candidate m.labels l ≡ true) ls →
      IsPathFrom j u.values (read_steps us ls) ↔ IsPathFrom p (prism_state m u.values) (read_steps (prism_states m us) (chosen_labels p m.labels (prism_states m (u ∷ us)) ls))
  steps_to_prism u [] ls i h k = (λ a. tt, λ a. tt)
  steps_to_prism u (v ∷ us) [] i h k = (λ a. tt, λ a. tt)
  steps_to_prism u (v ∷ us) (l ∷ ls) i h k =
      let e = step_to_prism u.values v.values l i h.0 k.0 in
      let r = steps_to_prism v us ls h.0 h.1 k.1 in
      (λ a. (e ∙ a.0, r.0 a.1), λ a. (sym e ∙ a.0, r.1 a.1))

  along_to_prism : (us : List State) (ls : List (Option Name)) → Each (λ u. IsTrue (j.is_state u.values)) us → Each (λ l. has_candidate m.labels l ≡ true) ls →
      IsPathAlong j us ls ↔ IsPathAlong p (prism_states m us) (chosen_labels p m.labels (prism_states m us) ls)
  along_to_prism [] ls h k = (λ a. a, λ a. a)
  along_to_prism (u ∷ us) ls h k =
      let is = prism_state_is m p j (jani_label m.labels) lawful by.columns by.same u.values h.0 in
      let e = by.same.initial (prism_state m u.values) is ∙ ap j.is_initial (carried_there m p j (jani_label m.labels) lawful by.columns by.same u.values h.0) in
      let r = steps_to_prism u us ls h.0 h.1 k in
      (λ a. (e ∙ a.0, r.0 a.1), λ a. (sym e ∙ a.0, r.1 a.1))

  pub path_to_prism : (path : ReadPath) → AreHere j.is_state (has_candidate m.labels) path.states path.labels → IsOwnPath j path ↔ IsOwnPath p (prism_path p m path)
  path_to_prism path h = along_to_prism path.states path.labels h.states h.labels

  -- ---- labels of the choices
  pub labels_here : (s : Values) → IsTrue (p.is_state s) → list_any (λ c. not (has_pair m.labels c.label)) (p.choices s) ≡ false
  labels_here s h = none_lacks (has_pair m.labels) (p.choices s) (by.labels s h)

  pub labels_carried : (u : Values) → IsTrue (j.is_state u) → list_any (λ c. not (has_candidate m.labels c.label)) (j.choices u) ≡ false
  labels_carried u h =
      ap (λ x. list_any (λ c. not (has_candidate m.labels c.label)) (j.choices x)) (sym (carried_there m p j (jani_label m.labels) lawful by.columns by.same u h))
      ∙ labels_there p j (jani_label m.labels) (jani_state m (length j.columns)) (has_pair m.labels) lawful by.same by.labels (has_candidate m.labels) (label_has_candidate m.labels) (prism_state m u)
      (prism_state_is m p j (jani_label m.labels) lawful by.columns by.same u h)

  -- the states that are carried are states
  pub states_carried : (us : List State) → Each (λ u. IsTrue (j.is_state u.values)) us → Each (λ s. IsTrue (p.is_state s.values)) (prism_states m us)
  states_carried [] h = tt
  states_carried (u ∷ us) h = (prism_state_is m p j (jani_label m.labels) lawful by.columns by.same u.values h.0, states_carried us h.1)
