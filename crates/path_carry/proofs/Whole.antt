-- What is written of a carried path, and what it keeps.
use Rattle.std.proofs.Common.{◌≡◌, ◌↔◌, ℕ, suc, ◌||◌, ◌&&◌, List, [], ◌∷◌, map, length, Bool, true, false, cond, IsTrue, Option, Some, None, Result, Ok, Err, refl, sym, ap, ◌∙◌, subst, arith, bytes_eq}
use Rattle.std.specs.List.{list_any, find, filter, All, AllByRecursion as Each}
use Rattle.std.specs.Option.{IfSome}
use Rattle.std.specs.Prelude.{IfOk}
use Rattle.std.proofs.lemmas.List.{length-map}
use Rattle.std.proofs.lemmas.List.Elements.{All-from_recursion, recursion_from_All}
use Rattle.basics.specs.Booleans.{first_true}
use Rattle.basics.specs.Members.{found_passes}
use Rattle.bridge_io.specs.declared.reason.Refused.{Refused}
use Rattle.bridge_io.specs.declared.reason.Refused.TheVariants as R
use Rattle.frac_core.specs.Fraction.{Fraction}
use Rattle.process_core.specs.Process.{Choice}
use Rattle.process_core.specs.Equal.{same_label_is}
use Rattle.process_core.specs.Ready.{Values, Name, same_label}
use Rattle.process_core.specs.Steps.{Process, IsProcess}
use Rattle.process_core.specs.declared.data.State.{State}
use Rattle.row_check.specs.declared.data.ReadPath.{ReadPath}
use Rattle.row_check.specs.Forms.{IsPathFile, ReadsPath, Reads}
use Rattle.row_check.specs.Paths.{IsOwnPath}
use Rattle.row_check.specs.Laws.{PathIsYes, PathReadOnce, PathFileWhole}
use Rattle.process_core.specs.Paths.{leads_to}
use Rattle.carry_maps.specs.declared.map.LabelPair.{LabelPair}
use Rattle.carry_maps.specs.declared.map.CarryMap.{CarryMap}
use Rattle.path_carry.specs.declared.data.Carried.{Carried}
use Rattle.path_carry.specs.declared.data.Carried.TheVariants as C
use Rattle.carry_maps.specs.Maps.{jani_state, prism_state, label_in, jani_label, has_pair, candidates, has_candidate, AreSameBy, HasLabels}
use Rattle.path_carry.specs.Carried.{state, lost_line, first_of, label_or, chosen, chosen_labels, jani_states, prism_states, jani_path, prism_path, CarriedToJani, CarriedToPrism, CarriesFile}
use Rattle.path_carry.specs.Chosen.{GoesAlong}
use Rattle.path_carry.specs.Texts.{IsShort, path_text, HeaderIsLine}
use Rattle.path_carry.specs.Written.{IsReadable}
use Rattle.path_carry.specs.Kept.{AcceptsAlike, Keeps, KeepsPath}
use Rattle.path_carry.proofs.Columns.{ArePlain, jani_plain, prism_plain}
use Rattle.path_carry.proofs.Walked.{none_lost, none_is_lost, path_to_jani, path_to_prism, labels_here, labels_carried}
use Rattle.path_carry.proofs.Accepted.{keeps_path, not_accepted}
use Rattle.path_carry.proofs.Lines.{path_file, file_plain}

-- ---- labels that are short
pub jani_short : (ps : List LabelPair) → Each (λ p. IfSome p.jani IsShort) ps → (l : Option Name) → IfSome (jani_label ps l) IsShort
jani_short ps h None = tt
jani_short ps h (Some a) = by_pairs ps h
  where
    by_pairs : (qs : List LabelPair) → Each (λ p. IfSome p.jani IsShort) qs → IfSome (label_in (find (λ p. bytes_eq a p.prism) qs)) IsShort
    by_pairs [] k = tt
    by_pairs (q ∷ qs) k = by_test (bytes_eq a q.prism) (by_pairs qs k.1)
      where
        by_test : (b : Bool) → IfSome (label_in (find (λ p. bytes_eq a p.prism) qs)) IsShort → IfSome (label_in (cond b (Some q) (find (λ p. bytes_eq a p.prism) qs))) IsShort
        by_test true ih = k.0
        by_test false ih = ih

pub jani_labels_short : (ps : List LabelPair) → Each (λ p. IfSome p.jani IsShort) ps → (ls : List (Option Name)) → Each (λ l. IfSome l IsShort) (map (jani_label ps) ls)
jani_labels_short ps h [] = tt
jani_labels_short ps h (l ∷ ls) = (jani_short ps h l, jani_labels_short ps h ls)

actions_short : (ps : List LabelPair) (q : LabelPair → Bool) → Each (λ p. IsShort p.prism) ps → Each (λ l. IfSome l IsShort) (map (λ p. Some p.prism) (filter q ps))
actions_short [] q h = tt
actions_short (p ∷ ps) q h = by_test (q p) (actions_short ps q h.1)
  where
    by_test : (b : Bool) → Each (λ l. IfSome l IsShort) (map (λ r. Some r.prism) (filter q ps)) → Each (λ l. IfSome l IsShort) (map (λ r. Some r.prism) (cond b (p ∷ filter q ps) (filter q ps)))
    by_test true ih = (h.0, ih)
    by_test false ih = ih

candidates_short : (ps : List LabelPair) (l : Option Name) → Each (λ p. IsShort p.prism) ps → Each (λ x. IfSome x IsShort) (candidates ps l)
candidates_short ps None h = (tt, actions_short ps (λ p. same_label None p.jani) h)
candidates_short ps (Some y) h = actions_short ps (λ p. same_label (Some y) p.jani) h

member_short : (ls : List (Option Name)) (x : Option Name) → Each (λ l. IfSome l IsShort) ls → list_any (same_label x) ls ≡ true → IfSome x IsShort
member_short [] x h e = absurd cc
member_short (l ∷ ls) x h e = by_test (same_label x l) refl e (member_short ls x h.1)
  where
    by_test : (b : Bool) → same_label x l ≡ b → (b || list_any (same_label x) ls) ≡ true → (list_any (same_label x) ls ≡ true → IfSome x IsShort) → IfSome x IsShort
    by_test true f g ih = subst (λ y. IfSome y IsShort) (sym ((same_label_is x l).0 f)) h.0
    by_test false f g ih = ih g

first_short : (ls : List (Option Name)) → Each (λ l. IfSome l IsShort) ls → IfSome (first_of ls) IsShort
first_short [] h = tt
first_short (l ∷ ls) h = h.0

chosen_short : (ls : List (Option Name)) (cs : List (Choice Name Fraction Values)) (t : Values) → Each (λ l. IfSome l IsShort) ls → IfSome (chosen ls cs t) IsShort
chosen_short ls cs t h = by_found (find (λ c. list_any (same_label c.label) ls && leads_to t c.outcome) cs) refl
  where
    by_found : (o : Option (Choice Name Fraction Values)) → find (λ c. list_any (same_label c.label) ls && leads_to t c.outcome) cs ≡ o → IfSome (label_or (first_of ls) o) IsShort
    by_found None e = first_short ls h
    by_found (Some c) e = member_short ls c.label h (first_true (list_any (same_label c.label) ls) _ (found_passes (λ d. list_any (same_label d.label) ls && leads_to t d.outcome) cs c e))

pub chosen_labels_short : (p : Process) (ps : List LabelPair) → Each (λ q. IsShort q.prism) ps → (ss : List State) (ls : List (Option Name)) → Each (λ l. IfSome l IsShort) (chosen_labels p ps ss ls)
chosen_labels_short p ps h [] ls = tt
chosen_labels_short p ps h (s ∷ []) ls = tt
chosen_labels_short p ps h (s ∷ t ∷ ss) [] = tt
chosen_labels_short p ps h (s ∷ t ∷ ss) (l ∷ ls) = (chosen_short (candidates ps l) (p.choices s.values) t.values (candidates_short ps l h), chosen_labels_short p ps h (t ∷ ss) ls)

-- ---- lengths
pub chosen_length : (p : Process) (ps : List LabelPair) (ss : List State) (ls : List (Option Name)) → length ss ≡ suc (length ls) → length (chosen_labels p ps ss ls) ≡ length ls
chosen_length p ps [] ls e = absurd (let no : 0 ≡ suc (length ls) = e in omega arith)
chosen_length p ps (s ∷ []) [] e = refl
chosen_length p ps (s ∷ []) (l ∷ ls) e = absurd (let no : 1 ≡ suc (suc (length ls)) = e in omega arith)
chosen_length p ps (s ∷ t ∷ ss) [] e = absurd (let no : suc (suc (length ss)) ≡ 1 = e in omega arith)
chosen_length p ps (s ∷ t ∷ ss) (l ∷ ls) e = ap suc (chosen_length p ps (t ∷ ss) ls (let f : suc (suc (length ss)) ≡ suc (suc (length ls)) = e in omega arith))

pub jani_path_length : (m : CarryMap) (n : ℕ) (path : ReadPath) → length path.states ≡ suc (length path.labels) → length (jani_path m n path).states ≡ suc (length (jani_path m n path).labels)
jani_path_length m n path e = length-map path.states (λ s. state (jani_state m n s.values)) ∙ e ∙ ap suc (sym (length-map path.labels (jani_label m.labels)))

pub prism_path_length : (p : Process) (m : CarryMap) (path : ReadPath) → length path.states ≡ suc (length path.labels) → length (prism_path p m path).states ≡ suc (length (prism_path p m path).labels)
prism_path_length p m path e =
    let f = length-map path.states (λ u. state (prism_state m u.values)) ∙ e in
    f ∙ ap suc (sym (chosen_length p m.labels (prism_states m path.states) path.labels f))

-- ---- states
pub lengths_here : (p : Process) → IsProcess p → (n : ℕ) → length p.columns ≡ n → (ss : List State) → Each (λ s. IsTrue (p.is_state s.values)) ss → All (λ s. length s.values ≡ n) ss
lengths_here p lawful n e ss h = All-from_recursion (λ s. length s.values ≡ n) ss (each ss h)
  where
    each : (ss : List State) → Each (λ s. IsTrue (p.is_state s.values)) ss → Each (λ s. length s.values ≡ n) ss
    each [] h = tt
    each (s ∷ ss) h = (lawful.columns s.values h.0 ∙ e, each ss h.1)

jani_states_plain : (m : CarryMap) (n : ℕ) (ss : List State) → Each (λ s. ArePlain s.values) ss → Each (λ s. ArePlain s.values) (jani_states m n ss)
jani_states_plain m n [] h = tt
jani_states_plain m n (s ∷ ss) h = (jani_plain m n s.values h.0, jani_states_plain m n ss h.1)

prism_states_plain : (m : CarryMap) (us : List State) → Each (λ s. ArePlain s.values) us → Each (λ s. ArePlain s.values) (prism_states m us)
prism_states_plain m [] h = tt
prism_states_plain m (u ∷ us) h = (prism_plain m u.values h.0, prism_states_plain m us h.1)

-- ---- along the carried states
pub goes_along : (j p : Process) (m : CarryMap) (path : ReadPath) → lost_line j.is_state (has_candidate m.labels) path ≡ None → (c : Carried) → GoesAlong p m path c → CarriedToPrism j p m path c
goes_along j p m path h (C.Path text) g = ((h, g.0), g.1)
goes_along j p m path h (C.No k) g = absurd g
goes_along j p m path h (C.Wide k) g = (h, g)
goes_along j p m path h (C.TooMany k) g = (h, g)

pub goes_along_ok : {E : Type 0} (j p : Process) (m : CarryMap) (path : ReadPath) → lost_line j.is_state (has_candidate m.labels) path ≡ None → (r : Result Carried E) → IfOk r (GoesAlong p m path) → IfOk r (CarriedToPrism j p m path)
goes_along_ok j p m path h (Ok c) g = goes_along j p m path h c g
goes_along_ok j p m path h (Err e) g = tt

-- ---- the whole
not_both : {X : Type 0} (o : Option X) (k : X) → o ≡ Some k → o ≡ None → ⊥
not_both o k h e = cc

pub read_failed : (Is : ReadPath → Carried → Type 0) (p : Process) (bytes : List ℕ) (f : Refused) → Reads (ReadsPath p bytes) (Err f) → CarriesFile Is p bytes (Err f)
read_failed Is p bytes (R.At f) h = h
read_failed Is p bytes (R.Memory e) h = tt

module _ (yes : PathIsYes) (once : PathReadOnce) (whole : PathFileWhole) where
  -- the path that is carried is one there exactly where it is one here
  alike_in_jani : (m : CarryMap) (p j : Process) → IsProcess p → AreSameBy m p j → HasLabels m.labels → (bytes : List ℕ) (path : ReadPath) → IsPathFile p bytes path →
      lost_line p.is_state (has_pair m.labels) path ≡ None → IsOwnPath p path ↔ IsOwnPath j (jani_path m (length j.columns) path)
  alike_in_jani m p j lawful by hl bytes path h none = path_to_jani m p j lawful by hl path (none_is_lost p.is_state (has_pair m.labels) path (whole p bytes path h) none)

  alike_in_prism : (m : CarryMap) (p j : Process) → IsProcess p → AreSameBy m p j → (bytes : List ℕ) (path : ReadPath) → IsPathFile j bytes path →
      lost_line j.is_state (has_candidate m.labels) path ≡ None → IsOwnPath j path ↔ IsOwnPath p (prism_path p m path)
  alike_in_prism m p j lawful by bytes path h none = path_to_prism m p j lawful by path (none_is_lost j.is_state (has_candidate m.labels) path (whole j bytes path h) none)

  pub alike_to_jani : (m : CarryMap) (p j : Process) → IsProcess p → AreSameBy m p j → HasLabels m.labels → (bytes : List ℕ) (path : ReadPath) → IsPathFile p bytes path →
      (c : Carried) → CarriedToJani p j m path c → AcceptsAlike p j bytes c
  alike_to_jani m p j lawful by hl bytes path h (C.Path text) d =
      record { path = path; new = jani_path m (length j.columns) path; reads = h; text_is = d.1; alike = alike_in_jani m p j lawful by hl bytes path h d.0 }
  alike_to_jani m p j lawful by hl bytes path h (C.No k) d =
      not_accepted yes once p bytes path h (λ i. not_both _ k d (none_lost p lawful (has_pair m.labels) (labels_here m p j lawful by) path i))
  alike_to_jani m p j lawful by hl bytes path h (C.Wide k) d = absurd d
  alike_to_jani m p j lawful by hl bytes path h (C.TooMany k) d = absurd d

  pub alike_to_prism : (m : CarryMap) (p j : Process) → IsProcess p → IsProcess j → AreSameBy m p j → (bytes : List ℕ) (path : ReadPath) → IsPathFile j bytes path →
      (c : Carried) → CarriedToPrism j p m path c → AcceptsAlike j p bytes c
  alike_to_prism m p j lawful there by bytes path h (C.Path text) d =
      record { path = path; new = prism_path p m path; reads = h; text_is = d.1; alike = alike_in_prism m p j lawful by bytes path h d.0.0 }
  alike_to_prism m p j lawful there by bytes path h (C.No k) d =
      not_accepted yes once j bytes path h (λ i. not_both _ k d (none_lost j there (has_candidate m.labels) (labels_carried m p j lawful by) path i))
  alike_to_prism m p j lawful there by bytes path h (C.Wide k) d = tt
  alike_to_prism m p j lawful there by bytes path h (C.TooMany k) d = tt

  -- and what is written is accepted so, where it can be read again
  pub kept_to_jani : (m : CarryMap) (p j : Process) → IsProcess p → AreSameBy m p j → HasLabels m.labels → HeaderIsLine j → (bytes : List ℕ) (path : ReadPath) → IsPathFile p bytes path →
      (c : Carried) → CarriedToJani p j m path c → IsReadable (jani_path m (length j.columns) path).labels c → Keeps p j bytes c
  kept_to_jani m p j lawful by hl line bytes path h (C.Path text) d r =
      let n = length j.columns in
      let new = jani_path m n path in
      let file = path_file j new line (jani_path_length m n path (whole p bytes path h)) (recursion_from_All _ new.labels r) (jani_states_plain m n path.states (file_plain p bytes path h)) in
      subst (KeepsPath p j bytes) (sym d.1) (keeps_path yes once p j bytes (path_text j.columns new) path new h file (alike_in_jani m p j lawful by hl bytes path h d.0))
  kept_to_jani m p j lawful by hl line bytes path h (C.No k) d r = alike_to_jani m p j lawful by hl bytes path h (C.No k) d
  kept_to_jani m p j lawful by hl line bytes path h (C.Wide k) d r = absurd d
  kept_to_jani m p j lawful by hl line bytes path h (C.TooMany k) d r = absurd d

  pub kept_to_prism : (m : CarryMap) (p j : Process) → IsProcess p → IsProcess j → AreSameBy m p j → HeaderIsLine p → (bytes : List ℕ) (path : ReadPath) → IsPathFile j bytes path →
      (c : Carried) → CarriedToPrism j p m path c → IsReadable (prism_path p m path).labels c → Keeps j p bytes c
  kept_to_prism m p j lawful there by line bytes path h (C.Path text) d r =
      let new = prism_path p m path in
      let file = path_file p new line (prism_path_length p m path (whole j bytes path h)) (recursion_from_All _ new.labels r) (prism_states_plain m path.states (file_plain j bytes path h)) in
      subst (KeepsPath j p bytes) (sym d.1) (keeps_path yes once j p bytes (path_text p.columns new) path new h file (alike_in_prism m p j lawful by bytes path h d.0.0))
  kept_to_prism m p j lawful there by line bytes path h (C.No k) d r = alike_to_prism m p j lawful there by bytes path h (C.No k) d
  kept_to_prism m p j lawful there by line bytes path h (C.Wide k) d r = tt
  kept_to_prism m p j lawful there by line bytes path h (C.TooMany k) d r = tt
