-- Which processes have walks that are read back: states of whole numbers, and names that their texts spell.
use Rattle.std.proofs.Common.{◌≡◌, Bool, true, false, ◌&&◌, ◌||◌, IsTrue, List, [], ◌∷◌, Option, Some, None, All, refl, sym, subst}
use Rattle.std.specs.List.{AllByRecursion as Each}
use Rattle.std.proofs.lemmas.List.Elements.{All-head, All-tail}
use Rattle.basics.specs.Booleans.{first_true, second_true}
use Rattle.basics.specs.Options.{IfAny}
use Rattle.frac_core.specs.Fraction.{Fraction, is_whole}
use Rattle.op_trees.specs.declared.tree.Value.TheVariants as V
use Rattle.process_core.specs.Distribution.{IsProper}
use Rattle.process_core.specs.Equal.{equal_states, equal_states_is, same_label_is}
use Rattle.process_core.specs.Instance.{Domain, Truths, Between, Range, Column, is_in, is_state, range_from, range_has}
use Rattle.process_core.specs.Paths.{is_positive, any_leads_to, leads_to, is_step, IsPathFrom, IsPath}
use Rattle.process_core.specs.Process.{Branch, Outcome, Good, Bad, Choice}
use Rattle.process_core.specs.Ready.{Values, Name, same_label}
use Rattle.process_core.specs.Steps.{Process}
use Rattle.process_texts.specs.Laws.{AllWhole}
use Rattle.process_texts.specs.Texts.{header_text}
use Rattle.model_process.proofs.ReadNames.{IsReadName}
use Rattle.process_texts.proofs.StateTexts.{Lacks}

pub record IsReadableProcess (p : Process) : Type 0 where
  pub header : Lacks 10 (header_text p.columns)
  pub whole : (s : Values) → IsTrue (p.is_state s) → AllWhole s
  pub initial : (s : Values) → IsTrue (p.is_initial s) → IsTrue (p.is_state s)
  pub proper : (s : Values) → IsTrue (p.is_state s) → All (λ c. IsProper p.is_state c.outcome) (p.choices s)
  pub labels : (s : Values) → Each (λ c. IfAny IsReadName c.label) (p.choices s)

-- ---- states
number_whole : (d : Domain) (q : Fraction) → is_in d (V.Number q) ≡ true → is_whole q ≡ true
number_whole Truths q h = absurd cc
number_whole (Between l u) q h = by_range (range_from l u) h
  where
    by_range : (o : Option Range) → range_has o (V.Number q) ≡ true → is_whole q ≡ true
    by_range None h = absurd cc
    by_range (Some r) h = first_true (is_whole q) _ h

pub states_whole : (cs : List Column) (s : Values) → IsTrue (is_state cs s) → AllWhole s
states_whole [] [] h = tt
states_whole [] (v ∷ s) h = absurd cc
states_whole (c ∷ cs) [] h = absurd cc
states_whole (c ∷ cs) (V.Truth b ∷ s) h = states_whole cs s (second_true (is_in c.domain (V.Truth b)) _ h)
states_whole (c ∷ cs) (V.Number q ∷ s) h = (number_whole c.domain q (first_true (is_in c.domain (V.Number q)) _ h), states_whole cs s (second_true (is_in c.domain (V.Number q)) _ h))

-- ---- steps
module _ (is_state : Values → Bool) where
  branch_reaches : (t : Values) (bs : List (Branch Fraction Values)) → All (λ b. IsTrue (is_state b.target)) bs → any_leads_to t bs ≡ true → IsTrue (is_state t)
  branch_reaches t [] a h = absurd cc
  branch_reaches t (b ∷ bs) a h = by_test (is_positive b.probability && equal_states t b.target) refl h (branch_reaches t bs (All-tail (λ b. IsTrue (is_state b.target)) b bs a))
    where
      by_test : (z : Bool) → (is_positive b.probability && equal_states t b.target) ≡ z → (z || any_leads_to t bs) ≡ true → (any_leads_to t bs ≡ true → IsTrue (is_state t)) → IsTrue (is_state t)
      by_test true e g ih =
          let same : t ≡ b.target = (equal_states_is t b.target).0 (second_true (is_positive b.probability) _ e) in
          subst (λ s. IsTrue (is_state s)) (sym same) (All-head (λ b. IsTrue (is_state b.target)) b bs a)
      by_test false e g ih = ih g

  outcome_reaches : (t : Values) (o : Outcome Fraction Values) → IsProper is_state o → leads_to t o ≡ true → IsTrue (is_state t)
  outcome_reaches t (Good bs) d h = branch_reaches t bs d.targets h
  outcome_reaches t (Bad k) d h = absurd cc

  step_reaches : (cs : List (Choice Name Fraction Values)) → All (λ c. IsProper is_state c.outcome) cs → Each (λ c. IfAny IsReadName c.label) cs → (l : Option Name) (t : Values) → is_step cs l t ≡ true →
      IfAny IsReadName l × IsTrue (is_state t)
  step_reaches [] a e l t h = absurd cc
  step_reaches (c ∷ cs) a e l t h = by_test (same_label l c.label && leads_to t c.outcome) refl h (step_reaches cs (All-tail (λ c. IsProper is_state c.outcome) c cs a) e.1 l t)
    where
      by_test : (z : Bool) → (same_label l c.label && leads_to t c.outcome) ≡ z → (z || is_step cs l t) ≡ true → (is_step cs l t ≡ true → IfAny IsReadName l × IsTrue (is_state t)) → IfAny IsReadName l × IsTrue (is_state t)
      by_test true f g ih = (
        subst (IfAny IsReadName) (sym ((same_label_is l c.label).0 (first_true (same_label l c.label) _ f))) e.0,
        outcome_reaches t c.outcome (All-head (λ c. IsProper is_state c.outcome) c cs a) (second_true (same_label l c.label) _ f),
      )
      by_test false f g ih = ih g

-- ---- paths
abbrev pub IsReadMove : Option Name × Values → Type 0
IsReadMove t = IfAny IsReadName t.0 × AllWhole t.1

module _ (p : Process) (r : IsReadableProcess p) where
  moves_read : (s : Values) → IsTrue (p.is_state s) → (ts : List (Option Name × Values)) → IsPathFrom p s ts → Each IsReadMove ts
  moves_read s k [] h = tt
  moves_read s k (t ∷ ts) h =
      let there = step_reaches p.is_state (p.choices s) (r.proper s k) (r.labels s) t.0 t.1 h.0 in
      ((there.0, r.whole t.1 there.1), moves_read t.1 there.1 ts h.1)

  pub path_reads : (s : Values) (ts : List (Option Name × Values)) → IsPath p s ts → AllWhole s × Each IsReadMove ts
  path_reads s ts h = let k = r.initial s h.0 in (r.whole s k, moves_read s k ts h.1)
