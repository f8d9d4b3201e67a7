-- The text of a walk is a file of its path.
use Rattle.std.proofs.Common.{◌≡◌, ℕ, ◌+◌, nat_eq, List, [], ◌∷◌, ◌++◌, map, length, Bool, true, false, Option, Some, None, Ok, if◌then◌else◌, All, refl, sym, ap, ap₂, ◌∙◌, subst, append_assoc}
use Rattle.std.specs.List.{list_any, flat_map, slice_index}
use Rattle.std.proofs.lemmas.List.Elements.{All-head, All-tail}
use Rattle.prism_lex.specs.Tokens.{is_name}
use Rattle.decimal_json.specs.Text.{escaped, quoted}
use Rattle.process_core.specs.Product.{map-map}
use Rattle.process_core.specs.Ready.{Name}
use Rattle.process_core.specs.Steps.{Process}
use Rattle.process_core.specs.declared.data.State.{State}
use Rattle.process_texts.specs.Given.{is_wide_value}
use Rattle.process_texts.specs.Laws.{AllWhole, StateReadsBack}
use Rattle.process_texts.specs.Texts.{header_text, state_text, name_text}
use Rattle.step_sim.specs.declared.walk.Step.{Step}
use Rattle.step_sim.specs.declared.walk.Walk.{Walk}
use Rattle.row_check.specs.declared.data.ReadPath.{ReadPath}
use Rattle.row_check.specs.declared.data.PathStep.{PathStep}
use Rattle.row_check.specs.Lines.{lines_from, Hold, AreReadBehind}
use Rattle.row_check.specs.Forms.{IsHeader, IsStepLabel, IsStepLine, ReadsFirst, IsPathFile, path_of}
use Rattle.row_check.specs.Texts.{IsStateText}
use Rattle.walk_texts.specs.Jobs.{IsNarrowStep, IsNarrowWalk}
use Rattle.walk_texts.specs.Lines.{label_text, step_line, path_text}
use Rattle.model_process.specs.ReadBack.{SpellsLabel, IsReadableStep, IsReadable, path_along}
use Rattle.process_texts.proofs.StateTexts.{Lacks, lacks_join, state_no_feed, state_no_space, state_utf8}
use Rattle.process_texts.proofs.NameTexts.{dash_no_name, name_lacks, spelled_utf8}
use Rattle.row_check.proofs.OneLine.{line_then, one_line}

-- ---- labels
label_no_feed : (l : Option Name) → Lacks 10 (label_text l)
label_no_feed None = refl
label_no_feed (Some x) = name_lacks x

quote_no_dash : (u : List ℕ) → 34 ∷ u ≡ 45 ∷ [] → ⊥
quote_no_dash u f = let z : true ≡ false = ap (λ w. nat_eq 34 (slice_index w 0)) f in cc

no_dash : (x : Name) → name_text x ≡ 45 ∷ [] → ⊥
no_dash x e = by_test (is_name x) refl e
  where
    by_test : (b : Bool) → is_name x ≡ b → (if b then x else quoted x) ≡ 45 ∷ [] → ⊥
    by_test true n f = dash_no_name (ap is_name (sym f) ∙ n)
    by_test false n f = quote_no_dash (escaped x ++ 34 ∷ []) f

-- ---- steps
abbrev step_of : Step → PathStep
step_of t = record { label = t.label; state = t.target }

path_is : (s : State) (ts : List Step) → ◌≡◌ {A = ReadPath} (record { states = s ∷ map (λ t. t.target) ts; labels = map (λ t. t.label) ts }) (path_of s (map step_of ts))
path_is s ts =
    ap₂ (λ (a : List State) (b : List (Option Name)). let r : ReadPath = record { states = s ∷ a; labels = b } in r) (sym (map-map (λ (t : PathStep). t.state) step_of ts))
    (sym (map-map (λ (t : PathStep). t.label) step_of ts))

head_then : (H S R : List ℕ) → (H ++ (10 ∷ (S ++ 10 ∷ []))) ++ R ≡ H ++ 10 ∷ (S ++ 10 ∷ R)
head_then H S R = append_assoc H (10 ∷ (S ++ 10 ∷ [])) R ∙ ap (λ t. H ++ 10 ∷ t) (append_assoc S (10 ∷ []) R)

-- ---- it is one
label_reads : (l : Option Name) → SpellsLabel l → IsStepLabel (label_text l) l
label_reads None h = refl
label_reads (Some x) h = (no_dash x, record { utf8 = spelled_utf8 (name_text x) x h; spells = h })

module _ (back : StateReadsBack) where
  state_reads : (s : State) → list_any is_wide_value s.values ≡ false → AllWhole s.values → IsStateText (state_text s.values) s
  state_reads s narrow whole = record { utf8 = state_utf8 s.values narrow; spells = back s.values whole narrow; narrow = narrow }

  steps_read : (before : List PathStep) (at : ℕ) (ts : List Step) → All IsNarrowStep ts → All IsReadableStep ts → Hold IsStepLine before (lines_from at [] (flat_map step_line ts)) (map step_of ts)
  steps_read before at [] n r = refl
  steps_read before at (t ∷ ts) n r =
      let narrow = All-head IsNarrowStep t ts n in
      let readable = All-head IsReadableStep t ts r in
      let w = label_text t.label ++ 32 ∷ state_text t.target.values in
      let all = ap (lines_from at []) (line_then (label_text t.label) (state_text t.target.values) (flat_map step_line ts))
      ∙ one_line at [] w (flat_map step_line ts) (lacks_join 10 (label_text t.label) (32 ∷ state_text t.target.values) (label_no_feed t.label) (state_no_feed t.target.values narrow)) in
      subst (λ x. Hold IsStepLine before x (map step_of (t ∷ ts))) (sym all) (
        record {
          label = label_text t.label;
          state = state_text t.target.values;
          parts = refl;
          last = state_no_space t.target.values narrow;
          label_is = label_reads t.label readable.label;
          state_is = state_reads t.target narrow readable.whole;
        },
        steps_read (before ++ step_of t ∷ []) (at + length w + 1) ts (All-tail IsNarrowStep t ts n) (All-tail IsReadableStep t ts r),
      )

  pub walk_reads : (p : Process) (w : Walk) → IsNarrowWalk w → IsReadable p w → IsPathFile p (path_text p w.first.values w.steps) (path_along w)
  walk_reads p w n r =
      let H = header_text p.columns in
      let S = state_text w.first.values in
      let rest = S ++ 10 ∷ flat_map step_line w.steps in
      let end = length (path_text p w.first.values w.steps) in
      subst (λ bs. AreReadBehind (IsHeader p) (λ u. ReadsFirst end) end (lines_from 0 [] bs) (Ok (path_along w))) (sym (head_then H S (flat_map step_line w.steps)))
      (subst (λ ls. AreReadBehind (IsHeader p) (λ u. ReadsFirst end) end ls (Ok (path_along w))) (sym (one_line 0 [] H rest r.header)) (
        tt,
        refl,
        subst (λ ls. ReadsFirst end ls (Ok (path_along w))) (sym (one_line _ [] S (flat_map step_line w.steps) (state_no_feed w.first.values n.first)))
            (w.first, state_reads w.first n.first r.first, (map step_of w.steps, steps_read [] _ w.steps n.steps r.steps, path_is w.first w.steps)),
      ))
