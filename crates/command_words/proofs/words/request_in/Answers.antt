use Rattle.std.proofs.Common.{rules, ◌≡◌, ℕ, ◌-◌, ◌≤◌, List, ◌∷◌, length, take, drop, length-take, length-drop, inl, inr, arith}
use Rattle.std.proofs.lemmas.List.{length-map}
use Rattle.std.specs.Prelude.{String}
use Rattle.std.specs.Global.{Global}
use Rattle.std.specs.Prelude.{string_bytes, codes}
use Rattle.command_words.specs.Words.{HasFileWord, HasForm, IsWrong, texts}
use Rattle.command_words.specs.Fronts.{GenerateForm}
use Rattle.command_words.proofs.Wrong.{first_words, read_none, read_first}
use Rattle.command_words.proofs.Requests.{no_verb, behind_to_jani, behind_to_prism, behind_to_prism_props, behind_check, behind_generate}
use Rattle.command_words.proofs.words.request_in.Goals as goal

-- a position among the words behind the first is one of all words
behind_first : (Form : List (List ℕ) → Type 0) (words : List (String Global)) (k : ℕ) → 1 ≤ length words → IsWrong Form (texts (take (length words - 1) (drop 1 words))) k → k ≤ length words
behind_first Form words k some (inl h) = let e : length (texts (take (length words - 1) (drop 1 words))) ≡ length words - 1 = simp (length-map, length-take, length-drop) (omega arith) in omega (arith, h.1)
behind_first Form words k some (inr h) = let e : length (texts (take (length words - 1) (drop 1 words))) ≡ length words - 1 = simp (length-map, length-take, length-drop) (omega arith) in omega (arith, h.0)

pub returns-in_default : goal.returns-in_default
returns-in_default c = read_none HasForm 1 _ c.in_default.len_below no_verb

pub returns-in-Err : goal.returns-in-Err
returns-in-Err c =
    let eq : string_bytes c.verb-item.result ≡ codes "to-jani" = search rules in
    read_first HasForm _ _ c.verb-item.result _ c.in-len1-up.len_at_least c.verb-item.is eq (behind_to_jani _ _ c.in-Err.ensures)

pub returns-in-Err-file_in : goal.returns-in-Err-file_in
returns-in-Err-file_in c =
    let eq : string_bytes c.verb-item.result ≡ codes "to-prism" = search rules in
    read_first HasForm _ _ c.verb-item.result _ c.in-len1-up.len_at_least c.verb-item.is eq (behind_to_prism _ _ c.in-Err-file_in.ensures)

pub returns-in-Err-file_in-2 : goal.returns-in-Err-file_in-2
returns-in-Err-file_in-2 c =
    let eq : string_bytes c.verb-item.result ≡ codes "to-prism-props" = search rules in
    read_first HasForm _ _ c.verb-item.result _ c.in-len1-up.len_at_least c.verb-item.is eq (behind_to_prism_props _ _ c.in-Err-file_in-2.ensures)

pub returns-in-Err-check_in : goal.returns-in-Err-check_in
returns-in-Err-check_in c =
    let eq : string_bytes c.verb-item.result ≡ codes "check" = search rules in
    read_first HasForm _ _ c.verb-item.result _ c.in-len1-up.len_at_least c.verb-item.is eq (behind_check _ _ c.in-Err-check_in.ensures)

pub returns-in-Err-modules_in : goal.returns-in-Err-modules_in
returns-in-Err-modules_in c =
    let eq : string_bytes c.verb-item.result ≡ codes "generate" = search rules in
    read_first HasForm _ _ c.verb-item.result _ c.in-len1-up.len_at_least c.verb-item.is eq (behind_generate _ _ c.in-Err-modules_in.ensures)

pub of_process_in-requires-clause-words : goal.of_process_in-requires-clause-words
of_process_in-requires-clause-words c =
    let same : string_bytes c.verb-item.result ≡ c.as_str-in_default-as_str.result.now = search rules in
    first_words c.args.words.now c.verb-item.result _ c.in-len1-up.len_at_least c.verb-item.is same

pub of_process_in-requires-clause-others : goal.of_process_in-requires-clause-others
of_process_in-requires-clause-others c = (search rules, search rules, search rules, search rules, search rules)

pub overflow_add-result : goal.overflow_add-result
overflow_add-result c = let h = behind_first (λ ws. HasForm (codes "to-jani" ∷ ws)) c.args.words.now c.in-Err.k c.in-len1-up.len_at_least c.in-Err.ensures in omega arith

pub overflow_add-result-in-Err-file_in : goal.overflow_add-result-in-Err-file_in
overflow_add-result-in-Err-file_in c = let h = behind_first HasFileWord c.args.words.now c.in-Err-file_in.k c.in-len1-up.len_at_least c.in-Err-file_in.ensures in omega arith

pub overflow_add-result-in-Err-file_in-2 : goal.overflow_add-result-in-Err-file_in-2
overflow_add-result-in-Err-file_in-2 c = let h = behind_first HasFileWord c.args.words.now c.in-Err-file_in-2.k c.in-len1-up.len_at_least c.in-Err-file_in-2.ensures in omega arith

pub overflow_add-result-in-Err-check_in : goal.overflow_add-result-in-Err-check_in
overflow_add-result-in-Err-check_in c = let h = behind_first (λ ws. HasForm (codes "check" ∷ ws)) c.args.words.now c.in-Err-check_in.k c.in-len1-up.len_at_least c.in-Err-check_in.ensures in omega arith

pub overflow_add-result-in-Err-modules_in : goal.overflow_add-result-in-Err-modules_in
overflow_add-result-in-Err-modules_in c = let h = behind_first GenerateForm c.args.words.now c.in-Err-modules_in.k c.in-len1-up.len_at_least c.in-Err-modules_in.ensures in omega arith
