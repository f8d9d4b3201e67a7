-- What is told of a generated model.
use Rattle.std.proofs.Common.{arith, ◌≡◌, ◌⊎◌, ◌∙◌, refl, ap, subst, ℕ, zero, suc, ◌+◌, ◌*◌, ◌-◌, ◌<◌, List, [], ◌∷◌, ◌++◌, length, map, Option, Result, Ok, Err, IfOk, inl, inr}
use Rattle.std.specs.List.{range_with_len, sum_by}
use Rattle.std.proofs.lemmas.List.Sums.{sum_by-cons}
use Rattle.prism_tree.specs.Syntax.{File}
use Rattle.prism_names.specs.Names.{Part, part_of}
use Rattle.prism_check.specs.SizeFaults.{command_count}
use Rattle.generated_model.specs.Generated.{generated_file, generated_module, generated_text}
use Rattle.bridge_io.specs.Outside.{Lefts}
use Rattle.bridge_io.specs.declared.reason.Refused.{Refused as Refusal}
use Rattle.command_words.specs.Words.{generate, IsRequest, OneRequest}
use Rattle.model_translation.specs.Translation.{Translates, TranslatesBytes}
use Rattle.model_command.specs.ToPrism.{TranslatesToPrism}
use Rattle.model_command.specs.Generating.{IsGenerated, generated_line}
use Rattle.model_command.specs.Run.{ComesTo, IsCause, IsFaultEnd, IsGenerateEnd, IsLongEnd, IsReadEnd, IsTold, EndsWith, ShelfSides, SinkSides}
use Rattle.model_command.specs.declared.outcome.Outcome.{Outcome}
use Rattle.model_command.specs.declared.outcome.Outcome.TheVariants.{Done, Ended, Refused, Words, ReadFault, NoMemory}
use Rattle.model_command.proofs.Exact.{wrong_not_form}

-- ---- its commands: two of the first module, three of each later one
abbrev commands_of : Part → ℕ
commands_of p = length p.commands

-- so many modules from this one on
abbrev row : File → ℕ → ℕ → List Part
row file a n = map (part_of file) (map generated_module (range_with_len a n))

later : (file : File) (a n : ℕ) → 0 < a → sum_by commands_of (row file a n) ≡ 3 * n
later file zero n some = absurd (omega (arith, some))
later file (suc a) zero some = refl
later file (suc a) (suc n) some =
    let more : 3 + 3 * n ≡ 3 * suc n = omega arith in
    sum_by-cons commands_of (part_of file (generated_module (suc a))) (row file (suc a + 1) n) ∙ ap (λ t. 3 + t) (later file (suc a + 1) n (omega arith)) ∙ more

all_commands : (file : File) (n : ℕ) → sum_by commands_of (row file 0 n) ≡ 3 * n - 1
all_commands file zero = refl
all_commands file (suc n) =
    let more : 2 + 3 * n ≡ 3 * suc n - 1 = omega arith in
    sum_by-cons commands_of (part_of file (generated_module 0)) (row file (0 + 1) n) ∙ ap (λ t. 2 + t) (later file (0 + 1) n (omega arith)) ∙ more

commands : (n : ℕ) → command_count (generated_file n) ≡ 3 * n - 1
commands n = all_commands (generated_file n) n

-- what the call answers for the text of the model
pub of_bytes : (modules : ℕ) (text bytes : List ℕ) (r : Result (List ℕ) Refusal) → text ≡ generated_text modules → bytes ≡ text → TranslatesBytes bytes r → IfOk r (λ jani. Translates (generated_text modules) jani)
of_bytes modules text bytes (Ok jani) e f h = subst (λ b. Translates b jani) (f ∙ e) h
of_bytes modules text bytes (Err x) e f h = tt

pub generated : (modules : ℕ) (text jani prism : List ℕ) → Translates (generated_text modules) jani → TranslatesToPrism jani prism →
    text ≡ generated_line modules (3 * modules - 1) (length jani) (length prism) → IsGenerated modules text
generated modules text jani prism first second told = record { jani = jani; prism = prism; to_jani = first; to_prism = second; commands = commands modules; told = told }

-- ---- the run
-- no file is read
no_file : (before mid : Option Lefts) (name : List ℕ) → ComesTo before mid [] name → ⊥
no_file before mid name c = none c.front c.among
  where
    none : (front : List (List ℕ)) → [] ≡ front ++ name ∷ c.back → ⊥
    none [] e = cc
    none (f ∷ front) e = cc

module _ (modules : ℕ) (shelf : ShelfSides) (out err : SinkSides) (answer : ℕ) where
  abbrev pub TellsOf : Type 0
  TellsOf = ((answer ≡ 0) × IsTold modules shelf out err) ⊎ (answer ≡ 5) ⊎ (answer ≡ 6)

  done : (name text : List ℕ) → IsReadEnd (generate modules) name shelf.left shelf.left_after (Done text) → EndsWith out err name (Done text) answer → TellsOf
  done name text ([], same, is) (inl e) = inl (e.0, record { text = text; generated = is; left = same; written = e.1; quiet = e.2 })
  done name text (c ∷ contents, same, is) (inl e) = absurd same
  done name text end (inr (inl e)) = inr (inl e.0)
  done name text end (inr (inr e)) = inr (inl e.0)

  no_memory : (name : List ℕ) → EndsWith out err name NoMemory answer → TellsOf
  no_memory name (inl e) = inr (inr e.0)
  no_memory name (inr (inl e)) = inr (inl e.0)
  no_memory name (inr (inr e)) = inr (inl e.0)

  refused : (name : List ℕ) (o : Outcome) → IsReadEnd (generate modules) name shelf.left shelf.left_after o → (IsGenerateEnd modules o → ⊥) → TellsOf
  refused name o end none = absurd (none end.2)

  module _ (words : List (List ℕ)) (one : OneRequest) (form : IsRequest words (generate modules)) where
    pub tells_of : (name : List ℕ) (o : Outcome) → IsCause shelf words name o → EndsWith out err name o answer → TellsOf
    tells_of name (Done text) (inl why) e = absurd why
    tells_of name (Done text) (inr (request, asked, end)) e =
        done name text (subst (λ r. IsReadEnd r name shelf.left shelf.left_after (Done text)) (one words request (generate modules) asked form) end) e
    tells_of name (Ended en) (inl why) e = absurd why
    tells_of name (Ended en) (inr (request, asked, end)) e =
        refused name (Ended en) (subst (λ r. IsReadEnd r name shelf.left shelf.left_after (Ended en)) (one words request (generate modules) asked form) end) (λ n. n)
    tells_of name (Refused reason place) (inl why) e = absurd why
    tells_of name (Refused reason place) (inr (request, asked, end)) e =
        by_end (subst (λ r. IsLongEnd r name shelf.left shelf.left_after reason place ⊎ IsReadEnd r name shelf.left shelf.left_after (Refused reason place)) (one words request (generate modules) asked form) end)
      where
        by_end : IsLongEnd (generate modules) name shelf.left shelf.left_after reason place ⊎ IsReadEnd (generate modules) name shelf.left shelf.left_after (Refused reason place) → TellsOf
        by_end (inl long) = absurd (no_file shelf.left long.1.0 name long.1.1)
        by_end (inr read) = refused name (Refused reason place) read (λ n. n)
    tells_of name (Words k) (inl why) e = absurd (wrong_not_form words k (generate modules) why form)
    tells_of name (Words k) (inr (request, asked, end)) e = absurd end
    tells_of name ReadFault (inl why) e = absurd why
    tells_of name ReadFault (inr (request, asked, end)) e =
        let f = subst (λ r. IsFaultEnd shelf r name) (one words request (generate modules) asked form) end in
        absurd (no_file shelf.left f.0.0 name f.0.1)
    tells_of name NoMemory why e = no_memory name e
