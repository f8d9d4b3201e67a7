use Rattle.std.proofs.Common.{arith, ◌≡◌, ◌∙◌, sym, ℕ, ◌<◌, ◌^◌, List}
use Rattle.std.specs.Fmt.{decimal}
use Rattle.std.proofs.lemmas.Fmt.{decimal_injective}
use Rattle.command_words.specs.Fronts.{GenerateForm, IsModulesWord}
use Rattle.command_words.proofs.Wrong.{read_none, read_first}
use Rattle.command_words.proofs.Requests.{no_modules, other_modules, behind_modules, some_texts}
use Rattle.command_words.proofs.words.modules_in.Goals as goal

pub returns-in_default : goal.returns-in_default
returns-in_default c = read_none GenerateForm 1 _ c.in_default.len_below no_modules

pub returns-in_default-number_in : goal.returns-in_default-number_in
returns-in_default-number_in c =
    read_first GenerateForm 1 _ c.word-item.result c.as_str.result.now c.in-len1-up.len_at_least c.word-item.is (sym c.as_str.ensures.value)
    (other_modules _ _ (λ k. c.in_default-number_in.ensures k.0 k.2))

-- no number of modules is 0
no_zero : (w : List ℕ) (m : ℕ) → m ≡ 0 → w ≡ decimal m → IsModulesWord w → ⊥
no_zero w m zero e k =
    let same : m ≡ k.0 = decimal_injective m k.0 (let a : m < 2 ^ 64 = omega (arith, zero) in a) (let a : k.0 < 2 ^ 64 = omega (arith, k.2.0) in a) (sym e ∙ k.2.1) in
    omega (arith, k.1, same, zero)

pub returns-then-modules-eq0 : goal.returns-then-modules-eq0
returns-then-modules-eq0 c =
    read_first GenerateForm 1 _ c.word-item.result c.as_str.result.now c.in-len1-up.len_at_least c.word-item.is (sym c.as_str.ensures.value)
    (other_modules _ _ (no_zero c.as_str.result.now c.in-Some.modules c.if-modules-eq0.true c.in-Some.ensures.1))

pub returns-then-not-is_empty : goal.returns-then-not-is_empty
returns-then-not-is_empty c =
    read_first GenerateForm 2 _ c.word-item.result c.as_str.result.now c.in-len1-up.len_at_least c.word-item.is (sym c.as_str.ensures.value)
    (behind_modules _ _ (c.in-Some.modules, omega arith, c.in-Some.ensures) (some_texts _ (sym c.is_empty.ensures ∙ c.if-not-is_empty.true)))
