-- Different numbers have different digits.
use Rattle.std.proofs.Common.{◌≡◌, ℕ, sym, ap, ◌∙◌}
use Rattle.std.specs.Str.Parse.{digits_value}
use Rattle.frac_core.specs.Text.{digits}
use Rattle.frac_core.proofs.Digits.{digits_are}

pub digits_differ : (m n : ℕ) → digits m ≡ digits n → m ≡ n
digits_differ m n e = sym (digits_are m).value ∙ ap (digits_value 10) e ∙ (digits_are n).value
