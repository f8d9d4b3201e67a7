-- The names of entries in a PRISM file: each is an identifier, and that of a label is none that every model has.
use Rattle.std.proofs.Common.{ap, ◌∙◌}
use Rattle.std.specs.Prelude.{nat_le, ◌≡◌, List, length, Bool, true, ◌&&◌, Option, is_none}
use Rattle.std.proofs.lemmas.Bool.{and_parts}
use Rattle.basics.specs.Options.{none_is}
use Rattle.basics.specs.Each.{each_at}
use Rattle.process_core.specs.Ready.{Name}
use Rattle.prism_lex.specs.declared.token.TokenKind.TheVariants.{Ident}
use Rattle.prism_lex.specs.Tokens.{IsKind, is_name}
use Rattle.prism_lex.specs.Words.{lookup, words}
use Rattle.prism_translation.specs.NameClass.{NameClass}
use Rattle.prism_translation.specs.Target.TheVariants.{Prism}
use Rattle.prism_translation.specs.Entry.{Entry}
use Rattle.prism_translation.specs.Rule.{may_be_called, is_identifier}
use Rattle.prism_translation.specs.Entries.{Ask, count_of, entries_of}
use Rattle.prism_translation.proofs.EntryLemmas.{Comes, was_kept, was_made, placed}
use Rattle.name_table.proofs.Valid.{made_named, made_free, made_may}
use Rattle.std.specs.List.{AllByRecursion as Each}

-- ---- entries
pub record IsValidName (e : Entry) : Type 0 where
  pub spelled : IsKind e.name Ident
  pub free : may_be_called e.class e.name ≡ true

valid_by : (es : List Entry) (c : NameClass) (o : Option Name) (e : Entry) → Comes Prism es c o e → IsValidName e
valid_by es c o e (was_kept x p k h) =
    let r = and_parts (is_identifier x) (may_be_called c x) k.valid in
    let s = and_parts (is_name x) (is_none (lookup x words) && nat_le (length x) 255) r.0 in
    let t = and_parts (is_none (lookup x words)) (nat_le (length x) 255) s.1 in
    record {
      spelled = (ap (λ (u : Entry). is_name u.name) h ∙ s.0, ap (λ (u : Entry). lookup u.name words) h ∙ none_is (lookup x words) t.0);
      free = ap (λ (u : Entry). may_be_called u.class u.name) h ∙ r.1;
    }
valid_by es c o e (was_made h) =
    let n = count_of c es in
    record {
      spelled = (ap (λ (u : Entry). is_name u.name) h ∙ made_named c n, ap (λ (u : Entry). lookup u.name words) h ∙ made_free c n);
      free = ap (λ (u : Entry). may_be_called u.class u.name) h ∙ made_may c n;
    }

pub all_valid : (asks : List Ask) → Each IsValidName (entries_of Prism asks)
all_valid asks = each_at IsValidName (entries_of Prism asks) (λ i e h. let p = placed Prism asks i e h in valid_by _ p.asked.0 p.asked.1 e p.comes)
