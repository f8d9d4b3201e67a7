use Rattle.std.proofs.Common.{◌∙◌, ap, ap₂, sym}
use Rattle.std.specs.Prelude.{◌&&◌, Some, None, bytes_eq, nat_eq, if◌then◌else◌}
use Rattle.std.specs.Option.{option_or}
use Rattle.gathering.specs.Lists.{list_for}
use Rattle.jani_meaning.specs.Elements.{is_owner}
use Rattle.jani_instance.specs.Parts.{place_under}
use Rattle.jani_instance.proofs.Owning.{place_added}
use Rattle.jani_instance.proofs.parts.add_own.Goals as goal

pub returns-in_ok-add-in-Some : goal.returns-in_ok-add-in-Some
returns-in_ok-add-in-Some c = λ i x.
    let old = list_for c.args.all.now i in
    ap (place_under x) (c.in_ok-add-in-Some.ensures i)
    ∙ place_added x old (nat_eq i c.in-Some.i) (record { name = c.as_str-name.result; place = c.args.place })
    ∙ ap₂ (λ b n. option_or (place_under x old) (if b && bytes_eq n x then Some c.args.place else None)) (ap (is_owner i) (sym c.in-Some.is)) c.as_str-name.ensures
