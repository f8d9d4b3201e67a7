use Rattle.prism_images.proofs.Values.{seen_alike}
use Rattle.prism_images.proofs.Typed.{agreeing, typed_seen_alike}
use Rattle.prism_images.proofs.Types.{typed_alike, fitting}
use Rattle.prism_images.proofs.Form.{operands_kept, literals_kept, form_kept, names_kept}
use Rattle.prism_images.proofs.laws.image_laws.Goals as goal

pub returns : goal.returns
returns c = record {
  seen = λ new e old env. seen_alike new old env e;
  typed = typed_seen_alike;
  agreeing = agreeing;
  types = λ new e old types t. typed_alike new old types e t;
  misfits = λ new e old types. fitting new old types e;
  operands = operands_kept;
  literals = literals_kept;
  form = form_kept;
  names = names_kept;
}
