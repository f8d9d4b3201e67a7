use Rattle.std.proofs.Common.{◌∙◌, ap, map}
use Rattle.name_rules.specs.Circles.{circles}
use Rattle.prism_tree.specs.Syntax.{const_of, file_of}
use Rattle.prism_instance.specs.Constants.{declared_const}
use Rattle.prism_instance.proofs.StartLaws.{no_circles}
use Rattle.prism_instance.proofs.start.known_constants.Goals as goal

pub constant_order-requires : goal.constant_order-requires
constant_order-requires c = ap (λ l. circles (map declared_const (map const_of l))) c.as_slice-constants.ensures ∙ no_circles (file_of c.args.file.now) c.requires
