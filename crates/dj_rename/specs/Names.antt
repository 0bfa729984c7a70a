-- Texts of classes and descriptors with `sandbox/` before each class's name, and without it.
use Rattle.dj_names.specs.trusted.Types.{Name}
use Rattle.dj_names.specs.trusted.Descriptors.{desc_text}
use Rattle.dj_names.specs.Types.{type_map, desc_map, in_sandbox, sandbox_prefix}
use Rattle.dj_model.specs.trusted.Natives.{class_name, plain_class}
use Rattle.dj_declarations.specs.trusted.Files.{type_in, desc_in}

-- of a class constant: a class's name or an array's descriptor
unfoldable pub renamed_class : Name → Name
renamed_class text = class_name (type_map in_sandbox (type_in text))

unfoldable pub renamed_desc : Name → Name
renamed_desc text = desc_text (desc_map in_sandbox (desc_in text))

unfoldable pub plain_text : Name → Name
plain_text text = class_name (plain_class sandbox_prefix (type_in text))
