-- Used by the code alone: what is kept of a constant, so that it is looked at once.
use Rattle.std.specs.Prelude.{◌≡◌, ℕ, Bool, ◌||◌, List, Option, codes, nat_eq, slice_get, option_and_then}
use Rattle.std.specs.Option.{option_map}
use Rattle.std.specs.List.{starts_with}
use Rattle.dj_names.specs.declared.descriptor.Ty.{Ty}
use Rattle.dj_names.specs.trusted.Types.{Name, same_name}
use Rattle.dj_pool.specs.trusted.Pool.{Constant, Integer, Float, Long, Double, Class, Text, Field, Method, InterfaceMethod, Handle, MethodType, Dynamic, constant_at}
use Rattle.dj_model.specs.trusted.Types.{Member, constructor_name, initialiser_name}
use Rattle.dj_model.specs.trusted.Program.{Program}
use Rattle.dj_class_table.specs.Tables.{class_number}
use Rattle.dj_link_rules.specs.trusted.Named.{named_type, class_of_type, named_member, is_static_found}
use Rattle.dj_link_rules.specs.declared.named.Tag.{Tag}
use Rattle.dj_link_rules.specs.declared.named.Tag.TheVariants as tags
use Rattle.dj_link_rules.specs.declared.named.NamedClass.{NamedClass}
use Rattle.dj_link_rules.specs.declared.named.NamedMember.{NamedMember}
use Rattle.dj_link_rules.specs.declared.named.NamedConstant.{NamedConstant}

abbrev pub tag_of : Constant → Tag
tag_of (Integer n) = tags.Short
tag_of (Float bits) = tags.Short
tag_of (Text text) = tags.Short
tag_of (Handle kind member) = tags.Short
tag_of (MethodType desc) = tags.Short
tag_of (Long n) = tags.Long
tag_of (Double bits) = tags.Long
tag_of (Class name) = tags.Class
tag_of (Field class names) = tags.Field
tag_of (Method class names) = tags.Method
tag_of (InterfaceMethod class names) = tags.InterfaceMethod
tag_of (Dynamic bootstrap names) = tags.Dynamic
tag_of k = tags.Other

abbrev pub is_of_library : Name → Bool
is_of_library name = starts_with nat_eq name (codes "java/") || starts_with nat_eq name (codes "javax/")

abbrev pub judged_class : Program → Ty → NamedClass
judged_class program ty = record {
  dims = ty.dims;
  number = class_number program (class_of_type ty);
  of_library = is_of_library (class_of_type ty);
}

abbrev pub judged_member : Program → Constant → Member → NamedMember
judged_member program k m = record {
  is_static = is_static_found program k m;
  is_constructor = same_name m.name constructor_name;
  is_initialiser = same_name m.name initialiser_name;
}

abbrev pub judged : Program → List Constant → Constant → NamedConstant
judged program pool k = record {
  tag = tag_of k;
  class = option_map (judged_class program) (named_type pool k);
  member = option_map (judged_member program k) (named_member pool k);
}

-- what is kept of an index
abbrev pub kept_at : List (Option NamedConstant) → ℕ → Option NamedConstant
kept_at kept index = option_and_then (λ (k : Option NamedConstant). k) (slice_get kept index)

-- what is kept of each index is what its constant names
abbrev pub AreJudged : Program → List Constant → List (Option NamedConstant) → Type 0
AreJudged program pool kept = (index : ℕ) → kept_at kept index ≡ option_map (judged program pool) (constant_at pool index)
