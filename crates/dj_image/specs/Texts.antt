-- Used by the code alone: texts that have numbers, in the order of their units.
use Rattle.std.specs.Prelude.{ℕ, List, ◌++◌, map, Option, Some, None}
use Rattle.std.specs.Global.{Vec}
use Rattle.std.specs.Ordering.{nat_cmp}
use Rattle.std.specs.Cmp.Lexicographic.{slice_cmp}
use Rattle.std.specs.List.{flat_map, filter_map}
use Rattle.std.specs.List.Sorted.{IsStrictlySortedBy}
use Rattle.std.specs.BTreeSet.{BTreeSet}
use Rattle.dj_pool.specs.trusted.Pool.{Constant, IsPool}
use Rattle.dj_declarations.specs.trusted.Files.{name_in}
use Rattle.dj_program.specs.trusted.Naming.{units_in}
use Rattle.dj_image.specs.declared.parts.ClassParts.{ClassParts}
use Rattle.dj_image.specs.declared.parts.FieldValue.{FieldValue}
use Rattle.dj_image.specs.declared.parts.FieldValue.TheVariants as values
use Rattle.dj_image.specs.Uses.{class_uses, pushed_text, SameMembers}

-- what the instructions of a class push
abbrev pub class_texts : ClassParts → List (List ℕ)
class_texts parts = filter_map (pushed_text parts.pool) (class_uses parts)

-- that with which a field of a class with these constants begins
abbrev pub value_text : List Constant → Option FieldValue → Option (List ℕ)
value_text pool (Some (values.Text index)) = Some (units_in (name_in pool index))
value_text pool value = None

abbrev pub value_texts : List Constant → List (Option FieldValue) → List (List ℕ)
value_texts pool values = filter_map (value_text pool) values

abbrev pub key_items : Vec ℕ → List ℕ
key_items key = key.items

-- the set has exactly these texts
abbrev pub AreTexts : List (List ℕ) → BTreeSet (Vec ℕ) → Type 0
AreTexts all texts = SameMembers (map key_items texts.keys) all

abbrev pub texts_in : ClassParts → List (List ℕ)
texts_in p = class_texts p ++ value_texts p.pool p.values.items

abbrev pub texts_of : List ClassParts → List (List ℕ)
texts_of parts = flat_map texts_in parts

abbrev pub RiseStrictly : List (List ℕ) → Type 0
RiseStrictly texts = IsStrictlySortedBy (slice_cmp nat_cmp) texts

abbrev pub HasPool : ClassParts → Type 0
HasPool parts = IsPool parts.pool
