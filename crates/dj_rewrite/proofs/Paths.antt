-- The line of a class: the path of its file.
use Rattle.std.proofs.Common.{◌≡◌, ℕ, List, [], ◌++◌, Option, Some, None, sym, ap, subst, ◌∙◌, codes, unwrap_or, option_and_then}
use Rattle.std.specs.Char.Utf16.{utf16_lossy_chars}
use Rattle.std.specs.Str.{encode_utf8_all}
use Rattle.std.proofs.lemmas.Option.{none-some}
use Rattle.dj_names.specs.trusted.Types.{Name}
use Rattle.dj_names.specs.trusted.Names.{IsClassName}
use Rattle.dj_names.specs.trusted.ModifiedUtf8.{IsModifiedUtf8}
use Rattle.dj_pool.specs.trusted.Pool.{Constant, constant_at, text_at, class_text_of, class_name_at, IsPool}
use Rattle.dj_class.specs.trusted.ClassFile.{ClassFile, IsValid}
use Rattle.dj_class.specs.trusted.Names.{this_name}
use Rattle.dj_shape.specs.Rules.{IsPathOf}
use Rattle.dj_rename.proofs.PoolTexts.{utf8_at}
use Rattle.dj_rewritten.proofs.Kept.{there}
use Rattle.dj_image.proofs.UnitFacts.{spelled_in}
use Rattle.dj_rewrite.specs.Rule.{file_path}

name_modified : (pool : List Constant) → IsPool pool → (index : ℕ) (name : Name) → class_name_at pool index ≡ Some name → IsModifiedUtf8 name
name_modified pool valid index name e = go (option_and_then class_text_of (constant_at pool index)) e where
  go : (o : Option ℕ) → option_and_then (text_at pool) o ≡ Some name → IsModifiedUtf8 name
  go None e = absurd (none-some name e)
  go (Some text) e = utf8_at pool valid text name e

pub this_modified : (c : ClassFile) → IsValid c → IsModifiedUtf8 (this_name c)
this_modified c valid =
    let t = there IsClassName (class_name_at c.pool c.this_class) valid.this_class in
    subst IsModifiedUtf8 (sym (ap (λ (o : Option Name). unwrap_or o []) t.is)) (name_modified c.pool valid.pool c.this_class t.value t.is)

pub path_is : (path name : Name) → IsPathOf path name → path ≡ file_path name
path_is path name p = p.is ∙ ap (λ (us : List ℕ). encode_utf8_all (utf16_lossy_chars us) ++ codes ".class") (spelled_in name p.units p.spelled)
