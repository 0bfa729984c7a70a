-- Names of members, with their numbers where there is a directory.
use Rattle.std.proofs.Common.{◌≡◌, ℕ, List, Option, Some, None, get_or, option_and_then, ap, ◌∙◌, Bor}
use Rattle.dj_pool.specs.trusted.Pool.{Constant, text_at}
use Rattle.dj_declarations.specs.Members.{IsDescriptor}
use Rattle.dj_numbering.specs.Links.{Numbering, number_of}
use Rattle.dj_numbering.specs.declared.named.MemberName.{MemberName}
use Rattle.dj_numbering.specs.Named.{IsNumbered}
use Rattle.dj_image.specs.NameNumbers.{AreNumbersBy}
use Rattle.dj_image.proofs.Named.{kept_as}

-- the numbers are those that are kept
pub are_numbered : (directory : Option (Bor Numbering)) (pool : List Constant) (kept : List (Option ℕ)) (name desc : ℕ) (named : MemberName) → AreNumbersBy directory pool kept
    → text_at pool name ≡ Some named.name.now → text_at pool desc ≡ Some named.desc.now → named.name_number ≡ get_or kept name None → named.desc_number ≡ get_or kept desc None → IsDescriptor named.desc.now
    → IsNumbered directory named
are_numbered None pool kept name desc named held name_at desc_at name_is desc_is described = described
are_numbered (Some directory) pool kept name desc named held name_at desc_at name_is desc_is described =
    record {
      name_is = name_is ∙ kept_as pool (number_of directory.now) kept held name ∙ ap (option_and_then (number_of directory.now)) name_at;
      desc_is = desc_is ∙ kept_as pool (number_of directory.now) kept held desc ∙ ap (option_and_then (number_of directory.now)) desc_at;
      described = described;
    }
