-- Names of members, with their numbers where there is a directory.
use Rattle.std.proofs.Common.{◌≡◌, ℕ, List, Option, Some, None, ap, ◌∙◌, Bor}
use Rattle.std.specs.Prelude.{IfSome, option_and_then}
use Rattle.dj_pool.specs.trusted.Pool.{Constant, text_at}
use Rattle.dj_declarations.specs.Members.{IsDescriptor}
use Rattle.dj_member_index.specs.Numberings.{Numbering, number_of}
use Rattle.dj_link_rules.specs.declared.name_numbers.NumberedName.{NumberedName}
use Rattle.dj_link_rules.specs.Constants.{number_at, IsNumbered}

-- the numbers are those of the texts of two indexes
abbrev pub AreNumbersAt : List Constant → ℕ → ℕ → NumberedName → Option (Bor Numbering) → Type 0
AreNumbersAt pool name desc named directory =
    IfSome directory (λ d. (named.name_number ≡ number_at d.now pool name) × (named.desc_number ≡ number_at d.now pool desc))

pub are_numbered : (directory : Option (Bor Numbering)) (pool : List Constant) (name desc : ℕ) (named : NumberedName)
    → text_at pool name ≡ Some named.name.now → text_at pool desc ≡ Some named.desc.now → IsDescriptor named.desc.now
    → AreNumbersAt pool name desc named directory → IsNumbered directory named
are_numbered None pool name desc named name_is desc_is described are = described
are_numbered (Some directory) pool name desc named name_is desc_is described are =
    record {
      name_is = are.0 ∙ ap (option_and_then (number_of directory.now)) name_is;
      desc_is = are.1 ∙ ap (option_and_then (number_of directory.now)) desc_is;
      described = described;
    }
