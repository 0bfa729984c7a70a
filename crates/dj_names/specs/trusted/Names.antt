-- Names of classes, fields and methods as the bytes of their texts (JVMS 4.2).
use Rattle.std.specs.Prelude.{◌≡◌, ◌≢◌, ℕ, ◌⊎◌, List, [], codes}
use Rattle.std.specs.List.{AllByRecursion, join_with_byte}

-- JVMS 4.2.2: a byte that may be in an unqualified name is none of  .  ;  [  /
pub record IsNameByte (b : ℕ) : Type 0 where
  pub not_dot : b ≢ 46
  pub not_semicolon : b ≢ 59
  pub not_bracket : b ≢ 91
  pub not_slash : b ≢ 47

pub record IsUnqualifiedName (text : List ℕ) : Type 0 where
  pub some : text ≢ []
  pub bytes : AllByRecursion IsNameByte text

-- JVMS 4.2.2: a method's name has no  <  or  >  unless it is one of the two special names
abbrev pub HasNoAngle : List ℕ → Type 0
HasNoAngle text = AllByRecursion (λ b. (b ≢ 60) × (b ≢ 62)) text

pub record IsMethodName (text : List ℕ) : Type 0 where
  pub unqualified : IsUnqualifiedName text
  pub angles : (text ≡ codes "<init>") ⊎ ((text ≡ codes "<clinit>") ⊎ HasNoAngle text)

-- JVMS 4.2.1: unqualified names, separated by slashes
pub record IsClassName (text : List ℕ) : Type 0 where
  pub parts : List (List ℕ)
  pub some : parts ≢ []
  pub names : AllByRecursion IsUnqualifiedName parts
  pub joined : text ≡ join_with_byte 47 parts
