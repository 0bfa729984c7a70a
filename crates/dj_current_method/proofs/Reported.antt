-- What the readers of an image say of the method of a number.
use Rattle.std.proofs.Common.{◌≡◌, ℕ, Bool, true, false, List, Some, None, refl, sym, ap, ◌∙◌, arith, codes, Bor}
use Rattle.std.proofs.lemmas.Bool.{and_parts}
use Rattle.dj_names.specs.declared.descriptor.Desc.{Desc}
use Rattle.dj_names.specs.declared.native.NativeId.{NativeId}
use Rattle.dj_names.specs.trusted.Types.{Name, same_name, same_desc}
use Rattle.dj_names.specs.trusted.Descriptors.{desc_text}
use Rattle.dj_model.specs.trusted.Types.{Declared, initialiser_name, no_parameters}
use Rattle.dj_model.specs.trusted.Program.{Body, Abstract, Native, Runs, body_code, is_named, is_initialiser}
use Rattle.dj_model.specs.Sound.{IsProgram}
use Rattle.dj_declarations.specs.trusted.Files.{desc_in}
use Rattle.dj_declarations.proofs.DescTests.{same_name_is, same_name_itself, same_desc_is, same_desc_itself, desc_in_is}
use Rattle.dj_program.specs.declared.code.MethodCode.{MethodCode}
use Rattle.dj_numbering.specs.declared.types.MemberOf.{MemberOf}
use Rattle.dj_numbering.specs.Members.{IsMethodThere}
use Rattle.dj_image.specs.declared.image.Body.TheVariants as variants
use Rattle.dj_image.specs.Imaged.{Imaged, program_of, typed_of}
use Rattle.dj_image.specs.Codes.{SaysBody, IsBodyAt}
use Rattle.dj_current_method.specs.Activations.{declared_at}
use Rattle.dj_current_method.specs.Reported.{IsCodeOf, SaysCode, IsInitialiserOf}
use Rattle.dj_current_method.proofs.Numbers.{declared_there, code_of_number, initialiser_of_number}

-- ---- code

pub code_reported : (imaged : Imaged) → IsProgram (program_of imaged) → (method : ℕ) (code : Bor MethodCode) → IsBodyAt imaged method (variants.Code code)
    → SaysCode imaged method (Some code.now)
code_reported imaged formed method code at = by at.found.method.body refl at.says where
  by : (body : Body) → at.found.method.body ≡ body → SaysBody imaged method body (variants.Code code) → IsCodeOf imaged method code.now
  by Abstract e t = absurd t
  by (Native id) e t = absurd t
  by (Runs own) e t = record {
    pool = t.0;
    own = t.1;
    is = code_of_number (program_of imaged) formed method at.found at.there ∙ (ap body_code e ∙ ap Some t.2);
  }

pub native_reported : (imaged : Imaged) → IsProgram (program_of imaged) → (method : ℕ) (id : NativeId) → IsBodyAt imaged method (variants.Native id) → SaysCode imaged method None
native_reported imaged formed method id at = by at.found.method.body refl at.says where
  by : (body : Body) → at.found.method.body ≡ body → SaysBody imaged method body (variants.Native id) → SaysCode imaged method None
  by Abstract e t = absurd t
  by (Native other) e t = code_of_number (program_of imaged) formed method at.found at.there ∙ ap body_code e
  by (Runs own) e t = absurd t

pub abstract_reported : (imaged : Imaged) → IsProgram (program_of imaged) → (method : ℕ) → IsBodyAt imaged method variants.Abstract → SaysCode imaged method None
abstract_reported imaged formed method at = by at.found.method.body refl at.says where
  by : (body : Body) → at.found.method.body ≡ body → SaysBody imaged method body variants.Abstract → SaysCode imaged method None
  by Abstract e t = code_of_number (program_of imaged) formed method at.found at.there ∙ ap body_code e
  by (Native other) e t = absurd t
  by (Runs own) e t = absurd t

-- ---- initialisers

-- the texts of an initialiser's name and descriptor
abbrev pub AreInitialisers : Name → List ℕ → Type 0
AreInitialisers name desc = (name ≡ codes "<clinit>") × (desc ≡ codes "()V")

none_spelled : desc_in (codes "()V") ≡ no_parameters
none_spelled = desc_in_is (codes "()V") no_parameters (record { text_is = refl; valid = (tt, tt, omega arith) })

named_so : (name : Name) (desc : Desc) → name ≡ initialiser_name → desc ≡ no_parameters → is_named initialiser_name no_parameters name desc ≡ true
named_so name desc n d = rw (same_name_itself name initialiser_name n, ap (λ (x : Desc). same_desc x no_parameters) d ∙ same_desc_itself no_parameters) refl

-- a method of an initialiser's name and descriptor
pub initialiser_reported : (imaged : Imaged) (method : ℕ) (reported : MemberOf) → IsMethodThere (typed_of imaged) method reported → AreInitialisers reported.name.now reported.desc.now
    → IsInitialiserOf imaged method reported.class
initialiser_reported imaged method reported there texts =
    let desc : there.found.method.desc ≡ no_parameters = sym (desc_in_is reported.desc.now there.found.method.desc there.desc) ∙ (ap desc_in texts.1 ∙ none_spelled) in
    record {
      is = initialiser_of_number (program_of imaged) method there.found there.there ∙ named_so there.found.method.name there.found.method.desc (sym there.name ∙ texts.0) desc;
      class_is = there.class ∙ ap (λ (d : Declared). Some d.class) (sym (declared_there (program_of imaged) method there.found there.there));
    }

-- and one of another
pub no_initialiser_reported : (imaged : Imaged) (method : ℕ) (reported : MemberOf) → IsMethodThere (typed_of imaged) method reported → (AreInitialisers reported.name.now reported.desc.now → ⊥)
    → is_initialiser (declared_at (program_of imaged) method) ≡ false
no_initialiser_reported imaged method reported there other =
    initialiser_of_number (program_of imaged) method there.found there.there ∙ by (is_named initialiser_name no_parameters there.found.method.name there.found.method.desc) refl where
      by : (b : Bool) → is_named initialiser_name no_parameters there.found.method.name there.found.method.desc ≡ b → b ≡ false
      by false e = refl
      by true e =
          let parts = and_parts (same_name there.found.method.name initialiser_name) (same_desc there.found.method.desc no_parameters) e in
          absurd (other (
            there.name ∙ same_name_is there.found.method.name initialiser_name parts.0,
            there.desc.text_is ∙ ap desc_text (same_desc_is there.found.method.desc no_parameters parts.1),
          ))
