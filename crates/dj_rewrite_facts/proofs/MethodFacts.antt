-- What rewriting one method answers: with code, without it, and where the code doesn't fit.
use Rattle.std.proofs.Common.{◌≡◌, ℕ, false, ◌+◌, ◌<◌, ◌≤◌, ◌^◌, List, [], ◌∷◌, length, get_or, Some, None, refl, sym, ap, subst, ◌∙◌, arith, codes, inl, inr}
use Rattle.std.specs.Prelude.{Ok, Err, ⊤}
use Rattle.std.proofs.lemmas.List.Elements.{All-from_recursion}
use Rattle.dj_cursor.specs.trusted.Spelling.{u2}
use Rattle.dj_names.specs.trusted.Types.{Name}
use Rattle.dj_names.specs.trusted.NameReading.{reads_class_name}
use Rattle.dj_names.proofs.TestLaws.{modified_utf8_test-decides}
use Rattle.dj_ops.specs.declared.instruction.Instr.TheVariants as instrs
use Rattle.dj_ops.specs.trusted.Forms.{form_of}
use Rattle.dj_pool.specs.trusted.Pool.{Constant, Utf8, Class, indexed, IsWhole, IsPool}
use Rattle.dj_pool.specs.Scan.{has_foreign}
use Rattle.dj_pool.proofs.Scanned.{plain_is}
use Rattle.dj_class.specs.trusted.ClassFile.{AttributeInfo, MemberInfo}
use Rattle.dj_class.specs.trusted.Code.{CodeInfo, code_info_bytes}
use Rattle.dj_frames.specs.trusted.Written.{frames_bytes}
use Rattle.dj_early_rules.specs.trusted.Malformed.{IsFaultyMethod}
use Rattle.dj_model.specs.trusted.Opcodes.{instruction_of, simple}
use Rattle.dj_declarations.specs.trusted.Files.{type_in}
use Rattle.dj_program.specs.trusted.Naming.{named_by}
use Rattle.dj_program.specs.trusted.Codes.{CodeParts, code_in, IsMethodCode}
use Rattle.dj_program.proofs.Once.{one_parts}
use Rattle.dj_groups.specs.Groups.{Group, groups_of, start}
use Rattle.dj_groups.specs.Grouped.{labels_in_groups}
use Rattle.dj_rewritten.specs.Files.{IsRewrittenCode}
use Rattle.dj_rewritten.specs.TooLarge.{DoesNotFit}
use Rattle.dj_rewrite_code.specs.declared.error.CodeError.TheVariants as errors
use Rattle.dj_rewrite_code.specs.declared.method.CodeBody.{CodeBody}
use Rattle.dj_rewrite_code.specs.Answers.{CanRewrite, RewritesMethod, IsKnownMethod}
use Rattle.dj_rewrite_facts.proofs.StepFacts.{plain, one_return, no_big_object, has_room}

abbrev names : List Constant
names = Utf8 (codes "Code") ∷ Utf8 (codes "(I)V") ∷ Utf8 (codes "LocalVariableTable") ∷ []

abbrev variables : List AttributeInfo
variables = record { name = 3; body = 0 ∷ 0 ∷ [] } ∷ []

-- one `return`
abbrev returning : ℕ → List AttributeInfo → CodeInfo
returning stack attributes = record { max_stack = stack; max_locals = 1; code = 177 ∷ []; table = []; attributes = attributes }

abbrev returns : ℕ → CodeParts
returns stack = record { max_stack = stack; max_locals = 1; labelled = one_return; frames = Some [] }

abbrev method : CodeInfo → MemberInfo
method info = record { flags = 33; name = 1; desc = 2; attributes = record { name = 1; body = code_info_bytes info } ∷ [] }

abbrev abstract_method : List AttributeInfo → MemberInfo
abstract_method attributes = record { flags = 1025; name = 1; desc = 2; attributes = attributes }

abbrev own_code : (stack : ℕ) → stack < 2 ^ 16 → IsMethodCode names (method (returning stack variables)) (returns stack)
unfolding form_of
own_code stack short = record {
  info = returning stack variables;
  own = record {
    body = code_info_bytes (returning stack variables);
    own = (0, omega arith, refl);
    is = record {
      spelled = refl;
      valid = record {
        max_stack = short;
        max_locals = omega arith;
        some_code = omega arith;
        few_code = omega arith;
        row_count = omega arith;
        rows = tt;
        attribute_count = omega arith;
        attributes = (record { name = omega arith; body = omega arith }, tt);
      };
    };
  };
  stack = refl;
  locals = refl;
  labels = record {
    starts = 0 ∷ [];
    cut = record { first = refl; each = (record { later = omega arith; within = omega arith; spelled = record { padding = []; padded = refl; offsets = tt; are = refl }; proper = refl }, tt) };
    targets = (tt, tt);
    rows = refl;
    ranges = tt;
  };
  frames = refl;
}

-- ---- code that fits

groups_are : (stack : ℕ) → groups_of [] (code_in names (returns stack)) ≡ plain
unfolding groups_of code_in instruction_of simple
groups_are stack = refl

fits : (stack : ℕ) → stack ≤ 65533 → DoesNotFit 4 plain (returns stack) → ⊥
unfolding labels_in_groups start
fits stack few (inl big) = no_big_object big
fits stack few (inr (inl deep)) = absurd (omega (arith, few, deep))
fits stack few (inr (inr (inl rows))) = absurd (omega (arith, rows))
fits stack few (inr (inr (inr lacks))) = has_room lacks

method_fits : (stack : ℕ) → stack ≤ 65533 → (parts : CodeParts) → IsMethodCode names (method (returning stack variables)) parts
    → DoesNotFit 4 (groups_of [] (code_in names parts)) parts → ⊥
method_fits stack few parts code such =
    let same : parts ≡ returns stack = one_parts names (method (returning stack variables)) parts (returns stack) refl code (own_code stack (omega (arith, few))) in
    let here = subst (λ (p : CodeParts). DoesNotFit 4 (groups_of [] (code_in names p)) p) same such in
    fits stack few (subst (λ (gs : List Group). DoesNotFit 4 gs (returns stack)) (groups_are stack) here)

code_rewritten : IsRewrittenCode [] names 4 (returning 2 variables) (returns 2) (returning 4 [])
unfolding groups_of code_in instruction_of simple labels_in_groups start form_of
code_rewritten = record {
  laid = record { code = 177 ∷ []; starts = 0 ∷ []; table = [] };
  is_laid = record {
    starts = refl;
    code = refl;
    short = omega arith;
    table = refl;
    labels = record {
      starts = 0 ∷ [];
      cut = record { first = refl; each = (record { later = omega arith; within = omega arith; spelled = record { padding = []; padded = refl; offsets = tt; are = refl }; proper = refl }, tt) };
      targets = (tt, tt);
      rows = refl;
      ranges = tt;
    };
  };
  is = refl;
  valid = record {
    max_stack = omega arith;
    max_locals = omega arith;
    some_code = omega arith;
    few_code = omega arith;
    row_count = omega arith;
    rows = tt;
    attribute_count = omega arith;
    attributes = tt;
  };
}

-- ---- methods with code

abbrev body_of : CodeInfo → CodeBody
body_of info = record { name = 1; body = code_info_bytes info }

rewritten : RewritesMethod [] names 4 (method (returning 2 variables)) (Ok (Some (body_of (returning 4 []))))
unfolding own_code
rewritten = record {
  attribute = record { name = 1; body = code_info_bytes (returning 2 variables) };
  one = refl;
  body = record { parts = returns 2; code = own_code 2 (omega arith); new = returning 4 []; rewritten = code_rewritten; is = refl };
  fits = method_fits 2 (omega arith);
  small = omega arith;
}

-- max_stack is two more, as the second byte says
stack_as_it_was : RewritesMethod [] names 4 (method (returning 2 variables)) (Ok (Some (body_of (returning 2 [])))) → ⊥
stack_as_it_was has =
    let b = has.body in
    let same : b.parts ≡ returns 2 = one_parts names (method (returning 2 variables)) b.parts (returns 2) refl b.code (own_code 2 (omega arith)) in
    let old : 2 ≡ b.code.info.max_stack = sym (ap (λ (p : CodeParts). p.max_stack) same) ∙ b.code.stack in
    let new : b.new.max_stack ≡ b.code.info.max_stack + 2 = ap (λ (i : CodeInfo). i.max_stack) b.rewritten.is in
    let four : b.new.max_stack ≡ 4 = omega (arith, old, new) in
    let e : 2 ≡ 4 = ap (λ (a : AttributeInfo). get_or a.body 1 0) b.is ∙ ap (λ (n : ℕ). get_or (u2 n) 1 0) four in
    absurd (omega (arith, e))

abbrev first_name : List AttributeInfo → ℕ
first_name [] = 0
first_name (a ∷ more) = a.name

-- the attribute keeps its name
other_name : RewritesMethod [] names 4 (method (returning 2 variables)) (Ok (Some (record { name = 3; body = code_info_bytes (returning 4 []) }))) → ⊥
other_name has =
    let e : 3 ≡ has.attribute.name = ap (λ (a : AttributeInfo). a.name) has.body.is in
    let f : 1 ≡ has.attribute.name = ap first_name has.one in
    absurd (omega (arith, e, f))

code_left_out : RewritesMethod [] names 4 (method (returning 2 variables)) (Ok None) → ⊥
code_left_out none = absurd cc

-- ---- methods without code

no_code : RewritesMethod [] names 4 (abstract_method variables) (Ok None)
no_code = refl

no_body_made : (code : CodeBody) → RewritesMethod [] names 4 (abstract_method variables) (Ok (Some code)) → ⊥
no_body_made code has = let none : [] ≡ has.attribute ∷ [] = has.one in absurd cc

not_large : RewritesMethod [] names 4 (abstract_method variables) (Err errors.TooLarge) → ⊥
not_large large = absurd (omega (arith, large.code.own.own.1))

-- ---- methods that are too large

deep : RewritesMethod [] names 4 (method (returning 65534 variables)) (Err errors.TooLarge)
deep = record { parts = returns 65534; code = own_code 65534 (omega arith); such = inr (inl (omega arith)) }

greatest_not_large : RewritesMethod [] names 4 (method (returning 65533 variables)) (Err errors.TooLarge) → ⊥
greatest_not_large large = method_fits 65533 (omega arith) large.parts large.code large.such

deep_not_written : (code : CodeBody) → RewritesMethod [] names 4 (method (returning 65534 variables)) (Ok (Some code)) → ⊥
deep_not_written code has = has.fits (returns 65534) (own_code 65534 (omega arith)) (inr (inl (omega arith)))

-- ---- what is known of a method

-- without code nothing has to be known of it but that it may lack it
abstract_whole : IsFaultyMethod names (abstract_method variables) → ⊥
abstract_whole (inl lacks) = lacks.0 (inr (λ e. absurd cc))
abstract_whole (inr (inl needless)) = needless.1 refl
abstract_whole (inr (inr (body, (k, less, e), faulty))) = absurd (omega (arith, less))

abstract_known : IsKnownMethod [] names (abstract_method variables)
abstract_known = record {
  whole = abstract_whole;
  news = λ parts code. absurd (omega (arith, code.own.own.1));
  short = (omega arith, tt);
}

lacks_code : IsKnownMethod [] names (record { flags = 1; name = 1; desc = 2; attributes = [] }) → ⊥
lacks_code known = known.whole (inl (λ bodiless. elim bodiless [ inl n ↦ n refl | inr a ↦ a refl ], λ one. absurd cc))

long_attribute : (body : List ℕ) → length body ≡ 268435456 → IsKnownMethod [] names (abstract_method (record { name = 3; body = body } ∷ [])) → ⊥
long_attribute body long known = absurd (omega (arith, long, known.short.0))

-- the class of an object that is made is one of the program
abbrev making : CodeParts
making = record { max_stack = 1; max_locals = 0; labelled = record { code = instrs.Class 187 2 ∷ instrs.Simple 177 ∷ []; ranges = [] }; frames = Some [] }

abbrev class_names : List Constant
class_names = Utf8 (codes "A") ∷ Class 1 ∷ []

unknown_class : (m : MemberInfo) → IsMethodCode class_names m making → IsKnownMethod [] class_names m → ⊥
unfolding code_in instruction_of simple named_by type_in reads_class_name
unknown_class m code known = let there = (known.news making code).0.2 in absurd cc

-- ---- what is known of code

text_is : (text : Name) → length text < 2 ^ 16 → has_foreign text ≡ false → IsWhole (Utf8 text) × ⊤
text_is text short e = ((short, (modified_utf8_test-decides text).0 (plain_is text e)), tt)

names_valid : IsPool names
unfolding indexed
names_valid = record {
  constants = names;
  indexes = refl;
  each = (text_is (codes "Code") (omega arith) refl, (text_is (codes "(I)V") (omega arith) refl, (text_is (codes "LocalVariableTable") (omega arith) refl, tt)));
  count = omega arith;
}

can_rewrite : CanRewrite [] names 65510 (returning 2 variables) (returns 2)
unfolding groups_of code_in instruction_of simple start form_of frames_bytes
can_rewrite = record {
  first_fits = omega arith;
  code = record { valid = names_valid; well = record { proper = (refl, tt); targets = (tt, tt); ranges = tt }; few = omega arith; news = (tt, tt) };
  info_valid = (own_code 2 (omega arith)).own.is.valid;
  stack = refl;
  some = omega arith;
  catches = tt;
  old = 0 ∷ [];
  old_count = refl;
  frames = record {
    starts_rise = λ k less. absurd (omega (arith, less));
    addresses = All-from_recursion (λ (address : ℕ). address < 2 ^ 16) (0 ∷ []) (omega arith, tt);
    count = omega arith;
    frames_rise = λ i j d less within. absurd (omega (arith, within));
    each = λ k d less. absurd (omega (arith, less));
  };
  one_map = omega arith;
  short = λ addresses. omega arith;
}

no_indexes : (info : CodeInfo) (parts : CodeParts) → CanRewrite [] names 65511 info parts → ⊥
no_indexes info parts can = absurd (omega (arith, can.first_fits))

other_stack : (info : CodeInfo) → info.max_stack ≡ 3 → CanRewrite [] names 4 info (returns 2) → ⊥
other_stack info three can = let e : 2 ≡ info.max_stack = can.stack in absurd (omega (arith, three, e))
